-- One set more.
use Rattle.std.proofs.Common.{◌≡◌, ℕ, suc, ◌+◌, ◌++◌, ◌∷◌, [], Bool, List, map, sym, ap, ◌∙◌, arith}
use Rattle.std.specs.Prelude.{nat_eq}
use Rattle.std.specs.HashSet.{contains}
use Rattle.std.proofs.lemmas.List.{map-append}
use Rattle.network_view.specs.Extent.{with_neighbours, within}
use Rattle.network_view.specs.Layers.{nearest}
use Rattle.network_view.proofs.layers.nearest.Goals as goal

pub loop-farther-preserved : goal.loop-farther-preserved
loop-farther-preserved c =
    let links = c.args.links.now in
    let these : ℕ → Bool = contains nat_eq c.args.these in
    let k = c.loop-farther._farther in
    let next : k + 1 ≡ suc k = omega arith in
    record {
      sets = ap (map (contains nat_eq)) c.in_ok-push.ensures.items
          ∙ map-append (contains nat_eq) c.loop-farther.sets.items (c.loop-farther.near ∷ [])
          ∙ ap (λ (front : List (ℕ → Bool)). front ++ contains nat_eq c.loop-farther.near ∷ []) c.loop-farther.invariant.sets
          ∙ ap (λ (near : ℕ → Bool). nearest links these k ++ near ∷ []) c.loop-farther.invariant.near
          ∙ sym (ap (nearest links these) next);
      near = c.in_ok-next.ensures ∙ ap (with_neighbours links) c.loop-farther.invariant.near
          ∙ sym (ap (λ (hops : ℕ). within links hops these) next);
    }
