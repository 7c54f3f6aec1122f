-- One AS more of the front.
use Rattle.std.proofs.Common.{◌≡◌, ℕ, ◌+◌, ◌<◌, Bool, List, [], ◌∷◌, ◌++◌, cond, get_or, length, map, take, sym, ap, ◌∙◌}
use Rattle.std.specs.Prelude.{◌&&◌, filter}
use Rattle.std.proofs.lemmas.List.{map-append, take_more}
use Rattle.std.proofs.lemmas.List.Elements.{filter-append}
use Rattle.std.proofs.lemmas.List.Folds.{list_all-map}
use Rattle.scion_topology.specs.declared.network.AsEntry.{AsEntry}
use Rattle.path_report.specs.declared.open_walk.OpenWalk.{OpenWalk}
use Rattle.path_report.specs.declared.pair.AsPair.{AsPair}
use Rattle.path_report.specs.Pair.{addresses, is_between}
use Rattle.path_report.specs.Paths.{passes}
use Rattle.path_report.specs.inner.Needed.{if_through, is_through}

-- an AS more, if it is neither of the pair and all walks pass it
pub through_next : (pair : AsPair) (walks : List OpenWalk) (ases : List AsEntry) (i : ℕ) (one : AsEntry)
    → i < length ases → one ≡ get_or ases i one
    → filter (is_through pair (map (λ (walk : OpenWalk). walk.hops.now) walks)) (addresses (take (i + 1) ases))
    ≡ filter (is_through pair (map (λ (walk : OpenWalk). walk.hops.now) walks)) (addresses (take i ases)) ++ if_through pair walks one.ia
through_next pair walks ases i one within is =
    let test : ℕ → Bool = is_through pair (map (λ (walk : OpenWalk). walk.hops.now) walks) in
    ap (λ (front : List AsEntry). filter test (addresses front)) (take_more ases i one within
    ∙ ap (λ (it : AsEntry). take i ases ++ it ∷ []) (sym is))
    ∙ ap (filter test) (map-append (λ (one : AsEntry). one.ia) (take i ases) (one ∷ []))
    ∙ filter-append test (addresses (take i ases)) (one.ia ∷ [])
    ∙ ap (λ (b : Bool). filter test (addresses (take i ases)) ++ cond (is_between pair one.ia && b) (one.ia ∷ []) [])
    (list_all-map (λ walk. passes walk one.ia) (λ (walk : OpenWalk). walk.hops.now) walks)
