-- One AS more, and one link more.
use Rattle.std.proofs.Common.{◌≡◌, ℕ, ◌+◌, ◌<◌, Bool, true, false, List, get_or, length, take, refl, sym, ap, ◌∙◌}
use Rattle.std.specs.Prelude.{◌||◌, ◌&&◌, ◌==◌}
use Rattle.std.specs.List.{list_any}
use Rattle.std.proofs.lemmas.List.Folds.{list_any_more}
use Rattle.scion_topology.specs.declared.network.AsEntry.{AsEntry}
use Rattle.scion_topology.specs.declared.network.Link.{Link}
use Rattle.network_view.specs.declared.extent.Centre.{Centre}
use Rattle.network_view.specs.Extent.{central, is_central, joins_to, with_neighbours}

or_assoc : (a b c : Bool) → ((a || b) || c) ≡ (a || (b || c))
or_assoc true b c = refl
or_assoc false b c = refl

-- an AS more of the front
pub central_next : (centre : Centre) (ases : List AsEntry) (i : ℕ) (one : AsEntry) (q : ℕ) → i < length ases
    → one ≡ get_or ases i one
    → central centre (take (i + 1) ases) q ≡ (central centre (take i ases) q || (is_central centre one && (one.ia == q)))
central_next centre ases i one q within is =
    list_any_more (λ one. is_central centre one && (one.ia == q)) ases i one within
    ∙ ap (λ (it : AsEntry). central centre (take i ases) q || (is_central centre it && (it.ia == q))) (sym is)

-- a link more of the front
pub neighbours_next : (links : List Link) (these : ℕ → Bool) (i : ℕ) (link : Link) (q : ℕ) → i < length links
    → link ≡ get_or links i link
    → with_neighbours (take (i + 1) links) these q
    ≡ ((with_neighbours (take i links) these q || (these link.a.ia && (link.b.ia == q)))
    || (these link.b.ia && (link.a.ia == q)))
neighbours_next links these i link q within is =
    ap (λ (b : Bool). these q || b) (list_any_more (joins_to these q) links i link within
    ∙ ap (λ (it : Link). list_any (joins_to these q) (take i links) || joins_to these q it) (sym is))
    ∙ sym (or_assoc (these q) (list_any (joins_to these q) (take i links)) (joins_to these q link))
    ∙ sym (or_assoc (with_neighbours (take i links) these q) (these link.a.ia && (link.b.ia == q)) (these link.b.ia && (link.a.ia == q)))
