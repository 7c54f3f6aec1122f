-- The links that all of some walks cross, and the ASes that all of them pass.
use Rattle.std.specs.Prelude.{ℕ, ◌&&◌, if◌then◌else◌, Bool, List, [], ◌∷◌}
use Rattle.std.specs.List.{list_all}
use Rattle.policy_expr.specs.declared.hop.WalkHop.{WalkHop}
use Rattle.scion_topology.specs.declared.network.Link.{Link}
use Rattle.path_report.specs.declared.open_walk.OpenWalk.{OpenWalk}
use Rattle.path_report.specs.declared.pair.AsPair.{AsPair}
use Rattle.path_report.specs.Pair.{is_between}
use Rattle.path_report.specs.Paths.{crosses, passes}

-- whether the AS is neither of the pair, and all of the walks pass it
abbrev pub is_through : AsPair → List (List WalkHop) → (ia : ℕ) → Bool
is_through pair walks ia = is_between pair ia && list_all (λ walk. passes walk ia) walks

-- this AS, if it is
abbrev pub if_through : AsPair → List OpenWalk → (ia : ℕ) → List ℕ
if_through pair walks ia =
    if is_between pair ia && list_all (λ walk. passes walk.hops.now ia) walks then ia ∷ [] else []

-- whether all of the walks cross the link
abbrev pub is_crossed : List (List WalkHop) → Link → Bool
is_crossed walks link = list_all (λ walk. crosses walk link) walks
