-- The picture of a part of a network that has what is wanted.
use Rattle.std.proofs.Common.{◌≡◌, ◌∙◌, ap, sym, List, ℕ, Bool, true, if◌then◌else◌, Option, Result, Ok, Err}
use Rattle.scion_topology.specs.declared.fault.TopologyFault.TheVariants.{UnknownAs}
use Rattle.scion_topology.specs.Network.{Network}
use Rattle.policy_expr.specs.declared.hop.WalkHop.{WalkHop}
use Rattle.network_core.specs.declared.fault.EventFault.TheVariants.{Topology}
use Rattle.network_core.specs.Value.{NetValue}
use Rattle.network_view.specs.declared.extent.Extent.{Extent}
use Rattle.network_view.specs.declared.marks.Router.{Router}
use Rattle.network_view.specs.Dot.{dot_of}
use Rattle.network_view.specs.Extent.{has_central}
use Rattle.view_words.specs.declared.view.Subject.{Subject}
use Rattle.views.specs.Network.{marks_in, picture_of, picture_with}

pub drawn : (net : NetValue) (extent : Extent) (subject : Option Subject) (network : Network)
    (hops : List WalkHop) (at : Option Router) (text : List ℕ) → network ≡ net.network
    → has_central extent.centre network.ases ≡ true → marks_in net subject ≡ Ok (hops, at)
    → text ≡ dot_of network extent hops at → Ok text ≡ picture_of net extent subject
drawn net extent subject network hops at text same central marked is =
    ap Ok is
    ∙ ap (picture_with network extent) (sym marked)
    ∙ ap (λ (there : Bool). if there then picture_with network extent (marks_in net subject) else Err (Topology UnknownAs)) (sym central)
    ∙ ap (λ (n : Network). if has_central extent.centre n.ases then picture_with n extent (marks_in net subject) else Err (Topology UnknownAs)) same
