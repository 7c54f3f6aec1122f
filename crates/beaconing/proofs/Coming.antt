-- The link by which a beacon comes to an AS is up, seen from the AS that sent it.
use Rattle.std.proofs.Common.{◌≡◌, ℕ, true, Ok, sym, ap, ◌∙◌, inl, inr}
use Rattle.refusal.proofs.Steps.{ok_is}
use Rattle.scion_topology.specs.declared.entry.IfEntry.{IfEntry}
use Rattle.scion_topology.specs.declared.network.End.{End}
use Rattle.scion_topology.specs.Network.{Network}
use Rattle.scion_topology.specs.Topology.{IsNetwork, interface_at, far_end_in}
use Rattle.scion_topology.specs.Ends.{IsAt, IsUp, at_a, at_b}
use Rattle.scion_topology.proofs.Shown.{are_joined, shows_both_ends}
use Rattle.path_segment.specs.Chain.{Chain}
use Rattle.beaconing.specs.Calls.{come_to}
use Rattle.beaconing.specs.Issued.{ComesOver}
use Rattle.beaconing.proofs.Issuing.{Comes-come_to}

-- an interface that an end of a link is
seen_at : (n : Network) (end : End) (ia number : ℕ) (entry : IfEntry) → IsAt end ia number
    → interface_at n end.ia end.number ≡ Ok entry → interface_at n ia number ≡ Ok entry
seen_at n end ia number entry at shown =
    sym (ap (λ (x : ℕ). interface_at n x end.number) at.0 ∙ ap (interface_at n ia) at.1) ∙ shown

-- both ends of a link are up where one is
up_at_near : (n : Network) (ia number far_ia far_number : ℕ) (into : IfEntry) → IsNetwork n
    → far_end_in n ia number ≡ Ok (far_ia, far_number)
    → interface_at n far_ia far_number ≡ Ok into → into.up ≡ true → IsUp n ia number true
up_at_near n ia number far_ia far_number into network leads shown up =
    let joined = are_joined n ia number far_ia far_number network leads in
    let both = shows_both_ends n joined.link network joined.listed in
    elim joined.ends [
      | inl ways ↦ (
          let far = seen_at n joined.link.b far_ia far_number (at_b joined.link) ways.1 both.b.shown in
          let same : at_b joined.link ≡ into = ok_is (at_b joined.link) into (sym far ∙ shown) in
          record {
            entry = at_a joined.link;
            shown = seen_at n joined.link.a ia number (at_a joined.link) ways.0 both.a.shown;
            is = ap (λ (e : IfEntry). e.up) same ∙ up;
          })
      | inr ways ↦ (
          let far = seen_at n joined.link.a far_ia far_number (at_a joined.link) ways.1 both.a.shown in
          let same : at_a joined.link ≡ into = ok_is (at_a joined.link) into (sym far ∙ shown) in
          record {
            entry = at_b joined.link;
            shown = seen_at n joined.link.b ia number (at_b joined.link) ways.0 both.b.shown;
            is = ap (λ (e : IfEntry). e.up) same ∙ up;
          })
    ]

pub comes_over : (n : Network) (b : Chain) (ia ingress : ℕ) → IsNetwork n
    → come_to n b ia ≡ Ok ingress → ComesOver n b ia ingress
comes_over n b ia ingress network found =
    let comes = Comes-come_to n b ia ingress network found in
    let last = comes.last in
    record {
      last = last;
      is_last = comes.is_last;
      leads = comes.leads;
      up = up_at_near n last.ia last.cons_egress ia ingress comes.entry network comes.leads comes.shown comes.up;
    }
