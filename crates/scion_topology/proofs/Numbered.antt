-- No interface of a network has the number 0.
use Rattle.std.proofs.Common.{◌≡◌, ◌≢◌, ℕ, Bool, false, eqb, List, [], ◌∷◌, Some, None, Ok, refl, find}
use Rattle.std.specs.List.{list_any}
use Rattle.std.proofs.lemmas.Bool.{or_parts}
use Rattle.scion_topology.specs.declared.entry.IfEntry.{IfEntry}
use Rattle.scion_topology.specs.declared.fault.TopologyFault.TheVariants as faults
use Rattle.scion_topology.specs.Network.{Network, table_of, interface_in}
use Rattle.scion_topology.specs.Topology.{IsNetwork, known_as, interface_at}
use Rattle.refusal.proofs.Steps.{bind_ok, ok_or_ok}
use Rattle.scion_topology.proofs.Seeing.{IsSeen-known}

find_none : {A : Type 0} (p : A → Bool) (xs : List A) → list_any p xs ≡ false → find p xs ≡ None
find_none p [] none = refl
find_none p (x ∷ xs) none = let parts = or_parts (p x) (list_any p xs) none in rw parts.0 (find_none p xs parts.1)

pub no_zero : (n : Network) (ia number : ℕ) (entry : IfEntry) → IsNetwork n → interface_at n ia number ≡ Ok entry → number ≢ 0
no_zero n ia number entry network found zero =
    let step = bind_ok (known_as n ia) _ entry found in
    let value_of_index = IsSeen-known n ia step.0 network step.1 in
    let some : interface_in (table_of ia n.links) number ≡ Some entry = ok_or_ok _ faults.NoLink entry step.2 in
    let none = find_none (λ (e : IfEntry). eqb e.number 0) (table_of ia n.links) value_of_index.numbered in
    let clash : None ≡ Some entry = rw (← none, ← zero) some in
    absurd cc
