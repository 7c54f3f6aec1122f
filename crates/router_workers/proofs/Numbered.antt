-- The place of an AS in a topology is below the number of its ASes.
use Rattle.std.proofs.Common.{◌≡◌, ℕ, ◌≤◌, Bool, List, [], ◌∷◌, length, Ok, ap, arith, inl, inr}
use Rattle.std.specs.Prelude.{◌==◌}
use Rattle.std.specs.List.{position_or_len}
use Rattle.std.proofs.lemmas.Bool.{cases_Bool}
use Rattle.refusal.proofs.Steps.{bind_ok, ok_is}
use Rattle.scion_topology.specs.declared.network.AsEntry.{AsEntry}
use Rattle.scion_topology.specs.declared.network.AsInfo.{AsInfo}
use Rattle.scion_topology.specs.Network.{Network}
use Rattle.scion_topology.specs.Rules.{IsNetwork}
use Rattle.scion_topology.specs.Topology.{known_as, info_in}

pub position_within : {X : Type 0} (p : X → Bool) (xs : List X)
    → position_or_len p xs ≤ length xs
position_within p [] = omega arith
position_within p (x ∷ xs) = elim (cases_Bool (p x)) [
  | inl passes ↦ rw passes (omega arith)
  | inr other ↦ rw other (let rest = position_within p xs in omega arith)
]

-- so it is at most 1,024
pub position_small : (n : Network) (ia : ℕ) (info : AsInfo) → IsNetwork n
    → info_in n ia ≡ Ok info → info.position ≤ 1024
unfolding info_in
position_small n ia info network is =
    let at = bind_ok (known_as n ia) _ info is in
    let same : position_or_len (λ other. other.ia == ia) n.ases ≡ info.position =
    ap (λ (i : AsInfo). i.position) (ok_is _ info at.2) in
    let within = position_within (λ (other : AsEntry). other.ia == ia) n.ases in
    let few = network.few_ases in
    omega arith
