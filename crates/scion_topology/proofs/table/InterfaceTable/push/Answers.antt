-- An interface is found where its number is new, and the others where they were.
use Rattle.std.proofs.Common.{◌≡◌, ◌∙◌, ℕ, Bool, cond, eqb, length, Some, None, ap, sym, arith}
use Rattle.std.specs.Ordering.{nat_cmp}
use Rattle.std.specs.BTreeMap.{get}
use Rattle.scion_topology.proofs.Marking.{is_at-nat_cmp}
use Rattle.scion_topology.proofs.Placing.{none_from}
use Rattle.scion_topology.proofs.Tables.{same_number, new_number}
use Rattle.scion_topology.proofs.table.InterfaceTable.push.Goals as goal

pub invariant_of-self-then-contains_key : goal.invariant_of-self-then-contains_key
invariant_of-self-then-contains_key c =
    let old = c.self.inside in
    rw c.in_ok-push.ensures.items (same_number (get nat_cmp old.places) old.entries.items c.args.entry c.self.invariant (sym c.contains_key.ensures ∙ c.if-contains_key.true))

pub invariant_of-self-in-Ok : goal.invariant_of-self-in-Ok
invariant_of-self-in-Ok c =
    let old = c.self.inside in
    let none : get nat_cmp old.places c.args.entry.number ≡ None = none_from _ (sym c.contains_key.ensures ∙ c.if-contains_key.false) in
    let at : c.len-place.result ≡ length old.entries.items = omega (arith, c.len-place.ensures, old.entries.ok) in
    rw c.in_ok-push.ensures.items (new_number (get nat_cmp old.places) (get nat_cmp c.insert.new.self) old.entries.items c.args.entry c.self.invariant none (λ x.
    c.in-Ok.ensures.updates.0 x ∙ ap (λ (b : Bool). cond b (Some c.len-place.result) (get nat_cmp old.places x)) (is_at-nat_cmp x c.args.entry.number)
    ∙ ap (λ (k : ℕ). cond (eqb x c.args.entry.number) (Some k) (get nat_cmp old.places x)) at))
