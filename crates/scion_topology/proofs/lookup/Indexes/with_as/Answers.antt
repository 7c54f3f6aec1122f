-- An AS that has its index keeps it, and one that has none has it after all the others.
use Rattle.std.proofs.Common.{◌≡◌, ◌∙◌, ℕ, Bool, [], cond, eqb, length, Some, None, ap, ap₂, sym, arith}
use Rattle.std.specs.Ordering.{nat_cmp}
use Rattle.std.specs.BTreeMap.{get}
use Rattle.scion_topology.specs.Index.{IndexValue, index_at}
use Rattle.scion_topology.specs.inner.Index.{with_first_index}
use Rattle.scion_topology.proofs.Marking.{is_at-nat_cmp}
use Rattle.scion_topology.proofs.Placing.{HasMore, had, kept, none_from, own_grown, value_grown}
use Rattle.scion_topology.proofs.lookup.Indexes.with_as.Goals as goal

pub returns-then-contains_key : goal.returns-then-contains_key
returns-then-contains_key c = λ x.
    let old = c.args.self in
    kept old.list.items (get nat_cmp old.places) c.args.ia (index_at c.args.position x []) old.own (sym c.contains_key.ensures ∙ c.if-contains_key.true) x

pub invariant_of-result : goal.invariant_of-result
invariant_of-result c =
    let old = c.args.self in
    let index = c.new.result in
    let none : get nat_cmp old.places index.ia ≡ None = rw c.new.ensures.ia (none_from _ (sym c.contains_key.ensures ∙ c.if-contains_key.false)) in
    let at : c.len-2.result ≡ length old.list.items = omega (arith, c.len-2.ensures, old.list.ok) in
    let has : HasMore (get nat_cmp old.places) (get nat_cmp c.insert.new.self) index.ia (length old.list.items) = λ x.
    c.in_ok-insert.ensures.updates.0 x ∙ ap (λ (b : Bool). cond b (Some c.len-2.result) (get nat_cmp old.places x)) (is_at-nat_cmp x c.args.ia)
    ∙ ap₂ (λ (y k : ℕ). cond (eqb x y) (Some k) (get nat_cmp old.places x)) (sym c.new.ensures.ia) at in
    record { own = rw c.in_ok-push.ensures.items (own_grown old.list.items (get nat_cmp old.places) (get nat_cmp c.insert.new.self) index old.own none has) }

pub returns : goal.returns
returns c = λ x.
    let old = c.args.self in
    let index = c.new.result in
    let none : get nat_cmp old.places index.ia ≡ None = rw c.new.ensures.ia (none_from _ (sym c.contains_key.ensures ∙ c.if-contains_key.false)) in
    let at : c.len-2.result ≡ length old.list.items = omega (arith, c.len-2.ensures, old.list.ok) in
    let has : HasMore (get nat_cmp old.places) (get nat_cmp c.insert.new.self) index.ia (length old.list.items) = λ y.
    c.in_ok-insert.ensures.updates.0 y ∙ ap (λ (b : Bool). cond b (Some c.len-2.result) (get nat_cmp old.places y)) (is_at-nat_cmp y c.args.ia)
    ∙ ap₂ (λ (z k : ℕ). cond (eqb y z) (Some k) (get nat_cmp old.places y)) (sym c.new.ensures.ia) at in
    rw c.in_ok-push.ensures.items (value_grown old.list.items (get nat_cmp old.places) (get nat_cmp c.insert.new.self) index old.own none has x
    ∙ ap₂ (λ (y : ℕ) (v : IndexValue). with_first_index (eqb y x) v (had old.list.items (get nat_cmp old.places) x)) c.new.ensures.ia c.new.ensures.value)
