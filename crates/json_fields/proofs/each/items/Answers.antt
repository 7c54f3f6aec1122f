use Rattle.std.proofs.Common.{IfSome, IsTrue, refl, sym, ◌∙◌, subst, rules}
use Rattle.std.proofs.iter.Next.{says_at}
use Rattle.json_fields.specs.Documents.{list_items, node_data}
use Rattle.json_fields.proofs.Front.{with_front-next, with_front-none, list_all-push, fewer_later, has_value}
use Rattle.json_fields.proofs.each.items.Goals as goal

pub returns-in_default-one-clause-value : goal.returns-in_default-one-clause-value
returns-in_default-one-clause-value g c = λ reader reads. (
    let l = c.loop-value in
    let said = reads _ _ (says_at g.F.Fn c.one.ensures refl) in
    sym (with_front-none reader l.items.items (list_items l.left) (list_items c.in-Some.later) (node_data c.in-Some.value) c.in-Some.ensures (sym said ∙ c.in_default-one.is)) ∙ l.invariant.so_far reader reads)

pub loop-value-preserved : goal.loop-value-preserved
loop-value-preserved g c =
    let l = c.loop-value in
    let item = c.in-Some-one.item in
    let gave = says_at g.F.Fn c.one.ensures refl in
    rw c.in_ok-push.ensures.items (record {
      so_far = λ reader reads. (with_front-next reader l.items.items (list_items l.left) (list_items c.in-Some.later) (node_data c.in-Some.value) item c.in-Some.ensures (sym (reads _ _ gave) ∙ c.in-Some-one.is) ∙ l.invariant.so_far reader reads);
      pass = λ test gives. list_all-push test l.items.items item (l.invariant.pass test gives) (subst (λ found. IfSome found (λ x. IsTrue (test x))) c.in-Some-one.is (gives _ _ gave));
      fewer = fewer_later (list_items l.left) (list_items c.in-Some.later) (list_items c.args.list) (node_data c.in-Some.value) c.in-Some.ensures l.invariant.fewer;
    })

pub returns-in_err-push-clause-wanted : goal.returns-in_err-push-clause-wanted
returns-in_err-push-clause-wanted g c =
    let one = has_value (list_items c.loop-value.left) (list_items c.in-Some.later) (list_items c.args.list) (node_data c.in-Some.value) c.in-Some.ensures c.loop-value.invariant.fewer in
    search rules
