use Rattle.std.proofs.Common.{sym, subst, ◌∙◌, ◌||◌, ap}
use Rattle.std.specs.List.Sorted.{IsNonDecreasing}
use Rattle.doubles.specs.Doubles.{has_double}
use Rattle.doubles.proofs.Ordered.{rest_in_order, doubles_here}
use Rattle.doubles.proofs.has_neighbours.Goals as goal

pub loop-number-preserved : goal.loop-number-preserved
loop-number-preserved c =
    let number = c.in-Some.number.now in
    let later = c.in-Some.later.now in
    let parts = c.in-Some.ensures.cases.0 in
    let order = subst IsNonDecreasing parts c.loop-number.invariant.0 in
    let apart = sym c.begins_with.ensures ∙ c.if-begins_with.false in (
      rest_in_order number later order,
      sym (doubles_here number later order ∙ ap (λ b. b || has_double later) apart)
          ∙ ap has_double (sym parts) ∙ c.loop-number.invariant.1,
    )
