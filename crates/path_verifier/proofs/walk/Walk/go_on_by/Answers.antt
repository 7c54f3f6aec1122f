use Rattle.std.proofs.Common.{ℕ, ◌≤◌, length, take, drop, sym, ap, subst, ◌∙◌}
use Rattle.path_verifier.specs.Walk.{entered_by, hops_of, left_by}
use Rattle.path_verifier.proofs.Going.{is_longer, is_once}
use Rattle.path_verifier.proofs.walk.Walk.go_on_by.Goals as goal

pub split_at-requires : goal.split_at-requires
split_at-requires c =
    let old = c.args.self.now in
    let hops = hops_of c.args.piece.now in
    let is = c.as_slice.ensures.value ∙ c.leave_by.ensures ∙ ap (left_by 0) (c.enter_by.ensures ∙ ap (entered_by 0) c.go_on.ensures.walk) in
    subst (λ (n : ℕ). n ≤ length c.as_slice.result.now) (sym c.len-len.ensures)
    (is_longer old hops c.as_slice.result.now is)

pub returns-clause-once : goal.returns-clause-once
returns-clause-once c = λ once.
    let old = c.args.self.now in
    let hops = hops_of c.args.piece.now in
    let new = c.leave_by.new.self in
    let is = c.leave_by.ensures ∙ ap (left_by 0) (c.enter_by.ensures ∙ ap (entered_by 0) c.go_on.ensures.walk) in
    is_once old hops new is c.split_at.result.0.now c.split_at.result.1.now
    (c.split_at.ensures.front ∙ ap (λ (n : ℕ). take n c.as_slice.result.now) c.len-len.ensures ∙ ap (take (length old)) c.as_slice.ensures.value)
    (c.split_at.ensures.back ∙ ap (λ (n : ℕ). drop n c.as_slice.result.now) c.len-len.ensures ∙ ap (drop (length old)) c.as_slice.ensures.value)
    c.names_again.result c.names_again.ensures once
