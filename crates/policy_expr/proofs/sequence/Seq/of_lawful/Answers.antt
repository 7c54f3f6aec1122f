use Rattle.std.proofs.Common.{◌∙◌, [], None, ap}
use Rattle.policy_expr.specs.Language.{tree_of}
use Rattle.policy_expr.specs.Reading.{new_level, read_rest}
use Rattle.policy_expr.proofs.Sequences.{judged_sequence}
use Rattle.policy_expr.proofs.sequence.Seq.of_lawful.Goals as goal

pub invariant_of-result : goal.invariant_of-result
invariant_of-result g c =
    (judged_sequence c.requires.0 (tree_of c.in_ok-root.root) c.requires.2 (ap (read_rest [] new_level None) c.requires.1 ∙ c.in_ok-root.ensures), c.in_ok-table.ensures)
