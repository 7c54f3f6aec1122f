use Rattle.policy_expr.proofs.Signed.{entry_spelled, entry_read, list_spelled, list_read}
use Rattle.policy_expr.proofs.laws.entries_are_spelled.Goals as goal

pub returns : goal.returns
returns c = record {
  entry = λ text entry. (entry_spelled text entry, entry_read text entry);
  list = λ texts entries. (list_spelled texts entries, λ both. list_read texts entries both.0 both.1);
}
