-- What was read and what is still to be read are what all of the list reads as.
use Rattle.std.proofs.Common.{◌≡◌, ◌≤◌, Bool, true, Option}
use Rattle.std.specs.List.{list_all}
use Rattle.serde_json.specs.Data.{Data}
use Rattle.serde_json.specs.Events.{items_len}
use Rattle.json_fields.specs.Documents.{list_items}
use Rattle.json_fields.specs.Fields.{items_at}
use Rattle.json_fields.specs.Readers.{IsReader, GivesPassing}
use Rattle.json_fields.proofs.Front.{with_front}
use Rattle.json_fields.proofs.each.items.Given as goal

abbrev pub invariant-loop-value : goal.invariant-loop-value
invariant-loop-value g l = record {
  so_far : (reader : Data → Option g.row.T.Denot) → IsReader g.F.Fn l.one reader → with_front l.items.items (items_at reader (list_items l.left)) ≡ items_at reader (list_items l.list);
  pass : (test : g.row.T.Denot → Bool) → GivesPassing g.F.Fn l.one test → list_all test l.items.items ≡ true;
  fewer : items_len (list_items l.left) ≤ items_len (list_items l.list);
}

abbrev pub decreases-loop-value : goal.decreases-loop-value
decreases-loop-value g l = items_len (list_items l.left)
