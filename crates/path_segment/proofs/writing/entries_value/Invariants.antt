-- The values so far are those of the front; the front and what the rest is read as are what all is
-- read as.
use Rattle.std.proofs.Common.{◌≡◌, map, take, drop}
use Rattle.serde_json.specs.View.{view, items_of}
use Rattle.json_fields.specs.Fields.{items_at}
use Rattle.json_fields.proofs.Front.{with_front}
use Rattle.path_segment.specs.Reading.{entry_in}
use Rattle.path_segment.specs.Text.{entry_data}
use Rattle.path_segment.proofs.writing.entries_value.Given as goal

abbrev pub invariant-loop-entry : goal.invariant-loop-entry
invariant-loop-entry l = record {
  value : map view l.values.items ≡ map entry_data (take l.entry-index l.entries);
  again : with_front (take l.entry-index l.entries) (items_at entry_in (items_of (map entry_data (drop l.entry-index l.entries)))) ≡ items_at entry_in (items_of (map entry_data l.entries));
}
