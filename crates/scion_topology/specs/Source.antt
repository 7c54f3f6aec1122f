-- The keys and interfaces of a view, borrowed or owned. No clause of a public call cites it.
use Rattle.std.specs.Prelude.{ℕ, List}
use Rattle.scion_topology.specs.declared.entry.IfEntry.{IfEntry}
use Rattle.scion_topology.specs.declared.view.Source.{Source}
use Rattle.scion_topology.specs.declared.view.Source.TheVariants.{Borrowed, Owned}

abbrev pub source_keys : Source → List (List ℕ)
source_keys (Borrowed keys table) = keys.now
source_keys (Owned keys table) = keys

abbrev pub table_in : Source → List IfEntry
table_in (Borrowed keys table) = table.now
table_in (Owned keys table) = table.now
