-- A run of lines and then of the flights that they prepare: what was read, and what was written.
use Rattle.std.specs.Prelude.{◌≡◌, ℕ, Bool, true, false, IsTrue, List, Option, Result, Ok, Err}
use Rattle.std.specs.Io.KnownBytes.{Appends}
use Rattle.streams.specs.Streams.{AppendsFront}
use Rattle.router_workers.specs.Run.{is_number_of_workers}
use Rattle.work_lines.specs.declared.fault.WorkFault.{WorkFault}
use Rattle.work_lines.specs.declared.fault.WorkFault.TheVariants as faults

-- why flights could not be carried by these workers: their number is not allowed; or it is, and
-- memory ran out
abbrev pub Stops : ℕ → WorkFault → Type 0
Stops workers faults.Workers = is_number_of_workers workers ≡ false
Stops workers faults.Memory = IsTrue (is_number_of_workers workers)
Stops workers fault = ⊥

-- the report was written, or a beginning of it
abbrev pub WritesReport : Result (Unit {0}) WorkFault → List ℕ → Option (List ℕ) → Option (List ℕ)
    → Type 0
WritesReport (Ok done) text held holds = Appends held holds text
WritesReport (Err faults.Write) text held holds = AppendsFront held holds text
WritesReport (Err fault) text held holds = ⊥

-- whether the report was not written
abbrev pub is_unwritten : Result (Unit {0}) WorkFault → Bool
is_unwritten (Ok done) = false
is_unwritten (Err fault) = true
