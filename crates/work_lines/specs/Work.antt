-- A run of lines and then of the flights that they prepare: what was read, and what was written.
use Rattle.std.specs.Prelude.{◌≡◌, ℕ, Bool, true, false, IsTrue, List, Option, Result, Ok, Err}
use Rattle.std.specs.Io.KnownBytes.{Appends}
use Rattle.streams.specs.Streams.{AppendsFront}
use Rattle.network_core.specs.Value.{NetValue}
use Rattle.router_workers.specs.Run.{is_number_of_workers}
use Rattle.router_workers.specs.declared.fault.RunFault.{RunFault}
use Rattle.router_workers.specs.declared.fault.RunFault.TheVariants as run
use Rattle.event_lines.specs.declared.fault.RunFault.TheVariants as lines
use Rattle.event_lines.specs.declared.accepted.AcceptedLines.TheVariants.{Preparing}
use Rattle.event_lines.specs.Run.{Listens}
use Rattle.work_lines.specs.declared.fault.WorkFault.{WorkFault}
use Rattle.work_lines.specs.declared.fault.WorkFault.TheVariants as faults
use Rattle.work_lines.specs.Report.{Reports}

-- the lines prepared this network, and after their replies the sink held these bytes
abbrev pub Prepares : (net : NetValue) (before after held holds : Option (List ℕ)) → Type 0
Prepares net before after held holds = Listens Preparing (Ok net) before after held holds

-- a run with workers. The first two contents are what the source still had before and after it; the
-- last two are what the sink held before and after it. If the lines prepared a network: its flights
-- were reported; or the number of workers is not allowed; or it is, and memory ran out or a
-- beginning of the report was written. Else the lines were not answered to their end.
abbrev pub Works : (result : Result (Unit {0}) WorkFault) (workers slots : ℕ)
    (before after held holds : Option (List ℕ)) → Type 0
Works (Ok done) workers slots before after held holds =
    (net : NetValue) × (replied : Option (List ℕ)) × (report : List ℕ)
    × (Prepares net before after held replied
    × (IsTrue (is_number_of_workers workers)
    × (Reports net slots report × Appends replied holds report)))
Works (Err faults.Workers) workers slots before after held holds = (net : NetValue)
    × (Prepares net before after held holds × (is_number_of_workers workers ≡ false))
Works (Err faults.Memory) workers slots before after held holds =
    (net : NetValue)
    × (Prepares net before after held holds × IsTrue (is_number_of_workers workers))
Works (Err faults.Write) workers slots before after held holds =
    (net : NetValue) × (replied : Option (List ℕ)) × (report : List ℕ)
    × (Prepares net before after held replied
    × (IsTrue (is_number_of_workers workers)
    × (Reports net slots report × AppendsFront replied holds report)))
Works (Err (faults.Lines fault)) workers slots before after held holds =
    Listens Preparing (Err fault) before after held holds

-- whether the run ended because a read failed, and whether because a write of a reply or of the
-- report failed
abbrev pub is_work_read_fault : Result (Unit {0}) WorkFault → Bool
is_work_read_fault (Err (faults.Lines lines.Read)) = true
is_work_read_fault result = false

abbrev pub is_work_write_fault : Result (Unit {0}) WorkFault → Bool
is_work_write_fault (Err (faults.Lines lines.Write)) = true
is_work_write_fault (Err faults.Write) = true
is_work_write_fault result = false

-- ---- words of private calls

-- the fault of the command from that of the run of workers
abbrev pub of_workers : RunFault → WorkFault
of_workers run.Workers = faults.Workers
of_workers run.Memory = faults.Memory
