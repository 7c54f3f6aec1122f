-- How a run ends whose flights were carried.
use Rattle.std.proofs.Common.{◌≡◌, ◌||◌, Bool, true, false, ℕ, IsTrue, List, Option, Result, Ok, Err, ap, ◌∙◌}
use Rattle.network_core.specs.Value.{NetValue}
use Rattle.router_workers.specs.Run.{is_number_of_workers}
use Rattle.work_lines.specs.declared.fault.WorkFault.{WorkFault}
use Rattle.work_lines.specs.declared.fault.WorkFault.TheVariants as faults
use Rattle.work_lines.specs.Report.{Reports}
use Rattle.work_lines.specs.Work.{Prepares, Works, is_work_write_fault}
use Rattle.work_lines.specs.inner.Work.{WritesReport, is_unwritten}

-- the report was written, or a beginning of it
pub worked : (result : Result (Unit {0}) WorkFault) (net : NetValue) (workers slots : ℕ)
    (before after held replied holds : Option (List ℕ)) (text : List ℕ)
    → Prepares net before after held replied → IsTrue (is_number_of_workers workers) → Reports net slots text
    → WritesReport result text replied holds → Works result workers slots before after held holds
worked (Ok done) net workers slots before after held replied holds text prepares number reports writes =
    (net, replied, text, (prepares, (number, (reports, writes))))
worked (Err faults.Write) net workers slots before after held replied holds text prepares number reports writes =
    (net, replied, text, (prepares, (number, (reports, writes))))
worked (Err faults.Workers) net workers slots before after held replied holds text prepares number reports writes =
    absurd writes
worked (Err faults.Memory) net workers slots before after held replied holds text prepares number reports writes =
    absurd writes
worked (Err (faults.Lines fault)) net workers slots before after held replied holds text prepares number reports writes =
    absurd writes

-- the sink failed before, or at the report
pub flag_behind : (before replied behind : Bool) (result : Result (Unit {0}) WorkFault) (text : List ℕ)
    (held holds : Option (List ℕ)) → replied ≡ (before || false) → behind ≡ (replied || is_unwritten result)
    → WritesReport result text held holds → behind ≡ (before || is_work_write_fault result)
flag_behind true replied behind (Ok done) text held holds same flag writes = flag ∙ ap (λ it. it || false) same
flag_behind false replied behind (Ok done) text held holds same flag writes = flag ∙ ap (λ it. it || false) same
flag_behind true replied behind (Err faults.Write) text held holds same flag writes =
    flag ∙ ap (λ it. it || true) same
flag_behind false replied behind (Err faults.Write) text held holds same flag writes =
    flag ∙ ap (λ it. it || true) same
flag_behind before replied behind (Err faults.Workers) text held holds same flag writes = absurd writes
flag_behind before replied behind (Err faults.Memory) text held holds same flag writes = absurd writes
flag_behind before replied behind (Err (faults.Lines fault)) text held holds same flag writes = absurd writes
