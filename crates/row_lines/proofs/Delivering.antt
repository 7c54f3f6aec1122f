-- Each run of the text of the row delivers the packet.
use Rattle.std.proofs.Common.{◌≡◌, ℕ, List, ◌++◌, Option, None, Some, Ok, sym, ap, subst, ◌∙◌, append-nil}
use Rattle.std.specs.Io.KnownBytes.{Appends, Consumes, IsAtEnd}
use Rattle.event_lines.specs.declared.accepted.AcceptedLines.TheVariants.{All}
use Rattle.event_lines.specs.Answers.{Open, RepliesToInput}
use Rattle.event_lines.specs.Run.{Runs}
use Rattle.row_lines.specs.Lines.{row_lines, row_text}
use Rattle.row_lines.specs.Delivered.{HasDelivered}
use Rattle.row_lines.proofs.Every.{every}
use Rattle.row_lines.proofs.Split.{are_row}

-- what was read up to the end of the text is the text
read_all : (after : Option (List ℕ)) (read : List ℕ) → Consumes (Some row_text) after read
    → IsAtEnd after → read ≡ row_text
read_all None read consumes end = absurd consumes
read_all (Some left) read consumes end =
    sym (consumes ∙ ap (λ l. read ++ l) end ∙ append-nil read)

pub delivers : (after held holds : Option (List ℕ)) → Runs (Ok tt) (Some row_text) after held holds
    → HasDelivered held holds
delivers after held holds runs =
    let listens = runs.1 in
    let ends = listens.2.1.1.1 in
    let all = ends.1.0 in
    let wrote = ends.1.1 in
    let read = read_all after listens.0 listens.2.0 all.2.1.0 in
    let lines : ends.0 ≡ row_lines =
    all.2.1.1 ∙ are_row listens.0 all.0 all.1 read all.2.0 in
    let replies = subst (λ ls. RepliesToInput All ls wrote.0 (Open runs.0)) lines wrote.1.0 in
    let one = every wrote.0 (Open runs.0) replies in
    record {
      arrives = one.0;
      texts = wrote.0;
      replies = subst (λ stage. RepliesToInput All row_lines wrote.0 stage) one.1 replies;
      written = subst (Appends held holds) wrote.1.1 listens.2.1.0;
    }
