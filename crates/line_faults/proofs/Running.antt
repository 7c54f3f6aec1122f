-- What was read and told so far, and how it ends.
use Rattle.std.proofs.Common.{arith, ◌≡◌, Bool, ℕ, ◌+◌, ◌≤◌, List, [], ◌∷◌, ◌++◌, length, Option, Result, Ok, Err, refl, sym, ap, ◌∙◌, append_assoc, append-nil, subst, inl, inr}
use Rattle.std.proofs.lemmas.List.{length-append, take_all}
use Rattle.std.specs.Io.KnownBytes.{Appends, Consumes, IsAtEnd, Keeps}
use Rattle.std.proofs.KnownBytes.{Consumes-kept, Consumes-nil, Consumes-trans}
use Rattle.streams.specs.Streams.{most_input}
use Rattle.event_lines.specs.declared.fault.RunFault.{RunFault}
use Rattle.event_lines.specs.declared.fault.RunFault.TheVariants as faults
use Rattle.event_lines.specs.declared.accepted.AcceptedLines.TheVariants.{All}
use Rattle.event_lines.specs.Answers.{GoesOn}
use Rattle.event_lines.specs.Run.{AreAll, AreFirst, AreLines, HaveNext, all_lines, most_read}
use Rattle.event_lines.specs.inner.Session.{HasMore, last_after}
use Rattle.event_lines.proofs.Lines.{joined, none_read}
use Rattle.event_lines.proofs.Ran.{told_as_run}
use Rattle.event_lines.proofs.Running.{all_told, next_of}
use Rattle.line_faults.specs.declared.finding.FindingForm.{FindingForm}
use Rattle.line_faults.specs.declared.telling.Telling.{Telling}
use Rattle.line_faults.specs.Finding.{all_written, has_any}
use Rattle.line_faults.specs.Explained.{AreExplained, Explains, ExplainsRead, ExplainsWhole}
use Rattle.line_faults.specs.inner.Telling.{Place, Tally, TellingValue, Exchanges, Finishes, TellsBytes, TellsLines, TellsSome, at_begin, closed_at, telling_value, untold}
use Rattle.line_faults.proofs.Front.{lines_append, lines_kept, lines_none, lines_some}

-- these bytes were read, and the lines that ended among them were told
pub record SoFar (form : FindingForm) (before after held holds : Option (List ℕ)) (now : TellingValue) (count : ℕ)
    : Type 0 where
  pub read : List ℕ
  pub consumed : Consumes before after read
  pub counted : length read ≡ count
  pub lines : List (List ℕ)
  pub are : AreLines read lines now.rest
  pub told : TellsLines lines (at_begin form) now.place held holds
  pub few : count ≤ most_input
  pub number : now.place.tally.number ≤ count
  pub on : GoesOn now.place.stage

-- the form of what a run that has not begun will tell
pub form_untold : (telling : Telling) (form : FindingForm) → telling_value telling ≡ untold form
    → telling.notes.form ≡ form
form_untold telling form is = ap (λ (t : TellingValue). t.place.tally.form) is

-- nothing was read yet
pub begun : (form : FindingForm) (left held : Option (List ℕ)) (now : TellingValue) → now ≡ untold form
    → SoFar form left left held held now 0
begun form left held now is = subst (λ (t : TellingValue). SoFar form left left held held t 0) (sym is) (record {
  read = [];
  consumed = Consumes-nil left;
  counted = refl;
  lines = [];
  are = none_read [] refl;
  told = lines_none (at_begin form) held;
  few = omega arith;
  number = omega arith;
  on = tt;
})

-- more was read and told
pub passed_on : (form : FindingForm) (before after now held holds with : Option (List ℕ)) {at : TellingValue} {count : ℕ} (bytes : List ℕ) (next : TellingValue)
    → SoFar form before after held holds at count → Consumes after now bytes → count + length bytes ≤ most_input
    → TellsBytes (Ok tt) bytes at next holds with → next.place.tally.number ≤ at.place.tally.number + length bytes
    → GoesOn next.place.stage → SoFar form before now held with next (count + length bytes)
passed_on form before after now held holds with {at} {count} bytes next far more few tells number on = record {
  read = far.read ++ bytes;
  consumed = Consumes-trans before after now far.read bytes far.consumed more;
  counted = length-append far.read bytes ∙ ap (λ n. n + length bytes) far.counted;
  lines = far.lines ++ tells.0;
  are = joined bytes far.are tells.1.0;
  told = lines_append far.lines tells.0 (at_begin form) at.place next.place held holds with far.told tells.1.1;
  few = few;
  number = omega (arith, number, far.number);
  on = on;
}

-- ---- what was said

abbrev explained : (form : FindingForm) (lines : List (List ℕ)) (place : Place) (held holds : Option (List ℕ))
    → (told : TellsLines lines (at_begin form) place held holds)
    → Explains form lines place.stage (all_written form told.findings)
explained form lines place held holds told = record {
  replies = told.replies;
  findings = told.findings;
  replied = told_as_run All lines told.replies place.stage told.replied;
  told = told.told;
  says = refl;
}

explained_some : (form : FindingForm) (lines : List (List ℕ)) (held holds : Option (List ℕ))
    → (told : TellsSome lines (at_begin form) held holds)
    → Explains form lines told.stage (all_written form told.findings)
explained_some form lines held holds told = record {
  replies = told.replies;
  findings = told.findings;
  replied = told_as_run All lines told.replies told.stage told.replied;
  told = told.told;
  says = refl;
}

-- ---- what was read

-- the first of what was read, with more
first_on : {form : FindingForm} {before after held holds : Option (List ℕ)} {at : TellingValue} {count : ℕ} (bytes : List ℕ) (lines later : List (List ℕ)) (rest : List ℕ)
    → (far : SoFar form before after held holds at count) → AreLines (at.rest ++ bytes) (lines ++ later) rest
    → AreFirst (far.read ++ bytes) (far.lines ++ lines)
first_on bytes lines later rest far are = (
  later,
  rest,
  subst (λ ls. AreLines (far.read ++ bytes) ls rest) (sym (append_assoc far.lines lines later))
      (joined bytes far.are are),
)

-- the first of what was read, as it stands
first_of : {form : FindingForm} {before after held holds : Option (List ℕ)} {at : TellingValue} {count : ℕ}
    → (far : SoFar form before after held holds at count) → AreFirst far.read far.lines
first_of {at = at} far =
    ([], at.rest, subst (λ ls. AreLines far.read ls at.rest) (sym (append-nil far.lines)) far.are)

-- a line of what was read follows these
next_on : {form : FindingForm} {before after held holds : Option (List ℕ)} {at : TellingValue} {count : ℕ} (bytes : List ℕ) (lines later : List (List ℕ)) (rest : List ℕ)
    → (far : SoFar form before after held holds at count) → AreLines (at.rest ++ bytes) (lines ++ later) rest
    → HasMore later rest → HaveNext (far.read ++ bytes) (far.lines ++ lines)
next_on bytes lines later rest far are more =
    let (next, after, same) = next_of (far.lines ++ lines) later rest more in
    let first =
    subst (λ ls. AreLines (far.read ++ bytes) ls rest) (sym (append_assoc far.lines lines later)) (joined bytes far.are are) in
    ((far.lines ++ lines) ++ later, rest, next, after, (first, same))

-- all lines of what was read, with the last
whole_of : {form : FindingForm} {before after held holds : Option (List ℕ)} {at : TellingValue} {count : ℕ}
    → (far : SoFar form before after held holds at count)
    → far.lines ++ last_after at.place.stage at.rest ≡ all_lines far.lines at.rest
whole_of {at = at} far = all_told All far.lines far.told.replies at.place.stage at.rest far.told.replied

all_of : {form : FindingForm} {before after held holds : Option (List ℕ)} {at : TellingValue} {count : ℕ} (at_end : Type 0)
    → (far : SoFar form before after held holds at count) → at_end
    → AreAll at_end far.read (far.lines ++ last_after at.place.stage at.rest)
all_of {at = at} at_end far end = (far.lines, at.rest, (far.are, (end, whole_of far)))

-- ---- how it ends

-- nothing more was read
still : (before after now : Option (List ℕ)) (read bytes : List ℕ) → bytes ≡ []
    → Consumes before after read → Consumes after now bytes → Consumes before now read
still before after now read bytes none first then =
    subst (Consumes before now) (ap (λ l. read ++ l) none ∙ append-nil read)
    (Consumes-trans before after now read bytes first then)

-- nothing more came, and this is what was written
ended : {form : FindingForm} (result : Result Bool RunFault) {before after held holds : Option (List ℕ)} (now with : Option (List ℕ)) {at : TellingValue} {count : ℕ} (bytes went : List ℕ)
    (far : SoFar form before after held holds at count) → bytes ≡ [] → Consumes after now bytes → most_input ≤ most_read result
    → Appends held with went → ExplainsRead form result (IsAtEnd now) far.read went → AreExplained form result before now held with
ended result {before} {after} now with bytes went far none more most appended ends =
    (far.read, went, (still before after now far.read bytes none far.consumed more, (appended, (omega (arith, far.counted, far.few, most), ends))))

-- these bytes came, and this is what was written
ended_on : {form : FindingForm} (result : Result Bool RunFault) {before after held holds : Option (List ℕ)} (now with : Option (List ℕ)) {at : TellingValue} {count : ℕ} (bytes went : List ℕ)
    (far : SoFar form before after held holds at count) → count + length bytes ≤ most_input → Consumes after now bytes
    → most_input ≤ most_read result → Appends held with went
    → ExplainsRead form result (IsAtEnd now) (far.read ++ bytes) went → AreExplained form result before now held with
ended_on result {before} {after} now with bytes went far few more most appended ends = (
  far.read ++ bytes,
  went,
  (
    Consumes-trans before after now far.read bytes far.consumed more,
    (appended, (omega (arith, length-append far.read bytes, far.counted, few, most), ends)),
  ),
)

-- at the end of the input, all lines were told
pub ends_done : (form : FindingForm) (before after now held holds with : Option (List ℕ)) {at : TellingValue} {count : ℕ} (bytes : List ℕ) (new : Place)
    → SoFar form before after held holds at count → bytes ≡ [] → Consumes after now bytes → IsAtEnd now → GoesOn new.stage
    → Finishes (Ok tt) at new holds with → AreExplained form (Ok new.tally.found) before now held with
ends_done form before after now held holds with {at = at} bytes new far none more end on tells =
    let lines = last_after at.place.stage at.rest in
    let all = lines_append far.lines lines (at_begin form) at.place new held holds with far.told tells in
    let found : new.tally.found ≡ has_any all.findings = ap (λ (t : Tally). t.found) all.count in
    ended (Ok new.tally.found) now with bytes (all_written form all.findings) far none more (omega arith) all.kept
    (far.lines ++ lines, new.stage, (all_of (IsAtEnd now) far end, (on, (explained form (far.lines ++ lines) new held with all, found))))

-- at the end of the input, the last line was not told, or was refused as a topology
pub ends_cut : (form : FindingForm) (fault : RunFault) (before after now held holds with : Option (List ℕ)) {at : TellingValue} {count : ℕ} (bytes : List ℕ) (new : Place)
    → SoFar form before after held holds at count → bytes ≡ [] → Consumes after now bytes → IsAtEnd now
    → Finishes (Err fault) at new holds with → AreExplained form (Err fault) before now held with
ends_cut form faults.Topology before after now held holds with {at = at} bytes new far none more end (one, tells) =
    let closed = closed_at new in
    let all = lines_append far.lines (at.rest ∷ []) (at_begin form) at.place closed held holds with far.told tells in
    let are = subst (λ l. AreAll (IsAtEnd now) far.read (far.lines ++ l)) one (all_of (IsAtEnd now) far end) in
    ended (Err faults.Topology) now with bytes (all_written form all.findings) far none more (omega arith) all.kept
    (far.lines ++ at.rest ∷ [], (inr are, explained form (far.lines ++ at.rest ∷ []) closed held with all))
ends_cut form faults.Memory before after now held holds with {at = at} bytes new far none more end (one, tells) =
    let all = lines_kept far.lines (at_begin form) at.place held holds with far.told tells in
    let next : HaveNext far.read far.lines = (
      far.lines,
      at.rest,
      at.rest,
      [],
      (far.are, sym (whole_of far) ∙ ap (λ l. far.lines ++ l) one),
    ) in
    ended (Err faults.Memory) now with bytes (all_written form all.findings) far none more (omega arith) all.kept
    (far.lines, at.place.stage, (next, (far.on, explained form far.lines at.place held with all)))
ends_cut form faults.Write before after now held holds with {at = at} bytes new far none more end (inl tells) =
    let lines = last_after at.place.stage at.rest in
    let all = lines_some far.lines lines (at_begin form) at.place held holds with far.told tells in
    ended (Err faults.Write) now with bytes _ far none more (omega arith) all.kept
    (far.lines ++ lines, all.stage, all_written form all.findings, all.most, (inr (all_of (IsAtEnd now) far end), (explained_some form (far.lines ++ lines) held with all, refl)))
ends_cut form faults.Write before after now held holds with {at = at} bytes new far none more end (inr kept) =
    let all = lines_kept far.lines (at_begin form) at.place held holds with far.told kept in
    let text = all_written form all.findings in
    let whole = sym (take_all (length text) text (omega arith)) in
    ended (Err faults.Write) now with bytes (all_written form all.findings) far none more (omega arith) all.kept
    (far.lines, at.place.stage, text, length text, (inl (first_of far), (explained form far.lines at.place held with all, whole)))
ends_cut form faults.Read before after now held holds with bytes new far none more end tells = absurd tells.1
ends_cut form faults.InputTooLong before after now held holds with bytes new far none more end tells =
    absurd tells.1

-- the lines of what came could not all be told
pub ends_short : (form : FindingForm) (fault : RunFault) (before after now held holds with : Option (List ℕ)) {at : TellingValue} {count : ℕ} (bytes : List ℕ) (new : TellingValue)
    → SoFar form before after held holds at count → count + length bytes ≤ most_input → Consumes after now bytes
    → Exchanges (Err fault) bytes at new holds with → AreExplained form (Err fault) before now held with
ends_short form faults.Topology before after now held holds with {at = at} bytes new far few more tells =
    let (lines, later, rest, (are, told)) = tells in
    let closed = closed_at new.place in
    let all = lines_append far.lines lines (at_begin form) at.place closed held holds with far.told told in
    ended_on (Err faults.Topology) now with bytes (all_written form all.findings) far few more (omega arith) all.kept
    (far.lines ++ lines, (inl (first_on bytes lines later rest far are), explained form (far.lines ++ lines) closed held with all))
ends_short form faults.Memory before after now held holds with {at = at} bytes new far few more tells =
    let (lines, later, rest, place, (are, (left, (on, told)))) = tells in
    let all = lines_append far.lines lines (at_begin form) at.place place held holds with far.told told in
    ended_on (Err faults.Memory) now with bytes (all_written form all.findings) far few more (omega arith) all.kept
    (far.lines ++ lines, place.stage, (next_on bytes lines later rest far are left, (on, explained form (far.lines ++ lines) place held with all)))
ends_short form faults.Write before after now held holds with {at = at} bytes new far few more tells =
    let (lines, later, rest, (are, told)) = tells in
    let all = lines_some far.lines lines (at_begin form) at.place held holds with far.told told in
    ended_on (Err faults.Write) now with bytes _ far few more (omega arith) all.kept
    (far.lines ++ lines, all.stage, all_written form all.findings, all.most, (inl (first_on bytes lines later rest far are), (explained_some form (far.lines ++ lines) held with all, refl)))
ends_short form faults.Read before after now held holds with bytes new far few more tells = absurd tells
ends_short form faults.InputTooLong before after now held holds with bytes new far few more tells = absurd tells

-- all complete lines were told
whole_so_far : {form : FindingForm} {before after held holds : Option (List ℕ)} {at : TellingValue} {count : ℕ}
    → (far : SoFar form before after held holds at count) → ExplainsWhole form far.read (all_written form far.told.findings)
whole_so_far {form = form} {held = held} {holds = holds} {at = at} far =
    (far.lines, at.rest, at.place.stage, (far.are, (far.on, explained form far.lines at.place held holds far.told)))

-- a read failed
pub ends_unread : (form : FindingForm) (before after now held holds : Option (List ℕ)) {at : TellingValue} {count : ℕ}
    → SoFar form before after held holds at count → Keeps after now → AreExplained form (Err faults.Read) before now held holds
ends_unread form before after now held holds far kept = (
  far.read,
  all_written form far.told.findings,
  (
    Consumes-kept before after now far.read far.consumed kept,
    (far.told.kept, (omega (arith, far.counted, far.few), whole_so_far far)),
  ),
)

-- a byte too many came
pub ends_too_long : (form : FindingForm) (before after now held holds : Option (List ℕ)) {at : TellingValue} {count : ℕ} (bytes : List ℕ)
    → SoFar form before after held holds at count → count ≡ most_input → ¬ (bytes ≡ []) → length bytes ≤ 1
    → Consumes after now bytes → AreExplained form (Err faults.InputTooLong) before now held holds
ends_too_long form before after now held holds [] far full some few more = absurd (some refl)
ends_too_long form before after now held holds (b ∷ []) far full some few more = (
  far.read ++ b ∷ [],
  all_written form far.told.findings,
  (
    Consumes-trans before after now far.read (b ∷ []) far.consumed more,
    (
      far.told.kept,
      (
        omega (arith, length-append far.read (b ∷ []), far.counted, full),
        (far.read, b, (refl, (far.counted ∙ full, whole_so_far far))),
      ),
    ),
  ),
)
ends_too_long form before after now held holds (b ∷ x ∷ bytes) far full some few more = absurd (omega (arith, few))
