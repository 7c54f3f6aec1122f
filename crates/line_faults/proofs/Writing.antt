-- What is said of lines, and written.
use Rattle.std.proofs.Common.{◌≡◌, ℕ, List, [], ◌∷◌, ◌++◌, Option, Some, None, Result, Ok, Err, zero, suc, take, refl, sym, ◌∙◌, append-nil, subst, inl, inr}
use Rattle.std.specs.Io.KnownBytes.{Appends, Keeps}
use Rattle.event_lines.specs.declared.fault.RunFault.{RunFault}
use Rattle.event_lines.specs.declared.fault.RunFault.TheVariants as faults
use Rattle.event_lines.specs.Run.{AreLines}
use Rattle.event_lines.specs.inner.Session.{last_after}
use Rattle.line_faults.specs.inner.Telling.{Exchanges, Finishes, Place, TellingValue, TellsBytes, TellsLine, TellsLines, TellsSome, Writes, closed_at}
use Rattle.line_faults.proofs.Front.{lines_none}

-- ---- lines

-- what is said of these lines is all that was written
lines_written : (lines : List (List ℕ)) (old new : Place) (text : List ℕ) (held holds : Option (List ℕ))
    → TellsLines lines old new (Some []) (Some text) → Appends held holds text → TellsLines lines old new held holds
lines_written lines old new text held holds told wrote = record {
  replies = told.replies;
  findings = told.findings;
  replied = told.replied;
  told = told.told;
  kept = subst (λ t. Appends held holds t) told.kept wrote;
  count = told.count;
}

-- a beginning of it was written
lines_part : (lines : List (List ℕ)) (old new : Place) (text : List ℕ) (held holds : Option (List ℕ))
    → TellsLines lines old new (Some []) (Some text) → (n : ℕ) × Appends held holds (take n text)
    → TellsSome lines old held holds
lines_part lines old new text held holds told wrote = record {
  replies = told.replies;
  stage = new.stage;
  findings = told.findings;
  most = wrote.0;
  replied = told.replied;
  told = told.told;
  kept = subst (λ t. Appends held holds (take wrote.0 t)) told.kept wrote.1;
}

-- ---- the lines of some bytes

written : (result : Result (Unit {0}) RunFault) (bytes : List ℕ) (old new : TellingValue) (text : List ℕ) (held holds : Option (List ℕ))
    → TellsBytes result bytes old new (Some []) (Some text) → Appends held holds text
    → Exchanges result bytes old new held holds
written (Ok done) bytes old new text held holds tells wrote =
    (tells.0, (tells.1.0, lines_written tells.0 old.place new.place text held holds tells.1.1 wrote))
written (Err faults.Topology) bytes old new text held holds tells wrote =
    let (lines, later, rest, (are, told)) = tells in
    (lines, later, rest, (are, lines_written lines old.place (closed_at new.place) text held holds told wrote))
written (Err faults.Memory) bytes old new text held holds tells wrote =
    let (lines, later, rest, at, (are, (left, (on, told)))) = tells in
    (lines, later, rest, at, (are, (left, (on, lines_written lines old.place at text held holds told wrote))))
written (Err faults.Write) bytes old new text held holds tells wrote = absurd tells
written (Err faults.Read) bytes old new text held holds tells wrote = absurd tells
written (Err faults.InputTooLong) bytes old new text held holds tells wrote = absurd tells

pub bytes_written : (result : Result (Unit {0}) RunFault) (bytes : List ℕ) (old new : TellingValue) (before text : List ℕ) (held holds : Option (List ℕ))
    → before ≡ [] → TellsBytes result bytes old new (Some before) (Some text) → Appends held holds text
    → Exchanges result bytes old new held holds
bytes_written result bytes old new before text held holds none tells =
    written result bytes old new text held holds
    (subst (λ b. TellsBytes result bytes old new (Some b) (Some text)) none tells)

part_written : (told : Result (Unit {0}) RunFault) (bytes : List ℕ) (old mid new : TellingValue) (text : List ℕ) (held holds : Option (List ℕ))
    → TellsBytes told bytes old mid (Some []) (Some text) → (n : ℕ) × Appends held holds (take n text)
    → Exchanges (Err faults.Write) bytes old new held holds
part_written (Ok done) bytes old mid new text held holds tells wrote = (
  tells.0,
  [],
  mid.rest,
  (
    subst (λ ls. AreLines (old.rest ++ bytes) ls mid.rest) (sym (append-nil tells.0)) tells.1.0,
    lines_part tells.0 old.place mid.place text held holds tells.1.1 wrote,
  ),
)
part_written (Err faults.Topology) bytes old mid new text held holds tells wrote =
    let (lines, later, rest, (are, told)) = tells in
    (lines, later, rest, (are, lines_part lines old.place (closed_at mid.place) text held holds told wrote))
part_written (Err faults.Memory) bytes old mid new text held holds tells wrote =
    let (lines, later, rest, at, (are, (left, (on, told)))) = tells in
    (lines, later, rest, (are, lines_part lines old.place at text held holds told wrote))
part_written (Err faults.Write) bytes old mid new text held holds tells wrote = absurd tells
part_written (Err faults.Read) bytes old mid new text held holds tells wrote = absurd tells
part_written (Err faults.InputTooLong) bytes old mid new text held holds tells wrote = absurd tells

pub bytes_unwritten : (told : Result (Unit {0}) RunFault) (fault : RunFault) (bytes : List ℕ) (old mid new : TellingValue) (before text left : List ℕ) (held holds : Option (List ℕ))
    → before ≡ [] → TellsBytes told bytes old mid (Some before) (Some text) → Writes (Err fault) text left held holds
    → Exchanges (Err fault) bytes old new held holds
bytes_unwritten told faults.Write bytes old mid new before text left held holds none tells wrote =
    part_written told bytes old mid new text held holds
    (subst (λ b. TellsBytes told bytes old mid (Some b) (Some text)) none tells) wrote
bytes_unwritten told faults.Topology bytes old mid new before text left held holds none tells wrote = absurd wrote
bytes_unwritten told faults.Memory bytes old mid new before text left held holds none tells wrote = absurd wrote
bytes_unwritten told faults.Read bytes old mid new before text left held holds none tells wrote = absurd wrote
bytes_unwritten told faults.InputTooLong bytes old mid new before text left held holds none tells wrote = absurd wrote

-- ---- the last line

-- there was none
pub last_done : (old : TellingValue) (held : Option (List ℕ)) → last_after old.place.stage old.rest ≡ []
    → Finishes (Ok tt) old old.place held held
last_done old held none = subst (λ ls. TellsLines ls old.place old.place held held) (sym none) (lines_none old.place held)

-- nothing was written
same_kept : (a b : Option (List ℕ)) → Appends a b [] → Keeps a b
same_kept None b wrote = tt
same_kept (Some xs) None wrote = absurd wrote
same_kept (Some xs) (Some ys) wrote = wrote ∙ append-nil xs

take_none : (n : ℕ) (none : List ℕ) → none ≡ [] → take n none ≡ []
take_none zero none is = refl
take_none (suc n) [] is = refl
take_none (suc n) (b ∷ rest) is = absurd cc

pub last_written : (told : Result (Unit {0}) RunFault) (old : TellingValue) (new : Place) (before text : List ℕ) (held holds : Option (List ℕ))
    → before ≡ [] → last_after old.place.stage old.rest ≡ old.rest ∷ []
    → TellsLine told old.rest old.place new (Some before) (Some text) → Appends held holds text
    → Finishes told old new held holds
last_written (Ok done) old new before text held holds none one tells wrote =
    let told = subst (λ b. TellsLines (old.rest ∷ []) old.place new (Some b) (Some text)) none tells in
    subst (λ ls. TellsLines ls old.place new held holds) (sym one)
    (lines_written (old.rest ∷ []) old.place new text held holds told wrote)
last_written (Err faults.Topology) old new before text held holds none one tells wrote =
    let told = subst (λ b. TellsLines (old.rest ∷ []) old.place (closed_at new) (Some b) (Some text)) none tells in
    (one, lines_written (old.rest ∷ []) old.place (closed_at new) text held holds told wrote)
last_written (Err faults.Memory) old new before text held holds none one tells wrote =
    (one, same_kept held holds (subst (λ t. Appends held holds t) (tells ∙ none) wrote))
last_written (Err faults.Write) old new before text held holds none one tells wrote = absurd tells
last_written (Err faults.Read) old new before text held holds none one tells wrote = absurd tells
last_written (Err faults.InputTooLong) old new before text held holds none one tells wrote = absurd tells

last_part : (told : Result (Unit {0}) RunFault) (old : TellingValue) (mid new : Place) (before text : List ℕ) (held holds : Option (List ℕ))
    → before ≡ [] → last_after old.place.stage old.rest ≡ old.rest ∷ []
    → TellsLine told old.rest old.place mid (Some before) (Some text) → (n : ℕ) × Appends held holds (take n text)
    → Finishes (Err faults.Write) old new held holds
last_part (Ok done) old mid new before text held holds none one tells wrote =
    let told = subst (λ b. TellsLines (old.rest ∷ []) old.place mid (Some b) (Some text)) none tells in
    inl (subst (λ ls. TellsSome ls old.place held holds) (sym one)
    (lines_part (old.rest ∷ []) old.place mid text held holds told wrote))
last_part (Err faults.Topology) old mid new before text held holds none one tells wrote =
    let told = subst (λ b. TellsLines (old.rest ∷ []) old.place (closed_at mid) (Some b) (Some text)) none tells in
    inl (subst (λ ls. TellsSome ls old.place held holds) (sym one)
    (lines_part (old.rest ∷ []) old.place (closed_at mid) text held holds told wrote))
last_part (Err faults.Memory) old mid new before text held holds none one tells wrote =
    inr (same_kept held holds (subst (λ t. Appends held holds t) (take_none wrote.0 text (tells ∙ none)) wrote.1))
last_part (Err faults.Write) old mid new before text held holds none one tells wrote = absurd tells
last_part (Err faults.Read) old mid new before text held holds none one tells wrote = absurd tells
last_part (Err faults.InputTooLong) old mid new before text held holds none one tells wrote = absurd tells

pub last_unwritten : (told : Result (Unit {0}) RunFault) (fault : RunFault) (old : TellingValue) (mid new : Place) (before text left : List ℕ) (held holds : Option (List ℕ))
    → before ≡ [] → last_after old.place.stage old.rest ≡ old.rest ∷ []
    → TellsLine told old.rest old.place mid (Some before) (Some text) → Writes (Err fault) text left held holds
    → Finishes (Err fault) old new held holds
last_unwritten told faults.Write old mid new before text left held holds none one tells wrote =
    last_part told old mid new before text held holds none one tells wrote
last_unwritten told faults.Topology old mid new before text left held holds none one tells wrote = absurd wrote
last_unwritten told faults.Memory old mid new before text left held holds none one tells wrote = absurd wrote
last_unwritten told faults.Read old mid new before text left held holds none one tells wrote = absurd wrote
last_unwritten told faults.InputTooLong old mid new before text left held holds none one tells wrote = absurd wrote
