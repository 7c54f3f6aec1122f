-- A run so far, and how it ends.
use Rattle.std.proofs.Common.{arith, ◌≡◌, ℕ, ◌+◌, ◌≤◌, List, [], ◌∷◌, ◌++◌, Option, Result, Ok, Err, suc, take, length, refl, sym, ap, ◌∙◌, append_assoc, append-nil, subst, inl, inr}
use Rattle.std.proofs.lemmas.List.{length-append, take_all}
use Rattle.std.specs.Io.KnownBytes.{Appends, Consumes, IsAtEnd, Keeps}
use Rattle.std.proofs.KnownBytes.{Appends-kept, Appends-trans, Consumes-kept, Consumes-trans, Consumes-nil, Appends-nil}
use Rattle.event_lines.specs.declared.fault.RunFault.{RunFault}
use Rattle.event_lines.specs.declared.fault.RunFault.TheVariants as faults
use Rattle.event_lines.specs.declared.accepted.AcceptedLines.{AcceptedLines}
use Rattle.streams.specs.Streams.{most_input}
use Rattle.event_lines.specs.Run.{AreAll, AreFirst, AreLines, BeginWithEarlier, Ends, HaveNext, Listens, Wrote, WroteSome, all_lines, ended_lines, most_read}
use Rattle.network_core.specs.Value.{NetValue}
use Rattle.event_lines.specs.Replies.{RepliesTo, RepliesToAll}
use Rattle.event_lines.specs.Answers.{Stage, Unbegun, Open, Closed, GoesOn, RepliesToInput}
use Rattle.event_lines.specs.inner.Session.{Exchanges, Finishes, HasMore, Hears, Passes, PassesSome, SessionValue, last_after, last_lines}
use Rattle.event_lines.proofs.Lines.{ended_append, joined, none_read}
use Rattle.event_lines.proofs.Telling.{told_append}
use Rattle.event_lines.proofs.Ran.{told_as_run}
use Rattle.event_lines.proofs.Writing.{IsBegun, unbegun_says}

-- these bytes were read, their lines were told, and the replies were written
pub record SoFar (accepted : AcceptedLines) (before after held holds : Option (List ℕ))
    (session : SessionValue) (count : ℕ) : Type 0 where
  pub read : List ℕ
  pub consumed : Consumes before after read
  pub counted : length read ≡ count
  pub went : List ℕ
  pub appended : Appends held holds went
  pub lines : List (List ℕ)
  pub are : AreLines read lines session.rest
  pub texts : List (List ℕ)
  pub told : RepliesToAll accepted Unbegun lines texts session.stage
  pub same : went ≡ ended_lines texts
  pub none : session.replies ≡ []
  pub few : count ≤ most_input
  pub on : GoesOn session.stage

-- nothing was read yet
pub begun : (accepted : AcceptedLines) (left held : Option (List ℕ)) (session : SessionValue)
    → session ≡ record { stage = Unbegun; rest = []; replies = [] }
    → SoFar accepted left left held held session 0
begun accepted left held session is = record {
  read = [];
  consumed = Consumes-nil left;
  counted = refl;
  went = [];
  appended = Appends-nil held;
  lines = [];
  are = subst (λ (t : SessionValue). AreLines [] [] t.rest) (sym is) (none_read [] refl);
  texts = [];
  told = (refl, ap (λ (t : SessionValue). t.stage) is);
  same = refl;
  none = ap (λ (t : SessionValue). t.replies) is;
  few = omega arith;
  on = subst (λ (t : SessionValue). GoesOn t.stage) (sym is) tt;
}

-- lines more were told, and their replies written
pub passed_on : (accepted : AcceptedLines) (before after now held holds with : Option (List ℕ)) {session : SessionValue} {count : ℕ} (bytes : List ℕ) (next : SessionValue)
    → SoFar accepted before after held holds session count → Consumes after now bytes
    → count + length bytes ≤ most_input
    → (lines : List (List ℕ)) → AreLines (session.rest ++ bytes) lines next.rest
    → Passes accepted lines session next.stage holds with → next.replies ≡ [] → GoesOn next.stage
    → SoFar accepted before now held with next (count + length bytes)
passed_on accepted before after now held holds with {session} {count} bytes next far more few lines are passes none on = record {
  read = far.read ++ bytes;
  consumed = Consumes-trans before after now far.read bytes far.consumed more;
  counted = length-append far.read bytes ∙ ap (λ n. n + length bytes) far.counted;
  went = far.went ++ ended_lines passes.texts;
  appended = Appends-trans held holds with far.went (ended_lines passes.texts) far.appended passes.kept;
  lines = far.lines ++ lines;
  are = joined bytes far.are are;
  texts = far.texts ++ passes.texts;
  told = told_append accepted Unbegun session.stage next.stage far.lines lines far.texts passes.texts far.told passes.told;
  same = ap (λ l. l ++ ended_lines passes.texts) far.same ∙ sym (ended_append far.texts passes.texts);
  none = none;
  few = few;
  on = on;
}

-- what was told so far is a run
as_run : (accepted : AcceptedLines) {before after held holds : Option (List ℕ)} {session : SessionValue} {count : ℕ}
    → (far : SoFar accepted before after held holds session count)
    → RepliesToInput accepted far.lines far.texts session.stage
as_run accepted {session} far = told_as_run accepted far.lines far.texts session.stage far.told

-- ---- what was written

-- the replies to lines more
written_on : (accepted : AcceptedLines) {before after held holds : Option (List ℕ)} (with : Option (List ℕ)) {session : SessionValue} {count : ℕ} (lines : List (List ℕ)) (stage : Stage)
    → (far : SoFar accepted before after held holds session count) → Passes accepted lines session stage holds with
    → (went : List ℕ) × (Appends held with went × Wrote accepted (far.lines ++ lines) went stage)
written_on accepted {before} {after} {held} {holds} with {session} {count} lines stage far passes = (
  far.went ++ ended_lines passes.texts,
  (
    Appends-trans held holds with far.went (ended_lines passes.texts) far.appended passes.kept,
    (
      far.texts ++ passes.texts,
      (
        told_as_run accepted (far.lines ++ lines) (far.texts ++ passes.texts) stage
            (told_append accepted Unbegun session.stage stage far.lines lines far.texts passes.texts far.told passes.told),
        ap (λ l. l ++ ended_lines passes.texts) far.same ∙ sym (ended_append far.texts passes.texts),
      ),
    ),
  ),
)

-- a list and a front of another
pub take_behind : (xs ys : List ℕ) (n : ℕ) → xs ++ take n ys ≡ take (length xs + n) (xs ++ ys)
take_behind [] ys n = ap (λ k. take k ys) (omega arith)
take_behind (x ∷ xs) ys n =
    let next : suc (length xs + n) ≡ length (x ∷ xs) + n = omega arith in
    ap (λ l. x ∷ l) (take_behind xs ys n) ∙ ap (λ k. take k (x ∷ (xs ++ ys))) next

-- a beginning of the replies to lines more
some_on : (accepted : AcceptedLines) {before after held holds : Option (List ℕ)} (with : Option (List ℕ)) {session : SessionValue} {count : ℕ} (lines : List (List ℕ))
    → (far : SoFar accepted before after held holds session count) → PassesSome accepted lines session holds with
    → (went : List ℕ) × (Appends held with went × WroteSome accepted (far.lines ++ lines) went)
some_on accepted {before} {after} {held} {holds} with {session} {count} lines far passes = (
  far.went ++ take passes.most (ended_lines passes.texts),
  (
    Appends-trans held holds with far.went (take passes.most (ended_lines passes.texts)) far.appended passes.kept,
    (
      far.texts ++ passes.texts,
      passes.stage,
      length far.went + passes.most,
      (
        told_as_run accepted (far.lines ++ lines) (far.texts ++ passes.texts) passes.stage
            (told_append accepted Unbegun session.stage passes.stage far.lines lines far.texts passes.texts far.told passes.told),
        take_behind far.went (ended_lines passes.texts) passes.most
            ∙ ap (take (length far.went + passes.most))
            (ap (λ l. l ++ ended_lines passes.texts) far.same ∙ sym (ended_append far.texts passes.texts)),
      ),
    ),
  ),
)

-- ---- the lines that were read

-- the first of what was read, with more
first_on : (accepted : AcceptedLines) {before after held holds : Option (List ℕ)} {session : SessionValue} {count : ℕ} (bytes : List ℕ) (lines later : List (List ℕ)) (rest : List ℕ)
    → (far : SoFar accepted before after held holds session count)
    → AreLines (session.rest ++ bytes) (lines ++ later) rest
    → AreFirst (far.read ++ bytes) (far.lines ++ lines)
first_on accepted bytes lines later rest far are = (
  later,
  rest,
  subst (λ ls. AreLines (far.read ++ bytes) ls rest) (sym (append_assoc far.lines lines later))
      (joined bytes far.are are),
)

-- the first of what was read, as it stands
first_of : (accepted : AcceptedLines) {before after held holds : Option (List ℕ)} {session : SessionValue} {count : ℕ}
    → (far : SoFar accepted before after held holds session count) → AreFirst far.read far.lines
first_of accepted {session} far =
    ([], session.rest, subst (λ ls. AreLines far.read ls session.rest) (sym (append-nil far.lines)) far.are)

-- a line follows these
pub next_of : (lines later : List (List ℕ)) (rest : List ℕ) → HasMore later rest
    → (next : List ℕ) × (after : List (List ℕ)) × (all_lines (lines ++ later) rest ≡ lines ++ next ∷ after)
next_of lines [] [] more = absurd more
next_of [] (line ∷ later) [] more = (line, later, refl)
next_of (l ∷ ls) (line ∷ later) [] more = (line, later, refl)
next_of [] (line ∷ later) (b ∷ rest) more = (line, later ++ (b ∷ rest) ∷ [], refl)
next_of (l ∷ ls) (line ∷ later) (b ∷ rest) more =
    (line, later ++ (b ∷ rest) ∷ [], ap (λ x. l ∷ x) (append_assoc ls (line ∷ later) ((b ∷ rest) ∷ [])))
next_of [] [] (b ∷ rest) more = (b ∷ rest, [], refl)
next_of (l ∷ ls) [] (b ∷ rest) more = (b ∷ rest, [], ap (λ x. l ∷ (x ++ (b ∷ rest) ∷ [])) (append-nil ls))

-- a line of what was read follows these
next_on : (accepted : AcceptedLines) {before after held holds : Option (List ℕ)} {session : SessionValue} {count : ℕ} (bytes : List ℕ) (lines later : List (List ℕ)) (rest : List ℕ)
    → (far : SoFar accepted before after held holds session count)
    → AreLines (session.rest ++ bytes) (lines ++ later) rest → HasMore later rest
    → HaveNext (far.read ++ bytes) (far.lines ++ lines)
next_on accepted bytes lines later rest far are more =
    let (next, after, same) = next_of (far.lines ++ lines) later rest more in
    let first =
    subst (λ ls. AreLines (far.read ++ bytes) ls rest) (sym (append_assoc far.lines lines later)) (joined bytes far.are are) in
    ((far.lines ++ lines) ++ later, rest, next, after, (first, same))

-- where lines were told a run has begun
says_begun : (accepted : AcceptedLines) (start next : Stage) (line text : List ℕ)
    → RepliesTo accepted start line text next → IsBegun next
says_begun accepted start Unbegun line text says = absurd (unbegun_says accepted start line text says)
says_begun accepted start (Open net) line text says = tt
says_begun accepted start Closed line text says = tt

told_begun : (accepted : AcceptedLines) (start stage : Stage) (line : List ℕ) (lines texts : List (List ℕ))
    → RepliesToAll accepted start (line ∷ lines) texts stage → IsBegun stage
told_begun accepted start stage line lines [] told = absurd told
told_begun accepted start stage line [] (text ∷ texts) told =
    subst IsBegun (sym told.1.1.1) (says_begun accepted start told.0 line text told.1.0)
told_begun accepted start stage line (next ∷ lines) (text ∷ texts) told =
    told_begun accepted told.0 stage next lines texts told.1.1

-- what is left is the last line
last_begun : (stage : Stage) (line rest : List ℕ) (lines : List (List ℕ)) → IsBegun stage
    → (line ∷ lines) ++ last_after stage rest ≡ all_lines (line ∷ lines) rest
last_begun Unbegun line rest lines begun = absurd begun
last_begun (Open net) line [] lines begun = append-nil (line ∷ lines)
last_begun (Open net) line (b ∷ rest) lines begun = refl
last_begun Closed line [] lines begun = append-nil (line ∷ lines)
last_begun Closed line (b ∷ rest) lines begun = refl

pub all_told : (accepted : AcceptedLines) (lines texts : List (List ℕ)) (stage : Stage) (rest : List ℕ)
    → RepliesToAll accepted Unbegun lines texts stage
    → lines ++ last_after stage rest ≡ all_lines lines rest
all_told accepted [] texts stage rest told = ap (λ s. last_after s rest) told.1
all_told accepted (line ∷ lines) texts stage rest told =
    last_begun stage line rest lines (told_begun accepted Unbegun stage line lines texts told)

-- all lines of what was read
all_of : (accepted : AcceptedLines) {before after held holds : Option (List ℕ)} {session : SessionValue} {count : ℕ} (at_end : Type 0)
    → (far : SoFar accepted before after held holds session count) → at_end
    → AreAll at_end far.read (far.lines ++ last_lines session)
all_of accepted {session} at_end far end =
    (far.lines, session.rest, (far.are, (end, all_told accepted far.lines far.texts session.stage session.rest far.told)))

-- the last line of what was read follows those that were told
next_last : (accepted : AcceptedLines) {before after held holds : Option (List ℕ)} {session : SessionValue} {count : ℕ}
    → (far : SoFar accepted before after held holds session count) → last_lines session ≡ session.rest ∷ []
    → HaveNext far.read far.lines
next_last accepted {session} far one = (
  far.lines,
  session.rest,
  session.rest,
  [],
  (far.are, sym (all_told accepted far.lines far.texts session.stage session.rest far.told) ∙ ap (λ ls. far.lines ++ ls) one),
)

-- nothing more came, so all lines that ended were told
earlier_all : (accepted : AcceptedLines) {before after held holds : Option (List ℕ)}
    {session : SessionValue} {count : ℕ}
    → (far : SoFar accepted before after held holds session count)
    → BeginWithEarlier far.read far.lines
earlier_all accepted {session = session} far = (
  far.read,
  [],
  far.lines,
  [],
  session.rest,
  (sym (append-nil far.read), (omega arith, (far.are, sym (append-nil far.lines)))),
)

-- the last read brought these bytes, and further lines were told
earlier_on : (accepted : AcceptedLines) {before after held holds : Option (List ℕ)}
    {session : SessionValue} {count : ℕ} (bytes : List ℕ) (lines : List (List ℕ))
    → (far : SoFar accepted before after held holds session count) → length bytes ≤ 8192
    → BeginWithEarlier (far.read ++ bytes) (far.lines ++ lines)
earlier_on accepted {session = session} bytes lines far room =
    (far.read, bytes, far.lines, lines, session.rest, (refl, (room, (far.are, refl))))

-- ---- how a run ends

-- nothing more was read
still : (before after now : Option (List ℕ)) (read bytes : List ℕ) → bytes ≡ []
    → Consumes before after read → Consumes after now bytes → Consumes before now read
still before after now read bytes none first then =
    subst (Consumes before now) (ap (λ l. read ++ l) none ∙ append-nil read)
    (Consumes-trans before after now read bytes first then)

-- nothing more came, and the run ended
ended : (accepted : AcceptedLines) (result : Result NetValue RunFault) {before after held holds : Option (List ℕ)} (now with : Option (List ℕ)) {session : SessionValue} {count : ℕ} (bytes went : List ℕ)
    (far : SoFar accepted before after held holds session count) → bytes ≡ [] → Consumes after now bytes
    → most_input ≤ most_read result
    → Appends held with went → Ends accepted result (IsAtEnd now) far.read went
    → Listens accepted result before now held with
ended accepted result {before} {after} now with bytes went far none more most appended ends =
    (far.read, went, (still before after now far.read bytes none far.consumed more, (appended, (omega (arith, far.counted, far.few, most), ends))))

-- at the end of the input the run stands in a network
ends_reached : (accepted : AcceptedLines) (before after now held holds with : Option (List ℕ)) {session : SessionValue} {count : ℕ} (bytes : List ℕ)
    (stage : Stage) (net : NetValue)
    → SoFar accepted before after held holds session count → bytes ≡ [] → Consumes after now bytes → IsAtEnd now
    → Finishes accepted (Ok tt) session stage holds with → stage ≡ Open net
    → Listens accepted (Ok net) before now held with
ends_reached accepted before after now held holds with {session = session} bytes stage net far none more end finishes is =
    let passes =
    subst (λ s. Passes accepted (last_lines session) session s holds with) (sym finishes.1.0 ∙ is) finishes.1.1 in
    let wrote = written_on accepted with (last_lines session) (Open net) far passes in
    ended accepted (Ok net) now with bytes wrote.0 far none more (omega arith) wrote.1.0
    (far.lines ++ last_lines session, (all_of accepted (IsAtEnd now) far end, wrote.1.1))

-- the last line could not be answered
ends_unfinished : (accepted : AcceptedLines) (before after now held holds with : Option (List ℕ)) {session : SessionValue} {count : ℕ} (bytes : List ℕ)
    (stage : Stage) (fault : RunFault)
    → SoFar accepted before after held holds session count → bytes ≡ [] → Consumes after now bytes → IsAtEnd now
    → Finishes accepted (Err fault) session stage holds with → Listens accepted (Err fault) before now held with
ends_unfinished accepted before after now held holds with {session = session} bytes stage faults.Topology far none more end finishes =
    let wrote = written_on accepted with (last_lines session) Closed far finishes in
    ended accepted (Err faults.Topology) now with bytes wrote.0 far none more (omega arith) wrote.1.0
    (far.lines ++ last_lines session, (inr (all_of accepted (IsAtEnd now) far end), wrote.1.1))
ends_unfinished accepted before after now held holds with {session = session} bytes stage faults.Memory far none more end finishes =
    ended accepted (Err faults.Memory) now with bytes far.went far none more (omega arith)
    (Appends-kept held holds with far.went far.appended finishes.1) (
      far.lines,
      (
        next_last accepted far finishes.0,
        (
          earlier_all accepted far,
          (session.stage, (far.on, (far.texts, (as_run accepted far, far.same)))),
        ),
      ),
    )
ends_unfinished accepted before after now held holds with {session = session} bytes stage faults.Write far none more end
    (inl finishes) =
    let wrote = some_on accepted with (last_lines session) far finishes in
    ended accepted (Err faults.Write) now with bytes wrote.0 far none more (omega arith) wrote.1.0
    (far.lines ++ last_lines session, (inr (all_of accepted (IsAtEnd now) far end), wrote.1.1))
ends_unfinished accepted before after now held holds with {session = session} bytes stage faults.Write far none more end
    (inr finishes) =
    let whole = sym (take_all (length far.went) far.went (omega arith)) ∙ ap (take (length far.went)) far.same in
    ended accepted (Err faults.Write) now with bytes far.went far none more (omega arith)
    (Appends-kept held holds with far.went far.appended finishes)
    (far.lines, (inl (first_of accepted far), (far.texts, session.stage, length far.went, (as_run accepted far, whole))))
ends_unfinished accepted before after now held holds with bytes stage faults.Read far none more end finishes =
    absurd finishes
ends_unfinished accepted before after now held holds with bytes stage faults.InputTooLong far none more end finishes =
    absurd finishes

-- at the end of the input the last line was answered, or could not be
pub ends_finished : (accepted : AcceptedLines) (before after now held holds with : Option (List ℕ)) {session : SessionValue} {count : ℕ} (bytes : List ℕ)
    (stage : Stage) (result : Result (Unit {0}) RunFault)
    → SoFar accepted before after held holds session count → bytes ≡ [] → Consumes after now bytes → IsAtEnd now
    → Finishes accepted result session stage holds with → Hears accepted result stage before now held with
ends_finished accepted before after now held holds with bytes stage (Ok done) far none more end finishes =
    (finishes.0, (finishes.1.0, ends_reached accepted before after now held holds with bytes stage finishes.0 far none more end finishes finishes.1.0))
ends_finished accepted before after now held holds with bytes stage (Err fault) far none more end finishes =
    ends_unfinished accepted before after now held holds with bytes stage fault far none more end finishes

-- a read failed
pub ends_unread : (accepted : AcceptedLines) (before after now held holds : Option (List ℕ)) {session : SessionValue} {count : ℕ}
    → SoFar accepted before after held holds session count → Keeps after now
    → Listens accepted (Err faults.Read) before now held holds
ends_unread accepted before after now held holds {session} far kept = (
  far.read,
  far.went,
  (
    Consumes-kept before after now far.read far.consumed kept,
    (
      far.appended,
      (
        omega (arith, far.counted, far.few),
        (far.lines, session.rest, (far.are, (session.stage, (far.on, (far.texts, (as_run accepted far, far.same)))))),
      ),
    ),
  ),
)

-- a byte too many came
pub ends_too_long : (accepted : AcceptedLines) (before after now held holds : Option (List ℕ)) {session : SessionValue} {count : ℕ} (bytes : List ℕ)
    → SoFar accepted before after held holds session count → count ≡ most_input → ¬ (bytes ≡ []) → length bytes ≤ 1
    → Consumes after now bytes → Listens accepted (Err faults.InputTooLong) before now held holds
ends_too_long accepted before after now held holds [] far full some few more = absurd (some refl)
ends_too_long accepted before after now held holds {session = session} (b ∷ []) far full some few more = (
  far.read ++ b ∷ [],
  far.went,
  (
    Consumes-trans before after now far.read (b ∷ []) far.consumed more,
    (
      far.appended,
      (
        omega (arith, length-append far.read (b ∷ []), far.counted, full),
        (
          far.read,
          b,
          (
            refl,
            (
              far.counted ∙ full,
              (far.lines, session.rest, (far.are, (session.stage, (far.on, (far.texts, (as_run accepted far, far.same)))))),
            ),
          ),
        ),
      ),
    ),
  ),
)
ends_too_long accepted before after now held holds (b ∷ x ∷ bytes) far full some few more = absurd (omega (arith, few))

-- what was read and written by a run that ended, and how it ended
abbrev Ended : AcceptedLines → Result NetValue RunFault → Type 0 → Option (List ℕ) → Option (List ℕ)
    → Option (List ℕ) → Option (List ℕ) → Type 0
Ended accepted result at_end before now held with =
    (read went : List ℕ) × (Consumes before now read × (Appends held with went
    × ((length read ≤ most_read result) × Ends accepted result at_end read went)))

-- these bytes came, and the run ended
ended_on : (accepted : AcceptedLines) (result : Result NetValue RunFault) (at_end : Type 0) {before after held holds : Option (List ℕ)} (now with : Option (List ℕ)) {session : SessionValue} {count : ℕ}
    (bytes went : List ℕ) (far : SoFar accepted before after held holds session count) → count + length bytes ≤ most_input → Consumes after now bytes
    → most_input ≤ most_read result → Appends held with went
    → Ends accepted result at_end (far.read ++ bytes) went → Ended accepted result at_end before now held with
ended_on accepted result at_end {before} {after} now with bytes went far few more most appended ends = (
  far.read ++ bytes,
  went,
  (
    Consumes-trans before after now far.read bytes far.consumed more,
    (appended, (omega (arith, length-append far.read bytes, far.counted, few, most), ends)),
  ),
)

-- the lines of what came could not all be answered
pub ends_short : (accepted : AcceptedLines) (before after now held holds with : Option (List ℕ)) (session new : SessionValue) {count : ℕ} (bytes : List ℕ) (fault : RunFault) (at_end : Type 0)
    → SoFar accepted before after held holds session count → count + length bytes ≤ most_input
    → length bytes ≤ 8192 → Consumes after now bytes
    → Exchanges accepted (Err fault) bytes session new holds with
    → Ended accepted (Err fault) at_end before now held with
ends_short accepted before after now held holds with session new bytes faults.Topology at_end far few room more exchanges =
    let (lines, later, rest, (are, (passes, clean))) = exchanges in
    let wrote = written_on accepted with lines Closed far passes in
    ended_on accepted (Err faults.Topology) at_end now with bytes wrote.0 far few more (omega arith) wrote.1.0
    (far.lines ++ lines, (inl (first_on accepted bytes lines later rest far are), wrote.1.1))
ends_short accepted before after now held holds with session new bytes faults.Memory at_end far few room more exchanges =
    let (lines, later, rest, (stage, (are, (left, (on, (passes, clean)))))) = exchanges in
    let wrote = written_on accepted with lines stage far passes in
    ended_on accepted (Err faults.Memory) at_end now with bytes wrote.0 far few more (omega arith) wrote.1.0 (
      far.lines ++ lines,
      (
        next_on accepted bytes lines later rest far are left,
        (earlier_on accepted bytes lines far room, (stage, (on, wrote.1.1))),
      ),
    )
ends_short accepted before after now held holds with session new bytes faults.Write at_end far few room more exchanges =
    let (lines, later, rest, (are, passes)) = exchanges in
    let wrote = some_on accepted with lines far passes in
    ended_on accepted (Err faults.Write) at_end now with bytes wrote.0 far few more (omega arith) wrote.1.0
    (far.lines ++ lines, (inl (first_on accepted bytes lines later rest far are), wrote.1.1))
ends_short accepted before after now held holds with session new bytes faults.Read at_end far few room more exchanges =
    absurd exchanges
ends_short accepted before after now held holds with session new bytes faults.InputTooLong at_end far few room more exchanges = absurd exchanges
