-- Lines that are told one after another, up to where they were read.
use Rattle.std.proofs.Common.{arith, rules, ◌≡◌, ℕ, ◌+◌, ◌<◌, ◌≤◌, ◌||◌, Bool, true, false, List, [], ◌∷◌, ◌++◌, length, take, ◌==◌, Option, Some, None, Result, Ok, Err, refl, sym, ap, ◌∙◌, append_assoc, append-nil, subst}
use Rattle.std.proofs.lemmas.Grind.{flat_map-append}
use Rattle.std.proofs.lemmas.List.{length-append}
use Rattle.std.specs.Io.KnownBytes.{Appends, Keeps}
use Rattle.std.proofs.KnownBytes.{Appends-kept, Appends-nil, Appends-trans}
use Rattle.event_lines.specs.declared.fault.RunFault.{RunFault}
use Rattle.event_lines.specs.declared.fault.RunFault.TheVariants as faults
use Rattle.event_lines.specs.declared.accepted.AcceptedLines.TheVariants.{All}
use Rattle.network_core.specs.Value.{NetValue}
use Rattle.event_lines.specs.Answers.{Stage, Unbegun, Open, Closed, GoesOn}
use Rattle.event_lines.specs.Replies.{RepliesTo, RepliesToAll, RepliesUnlessFull}
use Rattle.event_lines.specs.Run.{AreLines, IsLineCut, has_line_end, line_end}
use Rattle.event_lines.specs.inner.Session.{HasMore, last_after}
use Rattle.event_lines.proofs.Heard.{front_more, has_more, line_read}
use Rattle.event_lines.proofs.Lines.{cut_of, grown, joined, none_read}
use Rattle.event_lines.proofs.Running.{take_behind}
use Rattle.event_lines.proofs.Telling.{told_append, told_one}
use Rattle.line_faults.specs.declared.finding.FindingForm.{FindingForm}
use Rattle.line_faults.specs.Finding.{FindingValue, all_written, has_any, written}
use Rattle.line_faults.specs.Explanation.{AreTold, IsTold}
use Rattle.line_faults.specs.inner.Telling.{Place, Tally, TellingValue, TellsBytes, TellsLine, TellsLines, TellsReply, TellsSome, closed_at, with_told}

-- ---- what is found in lines behind lines

said_append : (first : ℕ) (lines then replies others : List (List ℕ)) (findings more : List FindingValue)
    → AreTold first lines replies findings → AreTold (first + length replies) then others more
    → AreTold first (lines ++ then) (replies ++ others) (findings ++ more)
said_append first [] then [] others findings more is behind =
    let same : first + length {A = List ℕ} [] ≡ first = omega arith in
    subst (λ fs. AreTold first then others (fs ++ more)) (sym is)
    (subst (λ n. AreTold n then others more) same behind)
said_append first [] then (reply ∷ replies) others findings more is behind = absurd is
said_append first (line ∷ lines) then [] others findings more is behind = absurd is
said_append first (line ∷ lines) then (reply ∷ replies) others findings more is behind =
    let (told, later, (one, (rest, whole))) = is in
    let same : first + length (reply ∷ replies) ≡ (first + 1) + length replies = omega arith in (
      told,
      later ++ more,
      (
        one,
        (
          said_append (first + 1) lines then replies others later more rest
              (subst (λ n. AreTold n then others more) same behind),
          ap (λ fs. fs ++ more) whole ∙ append_assoc told later more,
        ),
      ),
    )

-- what is found in one line
said_one : (number : ℕ) (line reply : List ℕ) (findings : List FindingValue) → IsTold number line reply findings
    → AreTold number (line ∷ []) (reply ∷ []) findings
said_one number line reply findings told = (findings, [], (told, (refl, sym (append-nil findings))))

-- ---- what was told

any_none : (was : Bool) → was ≡ (was || false)
any_none true = refl
any_none false = refl

any_append : (was : Bool) (one other : List FindingValue)
    → ((was || has_any one) || has_any other) ≡ (was || has_any (one ++ other))
any_append true one other = refl
any_append false [] other = refl
any_append false (f ∷ one) other = refl

told_none : (tally : Tally) → tally ≡ with_told tally 0 []
told_none tally =
    let number : tally.number + 0 ≡ tally.number = omega arith in
    rw (number, sym (any_none tally.found)) refl

told_twice : (tally : Tally) (n m : ℕ) (one other : List FindingValue)
    → with_told (with_told tally n one) m other ≡ with_told tally (n + m) (one ++ other)
told_twice tally n m one other =
    let number : (tally.number + n) + m ≡ tally.number + (n + m) = omega arith in
    rw (number, any_append tally.found one other) refl

-- ---- lines

pub lines_none : (at : Place) (held : Option (List ℕ)) → TellsLines [] at at held held
lines_none at held = record {
  replies = [];
  findings = [];
  replied = (refl, refl);
  told = refl;
  kept = Appends-nil held;
  count = told_none at.tally;
}

-- the findings of some lines behind those of others, in one form
joined_texts : (form : FindingForm) (one other : List FindingValue)
    → all_written form one ++ all_written form other ≡ all_written form (one ++ other)
joined_texts form one other = sym (flat_map-append (λ finding. written form finding) one other)

pub lines_append : (first then : List (List ℕ)) (old middle new : Place) (held mid holds : Option (List ℕ))
    → TellsLines first old middle held mid → TellsLines then middle new mid holds
    → TellsLines (first ++ then) old new held holds
lines_append first then old middle new held mid holds one other =
    let form = old.tally.form in
    let number : middle.tally.number ≡ old.tally.number + length one.replies = ap (λ (t : Tally). t.number) one.count in
    let same : middle.tally.number + 1 ≡ (old.tally.number + 1) + length one.replies = omega (arith, number) in
    let alike : middle.tally.form ≡ form = ap (λ (t : Tally). t.form) one.count in
    let more : Appends mid holds (all_written form other.findings) =
    subst (λ f. Appends mid holds (all_written f other.findings)) alike other.kept in
    record {
      replies = one.replies ++ other.replies;
      findings = one.findings ++ other.findings;
      replied = told_append All old.stage middle.stage new.stage first then one.replies other.replies one.replied other.replied;
      told = said_append (old.tally.number + 1) first then one.replies other.replies one.findings other.findings one.told
          (subst (λ n. AreTold n then other.replies other.findings) same other.told);
      kept = subst (Appends held holds) (joined_texts form one.findings other.findings)
          (Appends-trans held mid holds (all_written form one.findings) (all_written form other.findings) one.kept more);
      count = other.count ∙ ap (λ (t : Tally). with_told t (length other.replies) other.findings) one.count
          ∙ told_twice old.tally (length one.replies) (length other.replies) one.findings other.findings
          ∙ ap (λ n. with_told old.tally n (one.findings ++ other.findings)) (sym (length-append one.replies other.replies));
    }

pub lines_some : (first then : List (List ℕ)) (old middle : Place) (held mid holds : Option (List ℕ))
    → TellsLines first old middle held mid → TellsSome then middle mid holds
    → TellsSome (first ++ then) old held holds
lines_some first then old middle held mid holds one other =
    let form = old.tally.form in
    let number : middle.tally.number ≡ old.tally.number + length one.replies = ap (λ (t : Tally). t.number) one.count in
    let same : middle.tally.number + 1 ≡ (old.tally.number + 1) + length one.replies = omega (arith, number) in
    let alike : middle.tally.form ≡ form = ap (λ (t : Tally). t.form) one.count in
    let before = all_written form one.findings in
    let behind = all_written form other.findings in
    let more : Appends mid holds (take other.most behind) =
    subst (λ f. Appends mid holds (take other.most (all_written f other.findings))) alike other.kept in
    record {
      replies = one.replies ++ other.replies;
      stage = other.stage;
      findings = one.findings ++ other.findings;
      most = length before + other.most;
      replied = told_append All old.stage middle.stage other.stage first then one.replies other.replies one.replied other.replied;
      told = said_append (old.tally.number + 1) first then one.replies other.replies one.findings other.findings one.told
          (subst (λ n. AreTold n then other.replies other.findings) same other.told);
      kept = subst (λ t. Appends held holds (take (length before + other.most) t))
          (joined_texts form one.findings other.findings)
          (subst (Appends held holds) (take_behind before behind other.most)
          (Appends-trans held mid holds before (take other.most behind) one.kept more));
    }

pub lines_kept : (lines : List (List ℕ)) (old new : Place) (held mid holds : Option (List ℕ))
    → TellsLines lines old new held mid → Keeps mid holds → TellsLines lines old new held holds
lines_kept lines old new held mid holds told kept = record {
  replies = told.replies;
  findings = told.findings;
  replied = told.replied;
  told = told.told;
  kept = Appends-kept held mid holds (all_written old.tally.form told.findings) told.kept kept;
  count = told.count;
}

-- ---- one line

pub line_told : (line reply : List ℕ) (old new : Place) (held holds : Option (List ℕ))
    → RepliesTo All old.stage line reply new.stage → TellsReply (Ok tt) line reply old.tally new.tally held holds
    → TellsLine (Ok tt) line old new held holds
line_told line reply old new held holds says tells =
    let (findings, (told, (kept, count))) = tells in record {
      replies = reply ∷ [];
      findings = findings;
      replied = told_one All old.stage new.stage line reply says;
      told = said_one (old.tally.number + 1) line reply findings told;
      kept = kept;
      count = count;
    }

-- a line was answered, and what there is to say of it was not added
pub line_untold : (fault : RunFault) (line reply : List ℕ) (old : Place) (stage : Stage) (tally : Tally) (new : Place)
    (held holds : Option (List ℕ))
    → RepliesTo All old.stage line reply stage → TellsReply (Err fault) line reply old.tally tally held holds
    → TellsLine (Err fault) line old new held holds
line_untold faults.Memory line reply old stage tally new held holds says tells = tells
line_untold faults.Write line reply old stage tally new held holds says tells = absurd tells
line_untold faults.Topology line reply old stage tally new held holds says tells = absurd tells
line_untold faults.Read line reply old stage tally new held holds says tells = absurd tells
line_untold faults.InputTooLong line reply old stage tally new held holds says tells = absurd tells

pub line_after : (result : Result (Unit {0}) RunFault) (line reply : List ℕ) (old new : Place) (held holds : Option (List ℕ))
    → RepliesTo All old.stage line reply new.stage → TellsReply result line reply old.tally new.tally held holds
    → TellsLine result line old new held holds
line_after (Ok done) line reply old new held holds says tells = line_told line reply old new held holds says tells
line_after (Err fault) line reply old new held holds says tells =
    line_untold fault line reply old new.stage new.tally new held holds says tells

-- the reply by which a topology is refused
pub refused_says : (result : Result (Unit {0}) RunFault) (old new : Stage) (line reply : List ℕ)
    → result ≡ Err faults.Topology → RepliesUnlessFull All result old line reply new
    → RepliesTo All old line reply Closed
refused_says result old new line reply is says =
    subst (λ (r : Result (Unit {0}) RunFault). RepliesUnlessFull All r old line reply new) is says

-- each line has one reply
replies_count : (start stage : Stage) (lines replies : List (List ℕ)) → RepliesToAll All start lines replies stage
    → length replies ≡ length lines
replies_count start stage [] replies is = ap length is.0
replies_count start stage (line ∷ lines) [] is = absurd is
replies_count start stage (line ∷ lines) (reply ∷ replies) is =
    let later = replies_count is.0 stage lines replies is.1.1 in omega (arith, later)

-- ---- the last line

pub last_unbegun : (stage : Stage) (rest : List ℕ) → Unbegun ≡ stage → last_after stage rest ≡ rest ∷ []
last_unbegun stage rest is = subst (λ s. last_after s rest ≡ rest ∷ []) is refl

pub last_begun : (stage : Stage) (net : NetValue) (rest : List ℕ) → Open net ≡ stage → (length rest == 0) ≡ false
    → last_after stage rest ≡ rest ∷ []
last_begun stage net [] is some = absurd (search (rules, some))
last_begun stage net (b ∷ rest) is some = subst (λ s. last_after s (b ∷ rest) ≡ (b ∷ rest) ∷ []) is refl

pub last_empty : (stage : Stage) (net : NetValue) (rest : List ℕ) → Open net ≡ stage → (length rest == 0) ≡ true
    → last_after stage rest ≡ []
last_empty stage net [] is none = subst (λ s. last_after s [] ≡ []) is refl
last_empty stage net (b ∷ rest) is none = absurd (search (rules, none))

-- ---- the lines of some bytes

-- what was not added to
pub same_held : (held : Option (List ℕ)) → Keeps held held
same_held None = tt
same_held (Some bytes) = refl

-- the lines told are no more than the bytes
pub line_counted : (left line behind : List ℕ) (old new : Place) (held holds : Option (List ℕ)) (most : ℕ)
    → IsLineCut left line behind → (other : List ℕ) → TellsLines (other ∷ []) old new held holds
    → old.tally.number + length left ≤ most → new.tally.number + length behind ≤ most
line_counted left line behind old new held holds most cut other tells few =
    let one = replies_count old.stage new.stage (other ∷ []) tells.replies tells.replied in
    let number : new.tally.number ≡ old.tally.number + length tells.replies = ap (λ (t : Tally). t.number) tells.count in
    let whole = ap (λ l. length l) cut.whole ∙ length-append line (line_end ∷ behind) in
    omega (arith, one, whole, number, few)

-- of the bytes a front was told, and these are left
pub record Front (bytes left : List ℕ) (old now : TellingValue) (held holds : Option (List ℕ)) : Type 0 where
  pub front : List ℕ
  pub lines : List (List ℕ)
  pub whole : bytes ≡ front ++ left
  pub are : AreLines (old.rest ++ front) lines now.rest
  pub told : TellsLines lines old.place now.place held holds

pub front_none : (bytes : List ℕ) (old : TellingValue) (held : Option (List ℕ))
    → has_line_end old.rest ≡ false → Front bytes bytes old old held held
front_none bytes old held none = record {
  front = [];
  lines = [];
  whole = refl;
  are = subst (λ l. AreLines l [] old.rest) (sym (append-nil old.rest)) (none_read old.rest none);
  told = lines_none old.place held;
}

-- one line more was told
pub front_line : (bytes left line behind : List ℕ) (old now : TellingValue) (next : Place) (held mid holds : Option (List ℕ))
    → Front bytes left old now held mid → IsLineCut left line behind
    → TellsLines ((now.rest ++ line) ∷ []) now.place next mid holds
    → Front bytes behind old (record { place = next; rest = [] }) held holds
front_line bytes left line behind old now next held mid holds far cut tells = record {
  front = far.front ++ (line ++ line_end ∷ []);
  lines = far.lines ++ (now.rest ++ line) ∷ [];
  whole = far.whole ∙ ap (λ l. far.front ++ l) cut.whole ∙ front_more far.front line behind;
  are = subst (λ l. AreLines l (far.lines ++ (now.rest ++ line) ∷ []) [])
      (append_assoc old.rest far.front (line ++ line_end ∷ [])) (line_read line far.are cut.one);
  told = lines_append far.lines ((now.rest ++ line) ∷ []) old.place now.place next held mid holds far.told tells;
}

-- what is left is read to its end, whatever it is
record Later (bytes left : List ℕ) (old : TellingValue) (lines : List (List ℕ)) : Type 0 where
  later : List (List ℕ)
  rest : List ℕ
  are : AreLines (old.rest ++ bytes) (lines ++ later) rest
  more : 0 < length left → HasMore later rest

later_of : (bytes left : List ℕ) (old now : TellingValue) (held holds : Option (List ℕ))
    → (far : Front bytes left old now held holds) → Later bytes left old far.lines
later_of bytes left old now held holds far =
    let cut = cut_of (now.rest ++ left) in record {
      later = cut.lines;
      rest = cut.rest;
      are = subst (λ l. AreLines l (far.lines ++ cut.lines) cut.rest)
          (append_assoc old.rest far.front left ∙ ap (λ l. old.rest ++ l) (sym far.whole))
          (joined left far.are cut.are);
      more = λ some. has_more (now.rest ++ left) cut.lines cut.rest cut.are (omega (arith, some, length-append now.rest left));
    }

-- memory ran out
pub front_short : (bytes left : List ℕ) (old now new : TellingValue) (held mid holds : Option (List ℕ))
    → Front bytes left old now held mid → Keeps mid holds → 0 < length left → GoesOn now.place.stage
    → TellsBytes (Err faults.Memory) bytes old new held holds
front_short bytes left old now new held mid holds far kept some on =
    let all = later_of bytes left old now held mid far in (
      far.lines,
      all.later,
      all.rest,
      now.place,
      (all.are, (all.more some, (on, lines_kept far.lines old.place now.place held mid holds far.told kept))),
    )

-- the topology of the last line is refused
front_closed : (bytes left line behind : List ℕ) (old now new : TellingValue) (held mid holds : Option (List ℕ))
    → Front bytes left old now held mid → IsLineCut left line behind
    → TellsLines ((now.rest ++ line) ∷ []) now.place (closed_at new.place) mid holds
    → TellsBytes (Err faults.Topology) bytes old new held holds
front_closed bytes left line behind old now new held mid holds far cut tells =
    let closed = closed_at new.place in
    let last = front_line bytes left line behind old now closed held mid holds far cut tells in
    let all = later_of bytes behind old (record { place = closed; rest = [] }) held holds last in
    (last.lines, all.later, all.rest, (all.are, last.told))

-- the last line was not told, or was refused as a topology
pub front_failed : (bytes left line behind : List ℕ) (old now new : TellingValue) (fault : RunFault) (held mid holds : Option (List ℕ))
    → Front bytes left old now held mid → IsLineCut left line behind
    → TellsLine (Err fault) (now.rest ++ line) now.place new.place mid holds → GoesOn now.place.stage
    → TellsBytes (Err fault) bytes old new held holds
front_failed bytes left line behind old now new faults.Topology held mid holds far cut tells on =
    front_closed bytes left line behind old now new held mid holds far cut tells
front_failed bytes left line behind old now new faults.Memory held mid holds far cut tells on =
    front_short bytes left old now new held mid holds far tells
    (omega (arith, ap (λ l. length l) cut.whole, length-append line (line_end ∷ behind))) on
front_failed bytes left line behind old now new faults.Write held mid holds far cut tells on = absurd tells
front_failed bytes left line behind old now new faults.Read held mid holds far cut tells on = absurd tells
front_failed bytes left line behind old now new faults.InputTooLong held mid holds far cut tells on = absurd tells

-- the bytes behind the last end are kept
pub front_kept : (bytes left : List ℕ) (old now new : TellingValue) (held holds : Option (List ℕ))
    → Front bytes left old now held holds → has_line_end left ≡ false → new.place ≡ now.place
    → new.rest ≡ now.rest ++ left → TellsBytes (Ok tt) bytes old new held holds
front_kept bytes left old now new held holds far none same rest = (
  far.lines,
  (
    subst (AreLines (old.rest ++ bytes) far.lines) (sym rest)
        (subst (λ l. AreLines l far.lines (now.rest ++ left))
        (append_assoc old.rest far.front left ∙ ap (λ l. old.rest ++ l) (sym far.whole))
        (grown left far.are none)),
    subst (λ (p : Place). TellsLines far.lines old.place p held holds) (sym same) far.told,
  ),
)
