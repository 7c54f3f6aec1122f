-- Bytes that come, up to where they were heard.
use Rattle.std.proofs.Common.{arith, ◌≡◌, ℕ, ◌<◌, length, List, [], ◌∷◌, ◌++◌, false, refl, sym, ap, ◌∙◌, append_assoc, append-nil, subst, Err}
use Rattle.event_lines.specs.declared.fault.RunFault.{RunFault}
use Rattle.event_lines.specs.declared.fault.RunFault.TheVariants as faults
use Rattle.event_lines.specs.declared.accepted.AcceptedLines.{AcceptedLines}
use Rattle.event_lines.specs.Run.{AreLines, IsLineCut, ended_lines, has_line_end, line_end}
use Rattle.event_lines.specs.Replies.{RepliesTo}
use Rattle.event_lines.specs.Answers.{Stage, Closed, GoesOn}
use Rattle.std.proofs.lemmas.List.{length-append}
use Rattle.event_lines.specs.inner.Session.{AnswersLines, AnswersBytes, HasMore, SessionValue, RepliesOrFails}
use Rattle.event_lines.proofs.Lines.{closed, cut_of, ended_more, grown, joined, none_read}
use Rattle.event_lines.proofs.Telling.{told_append, told_one}

-- of the bytes a front was heard, and these are left
pub record Heard (accepted : AcceptedLines) (bytes left : List ℕ) (old now : SessionValue) : Type 0 where
  pub front : List ℕ
  pub lines : List (List ℕ)
  pub whole : bytes ≡ front ++ left
  pub are : AreLines (old.rest ++ front) lines now.rest
  pub heard : AnswersLines accepted lines old now.stage now.replies

-- nothing was heard yet
pub heard_none : (accepted : AcceptedLines) (bytes : List ℕ) (old : SessionValue)
    → has_line_end old.rest ≡ false → Heard accepted bytes bytes old old
heard_none accepted bytes old none = record {
  front = [];
  lines = [];
  whole = refl;
  are = subst (λ l. AreLines l [] old.rest) (sym (append-nil old.rest)) (none_read old.rest none);
  heard = record { texts = []; told = (refl, refl); kept = sym (append-nil old.replies) };
}

-- one line more is told
pub hears_more : (accepted : AcceptedLines) {lines : List (List ℕ)} {old : SessionValue} (stage next : Stage) (replies after line text : List ℕ)
    → AnswersLines accepted lines old stage replies → RepliesTo accepted stage line text next
    → after ≡ replies ++ (text ++ line_end ∷ [])
    → AnswersLines accepted (lines ++ line ∷ []) old next after
hears_more accepted {lines} {old} stage next replies after line text accepts says grows = record {
  texts = accepts.texts ++ text ∷ [];
  told = told_append accepted old.stage stage next lines (line ∷ []) accepts.texts (text ∷ []) accepts.told
      (told_one accepted stage next line text says);
  kept = grows ∙ ap (λ l. l ++ (text ++ line_end ∷ [])) accepts.kept
      ∙ append_assoc old.replies (ended_lines accepts.texts) (text ++ line_end ∷ [])
      ∙ ap (λ l. old.replies ++ l) (sym (ended_more accepts.texts text));
}

-- a line and its end behind lines
pub line_read : {read rest : List ℕ} {lines : List (List ℕ)} (line : List ℕ) → AreLines read lines rest
    → has_line_end line ≡ false
    → AreLines (read ++ (line ++ line_end ∷ [])) (lines ++ (rest ++ line) ∷ []) []
line_read {read} {rest} {lines} line are one =
    subst (λ l. AreLines l (lines ++ (rest ++ line) ∷ []) []) (append_assoc read line (line_end ∷ []))
    (closed (grown line are one))

-- the front with one line more
pub front_more : (front line behind : List ℕ)
    → front ++ (line ++ line_end ∷ behind) ≡ (front ++ (line ++ line_end ∷ [])) ++ behind
front_more front line behind =
    ap (λ l. front ++ l) (sym (append_assoc line (line_end ∷ []) behind)) ∙ sym
    (append_assoc front (line ++ line_end ∷ []) behind)

-- one line more was heard
pub heard_line : (accepted : AcceptedLines) (bytes left line behind : List ℕ) (old now : SessionValue) (next : Stage) (after text : List ℕ)
    → Heard accepted bytes left old now → IsLineCut left line behind
    → RepliesTo accepted now.stage (now.rest ++ line) text next → after ≡ now.replies ++ (text ++ line_end ∷ [])
    → Heard accepted bytes behind old (record { stage = next; rest = []; replies = after })
heard_line accepted bytes left line behind old now next after text heard cut says grows = record {
  front = heard.front ++ (line ++ line_end ∷ []);
  lines = heard.lines ++ (now.rest ++ line) ∷ [];
  whole = heard.whole ∙ ap (λ l. heard.front ++ l) cut.whole ∙ front_more heard.front line behind;
  are = subst (λ l. AreLines l (heard.lines ++ (now.rest ++ line) ∷ []) [])
      (append_assoc old.rest heard.front (line ++ line_end ∷ []))
      (line_read line heard.are cut.one);
  heard = hears_more accepted now.stage next now.replies after (now.rest ++ line) text heard.heard says grows;
}

-- what is left is heard to its end, whatever it is
pub record Later (bytes left : List ℕ) (old : SessionValue) (lines : List (List ℕ)) : Type 0 where
  pub later : List (List ℕ)
  pub rest : List ℕ
  pub are : AreLines (old.rest ++ bytes) (lines ++ later) rest
  pub more : 0 < length left → HasMore later rest

-- bytes are lines, or a beginning of one
pub has_more : (bytes : List ℕ) (lines : List (List ℕ)) (rest : List ℕ) → AreLines bytes lines rest
    → 0 < length bytes → HasMore lines rest
has_more bytes [] [] are some = absurd (omega (arith, some, ap (λ l. length l) are.whole))
has_more bytes [] (b ∷ rest) are some = tt
has_more bytes (line ∷ lines) rest are some = tt

pub later_of : (accepted : AcceptedLines) (bytes left : List ℕ) (old now : SessionValue)
    → (heard : Heard accepted bytes left old now) → Later bytes left old heard.lines
later_of accepted bytes left old now heard =
    let cut = cut_of (now.rest ++ left) in record {
      later = cut.lines;
      rest = cut.rest;
      are = subst (λ l. AreLines l (heard.lines ++ cut.lines) cut.rest)
          (append_assoc old.rest heard.front left ∙ ap (λ l. old.rest ++ l) (sym heard.whole))
          (joined left heard.are cut.are);
      more = λ some. has_more (now.rest ++ left) cut.lines cut.rest cut.are (omega (arith, some, length-append now.rest left));
    }

-- the topology of the line that was heard last is refused
pub heard_closed : (accepted : AcceptedLines) (bytes left line behind : List ℕ) (old now new : SessionValue) (text : List ℕ)
    → Heard accepted bytes left old now → IsLineCut left line behind
    → RepliesTo accepted now.stage (now.rest ++ line) text Closed → new.replies ≡ now.replies ++ (text ++ line_end ∷ [])
    → AnswersBytes accepted (Err faults.Topology) bytes old new
heard_closed accepted bytes left line behind old now new text heard cut says grows =
    let last = heard_line accepted bytes left line behind old now Closed new.replies text heard cut says grows in
    let all = later_of accepted bytes behind old (record { stage = Closed; rest = []; replies = new.replies }) last in
    (last.lines, all.later, all.rest, (all.are, last.heard))

-- memory ran out
pub heard_short : (accepted : AcceptedLines) (bytes left : List ℕ) (old now new : SessionValue)
    → Heard accepted bytes left old now → new.replies ≡ now.replies
    → 0 < length left → GoesOn now.stage → AnswersBytes accepted (Err faults.Memory) bytes old new
heard_short accepted bytes left old now new heard same some on =
    let all = later_of accepted bytes left old now heard in (
      heard.lines,
      all.later,
      all.rest,
      (
        now.stage,
        (
          all.are,
          (all.more some, (on, record { texts = heard.heard.texts; told = heard.heard.told; kept = same ∙ heard.heard.kept })),
        ),
      ),
    )

-- the line that was heard last could not be answered
pub heard_failed : (accepted : AcceptedLines) (bytes left line behind : List ℕ) (old now new : SessionValue) (fault : RunFault)
    → Heard accepted bytes left old now → IsLineCut left line behind
    → RepliesOrFails {A = Unit {0}} accepted (λ _. new.stage) (Err fault) now.stage (now.rest ++ line) now.replies new.replies
    → GoesOn now.stage → AnswersBytes accepted (Err fault) bytes old new
heard_failed accepted bytes left line behind old now new faults.Topology heard cut tells on =
    heard_closed accepted bytes left line behind old now new tells.0 heard cut tells.1.0 tells.1.1
heard_failed accepted bytes left line behind old now new faults.Memory heard cut tells on =
    heard_short accepted bytes left old now new heard tells
    (omega (arith, ap (λ l. length l) cut.whole, length-append line (line_end ∷ behind))) on
heard_failed accepted bytes left line behind old now new faults.Read heard cut tells on = absurd tells
heard_failed accepted bytes left line behind old now new faults.Write heard cut tells on = absurd tells
heard_failed accepted bytes left line behind old now new faults.InputTooLong heard cut tells on = absurd tells
