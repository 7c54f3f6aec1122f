-- Replies that are written, whole or in part.
use Rattle.std.proofs.Common.{◌≡◌, ℕ, List, [], ◌∷◌, ◌++◌, Option, Some, None, Result, Ok, Err, zero, suc, take, inl, inr, refl, sym, ap, ◌∙◌, append-nil, subst}
use Rattle.std.specs.Io.KnownBytes.{Appends, Keeps}
use Rattle.std.proofs.KnownBytes.{Appends-nil}
use Rattle.scion_topology.specs.declared.fault.TopologyFault.{TopologyFault}
use Rattle.scion_topology.specs.Network.{Network}
use Rattle.scion_topology.specs.Topology.{network_in}
use Rattle.network_core.specs.Value.{NetValue, new_net}
use Rattle.event_lines.specs.declared.fault.RunFault.{RunFault}
use Rattle.event_lines.specs.declared.fault.RunFault.TheVariants as faults
use Rattle.event_lines.specs.declared.accepted.AcceptedLines.{AcceptedLines}
use Rattle.event_lines.specs.Run.{AreLines, ended_lines, line_end}
use Rattle.event_lines.specs.Replies.{Opens, RepliesTo, stage_of}
use Rattle.event_lines.specs.Answers.{Stage, Unbegun, Open, Closed, GoesOn}
use Rattle.event_lines.specs.inner.Session.{Exchanges, Finishes, AnswersLines, AnswersBytes, IsRunDone, Passes, PassesSome, SessionValue, RepliesOrFails, WritesRest, last_lines}
use Rattle.event_lines.proofs.Telling.{told_one}

-- a beginning of the replies to these lines was written
some_written : (accepted : AcceptedLines) (lines : List (List ℕ)) (old mid : SessionValue) (stage : Stage) (held holds : Option (List ℕ))
    → old.replies ≡ [] → AnswersLines accepted lines old stage mid.replies
    → (n : ℕ) × Appends held holds (take n mid.replies)
    → PassesSome accepted lines old held holds
some_written accepted lines old mid stage held holds none accepts wrote = record {
  texts = accepts.texts;
  stage = stage;
  told = accepts.told;
  most = wrote.0;
  kept = subst (λ l. Appends held holds (take wrote.0 l))
      (accepts.kept ∙ ap (λ l. l ++ ended_lines accepts.texts) none) wrote.1;
}

-- a write failed after bytes were heard
write_failed : (accepted : AcceptedLines) (heard : Result (Unit {0}) RunFault) (bytes : List ℕ) (old mid new : SessionValue) (held holds : Option (List ℕ))
    → old.replies ≡ [] → AnswersBytes accepted heard bytes old mid → (n : ℕ) × Appends held holds (take n mid.replies)
    → Exchanges accepted (Err faults.Write) bytes old new held holds
write_failed accepted (Ok done) bytes old mid new held holds none accepts wrote = (
  accepts.0,
  [],
  mid.rest,
  (
    subst (λ ls. AreLines (old.rest ++ bytes) ls mid.rest) (sym (append-nil accepts.0)) accepts.1.0,
    some_written accepted accepts.0 old mid mid.stage held holds none accepts.1.1 wrote,
  ),
)
write_failed accepted (Err faults.Topology) bytes old mid new held holds none accepts wrote =
    let (lines, later, rest, (are, told)) = accepts in
    (lines, later, rest, (are, some_written accepted lines old mid Closed held holds none told wrote))
write_failed accepted (Err faults.Memory) bytes old mid new held holds none accepts wrote =
    let (lines, later, rest, (stage, (are, (more, (on, told))))) = accepts in
    (lines, later, rest, (are, some_written accepted lines old mid stage held holds none told wrote))
write_failed accepted (Err faults.Read) bytes old mid new held holds none accepts wrote = absurd accepts
write_failed accepted (Err faults.Write) bytes old mid new held holds none accepts wrote = absurd accepts
write_failed accepted (Err faults.InputTooLong) bytes old mid new held holds none accepts wrote = absurd accepts

pub exchange_failed : (accepted : AcceptedLines) (heard : Result (Unit {0}) RunFault) (fault : RunFault) (bytes : List ℕ) (old mid new : SessionValue)
    (held holds : Option (List ℕ))
    → old.replies ≡ [] → AnswersBytes accepted heard bytes old mid → WritesRest (Err fault) mid new held holds
    → Exchanges accepted (Err fault) bytes old new held holds
exchange_failed accepted heard faults.Write bytes old mid new held holds none accepts wrote =
    write_failed accepted heard bytes old mid new held holds none accepts wrote
exchange_failed accepted heard faults.Topology bytes old mid new held holds none accepts wrote = absurd wrote
exchange_failed accepted heard faults.Memory bytes old mid new held holds none accepts wrote = absurd wrote
exchange_failed accepted heard faults.Read bytes old mid new held holds none accepts wrote = absurd wrote
exchange_failed accepted heard faults.InputTooLong bytes old mid new held holds none accepts wrote = absurd wrote

-- ---- the last line

-- nothing is left to be told
pub nothing_told : (accepted : AcceptedLines) (old : SessionValue) (net : NetValue) (held : Option (List ℕ))
    → IsRunDone old net
    → Passes accepted (last_lines old) old (Open net) held held
nothing_told accepted old net held done = subst (λ ls. Passes accepted ls old (Open net) held held) (sym done.none)
    (record { texts = []; told = (refl, sym done.begun); kept = Appends-nil held })

-- the replies to one line are the reply
one_reply : (replies text : List ℕ) → replies ≡ [] ++ (text ++ line_end ∷ []) → replies ≡ ended_lines (text ∷ [])
one_reply replies text is = is ∙ sym (append-nil (text ++ line_end ∷ []))

-- the reply to the last line was written
pub last_passes : (accepted : AcceptedLines) (old : SessionValue) (stage : Stage) (text after : List ℕ) (held holds : Option (List ℕ))
    → old.replies ≡ [] → last_lines old ≡ old.rest ∷ [] → RepliesTo accepted old.stage old.rest text stage
    → after ≡ old.replies ++ (text ++ line_end ∷ []) → Appends held holds after
    → Passes accepted (last_lines old) old stage held holds
last_passes accepted old stage text after held holds none one says grows wrote =
    subst (λ ls. Passes accepted ls old stage held holds) (sym one) (record {
      texts = text ∷ [];
      told = told_one accepted old.stage stage old.rest text says;
      kept = subst (Appends held holds)
          (one_reply after text (grows ∙ ap (λ l. l ++ (text ++ line_end ∷ [])) none)) wrote;
    })

-- a stage at which a run has begun
abbrev pub IsBegun : Stage → Type 0
IsBegun Unbegun = ⊥
IsBegun (Open net) = Unit {0}
IsBegun Closed = Unit {0}

-- a run that has a network, or that has not begun, may go on
pub on_stage : (net : Option NetValue) → GoesOn (stage_of net)
on_stage None = tt
on_stage (Some net) = tt

-- nothing more was written
same_kept : (a b : Option (List ℕ)) → Appends a b [] → Keeps a b
same_kept None b wrote = tt
same_kept (Some xs) None wrote = absurd wrote
same_kept (Some xs) (Some ys) wrote = wrote ∙ append-nil xs

-- where a line was told, a run has begun
not_unbegun : {A : Type 0} (stage : Stage) → Unbegun ≡ stage → IsBegun stage → A
not_unbegun stage is begun = absurd (subst IsBegun (sym is) begun)

unbegun_begins : (said : Result Network TopologyFault) (text : List ℕ) → Opens said text Unbegun → ⊥
unbegun_begins (Ok network) text begins = not_unbegun (Open (new_net network)) begins.1.1 tt
unbegun_begins (Err fault) text begins = not_unbegun Closed begins.1 tt

pub unbegun_says : (accepted : AcceptedLines) (start : Stage) (line text : List ℕ)
    → RepliesTo accepted start line text Unbegun → ⊥
unbegun_says accepted Unbegun line text says = unbegun_begins (network_in line) text says
unbegun_says accepted (Open old) line text says = not_unbegun (Open says.0) says.1.1 tt
unbegun_says accepted Closed line text says = absurd says

pub begun_by : (accepted : AcceptedLines) (net : Option NetValue) (start : Stage) (line text : List ℕ)
    → RepliesTo accepted start line text (stage_of net)
    → (n : NetValue) × (stage_of net ≡ Open n)
begun_by accepted None start line text says = absurd (unbegun_says accepted start line text says)
begun_by accepted (Some net) start line text says = (net, refl)

-- what was told of the last line was written
pub finished : (accepted : AcceptedLines) (told : Result (Unit {0}) RunFault) (old : SessionValue) (net : Option NetValue) (after : List ℕ)
    (held holds : Option (List ℕ))
    → old.replies ≡ [] → last_lines old ≡ old.rest ∷ []
    → RepliesOrFails {A = Unit {0}} accepted (λ _. stage_of net) told old.stage old.rest old.replies after
    → Appends held holds after → Finishes accepted told old (stage_of net) held holds
finished accepted (Ok done) old net after held holds none one tells wrote =
    let begun = begun_by accepted net old.stage old.rest tells.0 tells.1.0 in (
      begun.0,
      (
        begun.1,
        last_passes accepted old (Open begun.0) tells.0 after held holds none one
            (subst (λ s. RepliesTo accepted old.stage old.rest tells.0 s) begun.1 tells.1.0) tells.1.1 wrote,
      ),
    )
finished accepted (Err faults.Topology) old net after held holds none one tells wrote =
    last_passes accepted old Closed tells.0 after held holds none one tells.1.0 tells.1.1 wrote
finished accepted (Err faults.Memory) old net after held holds none one tells wrote =
    (one, same_kept held holds (subst (Appends held holds) (tells ∙ none) wrote))
finished accepted (Err faults.Read) old net after held holds none one tells wrote = absurd tells
finished accepted (Err faults.Write) old net after held holds none one tells wrote = absurd tells
finished accepted (Err faults.InputTooLong) old net after held holds none one tells wrote = absurd tells

-- a beginning of the last reply was written
some_of : (accepted : AcceptedLines) (old : SessionValue) (stage : Stage) (text after : List ℕ) (held holds : Option (List ℕ))
    → old.replies ≡ [] → last_lines old ≡ old.rest ∷ [] → RepliesTo accepted old.stage old.rest text stage
    → after ≡ old.replies ++ (text ++ line_end ∷ []) → (n : ℕ) × Appends held holds (take n after)
    → PassesSome accepted (last_lines old) old held holds
some_of accepted old stage text after held holds none one says grows wrote =
    subst (λ ls. PassesSome accepted ls old held holds) (sym one) (record {
      texts = text ∷ [];
      stage = stage;
      told = told_one accepted old.stage stage old.rest text says;
      most = wrote.0;
      kept = subst (λ l. Appends held holds (take wrote.0 l))
          (one_reply after text (grows ∙ ap (λ l. l ++ (text ++ line_end ∷ [])) none)) wrote.1;
    })

take_none : (n : ℕ) (none : List ℕ) → none ≡ [] → take n none ≡ []
take_none zero none is = refl
take_none (suc n) [] is = refl
take_none (suc n) (b ∷ rest) is = absurd cc

last_failed : (accepted : AcceptedLines) (told : Result (Unit {0}) RunFault) (old : SessionValue) (net : Option NetValue) (stage : Stage) (after : List ℕ)
    (held holds : Option (List ℕ))
    → old.replies ≡ [] → last_lines old ≡ old.rest ∷ []
    → RepliesOrFails {A = Unit {0}} accepted (λ _. stage_of net) told old.stage old.rest old.replies after
    → (n : ℕ) × Appends held holds (take n after) → Finishes accepted (Err faults.Write) old stage held holds
last_failed accepted (Ok done) old net stage after held holds none one tells wrote =
    inl (some_of accepted old (stage_of net) tells.0 after held holds none one tells.1.0 tells.1.1 wrote)
last_failed accepted (Err faults.Topology) old net stage after held holds none one tells wrote =
    inl (some_of accepted old Closed tells.0 after held holds none one tells.1.0 tells.1.1 wrote)
last_failed accepted (Err faults.Memory) old net stage after held holds none one tells wrote =
    inr (same_kept held holds (subst (Appends held holds) (take_none wrote.0 after (tells ∙ none)) wrote.1))
last_failed accepted (Err faults.Read) old net stage after held holds none one tells wrote = absurd tells
last_failed accepted (Err faults.Write) old net stage after held holds none one tells wrote = absurd tells
last_failed accepted (Err faults.InputTooLong) old net stage after held holds none one tells wrote = absurd tells

pub finish_failed : (accepted : AcceptedLines) (told : Result (Unit {0}) RunFault) (fault : RunFault) (old mid new : SessionValue) (net : Option NetValue) (stage : Stage)
    (held holds : Option (List ℕ))
    → old.replies ≡ [] → last_lines old ≡ old.rest ∷ []
    → RepliesOrFails {A = Unit {0}} accepted (λ _. stage_of net) told old.stage old.rest old.replies mid.replies
    → WritesRest (Err fault) mid new held holds → Finishes accepted (Err fault) old stage held holds
finish_failed accepted told faults.Write old mid new net stage held holds none one tells wrote =
    last_failed accepted told old net stage mid.replies held holds none one tells wrote
finish_failed accepted told faults.Topology old mid new net stage held holds none one tells wrote = absurd wrote
finish_failed accepted told faults.Memory old mid new net stage held holds none one tells wrote = absurd wrote
finish_failed accepted told faults.Read old mid new net stage held holds none one tells wrote = absurd wrote
finish_failed accepted told faults.InputTooLong old mid new net stage held holds none one tells wrote = absurd wrote
