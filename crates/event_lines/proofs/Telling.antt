-- Lines told one after another.
use Rattle.std.proofs.Common.{◌≡◌, ℕ, List, [], ◌∷◌, ◌++◌, Some, Result, Ok, Err, OnOk, refl, sym, ap, ◌∙◌, subst}
use Rattle.network_core.specs.declared.reply.Reply.{Reply}
use Rattle.network_core.specs.Event.{EventValue}
use Rattle.network_core.specs.Value.{NetValue}
use Rattle.network_core.specs.Step.{Step}
use Rattle.network_core.specs.Delivery.{IsFramed}
use Rattle.event_lines.specs.Line.{Happens}
use Rattle.event_lines.specs.Text.{reply_text}
use Rattle.event_lines.specs.declared.accepted.AcceptedLines.{AcceptedLines}
use Rattle.event_lines.specs.Replies.{Replies, RepliesTo, RepliesToAll}
use Rattle.event_lines.specs.Answers.{Stage}

-- the reply to an event, written behind no bytes, answers the line
pub event_answered : {T F : Type 0} (written : Result T F) (before after : List ℕ) (old new : NetValue)
    (event : EventValue) (reply told : Reply) → told ≡ reply → before ≡ [] → Step old event reply new
    → IsFramed event reply new → OnOk written (after ≡ before ++ reply_text new told)
    → OnOk written (Replies old (Some (Happens event)) after new)
event_answered (Ok done) before after old new event reply told same none step framed is =
    (reply, (step, (framed, is ∙ ap (λ l. l ++ reply_text new told) none ∙ ap (reply_text new) same)))
event_answered (Err fault) before after old new event reply told same none step framed is = tt

-- lines behind lines
pub told_append : (accepted : AcceptedLines) (start middle stage : Stage) (lines more texts others : List (List ℕ))
    → RepliesToAll accepted start lines texts middle → RepliesToAll accepted middle more others stage
    → RepliesToAll accepted start (lines ++ more) (texts ++ others) stage
told_append accepted start middle stage [] more texts others first second =
    subst (λ t. RepliesToAll accepted start more (t ++ others) stage) (sym first.0)
    (subst (λ s. RepliesToAll accepted s more others stage) first.1 second)
told_append accepted start middle stage (line ∷ lines) more [] others first second = absurd first
told_append accepted start middle stage (line ∷ lines) more (text ∷ texts) others first second =
    (first.0, (first.1.0, told_append accepted first.0 middle stage lines more texts others first.1.1 second))

-- one line
pub told_one : (accepted : AcceptedLines) (start stage : Stage) (line text : List ℕ)
    → RepliesTo accepted start line text stage → RepliesToAll accepted start (line ∷ []) (text ∷ []) stage
told_one accepted start stage line text says = (stage, (says, (refl, refl)))
