-- There is no other history of the events.
use Rattle.std.proofs.Common.{◌≡◌, ℕ, zero, suc, List, [], ◌∷◌, true, Option, Some, None, Ok, Err, map, refl, sym, ap, subst, ◌∙◌, arith, inl, inr}
use Rattle.std.proofs.lemmas.Option.{same_Some}
use Rattle.policy_expr.specs.Policy.{Rules}
use Rattle.path_verifier.specs.Walk.{walk_of}
use Rattle.path_verifier.proofs.Breaches.{refused_is_not_accepted}
use Rattle.combinator.specs.Candidate.{PathValue}
use Rattle.combinator.specs.Answer.{IsAnswer, AnswersWith, question_under}
use Rattle.forwarding.specs.Turned.{no_rules}
use Rattle.network_core.specs.declared.reply.Reply.{Reply}
use Rattle.network_core.specs.declared.reply.Reply.TheVariants.{Done, Begun, Registered, Answered, Sent}
use Rattle.network_core.specs.Event.{EventValue, Ask}
use Rattle.network_core.specs.Value.{KeptAnswer, NetValue, asked_at, new_net}
use Rattle.network_core.specs.Step.{Made, Leads, Step, Sends, IsAnswerTo, ticks, originates, extends, terminates, turns, departs, rules_used}
use Rattle.network_core.specs.History.{EventRecord, IsHistory}
use Rattle.arrivals.proofs.Turning.{reply_of, leads}
use Rattle.row_history.specs.Row.{top, middle, leaf, row, any_path, row_events}
use Rattle.row_history.specs.Arrives.{Arrives}
use Rattle.row_history.proofs.Path.{path, answer, way}
use Rattle.row_history.proofs.Allowed.{accepted}
use Rattle.row_history.proofs.Found.{set, finds, question, candidate, candidate_is}
use Rattle.row_history.proofs.Happened.{shipment, net_0, net_1, net_2, net_3, net_4, net_5, net_6, net_7, net_8, net_9, begin_step, extend_step, end_step, send_step, is, history, arrives, arrives_history}

-- ---- the answer is the only one

paths_are : (paths : List PathValue) → IsAnswer question 4 paths → paths ≡ path ∷ []
paths_are [] is = elim (is.whole path candidate) [
  | inl some ↦ absurd (let w = some.2 in omega (arith, w))
  | inr out ↦ absurd (let f = out.full in omega (arith, f))
]
paths_are (one ∷ []) is = ap (λ (x : PathValue). x ∷ [])
    (candidate_is one (is.best 0 one (omega arith)).candidate)
paths_are (one ∷ next ∷ later) is =
    let first = candidate_is one (is.best 0 one (omega arith)).candidate in
    let second = candidate_is next (is.best 1 one (omega arith)).candidate in
    absurd (is.once 0 1 one (omega arith) (omega arith)
    (ap (λ (x : PathValue). walk_of x.pieces) (first ∙ sym second)))

used_is : (used : Option ℕ) (paths : List PathValue)
    → AnswersWith set leaf.ia top.ia (any_path ∷ []) 4 used paths
    → (used ≡ Some 0) × (paths ≡ path ∷ [])
used_is None paths is = absurd (is.1 0 any_path (omega arith) path candidate)
used_is (Some zero) paths is =
    let same = same_Some any_path is.option is.there in (
      refl,
      paths_are paths (subst (λ o. IsAnswer (question_under set leaf.ia top.ia o) 4 paths)
          (sym same) is.answer),
    )
used_is (Some (suc j)) paths is = absurd (let there = is.there in cc)

kept : (source destination : ℕ) (used : Option ℕ) (paths : List PathValue) (rules : Rules)
    → KeptAnswer
kept source destination used paths rules = record {
  source = source;
  destination = destination;
  answer = record { used = used; paths = paths };
  rules = rules;
}

answer_is : (one : KeptAnswer) → IsAnswerTo net_4 leaf.ia top.ia (any_path ∷ []) 4 one
    → one ≡ answer
answer_is one is =
    let u = used_is one.answer.used one.answer.paths
    (subst (λ s. AnswersWith s leaf.ia top.ia (any_path ∷ []) 4 one.answer.used one.answer.paths)
    finds is.answers) in
    let rules : one.rules ≡ no_rules = is.rules ∙ ap (rules_used (any_path ∷ [])) u.0 in
    same one.source one.destination one.answer.used one.answer.paths one.rules is.source
    is.destination u.0 u.1 rules
  where
    same : (s d : ℕ) (u : Option ℕ) (ps : List PathValue) (r : Rules) → s ≡ leaf.ia → d ≡ top.ia
        → u ≡ Some 0
        → ps ≡ path ∷ [] → r ≡ no_rules
        → ◌≡◌ {A = KeptAnswer} (record {
          source = s;
          destination = d;
          answer = record { used = u; paths = ps };
          rules = r;
        }) answer
    same s d u ps r a b c e f = cc

-- ---- each step is the only one

abbrev OnlyStep : NetValue → EventRecord → Type 0
OnlyStep old m = (reply : Reply) (new : NetValue) → Step old m.event reply new
    → (reply ≡ m.reply) × (new ≡ m.net)

abbrev AreOnly : NetValue → List EventRecord → Type 0
AreOnly old [] = Unit {0}
AreOnly old (m ∷ later) = OnlyStep old m × AreOnly m.net later

one_lead : (made : Made) (old : NetValue) (r s : Reply) (n o : NetValue) → Leads made old r n
    → Leads made old s o
    → (s ≡ r) × (o ≡ n)
one_lead (Ok made) old r s n o first second = (second.0 ∙ sym first.0, second.1 ∙ sym first.1)
one_lead (Err fault) old r s n o first second = (second.0 ∙ sym first.0, second.1 ∙ sym first.1)

asks_once : (reply : Reply) (new : NetValue)
    → Step net_4 (Ask leaf.ia top.ia (Ok (any_path ∷ [])) 4) reply new
    → (reply ≡ Answered 0) × (new ≡ net_5)
asks_once reply new step = (
  step.1.1.0,
  step.1.1.1 ∙ ap (λ (one : KeptAnswer). record net_4 { answers = one ∷ [] })
      (answer_is step.0 step.1.0),
)

sends_first : Leads (departs net_5 shipment) net_5 (Sent 0) net_6
sends_first = elim send_step [
  | inl done ↦ done.1
  | inr none ↦ absurd (let e = none.1.1.0 in cc)
]

sends_once : (reply : Reply) (new : NetValue) → Sends (Ok shipment) net_5 reply new
    → (reply ≡ Sent 0) × (new ≡ net_6)
sends_once reply new (inl done) =
    one_lead (departs net_5 shipment) net_5 (Sent 0) reply net_6 new sends_first done.1
sends_once reply new (inr none) =
    absurd (refused_is_not_accepted (asked_at 1000 way) none.0 none.1.0 accepted)

are_only : AreOnly net_0 history
are_only = (
  (λ r n step. one_lead (ticks net_0 1000) net_0 Done r net_1 n (refl, refl) step),
  (
    (λ r n step. one_lead (originates net_1 top.ia 1 4660) net_1 (Begun 0) r net_2 n begin_step
        step),
    (
      (λ r n step. one_lead (extends net_2 0 middle.ia 2) net_2 (Begun 1) r net_3 n extend_step
          step),
      (
        (λ r n step. one_lead (terminates net_3 1 leaf.ia) net_3 (Registered true) r net_4 n
            end_step step),
        (
          asks_once,
          (
            sends_once,
            (
              (λ r n step. one_lead (turns net_6 0) net_6 (reply_of (turns net_6 0)) r net_7 n
                  (leads net_6 (turns net_6 0)) step),
              (
                (λ r n step. one_lead (turns net_7 0) net_7 (reply_of (turns net_7 0)) r net_8 n
                    (leads net_7 (turns net_7 0)) step),
                (
                  (λ r n step. one_lead (turns net_8 0) net_8 (reply_of (turns net_8 0)) r net_9 n
                      (leads net_8 (turns net_8 0)) step),
                  tt,
                ),
              ),
            ),
          ),
        ),
      ),
    ),
  ),
)

abbrev events_in : List EventRecord → List EventValue
events_in h = map (λ one. one.event) h

same_history : (start : NetValue) (h other : List EventRecord) → AreOnly start h
    → IsHistory start other
    → events_in other ≡ events_in h → other ≡ h
same_history start [] [] only is of = refl
same_history start [] (m ∷ other) only is of = absurd cc
same_history start (m ∷ h) [] only is of = absurd cc
same_history start (m ∷ h) (x ∷ other) only is of =
    let event = first_of x m other h of in
    let step = only.0 x.reply x.net (subst (λ e. Step start e x.reply x.net) event is.0) in
    let whole : x ≡ m = same_record x.event m.event x.reply m.reply x.net m.net event step.0
    step.1 in
    let rest = same_history m.net h other only.1 (subst (λ net. IsHistory net other) step.1 is.1)
    (rest_of x m other h of) in
    ap (λ (y : EventRecord). y ∷ other) whole ∙ ap (λ ys. m ∷ ys) rest
  where
    first_of : (x m : EventRecord) (other h : List EventRecord)
        → x.event ∷ events_in other ≡ m.event ∷ events_in h → x.event ≡ m.event
    first_of x m other h e = cc

    rest_of : (x m : EventRecord) (other h : List EventRecord)
        → x.event ∷ events_in other ≡ m.event ∷ events_in h → events_in other ≡ events_in h
    rest_of x m other h e = cc

    same_record : (e f : EventValue) (r s : Reply) (n o : NetValue) → e ≡ f → r ≡ s → n ≡ o
        → ◌≡◌ {A = EventRecord} (record { event = e; reply = r; net = n })
        (record { event = f; reply = s; net = o })
    same_record e f r s n o a b c = cc

pub only_one : (other : List EventRecord) → IsHistory (new_net row) other
    → events_in other ≡ row_events → history ≡ other
only_one other is of = sym (same_history net_0 history other are_only is of)

pub only : (other : List EventRecord) → IsHistory (new_net row) other
    → map (λ one. one.event) other ≡ row_events
    → (one : Arrives) × (one.history ≡ other)
only other steps of = (arrives, arrives_history ∙ only_one other steps of)
