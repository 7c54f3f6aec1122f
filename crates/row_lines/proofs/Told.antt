-- Lines have replies in each history of their events.
use Rattle.std.proofs.Common.{◌≡◌, ℕ, List, [], ◌∷◌, ◌++◌, Option, Some, None, map, refl, sym, ap, ◌∙◌, subst}
use Rattle.std.specs.Prelude.{slice_get}
use Rattle.network_core.specs.Event.{EventValue}
use Rattle.network_core.specs.Value.{NetValue, new_net}
use Rattle.network_core.specs.History.{EventRecord, net_after}
use Rattle.event_lines.specs.declared.accepted.AcceptedLines.{AcceptedLines}
use Rattle.event_lines.specs.declared.accepted.AcceptedLines.TheVariants.{All}
use Rattle.event_lines.specs.AcceptedLines.{accepted_as}
use Rattle.event_lines.specs.Answers.{Stage, Open, event_of, events_of, IsAnswered, AreAnswered, AreRun, Begins, RepliesToInput, begun_text}
use Rattle.event_lines.specs.Line.{LineValue, Happens, Shows, line_in}
use Rattle.event_lines.specs.Text.{bad_line, packet_text, reply_text}
use Rattle.row_history.specs.Row.{row}
use Rattle.row_history.proofs.Happened.{arrives}
use Rattle.row_lines.specs.Lines.{later_lines, row_lines}
use Rattle.row_lines.proofs.Read.{topology_read, later_read}

abbrev events_in : List EventRecord → List EventValue
events_in history = map (λ one. one.event) history

-- the first of these lines has a reply, and the rest of the history is that of the later lines
pub record Told (net : NetValue) (value : Option LineValue) (rest : List EventValue)
    (history : List EventRecord)
    : Type 0 where
  pub happened : List EventRecord
  pub behind : List EventRecord
  pub text : List ℕ
  pub whole : history ≡ happened ++ behind
  pub is : IsAnswered net value text happened
  pub of : events_in behind ≡ rest

told : (net : NetValue) (value : Option LineValue) (rest : List EventValue)
    (history : List EventRecord)
    → events_in history ≡ event_of value ++ rest → Told net value rest history
told net (Some (Happens event)) rest [] of = absurd cc
told net (Some (Happens event)) rest (m ∷ history) of = record {
  happened = m ∷ [];
  behind = history;
  text = reply_text m.net m.reply;
  whole = refl;
  is = (m.reply, m.net, (same m event (first_of m event history rest of), refl));
  of = rest_of m event history rest of;
}
  where
    same : (m : EventRecord) (event : EventValue) → m.event ≡ event
        → ◌≡◌ {A = List EventRecord} (m ∷ [])
        (record { event = event; reply = m.reply; net = m.net } ∷ [])
    same m event e = ap (λ (x : EventValue). record { event = x; reply = m.reply; net = m.net } ∷
        []) e

    first_of : (m : EventRecord) (event : EventValue) (history : List EventRecord)
        (rest : List EventValue)
        → m.event ∷ events_in history ≡ event ∷ rest → m.event ≡ event
    first_of m event history rest e = cc

    rest_of : (m : EventRecord) (event : EventValue) (history : List EventRecord)
        (rest : List EventValue)
        → m.event ∷ events_in history ≡ event ∷ rest → events_in history ≡ rest
    rest_of m event history rest e = cc
told net (Some (Shows packet)) rest history of = record {
  happened = [];
  behind = history;
  text = packet_text (slice_get net.packets packet);
  whole = refl;
  is = (refl, refl);
  of = of;
}
told net None rest history of =
    record {
      happened = [];
      behind = history;
      text = bad_line;
      whole = refl;
      is = (refl, refl);
      of = of;
    }

none_of : (history : List EventRecord) → events_in history ≡ [] → history ≡ []
none_of [] of = refl
none_of (m ∷ history) of = absurd cc

have_texts : (accepted : AcceptedLines) (net : NetValue) (lines : List (List ℕ))
    (history : List EventRecord)
    → events_in history ≡ events_of accepted lines
    → (texts : List (List ℕ)) × AreAnswered accepted net lines texts history
have_texts accepted net [] history of = ([], (refl, none_of history of))
have_texts accepted net (line ∷ lines) history of =
    let t = told net (accepted_as accepted (line_in line)) (events_of accepted lines) history of in
    let rest = have_texts accepted (net_after net t.happened) lines t.behind t.of in
    (t.text ∷ rest.0, (t.happened, t.behind, (t.whole, (t.is, rest.1))))

pub have_replies : (texts : List (List ℕ)) × (stage : Stage)
    × RepliesToInput All row_lines texts stage
have_replies =
    let replies = have_texts All (new_net row) later_lines arrives.history
    (arrives.of ∙ sym later_read) in
    let net = net_after (new_net row) arrives.history in
    let run : AreRun All row later_lines replies.0 net = record {
      ran = record {
        history = arrives.history;
        run = arrives.run;
        of = arrives.of ∙ sym later_read;
        ends = refl;
      };
      answered = replies.1;
    } in (
      begun_text ∷ replies.0,
      Open net,
      subst
          (λ topology. Begins All topology begun_text later_lines replies.0 (Open net))
          (sym topology_read) (net, (refl, (refl, run))),
    )
