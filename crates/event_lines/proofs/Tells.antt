-- What replies tell of refusals.
use Rattle.std.proofs.Common.{◌≡◌, ℕ, ◌||◌, ◌==◌, not, codes, Bool, true, false, List, [], ◌∷◌, ◌++◌, Option, Some, None, Result, Ok, Err, OnOk, refl, sym, ap, ◌∙◌, subst, inl, inr}
use Rattle.std.specs.Prelude.{IfSome}
use Rattle.std.specs.Fmt.{decimal, digits}
use Rattle.std.specs.List.{list_any}
use Rattle.std.proofs.lemmas.List.Folds.{list_any-append}
use Rattle.isd_as.specs.Address.{canonical, canonical_as, dash, isd_of, as_number_of}
use Rattle.refusal.specs.Fault.{code_text, is_word}
use Rattle.scion_topology.specs.declared.fault.TopologyFault.{TopologyFault}
use Rattle.scion_topology.specs.Fault as topology
use Rattle.path_header.specs.declared.fault.HeaderFault.TheVariants as headers
use Rattle.path_header.specs.Fault as headers_of
use Rattle.router_step.specs.declared.fault.Refusal.{Refusal}
use Rattle.router_step.specs.declared.fault.Refusal.TheVariants as refusals
use Rattle.router_step.specs.declared.outcome.Outcome.{Outcome}
use Rattle.router_step.specs.declared.outcome.Outcome.TheVariants.{ToLink, ToRouter, Deliver}
use Rattle.router_step.specs.Fault as router_faults
use Rattle.forwarding.specs.declared.location.PacketLocation.{PacketLocation}
use Rattle.forwarding.specs.declared.location.PacketLocation.TheVariants as places
use Rattle.forwarding.specs.declared.reply.TurnReply.TheVariants as turns
use Rattle.network_core.specs.declared.fault.EventFault.{EventFault}
use Rattle.network_core.specs.declared.fault.EventFault.TheVariants.{NoPacket}
use Rattle.network_core.specs.declared.reply.Reply.{Reply}
use Rattle.network_core.specs.declared.reply.Reply.TheVariants.{Done, Begun, Registered, Swept, Answered, Sent, Turned, Refused}
use Rattle.network_core.specs.Fault as events
use Rattle.network_core.specs.Value.{NetValue, PacketValue}
use Rattle.event_lines.specs.Answers.{begun_text, refused_text}
use Rattle.event_lines.specs.Text.{bad_line, fault_text, outcome_text, packet_text, passed_text, place_text, reply_text, turn_text}
use Rattle.event_lines.specs.Refusals.{BeginsWith, Tells, bad_line_refusal, hyphen, is_refusal, is_refused_turn, refusal_of, refusal_shown, refusal_text}

-- a refusal, if there is one, has a word for its name
abbrev pub HasName : Option (ℕ × List ℕ) → Type 0
HasName refusal = IfSome refusal (λ coded. is_word coded.1 ≡ true)

pub fault_tells : (fault : EventFault) → is_word (events.code_and_name fault).1 ≡ true
    → Tells (fault_text fault) (refusal_of (Refused fault))
fault_tells fault word = (refl, (word, inl refl))

pub bad_line_tells : Tells bad_line bad_line_refusal
unfolding digits
bad_line_tells = (refl, (refl, inl refl))

pub begun_tells : Tells begun_text None
begun_tells = refl

pub topology_tells : (fault : TopologyFault) → is_word (topology.code_and_name fault).1 ≡ true
    → Tells (refused_text fault) (Some (topology.code_and_name fault))
topology_tells fault word = (refl, (word, inl refl))

-- no refusal of a router has a hyphen
no_hyphen : (refusal : Refusal) → is_refused_turn (turn_text (turns.Refused refusal)) ≡ true
unfolding digits
no_hyphen (refusals.BadHeader headers.Short) = refl
no_hyphen (refusals.BadHeader headers.Reserved) = refl
no_hyphen (refusals.BadHeader headers.PeerFlag) = refl
no_hyphen (refusals.BadHeader headers.AlertFlag) = refl
no_hyphen (refusals.BadHeader headers.SegLens) = refl
no_hyphen (refusals.BadHeader headers.TooManyHops) = refl
no_hyphen (refusals.BadHeader headers.BadIndex) = refl
no_hyphen (refusals.BadHeader headers.RoomTooSmall) = refl
no_hyphen refusals.IndexMismatch = refl
no_hyphen refusals.WrongIngress = refl
no_hyphen refusals.Expired = refl
no_hyphen refusals.BadMac = refl
no_hyphen refusals.SourceAs = refl
no_hyphen refusals.DestinationAs = refl
no_hyphen refusals.SwitchInside = refl
no_hyphen refusals.UnknownEgress = refl
no_hyphen refusals.LinkKinds = refl
no_hyphen refusals.LinkDown = refl

begins_with : (refusal : Refusal)
    → BeginsWith (refusal_text (turn_text (turns.Refused refusal))) (router_faults.code_and_name refusal)
begins_with (refusals.BadHeader fault) = inr (code_text (headers_of.code_and_name fault), refl)
begins_with refusals.IndexMismatch = inl refl
begins_with refusals.WrongIngress = inl refl
begins_with refusals.Expired = inl refl
begins_with refusals.BadMac = inl refl
begins_with refusals.SourceAs = inl refl
begins_with refusals.DestinationAs = inl refl
begins_with refusals.SwitchInside = inl refl
begins_with refusals.UnknownEgress = inl refl
begins_with refusals.LinkKinds = inl refl
begins_with refusals.LinkDown = inl refl

pub outcome_tells : (outcome : Outcome) → is_refusal (outcome_text outcome) ≡ false
outcome_tells (ToLink interface) = refl
outcome_tells (ToRouter router) = refl
outcome_tells Deliver = refl

pub reply_tells : (net : NetValue) (reply : Reply) → HasName (refusal_of reply)
    → Tells (reply_text net reply) (refusal_of reply)
reply_tells net Done named = refl
reply_tells net (Begun beacon) named = refl
reply_tells net (Registered true) named = refl
reply_tells net (Registered false) named = refl
reply_tells net (Swept count) named = refl
reply_tells net (Answered number) named = refl
reply_tells net (Sent packet) named = refl
reply_tells net (Turned (turns.Went outcome)) named = outcome_tells outcome
reply_tells net (Turned (turns.Refused refusal)) named = (no_hyphen refusal, (named, begins_with refusal))
reply_tells net (Turned turns.Still) named = refl
reply_tells net (Refused fault) named = fault_tells fault named

-- ---- a packet that is shown

or_true : (b : Bool) → (b || true) ≡ true
or_true true = refl
or_true false = refl

abbrev has_hyphen : List ℕ → Bool
has_hyphen text = list_any (λ b. b == hyphen) text

in_front : (xs ys : List ℕ) → has_hyphen xs ≡ true → has_hyphen (xs ++ ys) ≡ true
in_front xs ys has =
    list_any-append (λ b. b == hyphen) xs ys ∙ ap (λ b. b || has_hyphen ys) has

behind : (xs ys : List ℕ) → has_hyphen ys ≡ true → has_hyphen (xs ++ ys) ≡ true
behind xs ys has =
    list_any-append (λ b. b == hyphen) xs ys ∙ ap (λ b. has_hyphen xs || b) has
    ∙ or_true (has_hyphen xs)

address_has_hyphen : (ia : ℕ) → has_hyphen (canonical ia) ≡ true
address_has_hyphen ia = behind (decimal (isd_of ia)) (dash ∷ canonical_as (as_number_of ia)) refl

place_tells : (place : PacketLocation) (behind_it : List ℕ)
    → is_refusal (place_text place ++ behind_it) ≡ false
place_tells (places.AtRouter stop) behind_it = refl
place_tells places.Delivered behind_it = refl
place_tells places.Lost behind_it = refl
place_tells (places.Refused ia router refusal) behind_it =
    let rest = codes " " ++ (decimal router ++ (codes " " ++ router_faults.refusal_text refusal)) in
    ap not (in_front (place_text (places.Refused ia router refusal)) behind_it
    (behind (codes "refused ") (canonical ia ++ rest) (in_front (canonical ia) rest (address_has_hyphen ia))))

pub shown_tells : (packet : Option PacketValue) → Tells (packet_text packet) (refusal_shown packet)
shown_tells None = fault_tells NoPacket refl
shown_tells (Some one) = place_tells one.packet.place (passed_text one.packet.passed)

-- ---- in what was written

-- what was written behind no bytes tells the refusal of its text
pub tells_as : {A F : Type 0} (written : Result A F) (before after text : List ℕ)
    (told refusal : Option (ℕ × List ℕ)) → before ≡ [] → Tells text refusal
    → OnOk written (after ≡ before ++ text) → OnOk written (told ≡ refusal)
    → OnOk written (Tells after told)
tells_as (Ok done) before after text told refusal none tells added is =
    subst (λ r. Tells after r) (sym is)
    (subst (λ t. Tells t refusal) (sym (added ∙ ap (λ b. b ++ text) none)) tells)
tells_as (Err fault) before after text told refusal none tells added is = tt
