-- What one event does to a network, part by part: to its topology, to its beacons and its store, to
-- its answers, and to its packets. What goes over all events cites this.
use Rattle.std.proofs.Common.{◌≡◌, ℕ, Bool, true, false, ◌⊎◌, List, [], ◌∷◌, ◌++◌, length, Some, Result, Ok, Err, refl, sym, ap, ◌∙◌, inl, inr}
use Rattle.std.specs.Prelude.{slice_get, slice_set}
use Rattle.refusal.specs.Refusal.{◌>>=◌, check, refused_as}
use Rattle.refusal.proofs.Steps.{ok_is, ok_or_ok}
use Rattle.scion_topology.specs.declared.fault.TopologyFault.{TopologyFault}
use Rattle.scion_topology.specs.Network.{Network}
use Rattle.scion_topology.specs.Topology.{owner_in, set_up, with_rotated_key}
use Rattle.path_segment.specs.Chain.{Chain}
use Rattle.beaconing.specs.Calls.{originated_beacon, extended_beacon, terminated_beacon}
use Rattle.path_verifier.specs.Walk.{walk_of}
use Rattle.forwarding.specs.Journey.{first_out}
use Rattle.forwarding.specs.Turn.{Packet, turn_of, lost_packet, altered_packet}
use Rattle.path_server.specs.Store.{answer_to, with_registered, live_segments}
use Rattle.policy_expr.specs.declared.option_fault.OptionFault.{OptionFault}
use Rattle.policy_expr.specs.Options.{WeighedRules}
use Rattle.combinator.specs.Answer.{is_limit}
use Rattle.combinator.specs.Fault.{ends_at}
use Rattle.network_core.specs.declared.fault.EventFault.{EventFault}
use Rattle.network_core.specs.declared.fault.EventFault.TheVariants as faults
use Rattle.network_core.specs.declared.reply.Reply.{Reply}
use Rattle.network_core.specs.declared.reply.Reply.TheVariants.{Done, Begun, Registered, Answered}
use Rattle.network_core.specs.Event.{EventValue, Tick, Originate, Extend, Terminate, Sweep, Ask, Send, Turn, Lose, Alter, CutLink, MendLink, RotateKey}
use Rattle.network_core.specs.Value.{Shipment, PacketValue, NetValue, KeptAnswer}
use Rattle.network_core.specs.Step.{Made, has_room, with_beacon, with_segment, new_segment, beacon_at, with_network, with_packet, flying_at, options_asked, shipment_by, packet_of, Leads, Asks, Sends, Step, IsAnswerTo}
use Rattle.network_core.specs.Delivery.{is_done}

-- ---- steps of a definition

-- a lower call that was done gave this
pub done_below : {A F : Type 0} (of_fault : F → EventFault) (r : Result A F) (x : A)
    → refused_as of_fault r ≡ Ok x → r ≡ Ok x
done_below of_fault (Ok y) x e = cc
done_below of_fault (Err fault) x e = absurd cc

-- both steps of two that were done
pub both_done : {A B F : Type 0} (r : Result A F) (f : A → Result B F) (y : B) → (r >>= f) ≡ Ok y
    → (x : A) × ((r ≡ Ok x) × (f x ≡ Ok y))
both_done (Ok x) f y e = (x, (refl, e))
both_done (Err fault) f y e = absurd cc

-- ---- the topology

-- the event that puts a link up or down
abbrev pub switching : Bool → ℕ → ℕ → EventValue
switching true ia number = MendLink ia number
switching false ia number = CutLink ia number

-- a link is mended or cut
pub record IsSwitched (old : NetValue) (event : EventValue) (reply : Reply) (new : NetValue) : Type 0 where
  pub up : Bool
  pub ia : ℕ
  pub number : ℕ
  pub event_is : event ≡ switching up ia number
  pub done : is_done reply ≡ true
  pub change : set_up up ia number old.network ≡ Ok new.network

-- an AS takes another key into use
pub record IsRekeyed (old : NetValue) (event : EventValue) (reply : Reply) (new : NetValue) : Type 0 where
  pub ia : ℕ
  pub key : List ℕ
  pub event_is : event ≡ RotateKey ia key
  pub done : is_done reply ≡ true
  pub change : with_rotated_key ia key old.network ≡ Ok new.network

abbrev pub Renews : NetValue → EventValue → Reply → NetValue → Type 0
Renews old event reply new = (new.network ≡ old.network)
    ⊎ (IsSwitched old event reply new ⊎ IsRekeyed old event reply new)

-- ---- beacons and store

-- a beacon is begun
pub record IsStart (old : NetValue) (event : EventValue) (reply : Reply) (new : NetValue) : Type 0 where
  pub ia : ℕ
  pub egress : ℕ
  pub beta0 : ℕ
  pub event_is : event ≡ Originate ia egress beta0
  pub reply_is : reply ≡ Begun (length old.beacons)
  pub chain : Chain
  pub made : originated_beacon old.network ia egress old.moment beta0 ≡ Ok chain
  pub beacons : new.beacons ≡ old.beacons ++ chain ∷ []
  pub segments : new.segments ≡ old.segments

-- one that was there is passed on
pub record IsPass (old : NetValue) (event : EventValue) (reply : Reply) (new : NetValue) : Type 0 where
  pub beacon : ℕ
  pub ia : ℕ
  pub egress : ℕ
  pub event_is : event ≡ Extend beacon ia egress
  pub reply_is : reply ≡ Begun (length old.beacons)
  pub from : Chain
  pub was : slice_get old.beacons beacon ≡ Some from
  pub chain : Chain
  pub made : extended_beacon old.network from ia egress ≡ Ok chain
  pub beacons : new.beacons ≡ old.beacons ++ chain ∷ []
  pub segments : new.segments ≡ old.segments

-- one that was there is ended, and the segment registered
pub record IsEnd (old : NetValue) (event : EventValue) (reply : Reply) (new : NetValue) : Type 0 where
  pub beacon : ℕ
  pub ia : ℕ
  pub event_is : event ≡ Terminate beacon ia
  pub is_new : Bool
  pub reply_is : reply ≡ Registered is_new
  pub from : Chain
  pub was : slice_get old.beacons beacon ≡ Some from
  pub chain : Chain
  pub made : terminated_beacon old.network from ia ≡ Ok chain
  pub beacons : new.beacons ≡ old.beacons
  pub segments : new.segments ≡ with_registered old.segments chain old.moment

-- nothing becomes of beacons and store, and the store is swept
abbrev pub Leaves : NetValue → NetValue → Type 0
Leaves old new = (new.beacons ≡ old.beacons) × (new.segments ≡ old.segments)

abbrev pub IsSwept : NetValue → NetValue → Type 0
IsSwept old new = (new.beacons ≡ old.beacons) × (new.segments ≡ live_segments old.segments old.moment)

abbrev pub Stores : NetValue → EventValue → Reply → NetValue → Type 0
Stores old event reply new =
    Leaves old new
    ⊎ (IsStart old event reply new
    ⊎ (IsPass old event reply new ⊎ (IsEnd old event reply new ⊎ IsSwept old new)))

-- ---- answers

-- paths were asked for and answered
pub record IsAsk (old : NetValue) (event : EventValue) (reply : Reply) (new : NetValue) : Type 0 where
  pub src : ℕ
  pub dst : ℕ
  pub options : List WeighedRules
  pub limit : ℕ
  pub event_is : event ≡ Ask src dst (Ok options) limit
  pub one : KeptAnswer
  pub is : IsAnswerTo old src dst options limit one
  pub told : reply ≡ Answered (length old.answers)
  pub kept : new ≡ record old { answers = old.answers ++ one ∷ [] }

abbrev pub Answers : NetValue → EventValue → Reply → NetValue → Type 0
Answers old event reply new = (new.answers ≡ old.answers) ⊎ IsAsk old event reply new

-- ---- packets

-- a packet departs, at the router that owns its first way out
pub record IsDeparture (old new : NetValue) : Type 0 where
  pub sent : Shipment
  pub router : ℕ
  pub owned : owner_in old.network sent.way.source (first_out (walk_of sent.way.pieces)) ≡ Ok router
  pub packets : new.packets ≡ old.packets ++ packet_of sent router ∷ []

-- a packet has a turn, is lost, or has a byte changed
abbrev pub IsTurn : NetValue → EventValue → ℕ → PacketValue → Packet → Type 0
IsTurn old event number one packet =
    (event ≡ Turn number) × (packet ≡ (turn_of old.network old.moment one.packet).1)

abbrev pub IsLoss : EventValue → ℕ → PacketValue → Packet → Type 0
IsLoss event number one packet = (event ≡ Lose number) × (packet ≡ lost_packet one.packet)

pub record IsAlteration (event : EventValue) (number : ℕ) (one : PacketValue) (packet : Packet) : Type 0 where
  pub at : ℕ
  pub change : ℕ
  pub event_is : event ≡ Alter number at change
  pub is : packet ≡ altered_packet one.packet at change

pub record IsMove (old : NetValue) (event : EventValue) (new : NetValue) : Type 0 where
  pub number : ℕ
  pub one : PacketValue
  pub packet : Packet
  pub flying : flying_at old number ≡ Ok one
  pub how : IsTurn old event number one packet
      ⊎ (IsLoss event number one packet ⊎ IsAlteration event number one packet)
  pub packets : new.packets ≡ slice_set old.packets number (record one { packet = packet })

abbrev pub Moves : NetValue → EventValue → NetValue → Type 0
Moves old event new =
    (new.packets ≡ old.packets) ⊎ (IsDeparture old new ⊎ IsMove old event new)

-- ---- all parts

pub record Effect (old : NetValue) (event : EventValue) (reply : Reply) (new : NetValue) : Type 0 where
  pub network : Renews old event reply new
  pub stores : Stores old event reply new
  pub answers : Answers old event reply new
  pub packets : Moves old event new

module _ (old new : NetValue) (event : EventValue) (reply : Reply) where
  network_now : (net : NetValue) → new ≡ net → new.network ≡ net.network
  network_now net is = ap (λ (n : NetValue). n.network) is

  beacons_now : (net : NetValue) → new ≡ net → new.beacons ≡ net.beacons
  beacons_now net is = ap (λ (n : NetValue). n.beacons) is

  segments_now : (net : NetValue) → new ≡ net → new.segments ≡ net.segments
  segments_now net is = ap (λ (n : NetValue). n.segments) is

  answers_now : (net : NetValue) → new ≡ net → new.answers ≡ net.answers
  answers_now net is = ap (λ (n : NetValue). n.answers) is

  packets_now : (net : NetValue) → new ≡ net → new.packets ≡ net.packets
  packets_now net is = ap (λ (n : NetValue). n.packets) is

  -- at most the moment is another
  in_moment : (moment : ℕ) → new ≡ record old { moment = moment } → Effect old event reply new
  in_moment moment is = record {
    network = inl (network_now _ is);
    stores = inl (beacons_now _ is, segments_now _ is);
    answers = inl (answers_now _ is);
    packets = inl (packets_now _ is);
  }

  nothing : new ≡ old → Effect old event reply new
  nothing is = in_moment old.moment is

  -- only beacons and segments are others
  in_store : (beacons segments : List Chain) → new ≡ record old { beacons = beacons; segments = segments }
      → Stores old event reply new → Effect old event reply new
  in_store beacons segments is stored = record {
    network = inl (network_now _ is);
    stores = stored;
    answers = inl (answers_now _ is);
    packets = inl (packets_now _ is);
  }

  -- only packets are others
  in_packets : (packets : List PacketValue) → new ≡ record old { packets = packets }
      → Moves old event new → Effect old event reply new
  in_packets packets is moved = record {
    network = inl (network_now _ is);
    stores = inl (beacons_now _ is, segments_now _ is);
    answers = inl (answers_now _ is);
    packets = moved;
  }

  -- only the topology is another
  in_network : (made : Result Network TopologyFault) → Leads (with_network old made) old reply new
      → (is_done reply ≡ true → made ≡ Ok new.network → Renews old event reply new)
      → Effect old event reply new
  in_network (Err fault) is renewed = nothing is.1
  in_network (Ok network) is renewed = record {
    network = renewed (ap is_done is.0) (ap okay (sym (network_now _ is.1)));
    stores = inl (beacons_now _ is.1, segments_now _ is.1);
    answers = inl (answers_now _ is.1);
    packets = inl (packets_now _ is.1);
  }
    where
      okay : Network → Result Network TopologyFault
      okay n = Ok n

  -- a step that is done leads on, and one that is refused changes nothing
  then_effect : {A : Type 0} (r : Result A EventFault) (f : A → Made)
      → ((x : A) → r ≡ Ok x → Leads (f x) old reply new → Effect old event reply new)
      → Leads (r >>= f) old reply new → Effect old event reply new
  then_effect (Ok x) f each is = each x refl is
  then_effect (Err fault) f each is = nothing is.1

  -- a packet in flight is replaced
  moved : (number : ℕ) (one : PacketValue) (packet : Packet) → flying_at old number ≡ Ok one
      → IsTurn old event number one packet
      ⊎ (IsLoss event number one packet ⊎ IsAlteration event number one packet)
      → new ≡ record old { packets = slice_set old.packets number (record one { packet = packet }) }
      → Effect old event reply new
  moved number one packet flying how is = in_packets _ is (inr (inr (record {
    number = number;
    one = one;
    packet = packet;
    flying = flying;
    how = how;
    packets = packets_now _ is;
  })))

  departed : (sent : Result Shipment EventFault) → Sends sent old reply new → Effect old event reply new
  departed (Err fault) is = nothing is.1
  departed (Ok sent) (inr refused) = nothing refused.1.1.1
  departed (Ok sent) (inl accepted) =
      let owner = owner_in old.network sent.way.source (first_out (walk_of sent.way.pieces)) in
      then_effect (refused_as faults.Topology owner) _ (λ router owned.
      then_effect (check (has_room old.packets) faults.TooMany) _ (λ _ _ is.
      in_packets _ is.1 (inr (inl (record {
        sent = sent;
        router = router;
        owned = done_below faults.Topology owner router owned;
        packets = packets_now _ is.1;
      }))))) accepted.1

  -- a beacon more
  added : (chain : Chain)
      → (reply ≡ Begun (length old.beacons) → new.beacons ≡ old.beacons ++ chain ∷ []
      → new.segments ≡ old.segments → Stores old event reply new)
      → Leads (with_beacon old chain) old reply new → Effect old event reply new
  added chain stored =
      then_effect (check (has_room old.beacons) faults.TooMany) _ (λ _ _ is.
      in_store _ old.segments is.1 (stored is.0 (beacons_now _ is.1) (segments_now _ is.1)))

-- ---- requests for paths

abbrev are_read : List WeighedRules → Result (List WeighedRules) OptionFault
are_read options = Ok options

-- the options that were asked with are those that were read
options_read : (net : NetValue) (src dst : ℕ) (read : Result (List WeighedRules) OptionFault)
    (limit : ℕ) (options : List WeighedRules) → options_asked net src dst read limit ≡ Ok options
    → read ≡ Ok options
options_read net src dst read limit options is =
    let limited = both_done (check (is_limit limit) faults.BadLimit) _ options is in
    let judged = both_done (refused_as faults.Policy read) _ options limited.1.1 in
    let ends = both_done (refused_as faults.Combination (ends_at src dst)) _ options judged.1.1 in
    let few = both_done (check (has_room net.answers) faults.TooMany) _ options ends.1.1 in
    done_below faults.Policy read judged.0 judged.1.0 ∙ ap are_read (ok_is judged.0 options few.1.1)

asked : (old new : NetValue) (reply : Reply) (src dst : ℕ) (read : Result (List WeighedRules) OptionFault)
    (limit : ℕ) (options : Result (List WeighedRules) EventFault)
    → options_asked old src dst read limit ≡ options → Asks options src dst limit old reply new
    → Effect old (Ask src dst read limit) reply new
asked old new reply src dst read limit (Err fault) are is = nothing old new (Ask src dst read limit) reply is.1
asked old new reply src dst read limit (Ok options) are is =
    let event = Ask src dst read limit in
    let kept = is.1.1.1 in
    record {
      network = inl (network_now old new event reply _ kept);
      stores = inl (beacons_now old new event reply _ kept, segments_now old new event reply _ kept);
      answers = inr (record {
        src = src;
        dst = dst;
        options = options;
        limit = limit;
        event_is = ap (λ r. Ask src dst r limit) (options_read old src dst read limit options are);
        one = is.0;
        is = is.1.0;
        told = is.1.1.0;
        kept = kept;
      });
      packets = inl (packets_now old new event reply _ kept);
    }

-- ---- each event

pub effect : (old new : NetValue) (event : EventValue) (reply : Reply) → Step old event reply new
    → Effect old event reply new
effect old new (Tick to) reply is =
    then_effect old new (Tick to) reply _ (λ _. Ok (Done, record old { moment = to }))
    (λ _ _ done. in_moment old new (Tick to) reply to done.1) is
effect old new (Originate ia egress beta0) reply is =
    let event = Originate ia egress beta0 in
    then_effect old new event reply (refused_as faults.Beacon (originated_beacon old.network ia egress old.moment beta0)) (with_beacon old) (λ chain made.
    added old new event reply chain (λ told beacons segments. inr (inl (record {
      ia = ia;
      egress = egress;
      beta0 = beta0;
      event_is = refl;
      reply_is = told;
      chain = chain;
      made = done_below faults.Beacon (originated_beacon old.network ia egress old.moment beta0) chain made;
      beacons = beacons;
      segments = segments;
    })))) is
effect old new (Extend beacon ia egress) reply is =
    let event = Extend beacon ia egress in
    then_effect old new event reply (beacon_at old beacon >>= λ from. refused_as faults.Beacon (extended_beacon old.network from ia egress)) (with_beacon old) (λ chain made.
    added old new event reply chain (λ told beacons segments. (
    let was = both_done (beacon_at old beacon) _ chain made in
    inr (inr (inl (record {
      beacon = beacon;
      ia = ia;
      egress = egress;
      event_is = refl;
      reply_is = told;
      from = was.0;
      was = ok_or_ok (slice_get old.beacons beacon) faults.NoBeacon was.0 was.1.0;
      chain = chain;
      made = done_below faults.Beacon (extended_beacon old.network was.0 ia egress) chain was.1.1;
      beacons = beacons;
      segments = segments;
    })))))) is
effect old new (Terminate beacon ia) reply is =
    let event = Terminate beacon ia in
    then_effect old new event reply (new_segment old beacon ia) (with_segment old) (λ chain made.
    then_effect old new event reply (refused_as faults.Store (answer_to old.segments chain old.moment)) _
    (λ is_new _ done. (
    let was = both_done (beacon_at old beacon) _ chain made in
    in_store old new event reply old.beacons _ done.1 (inr (inr (inr (inl (record {
      beacon = beacon;
      ia = ia;
      event_is = refl;
      is_new = is_new;
      reply_is = done.0;
      from = was.0;
      was = ok_or_ok (slice_get old.beacons beacon) faults.NoBeacon was.0 was.1.0;
      chain = chain;
      made = done_below faults.Beacon (terminated_beacon old.network was.0 ia) chain was.1.1;
      beacons = beacons_now old new event reply _ done.1;
      segments = segments_now old new event reply _ done.1;
    })))))))) is
effect old new Sweep reply is =
    in_store old new Sweep reply old.beacons _ is.1 (inr (inr (inr (inr
    (beacons_now old new Sweep reply _ is.1, segments_now old new Sweep reply _ is.1)))))
effect old new (Ask src dst read limit) reply is =
    asked old new reply src dst read limit (options_asked old src dst read limit) refl is
effect old new (Send route payload) reply is =
    departed old new (Send route payload) reply (shipment_by old route payload) is
effect old new (Turn number) reply is =
    then_effect old new (Turn number) reply (flying_at old number) _ (λ one flying done.
    moved old new (Turn number) reply number one _ flying (inl (refl, refl)) done.1) is
effect old new (Lose number) reply is =
    then_effect old new (Lose number) reply (flying_at old number) _ (λ one flying done.
    moved old new (Lose number) reply number one _ flying (inr (inl (refl, refl))) done.1) is
effect old new (Alter number at change) reply is =
    let event = Alter number at change in
    then_effect old new event reply (flying_at old number) _ (λ one flying checked.
    then_effect old new event reply _ (λ _. Ok (Done, with_packet old number one (altered_packet one.packet at change)))
    (λ _ _ done. moved old new event reply number one (altered_packet one.packet at change) flying
    (inr (inr (record { at = at; change = change; event_is = refl; is = refl }))) done.1) checked) is
effect old new (CutLink ia number) reply is =
    in_network old new (CutLink ia number) reply (set_up false ia number old.network) is (λ done change.
    inr (inl (record { up = false; ia = ia; number = number; event_is = refl; done = done; change = change })))
effect old new (MendLink ia number) reply is =
    in_network old new (MendLink ia number) reply (set_up true ia number old.network) is (λ done change.
    inr (inl (record { up = true; ia = ia; number = number; event_is = refl; done = done; change = change })))
effect old new (RotateKey ia key) reply is =
    in_network old new (RotateKey ia key) reply (with_rotated_key ia key old.network) is (λ done change.
    inr (inr (record { ia = ia; key = key; event_is = refl; done = done; change = change })))
