-- A whole packet in parts.
use Rattle.std.proofs.Common.{◌≡◌, ℕ, ◌+◌, ◌*◌, ◌/◌, ◌%◌, ◌<◌, ◌≤◌, true, ◌==◌, List, [], ◌∷◌, ◌++◌, Result, Ok, Err, length, take, drop, refl, sym, ◌∙◌, ap, subst, arith, length-append, length-drop}
use Rattle.std.specs.Prelude.{slice_index}
use Rattle.std.specs.Int.{w16, w64, from_be_bytes}
use Rattle.std.proofs.Math.Seq.{take-append_seam, drop-append_seam}
use Rattle.std.proofs.Math.ListN.{get_or-append}
use Rattle.std.proofs.lemmas.Bool.{le-ltb}
use Rattle.std.proofs.lemmas.Bool.Decides.{Decides-eqb}
use Rattle.std.proofs.lemmas.List.{length-take-le, drop-append-le, take-append-le}
use Rattle.refusal.specs.Refusal.{◌>>=◌, refused_as}
use Rattle.scion_topology.specs.View.{View}
use Rattle.path_header.specs.Value.{HeaderValue, header_len, len_for}
use Rattle.path_header.specs.Spelling.{spelling}
use Rattle.path_header.specs.Reading.{header_at}
use Rattle.path_header.proofs.WholeHeader.{header_again, spelled_is_long}
use Rattle.router_step.specs.declared.outcome.Outcome.{Outcome}
use Rattle.router_step.specs.declared.fault.Refusal.{Refusal}
use Rattle.router_step.specs.declared.arrival.Arrival.{Arrival}
use Rattle.router_step.specs.Packet.{packet_step, IsFrame, source_of, destination_of}
use Rattle.router_step.specs.Step.{step_of}
use Rattle.router_step.specs.Done.{Situation}
use Rattle.router_step.proofs.Frames.{frame_stepped}
use Rattle.router_step.proofs.Continuing.{lens_again}
use Rattle.router_step.proofs.Fits.{spelled_again}
use Rattle.scion_packet.specs.declared.fault.TurnRefusal.{TurnRefusal}
use Rattle.scion_packet.specs.declared.fault.TurnRefusal.TheVariants.{Step}
use Rattle.scion_packet.specs.Layout.{path_place, announced_len, announced_payload, addresses_of, frame_in}
use Rattle.scion_packet.specs.Reading.{path_place_in, path_header_in}
use Rattle.scion_packet.specs.Turn.{whole_packet_step}
use Rattle.scion_packet.specs.Parts.{HasParts, KeepsParts, parts_step, turned_frame, RouterTurn, bytes_after, packet_after_turns, frame_after_turns}

same_value : {A F : Type 0} (x y : A) → (let r : Result A F = Ok x in r) ≡ Ok y → x ≡ y
same_value x y e = cc

-- ---- what stands in front

same_byte : (front rest : List ℕ) (i : ℕ) → i < length front
    → slice_index (front ++ rest) i ≡ slice_index front i
same_byte front rest i within = get_or-append front rest 0 i within

-- the front is at least this long
least : (front : List ℕ) → length front ≡ path_place front → 36 ≤ length front
least front is = omega (arith, is)

same_place : (front rest : List ℕ) → 36 ≤ length front
    → path_place (front ++ rest) ≡ path_place front
same_place front rest long =
    ap (λ (b : ℕ). 28 + (4 + 4 * (b / 16 % 4)) + (4 + 4 * (b % 4)))
    (same_byte front rest 9 (omega (arith, long)))

same_len : (front rest : List ℕ) → 36 ≤ length front
    → announced_len (front ++ rest) ≡ announced_len front
same_len front rest long = ap (λ (b : ℕ). 4 * b) (same_byte front rest 5 (omega (arith, long)))

same_payload : (front rest : List ℕ) → 36 ≤ length front
    → announced_payload (front ++ rest) ≡ announced_payload front
same_payload front rest long =
    ap (λ (b : ℕ). from_be_bytes w16 (b ∷ slice_index (front ++ rest) 7 ∷ []))
    (same_byte front rest 6 (omega (arith, long)))
    ∙ ap (λ (b : ℕ). from_be_bytes w16 (slice_index front 6 ∷ b ∷ []))
    (same_byte front rest 7 (omega (arith, long)))

same_addresses : (front rest : List ℕ) → 36 ≤ length front
    → addresses_of (front ++ rest) ≡ addresses_of front
same_addresses front rest long =
    ap (take 16) (drop-append-le 12 front rest (omega (arith, long)))
    ∙ take-append-le 16 (drop 12 front) rest (omega (arith, long, length-drop 12 front))

addresses_len : (front : List ℕ) → 36 ≤ length front → length (addresses_of front) ≡ 16
addresses_len front long =
    length-take-le 16 (drop 12 front) (omega (arith, long, length-drop 12 front))

equal : (m n : ℕ) → m ≡ n → (m == n) ≡ true
equal m n e = (Decides-eqb m n).1 e

-- ---- a packet in parts is read

place_is : (front rest : List ℕ) → slice_index front 0 < 16 → slice_index front 8 ≡ 1
    → length front ≡ path_place front → path_place_in (front ++ rest) ≡ Ok (length front)
unfolding path_place_in
place_is front rest version path_type addresses =
    let long = least front addresses in
    let at : path_place (front ++ rest) ≡ length front =
    same_place front rest long ∙ sym addresses in
    let whole = length-append front rest in
    let short : 12 ≤ length (front ++ rest) = omega (arith, whole, long) in
    let first : slice_index (front ++ rest) 0 ≤ 15 =
    rw (same_byte front rest 0 (omega (arith, long))) (omega (arith, version)) in
    let eighth : slice_index (front ++ rest) 8 ≡ 1 =
    same_byte front rest 8 (omega (arith, long)) ∙ path_type in
    let within : path_place (front ++ rest) ≤ length (front ++ rest) = omega (arith, whole, at) in
    rw (
      le-ltb (length (front ++ rest)) 12 short,
      le-ltb 15
          (slice_index (front ++ rest) 0) first,
      eighth,
      le-ltb (length (front ++ rest))
          (path_place (front ++ rest)) within,
    )
    (ap Ok at)

read_in_parts : (front text payload : List ℕ) (header : HeaderValue)
    → HasParts (front ++ (text ++ payload)) front text payload header
    → path_header_in (front ++ (text ++ payload)) ≡ Ok header
unfolding path_header_in
read_in_parts front text payload header w =
    let rest = text ++ payload in
    let long = least front w.addresses in
    let behind : drop (length front) (front ++ rest) ≡ rest = drop-append_seam front rest in
    let there : header_at (drop (length front) (front ++ rest)) ≡ Ok header =
    ap header_at behind ∙ ap (λ (t : List ℕ). header_at (t ++ payload)) w.spells.spelled
    ∙ header_again header payload w.spells.is_header w.spells.fits in
    let headers : announced_len (front ++ rest) ≡ length front + header_len header =
    same_len front rest long ∙ w.headers_announced in
    let text_len = spelled_is_long header text w.spells in
    let rest_len : announced_payload (front ++ rest) ≡ length payload =
    same_payload front rest long ∙ w.payload_announced in
    let all : length front + header_len header + announced_payload (front ++ rest)
    ≡ length (front ++ rest) =
    omega (arith, rest_len, text_len, length-append front rest, length-append text payload) in
    rw (
      place_is front rest w.version w.path_type w.addresses,
      there,
      equal _ _ headers,
      equal _ _ all,
    ) refl

itself : (packet front text payload : List ℕ) (header : HeaderValue)
    → HasParts packet front text payload header
    → HasParts (front ++ (text ++ payload)) front text payload header
itself packet front text payload header w = record {
  whole = refl;
  spells = w.spells;
  version = w.version;
  path_type = w.path_type;
  addresses =
      w.addresses;
  headers_announced = w.headers_announced;
  payload_announced = w.payload_announced;
}

pub read_whole : (packet front text payload : List ℕ) (header : HeaderValue)
    → HasParts packet front text payload header → path_header_in packet ≡ Ok header
read_whole packet front text payload header w =
    subst (λ (p : List ℕ). path_header_in p ≡ Ok header) (sym w.whole)
    (read_in_parts front text payload header (itself packet front text payload header w))

-- ---- its frame

frame_parts : (front text payload : List ℕ) → length front ≡ path_place front
    → frame_in (front ++ (text ++ payload)) ≡ addresses_of front ++ (text ++ payload)
frame_parts front text payload addresses =
    let rest = text ++ payload in
    let long = least front addresses in
    let at : path_place (front ++ rest) ≡ length front =
    same_place front rest long ∙ sym addresses in
    ap (λ (t : List ℕ). t ++ drop (path_place (front ++ rest)) (front ++ rest))
    (same_addresses front rest long)
    ∙ ap (λ (t : List ℕ). addresses_of front ++ t)
    (ap (λ (n : ℕ). drop n (front ++ rest)) at ∙ drop-append_seam front rest)

pub frame_whole : (packet front text payload : List ℕ) (header : HeaderValue)
    → HasParts packet front text payload header
    → IsFrame (frame_in packet) (addresses_of front) text payload header
frame_whole packet front text payload header w = record {
  whole = ap frame_in w.whole ∙ frame_parts front text payload w.addresses;
  two = addresses_len front (least front w.addresses);
  spells = w.spells;
}

-- ---- the turn on it

abbrev in_frame : List ℕ → List ℕ → Outcome × HeaderValue → Result (Outcome × List ℕ) Refusal
in_frame front payload stepped = Ok (stepped.0, front ++ (spelling stepped.1 ++ payload))

abbrev put_back : List ℕ → Outcome × List ℕ → Result (Outcome × List ℕ) TurnRefusal
put_back ahead turned = Ok (turned.0, ahead ++ drop 16 turned.1)

abbrev as_step : Result (Outcome × List ℕ) Refusal → Result (Outcome × List ℕ) TurnRefusal
as_step r = refused_as Step r

joined : (s : Result (Outcome × HeaderValue) Refusal) (ahead front addresses payload : List ℕ)
    → ahead ≡ front → length addresses ≡ 16
    → (as_step (s >>= in_frame addresses payload) >>= put_back ahead)
    ≡ as_step (s >>= in_frame front payload)
joined (Ok x) ahead front addresses payload same two =
    let back : drop 16 (addresses ++ (spelling x.1 ++ payload)) ≡ spelling x.1 ++ payload =
    subst (λ n. drop n (addresses ++ (spelling x.1 ++ payload)) ≡ spelling x.1 ++ payload) two
    (drop-append_seam addresses (spelling x.1 ++ payload)) in
    ap (λ (t : List ℕ). Ok (x.0, t))
    (ap (λ (t : List ℕ). t ++ drop 16 (addresses ++ (spelling x.1 ++ payload))) same
    ∙ ap (λ (t : List ℕ). front ++ t) back)
joined (Err e) ahead front addresses payload same two = refl

source_same : (addresses text : List ℕ) → length addresses ≡ 16
    → source_of (addresses ++ text) ≡ source_of addresses
source_same addresses text two =
    ap (from_be_bytes w64)
    (ap (take 8) (drop-append-le 8 addresses text (omega (arith, two)))
    ∙ take-append-le 8 (drop 8 addresses) text (omega (arith, two, length-drop 8 addresses)))

destination_same : (addresses text : List ℕ) → length addresses ≡ 16
    → destination_of (addresses ++ text) ≡ destination_of addresses
destination_same addresses text two =
    ap (from_be_bytes w64) (take-append-le 8 addresses text (omega (arith, two)))

pub turned_whole : (view : View) (now : ℕ) (arrival : Arrival) (packet front text payload : List ℕ)
    (header : HeaderValue) → HasParts packet front text payload header
    → whole_packet_step view now arrival packet
    ≡ refused_as Step (parts_step view now arrival front header payload)
unfolding whole_packet_step
turned_whole view now arrival packet front text payload header w =
    let f = frame_whole packet front text payload header w in
    let addresses = addresses_of front in
    let long = least front w.addresses in
    let rest = text ++ payload in
    let step_with = λ (a b : ℕ). step_of view now arrival a b header in
    let from : source_of (frame_in packet) ≡ source_of addresses =
    ap source_of f.whole ∙ source_same addresses rest f.two in
    let to : destination_of (frame_in packet) ≡ destination_of addresses =
    ap destination_of f.whole ∙ destination_same addresses rest f.two in
    let stepped : packet_step view now arrival (frame_in packet)
    ≡ (step_of view now arrival (source_of addresses) (destination_of addresses) header
    >>= in_frame addresses payload) =
    frame_stepped view now arrival (frame_in packet) addresses text payload header f
    ∙ ap (λ (a : ℕ). step_of view now arrival a (destination_of (frame_in packet)) header
    >>= in_frame addresses payload) from
    ∙ ap (λ (b : ℕ). step_of view now arrival (source_of addresses) b header
    >>= in_frame addresses payload) to in
    let ahead : take (path_place packet) packet ≡ front =
    ap (λ (p : List ℕ). take (path_place p) p) w.whole
    ∙ ap (λ (n : ℕ). take n (front ++ rest)) (same_place front rest long ∙ sym w.addresses)
    ∙ take-append_seam front rest in
    rw (read_whole packet front text payload header w, stepped)
    (joined (step_of view now arrival (source_of addresses) (destination_of addresses) header)
    (take (path_place packet) packet) front addresses payload ahead f.two)

-- ---- as its frame

framed_parts : (s : Result (Outcome × HeaderValue) Refusal) (front payload : List ℕ)
    → length front ≡ path_place front
    → turned_frame (as_step (s >>= in_frame front payload))
    ≡ as_step (s >>= in_frame (addresses_of front) payload)
framed_parts (Ok x) front payload addresses =
    ap (λ (t : List ℕ). Ok (x.0, t)) (frame_parts front (spelling x.1) payload addresses)
framed_parts (Err e) front payload addresses = refl

framed_step : (view : View) (now : ℕ) (arrival : Arrival) (packet front text payload : List ℕ)
    (header : HeaderValue) → HasParts packet front text payload header
    → packet_step view now arrival (frame_in packet)
    ≡ (step_of view now arrival (source_of (addresses_of front))
    (destination_of (addresses_of front)) header >>= in_frame (addresses_of front) payload)
framed_step view now arrival packet front text payload header w =
    let f = frame_whole packet front text payload header w in
    let addresses = addresses_of front in
    let rest = text ++ payload in
    let from : source_of (frame_in packet) ≡ source_of addresses =
    ap source_of f.whole ∙ source_same addresses rest f.two in
    let to : destination_of (frame_in packet) ≡ destination_of addresses =
    ap destination_of f.whole ∙ destination_same addresses rest f.two in
    frame_stepped view now arrival (frame_in packet) addresses text payload header f
    ∙ ap (λ (a : ℕ). step_of view now arrival a (destination_of (frame_in packet)) header
    >>= in_frame addresses payload) from
    ∙ ap (λ (b : ℕ). step_of view now arrival (source_of addresses) b header
    >>= in_frame addresses payload) to

pub as_frame : (view : View) (now : ℕ) (arrival : Arrival) (packet front text payload : List ℕ)
    (header : HeaderValue) → HasParts packet front text payload header
    → turned_frame (whole_packet_step view now arrival packet)
    ≡ refused_as Step (packet_step view now arrival (frame_in packet))
as_frame view now arrival packet front text payload header w =
    let s = step_of view now arrival (source_of (addresses_of front))
    (destination_of (addresses_of front)) header in
    ap turned_frame (turned_whole view now arrival packet front text payload header w)
    ∙ framed_parts s front payload w.addresses
    ∙ ap as_step (sym (framed_step view now arrival packet front text payload header w))

made_by : (s : Result (Outcome × HeaderValue) Refusal) (front payload : List ℕ) (outcome : Outcome)
    (new : List ℕ) → as_step (s >>= in_frame front payload) ≡ Ok (outcome, new)
    → (changed : HeaderValue)
    × ((s ≡ Ok (outcome, changed)) × (new ≡ front ++ (spelling changed ++ payload)))
made_by (Ok x) front payload outcome new e =
    let pair = same_value (x.0, front ++ (spelling x.1 ++ payload)) (outcome, new) e in
    let same : x.0 ≡ outcome = ap (λ (p : Outcome × List ℕ). p.0) pair in
    let made : front ++ (spelling x.1 ++ payload) ≡ new = ap (λ (p : Outcome × List ℕ). p.1) pair in
    (x.1, (ap (λ (o : Outcome). Ok (o, x.1)) same, sym made))
made_by (Err r) front payload outcome new e = absurd cc

pub stays : (view : View) (now : ℕ) (arrival : Arrival) (packet front text payload : List ℕ)
    (header : HeaderValue) (outcome : Outcome) (new : List ℕ)
    → HasParts packet front text payload header
    → whole_packet_step view now arrival packet ≡ Ok (outcome, new) → KeepsParts new front payload
stays view now arrival packet front text payload header outcome new w e =
    let source = source_of (addresses_of front) in
    let destination = destination_of (addresses_of front) in
    let s = step_of view now arrival source destination header in
    let made =
    made_by s front payload outcome new
    (sym (turned_whole view now arrival packet front text payload header w) ∙ e) in
    let at : Situation =
    record {
      view = view;
      now = now;
      arrival = arrival;
      source = source;
      destination =
          destination;
      header = header;
    } in
    let lens = lens_again at outcome made.0 w.spells.is_header made.1.0 in
    record {
      text = spelling made.0;
      header = made.0;
      whole = record {
        whole = made.1.1;
        spells = spelled_again at outcome made.0 text w.spells made.1.0;
        version = w.version;
        path_type = w.path_type;
        addresses = w.addresses;
        headers_announced = w.headers_announced ∙ ap (λ l. length front + len_for l) (sym lens);
        payload_announced = w.payload_announced;
      };
    }

-- ---- over a list of turns

left_framed : (r : Result (Outcome × List ℕ) TurnRefusal) (q : Result (Outcome × List ℕ) Refusal)
    (packet : List ℕ) → turned_frame r ≡ as_step q
    → frame_in (bytes_after r packet) ≡ bytes_after q (frame_in packet)
left_framed (Ok x) (Ok y) packet e = cc
left_framed (Ok x) (Err f) packet e = absurd cc
left_framed (Err g) (Ok y) packet e = absurd cc
left_framed (Err g) (Err f) packet e = refl

left_whole : (r : Result (Outcome × List ℕ) TurnRefusal) (packet front payload : List ℕ)
    → KeepsParts packet front payload
    → ((outcome : Outcome) (new : List ℕ) → r ≡ Ok (outcome, new) → KeepsParts new front payload)
    → KeepsParts (bytes_after r packet) front payload
left_whole (Ok x) packet front payload k on = on x.0 x.1 refl
left_whole (Err e) packet front payload k on = k

one_on : (t : RouterTurn) (packet front payload : List ℕ) → KeepsParts packet front payload
    → KeepsParts
    (bytes_after (whole_packet_step t.view t.now t.arrival packet) packet) front payload
one_on t packet front payload k =
    left_whole (whole_packet_step t.view t.now t.arrival packet) packet front payload k
    (λ outcome new e.
    stays t.view t.now t.arrival packet front k.text payload k.header outcome new k.whole e)

pub all_on : (turns : List RouterTurn) (packet front payload : List ℕ)
    → KeepsParts packet front payload → KeepsParts (packet_after_turns turns packet) front payload
all_on [] packet front payload k = k
all_on (t ∷ later) packet front payload k =
    all_on later
    (bytes_after (whole_packet_step t.view t.now t.arrival packet) packet) front payload
    (one_on t packet front payload k)

pub all_framed : (turns : List RouterTurn) (packet front payload : List ℕ)
    → KeepsParts packet front payload
    → frame_in (packet_after_turns turns packet) ≡ frame_after_turns turns (frame_in packet)
all_framed [] packet front payload k = refl
all_framed (t ∷ later) packet front payload k =
    let one =
    left_framed (whole_packet_step t.view t.now t.arrival packet)
    (packet_step t.view t.now t.arrival (frame_in packet)) packet
    (as_frame t.view t.now t.arrival packet front k.text payload k.header k.whole) in
    all_framed later
    (bytes_after (whole_packet_step t.view t.now t.arrival packet) packet) front payload
    (one_on t packet front payload k) ∙ ap (frame_after_turns later) one
