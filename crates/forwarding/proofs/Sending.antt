-- A packet that is sent on an accepted path stands at its beginning.
use Rattle.std.proofs.Common.{◌≡◌, ℕ, ◌<◌, ◌≤◌, List, [], ◌∷◌, length, get_or, map, Some, Ok, refl, sym, ap, ◌∙◌, arith}
use Rattle.std.specs.Prelude.{slice_get}
use Rattle.std.specs.List.{flat_map}
use Rattle.std.proofs.lemmas.List.Elements.{recursion_from_All}
use Rattle.std.proofs.lemmas.Option.{slice_get-get_or}
use Rattle.scion_topology.specs.Network.{Network}
use Rattle.scion_topology.specs.Topology.{owner_in}
use Rattle.path_segment.specs.declared.entry.Entry.{Entry}
use Rattle.path_header.specs.declared.fields.InfoField.{InfoField}
use Rattle.path_header.specs.Value.{HeaderValue, lens_from}
use Rattle.policy_expr.specs.declared.hop.WalkHop.{WalkHop}
use Rattle.path_segment.specs.Chain.{as_at}
use Rattle.path_verifier.specs.Piece.{PieceValue, HasRange, travelled_entries, begins_in}
use Rattle.path_verifier.specs.Walk.{walk_of}
use Rattle.path_verifier.specs.Header.{fields_of, len_of, header_of}
use Rattle.path_verifier.specs.Header as path
use Rattle.path_verifier.specs.Accepted.{MakesPath}
use Rattle.router_step.specs.declared.arrival.Arrival.TheVariants.{FromHost}
use Rattle.forwarding.specs.PathPosition.{header_with, header_there, out_by}
use Rattle.forwarding.specs.Frame.{frame_of, HasFrame}
use Rattle.forwarding.specs.Turn.{put_at}
use Rattle.forwarding.specs.OnPath.{OnPath}
use Rattle.path_verifier.proofs.Lengths.{path_is_short}
use Rattle.forwarding.specs.Journey.{first_out, turns_for}
use Rattle.forwarding.proofs.Places.{long_of}
use Rattle.forwarding.proofs.Stepping.{first_info}
use Rattle.forwarding.proofs.Coming.{whole_walk}
use Rattle.forwarding.proofs.Leaving.{all_long, start, first_out_is}

header_is : (piece : PieceValue) (later : List PieceValue)
    → header_of (piece ∷ later) ≡ header_there (start piece later)
unfolding header_of header_with
header_is piece later =
    ap (λ (x : InfoField). record {
      curr_inf = 0;
      curr_hf = 0;
      lens =
          lens_from (map len_of (piece ∷ later));
      infos = x ∷ map path.info_of later;
      hops =
          flat_map fields_of (piece ∷ later);
    }) (first_info piece)

begins_there : (piece : PieceValue) (source : ℕ) (entry : Entry) → begins_in piece ≡ source
    → slice_get (travelled_entries piece) 0 ≡ Some entry → source ≡ entry.ia
unfolding begins_in
begins_there piece source entry begins there = let at : as_at (travelled_entries piece) 0 ≡ entry.ia =
    rw there refl in sym begins ∙ at

pub starts : (n : Network) (source destination moment router : ℕ) (payload : List ℕ)
    (pieces : List PieceValue) → MakesPath pieces source destination moment
    → HasFrame source destination pieces
    → owner_in n source (first_out (walk_of pieces)) ≡ Ok router
    → OnPath n source destination payload pieces (turns_for n (walk_of pieces))
    (put_at (frame_of source destination (header_of pieces) payload) source router)
starts n source destination moment router payload [] path frame owned =
    absurd (let some = path.some in omega arith)
starts n source destination moment router payload (piece ∷ later) path frame owned =
    let three = path_is_short (piece ∷ later) source destination moment path in
    let few : length later ≤ 2 = omega arith in
    let ranges = recursion_from_All HasRange (piece ∷ later) path.ranges in
    let long = long_of piece ranges.0 in
    let first_within : 0 < length (travelled_entries piece) = omega arith in
    let none : Entry =
    record { ia = 0; cons_ingress = 0; cons_egress = 0; exp_time = 0; mac = [] } in
    let entry = get_or (travelled_entries piece) 0 none in
    let there = slice_get-get_or (travelled_entries piece) 0 none first_within in
    let whole = whole_walk piece later long (all_long later ranges.1) few in
    let way = first_out_is piece later source destination moment entry path there in
    let here = begins_there piece source entry path.source there in
    record {
      spot = start piece later;
      entry = entry;
      arrival = FromHost;
      router = router;
      came_in_by = 0;
      passed = [];
      is =
          ap (λ (h : HeaderValue). put_at (frame_of source destination h payload) source router)
          (header_is piece later)
          ∙ ap (λ ia. put_at
          (frame_of source destination (header_there (start piece later)) payload) ia router)
          here;
      frame = frame;
      there = there;
      whole = refl;
      placed = (
        refl,
        (
          refl,
          (
            refl,
            ap (λ ia. owner_in n ia (out_by piece entry)) (sym here)
                ∙ ap (owner_in n source) (sym way) ∙ owned,
          ),
        ),
      );
      walk = sym whole;
      count = ap (λ (w : List WalkHop). turns_for n w) whole;
    }
