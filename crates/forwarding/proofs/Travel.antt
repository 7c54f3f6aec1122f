-- From turn to turn over an open path: each arrival of a packet in its turn.
use Rattle.std.proofs.Common.{◌≡◌, ◌≢◌, ℕ, ◌+◌, ◌-◌, ◌<◌, ◌≤◌, ◌⊎◌, List, [], ◌∷◌, ◌++◌, length, drop, Ok, Some, refl, sym, ap, ◌∙◌, subst, arith, inl, inr}
use Rattle.std.specs.Prelude.{slice_get}
use Rattle.std.proofs.lemmas.Bool.{cases_lt}
use Rattle.scion_topology.specs.declared.network.AsEntry.{AsEntry}
use Rattle.scion_topology.specs.Network.{Network, as_named}
use Rattle.scion_topology.specs.Topology.{owner_in}
use Rattle.scion_topology.proofs.Ends.{owner_below}
use Rattle.path_segment.specs.declared.entry.Entry.{Entry}
use Rattle.path_header.specs.Value.{HeaderValue}
use Rattle.path_verifier.specs.Piece.{PieceValue, HasRange, travelled_entries}
use Rattle.path_verifier.specs.Header.{len_of, total_hops}
use Rattle.path_verifier.specs.Walk.{walk_of}
use Rattle.policy_expr.specs.declared.hop.WalkHop.{WalkHop}
use Rattle.router_step.specs.declared.arrival.Arrival.{Arrival}
use Rattle.router_step.specs.declared.arrival.Arrival.TheVariants.{FromHost, Inside, Link}
use Rattle.forwarding.specs.PathPosition.{PathPosition, pieces_at, next_position, in_by, out_by}
use Rattle.forwarding.specs.Forwardable.{IsLinked}
use Rattle.path_header.specs.Value.{IsHeader}
use Rattle.path_header.specs.Spelling.{FitsBits, SpellsHeader, spelling}
use Rattle.path_verifier.specs.Header.{header_of}
use Rattle.std.specs.List.{AllByRecursion}
use Rattle.forwarding.specs.declared.location.PacketLocation.TheVariants.{Delivered}
use Rattle.forwarding.specs.Frame.{frame_of, HasFrame}
use Rattle.forwarding.specs.Turn.{Packet, with_passed_hop}
use Rattle.forwarding.specs.OnPath.{header_on, at_spot, IsPlaced, OnPath, ComesNearer, Arrives}
use Rattle.forwarding.specs.Journey.{to_come, turns_through, turns_over, turns_left}
use Rattle.forwarding.proofs.AtSpot.{IsSpot, IsOwn, within_piece}
use Rattle.forwarding.proofs.Places.{long_of}
use Rattle.forwarding.proofs.Switching.{at_end, at_start, next_spot}
use Rattle.forwarding.proofs.Stepping.{is_beyond}
use Rattle.forwarding.proofs.Routers.{view_for, own, opens_over, opens_inside, opens_first, opens_beyond, comes_over, comes_inside, comes_first}
use Rattle.forwarding.proofs.Turning.{stop_at, turns_on, turns_last, turns_beyond}
use Rattle.forwarding.proofs.Spelled.{spelled_on}
use Rattle.forwarding.proofs.Coming.{cross, beyond, finish}
use Rattle.forwarding.specs.Turned.{header_behind}
use Rattle.forwarding.proofs.Behind.{there_behind}
use Rattle.forwarding.proofs.Progress.{noted_is, short, onward}
use Rattle.forwarding.proofs.Way.{IsRoute, some_to_come, over_more, same_owner, same_as_entry, is_known, entry_at, through_one, through_two, spot_of}

-- ---- from inside, and from a host

module _ (n : Network) (now source destination : ℕ) (payload : List ℕ) (pieces : List PieceValue)
    (route : IsRoute n now source destination pieces)
    (frame : HasFrame source destination pieces) where
  -- the header with which a packet comes to a spot of the path has a spelling
  spelled : (arrival : Arrival) (spot : PathPosition) (entry : Entry) → IsSpot spot entry
      → pieces_at spot ≡ pieces → ((interface : ℕ) → arrival ≡ Link interface → 0 < spot.reached)
      → SpellsHeader (spelling (header_on arrival spot)) (header_on arrival spot)
  spelled arrival spot entry good whole later =
      spelled_on spot entry good (subst (AllByRecursion HasRange) (sym whole) route.all_ranges)
      (subst (λ (ps : List PieceValue). IsHeader (header_of ps)) (sym whole) frame.is_header)
      (subst (λ (ps : List PieceValue). FitsBits (header_of ps)) (sym whole) frame.fits) arrival later

  pub from_inside : (left : ℕ) (spot : PathPosition) (entry : Entry) (router came_in_by : ℕ)
      (passed : List WalkHop) → IsSpot spot entry → pieces_at spot ≡ pieces
      → IsPlaced n spot entry Inside router came_in_by passed
      → passed ++ to_come came_in_by spot ≡ walk_of pieces
      → left ≡ 1 + turns_over n (drop 1 (to_come came_in_by spot))
      → ComesNearer n now source destination payload pieces left
      (at_spot source destination payload spot entry Inside router came_in_by passed)
  from_inside left spot entry router came_in_by passed good whole placed walk count =
      let open_piece = route.opens spot.past spot.later spot.piece whole in
      let accepted = open_piece.hops spot.reached entry good.there in
      let found = entry_at spot.piece (spot.reached + 1) entry placed.0 in
      let next = found.0 in
      let goes = open_piece.links spot.reached entry next good.there found.1 in
      let ahead = to_come (in_by spot.piece next) (next_position spot) in
      let split = cross came_in_by spot entry next good.there found.1 in
      let all = ap (λ (w : List WalkHop). passed ++ w) (sym split) ∙ walk in
      let other =
      route.not_there passed ahead _ all
      (some_to_come (in_by spot.piece next) (next_position spot) next found.1) in
      let below =
      owner_below n entry.ia
      (out_by spot.piece entry) router accepted.one route.network placed.1
      (is_known n entry.ia accepted.one accepted.named) in
      let steps =
      turns_on n now source destination payload frame.source_fits frame.destination_fits spot
      entry next Inside router came_in_by passed accepted goes good below
      (spelled Inside spot entry good whole (λ m same. absurd cc))
      (route.live spot.past spot.later spot.piece spot.reached entry whole good.there) other
      placed.0
      (comes_inside n accepted.one router source spot entry)
      (opens_inside n accepted.one router spot.piece entry next goes) in
      let owner =
      same_owner goes.near.router router
      (owner_in n entry.ia (out_by spot.piece entry)) goes.near_owner placed.1 in
      onward n now source destination payload pieces left
      (at_spot source destination payload spot entry Inside router came_in_by passed)
      (stop_at entry.ia router Inside came_in_by) passed
      (view_for n accepted.one entry.ia router) spot entry next goes steps refl frame good.there
      found.1 placed.0 whole route.few walk
      (λ same. count ∙ ap (λ (w : List WalkHop). 1 + turns_over n (drop 1 w)) split)
      (λ differs. absurd (differs owner))

  pub from_host : (left : ℕ) (spot : PathPosition) (entry : Entry) (router came_in_by : ℕ) (passed : List WalkHop)
      → IsSpot spot entry → pieces_at spot ≡ pieces
      → IsPlaced n spot entry FromHost router came_in_by passed
      → passed ++ to_come came_in_by spot ≡ walk_of pieces
      → left ≡ 1 + turns_over n (drop 1 (to_come came_in_by spot))
      → ComesNearer n now source destination payload pieces left
      (at_spot source destination payload spot entry FromHost router came_in_by passed)
  from_host left spot entry router came_in_by passed good whole placed walk count =
      let open_piece = route.opens spot.past spot.later spot.piece whole in
      let accepted = open_piece.hops spot.reached entry good.there in
      let long = long_of spot.piece good.ranged in
      let zero_is = placed.1.0 in
      let more : spot.reached + 1 < len_of spot.piece = omega arith in
      let found = entry_at spot.piece (spot.reached + 1) entry more in
      let next = found.0 in
      let goes = open_piece.links spot.reached entry next good.there found.1 in
      let hop : WalkHop =
      record { ia = entry.ia; ingress = came_in_by; egress = out_by spot.piece entry } in
      let ahead = to_come (in_by spot.piece next) (next_position spot) in
      let split = cross came_in_by spot entry next good.there found.1 in
      let all = ap (λ (w : List WalkHop). passed ++ w) (sym split) ∙ walk in
      let other =
      route.not_there passed ahead hop all
      (some_to_come (in_by spot.piece next) (next_position spot) next found.1) in
      let from =
      route.starts hop ahead (ap (λ (p : List WalkHop). p ++ hop ∷ ahead) (sym placed.1.1.0)
      ∙ all) in
      let none_past : total_hops spot.past ≡ 0 =
      ap (λ (ps : List PieceValue). total_hops ps) placed.0 in
      let start : total_hops spot.past + spot.reached ≡ 0 = omega arith in
      let owned = placed.1.1.1 in
      let below =
      owner_below n entry.ia (out_by spot.piece entry) router accepted.one route.network owned
      (is_known n entry.ia accepted.one accepted.named) in
      let steps =
      turns_on n now source destination payload frame.source_fits frame.destination_fits spot
      entry next FromHost router came_in_by passed accepted goes good below
      (spelled FromHost spot entry good whole (λ m same. absurd cc))
      (route.live spot.past spot.later spot.piece spot.reached entry whole good.there) other
      more
      (comes_first n accepted.one router source spot entry start from)
      (opens_first n accepted.one router spot.piece entry next goes) in
      let owner =
      same_owner goes.near.router router
      (owner_in n entry.ia (out_by spot.piece entry)) goes.near_owner owned in
      onward n now source destination payload pieces left
      (at_spot source destination payload spot entry FromHost router came_in_by passed)
      (stop_at entry.ia router FromHost came_in_by) passed
      (view_for n accepted.one entry.ia router) spot entry next goes steps refl frame good.there
      found.1 more whole route.few walk
      (λ same. count ∙ ap (λ (w : List WalkHop). 1 + turns_over n (drop 1 w)) split)
      (λ differs. absurd (differs owner))

  -- ---- over a link

  -- what of an arrival over a link is known of the entry at which it stands
  pub came_over : (spot : PathPosition) (entry : Entry) (interface router came_in_by : ℕ) (passed : List WalkHop)
      → IsSpot spot entry → pieces_at spot ≡ pieces
      → IsPlaced n spot entry (Link interface) router came_in_by passed
      → (before : Entry) × IsLinked n spot.piece before entry
  came_over spot entry interface router came_in_by passed good whole placed =
      let open_piece = route.opens spot.past spot.later spot.piece whole in
      let inside : spot.reached < len_of spot.piece = within_piece spot entry good in
      let first = placed.0 in
      let found = entry_at spot.piece (spot.reached - 1) entry (omega arith) in
      let back : spot.reached - 1 + 1 ≡ spot.reached = omega arith in (
        found.0,
        open_piece.links (spot.reached - 1) found.0 entry found.1
            (ap (slice_get (travelled_entries spot.piece)) back ∙ good.there),
      )

  over_piece : (left : ℕ) (spot : PathPosition) (entry : Entry) (router : ℕ) (passed : List WalkHop)
      → IsSpot spot entry → pieces_at spot ≡ pieces
      → IsPlaced n spot entry (Link (in_by spot.piece entry)) router (in_by spot.piece entry) passed
      → passed ++ to_come (in_by spot.piece entry) spot ≡ walk_of pieces
      → left ≡ turns_over n (to_come (in_by spot.piece entry) spot)
      → spot.reached + 1 < len_of spot.piece
      → ComesNearer n now source destination payload pieces left
      (at_spot source destination payload spot entry (Link (in_by spot.piece entry)) router
      (in_by spot.piece entry) passed)
  over_piece left spot entry router passed good whole placed walk count more =
      let way = in_by spot.piece entry in
      let open_piece = route.opens spot.past spot.later spot.piece whole in
      let accepted = open_piece.hops spot.reached entry good.there in
      let found = entry_at spot.piece (spot.reached + 1) entry more in
      let next = found.0 in
      let goes = open_piece.links spot.reached entry next good.there found.1 in
      let behind = came_over spot entry way router way passed good whole placed in
      let hop : WalkHop =
      record { ia = entry.ia; ingress = way; egress = out_by spot.piece entry } in
      let ahead = to_come (in_by spot.piece next) (next_position spot) in
      let split : to_come way spot ≡ hop ∷ ahead = cross way spot entry next good.there found.1 in
      let all = ap (λ (w : List WalkHop). passed ++ w) (sym split) ∙ walk in
      let some = some_to_come (in_by spot.piece next) (next_position spot) next found.1 in
      let other = route.not_there passed ahead hop all some in
      let from = route.left_source passed ahead hop all placed.1.0 in
      let owned = placed.1.1.1.1 in
      let below =
      owner_below n entry.ia way router accepted.one route.network owned
      (is_known n entry.ia accepted.one accepted.named) in
      let far : behind.1.far.router ≡ router =
      same_owner behind.1.far.router router
      (owner_in n entry.ia way) behind.1.far_owner owned in
      let steps =
      turns_on n now source destination payload frame.source_fits frame.destination_fits spot
      entry next (Link way) router way passed accepted goes good below
      (spelled (Link way) spot entry good whole (λ m same. placed.0))
      (route.live spot.past spot.later spot.piece spot.reached entry whole good.there) other
      more
      (comes_over n accepted.one router source spot behind.0 entry behind.1 far from)
      (opens_over n accepted.one router spot.piece behind.0 entry next behind.1 goes) in
      let total : left ≡ turns_through n hop + turns_over n ahead = count ∙ ap (turns_over n) split
      ∙ over_more n hop ahead some in
      onward n now source destination payload pieces left
      (at_spot source destination payload spot entry (Link way) router way passed)
      (stop_at entry.ia router (Link way) way) passed
      (view_for n accepted.one entry.ia router) spot entry next goes steps refl frame good.there
      found.1 more whole route.few walk
      (λ same. total
      ∙ ap (λ k. k + turns_over n ahead)
      (through_one n hop router goes.near.router owned goes.near_owner same))
      (λ differs. total
      ∙ ap (λ k. k + turns_over n ahead)
      (through_two n hop router goes.near.router owned goes.near_owner differs))

  over_end : (left : ℕ) (spot : PathPosition) (entry : Entry) (router : ℕ) (passed : List WalkHop)
      → IsSpot spot entry → pieces_at spot ≡ pieces
      → IsPlaced n spot entry (Link (in_by spot.piece entry)) router (in_by spot.piece entry) passed
      → passed ++ to_come (in_by spot.piece entry) spot ≡ walk_of pieces
      → left ≡ turns_over n (to_come (in_by spot.piece entry) spot)
      → spot.reached + 1 ≡ len_of spot.piece → spot.later ≡ []
      → Arrives n now source destination payload pieces left
      (at_spot source destination payload spot entry (Link (in_by spot.piece entry)) router
      (in_by spot.piece entry) passed)
  over_end left spot entry router passed good whole placed walk count at_the_end none =
      let way = in_by spot.piece entry in
      let open_piece = route.opens spot.past spot.later spot.piece whole in
      let accepted = open_piece.hops spot.reached entry good.there in
      let behind = came_over spot entry way router way passed good whole placed in
      let hop : WalkHop = record { ia = entry.ia; ingress = way; egress = 0 } in
      let split : to_come way spot ≡ hop ∷ [] = finish way spot entry good.there at_the_end none in
      let all : passed ++ hop ∷ [] ≡ walk_of pieces =
      ap (λ (w : List WalkHop). passed ++ w) (sym split) ∙ walk in
      let here = route.finishes passed hop all in
      let from = route.left_source passed [] hop all placed.1.0 in
      let owned = placed.1.1.1.1 in
      let below =
      owner_below n entry.ia way router accepted.one route.network owned
      (is_known n entry.ia accepted.one accepted.named) in
      let far : behind.1.far.router ≡ router =
      same_owner behind.1.far.router router
      (owner_in n entry.ia way) behind.1.far_owner owned in
      let steps =
      turns_last n now source destination payload frame.source_fits frame.destination_fits spot
      entry (Link way) router way passed accepted good below
      (spelled (Link way) spot entry good whole (λ m same. placed.0))
      (route.live spot.past spot.later spot.piece spot.reached entry whole good.there) here
      at_the_end none
      (comes_over n accepted.one router source spot behind.0 entry behind.1 far from) in
      record {
        one = count ∙ ap (turns_over n) split;
        there =
            steps
            ∙ ap (λ (h : HeaderValue). delivered_with h (with_passed_hop passed hop))
            (there_behind spot none at_the_end ∙ ap header_behind whole)
            ∙ ap (delivered_with (header_behind pieces))
            (noted_is passed hop (short passed hop [] (walk_of pieces) all route.few) ∙ all);
      }
    where
      delivered_with : HeaderValue → List WalkHop → Packet
      delivered_with h passed =
          record { bytes = frame_of source destination h payload; place = Delivered; passed = passed }

  over_beyond : (left : ℕ) (past later : List PieceValue) (piece next_piece : PieceValue) (i : ℕ)
      (entry : Entry) (router : ℕ) (passed : List WalkHop)
      → IsSpot (at_end past piece next_piece later i) entry
      → past ++ piece ∷ next_piece ∷ later ≡ pieces
      → IsPlaced n (at_end past piece next_piece later i) entry
      (Link (in_by piece entry)) router (in_by piece entry) passed
      → passed ++ to_come (in_by piece entry)
      (at_end past piece next_piece later i) ≡ walk_of pieces
      → left ≡ turns_over n (to_come (in_by piece entry) (at_end past piece next_piece later i))
      → i + 1 ≡ len_of piece
      → ComesNearer n now source destination payload pieces left
      (at_spot source destination payload (at_end past piece next_piece later i) entry
      (Link (in_by piece entry)) router (in_by piece entry) passed)
  over_beyond left past later piece next_piece i entry router passed good whole placed walk count
      at_the_end =
      let way = in_by piece entry in
      let spot = at_end past piece next_piece later i in
      let goal = at_start past piece next_piece later in
      let open_piece = route.opens past (next_piece ∷ later) piece whole in
      let whole_next : (past ++ piece ∷ []) ++ next_piece ∷ later ≡ pieces =
      is_beyond past later piece next_piece ∙ whole in
      let open_next = route.opens (past ++ piece ∷ []) later next_piece whole_next in
      let range = route.ranges (past ++ piece ∷ []) later next_piece whole_next in
      let long = long_of next_piece range in
      let first_found = entry_at next_piece 0 entry (omega arith) in
      let first = first_found.0 in
      let second_found = entry_at next_piece (0 + 1) entry (omega arith) in
      let second = second_found.0 in
      let accepted = open_piece.hops i entry good.there in
      let accepted_first = open_next.hops 0 first first_found.1 in
      let goes = open_next.links 0 first second first_found.1 second_found.1 in
      let behind = came_over spot entry way router way passed good whole placed in
      let place : i ≡ len_of piece - 1 = omega arith in
      let same : entry.ia ≡ first.ia =
      route.meet past later piece next_piece entry first whole
      (ap (slice_get (travelled_entries piece)) (sym place) ∙ good.there) first_found.1 in
      let hop : WalkHop =
      record { ia = first.ia; ingress = way; egress = out_by next_piece first } in
      let ahead = to_come (in_by next_piece second) (next_position goal) in
      let onto : to_come way spot ≡ to_come way goal =
      beyond way past later piece next_piece i entry first second good.there at_the_end
      first_found.1 second_found.1 same in
      let split : to_come way goal ≡ hop ∷ ahead =
      cross way goal first second first_found.1 second_found.1 in
      let walk_goal : passed ++ to_come way goal ≡ walk_of pieces =
      ap (λ (w : List WalkHop). passed ++ w) (sym onto) ∙ walk in
      let all : passed ++ hop ∷ ahead ≡ walk_of pieces =
      ap (λ (w : List WalkHop). passed ++ w) (sym split) ∙ walk_goal in
      let some = some_to_come (in_by next_piece second) (next_position goal) second second_found.1 in
      let other : destination ≢ entry.ia =
      λ is. route.not_there passed ahead hop all some (is ∙ same) in
      let from : source ≢ entry.ia =
      λ is. route.left_source passed ahead hop all placed.1.0 (is ∙ same) in
      let owned = placed.1.1.1.1 in
      let below =
      owner_below n entry.ia way router accepted.one route.network owned
      (is_known n entry.ia accepted.one accepted.named) in
      let far : behind.1.far.router ≡ router =
      same_owner behind.1.far.router router
      (owner_in n entry.ia way) behind.1.far_owner owned in
      let follows = route.follow past later piece next_piece whole in
      let live = route.live past (next_piece ∷ later) piece i entry whole good.there in
      let live_first =
      route.live (past ++ piece ∷ []) later next_piece 0 first whole_next first_found.1 in
      let same_as : accepted_first.one ≡ accepted.one =
      same_as_entry n first.ia accepted_first.one accepted.one accepted_first.named
      (ap (as_named n.ases) (sym same) ∙ accepted.named) in
      let own_first : IsOwn (view_for n accepted.one entry.ia router) now next_piece 0 first =
      subst (λ (one : AsEntry). IsOwn (view_for n one entry.ia router) now next_piece 0 first)
      same_as
      (subst (λ ia. IsOwn (view_for n accepted_first.one ia router) now next_piece 0 first)
      (sym same) (own n now router next_piece 0 first accepted_first live_first)) in
      let steps =
      turns_beyond n now source destination payload frame.source_fits frame.destination_fits
      past later piece next_piece i entry first second way router way passed accepted
      accepted_first goes good below
      (spelled (Link way) spot entry good whole (λ m same. placed.0)) live live_first other
      at_the_end range first_found.1 own_first
      (comes_over n accepted.one router source spot behind.0 entry behind.1 far from)
      (opens_beyond n accepted.one router piece next_piece behind.0 entry first second behind.1
      goes same follows) in
      let is_next = next_spot past later piece next_piece i entry first good range first_found.1 in
      let owned_first : owner_in n first.ia way ≡ Ok router =
      ap (λ ia. owner_in n ia way) (sym same) ∙ owned in
      let total : left ≡ turns_through n hop + turns_over n ahead = count
      ∙ ap (turns_over n) (onto ∙ split) ∙ over_more n hop ahead some in
      onward n now source destination payload pieces left
      (at_spot source destination payload spot entry (Link way) router way passed)
      (stop_at entry.ia router (Link way) way) passed
      (view_for n accepted.one entry.ia router) goal first second goes steps same frame
      first_found.1 second_found.1 (omega arith) whole_next route.few walk_goal
      (λ is. total
      ∙ ap (λ k. k + turns_over n ahead)
      (through_one n hop router goes.near.router owned_first goes.near_owner is))
      (λ differs. total
      ∙ ap (λ k. k + turns_over n ahead)
      (through_two n hop router goes.near.router owned_first goes.near_owner differs))

  over_last : (left : ℕ) (past later : List PieceValue) (piece : PieceValue) (i : ℕ) (entry : Entry)
      (router : ℕ) (passed : List WalkHop)
      → IsSpot (record { past = past; piece = piece; later = later; reached = i }) entry
      → past ++ piece ∷ later ≡ pieces
      → IsPlaced n (record { past = past; piece = piece; later = later; reached = i }) entry
      (Link (in_by piece entry)) router (in_by piece entry) passed
      → passed ++ to_come (in_by piece entry)
      (record { past = past; piece = piece; later = later; reached = i }) ≡ walk_of pieces
      → left ≡ turns_over n
      (to_come (in_by piece entry)
      (record { past = past; piece = piece; later = later; reached = i }))
      → i + 1 ≡ len_of piece
      → ComesNearer n now source destination payload pieces left
      (at_spot source destination payload
      (record { past = past; piece = piece; later = later; reached = i }) entry
      (Link (in_by piece entry)) router (in_by piece entry) passed)
      ⊎ Arrives n now source destination payload pieces left
      (at_spot source destination payload
      (record { past = past; piece = piece; later = later; reached = i }) entry
      (Link (in_by piece entry)) router (in_by piece entry) passed)
  over_last left past [] piece i entry router passed good whole placed walk count at_the_end =
      inr (over_end left
      (record { past = past; piece = piece; later = []; reached = i }) entry router passed good
      whole placed walk count at_the_end refl)
  over_last left past
      (next ∷ later) piece i entry router passed good whole placed walk count at_the_end =
      inl (over_beyond left past later piece next i entry router passed good whole placed walk count
      at_the_end)

  over_link : (left : ℕ) (spot : PathPosition) (entry : Entry) (router : ℕ) (passed : List WalkHop)
      → IsSpot spot entry → pieces_at spot ≡ pieces
      → IsPlaced n spot entry (Link (in_by spot.piece entry)) router (in_by spot.piece entry) passed
      → passed ++ to_come (in_by spot.piece entry) spot ≡ walk_of pieces
      → left ≡ turns_over n (to_come (in_by spot.piece entry) spot)
      → ComesNearer n now source destination payload pieces left
      (at_spot source destination payload spot entry (Link (in_by spot.piece entry)) router
      (in_by spot.piece entry) passed)
      ⊎ Arrives n now source destination payload pieces left
      (at_spot source destination payload spot entry (Link (in_by spot.piece entry)) router
      (in_by spot.piece entry) passed)
  over_link left spot entry router passed good whole placed walk count =
      elim (cases_lt (spot.reached + 1) (len_of spot.piece)) [
        | inl more ↦ inl
            (over_piece left spot entry router passed good whole placed walk count more)
        | inr past ↦ (
            let inside = within_piece spot entry good in
            let at_the_end : spot.reached + 1 ≡ len_of spot.piece = omega arith in
            over_last left spot.past spot.later spot.piece spot.reached entry router passed good
            whole
            placed walk count at_the_end)
      ]

  -- however it came
  at_any : (left : ℕ) (spot : PathPosition) (entry : Entry) (arrival : Arrival) (router came_in_by : ℕ)
      (passed : List WalkHop) → IsSpot spot entry → pieces_at spot ≡ pieces
      → IsPlaced n spot entry arrival router came_in_by passed
      → passed ++ to_come came_in_by spot ≡ walk_of pieces
      → left ≡ turns_left n arrival (to_come came_in_by spot)
      → ComesNearer n now source destination payload pieces left
      (at_spot source destination payload spot entry arrival router came_in_by passed)
      ⊎ Arrives n now source destination payload pieces left
      (at_spot source destination payload spot entry arrival router came_in_by passed)
  at_any left spot entry FromHost router came_in_by passed good whole placed walk count =
      inl (from_host left spot entry router came_in_by passed good whole placed walk count)
  at_any left spot entry Inside router came_in_by passed good whole placed walk count =
      inl (from_inside left spot entry router came_in_by passed good whole placed walk count)
  at_any left spot entry (Link interface) router came_in_by passed good whole placed walk count =
      let in_is : interface ≡ in_by spot.piece entry = placed.1.1.0 in
      let came_is : came_in_by ≡ in_by spot.piece entry = placed.1.1.1.0 ∙ in_is in
      let placed_there : IsPlaced n spot entry (Link (in_by spot.piece entry)) router
      (in_by spot.piece entry) passed = (
        placed.0,
        (
          placed.1.0,
          (refl, (refl, ap (λ m. owner_in n entry.ia m) (sym in_is) ∙ placed.1.1.1.1)),
        ),
      ) in
      subst (λ m. ComesNearer n now source destination payload pieces left
      (at_spot source destination payload spot entry (Link m) router came_in_by passed)
      ⊎ Arrives n now source destination payload pieces left
      (at_spot source destination payload spot entry (Link m) router came_in_by passed)) (sym in_is)
      (subst (λ c. ComesNearer n now source destination payload pieces left
      (at_spot source destination payload spot entry
      (Link (in_by spot.piece entry)) router c passed)
      ⊎ Arrives n now source destination payload pieces left
      (at_spot source destination payload spot entry
      (Link (in_by spot.piece entry)) router c passed)) (sym came_is)
      (over_link left spot entry router passed good whole placed_there
      (ap (λ c. passed ++ to_come c spot) (sym came_is) ∙ walk)
      (count ∙ ap (λ c. turns_over n (to_come c spot)) came_is)))

  good_spot : (spot : PathPosition) (entry : Entry) → pieces_at spot ≡ pieces
      → slice_get (travelled_entries spot.piece) spot.reached ≡ Some entry → IsSpot spot entry
  good_spot spot entry whole there =
      let three : length (pieces_at spot) ≤ 3 = (
      let most = route.three in
      let same = ap (λ (ps : List PieceValue). length ps) whole in
      omega arith) in
      spot_of spot entry three (subst (AllByRecursion HasRange) (sym whole) route.all_ranges) there

  -- a packet that stands on an open path is not refused: it stands on it again after a turn, one
  -- turn nearer to its end, or it is delivered with its whole walk
  pub turn_leads_on : (left : ℕ) (packet : Packet)
      → OnPath n source destination payload pieces left packet
      → ComesNearer n now source destination payload pieces left packet
      ⊎ Arrives n now source destination payload pieces left packet
  turn_leads_on left packet s =
      subst (λ (u : Packet). ComesNearer n now source destination payload pieces left u
      ⊎ Arrives n now source destination payload pieces left u) (sym s.is)
      (at_any left s.spot s.entry s.arrival s.router s.came_in_by s.passed
      (good_spot s.spot s.entry s.whole s.there) s.whole s.placed s.walk s.count)
