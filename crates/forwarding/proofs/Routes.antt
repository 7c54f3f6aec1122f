-- An accepted path over open pieces is a route while it is live.
use Rattle.std.proofs.Common.{◌≡◌, ℕ, ◌-◌, ◌<◌, Bool, true, false, List, [], ◌∷◌, ◌++◌, length, get_or, map, reverse, Option, Some, None, All, refl, sym, ap, ◌∙◌, subst, arith, length-append}
use Rattle.std.specs.Prelude.{slice_get, option_map}
use Rattle.std.proofs.Math.Seq.{get_or-append_seam}
use Rattle.std.proofs.lemmas.List.{length-reverse, get_or-reverse}
use Rattle.std.proofs.lemmas.Option.{slice_get-map, slice_get-get_or, slice_get_within, get_or_from_slice_get, same_Some}
use Rattle.hop_mac.specs.Lifetime.{IsLive}
use Rattle.scion_topology.specs.Network.{Network}
use Rattle.path_segment.specs.declared.entry.Entry.{Entry}
use Rattle.policy_expr.specs.declared.hop.WalkHop.{WalkHop}
use Rattle.path_verifier.specs.declared.kind.PieceKind.{PieceKind}
use Rattle.path_verifier.specs.declared.kind.PieceKind.TheVariants.{Up, Core, Down}
use Rattle.path_segment.specs.Chain.{as_at}
use Rattle.path_verifier.specs.Piece.{PieceValue, HasRange, kind_of, entries_of, in_order, travelled_entries, begins_in, ends_in}
use Rattle.path_verifier.specs.Walk.{walk_of}
use Rattle.path_verifier.specs.Header.{len_of}
use Rattle.path_verifier.specs.Accepted.{DoMeet, MayAdjoin, MakesPath}
use Rattle.path_verifier.proofs.Lengths.{walk_is_short, path_is_short, pieces_adjoin}
use Rattle.std.proofs.lemmas.List.Elements.{recursion_from_All}
use Rattle.path_verifier.proofs.Course.{path_begins, path_ends}
use Rattle.forwarding.specs.Forwardable.{IsForwardable, MayForward}
use Rattle.forwarding.proofs.Routers.{MayFollow}
use Rattle.forwarding.proofs.Way.{IsRoute}

-- ---- what holds of all pieces holds of one among them

pub all_at : {X : Type 0} (P : X → Type 0) (past later : List X) (x : X) (xs : List X)
    → past ++ x ∷ later ≡ xs → All P xs → P x
all_at P past later x xs is all =
    let within : length past < length (past ++ x ∷ later) =
    (let count = length-append past (x ∷ later) in omega arith) in
    let there : All P (past ++ x ∷ later) = subst (All P) (sym is) all in
    subst P (get_or-append_seam past x later x) (there (length past) x within)

-- and of its entries, in either order
live_there : (P : Entry → Type 0) (along : Bool) (entries : List Entry) (i : ℕ) (entry : Entry)
    → All P entries → slice_get (in_order along entries) i ≡ Some entry → P entry
live_there P true entries i entry all there =
    subst P (get_or_from_slice_get entries i entry entry there)
    (all i entry (slice_get_within entries i entry there))
live_there P false entries i entry all there =
    let within = slice_get_within (reverse entries) i entry there in
    let count = length-reverse entries in
    let inside : i < length entries = omega arith in
    let other : length entries - 1 - i < length entries = omega arith in
    let read : get_or entries (length entries - 1 - i) entry ≡ entry =
    sym (get_or-reverse entries i entry inside)
    ∙ get_or_from_slice_get (reverse entries) i entry entry there in
    subst P read (all (length entries - 1 - i) entry other)

-- ---- two pieces that adjoin

pub meets : (past later pieces : List PieceValue) (piece next : PieceValue)
    → past ++ piece ∷ next ∷ later ≡ pieces → DoMeet pieces → ends_in piece ≡ begins_in next
meets past later pieces piece next is meet = go past (subst DoMeet (sym is) meet)
  where
    go : (past : List PieceValue) → DoMeet (past ++ piece ∷ next ∷ later)
        → ends_in piece ≡ begins_in next
    go [] m = m.0
    go (one ∷ []) m = m.1.0
    go (one ∷ two ∷ past) m = go (two ∷ past) m.1

pub same_as : (piece next : PieceValue) (last first : Entry)
    → slice_get (travelled_entries piece) (len_of piece - 1) ≡ Some last
    → slice_get (travelled_entries next) 0 ≡ Some first → ends_in piece ≡ begins_in next
    → last.ia ≡ first.ia
unfolding begins_in ends_in
same_as piece next last first at_last at_first same =
    let a : as_at (travelled_entries piece) (len_of piece - 1) ≡ last.ia = rw at_last refl in
    let b : as_at (travelled_entries next) 0 ≡ first.ia = rw at_first refl in
    sym a ∙ same ∙ b

-- kinds that adjoin have links that may be joined
follows : (one next : PieceKind) → MayAdjoin one next → MayFollow one next
follows Up Up may = absurd may
follows Up Core may = refl
follows Up Down may = refl
follows Core Up may = absurd may
follows Core Core may = absurd may
follows Core Down may = refl
follows Down Up may = absurd may
follows Down Core may = absurd may
follows Down Down may = absurd may

-- ---- where the ends of the walk are

at_seam : (front later walk : List WalkHop) (hop : WalkHop) → front ++ hop ∷ later ≡ walk
    → slice_get walk (length front) ≡ Some hop
at_seam front later walk hop is =
    let within : length front < length (front ++ hop ∷ later) =
    (let count = length-append front (hop ∷ later) in omega arith) in
    ap (λ (w : List WalkHop). slice_get w (length front)) (sym is)
    ∙ slice_get-get_or (front ++ hop ∷ later) (length front) hop within
    ∙ ap Some (get_or-append_seam front hop later hop)

-- the hop of an AS of the walk
some_hop : (o : Option WalkHop) (ia : ℕ) → option_map (λ (hop : WalkHop). hop.ia) o ≡ Some ia
    → (hop : WalkHop) × (o ≡ Some hop) × (hop.ia ≡ ia)
some_hop None ia e = absurd cc
some_hop (Some hop) ia e = (hop, refl, same_Some hop.ia ia e)

hop_of_as : (walk : List WalkHop) (k ia : ℕ)
    → slice_get (map (λ (hop : WalkHop). hop.ia) walk) k ≡ Some ia
    → (hop : WalkHop) × (slice_get walk k ≡ Some hop) × (hop.ia ≡ ia)
hop_of_as walk k ia e =
    some_hop (slice_get walk k) ia (sym (slice_get-map (λ (hop : WalkHop). hop.ia) walk k) ∙ e)

-- an accepted path over open pieces is a route at each moment at which it is live
pub route_of : (n : Network) (now source destination : ℕ) (pieces : List PieceValue)
    → MayForward n now source destination pieces → IsRoute n now source destination pieces
route_of n now source destination pieces lets =
    let network = lets.network in
    let moment = lets.moment in
    let path = lets.path in
    let live = lets.live in
    let walk = walk_of pieces in
    let begins = hop_of_as walk 0 source (path_begins pieces source destination moment path) in
    let ends =
    hop_of_as walk (length walk - 1) destination
    (path_ends pieces source destination moment path) in
    let last_within = slice_get_within walk (length walk - 1) ends.0 ends.1 in
    record {
      network = network;
      three = path_is_short pieces source destination moment path;
      all_ranges = recursion_from_All HasRange pieces path.ranges;
      few = (let short = walk_is_short pieces in let few = path.few in omega arith);
      ranges = λ past later piece is. all_at HasRange past later piece pieces is path.ranges;
      opens = λ past later piece is. all_at (IsForwardable n) past later piece pieces is lets.pieces_open;
      live = λ past later piece i entry is there. live_there
          (λ (e : Entry). IsLive piece.segment.timestamp e.exp_time now) piece.along
          (entries_of piece) i entry
          (all_at (λ (p : PieceValue). All
          (λ (e : Entry). IsLive p.segment.timestamp e.exp_time now) (entries_of p)) past later piece
          pieces is live) there;
      meet = λ past later piece next last first is at_last at_first. same_as piece next last first
          at_last at_first (meets past later pieces piece next is path.meet);
      follow = λ past later piece next is. follows (kind_of piece) (kind_of next)
          (pieces_adjoin past later piece next source destination moment
          (subst (λ (ps : List PieceValue). MakesPath ps source destination moment) (sym is) path));
      starts = λ hop rest is. (let here = at_seam [] rest walk hop is in sym begins.2
          ∙ ap (λ (h : WalkHop). h.ia) (same_Some begins.0 hop (sym begins.1 ∙ here)));
      left_source = λ front rest hop is some same. (
          let here = at_seam front rest walk hop is in
          let zero_is : 0 ≡ length front =
          path.once 0 (length front) begins.0 hop begins.1 here (begins.2 ∙ same) in
          omega arith);
      finishes = λ front hop is. (
          let here = at_seam front [] walk hop is in
          let count = length-append front (hop ∷ []) in
          let whole : length (front ++ hop ∷ []) ≡ length walk =
          ap (λ (w : List WalkHop). length w) is in
          let place : length front ≡ length walk - 1 = omega arith in
          sym ends.2
          ∙ ap (λ (h : WalkHop). h.ia)
          (same_Some ends.0 hop (sym ends.1 ∙ ap (slice_get walk) (sym place) ∙ here)));
      not_there = λ front rest hop is some same. (
          let here = at_seam front rest walk hop is in
          let count = length-append front (hop ∷ rest) in
          let whole : length (front ++ hop ∷ rest) ≡ length walk =
          ap (λ (w : List WalkHop). length w) is in
          let place : length walk - 1 ≡ length front =
          path.once (length walk - 1) (length front) ends.0 hop ends.1 here (ends.2 ∙ same) in
          omega arith);
    }
