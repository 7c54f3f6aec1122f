-- The verifier accepts the way, and its packet has a frame.
use Rattle.std.proofs.Common.{◌≡◌, ℕ, zero, suc, ◌^◌, ◌<◌, ◌≤◌, [], All, refl, sym, ap, ◌∙◌, arith, inl}
use Rattle.std.specs.Prelude.{Any, slice_index}
use Rattle.std.proofs.lemmas.List.Elements.{All-nil, All-cons, All-from_recursion}
use Rattle.std.proofs.lemmas.Option.{same_Some}
use Rattle.policy_expr.specs.declared.hop.WalkHop.{WalkHop}
use Rattle.path_segment.specs.declared.entry.Entry.{Entry}
use Rattle.path_segment.specs.Chain.{beta_of}
use Rattle.path_segment.proofs.Chained.{beta_of-lt}
use Rattle.scion_topology.specs.declared.network.AsEntry.{AsEntry}
use Rattle.scion_topology.specs.Keys.{key_in_use}
use Rattle.beaconing.specs.Entry.{entry_by}
use Rattle.path_header.specs.Spelling.{HopFits}
use Rattle.hop_mac.specs.Lifetime.{expiry_of}
use Rattle.path_verifier.specs.declared.fault.VerifyFault.{VerifyFault}
use Rattle.path_verifier.specs.declared.fault.VerifyFault.TheVariants.{PieceCount, Range, Kinds, CutAtCore, NotJoined, Source, Destination, TooManyHops, Loop, Expired, HeaderDiffers, AclDenied, SequenceMismatch}
use Rattle.path_verifier.specs.Piece.{PieceValue, HasRange, entries_of, kind_of, begins_in, ends_in}
use Rattle.path_verifier.specs.Walk.{walk_of, hops_of, hop_of}
use Rattle.path_verifier.specs.Header.{field_of, header_of, fields_of}
use Rattle.path_verifier.specs.Accepted.{NamesOnce, AreCutWell, IsCore, LastTo, IsExpiry, IsAccepted, Keeps, Request}
use Rattle.forwarding.specs.Frame.{HasFrame}
use Rattle.network_core.specs.Value.{asked_at}
use Rattle.row_history.specs.Row.{top, middle, leaf}
use Rattle.row_history.proofs.Path.{begun, passed, segment, piece, pieces, way}
use Rattle.row_history.proofs.Codes.{mac_len, mac_bytes}

abbrev pub asked : Request
asked = asked_at 1000 way

-- each hop expires at half second 45,200
pub last_to : (half : ℕ) → half ≤ 45200 → LastTo half pieces
last_to half order =
    let P : Entry → Type 0 = λ entry. half ≤ expiry_of segment.timestamp entry.exp_time in
    let Q : PieceValue → Type 0 = λ one. All
    (λ entry. half ≤ expiry_of one.segment.timestamp entry.exp_time) (entries_of one) in
    All-cons Q piece [] (All-from_recursion P (entries_of piece)
    (omega (arith, order), (omega (arith, order), (omega (arith, order), tt)))) (All-nil Q)

pub least : IsExpiry pieces 45200
least = record {
  reached = (0, piece, omega arith, refl, (0, _, omega arith, refl, refl));
  lower = last_to 45200 (omega arith);
}

cut_well : AreCutWell pieces
cut_well = record {
  with_core = λ some. absurd (no_core some);
  without = λ none. inl (All-cons (λ (one : PieceValue). one.from ≡ 0) piece [] refl
      (All-nil (λ (one : PieceValue). one.from ≡ 0)));
}
  where
    no_core : Any IsCore pieces → ⊥
    no_core (zero, one, within, same, core) = (let kind = ap kind_of same ∙ core in absurd cc)
    no_core (suc k, one, within, same, core) = omega (arith, within)

abbrev ia_of : WalkHop → ℕ
ia_of hop = hop.ia

names_once : NamesOnce (walk_of pieces)
unfolding walk_of hops_of hop_of
names_once zero zero one other a b same = refl
names_once zero (suc zero) one other a b same =
    (let e = ap ia_of (same_Some _ _ a) ∙ same
    ∙ sym (ap ia_of (same_Some _ _ b)) in absurd (omega (arith, e)))
names_once zero (suc (suc zero)) one other a b same =
    (let e = ap ia_of (same_Some _ _ a) ∙ same
    ∙ sym (ap ia_of (same_Some _ _ b)) in absurd (omega (arith, e)))
names_once zero (suc (suc (suc k))) one other a b same = absurd cc
names_once (suc zero) zero one other a b same =
    (let e = ap ia_of (same_Some _ _ a) ∙ same
    ∙ sym (ap ia_of (same_Some _ _ b)) in absurd (omega (arith, e)))
names_once (suc zero) (suc zero) one other a b same = refl
names_once (suc zero) (suc (suc zero)) one other a b same =
    (let e = ap ia_of (same_Some _ _ a) ∙ same
    ∙ sym (ap ia_of (same_Some _ _ b)) in absurd (omega (arith, e)))
names_once (suc zero) (suc (suc (suc k))) one other a b same = absurd cc
names_once (suc (suc zero)) zero one other a b same =
    (let e = ap ia_of (same_Some _ _ a) ∙ same
    ∙ sym (ap ia_of (same_Some _ _ b)) in absurd (omega (arith, e)))
names_once (suc (suc zero)) (suc zero) one other a b same =
    (let e = ap ia_of (same_Some _ _ a) ∙ same
    ∙ sym (ap ia_of (same_Some _ _ b)) in absurd (omega (arith, e)))
names_once (suc (suc zero)) (suc (suc zero)) one other a b same = refl
names_once (suc (suc zero)) (suc (suc (suc k))) one other a b same = absurd cc
names_once (suc (suc (suc j))) k one other a b same = absurd cc

begins_right : begins_in piece ≡ leaf.ia
unfolding begins_in
begins_right = refl

ends_right : ends_in piece ≡ top.ia
unfolding ends_in
ends_right = refl

keeps : (fault : VerifyFault) → Keeps asked fault
keeps PieceCount = omega arith
keeps Range = All-cons HasRange piece [] (record { order = omega arith; within = omega arith })
    (All-nil HasRange)
keeps Kinds = tt
keeps CutAtCore = cut_well
keeps NotJoined = tt
keeps Source = begins_right
keeps Destination = ends_right
keeps TooManyHops = omega arith
keeps Loop = names_once
keeps Expired = last_to 2000 (omega arith)
keeps HeaderDiffers = refl
keeps (AclDenied denied) = tt
keeps SequenceMismatch = tt

pub accepted : IsAccepted asked
accepted = record { keeps = keeps }

entry_fits : (one : AsEntry) (timestamp beta ingress egress : ℕ) → one.exp_time < 256
    → ingress < 2 ^ 16 → egress < 2 ^ 16
    → HopFits (field_of (entry_by one timestamp beta ingress egress))
entry_fits one timestamp beta ingress egress exp low high =
    let key = key_in_use one.keys in record {
      exp_time = exp;
      cons_ingress = low;
      cons_egress = high;
      mac_len = mac_len key beta timestamp one.exp_time ingress egress;
      mac = mac_bytes key beta timestamp one.exp_time ingress egress;
    }

-- the accumulator at the end of the segment has 16 bits
small : beta_of segment 2 < 2 ^ 16
small =
    let P : Entry → Type 0 = λ entry. (k : ℕ) → slice_index entry.mac k < 256 in
    beta_of-lt segment 2 (omega arith) (All-from_recursion P segment.entries (
      mac_bytes (key_in_use top.keys) 4660 1000 63 0 1,
      (
        mac_bytes (key_in_use middle.keys) (beta_of begun 1) 1000 63 1 2,
        (mac_bytes (key_in_use leaf.keys) (beta_of passed 2) 1000 63 1 0, tt),
      ),
    ))

pub has_frame : HasFrame leaf.ia top.ia pieces
unfolding header_of fields_of
has_frame = record {
  source_fits = omega arith;
  destination_fits = omega arith;
  is_header = record {
    lens = record {
      some = omega arith;
      no_gap = λ e. refl;
      first_fits = omega arith;
      second_fits = omega arith;
      third_fits = omega arith;
      few = omega arith;
    };
    infos = refl;
    hops = refl;
    curr_inf = omega arith;
    curr_hf = omega arith;
  };
  fits = record {
    infos = (record { seg_id = small; timestamp = omega arith }, tt);
    hops = (
      entry_fits leaf 1000 (beta_of passed 2) 1 0 (omega arith) (omega arith) (omega arith),
      (
        entry_fits middle 1000 (beta_of begun 1) 1 2 (omega arith) (omega arith) (omega arith),
        (entry_fits top 1000 4660 0 1 (omega arith) (omega arith) (omega arith), tt),
      ),
    );
  };
}
