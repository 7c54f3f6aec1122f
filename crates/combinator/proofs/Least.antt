-- Lemmas of the code: expiries, and comparing hop fields one by one.
use Rattle.std.proofs.Common.{◌≡◌, ℕ, zero, suc, ◌+◌, ◌<◌, ◌≤◌, false, List, Some, None, [], ◌∷◌, ◌++◌, length, get_or, take, drop, All, Contains, refl, sym, ap, subst, ◌∙◌, inl, inr, arith, add-one}
use Rattle.std.specs.Prelude.{◌≢◌, ◌↔◌, ◌⊎◌, slice_get, IfNone, IfSome, Option}
use Rattle.std.specs.List.{flat_map}
use Rattle.std.specs.declared.cmp.Ordering.{Ordering}
use Rattle.std.specs.declared.cmp.Ordering.TheVariants.{Less, Equal, Greater}
use Rattle.std.specs.Ordering.{nat_cmp, ordering_then, ordering_reverse, is_gt}
use Rattle.std.specs.Cmp.{IsTotalOrder}
use Rattle.std.proofs.lemmas.Cmp.{nat_list_cmp_total, on_total, then_total, tied_itself, upto}
use Rattle.std.proofs.lemmas.List.Elements.{Contains-push}
use Rattle.combinator.proofs.Collected.{take_past, taken_more}
use Rattle.std.specs.Cmp.Lexicographic.{slice_cmp}
use Rattle.std.proofs.lemmas.Option.{same_Some}
use Rattle.std.proofs.lemmas.List.Folds.{flat_map-map}
use Rattle.hop_mac.specs.Lifetime.{expiry_of}
use Rattle.path_segment.specs.declared.entry.Entry.{Entry}
use Rattle.path_segment.specs.Chain.{IsLeastExpiry}
use Rattle.path_header.specs.Spelling.{hop_spelling}
use Rattle.path_verifier.specs.Piece.{PieceValue, entries_of, travelled_entries}
use Rattle.path_verifier.specs.Header.{field_of, fields_of, len_of}
use Rattle.path_verifier.specs.Accepted.{LastTo, IsExpiry}
use Rattle.path_verifier.proofs.Expiry.{expiry_of_one}
use Rattle.combinator.specs.inner.Group.{info_bytes, hop_bytes, fields_cmp, IsLeastAmong}
use Rattle.combinator.proofs.Over.{there_front}
use Rattle.combinator.proofs.Fields.{cmp_parts}

last_to : (pieces : List PieceValue) (least half : ℕ) → IsExpiry pieces least → half ≤ least → LastTo half pieces
last_to pieces least half is upto = λ j p there k d within. (let lower = is.lower j p there k d within in omega arith)

up_to : (pieces : List PieceValue) (least half : ℕ) → IsExpiry pieces least → LastTo half pieces → half ≤ least
up_to pieces least half is lasts =
    let piece = is.reached.1 in
    let entry = is.reached.4.1 in
    let hops : All (λ e. half ≤ expiry_of piece.segment.timestamp e.exp_time) (entries_of piece) =
    rw is.reached.3 at (lasts is.reached.0 piece is.reached.2) in
    let hop : half ≤ expiry_of piece.segment.timestamp entry.exp_time =
    rw is.reached.4.3 at (hops is.reached.4.0 entry is.reached.4.2) in
    rw is.reached.4.4 hop

-- a piece lasts to a half second that is not after its expiry
pub lasts_up_to : (piece : PieceValue) (least half : ℕ) → IsLeastExpiry piece.segment.timestamp (entries_of piece) least
    → (half ≤ least) ↔ LastTo half (piece ∷ [])
lasts_up_to piece least half is = (
  last_to (piece ∷ []) least half (expiry_of_one piece least is),
  up_to (piece ∷ []) least half (expiry_of_one piece least is),
)

-- the bytes of the hop fields of entries from a place on
abbrev pub bytes_from : List Entry → ℕ → List ℕ
bytes_from entries place = flat_map (λ (entry : Entry). hop_spelling (field_of entry)) (drop place entries)

pub bytes_of_all : (piece : PieceValue) → hop_bytes piece ≡ bytes_from (travelled_entries piece) 0
unfolding fields_of
bytes_of_all piece = flat_map-map hop_spelling field_of (travelled_entries piece)

drop_there : (entries : List Entry) (place : ℕ) (entry : Entry) → slice_get entries place ≡ Some entry
    → drop place entries ≡ entry ∷ drop (suc place) entries
drop_there [] zero entry is = absurd cc
drop_there [] (suc place) entry is = absurd cc
drop_there (first ∷ entries) zero entry is = ap (λ (e : Entry). e ∷ entries) (same_Some first entry is)
drop_there (first ∷ entries) (suc place) entry is = drop_there entries place entry is

bytes_there : (entries : List Entry) (place : ℕ) (entry : Entry) → slice_get entries place ≡ Some entry
    → bytes_from entries place ≡ hop_spelling (field_of entry) ++ bytes_from entries (place + 1)
bytes_there entries place entry is =
    rw add-one (ap (flat_map (λ (e : Entry). hop_spelling (field_of e))) (drop_there entries place entry is))

pub cmp_there : (entries others : List Entry) (place : ℕ) (entry other : Entry) → slice_get entries place ≡ Some entry
    → slice_get others place ≡ Some other
    → length (hop_spelling (field_of entry)) ≡ length (hop_spelling (field_of other))
    → slice_cmp nat_cmp (bytes_from entries place) (bytes_from others place)
    ≡ ordering_then (slice_cmp nat_cmp (hop_spelling (field_of entry)) (hop_spelling (field_of other)))
    (slice_cmp nat_cmp (bytes_from entries (place + 1)) (bytes_from others (place + 1)))
cmp_there entries others place entry other is also same =
    ap (λ bytes. slice_cmp nat_cmp bytes (bytes_from others place)) (bytes_there entries place entry is)
    ∙ ap (slice_cmp nat_cmp (hop_spelling (field_of entry) ++ bytes_from entries (place + 1))) (bytes_there others place other also)
    ∙ cmp_parts (hop_spelling (field_of entry)) (hop_spelling (field_of other)) (bytes_from entries (place + 1)) (bytes_from others (place + 1)) same

drop_past : (entries : List Entry) (place : ℕ) → length entries ≤ place → drop place entries ≡ []
drop_past [] zero past = refl
drop_past [] (suc place) past = refl
drop_past (first ∷ entries) zero past = absurd (omega (arith, past))
drop_past (first ∷ entries) (suc place) past = drop_past entries place (omega (arith, past))

pub cmp_past : (entries others : List Entry) (place : ℕ) → length entries ≤ place → length others ≤ place
    → slice_cmp nat_cmp (bytes_from entries place) (bytes_from others place) ≡ Equal
cmp_past entries others place past also =
    ap (λ es. slice_cmp nat_cmp (flat_map (λ (e : Entry). hop_spelling (field_of e)) es) (bytes_from others place)) (drop_past entries place past)
    ∙ ap (λ es. slice_cmp nat_cmp [] (flat_map (λ (e : Entry). hop_spelling (field_of e)) es)) (drop_past others place also)

pub then_decided : (one more : Ordering) → one ≢ Equal → ordering_then one more ≡ one
then_decided Less more apart = refl
then_decided Equal more apart = absurd (apart refl)
then_decided Greater more apart = refl

-- ---- the least of pieces

pub fields_total : IsTotalOrder fields_cmp
fields_total =
    then_total (on_total (λ (piece : PieceValue). info_bytes piece) nat_list_cmp_total)
    (on_total (λ (piece : PieceValue). hop_bytes piece) nat_list_cmp_total)

pub no_greater_itself : (piece : PieceValue) → fields_cmp piece piece ≢ Greater
no_greater_itself piece greater = (let same = tied_itself fields_total piece in let both = sym same ∙ greater in cc)

pub no_greater_back : (one other : PieceValue) → fields_cmp one other ≡ Greater → fields_cmp other one ≢ Greater
no_greater_back one other greater back =
    (let both : fields_cmp other one ≡ Less = fields_total.antisymm other one ∙ ap ordering_reverse greater in let same = sym back ∙ both in cc)

to_gt : (c : Ordering) → c ≢ Greater → is_gt c ≡ false
to_gt Less upto = refl
to_gt Equal upto = refl
to_gt Greater upto = absurd (upto refl)

from_gt : (c : Ordering) → is_gt c ≡ false → c ≢ Greater
from_gt Less upto = λ greater. cc
from_gt Equal upto = λ greater. cc
from_gt Greater upto = absurd cc

no_greater_on : (one other third : PieceValue) → fields_cmp one other ≢ Greater → fields_cmp other third ≢ Greater
    → fields_cmp one third ≢ Greater
no_greater_on one other third first second =
    from_gt (fields_cmp one third) (upto fields_total one other third (to_gt (fields_cmp one other) first) (to_gt (fields_cmp other third) second))

front_suc : {X : Type 0} (xs : List X) (k : ℕ) (x : X) → k < length xs
    → take (suc k) xs ≡ take k xs ++ get_or xs k x ∷ []
front_suc [] k x inside = absurd (omega arith)
front_suc (y ∷ []) zero x inside = refl
front_suc (y ∷ z ∷ ys) zero x inside = refl
front_suc (y ∷ ys) (suc k) x inside = ap (λ zs. y ∷ zs) (front_suc ys k x (omega arith))

module _ (half : ℕ) (pieces : List PieceValue) (i : ℕ) (piece : PieceValue) (within : i < length pieces)
    (is : piece ≡ get_or pieces i piece) where
  one_more : take (i + 1) pieces ≡ take i pieces ++ piece ∷ []
  one_more = rw add-one (front_suc pieces i piece within ∙ ap (λ (p : PieceValue). take i pieces ++ p ∷ []) (sym is))

  pub still_there : (other : PieceValue) → Contains (take i pieces) other → Contains (take (i + 1) pieces) other
  still_there other there = subst (λ (ps : List PieceValue). Contains ps other) (sym one_more) (there_front (take i pieces) (piece ∷ []) other there)

  pub last_there : Contains (take (i + 1) pieces) piece
  last_there = subst (λ (ps : List PieceValue). Contains ps piece) (sym one_more) (Contains-push (take i pieces) piece)

  pub none_more : ((other : PieceValue) → Contains (take i pieces) other → ¬ (LastTo half (other ∷ [])))
      → ¬ (LastTo half (piece ∷ []))
      → (other : PieceValue) → Contains (take (i + 1) pieces) other → ¬ (LastTo half (other ∷ []))
  none_more none here other there lasts = elim (taken_more pieces i piece other within is there) [
    | inl before ↦ none other before lasts
    | inr same ↦ here (subst (λ (p : PieceValue). LastTo half (p ∷ [])) (sym same) lasts)
  ]

  pub least_still : (best : PieceValue) → IsLeastAmong half (take i pieces) best → ¬ (LastTo half (piece ∷ []))
      → IsLeastAmong half (take (i + 1) pieces) best
  least_still best least here = record {
    there = still_there best least.there;
    lasts = least.lasts;
    least = λ other there lasts. elim (taken_more pieces i piece other within is there) [
      | inl before ↦ least.least other before lasts
      | inr same ↦ absurd (here (subst (λ (p : PieceValue). LastTo half (p ∷ [])) (sym same) lasts))
    ];
  }

  pub least_first : ((other : PieceValue) → Contains (take i pieces) other → ¬ (LastTo half (other ∷ [])))
      → LastTo half (piece ∷ []) → IsLeastAmong half (take (i + 1) pieces) piece
  least_first none here = record {
    there = last_there;
    lasts = here;
    least = λ other there lasts. elim (taken_more pieces i piece other within is there) [
      | inl before ↦ absurd (none other before lasts)
      | inr same ↦ subst (λ (p : PieceValue). fields_cmp piece p ≢ Greater) same (no_greater_itself piece)
    ];
  }

  pub least_lesser : (best lesser : PieceValue) → IsLeastAmong half (take i pieces) best → LastTo half (piece ∷ [])
      → (lesser ≡ best) ⊎ (lesser ≡ piece) → fields_cmp lesser best ≢ Greater → fields_cmp lesser piece ≢ Greater
      → IsLeastAmong half (take (i + 1) pieces) lesser
  least_lesser best lesser least here either first second = record {
    there = elim either [
      | inl same ↦ subst (Contains (take (i + 1) pieces)) (sym same) (still_there best least.there)
      | inr same ↦ subst (Contains (take (i + 1) pieces)) (sym same) last_there
    ];
    lasts = elim either [
      | inl same ↦ subst (λ (p : PieceValue). LastTo half (p ∷ [])) (sym same) least.lasts
      | inr same ↦ subst (λ (p : PieceValue). LastTo half (p ∷ [])) (sym same) here
    ];
    least = λ other there lasts. elim (taken_more pieces i piece other within is there) [
      | inl before ↦ no_greater_on lesser best other first (least.least other before lasts)
      | inr same ↦ subst (λ (p : PieceValue). fields_cmp lesser p ≢ Greater) same second
    ];
  }

pub in_all : (pieces : List PieceValue) (i : ℕ) (piece : PieceValue) → i < length pieces → piece ≡ get_or pieces i piece → Contains pieces piece
in_all pieces i piece within is = (i, within, sym is)

pub of_taken : (pieces : List PieceValue) (i : ℕ) (piece : PieceValue) → Contains (take i pieces) piece → Contains pieces piece
of_taken [] zero piece there = there
of_taken [] (suc i) piece there = there
of_taken (one ∷ pieces) zero piece there = absurd (let within = there.1 in omega (arith, within))
of_taken (one ∷ pieces) (suc i) piece (zero, within, at) = (0, omega arith, at)
of_taken (one ∷ pieces) (suc i) piece (suc k, within, at) =
    let more = of_taken pieces i piece (k, omega (arith, within), at) in
    (suc more.0, (let here = more.1 in omega (arith, here)), more.2)

-- ---- steps of loops

pub all_from : (one other : PieceValue) → slice_cmp nat_cmp (hop_bytes one) (hop_bytes other)
    ≡ slice_cmp nat_cmp (bytes_from (travelled_entries one) 0) (bytes_from (travelled_entries other) 0)
all_from one other =
    ap (λ bytes. slice_cmp nat_cmp bytes (hop_bytes other)) (bytes_of_all one)
    ∙ ap (slice_cmp nat_cmp (bytes_from (travelled_entries one) 0)) (bytes_of_all other)

module _ (all : Ordering) (entries others : List Entry) (place : ℕ) (entry other : Entry) (decided : Ordering)
    (so_far : all ≡ slice_cmp nat_cmp (bytes_from entries place) (bytes_from others place))
    (is : slice_get entries place ≡ Some entry) (also : slice_get others place ≡ Some other)
    (same : length (hop_spelling (field_of entry)) ≡ length (hop_spelling (field_of other)))
    (value : decided ≡ slice_cmp nat_cmp (hop_spelling (field_of entry)) (hop_spelling (field_of other))) where
  here_then : all ≡ ordering_then decided (slice_cmp nat_cmp (bytes_from entries (place + 1)) (bytes_from others (place + 1)))
  here_then =
      so_far ∙ cmp_there entries others place entry other is also same
      ∙ ap (λ d. ordering_then d (slice_cmp nat_cmp (bytes_from entries (place + 1)) (bytes_from others (place + 1)))) (sym value)

  pub equal_here : decided ≡ Equal → all ≡ slice_cmp nat_cmp (bytes_from entries (place + 1)) (bytes_from others (place + 1))
  equal_here equal = here_then ∙ ap (λ d. ordering_then d (slice_cmp nat_cmp (bytes_from entries (place + 1)) (bytes_from others (place + 1)))) equal

  pub decided_here : decided ≢ Equal → decided ≡ all
  decided_here apart =
      sym (then_decided decided (slice_cmp nat_cmp (bytes_from entries (place + 1)) (bytes_from others (place + 1))) apart) ∙ sym here_then

-- what a loop knows of the least so far
pub none_still : {X : Type 0} (least : Option X) (half : ℕ) (pieces : List PieceValue) (i : ℕ) (piece : PieceValue)
    → i < length pieces → piece ≡ get_or pieces i piece → ¬ (LastTo half (piece ∷ []))
    → IfNone least ((other : PieceValue) → Contains (take i pieces) other → ¬ (LastTo half (other ∷ [])))
    → IfNone least ((other : PieceValue) → Contains (take (i + 1) pieces) other → ¬ (LastTo half (other ∷ [])))
none_still None half pieces i piece within is here none = none_more half pieces i piece within is none here
none_still (Some best) half pieces i piece within is here none = tt

pub some_still : {X : Type 0} (least : Option X) (now : X → PieceValue) (half : ℕ) (pieces : List PieceValue) (i : ℕ) (piece : PieceValue)
    → i < length pieces → piece ≡ get_or pieces i piece → ¬ (LastTo half (piece ∷ []))
    → IfSome least (λ (best : X). IsLeastAmong half (take i pieces) (now best))
    → IfSome least (λ (best : X). IsLeastAmong half (take (i + 1) pieces) (now best))
some_still None now half pieces i piece within is here some = tt
some_still (Some best) now half pieces i piece within is here some = least_still half pieces i piece within is (now best) some here

pub some_more : {X : Type 0} (least : Option X) (now : X → PieceValue) (half : ℕ) (pieces : List PieceValue) (i : ℕ) (piece lesser : PieceValue)
    → i < length pieces → piece ≡ get_or pieces i piece → LastTo half (piece ∷ [])
    → IfNone least ((other : PieceValue) → Contains (take i pieces) other → ¬ (LastTo half (other ∷ [])))
    → IfSome least (λ (best : X). IsLeastAmong half (take i pieces) (now best))
    → IfNone least (lesser ≡ piece)
    → IfSome least (λ (best : X). ((lesser ≡ now best) ⊎ (lesser ≡ piece)) × (fields_cmp lesser (now best) ≢ Greater))
    → fields_cmp lesser piece ≢ Greater
    → IsLeastAmong half (take (i + 1) pieces) lesser
some_more None now half pieces i piece lesser within is here none some first second upto =
    subst (IsLeastAmong half (take (i + 1) pieces)) (sym first) (least_first half pieces i piece within is none here)
some_more (Some best) now half pieces i piece lesser within is here none some first second upto =
    least_lesser half pieces i piece within is (now best) lesser some here second.0 second.1 upto

pub none_at_end : {X : Type 0} (least : Option X) (half : ℕ) (pieces : List PieceValue) (i : ℕ) → length pieces ≤ i
    → IfNone least ((other : PieceValue) → Contains (take i pieces) other → ¬ (LastTo half (other ∷ [])))
    → IfNone least ((other : PieceValue) → Contains pieces other → ¬ (LastTo half (other ∷ [])))
none_at_end None half pieces i past none =
    subst (λ (ps : List PieceValue). (other : PieceValue) → Contains ps other → ¬ (LastTo half (other ∷ []))) (take_past pieces i past) none
none_at_end (Some best) half pieces i past none = tt

pub some_at_end : {X : Type 0} (least : Option X) (now : X → PieceValue) (half : ℕ) (pieces : List PieceValue) (i : ℕ) → length pieces ≤ i
    → IfSome least (λ (best : X). IsLeastAmong half (take i pieces) (now best))
    → IfSome least (λ (best : X). IsLeastAmong half pieces (now best))
some_at_end None now half pieces i past some = tt
some_at_end (Some best) now half pieces i past some =
    subst (λ (ps : List PieceValue). IsLeastAmong half ps (now best)) (take_past pieces i past) some

pub lens_there : {X : Type 0} (least : Option X) (now : X → PieceValue) (half : ℕ) (pieces : List PieceValue) (i : ℕ) (piece : PieceValue)
    → i < length pieces → piece ≡ get_or pieces i piece
    → ((one other : PieceValue) → Contains pieces one → Contains pieces other → len_of one ≡ len_of other)
    → IfSome least (λ (best : X). IsLeastAmong half (take i pieces) (now best))
    → IfSome least (λ (best : X). len_of (now best) ≡ len_of piece)
lens_there None now half pieces i piece within is same some = tt
lens_there (Some best) now half pieces i piece within is same some =
    same (now best) piece (of_taken pieces i (now best) some.there) (in_all pieces i piece within is)
