-- The bytes of headers are compared by the info fields of pieces, then by their hop fields.
use Rattle.std.proofs.Common.{◌≡◌, ℕ, suc, ◌+◌, ◌*◌, Bool, true, false, List, [], ◌∷◌, ◌++◌, length, map, reverse, take, All, refl, sym, ap, subst, ◌∙◌, inl, inr, arith, length-append}
use Rattle.std.specs.Prelude.{◌≢◌, ◌⊎◌}
use Rattle.std.specs.List.{AllByRecursion, flat_map}
use Rattle.std.specs.Int.{w32, to_be_bytes}
use Rattle.std.specs.declared.cmp.Ordering.{Ordering}
use Rattle.std.specs.declared.cmp.Ordering.TheVariants.{Less, Equal, Greater}
use Rattle.std.specs.Ordering.{nat_cmp, ordering_then, ordering_reverse}
use Rattle.std.specs.Cmp.Lexicographic.{slice_cmp}
use Rattle.std.proofs.lemmas.Cmp.{nat_cmp_total, tied_itself}
use Rattle.std.proofs.lemmas.Grind.{flat_map-append}
use Rattle.std.proofs.lemmas.List.Elements.{All-push, All-take, All-drop}
use Rattle.path_segment.specs.declared.entry.Entry.{Entry}
use Rattle.path_segment.specs.Chain.{between}
use Rattle.path_header.specs.declared.fields.HopField.{HopField}
use Rattle.path_header.specs.Value.{lens_from}
use Rattle.path_header.specs.Spelling.{info_spelling, hop_spelling, spelling, meta_word, HopFits}
use Rattle.path_verifier.specs.Piece.{PieceValue, in_order, travelled_entries}
use Rattle.path_verifier.specs.Header.{field_of, fields_of, info_of, header_of, len_of}
use Rattle.path_verifier.proofs.Headers.{length_fields_of}
use Rattle.path_verifier.proofs.Turned.{reverse_cons}
use Rattle.combinator.specs.Order.{bytes_cmp}
use Rattle.combinator.specs.inner.Search.{HasFields, infos_of}
use Rattle.combinator.proofs.Ranks.{bytes_total}
use Rattle.combinator.specs.inner.Group.{info_bytes, hop_bytes, fields_cmp}
use Rattle.combinator.specs.inner.Words.{hops_bytes}

-- ---- comparing lists in parts

pub then_then : (a b c : Ordering) → ordering_then (ordering_then a b) c ≡ ordering_then a (ordering_then b c)
then_then Less b c = refl
then_then Equal b c = refl
then_then Greater b c = refl

pub cmp_itself : (xs : List ℕ) → slice_cmp nat_cmp xs xs ≡ Equal
cmp_itself [] = refl
cmp_itself (x ∷ xs) = ap (λ c. ordering_then c (slice_cmp nat_cmp xs xs)) (tied_itself nat_cmp_total x) ∙ cmp_itself xs

pub cmp_parts : (xs ys us vs : List ℕ) → length xs ≡ length ys
    → slice_cmp nat_cmp (xs ++ us) (ys ++ vs) ≡ ordering_then (slice_cmp nat_cmp xs ys) (slice_cmp nat_cmp us vs)
cmp_parts [] [] us vs same = refl
cmp_parts [] (y ∷ ys) us vs same = absurd (omega (arith, same))
cmp_parts (x ∷ xs) [] us vs same = absurd (omega (arith, same))
cmp_parts (x ∷ xs) (y ∷ ys) us vs same =
    ap (ordering_then (nat_cmp x y)) (cmp_parts xs ys us vs (omega (arith, same)))
    ∙ sym (then_then (nat_cmp x y) (slice_cmp nat_cmp xs ys) (slice_cmp nat_cmp us vs))

-- ---- the bytes of hop fields

all_reverse : {X : Type 0} (P : X → Type 0) (xs : List X) → All P xs → All P (reverse xs)
all_reverse P [] all = all
all_reverse P (x ∷ xs) all =
    subst (All P) (sym (reverse_cons x xs))
    (All-push P (reverse xs) x (all_reverse P xs (λ k d within. all (suc k) d (omega (arith, within)))) (all 0 x (omega arith)))

in_either : (along : Bool) (P : Entry → Type 0) (entries : List Entry) → All P entries → All P (in_order along entries)
in_either true P entries all = all
in_either false P entries all = all_reverse P entries all

fields_fit : (entries : List Entry) → All (λ (entry : Entry). HopFits (field_of entry)) entries
    → AllByRecursion HopFits (map field_of entries)
fields_fit [] all = tt
fields_fit (entry ∷ entries) all =
    (all 0 entry (omega arith), fields_fit entries (λ k d within. all (suc k) d (omega (arith, within))))

piece_fits : (piece : PieceValue) → HasFields piece → AllByRecursion HopFits (fields_of piece)
unfolding fields_of HasFields
piece_fits piece has =
    let P : Entry → Type 0 = λ entry. HopFits (field_of entry) in
    fields_fit (travelled_entries piece) (in_either piece.along P (between piece.from piece.to piece.segment.entries)
    (All-drop P piece.from (take (piece.to + 1) piece.segment.entries) (All-take P (piece.to + 1) piece.segment.entries has.1)))

length_hop : (field : HopField) → HopFits field → length (hop_spelling field) ≡ 12
length_hop field fits = (let six = fits.mac_len in omega (arith, six))

length_hops : (fields : List HopField) → AllByRecursion HopFits fields
    → length (flat_map hop_spelling fields) ≡ 12 * length fields
length_hops [] fits = refl
length_hops (field ∷ fields) fits =
    let both = length-append (hop_spelling field) (flat_map hop_spelling fields) in
    let one = length_hop field fits.0 in
    let more = length_hops fields fits.1 in
    omega (arith, both, one, more)

pub length_hop_bytes : (piece : PieceValue) → HasFields piece → length (hop_bytes piece) ≡ 12 * len_of piece
length_hop_bytes piece has =
    length_hops (fields_of piece) (piece_fits piece has) ∙ ap (λ n. 12 * n) (length_fields_of piece)

-- ---- the bytes of headers

infos_mapped : (pieces : List PieceValue) → flat_map info_spelling (map info_of pieces) ≡ infos_of pieces
infos_mapped [] = refl
infos_mapped (piece ∷ pieces) = ap (λ bytes. info_bytes piece ++ bytes) (infos_mapped pieces)

pub infos_len : (pieces : List PieceValue) → length (infos_of pieces) ≡ 8 * length pieces
infos_len [] = refl
infos_len (piece ∷ pieces) =
    let both = length-append (info_bytes piece) (infos_of pieces) in
    let more = infos_len pieces in
    let one : length (info_bytes piece) ≡ 8 = refl in
    omega (arith, both, more, one)

hops_mapped : (pieces : List PieceValue) → flat_map hop_spelling (flat_map fields_of pieces) ≡ hops_bytes pieces
hops_mapped [] = refl
hops_mapped (piece ∷ pieces) =
    flat_map-append hop_spelling (fields_of piece) (flat_map fields_of pieces) ∙ ap (λ bytes. hop_bytes piece ++ bytes) (hops_mapped pieces)

abbrev pub meta_bytes : List ℕ → List ℕ
meta_bytes lens = to_be_bytes w32 (meta_word (record { curr_inf = 0; curr_hf = 0; lens = lens_from lens }))

pub spelled_in_parts : (pieces : List PieceValue)
    → spelling (header_of pieces) ≡ meta_bytes (map len_of pieces) ++ (infos_of pieces ++ hops_bytes pieces)
unfolding header_of
spelled_in_parts pieces =
    ap (λ bytes. meta_bytes (map len_of pieces) ++ (bytes ++ flat_map hop_spelling (flat_map fields_of pieces))) (infos_mapped pieces)
    ∙ ap (λ bytes. meta_bytes (map len_of pieces) ++ (infos_of pieces ++ bytes)) (hops_mapped pieces)

-- the header bytes of lists as long are compared by all info fields, then by all hop fields
pub bytes_in_parts : (pieces others : List PieceValue) → length pieces ≡ length others
    → map len_of pieces ≡ map len_of others
    → bytes_cmp (header_of pieces) (header_of others)
    ≡ ordering_then (slice_cmp nat_cmp (infos_of pieces) (infos_of others)) (slice_cmp nat_cmp (hops_bytes pieces) (hops_bytes others))
unfolding bytes_cmp
bytes_in_parts pieces others many lens =
    let front = meta_bytes (map len_of pieces) in
    let mine = infos_of pieces ++ hops_bytes pieces in
    let theirs = infos_of others ++ hops_bytes others in
    let same : length (infos_of pieces) ≡ length (infos_of others) = infos_len pieces ∙ ap (λ n. 8 * n) many ∙ sym (infos_len others) in
    ap (λ bytes. slice_cmp nat_cmp bytes (spelling (header_of others))) (spelled_in_parts pieces)
    ∙ ap (λ bytes. slice_cmp nat_cmp (front ++ mine) bytes) (spelled_in_parts others ∙ ap (λ ns. meta_bytes ns ++ theirs) (sym lens))
    ∙ cmp_parts front front mine theirs refl
    ∙ ap (λ c. ordering_then c (slice_cmp nat_cmp mine theirs)) (cmp_itself front)
    ∙ cmp_parts (infos_of pieces) (infos_of others) (hops_bytes pieces) (hops_bytes others) same

-- ---- the least in each place

-- no piece is greater than the other one in its place, which is as long
abbrev pub AreNoGreater : List PieceValue → List PieceValue → Type 0
AreNoGreater [] [] = Unit {0}
AreNoGreater [] (other ∷ others) = ⊥
AreNoGreater (piece ∷ pieces) [] = ⊥
AreNoGreater (piece ∷ pieces) (other ∷ others) = (len_of piece ≡ len_of other) × (fields_cmp piece other ≢ Greater)
    × AreNoGreater pieces others

abbrev InParts : (infos hops : Ordering) → Type 0
InParts infos hops = (infos ≡ Less) ⊎ ((infos ≡ Equal) × (hops ≢ Greater))

parts_of : (infos hops : Ordering) → ordering_then infos hops ≢ Greater → InParts infos hops
parts_of Less hops upto = inl refl
parts_of Equal hops upto = inr (refl, upto)
parts_of Greater hops upto = absurd (upto refl)

parts_to : (infos hops : Ordering) → InParts infos hops → ordering_then infos hops ≢ Greater
parts_to Less hops parts = λ greater. cc
parts_to Equal hops (inl less) = absurd cc
parts_to Equal hops (inr parts) = parts.1
parts_to Greater hops (inl less) = absurd cc
parts_to Greater hops (inr parts) = absurd (let same = parts.0 in cc)

then_no_greater : (one more : Ordering) → one ≢ Greater → more ≢ Greater → ordering_then one more ≢ Greater
then_no_greater Less more first second = first
then_no_greater Equal more first second = second
then_no_greater Greater more first second = first

parts_then : (infos hops more later : Ordering) → InParts infos hops → InParts more later
    → InParts (ordering_then infos more) (ordering_then hops later)
parts_then infos hops more later (inl less) second = inl (ap (λ c. ordering_then c more) less)
parts_then infos hops more later (inr first) (inl less) = inl (ap (λ c. ordering_then c more) first.0 ∙ less)
parts_then infos hops more later (inr first) (inr second) =
    inr (ap (λ c. ordering_then c more) first.0 ∙ second.0, then_no_greater hops later first.1 second.1)

all_parts : (pieces others : List PieceValue) → AllByRecursion HasFields pieces → AllByRecursion HasFields others
    → AreNoGreater pieces others
    → InParts (slice_cmp nat_cmp (infos_of pieces) (infos_of others)) (slice_cmp nat_cmp (hops_bytes pieces) (hops_bytes others))
all_parts [] [] has also upto = inr (refl, λ greater. cc)
all_parts [] (other ∷ others) has also upto = absurd upto
all_parts (piece ∷ pieces) [] has also upto = absurd upto
all_parts (piece ∷ pieces) (other ∷ others) has also upto =
    let hops : length (hop_bytes piece) ≡ length (hop_bytes other) =
    length_hop_bytes piece has.0 ∙ ap (λ n. 12 * n) upto.0 ∙ sym (length_hop_bytes other also.0) in
    subst (λ c. InParts c (slice_cmp nat_cmp (hops_bytes (piece ∷ pieces)) (hops_bytes (other ∷ others))))
    (sym (cmp_parts (info_bytes piece) (info_bytes other) (infos_of pieces) (infos_of others) refl))
    (subst (λ c. InParts (ordering_then (slice_cmp nat_cmp (info_bytes piece) (info_bytes other)) (slice_cmp nat_cmp (infos_of pieces) (infos_of others))) c)
    (sym (cmp_parts (hop_bytes piece) (hop_bytes other) (hops_bytes pieces) (hops_bytes others) hops))
    (parts_then (slice_cmp nat_cmp (info_bytes piece) (info_bytes other)) (slice_cmp nat_cmp (hop_bytes piece) (hop_bytes other))
    (slice_cmp nat_cmp (infos_of pieces) (infos_of others)) (slice_cmp nat_cmp (hops_bytes pieces) (hops_bytes others))
    (parts_of (slice_cmp nat_cmp (info_bytes piece) (info_bytes other)) (slice_cmp nat_cmp (hop_bytes piece) (hop_bytes other)) upto.1)
    (all_parts pieces others has.1 also.1 upto.2)))

many_of : (pieces others : List PieceValue) → AreNoGreater pieces others → length pieces ≡ length others
many_of [] [] upto = refl
many_of [] (other ∷ others) upto = absurd upto
many_of (piece ∷ pieces) [] upto = absurd upto
many_of (piece ∷ pieces) (other ∷ others) upto = ap suc (many_of pieces others upto.2)

lens_of : (pieces others : List PieceValue) → AreNoGreater pieces others → map len_of pieces ≡ map len_of others
lens_of [] [] upto = refl
lens_of [] (other ∷ others) upto = absurd upto
lens_of (piece ∷ pieces) [] upto = absurd upto
lens_of (piece ∷ pieces) (other ∷ others) upto =
    ap (λ n. n ∷ map len_of pieces) upto.0 ∙ ap (λ ns. len_of other ∷ ns) (lens_of pieces others upto.2)

-- a list that is no greater in each place has no greater header
pub no_greater_bytes : (pieces others : List PieceValue) → AllByRecursion HasFields pieces
    → AllByRecursion HasFields others → AreNoGreater pieces others
    → bytes_cmp (header_of others) (header_of pieces) ≢ Less
no_greater_bytes pieces others has also upto less =
    parts_to (slice_cmp nat_cmp (infos_of pieces) (infos_of others)) (slice_cmp nat_cmp (hops_bytes pieces) (hops_bytes others))
    (all_parts pieces others has also upto)
    (sym (bytes_in_parts pieces others (many_of pieces others upto) (lens_of pieces others upto))
    ∙ bytes_total.antisymm (header_of pieces) (header_of others) ∙ ap ordering_reverse less)
