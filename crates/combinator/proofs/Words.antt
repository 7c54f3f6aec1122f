-- Numbers compare as their bytes do; headers compare by lengths, then info fields, then hop fields.
use Rattle.std.specs.Prelude.{Bool, true, false, if◌then◌else◌}
use Rattle.path_header.specs.declared.fields.InfoField.{InfoField}
use Rattle.std.proofs.Common.{◌≡◌, ℕ, ◌+◌, ◌*◌, ◌^◌, ◌<◌, ◌≤◌, List, [], ◌∷◌, ◌++◌, length, map, refl, sym, ap, ◌∙◌, arith}
use Rattle.std.specs.List.{AllByRecursion}
use Rattle.std.specs.Int.{w16, w32, w64, to_be_bytes, from_be_bytes}
use Rattle.std.specs.declared.cmp.Ordering.{Ordering}
use Rattle.std.specs.declared.cmp.Ordering.TheVariants.{Less, Equal, Greater}
use Rattle.std.specs.Ordering.{nat_cmp, ordering_then}
use Rattle.std.specs.Cmp.{nat_cmp_is}
use Rattle.std.specs.Cmp.Lexicographic.{slice_cmp}
use Rattle.std.proofs.lemmas.Cmp.{ranked}
use Rattle.std.proofs.lemmas.Nat.{from_be_bytes-to_be_bytes_4}
use Rattle.path_header.specs.declared.lens.SegLens.{SegLens}
use Rattle.path_header.specs.Value.{info_count}
use Rattle.path_header.specs.Spelling.{spelling, meta_word, info_spelling}
use Rattle.path_verifier.specs.Piece.{PieceValue, HasRange}
use Rattle.path_verifier.specs.Header.{header_of, len_of}
use Rattle.path_verifier.proofs.TurnedCounts.{long_of}
use Rattle.combinator.specs.Order.{bytes_cmp}
use Rattle.combinator.specs.inner.Search.{infos_of}
use Rattle.combinator.proofs.Ranks.{then_equal}
use Rattle.combinator.specs.inner.Words.{AreSmall, lens_of_pieces, lens_cmp, hops_bytes}
use Rattle.combinator.proofs.Fields.{infos_len, then_then, cmp_parts, meta_bytes, spelled_in_parts}

-- the number of digits below 256, after these
abbrev pub value : ℕ → List ℕ → ℕ
value front [] = front
value front (byte ∷ bytes) = value (front * 256 + byte) bytes

abbrev AreBytes : List ℕ → Type 0
AreBytes bytes = AllByRecursion (λ byte. byte < 256) bytes

digit_cmp : (c d : Ordering) (q p r s : ℕ) → c ≡ nat_cmp q p → d ≡ nat_cmp r s → r < 256 → s < 256
    → ordering_then c d ≡ nat_cmp (q * 256 + r) (p * 256 + s)
digit_cmp Less d q p r s first second small also =
    nat_cmp_is (q * 256 + r) (p * 256 + s) Less (let less : q < p = ranked q p Less first in omega (arith, less, small))
digit_cmp Greater d q p r s first second small also =
    nat_cmp_is (q * 256 + r) (p * 256 + s) Greater (let less : p < q = ranked q p Greater first in omega (arith, less, also))
digit_cmp Equal Less q p r s first second small also =
    nat_cmp_is (q * 256 + r) (p * 256 + s) Less (let same : q ≡ p = ranked q p Equal first in let less : r < s = ranked r s Less second in omega (arith, same, less))
digit_cmp Equal Equal q p r s first second small also =
    nat_cmp_is (q * 256 + r) (p * 256 + s) Equal (let same : q ≡ p = ranked q p Equal first in let tie : r ≡ s = ranked r s Equal second in omega (arith, same, tie))
digit_cmp Equal Greater q p r s first second small also =
    nat_cmp_is (q * 256 + r) (p * 256 + s) Greater (let same : q ≡ p = ranked q p Equal first in let less : s < r = ranked r s Greater second in omega (arith, same, less))

pub value_cmp : (front other : ℕ) (xs ys : List ℕ) → length xs ≡ length ys → AreBytes xs → AreBytes ys
    → ordering_then (nat_cmp front other) (slice_cmp nat_cmp xs ys) ≡ nat_cmp (value front xs) (value other ys)
value_cmp front other [] [] same small also = then_equal_last (nat_cmp front other)
  where
    then_equal_last : (c : Ordering) → ordering_then c Equal ≡ c
    then_equal_last Less = refl
    then_equal_last Equal = refl
    then_equal_last Greater = refl
value_cmp front other [] (y ∷ ys) same small also = absurd (omega (arith, same))
value_cmp front other (x ∷ xs) [] same small also = absurd (omega (arith, same))
value_cmp front other (x ∷ xs) (y ∷ ys) same small also =
    sym (then_then (nat_cmp front other) (nat_cmp x y) (slice_cmp nat_cmp xs ys))
    ∙ ap (λ c. ordering_then c (slice_cmp nat_cmp xs ys)) (digit_cmp (nat_cmp front other) (nat_cmp x y) front other x y refl refl small.0 also.0)
    ∙ value_cmp (front * 256 + x) (other * 256 + y) xs ys (omega (arith, same)) small.1 also.1

-- lists of bytes as long compare as the numbers that they spell
pub spelled_cmp : (xs ys : List ℕ) → length xs ≡ length ys → AreBytes xs → AreBytes ys
    → slice_cmp nat_cmp xs ys ≡ nat_cmp (value 0 xs) (value 0 ys)
spelled_cmp xs ys same small also = value_cmp 0 0 xs ys same small also

word_4 : (a b c d : ℕ) → from_be_bytes w32 (a ∷ b ∷ c ∷ d ∷ []) ≡ value 0 (a ∷ b ∷ c ∷ d ∷ [])
word_4 a b c d = omega arith

pub word_8 : (a b c d e f g h : ℕ) → from_be_bytes w64 (a ∷ b ∷ c ∷ d ∷ e ∷ f ∷ g ∷ h ∷ []) ≡ value 0 (a ∷ b ∷ c ∷ d ∷ e ∷ f ∷ g ∷ h ∷ [])
word_8 a b c d e f g h = omega arith

bytes_4 : (n : ℕ) → AreBytes (to_be_bytes w32 n)
bytes_4 n = (omega arith, (omega arith, (omega arith, (omega arith, tt))))

value_4 : (n : ℕ) → n < 2 ^ 32 → value 0 (to_be_bytes w32 n) ≡ n
value_4 n small = sym (word_4 _ _ _ _) ∙ from_be_bytes-to_be_bytes_4 n small

pub cmp_4 : (n m : ℕ) → n < 2 ^ 32 → m < 2 ^ 32 → slice_cmp nat_cmp (to_be_bytes w32 n) (to_be_bytes w32 m) ≡ nat_cmp n m
cmp_4 n m small also =
    spelled_cmp (to_be_bytes w32 n) (to_be_bytes w32 m) refl (bytes_4 n) (bytes_4 m)
    ∙ ap (λ k. nat_cmp k (value 0 (to_be_bytes w32 m))) (value_4 n small) ∙ ap (nat_cmp n) (value_4 m also)

-- ---- headers

abbrev word : (first second third : ℕ) → ℕ
word first second third = meta_word (record { curr_inf = 0; curr_hf = 0; lens = record { first = first; second = second; third = third } })

word_cmp : (c d e : Ordering) (a b x p q y : ℕ) → c ≡ nat_cmp a p → d ≡ nat_cmp b q → e ≡ nat_cmp x y
    → b < 64 → x < 64 → q < 64 → y < 64
    → ordering_then c (ordering_then d e) ≡ nat_cmp (word a b x) (word p q y)
word_cmp Less d e a b x p q y first second third sb sx sq sy =
    nat_cmp_is (word a b x) (word p q y) Less (let less : a < p = ranked a p Less first in omega arith)
word_cmp Greater d e a b x p q y first second third sb sx sq sy =
    nat_cmp_is (word a b x) (word p q y) Greater (let less : p < a = ranked a p Greater first in omega arith)
word_cmp Equal Less e a b x p q y first second third sb sx sq sy =
    nat_cmp_is (word a b x) (word p q y) Less (let same : a ≡ p = ranked a p Equal first in let less : b < q = ranked b q Less second in omega arith)
word_cmp Equal Greater e a b x p q y first second third sb sx sq sy =
    nat_cmp_is (word a b x) (word p q y) Greater (let same : a ≡ p = ranked a p Equal first in let less : q < b = ranked b q Greater second in omega arith)
word_cmp Equal Equal Less a b x p q y first second third sb sx sq sy =
    nat_cmp_is (word a b x) (word p q y) Less (let same : a ≡ p = ranked a p Equal first in let also : b ≡ q = ranked b q Equal second in let less : x < y = ranked x y Less third in omega arith)
word_cmp Equal Equal Equal a b x p q y first second third sb sx sq sy =
    nat_cmp_is (word a b x) (word p q y) Equal (let same : a ≡ p = ranked a p Equal first in let also : b ≡ q = ranked b q Equal second in let tie : x ≡ y = ranked x y Equal third in omega arith)
word_cmp Equal Equal Greater a b x p q y first second third sb sx sq sy =
    nat_cmp_is (word a b x) (word p q y) Greater (let same : a ≡ p = ranked a p Equal first in let also : b ≡ q = ranked b q Equal second in let less : y < x = ranked x y Greater third in omega arith)

meta_cmp : (one other : SegLens) → AreSmall one → AreSmall other
    → slice_cmp nat_cmp (to_be_bytes w32 (word one.first one.second one.third)) (to_be_bytes w32 (word other.first other.second other.third))
    ≡ lens_cmp one other
meta_cmp one other small also =
    let a = small.0 in
    let b = small.1 in
    let c = small.2 in
    let p = also.0 in
    let q = also.1 in
    let r = also.2 in
    cmp_4 (word one.first one.second one.third) (word other.first other.second other.third) (omega arith) (omega arith)
    ∙ sym (word_cmp (nat_cmp one.first other.first) (nat_cmp one.second other.second) (nat_cmp one.third other.third)
    one.first one.second one.third other.first other.second other.third refl refl refl b c q r)

then_where : (c a b : Ordering) → (c ≡ Equal → a ≡ b) → ordering_then c a ≡ ordering_then c b
then_where Less a b same = refl
then_where Equal a b same = same refl
then_where Greater a b same = refl

pub count_of : (pieces : List PieceValue) → length pieces ≤ 3 → AllByRecursion HasRange pieces
    → info_count (lens_of_pieces pieces) ≡ length pieces
count_of [] few ranges = refl
count_of (a ∷ []) few ranges = (let one = long_of a ranges.0 in omega arith)
count_of (a ∷ b ∷ []) few ranges = (let one = long_of a ranges.0 in let two = long_of b ranges.1.0 in omega arith)
count_of (a ∷ b ∷ c ∷ []) few ranges =
    (let one = long_of a ranges.0 in let two = long_of b ranges.1.0 in let three = long_of c ranges.1.1.0 in omega arith)
count_of (a ∷ b ∷ c ∷ d ∷ more) few ranges = absurd (omega arith)

-- lengths that compare as equal are equal
abbrev lens_at : ℕ → ℕ → ℕ → SegLens
lens_at first second third = record { first = first; second = second; third = third }

pub same_lens : (one other : SegLens) → lens_cmp one other ≡ Equal → one ≡ other
same_lens one other equal =
    let parts = then_equal (nat_cmp one.first other.first) (ordering_then (nat_cmp one.second other.second) (nat_cmp one.third other.third)) equal in
    let later = then_equal (nat_cmp one.second other.second) (nat_cmp one.third other.third) parts.1 in
    let a : one.first ≡ other.first = ranked one.first other.first Equal (sym parts.0) in
    let b : one.second ≡ other.second = ranked one.second other.second Equal (sym later.0) in
    let c : one.third ≡ other.third = ranked one.third other.third Equal (sym later.1) in
    ap (λ n. lens_at n one.second one.third) a ∙ ap (λ n. lens_at other.first n one.third) b ∙ ap (lens_at other.first other.second) c

-- headers compare by lengths, then by all info fields, then by all hop fields
pub headers_in_parts : (pieces others : List PieceValue) → length pieces ≤ 3 → length others ≤ 3
    → AllByRecursion HasRange pieces → AllByRecursion HasRange others
    → AreSmall (lens_of_pieces pieces) → AreSmall (lens_of_pieces others)
    → bytes_cmp (header_of pieces) (header_of others)
    ≡ ordering_then (lens_cmp (lens_of_pieces pieces) (lens_of_pieces others))
    (ordering_then (slice_cmp nat_cmp (infos_of pieces) (infos_of others)) (slice_cmp nat_cmp (hops_bytes pieces) (hops_bytes others)))
unfolding bytes_cmp
headers_in_parts pieces others few also_few ranges also small also_small =
    let mine = infos_of pieces ++ hops_bytes pieces in
    let theirs = infos_of others ++ hops_bytes others in
    ap (λ bytes. slice_cmp nat_cmp bytes (spelling (header_of others))) (spelled_in_parts pieces)
    ∙ ap (λ bytes. slice_cmp nat_cmp (meta_bytes (map len_of pieces) ++ mine) bytes) (spelled_in_parts others)
    ∙ cmp_parts (meta_bytes (map len_of pieces)) (meta_bytes (map len_of others)) mine theirs refl
    ∙ ap (λ c. ordering_then c (slice_cmp nat_cmp mine theirs)) (meta_cmp (lens_of_pieces pieces) (lens_of_pieces others) small also_small)
    ∙ then_where (lens_cmp (lens_of_pieces pieces) (lens_of_pieces others)) (slice_cmp nat_cmp mine theirs)
    (ordering_then (slice_cmp nat_cmp (infos_of pieces) (infos_of others)) (slice_cmp nat_cmp (hops_bytes pieces) (hops_bytes others)))
    (λ equal.
    let count = ap info_count (same_lens (lens_of_pieces pieces) (lens_of_pieces others) equal) in
    let first = count_of pieces few ranges in
    let second = count_of others also_few also in
    let a = infos_len pieces in
    let b = infos_len others in
    cmp_parts (infos_of pieces) (infos_of others) (hops_bytes pieces) (hops_bytes others) (omega (arith, a, b, count, first, second)))

-- ---- info fields as numbers

bytes_2 : (n : ℕ) → AreBytes (to_be_bytes w16 n)
bytes_2 n = (omega arith, (omega arith, tt))

flag_small : (b : Bool) → (if b then 1 else 0) < 256
flag_small true = omega arith
flag_small false = omega arith

info_are : (x : InfoField) → AreBytes (info_spelling x)
info_are x =
    let id = bytes_2 x.seg_id in
    let time = bytes_4 x.timestamp in
    (flag_small x.construction, (omega arith, (id.0, (id.1.0, (time.0, (time.1.0, (time.1.1.0, (time.1.1.1.0, tt))))))))

-- info fields compare as the numbers that their bytes spell
pub info_cmp : (x y : InfoField) → slice_cmp nat_cmp (info_spelling x) (info_spelling y)
    ≡ nat_cmp (from_be_bytes w64 (info_spelling x)) (from_be_bytes w64 (info_spelling y))
info_cmp x y =
    spelled_cmp (info_spelling x) (info_spelling y) refl (info_are x) (info_are y)
    ∙ ap (λ n. nat_cmp n (value 0 (info_spelling y))) (sym (word_8 _ _ _ _ _ _ _ _))
    ∙ ap (nat_cmp (from_be_bytes w64 (info_spelling x))) (sym (word_8 _ _ _ _ _ _ _ _))
