-- The arithmetic of shares.
use Rattle.std.proofs.Common.{◌≡◌, ℕ, zero, suc, ◌+◌, ◌*◌, ◌-◌, ◌^◌, ◌<◌, ◌≤◌, refl, sym, ap, ◌∙◌, arith}
use Prim.Native.Nat.{max}
use Rattle.std.proofs.Math.Nat.{pow-suc, mul_assoc, add-mul, le-max_left, le-max_right, mul-pos}
use Rattle.std.proofs.lemmas.Nat.{pow-add, pow_pos}
use Rattle.inbox.specs.declared.account.Share.{Share}
use Rattle.inbox.specs.Share.{share, IsWholeShare, half, worth, sum_of}

-- the same share in smaller pieces
shifted : (m n : ℕ) (s : Share) → s.halvings ≤ m → m ≤ n → worth m s * 2 ^ (n - m) ≡ worth n s
shifted m n s low high =
    mul_assoc s.pieces (2 ^ (m - s.halvings)) (2 ^ (n - m))
    ∙ (ap (λ k. s.pieces * k) (sym (pow-add 2 (m - s.halvings) (n - m))) ∙ ap (λ k. s.pieces * 2 ^ k) (let e : (m - s.halvings) + (n - m) ≡ n - s.halvings = omega arith in e))

-- a share in pieces that are half as large
pub doubled : (n : ℕ) (s : Share) → s.halvings ≤ n → worth (suc n) s ≡ worth n s + worth n s
doubled n s low =
    let k : ℕ = n - s.halvings in
    let e : suc n - s.halvings ≡ suc k = omega arith in
    let p : s.pieces * 2 ^ (suc n - s.halvings) ≡ s.pieces * 2 ^ k * 2 = ap (λ j. s.pieces * 2 ^ j) e ∙ (ap (λ j. s.pieces * j) (pow-suc 2 k) ∙ sym (mul_assoc s.pieces (2 ^ k) 2)) in
    omega (arith, p)

-- half of a share in pieces that are half as large
pub halved : (n : ℕ) (s : Share) → worth (suc n) (half s) ≡ worth n s
halved n s = ap (λ k. s.pieces * 2 ^ k) (let e : suc n - suc s.halvings ≡ n - s.halvings = omega arith in e)

-- two shares as one
pub sums : (n : ℕ) (s t : Share) → s.halvings ≤ n → t.halvings ≤ n → max s.halvings t.halvings ≤ n → worth n (sum_of s t) ≡ worth n s + worth n t
sums n s t low low' high =
    let m : ℕ = max s.halvings t.halvings in
    let a = shifted m n s (le-max_left s.halvings t.halvings) high in
    let b = shifted m n t (le-max_right s.halvings t.halvings) high in
    add-mul (worth m s) (worth m t) (2 ^ (n - m)) ∙ (λ i. a i + b i)

-- the whole
pub wholes : (n : ℕ) (s : Share) → IsWholeShare s → s.halvings ≤ n → worth n s ≡ 2 ^ n
wholes n s whole low =
    ap (λ k. k * 2 ^ (n - s.halvings)) whole ∙ (sym (pow-add 2 s.halvings (n - s.halvings)) ∙ ap (λ k. 2 ^ k) (let e : s.halvings + (n - s.halvings) ≡ n = omega arith in e))

-- some piece is worth something
worth_some : (n : ℕ) (s : Share) → 0 < s.pieces → 0 < worth n s
worth_some n s some_piece = mul-pos some_piece (pow_pos (n - s.halvings))

zero_pieces : (n e p : ℕ) → worth n (share p e) ≡ 0 → p ≡ 0
zero_pieces n e zero none = refl
zero_pieces n e (suc p) none = absurd (let q = worth_some n (share (suc p) e) (omega arith) in omega arith)

-- what is worth nothing has no piece
pub no_piece : (n : ℕ) (s : Share) → worth n s ≡ 0 → s.pieces ≡ 0
no_piece n s none = zero_pieces n s.halvings s.pieces none

-- a share with more is some share
pub sum_some : (s t : Share) → 0 < s.pieces → 0 < (sum_of s t).pieces
sum_some s t some_piece = let p = worth_some (max s.halvings t.halvings) s some_piece in omega arith
