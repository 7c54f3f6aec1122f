-- Which rules of a path can be decided: all of them, where the policy allows its walk.
use Rattle.std.proofs.Common.{◌≡◌, ℕ, zero, suc, ◌*◌, ◌+◌, ◌<◌, ◌≤◌, List, [], ◌∷◌, length, get_or, map, All, Any, refl, sym, ap, subst, ◌∙◌, inl, inr, arith}
use Rattle.std.specs.Prelude.{◌⊎◌}
use Rattle.std.specs.declared.cmp.Ordering.{Ordering}
use Rattle.std.specs.declared.cmp.Ordering.TheVariants.{Less, Equal, Greater}
use Rattle.std.proofs.lemmas.Bool.{cases_lt}
use Rattle.std.proofs.lemmas.Cmp.{lists_total, tied_itself}
use Rattle.std.proofs.lemmas.List.Elements.{All-cons}
use Rattle.hop_mac.specs.Lifetime.{expiry_of}
use Rattle.path_segment.specs.declared.entry.Entry.{Entry}
use Rattle.policy_expr.specs.declared.hop.WalkHop.{WalkHop}
use Rattle.path_verifier.specs.declared.kind.PieceKind.{PieceKind}
use Rattle.path_verifier.specs.declared.kind.PieceKind.TheVariants.{Up, Core, Down}
use Rattle.path_verifier.specs.Piece.{PieceValue, HasRange, kind_of, entries_of, begins_in, ends_in}
use Rattle.path_verifier.specs.Walk.{walk_of}
use Rattle.path_verifier.specs.Header.{total_hops}
use Rattle.path_verifier.specs.Accepted.{IsCore, MayAdjoin, DoAdjoin, AreCutWell, DoMeet, DoBeginIn, DoEndIn, NamesOnce, AreLive, MakesPath}
use Rattle.combinator.specs.Order.{walk_cmp}
use Rattle.combinator.proofs.Ranks.{hop_total, same_walk}

-- ---- facts made of facts

pub dec_and : {A B : Type 0} → Dec A → Dec B → Dec (A × B)
dec_and (yes a) (yes b) = yes (a, b)
dec_and (yes a) (no never) = no (λ both. never both.1)
dec_and (no never) also = no (λ both. never both.0)

dec_or : {A B : Type 0} → Dec A → Dec B → Dec (A ⊎ B)
dec_or (yes a) also = yes (inl a)
dec_or (no never) (yes b) = yes (inr b)
dec_or (no never) (no neither) = no (λ either. elim either [ inl a ↦ never a | inr b ↦ neither b ])

dec_if : {A B : Type 0} → Dec A → Dec B → Dec (A → B)
dec_if (yes a) (yes b) = yes (λ _. b)
dec_if (yes a) (no never) = no (λ f. never (f a))
dec_if (no never) also = yes (λ a. absurd (never a))

dec_not : {A : Type 0} → Dec A → Dec (¬ A)
dec_not (yes a) = no (λ never. never a)
dec_not (no never) = yes never

-- ---- numbers

pub dec_le : (n m : ℕ) → Dec (n ≤ m)
dec_le n m = elim (cases_lt m n) [ inl less ↦ no (λ upto. omega (arith, less, upto)) | inr upto ↦ yes upto ]

dec_lt : (n m : ℕ) → Dec (n < m)
dec_lt n m = elim (cases_lt n m) [ inl less ↦ yes less | inr upto ↦ no (λ less. omega (arith, less, upto)) ]

dec_same : (n m : ℕ) → Dec (n ≡ m)
dec_same n m = elim (cases_lt n m) [
  | inl less ↦ no (λ is. omega (arith, less, is))
  | inr upto ↦ elim (cases_lt m n) [ inl more ↦ no (λ is. omega (arith, more, is)) | inr also ↦ yes (omega (arith, upto, also)) ]
]

-- ---- lists

module _ {X : Type 0} (P : X → Type 0) (test : (x : X) → Dec (P x)) where
  all_tail : (x : X) (xs : List X) → All P (x ∷ xs) → All P xs
  all_tail x xs all k d within = all (suc k) d (omega (arith, within))

  pub dec_all : (xs : List X) → Dec (All P xs)
  dec_all [] = yes (λ k d within. absurd (omega (arith, within)))
  dec_all (x ∷ xs) = elim (test x) [
    | yes here ↦ elim (dec_all xs) [
      | yes later ↦ yes (All-cons P x xs here later)
      | no never ↦ no (λ all. never (all_tail x xs all))
    ]
    | no never ↦ no (λ all. never (all 0 x (omega arith)))
  ]

  any_cases : (x : X) (xs : List X) (k : ℕ) (d : X) → k < length (x ∷ xs) → get_or (x ∷ xs) k d ≡ d → P d
      → P x ⊎ Any P xs
  any_cases x xs zero d within at p = inl (subst P (sym at) p)
  any_cases x xs (suc k) d within at p = inr (k, d, omega (arith, within), at, p)

  dec_any : (xs : List X) → Dec (Any P xs)
  dec_any [] = no (λ some. (let within = some.2 in omega (arith, within)))
  dec_any (x ∷ xs) = elim (test x) [
    | yes here ↦ yes (0, x, omega arith, refl, here)
    | no never ↦ elim (dec_any xs) [
      | yes some ↦ yes (suc some.0, some.1, (let within = some.2 in omega (arith, within)), some.3, some.4)
      | no neither ↦ no
          (λ some. elim (any_cases x xs some.0 some.1 some.2 some.3 some.4) [ inl here ↦ never here | inr later ↦ neither later ])
    ]
  ]

-- ---- walks

by_order : (c : Ordering) (one other : List WalkHop) → walk_cmp one other ≡ c → Dec (one ≡ other)
by_order Less one other e =
    no (λ is. (let tie : walk_cmp one other ≡ Equal = ap (walk_cmp one) (sym is) ∙ tied_itself (lists_total hop_total) one in let both = sym e ∙ tie in cc))
by_order Equal one other e = yes (same_walk one other e)
by_order Greater one other e =
    no (λ is. (let tie : walk_cmp one other ≡ Equal = ap (walk_cmp one) (sym is) ∙ tied_itself (lists_total hop_total) one in let both = sym e ∙ tie in cc))

pub dec_walk : (one other : List WalkHop) → Dec (one ≡ other)
dec_walk one other = by_order (walk_cmp one other) one other refl

-- ---- the rules of a path

dec_range : (piece : PieceValue) → Dec (HasRange piece)
dec_range piece = elim (dec_and (dec_lt piece.from piece.to) (dec_lt piece.to (length piece.segment.entries))) [
  | yes both ↦ yes (record { order = both.0; within = both.1 })
  | no never ↦ no (λ range. never (range.order, range.within))
]

dec_adjoin : (one next : PieceKind) → Dec (MayAdjoin one next)
dec_adjoin Up Up = no (λ may. may)
dec_adjoin Up Core = yes tt
dec_adjoin Up Down = yes tt
dec_adjoin Core Up = no (λ may. may)
dec_adjoin Core Core = no (λ may. may)
dec_adjoin Core Down = yes tt
dec_adjoin Down Up = no (λ may. may)
dec_adjoin Down Core = no (λ may. may)
dec_adjoin Down Down = no (λ may. may)

dec_adjoins : (kinds : List PieceKind) → Dec (DoAdjoin kinds)
dec_adjoins [] = yes tt
dec_adjoins (kind ∷ []) = yes tt
dec_adjoins (kind ∷ next ∷ later) = dec_and (dec_adjoin kind next) (dec_adjoins (next ∷ later))

dec_core_kind : (kind : PieceKind) → Dec (kind ≡ Core)
dec_core_kind Up = no (λ is. cc)
dec_core_kind Core = yes refl
dec_core_kind Down = no (λ is. cc)

dec_core : (piece : PieceValue) → Dec (IsCore piece)
dec_core piece = dec_core_kind (kind_of piece)

dec_cuts : (pieces : List PieceValue) → Dec (AreCutWell pieces)
dec_cuts pieces =
    let whole =
    dec_all (λ (piece : PieceValue). (piece.from ≡ 0) × (IsCore piece → piece.to + 1 ≡ length piece.segment.entries))
    (λ piece. dec_and (dec_same piece.from 0) (dec_if (dec_core piece) (dec_same (piece.to + 1) (length piece.segment.entries)))) pieces in
    let first = dec_all (λ (piece : PieceValue). piece.from ≡ 0) (λ piece. dec_same piece.from 0) pieces in
    let later = dec_all (λ (piece : PieceValue). 0 < piece.from) (λ piece. dec_lt 0 piece.from) pieces in
    let core = dec_any IsCore dec_core pieces in
    elim (dec_and (dec_if core whole) (dec_if (dec_not core) (dec_or first later))) [
      | yes both ↦ yes (record { with_core = both.0; without = both.1 })
      | no never ↦ no (λ cuts. never (cuts.with_core, cuts.without))
    ]

dec_meet : (pieces : List PieceValue) → Dec (DoMeet pieces)
dec_meet [] = yes tt
dec_meet (piece ∷ []) = yes tt
dec_meet (piece ∷ next ∷ later) = dec_and (dec_same (ends_in piece) (begins_in next)) (dec_meet (next ∷ later))

dec_begin : (src : ℕ) (pieces : List PieceValue) → Dec (DoBeginIn src pieces)
dec_begin src [] = no (λ never. never)
dec_begin src (piece ∷ later) = dec_same (begins_in piece) src

dec_end : (dst : ℕ) (pieces : List PieceValue) → Dec (DoEndIn dst pieces)
dec_end dst [] = no (λ never. never)
dec_end dst (piece ∷ []) = dec_same (ends_in piece) dst
dec_end dst (piece ∷ next ∷ later) = dec_end dst (next ∷ later)

dec_live : (now : ℕ) (pieces : List PieceValue) → Dec (AreLive now pieces)
dec_live now pieces =
    dec_all (λ (piece : PieceValue). All (λ entry. 2 * now ≤ expiry_of piece.segment.timestamp entry.exp_time) (entries_of piece))
    (λ piece. dec_all (λ (entry : Entry). 2 * now ≤ expiry_of piece.segment.timestamp entry.exp_time) (λ entry. dec_le (2 * now) (expiry_of piece.segment.timestamp entry.exp_time)) (entries_of piece)) pieces

-- whether pieces are a path, if no AS is twice in their walk
pub dec_path : (pieces : List PieceValue) (src dst now : ℕ) → NamesOnce (walk_of pieces)
    → Dec (MakesPath pieces src dst now)
dec_path pieces src dst now once =
    let shape =
    dec_and (dec_lt 0 (length pieces)) (dec_and (dec_all HasRange dec_range pieces) (dec_and (dec_adjoins (map kind_of pieces)) (dec_cuts pieces))) in
    let ends = dec_and (dec_meet pieces) (dec_and (dec_begin src pieces) (dec_end dst pieces)) in
    elim (dec_and shape (dec_and ends (dec_and (dec_le (total_hops pieces) 64) (dec_live now pieces)))) [
      | yes all ↦ yes (record {
        some = all.0.0;
        ranges = all.0.1.0;
        kinds = all.0.1.1.0;
        cuts = all.0.1.1.1;
        meet = all.1.0.0;
        source = all.1.0.1.0;
        destination = all.1.0.1.1;
        few = all.1.1.0;
        once = once;
        live = all.1.1.1;
      })
      | no never ↦ no
          (λ is. never ((is.some, (is.ranges, (is.kinds, is.cuts))), ((is.meet, (is.source, is.destination)), (is.few, is.live))))
    ]
