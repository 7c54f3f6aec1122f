-- Each walk of a path that may be sent has a best path.
use Rattle.std.proofs.Common.{◌≡◌, ℕ, zero, suc, ◌<◌, ◌≤◌, List, [], ◌∷◌, ◌++◌, length, get_or, min, All, Contains, refl, sym, ap, subst, ◌∙◌, inl, inr, arith}
use Rattle.std.specs.Prelude.{◌⊎◌}
use Rattle.std.specs.Ordering.{ordering_reverse}
use Rattle.std.specs.declared.cmp.Ordering.{Ordering}
use Rattle.std.specs.declared.cmp.Ordering.TheVariants.{Less, Equal, Greater}
use Rattle.std.proofs.lemmas.Bool.{cases_lt}
use Rattle.std.proofs.lemmas.List.Elements.{All-push}
use Rattle.hop_mac.specs.Lifetime.{expiry_of}
use Rattle.path_segment.specs.declared.entry.Entry.{Entry}
use Rattle.path_segment.specs.Chain.{IsLeastExpiry}
use Rattle.path_verifier.specs.Piece.{PieceValue, HasRange, entries_of}
use Rattle.path_verifier.specs.Walk.{walk_of}
use Rattle.path_verifier.specs.Header.{header_of}
use Rattle.path_verifier.specs.Accepted.{NamesOnce, IsExpiry}
use Rattle.path_verifier.proofs.Entries.{length-entries_of}
use Rattle.path_verifier.proofs.Expiry.{expiry_of_one, expiry_of_more}
use Rattle.path_verifier.proofs.Breaches.{accepts, hops_kept, path_kept, word_kept}
use Rattle.policy_expr.specs.Policy.{AllowsHops, HasWord}
use Rattle.combinator.specs.Candidate.{Question, IsOf, PathValue, IsCandidate, path_with}
use Rattle.combinator.specs.Order.{bytes_cmp, HaveOneWalk}
use Rattle.combinator.specs.Answer.{IsBest}
use Rattle.combinator.specs.inner.Search.{IsNoWorse}
use Rattle.combinator.proofs.Lasting.{later_wins, no_more_bytes, no_worse_on, no_worse_itself}
use Rattle.combinator.proofs.Decided.{dec_walk, dec_path}
use Rattle.combinator.proofs.Ranks.{bytes_total}

-- ---- of two paths one is no worse

lower_cons : (timestamp least : ℕ) (entry : Entry) (entries : List Entry) → least ≤ expiry_of timestamp entry.exp_time
    → All (λ (e : Entry). least ≤ expiry_of timestamp e.exp_time) entries
    → All (λ (e : Entry). least ≤ expiry_of timestamp e.exp_time) (entry ∷ entries)
lower_cons timestamp least entry entries here later zero d within = here
lower_cons timestamp least entry entries here later (suc k) d within = later k d (omega (arith, within))

lower_still : (timestamp least more : ℕ) (entries : List Entry) → least ≤ more
    → All (λ (e : Entry). more ≤ expiry_of timestamp e.exp_time) entries
    → All (λ (e : Entry). least ≤ expiry_of timestamp e.exp_time) entries
lower_still timestamp least more entries upto lower k d within =
    (let here = lower k d within in omega (arith, here, upto))

least_of : (timestamp : ℕ) (entries : List Entry) → 0 < length entries
    → (least : ℕ) × IsLeastExpiry timestamp entries least
least_of timestamp [] some = absurd (omega (arith, some))
least_of timestamp (entry ∷ []) some = (
  expiry_of timestamp entry.exp_time,
  record {
    reached = (0, entry, omega arith, refl, refl);
    lower = lower_cons timestamp (expiry_of timestamp entry.exp_time) entry [] (omega arith)
        (λ k d within. absurd (omega (arith, within)));
  },
)
least_of timestamp (entry ∷ next ∷ later) some =
    let more = least_of timestamp (next ∷ later) (omega arith) in
    elim (cases_lt (expiry_of timestamp entry.exp_time) more.0) [
      | inl less ↦ (
        expiry_of timestamp entry.exp_time,
        record {
          reached = (0, entry, omega arith, refl, refl);
          lower = lower_cons timestamp (expiry_of timestamp entry.exp_time) entry (next ∷ later) (omega arith)
              (lower_still timestamp (expiry_of timestamp entry.exp_time) more.0 (next ∷ later) (omega (arith, less)) more.1.lower);
        },
      )
      | inr upto ↦ (
        more.0,
        record {
          reached = (suc more.1.reached.0, more.1.reached.1, (let within = more.1.reached.2 in omega (arith, within)), more.1.reached.3, more.1.reached.4);
          lower = lower_cons timestamp more.0 entry (next ∷ later) upto more.1.lower;
        },
      )
    ]

some_entries : (piece : PieceValue) → HasRange piece → 0 < length (entries_of piece)
some_entries piece range =
    let count = length-entries_of piece range in
    let order = range.order in
    omega (arith, count, order)

-- the moment at which pieces expire
pub expiry_there : (pieces : List PieceValue) → 0 < length pieces → All HasRange pieces
    → (least : ℕ) × IsExpiry pieces least
expiry_there [] some ranges = absurd (omega (arith, some))
expiry_there (piece ∷ []) some ranges =
    let one = least_of piece.segment.timestamp (entries_of piece) (some_entries piece (ranges 0 piece (omega arith))) in
    (one.0, expiry_of_one piece one.0 one.1)
expiry_there (piece ∷ next ∷ later) some ranges =
    let one = least_of piece.segment.timestamp (entries_of piece) (some_entries piece (ranges 0 piece (omega arith))) in
    let more = expiry_there (next ∷ later) (omega arith) (λ k d within. ranges (suc k) d (omega (arith, within))) in
    (min one.0 more.0, expiry_of_more piece (next ∷ later) one.0 more.0 one.1 more.1)

by_bytes : (c : Ordering) (one other : PathValue) (e f : ℕ) → IsExpiry one.pieces e → IsExpiry other.pieces f
    → e ≡ f → bytes_cmp one.header other.header ≡ c
    → IsNoWorse one other ⊎ IsNoWorse other one
by_bytes Less one other e f is also same order =
    inl (no_more_bytes one other e f is also same (λ greater. (let both = sym order ∙ greater in cc)))
by_bytes Equal one other e f is also same order =
    inl (no_more_bytes one other e f is also same (λ greater. (let both = sym order ∙ greater in cc)))
by_bytes Greater one other e f is also same order =
    inr (no_more_bytes other one f e also is (sym same) (λ greater. (let back = bytes_total.antisymm other.header one.header ∙ ap ordering_reverse order in let both = sym back ∙ greater in cc)))

either_no_worse : (one other : PathValue) (e f : ℕ) → IsExpiry one.pieces e → IsExpiry other.pieces f
    → IsNoWorse one other ⊎ IsNoWorse other one
either_no_worse one other e f is also = elim (cases_lt e f) [
  | inl less ↦ inr (later_wins other one f e also is less)
  | inr upto ↦ elim (cases_lt f e) [
    | inl more ↦ inl (later_wins one other e f is also more)
    | inr down ↦ by_bytes (bytes_cmp one.header other.header) one other e f is also (omega (arith, upto, down)) refl
  ]
]

-- ---- the best of a number of paths

-- for each path of C there is one of C that is no worse than it, and none worse than those of S
abbrev Serves : (PathValue → Type 0) → (PathValue → Type 0) → Type 0
Serves C S = (path : PathValue) → C path → (best : PathValue) × C best × IsNoWorse best path × ((other : PathValue) → S other → C other → IsNoWorse best other)

first_or_later : (piece : PieceValue) (pieces : List PieceValue) (one : PieceValue) (k : ℕ)
    → k < length (piece ∷ pieces) → get_or (piece ∷ pieces) k one ≡ one → (piece ≡ one) ⊎ Contains pieces one
first_or_later piece pieces one zero within at = inl at
first_or_later piece pieces one (suc k) within at = inr (k, omega (arith, within), at)

module _ (C : PathValue → Type 0)
    (either : (one other : PathValue) → C one → C other → IsNoWorse one other ⊎ IsNoWorse other one) where
  serves_one : (one : PathValue) → Dec (C one) → Serves C (λ other. other ≡ one)
  serves_one one (no never) path is =
      (path, is, no_worse_itself path, λ other same also. absurd (never (subst C same also)))
  serves_one one (yes here) path is = elim (either path one is here) [
    | inl fine ↦ (path, is, no_worse_itself path, λ other same also. subst (IsNoWorse path) (sym same) fine)
    | inr better ↦ (one, here, better, λ other same also. subst (IsNoWorse one) (sym same) (no_worse_itself one))
  ]

  serves_both : (S T : PathValue → Type 0) → Serves C S → Serves C T → Serves C (λ other. S other ⊎ T other)
  serves_both S T first second path is =
      let one = first path is in
      let two = second one.0 one.1 in (
        two.0,
        two.1,
        no_worse_on two.0 one.0 path two.2 one.2,
        λ other of also. elim of [
          | inl s ↦ no_worse_on two.0 one.0 other two.2 (one.3 other s also)
          | inr t ↦ two.3 other t also
        ],
      )

  serves_each : (S : PieceValue → PathValue → Type 0) (pieces : List PieceValue)
      → ((piece : PieceValue) → Contains pieces piece → Serves C (S piece))
      → Serves C (λ other. (piece : PieceValue) × Contains pieces piece × S piece other)
  serves_each S [] each path is =
      (path, is, no_worse_itself path, λ other some also. absurd (let within = some.1.1 in omega (arith, within)))
  serves_each S (piece ∷ pieces) each path is =
      let one = each piece (0, omega arith, refl) path is in
      let two =
      serves_each S pieces (λ next there. each next (suc there.0, (let within = there.1 in omega (arith, within)), there.2)) one.0 one.1 in (
        two.0,
        two.1,
        no_worse_on two.0 one.0 path two.2 one.2,
        λ other some also. elim (first_or_later piece pieces some.0 some.1.0 some.1.1 some.1.2) [
          | inl same ↦ no_worse_on two.0 one.0 other two.2
              (one.3 other (subst (λ (p : PieceValue). S p other) (sym same) some.2) also)
          | inr there ↦ two.3 other (some.0, there, some.2) also
        ],
      )

-- ---- the candidates of one walk

-- a list that begins with `front` and goes on with up to `depth` of the usable pieces
abbrev pub GoesOn : List PieceValue → ℕ → List PieceValue → PathValue → Type 0
GoesOn usable_pieces zero front path = path ≡ path_with front (header_of front)
GoesOn usable_pieces (suc depth) front path = (path ≡ path_with front (header_of front))
    ⊎ ((piece : PieceValue) × Contains usable_pieces piece × GoesOn usable_pieces depth (front ++ piece ∷ []) path)

module _ (question : Question) (path : PathValue) (is : IsCandidate question path) where
  -- a candidate of the same walk
  abbrev pub IsRival : PathValue → Type 0
  IsRival other = IsCandidate question other × HaveOneWalk other path

  pub either_rival : (one other : PathValue) → IsRival one → IsRival other → IsNoWorse one other ⊎ IsNoWorse other one
  either_rival one other first second =
      let e = expiry_there one.pieces (path_kept first.0.accepted).some (path_kept first.0.accepted).ranges in
      let f = expiry_there other.pieces (path_kept second.0.accepted).some (path_kept second.0.accepted).ranges in
      either_no_worse one other e.0 f.0 e.1 f.1

  dec_rival : (pieces : List PieceValue) → All (IsOf question.set) pieces
      → Dec (IsRival (path_with pieces (header_of pieces)))
  dec_rival pieces own = elim (dec_walk (walk_of pieces) (walk_of path.pieces)) [
    | no never ↦ no (λ rival. never rival.1)
    | yes same ↦ elim (dec_path pieces question.src question.dst question.set.moment (subst NamesOnce (sym same) (path_kept is.accepted).once)) [
      | no never ↦ no (λ rival. never (path_kept rival.0.accepted))
      | yes makes ↦ yes (
        record {
          own = own;
          accepted = accepts _ makes refl (subst (AllowsHops question.rules.acl) (sym same) (hops_kept is.accepted))
              (subst (HasWord question.rules.sequence) (sym same) (word_kept is.accepted));
        },
        same,
      )
    ]
  ]

  module _ (usable_pieces : List PieceValue) (own : All (IsOf question.set) usable_pieces) where
    serves : (depth : ℕ) (front : List PieceValue) → All (IsOf question.set) front
        → Serves IsRival (GoesOn usable_pieces depth front)
    serves zero front all = serves_one IsRival either_rival (path_with front (header_of front)) (dec_rival front all)
    serves (suc depth) front all =
        serves_both IsRival either_rival (λ other. other ≡ path_with front (header_of front))
        (λ other. (piece : PieceValue) × Contains usable_pieces piece × GoesOn usable_pieces depth (front ++ piece ∷ []) other)
        (serves_one IsRival either_rival (path_with front (header_of front)) (dec_rival front all))
        (serves_each IsRival either_rival (λ piece. GoesOn usable_pieces depth (front ++ piece ∷ [])) usable_pieces
        (λ piece there. serves depth (front ++ piece ∷ []) (All-push (IsOf question.set) front piece all (subst (IsOf question.set) there.2 (own there.0 piece there.1)))))

    -- where each candidate is made of usable pieces, there is a best one of this walk
    pub best_there : ((other : PathValue) → IsCandidate question other → GoesOn usable_pieces 3 [] other)
        → (best : PathValue) × IsBest question best × HaveOneWalk best path
    best_there all =
        let found = serves 3 [] (λ k d within. absurd (omega (arith, within))) path (is, refl) in (
          found.0,
          record {
            candidate = found.1.0;
            latest = λ other also same. (found.3 other (all other also) (also, same ∙ found.1.1)).latest;
            least = λ other also same. (found.3 other (all other also) (also, same ∙ found.1.1)).least;
          },
          found.1.1,
        )
