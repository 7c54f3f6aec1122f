-- Comparing two paths of one walk by the moment at which they expire, and by the bytes of their
-- headers.
use Rattle.std.proofs.Common.{◌≡◌, ℕ, ◌<◌, ◌≤◌, false, List, All, refl, sym, ap, ◌∙◌, arith}
use Rattle.std.specs.Prelude.{◌≢◌}
use Rattle.std.specs.declared.cmp.Ordering.{Ordering}
use Rattle.std.specs.declared.cmp.Ordering.TheVariants.{Less, Equal, Greater}
use Rattle.std.specs.Ordering.{ordering_reverse, is_gt}
use Rattle.hop_mac.specs.Lifetime.{expiry_of}
use Rattle.path_header.specs.Value.{HeaderValue}
use Rattle.path_verifier.specs.Piece.{PieceValue, entries_of}
use Rattle.path_verifier.specs.Accepted.{IsExpiry, LastTo}
use Rattle.std.proofs.lemmas.Cmp.{upto, tied_itself}
use Rattle.combinator.specs.Candidate.{PathValue}
use Rattle.combinator.specs.Order.{bytes_cmp, LastAsLong}
use Rattle.combinator.specs.inner.Search.{IsNoWorse}
use Rattle.combinator.proofs.Ranks.{bytes_total}

last_to : (pieces : List PieceValue) (least half : ℕ) → IsExpiry pieces least → half ≤ least → LastTo half pieces
last_to pieces least half is upto = λ j p there k d within. (let lower = is.lower j p there k d within in omega arith)

up_to : (pieces : List PieceValue) (least half : ℕ) → IsExpiry pieces least → LastTo half pieces → half ≤ least
up_to pieces least half is lasts =
    let piece = is.reached.1 in
    let entry = is.reached.4.1 in
    let hops : All (λ e. half ≤ expiry_of piece.segment.timestamp e.exp_time) (entries_of piece) =
    rw is.reached.3 at (lasts is.reached.0 piece is.reached.2) in
    let hop : half ≤ expiry_of piece.segment.timestamp entry.exp_time =
    rw is.reached.4.3 at (hops is.reached.4.0 entry is.reached.4.2) in
    rw is.reached.4.4 hop

as_long : (one other : PathValue) (e f : ℕ) → IsExpiry one.pieces e → IsExpiry other.pieces f → f ≤ e
    → LastAsLong one.pieces other.pieces
as_long one other e f is also upto = λ half lasts. last_to one.pieces e half is (let up = up_to other.pieces f half also lasts in omega arith)

pub later_wins : (one other : PathValue) (e f : ℕ) → IsExpiry one.pieces e → IsExpiry other.pieces f → f < e
    → IsNoWorse one other
later_wins one other e f is also later = record {
  latest = as_long one other e f is also (omega arith);
  least = λ as_late. absurd (
      let lasts = as_late e (last_to one.pieces e e is (omega arith)) in
      let up = up_to other.pieces f e also lasts in
      omega arith);
}

not_less : (c : Ordering) (one other : PathValue) → bytes_cmp one.header other.header ≡ c → c ≢ Greater
    → bytes_cmp other.header one.header ≢ Less
not_less Less one other e upto less =
    (let back : bytes_cmp other.header one.header ≡ Greater = bytes_total.antisymm other.header one.header ∙ ap ordering_reverse e in let both = sym less ∙ back in cc)
not_less Equal one other e upto less =
    (let back : bytes_cmp other.header one.header ≡ Equal = bytes_total.antisymm other.header one.header ∙ ap ordering_reverse e in let both = sym less ∙ back in cc)
not_less Greater one other e upto less = upto refl

-- of two paths that expire at the same time, one whose header's bytes are no greater is no worse
pub no_more_bytes : (one other : PathValue) (e f : ℕ) → IsExpiry one.pieces e → IsExpiry other.pieces f
    → e ≡ f → bytes_cmp one.header other.header ≢ Greater → IsNoWorse one other
no_more_bytes one other e f is also same upto = record {
  latest = as_long one other e f is also (omega arith);
  least = λ as_late. not_less (bytes_cmp one.header other.header) one other refl upto;
}

-- ---- a better path of the same walk

pub never_worse_later : (one other : PathValue) (e f : ℕ) → IsExpiry one.pieces e → IsExpiry other.pieces f
    → e < f → ¬ (IsNoWorse one other)
never_worse_later one other e f is also later no_worse =
    let lasts = no_worse.latest f (last_to other.pieces f f also (omega arith)) in
    let up = up_to one.pieces e f is lasts in
    omega (arith, later, up)

pub never_worse_header : (one other : PathValue) (e f : ℕ) → IsExpiry one.pieces e → IsExpiry other.pieces f
    → e ≡ f → bytes_cmp other.header one.header ≡ Less → ¬ (IsNoWorse one other)
never_worse_header one other e f is also same less no_worse =
    no_worse.least (as_long other one f e also is (omega (arith, same))) less

pub no_worse_header : (one other : PathValue) (e f : ℕ) → IsExpiry one.pieces e → IsExpiry other.pieces f
    → e ≡ f → bytes_cmp other.header one.header ≢ Less → IsNoWorse one other
no_worse_header one other e f is also same upto = record {
  latest = as_long one other e f is also (omega (arith, same));
  least = λ as_late. upto;
}

-- ---- no worse, one after another

not_greater : (c : Ordering) (one other : HeaderValue) → bytes_cmp one other ≡ c → bytes_cmp other one ≢ Less
    → is_gt (bytes_cmp one other) ≡ false
not_greater Less one other e upto = rw e refl
not_greater Equal one other e upto = rw e refl
not_greater Greater one other e upto = absurd (upto (bytes_total.antisymm other one ∙ ap ordering_reverse e))

still_not_less : (c : Ordering) (one other : HeaderValue) → bytes_cmp one other ≡ c → is_gt c ≡ false
    → bytes_cmp other one ≢ Less
still_not_less Less one other e upto less =
    (let back : bytes_cmp other one ≡ Greater = bytes_total.antisymm other one ∙ ap ordering_reverse e in let both = sym less ∙ back in cc)
still_not_less Equal one other e upto less =
    (let back : bytes_cmp other one ≡ Equal = bytes_total.antisymm other one ∙ ap ordering_reverse e in let both = sym less ∙ back in cc)
still_not_less Greater one other e upto less = absurd cc

pub no_worse_on : (one other third : PathValue) → IsNoWorse one other → IsNoWorse other third → IsNoWorse one third
no_worse_on one other third first second = record {
  latest = λ half lasts. first.latest half (second.latest half lasts);
  least = λ as_late.
      let here =
      not_greater (bytes_cmp one.header other.header) one.header other.header refl (first.least (λ half lasts. second.latest half (as_late half lasts))) in
      let there =
      not_greater (bytes_cmp other.header third.header) other.header third.header refl (second.least (λ half lasts. as_late half (first.latest half lasts))) in
      still_not_less (bytes_cmp one.header third.header) one.header third.header refl
      (upto bytes_total one.header other.header third.header here there);
}

pub no_worse_itself : (one : PathValue) → IsNoWorse one one
no_worse_itself one = record {
  latest = λ half lasts. lasts;
  least = λ _. still_not_less Equal one.header one.header (tied_itself bytes_total one.header) refl;
}
