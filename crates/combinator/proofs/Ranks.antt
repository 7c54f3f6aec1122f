-- The order of paths is a total one, and tells apart what they show.
use Rattle.std.proofs.Common.{◌≡◌, ℕ, List, [], ◌∷◌, ◌++◌, length, refl, sym, ap, subst, ◌∙◌}
use Rattle.std.specs.Cmp.{IsTotalOrder}
use Rattle.std.specs.Ordering.{nat_cmp, ordering_then}
use Rattle.std.specs.declared.cmp.Ordering.{Ordering}
use Rattle.std.specs.declared.cmp.Ordering.TheVariants.{Less, Equal, Greater}
use Rattle.std.proofs.lemmas.Cmp.{nat_cmp_total, nat_list_cmp_total, lists_total, on_total, then_total, tied_itself}
use Rattle.std.proofs.lemmas.Map.Lookups.{exact_unsigned, exact_bytes}
use Rattle.std.proofs.lemmas.List.{append-nil}
use Rattle.path_header.specs.Value.{HeaderValue}
use Rattle.path_header.specs.Spelling.{SpellsHeader, spelling}
use Rattle.path_header.proofs.WholeHeader.{spelled_once}
use Rattle.policy_expr.specs.declared.hop.WalkHop.{WalkHop}
use Rattle.combinator.specs.Candidate.{PathValue}
use Rattle.combinator.specs.Order.{header_and_walk, hop_cmp, walk_cmp, bytes_cmp, shown_cmp, path_cmp}

pub hop_total : IsTotalOrder hop_cmp
hop_total =
    then_total (on_total (λ (hop : WalkHop). hop.ia) nat_cmp_total)
    (then_total (on_total (λ (hop : WalkHop). hop.ingress) nat_cmp_total) (on_total (λ (hop : WalkHop). hop.egress) nat_cmp_total))

pub walk_total : IsTotalOrder walk_cmp
walk_total = lists_total hop_total

pub bytes_total : IsTotalOrder bytes_cmp
unfolding bytes_cmp
bytes_total = on_total (λ (header : HeaderValue). spelling header) nat_list_cmp_total

pub shown_total : IsTotalOrder shown_cmp
unfolding shown_cmp
shown_total =
    then_total (on_total (λ (s : HeaderValue × List WalkHop). length s.0.hops) nat_cmp_total)
    (then_total (on_total (λ (s : HeaderValue × List WalkHop). s.0) bytes_total) (on_total (λ (s : HeaderValue × List WalkHop). s.1) walk_total))

pub path_total : IsTotalOrder path_cmp
path_total = on_total header_and_walk shown_total

-- ---- ties

pub then_equal : (one other : Ordering) → ordering_then one other ≡ Equal → (one ≡ Equal) × (other ≡ Equal)
then_equal Less other e = absurd cc
then_equal Equal other e = (refl, e)
then_equal Greater other e = absurd cc

abbrev hop_at : ℕ → ℕ → ℕ → WalkHop
hop_at ia ingress egress = record { ia = ia; ingress = ingress; egress = egress }

same_hop : (one other : WalkHop) → hop_cmp one other ≡ Equal → one ≡ other
same_hop one other e =
    let parts =
    then_equal (nat_cmp one.ia other.ia) (ordering_then (nat_cmp one.ingress other.ingress) (nat_cmp one.egress other.egress)) e in
    let ways = then_equal (nat_cmp one.ingress other.ingress) (nat_cmp one.egress other.egress) parts.1 in
    let ia : one.ia ≡ other.ia = exact_unsigned one.ia other.ia parts.0 in
    let ingress : one.ingress ≡ other.ingress = exact_unsigned one.ingress other.ingress ways.0 in
    let egress : one.egress ≡ other.egress = exact_unsigned one.egress other.egress ways.1 in
    ap (λ n. hop_at n one.ingress one.egress) ia ∙ ap (λ n. hop_at other.ia n one.egress) ingress ∙ ap
    (hop_at other.ia other.ingress) egress

pub same_walk : (one other : List WalkHop) → walk_cmp one other ≡ Equal → one ≡ other
same_walk [] [] e = refl
same_walk [] (hop ∷ other) e = absurd cc
same_walk (hop ∷ one) [] e = absurd cc
same_walk (hop ∷ one) (next ∷ other) e =
    let parts = then_equal (hop_cmp hop next) (walk_cmp one other) e in
    let first = same_hop hop next parts.0 in
    let later = same_walk one other parts.1 in
    cc

-- headers of the grammar with the same bytes are one
pub walk_itself : (one other : List WalkHop) → one ≡ other → walk_cmp one other ≡ Equal
walk_itself one other same = ap (walk_cmp one) (sym same) ∙ tied_itself walk_total one

pub same_header : (one other : HeaderValue) → SpellsHeader (spelling one) one
    → SpellsHeader (spelling other) other → bytes_cmp one other ≡ Equal → one ≡ other
unfolding bytes_cmp
same_header one other first second e =
    let bytes : spelling one ≡ spelling other = exact_bytes (spelling one) (spelling other) e in
    let longer : spelling other ≡ spelling one ++ [] = sym bytes ∙ sym (append-nil (spelling one)) in
    let also : SpellsHeader (spelling one ++ []) other =
    subst (λ (text : List ℕ). SpellsHeader text other) longer second in
    (spelled_once one other (spelling one) [] first also).0

-- paths in the grammar that stand at one place of the order show the same
pub same_shown : (one other : PathValue) → SpellsHeader (spelling one.header) one.header
    → SpellsHeader (spelling other.header) other.header → path_cmp one other ≡ Equal
    → header_and_walk one ≡ header_and_walk other
unfolding shown_cmp
same_shown one other first second e =
    let parts =
    then_equal (nat_cmp (length one.header.hops) (length other.header.hops)) (ordering_then (bytes_cmp one.header other.header) (walk_cmp (header_and_walk one).1 (header_and_walk other).1)) e in
    let more =
    then_equal (bytes_cmp one.header other.header) (walk_cmp (header_and_walk one).1 (header_and_walk other).1) parts.1 in
    let header = same_header one.header other.header first second more.0 in
    let walk = same_walk (header_and_walk one).1 (header_and_walk other).1 more.1 in
    let pair : HeaderValue → List WalkHop → HeaderValue × List WalkHop = λ h w. (h, w) in
    ap (λ (h : HeaderValue). pair h (header_and_walk one).1) header ∙ ap (pair other.header) walk

-- and paths that show the same stand there
pub tied_shown : (one other : PathValue) → header_and_walk one ≡ header_and_walk other → path_cmp one other ≡ Equal
tied_shown one other same =
    subst (λ (s : HeaderValue × List WalkHop). shown_cmp (header_and_walk one) s ≡ Equal) same
    (tied_itself shown_total (header_and_walk one))
