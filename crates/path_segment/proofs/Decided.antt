-- What the tests of chains say: liveness and sameness.
use Rattle.std.proofs.Common.{◌≡◌, ℕ, Bool, true, ◌==◌, List, Decides, refl, ap, ◌∙◌}
use Rattle.std.specs.Cmp.Lexicographic.{pointwise}
use Rattle.std.specs.List.{list_all}
use Rattle.std.proofs.lemmas.Bool.{and_parts, and_from, eqb-true, eq-eqb, leb-true, le-leb}
use Rattle.std.proofs.lemmas.Bool.Decides.{Decides-by_and}
use Rattle.std.proofs.lemmas.Slice.Eq.{slice_eq-Decides}
use Rattle.hop_mac.specs.Lifetime.{IsLive, is_live_at}
use Rattle.path_segment.specs.declared.entry.Entry.{Entry}
use Rattle.path_segment.specs.declared.kind.SegKind.{SegKind}
use Rattle.path_segment.specs.declared.kind.SegKind.TheVariants.{Core, Intra}
use Rattle.path_segment.specs.Chain.{Chain, chain_of, IsChainLive}
use Rattle.path_segment.specs.Tests.{is_live, is_same, same_kind, same_entry}
use Rattle.path_segment.proofs.Same.{same_entry-Decides}

pub is_live-Decides : (now : ℕ) (segment : Chain) → Decides (is_live now segment) (IsChainLive segment now)
unfolding is_live
is_live-Decides now segment =
    let test : Entry → Bool = λ entry. is_live_at segment.timestamp entry.exp_time now in
    Decides-by_and test (λ entry. IsLive segment.timestamp entry.exp_time now) (list_all test)
    (λ entry. (leb-true _ _, le-leb _ _)) refl (λ _ _. refl) segment.entries

pub same_kind-Decides : (a b : SegKind) → Decides (same_kind a b) (a ≡ b)
same_kind-Decides Core Core = (λ _. refl, λ _. refl)
same_kind-Decides Core Intra = (λ e. cc, λ e. cc)
same_kind-Decides Intra Core = (λ e. cc, λ e. cc)
same_kind-Decides Intra Intra = (λ _. refl, λ _. refl)

same_entries-Decides : (a b : List Entry) → Decides (pointwise same_entry a b) (a ≡ b)
same_entries-Decides a b = slice_eq-Decides {A = Entry} {E = same_entry} same_entry-Decides a b _ refl

chain_is : (a b : Chain) → a.kind ≡ b.kind → a.timestamp ≡ b.timestamp → a.beta0 ≡ b.beta0
    → a.entries ≡ b.entries → a ≡ b
chain_is a b kind timestamp beta0 entries =
    ap (λ x. chain_of x a.timestamp a.beta0 a.entries) kind ∙ ap (λ x. chain_of b.kind x a.beta0 a.entries) timestamp
    ∙ ap (λ x. chain_of b.kind b.timestamp x a.entries) beta0 ∙ ap (chain_of b.kind b.timestamp b.beta0) entries

equal : (a b : Chain) → is_same a b ≡ true → a ≡ b
unfolding is_same
equal a b e =
    let p1 = and_parts (same_kind a.kind b.kind) _ e in
    let p2 = and_parts (a.timestamp == b.timestamp) _ p1.1 in
    let p3 = and_parts (a.beta0 == b.beta0) (pointwise same_entry a.entries b.entries) p2.1 in
    chain_is a b ((same_kind-Decides a.kind b.kind).0 p1.0) (eqb-true _ _ p2.0) (eqb-true _ _ p3.0)
    ((same_entries-Decides a.entries b.entries).0 p3.1)

itself : (a : Chain) → is_same a a ≡ true
unfolding is_same
itself a =
    and_from _ _ ((same_kind-Decides a.kind a.kind).1 refl) (and_from _ _ (eq-eqb a.timestamp a.timestamp refl)
    (and_from _ _ (eq-eqb a.beta0 a.beta0 refl) ((same_entries-Decides a.entries a.entries).1 refl)))

pub is_same-Decides : (a b : Chain) → Decides (is_same a b) (a ≡ b)
is_same-Decides a b = (equal a b, λ e. rw e (itself b))
