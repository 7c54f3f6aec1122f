-- Each hop is decided by one entry of a list whose last entry is bare.
use Rattle.std.proofs.Common.{◌≡◌, ℕ, ◌<◌, ◌≤◌, true, false, List, [], ◌∷◌, ◌++◌, length, Option, Some, None, is_none, slice_get, inl, inr, refl, sym, ◌∙◌, ap, subst, arith}
use Rattle.std.proofs.lemmas.Option.{slice_get_within}
use Rattle.std.proofs.lemmas.Bool.{cases_order}
use Rattle.policy_expr.specs.declared.hop.HopPred.{HopPred}
use Rattle.policy_expr.specs.declared.hop.WalkHop.{WalkHop}
use Rattle.policy_expr.specs.declared.acl.AclEntry.{AclEntry}
use Rattle.policy_expr.specs.declared.acl.Denied.{Denied}
use Rattle.policy_expr.specs.Acl.{MatchesBy, Decides, Allowed, HasSignAt, AllowsWalk, IsDenial, is_bare, IsAcl}

-- a bare entry stands somewhere
get_last : (front : List AclEntry) (last : AclEntry) → slice_get (front ++ last ∷ []) (length front) ≡ Some last
get_last [] last = refl
get_last (x ∷ front) last = get_last front last

bare_there : (entries : List AclEntry) → IsAcl entries → (k : ℕ) × (entry : AclEntry) × (slice_get entries k ≡ Some entry) × (is_bare entry ≡ true)
bare_there entries acl =
    (length acl.front, acl.last, ap (λ (xs : List AclEntry). slice_get xs (length acl.front)) acl.parts ∙ get_last acl.front acl.last, ap is_none acl.bare)

matches_when_bare : (pred : Option HopPred) (hop : WalkHop) → is_none pred ≡ true → MatchesBy pred hop
matches_when_bare None hop bare = tt
matches_when_bare (Some p) hop bare = absurd (let f : false ≡ true = bare in cc)

-- so not every entry can fail to match
pub one_decides : (entries : List AclEntry) (hop : WalkHop) (place : ℕ) → IsAcl entries → length entries ≤ place
    → ((earlier : ℕ) (other : AclEntry) → earlier < place → slice_get entries earlier ≡ Some other → MatchesBy other.pred hop → ⊥) → ⊥
one_decides entries hop place acl past none =
    let b = bare_there entries acl in
    let within = slice_get_within entries b.0 b.1 b.2 in
    none b.0 b.1 (omega (arith, within)) b.2 (matches_when_bare b.1.pred hop b.3)

-- two places that decide a hop are one
one_place : (entries : List AclEntry) (hop : WalkHop) (j k : ℕ) (one other : AclEntry) → Decides entries hop j one → Decides entries hop k other → j ≡ k
one_place entries hop j k one other a b = elim (cases_order j k) [
  | inl same ↦ same
  | inr apart ↦ elim apart [
    | inl less ↦ absurd (b.first j one less a.there a.matches)
    | inr greater ↦ absurd (a.first k other greater b.there b.matches)
  ]
]

-- a hop that is denied is not allowed
not_both : (entries : List AclEntry) (hop : WalkHop) (place : ℕ) → HasSignAt entries false hop place → Allowed entries hop → ⊥
not_both entries hop place denied allowed =
    let same = one_place entries hop allowed.0 place allowed.1.0 denied.0 allowed.1.1 denied.1 in
    let e : Some allowed.1.0 ≡ Some denied.0 = sym allowed.1.1.there ∙ ap (slice_get entries) same ∙ denied.1.there in
    let e' : allowed.1.0 ≡ denied.0 = cc in
    let f : true ≡ false = sym allowed.1.2 ∙ ap (λ (x : AclEntry). x.allows) e' ∙ denied.2 in
    absurd (let g : true ≡ false = f in cc)

-- a walk with a denial is not allowed
pub denial_denies : (entries : List AclEntry) (walk : List WalkHop) (denied : Denied) → IsDenial entries walk denied → AllowsWalk entries walk → ⊥
denial_denies entries walk denied d allows = not_both entries d.hop denied.entry d.by (allows denied.hop d.hop d.there)

-- a walk has one denial at most
pub one_denial : (entries : List AclEntry) (walk : List WalkHop) (one other : Denied) → IsDenial entries walk one → IsDenial entries walk other → one ≡ other
one_denial entries walk one other a b = elim (cases_order one.hop other.hop) [
  | inl same ↦
      (let e : Some a.hop ≡ Some b.hop = sym a.there ∙ ap (slice_get walk) same ∙ b.there in
      let hop : a.hop ≡ b.hop = cc in
      let entry = one_place entries b.hop one.entry other.entry a.by.0 b.by.0 (subst (λ (h : WalkHop). Decides entries h one.entry a.by.0) hop a.by.1) b.by.1 in
      ap (λ (i : ℕ). record { hop = i; entry = one.entry }) same ∙ ap (λ (i : ℕ). record { hop = other.hop; entry = i }) entry)
  | inr apart ↦ elim apart [
    | inl less ↦ absurd (not_both entries a.hop one.entry a.by (b.before one.hop a.hop less a.there))
    | inr greater ↦ absurd (not_both entries b.hop other.entry b.by (a.before other.hop b.hop greater b.there))
  ]
]
