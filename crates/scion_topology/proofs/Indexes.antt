-- The index of an AS: where it is, and what is found in it.
use Rattle.std.proofs.Common.{◌≡◌, ℕ, ◌+◌, ◌<◌, ◌≤◌, eqb, List, [], ◌∷◌, length, get_or, Option, Some, None, Result, Ok, Err, refl, sym, ap, ◌∙◌, arith, inl, inr, option_map}
use Rattle.std.specs.Prelude.{slice_get, is_some}
use Rattle.std.specs.List.{position_or_len}
use Rattle.std.proofs.lemmas.Bool.{cases_Bool}
use Rattle.std.proofs.lemmas.List.Folds.{find_at}
use Rattle.std.proofs.lemmas.Option.{slice_get_cases, get_or_from_slice_get}
use Rattle.scion_topology.specs.declared.fault.TopologyFault.{TopologyFault}
use Rattle.scion_topology.specs.declared.fault.TopologyFault.TheVariants as faults
use Rattle.scion_topology.specs.declared.network.AsEntry.{AsEntry}
use Rattle.scion_topology.specs.declared.network.Link.{Link}
use Rattle.scion_topology.specs.Network.{Network, as_named}
use Rattle.scion_topology.specs.Causes.{is_listed}
use Rattle.scion_topology.specs.Index.{IndexValue, index_at, index_from}
use Rattle.scion_topology.specs.inner.Index.{index_in}

-- ---- the index of an AS

abbrev place_of : List AsEntry → ℕ → ℕ
place_of ases ia = position_or_len (λ one. eqb one.ia ia) ases

index_from-named : (base : ℕ) (ases : List AsEntry) (links : List Link) (ia : ℕ) → index_from base ases links ia ≡ option_map (λ _. index_at (base + place_of ases ia) ia links) (as_named ases ia)
index_from-named base [] links ia = refl
index_from-named base (one ∷ rest) links ia = elim (cases_Bool (eqb one.ia ia)) [
  | inl here ↦ (let at : base + 0 ≡ base = omega arith in rw (here, at) refl)
  | inr other ↦ (let at : base + (1 + place_of rest ia) ≡ base + 1 + place_of rest ia = omega arith in rw (other, at) (index_from-named (base + 1) rest links ia))
]

none_of : {A B : Type 0} (o : Option A) (s : B) → option_map (λ _. s) o ≡ None → o ≡ None
none_of None s e = refl
none_of (Some x) s e = absurd cc

some_of : {A B : Type 0} (o : Option A) (s t : B) → option_map (λ _. s) o ≡ Some t → (x : A) × (o ≡ Some x) × (s ≡ t)
some_of None s t e = absurd cc
some_of (Some x) s t e = (x, refl, cc)

pub slice_get-bound : {A : Type 0} (xs : List A) (i : ℕ) (x : A) → slice_get xs i ≡ Some x → i < length xs
slice_get-bound xs i x found = elim (slice_get_cases xs i).1 [
  | inl inside ↦ inside.1
  | inr past ↦ absurd (let none : slice_get xs i ≡ None = past.1 in cc)
]

pub slice_get-past : {A : Type 0} (xs : List A) (i : ℕ) → length xs ≤ i → slice_get xs i ≡ None
slice_get-past xs i past = elim (slice_get_cases xs i).1 [
  | inl inside ↦ absurd (let below : i < length xs = inside.1 in omega arith)
  | inr none ↦ none.1
]

-- an AS that has no index is not listed
pub unlisted : (n : Network) (ia : ℕ) → index_from 0 n.ases n.links ia ≡ None → as_named n.ases ia ≡ None
unlisted n ia none = none_of (as_named n.ases ia) (index_at (0 + place_of n.ases ia) ia n.links) (sym (index_from-named 0 n.ases n.links ia) ∙ none)

pub index_in-none : (n : Network) (ia : ℕ) → index_from 0 n.ases n.links ia ≡ None → index_in n ia ≡ Err faults.UnknownAs
index_in-none n ia none =
    let unknown = unlisted n ia none in
    rw unknown refl

-- the index that was found is of this AS, which stands at its position
pub record Finds (n : Network) (ia : ℕ) (index : IndexValue) : Type 0 where
  pub within : index.position < length n.ases
  pub stands : slice_get n.ases index.position ≡ as_named n.ases ia
  pub gives : (one : AsEntry) → one ≡ get_or n.ases index.position one → index_in n ia ≡ Ok (one, index)

abbrev done : AsEntry → IndexValue → Result (AsEntry × IndexValue) TopologyFault
done one index = Ok (one, index)

pair_of : (a b : AsEntry) (s t : IndexValue) → a ≡ b → s ≡ t → done a s ≡ done b t
pair_of a b s t e d = ap (λ x. done x s) e ∙ ap (done b) d

pub index_in-some : (n : Network) (ia : ℕ) (index : IndexValue) → index_from 0 n.ases n.links ia ≡ Some index → Finds n ia index
index_in-some n ia index some =
    let place = place_of n.ases ia in
    let named = some_of (as_named n.ases ia) (index_at (0 + place) ia n.links) index (sym (index_from-named 0 n.ases n.links ia) ∙ some) in
    let zero_place : 0 + place ≡ place = omega arith in
    let is_index : index_at place ia n.links ≡ index = rw zero_place at named.2 in
    let at : index.position ≡ place = ap (λ (s : IndexValue). s.position) (sym is_index) in
    let got : slice_get n.ases place ≡ Some named.0 = sym (find_at (λ one. eqb one.ia ia) n.ases) ∙ named.1 in
    record {
      within = rw at (slice_get-bound n.ases place named.0 got);
      stands = rw at (got ∙ sym named.1);
      gives = λ one is. (
          let same : named.0 ≡ one = sym (get_or_from_slice_get n.ases place named.0 one got) ∙ ap (λ i. get_or n.ases i one) (sym at) ∙ sym is in
          rw named.1 (pair_of named.0 one (index_at place ia n.links) index same is_index)
          );
    }

-- an AS is listed where there is one of its address
pub listed_is : (ases : List AsEntry) (ia : ℕ) → is_some (as_named ases ia) ≡ is_listed ases ia
listed_is [] ia = refl
listed_is (one ∷ rest) ia = elim (cases_Bool (eqb one.ia ia)) [
  | inl here ↦ rw here refl
  | inr other ↦ rw other (listed_is rest ia)
]

pub is_some-map : {A B : Type 0} (f : A → B) (o : Option A) → is_some o ≡ is_some (option_map f o)
is_some-map f None = refl
is_some-map f (Some x) = refl
