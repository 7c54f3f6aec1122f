-- The small network keeps the rules.
use Rattle.std.proofs.Common.{◌≡◌, ℕ, List, [], ◌∷◌, true, Ok, refl, arith}
use Rattle.std.specs.Prelude.{AllPairs, ◌≢◌}
use Rattle.std.specs.List.{AllByRecursion}
use Rattle.std.proofs.lemmas.List.Elements.{All-nil, All-cons, All-from_recursion}
use Rattle.std.proofs.lemmas.List.Kept.{AllPairs-cons}
use Rattle.scion_topology.specs.Topology.{IsNetwork, far_end_in, owner_in}
use Rattle.scion_topology.specs.Rules.{IsAs, IsLink, AreTwo, ends_of}
use Rattle.scion_topology.specs.Keys.{AreKeys, IsKey}
use Rattle.beaconing.specs.Calls.{originated_beacon, extended_beacon, terminated_beacon, come_to, is_new}
use Rattle.path_segment.specs.Tests.{is_live}
use Rattle.path_server.specs.Store.{answer_to, with_registered}
use Rattle.path_verifier.specs.Walk.{walk_of, hops_of, hop_of}
use Rattle.forwarding.specs.Journey.{first_out, turns_for}
use Rattle.row_history.specs.Row.{top, middle, leaf, end_of, child_link, row}
use Rattle.row_history.proofs.Path.{begun, passed, segment, pieces}

as_keys : (b c : ℕ) → AreKeys ((b ∷ c ∷ []) ∷ [])
as_keys b c = record {
  some = omega arith;
  few = omega arith;
  each = All-cons IsKey (b ∷ c ∷ []) [] (omega arith, omega arith) (All-nil IsKey);
}

top_is : IsAs top
top_is = record {
  plain = ((λ e. omega (arith, e)), (λ e. omega (arith, e)));
  some_router = omega arith;
  few_routers = omega arith;
  keys = as_keys 97 48;
}

middle_is : IsAs middle
middle_is = record {
  plain = ((λ e. omega (arith, e)), (λ e. omega (arith, e)));
  some_router = omega arith;
  few_routers = omega arith;
  keys = as_keys 97 49;
}

leaf_is : IsAs leaf
leaf_is = record {
  plain = ((λ e. omega (arith, e)), (λ e. omega (arith, e)));
  some_router = omega arith;
  few_routers = omega arith;
  keys = as_keys 97 50;
}

upper_is : IsLink row.ases (child_link (end_of top 1) (end_of middle 1))
upper_is = record {
  one = top;
  other = middle;
  one_listed = (0, omega arith, refl);
  other_listed = (1, omega arith, refl);
  a = record { of = refl; numbered = λ e. omega (arith, e); router = omega arith };
  b = record { of = refl; numbered = λ e. omega (arith, e); router = omega arith };
  apart = λ e. omega (arith, e);
  joins = (refl, refl);
}

lower_is : IsLink row.ases (child_link (end_of middle 2) (end_of leaf 1))
lower_is = record {
  one = middle;
  other = leaf;
  one_listed = (1, omega arith, refl);
  other_listed = (2, omega arith, refl);
  a = record { of = refl; numbered = λ e. omega (arith, e); router = omega arith };
  b = record { of = refl; numbered = λ e. omega (arith, e); router = omega arith };
  apart = λ e. omega (arith, e);
  joins = (refl, refl);
}

-- pairs, by recursion
abbrev PairsOf : {X : Type 0} → (X → X → Type 0) → List X → Type 0
PairsOf R [] = Unit {0}
PairsOf R (x ∷ xs) = AllByRecursion (R x) xs × PairsOf R xs

all_pairs : {X : Type 0} (R : X → X → Type 0) (xs : List X) → PairsOf R xs → AllPairs R xs
all_pairs R [] pairs = λ i j d order within. absurd (omega (arith, within))
all_pairs R (x ∷ xs) pairs = AllPairs-cons R x xs (All-from_recursion (R x) xs pairs.0)
    (all_pairs R xs pairs.1)

pub network_is : IsNetwork row
network_is = record {
  some_as = omega arith;
  few_ases = omega arith;
  few_links = omega arith;
  ases = All-from_recursion IsAs row.ases (top_is, (middle_is, (leaf_is, tt)));
  once = all_pairs (λ one other. one.ia ≢ other.ia) row.ases (
    ((λ e. omega (arith, e)), ((λ e. omega (arith, e)), tt)),
    (((λ e. omega (arith, e)), tt), (tt, tt)),
  );
  links = All-from_recursion (IsLink row.ases) row.links (upper_is, (lower_is, tt));
  interfaces = all_pairs AreTwo (ends_of row.links) (
    (
      (λ e. (let f = e.0 in omega (arith, f))),
      ((λ e. (let f = e.0 in omega (arith, f))), ((λ e. (let f = e.0 in omega (arith, f))), tt)),
    ),
    (
      ((λ e. (let f = e.1 in omega (arith, f))), ((λ e. (let f = e.0 in omega (arith, f))), tt)),
      (((λ e. (let f = e.0 in omega (arith, f))), tt), (tt, tt)),
    ),
  );
}

pub begins : originated_beacon row top.ia 1 1000 4660 ≡ Ok begun
unfolding originated_beacon
begins = refl

pub goes_on : extended_beacon row begun middle.ia 2 ≡ Ok passed
unfolding extended_beacon come_to is_new far_end_in
goes_on = refl

pub ends : terminated_beacon row passed leaf.ia ≡ Ok segment
unfolding terminated_beacon come_to is_new far_end_in
ends = refl

pub answers : answer_to [] segment 1000 ≡ Ok true
unfolding answer_to is_live
answers = refl

pub registers : with_registered [] segment 1000 ≡ segment ∷ []
unfolding with_registered answer_to is_live
registers = refl

pub owner : owner_in row leaf.ia (first_out (walk_of pieces)) ≡ Ok 0
unfolding owner_in walk_of hops_of hop_of
owner = refl

pub total : turns_for row (walk_of pieces) ≡ 3
unfolding owner_in walk_of hops_of hop_of
total = refl
