-- What is read of a text is a sequence: its predicates are as they are read, and its parentheses
-- nest no deeper than the text's.
use Rattle.std.proofs.Common.{◌≡◌, ℕ, ◌+◌, ◌-◌, ◌^◌, ◌<◌, ◌≤◌, Bool, true, false, ◌&&◌, eqb, nat_lt, if◌then◌else◌, List, [], ◌∷◌, length, map, Option, Some, None, Result, Ok, Err, refl, ◌∙◌, subst, arith, inl, inr}
use Rattle.std.specs.List.{AllByRecursion}
use Rattle.std.proofs.lemmas.Bool.{ltb-true, ltb-false}
use Rattle.std.proofs.lemmas.Bool.Decides.{nat_tests}
use Rattle.std.proofs.lemmas.Int.Digits.{digits_value-lt}
use Rattle.std.proofs.Math.Nat.{pow-le-pow_right}
use Rattle.isd_as.specs.Address.{Spells, WritesGroup, SpellsAs}
use Rattle.policy_expr.specs.declared.fault.PolicyFault.{PolicyFault}
use Rattle.policy_expr.specs.declared.fault.PolicyFault.TheVariants as faults
use Rattle.policy_expr.specs.declared.hop.HopPred.{HopPred}
use Rattle.policy_expr.specs.declared.hop.Interfaces.{Interfaces}
use Rattle.policy_expr.specs.declared.hop.Interfaces.TheVariants.{Any, Either, Both}
use Rattle.policy_expr.specs.declared.token.Token.{Token}
use Rattle.policy_expr.specs.declared.token.Token.TheVariants as signs
use Rattle.refusal.proofs.Steps.{bind_ok, guard_ok, guard_not, ok_is}
use Rattle.policy_expr.specs.Predicate.{predicate_at, SpellsInterfaces, one, two, SpellsPredicate, isd_alone, address, with_interfaces}
use Rattle.policy_expr.proofs.Spelling.{predicate_spelled}
use Rattle.policy_expr.specs.Tokens.{is_mark, token_texts, token_of, read_token, sign_token, tokens}
use Rattle.policy_expr.specs.Language.{Tree, hop, optional, repeated, once_or_more}
use Rattle.policy_expr.specs.Reading.{Level, new_level, whole, tree_at, sequence_at, node_count}
use Rattle.policy_expr.proofs.Steps.{Reading, wants, has, with_choices, with_before, item_begun, item_followed, level_closed, took, took_at, ended, ended_at, read_on, tree_is_read, within_size}
use Rattle.policy_expr.specs.Printing.{AreInterfaces, IsPredicate}
use Rattle.policy_expr.proofs.Readable.{nested, depth, ArePredicates, IsReadable, strength}

-- ---- levels, with room for parentheses

-- the tree stands with no more parentheses than there is room for, in parentheses where it binds
-- less than that
abbrev pub HasRoom : ℕ → ℕ → Tree → Type 0
HasRoom least room t = ArePredicates t × (nested (nat_lt (strength t) least) (depth t) ≤ room)

abbrev pub AnyHasRoom : ℕ → ℕ → Option Tree → Type 0
AnyHasRoom least room None = Unit {0}
AnyHasRoom least room (Some t) = HasRoom least room t

abbrev pub LevelHasRoom : ℕ → Level → Type 0
LevelHasRoom room level = AnyHasRoom 0 room level.before × AnyHasRoom 1 room level.choices

abbrev pub LevelsHaveRoom : List Level → Type 0
LevelsHaveRoom [] = Unit {0}
LevelsHaveRoom (level ∷ outer) = LevelHasRoom (32 - length outer) level × (length outer < 32) × LevelsHaveRoom outer

pub record IsGood (r : Reading) : Type 0 where
  pub outer : LevelsHaveRoom r.open_levels
  pub level : LevelHasRoom (32 - length r.open_levels) r.level
  pub item : AnyHasRoom 2 (32 - length r.open_levels) r.item

looser : (j k room : ℕ) (t : Tree) → j ≤ k → HasRoom k room t → HasRoom j room t
looser j k room t le good = (good.0, grind (arith, nat_tests, good.1))

plain_room : (room : ℕ) (t : Tree) → HasRoom 0 room t → depth t ≤ room
plain_room room t good = grind (arith, nat_tests, good.1)

with_choices_room : (room : ℕ) (left : Option Tree) (item : Tree) → AnyHasRoom 1 room left → HasRoom 2 room item → HasRoom 1 room (with_choices left item)
with_choices_room room None item l i = looser 1 2 room item (omega arith) i
with_choices_room room (Some left) item l i = ((l.0, i.0), omega (arith, l.1, i.1))

with_before_room : (room : ℕ) (before : Option Tree) (item : Tree) → AnyHasRoom 0 room before → HasRoom 1 room item → HasRoom 0 room (with_before before item)
with_before_room room None item b i = looser 0 1 room item (omega arith) i
with_before_room room (Some before) item b i = ((b.0, i.0), (let p = plain_room room before b in omega (arith, p, i.1)))

whole_room : (room : ℕ) (level : Level) (item : Tree) → LevelHasRoom room level → HasRoom 2 room item → HasRoom 0 room (whole level item)
whole_room room level item l i = with_before_room room level.before (with_choices level.choices item) l.0 (with_choices_room room level.choices item l.1 i)

-- in parentheses there is room for one less
closed_room : (least room : ℕ) (t : Tree) → HasRoom 0 room t → HasRoom least (room + 1) t
closed_room least room t good = (good.0, grind (arith, nat_tests, good.1))

-- ---- the predicates of tokens

two_small : (m n : ℕ) → m < 2 ^ 16 → n < 2 ^ 16 → (test : Bool) → (eqb m 0 && eqb n 0) ≡ test → AreInterfaces (if test then Any else Both m n)
two_small m n fits_m fits_n true none = tt
two_small m n fits_m fits_n false some = (grind (arith, nat_tests), fits_m, fits_n)

one_small : (n : ℕ) → n < 2 ^ 16 → (test : Bool) → eqb n 0 ≡ test → AreInterfaces (if test then Any else Either n)
one_small n fits true none = tt
one_small n fits false some = (grind (arith, nat_tests), fits)

group_small : (text : List ℕ) (n : ℕ) → WritesGroup text n → n < 2 ^ 16
group_small text n group =
    let below = digits_value-lt 16 text group.written.numeral.1 in
    let most : 16 ^ length text ≤ 16 ^ 4 = pow-le-pow_right (omega arith) group.short in
    let value = group.written.value in
    omega arith

as_small : (text : List ℕ) (n : ℕ) → SpellsAs text n → n < 2 ^ 48
as_small text n spelled = elim spelled [
  | inl in_decimal ↦ (let small = in_decimal.small in omega arith)
  | inr in_groups ↦ (
      let high = group_small in_groups.first in_groups.high in_groups.high_written in
      let middle = group_small in_groups.second in_groups.middle in_groups.middle_written in
      let low = group_small in_groups.third in_groups.low in_groups.low_written in
      let of = in_groups.of in
      omega arith)
]

address_small : (text : List ℕ) (n : ℕ) → Spells text n → n < 2 ^ 64
address_small text n s =
    let isd = s.isd_spelled.small in
    let as_number = as_small s.back s.as_number s.as_spelled in
    let of = s.of in
    omega arith

interfaces_small : (text : List ℕ) (i : Interfaces) → SpellsInterfaces text i → AreInterfaces i
interfaces_small _ _ (one text n s) = one_small n s.small (eqb n 0) refl
interfaces_small _ _ (two front back m n s t) = two_small m n s.small t.small (eqb m 0 && eqb n 0) refl

spelled_small : (text : List ℕ) (pred : HopPred) → SpellsPredicate text pred → IsPredicate pred
spelled_small _ _ (isd_alone text n s) = let fits = s.small in (omega arith, tt)
spelled_small _ _ (address text n s) = (address_small text n s, tt)
spelled_small _ _ (with_interfaces front back n ways s t) = (address_small front n s, interfaces_small back ways t)

pub predicate_small : (text : List ℕ) (pred : HopPred) → predicate_at text ≡ Ok pred → IsPredicate pred
predicate_small text pred e = spelled_small text pred (predicate_spelled text pred e)

abbrev pub IsGoodToken : Token → Type 0
IsGoodToken (signs.Hop pred) = IsPredicate pred
IsGoodToken token = Unit {0}

-- ---- each step keeps the room

item_begun_good : (levels : List Level) (level : Level) (token : Token) (r : Reading) → LevelsHaveRoom levels → LevelHasRoom (32 - length levels) level
    → IsGoodToken token → item_begun levels level token ≡ Ok r → IsGood r
item_begun_good levels level (signs.Hop pred) r outer here good e =
    subst IsGood (ok_is (has levels level (hop pred)) r e) (record { outer = outer; level = here; item = (good, omega arith) })
item_begun_good levels level signs.Open r outer here good e =
    let passed = guard_ok (nat_lt (length levels) 32) (Ok (wants (level ∷ levels) new_level)) faults.TooDeep r e in
    subst IsGood (ok_is (wants (level ∷ levels) new_level) r passed.1)
    (record { outer = (here, ltb-true (length levels) 32 passed.0, outer); level = (tt, tt); item = tt })
item_begun_good levels level signs.Optional r outer here good e = absurd cc
item_begun_good levels level signs.OnceOrMore r outer here good e = absurd cc
item_begun_good levels level signs.Repeated r outer here good e = absurd cc
item_begun_good levels level signs.Or r outer here good e = absurd cc
item_begun_good levels level signs.Close r outer here good e = absurd cc
item_begun_good levels level signs.Other r outer here good e = absurd cc

level_closed_good : (levels : List Level) (t : Tree) (r : Reading) → LevelsHaveRoom levels → HasRoom 0 (32 - length levels) t
    → level_closed levels t ≡ Ok r → IsGood r
level_closed_good [] t r outer good e = absurd cc
level_closed_good (level ∷ levels) t r outer good e =
    let more : 32 - length (level ∷ levels) + 1 ≡ 32 - length levels = omega (arith, outer.1) in
    let closed : HasRoom 2 (32 - length levels) t = subst (λ (room : ℕ). HasRoom 2 room t) more (closed_room 2 (32 - length (level ∷ levels)) t good) in
    subst IsGood (ok_is (has levels level t) r e) (record { outer = outer.2; level = outer.0; item = closed })

item_followed_good : (levels : List Level) (level : Level) (item : Tree) (token : Token) (r : Reading) → LevelsHaveRoom levels
    → LevelHasRoom (32 - length levels) level → HasRoom 2 (32 - length levels) item → IsGoodToken token → item_followed levels level item token ≡ Ok r → IsGood r
item_followed_good levels level item signs.Optional r outer here good token e =
    subst IsGood (ok_is (has levels level (optional item)) r e) (record { outer = outer; level = here; item = good })
item_followed_good levels level item signs.OnceOrMore r outer here good token e =
    subst IsGood (ok_is (has levels level (once_or_more item)) r e) (record { outer = outer; level = here; item = good })
item_followed_good levels level item signs.Repeated r outer here good token e =
    subst IsGood (ok_is (has levels level (repeated item)) r e) (record { outer = outer; level = here; item = good })
item_followed_good levels level item signs.Or r outer here good token e =
    subst IsGood (ok_is (wants levels (record { before = level.before; choices = Some (with_choices level.choices item) })) r e)
    (record { outer = outer; level = (here.0, with_choices_room (32 - length levels) level.choices item here.1 good); item = tt })
item_followed_good levels level item signs.Close r outer here good token e =
    level_closed_good levels (whole level item) r outer (whole_room (32 - length levels) level item here good) e
item_followed_good levels level item signs.Other r outer here good token e = absurd cc
item_followed_good levels level item (signs.Hop pred) r outer here good token e =
    item_begun_good levels (record { before = Some (whole level item); choices = None }) (signs.Hop pred) r outer
    (whole_room (32 - length levels) level item here good, tt) token e
item_followed_good levels level item signs.Open r outer here good token e =
    item_begun_good levels (record { before = Some (whole level item); choices = None }) signs.Open r outer
    (whole_room (32 - length levels) level item here good, tt) token e

took_good_at : (levels : List Level) (level : Level) (item : Option Tree) (token : Token) (r : Reading) → LevelsHaveRoom levels
    → LevelHasRoom (32 - length levels) level → AnyHasRoom 2 (32 - length levels) item → IsGoodToken token → took_at levels level item token ≡ Ok r → IsGood r
took_good_at levels level None token r outer here good is e = item_begun_good levels level token r outer here is e
took_good_at levels level (Some item) token r outer here good is e = item_followed_good levels level item token r outer here good is e

took_good : (from : Reading) (token : Token) (r : Reading) → IsGood from → IsGoodToken token → took from token ≡ Ok r → IsGood r
unfolding took
took_good from token r good is e = took_good_at from.open_levels from.level from.item token r good.outer good.level good.item is e

ended_good_at : (levels : List Level) (level : Level) (item : Option Tree) (t : Tree) → LevelHasRoom (32 - length levels) level
    → AnyHasRoom 2 (32 - length levels) item → ended_at levels level item ≡ Ok t → HasRoom 0 32 t
ended_good_at levels level None t here good e = absurd cc
ended_good_at [] level (Some item) t here good e = subst (HasRoom 0 32) (ok_is (whole level item) t e) (whole_room 32 level item here good)
ended_good_at (outer ∷ levels) level (Some item) t here good e = absurd cc

read_good : (from : Reading) (later : List Token) (t : Tree) → IsGood from → AllByRecursion IsGoodToken later → read_on from later ≡ Ok t → HasRoom 0 32 t
unfolding read_on ended
read_good from [] t good are e = ended_good_at from.open_levels from.level from.item t good.level good.item e
read_good from (token ∷ later) t good are e =
    let next = bind_ok (took from token) (λ r. read_on r later) t e in
    read_good next.0 later t (took_good from token next.0 good are.0 next.1) are.1 next.2

-- ---- the tokens of a text

either_good : (test : Bool) (x y : Token) → IsGoodToken x → IsGoodToken y → IsGoodToken (if test then x else y)
either_good true x y a b = a
either_good false x y a b = b

sign_good : (b : ℕ) → IsGoodToken (sign_token b)
sign_good b =
    either_good (eqb b 63) signs.Optional _ tt (either_good (eqb b 43) signs.OnceOrMore _ tt (either_good (eqb b 42) signs.Repeated _ tt
    (either_good (eqb b 124) signs.Or _ tt (either_good (eqb b 40) signs.Open _ tt (either_good (eqb b 41) signs.Close signs.Other tt tt)))))

run_good : (text : List ℕ) (read : Result HopPred PolicyFault) → predicate_at text ≡ read → IsGoodToken (read_token read)
run_good text (Ok pred) e = predicate_small text pred e
run_good text (Err f) e = tt

token_good : (text : List ℕ) → IsGoodToken (token_of text)
token_good [] = tt
token_good (b ∷ rest) = either_good (is_mark b) (read_token (predicate_at (b ∷ rest))) (sign_token b) (run_good (b ∷ rest) (predicate_at (b ∷ rest)) refl) (sign_good b)

tokens_good : (texts : List (List ℕ)) → AllByRecursion IsGoodToken (map token_of texts)
tokens_good [] = tt
tokens_good (text ∷ texts) = (token_good text, tokens_good texts)

-- the tree of a text is a sequence where it has not too many nodes
pub tree_is_sequence : (text : List ℕ) (t : Tree) → tree_at text ≡ Ok t → node_count t ≤ 256 → IsReadable t
tree_is_sequence text t e small =
    let room = read_good (wants [] new_level) (tokens text) t (record { outer = tt; level = (tt, tt); item = tt }) (tokens_good (token_texts text)) (tree_is_read text ∙ e) in
    record { small = small; shallow = plain_room 32 t room; predicates = room.0 }

-- what is read of a text is a sequence
pub read_is_sequence : (text : List ℕ) (t : Tree) → sequence_at text ≡ Ok t → IsReadable t
read_is_sequence text t e =
    let read = bind_ok (tree_at text) within_size t e in
    let passed = guard_not (nat_lt 256 (node_count read.0)) (Ok read.0) faults.TooLarge t read.2 in
    subst IsReadable (ok_is read.0 t passed.1) (tree_is_sequence text read.0 read.1 (ltb-false 256 (node_count read.0) passed.0))
