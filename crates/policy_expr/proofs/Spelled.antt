-- What the grammar spells is read as its tree.
use Rattle.std.proofs.Common.{◌≡◌, ◌∙◌, ℕ, ◌+◌, ◌≤◌, true, List, [], ◌∷◌, ◌++◌, length, Option, Some, None, refl, sym, ap, arith, lt-ltb, append-nil}
use Rattle.std.specs.Prelude.{nat_lt, Ok}
use Rattle.std.proofs.lemmas.List.{append_assoc}
use Rattle.policy_expr.specs.declared.hop.HopPred.{HopPred}
use Rattle.policy_expr.specs.declared.token.Token.{Token}
use Rattle.policy_expr.specs.declared.token.Token.TheVariants as signs
use Rattle.policy_expr.specs.Language.{Tree, hop, followed, optional, repeated, once_or_more}
use Rattle.policy_expr.specs.Grammar.{Part, following, alternatives, item, SpellsPart, predicate, in_parentheses, with_optional, with_repeated, with_once_or_more, one_alternative, one_more, one_part, behind}
use Rattle.policy_expr.specs.Reading.{Level, new_level, whole}
use Rattle.policy_expr.proofs.Steps.{with_choices, with_before, wants, has, took, read_on, ended}

-- tokens with which an item begins
pub data Begins : List Token → Type 0 where
  by_hop : (p : HopPred) (ts : List Token) → Begins (signs.Hop p ∷ ts)
  by_open : (ts : List Token) → Begins (signs.Open ∷ ts)

begins_longer : (ts us : List Token) → Begins ts → Begins (ts ++ us)
begins_longer _ us (by_hop p ts) = by_hop p (ts ++ us)
begins_longer _ us (by_open ts) = by_open (ts ++ us)

begins : (depth : ℕ) (part : Part) (ts : List Token) (t : Tree) → SpellsPart depth part ts t → Begins ts
begins _ _ _ _ (predicate depth p) = by_hop p []
begins _ _ _ _ (in_parentheses depth ts t s) = by_open (ts ++ signs.Close ∷ [])
begins _ _ _ _ (with_optional depth ts t s) = begins_longer ts (signs.Optional ∷ []) (begins depth item ts t s)
begins _ _ _ _ (with_repeated depth ts t s) = begins_longer ts (signs.Repeated ∷ []) (begins depth item ts t s)
begins _ _ _ _ (with_once_or_more depth ts t s) = begins_longer ts (signs.OnceOrMore ∷ []) (begins depth item ts t s)
begins _ _ _ _ (one_alternative depth ts t s) = begins depth item ts t s
begins _ _ _ _ (one_more depth ts us a b s r) = begins_longer ts (signs.Or ∷ us) (begins depth alternatives ts a s)
begins _ _ _ _ (one_part depth ts t s) = begins depth alternatives ts t s
begins _ _ _ _ (behind depth ts us a b s r) = begins_longer ts us (begins depth following ts a s)

-- such a token behind an item begins what follows it
goes_behind : (levels : List Level) (level : Level) (x : Tree) (ts : List Token) → Begins ts
    → read_on (has levels level x) ts ≡ read_on (wants levels (record { before = Some (whole level x); choices = None })) ts
unfolding read_on took
goes_behind levels level x _ (by_hop p ts) = refl
goes_behind levels level x _ (by_open ts) = refl

-- an item was read
abbrev ReadsItem : ℕ → List Token → Tree → Type 0
ReadsItem depth ts t = (levels : List Level) (level : Level) (rest : List Token) → length levels + depth ≤ 32
    → read_on (wants levels level) (ts ++ rest) ≡ read_on (has levels level t) rest

-- alternatives were read, the last of them being the item
record ReachesAlternatives (levels : List Level) (before : Option Tree) (ts rest : List Token) (t : Tree) : Type 0 where
  level : Level
  last : Tree
  reads : read_on (wants levels (record { before = before; choices = None })) (ts ++ rest) ≡ read_on (has levels level last) rest
  same : level.before ≡ before
  gives : with_choices level.choices last ≡ t

-- all parts at a level were read
record ReachesAll (levels : List Level) (ts rest : List Token) (t : Tree) : Type 0 where
  level : Level
  last : Tree
  reads : read_on (wants levels new_level) (ts ++ rest) ≡ read_on (has levels level last) rest
  gives : whole level last ≡ t

abbrev Goal : Part → ℕ → List Token → Tree → Type 0
Goal item depth ts t = ReadsItem depth ts t
Goal alternatives depth ts t = (levels : List Level) (before : Option Tree) (rest : List Token) → length levels + depth ≤ 32 → ReachesAlternatives levels before ts rest t
Goal following depth ts t = (levels : List Level) (rest : List Token) → length levels + depth ≤ 32 → ReachesAll levels ts rest t

-- a postfix sign behind an item
optional_behind : (levels : List Level) (level : Level) (t : Tree) (rest : List Token)
    → read_on (has levels level t) (signs.Optional ∷ rest) ≡ read_on (has levels level (optional t)) rest
unfolding read_on took
optional_behind levels level t rest = refl

repeated_behind : (levels : List Level) (level : Level) (t : Tree) (rest : List Token)
    → read_on (has levels level t) (signs.Repeated ∷ rest) ≡ read_on (has levels level (repeated t)) rest
unfolding read_on took
repeated_behind levels level t rest = refl

once_or_more_behind : (levels : List Level) (level : Level) (t : Tree) (rest : List Token)
    → read_on (has levels level t) (signs.OnceOrMore ∷ rest) ≡ read_on (has levels level (once_or_more t)) rest
unfolding read_on took
once_or_more_behind levels level t rest = refl

-- a `|` behind an item
or_behind : (levels : List Level) (level : Level) (x : Tree) (rest : List Token)
    → read_on (has levels level x) (signs.Or ∷ rest) ≡ read_on (wants levels (record { before = level.before; choices = Some (with_choices level.choices x) })) rest
unfolding read_on took
or_behind levels level x rest = refl

-- a predicate where an item must come
hop_begun : (levels : List Level) (level : Level) (p : HopPred) (rest : List Token)
    → read_on (wants levels level) (signs.Hop p ∷ rest) ≡ read_on (has levels level (hop p)) rest
unfolding read_on took
hop_begun levels level p rest = refl

-- a parenthesis where an item must come, and one behind an item
open_begun : (levels : List Level) (level : Level) (rest : List Token) → nat_lt (length levels) 32 ≡ true
    → read_on (wants levels level) (signs.Open ∷ rest) ≡ read_on (wants (level ∷ levels) new_level) rest
unfolding read_on took
open_begun levels level rest room = rw room refl

close_behind : (levels : List Level) (outer level : Level) (x : Tree) (rest : List Token)
    → read_on (has (outer ∷ levels) level x) (signs.Close ∷ rest) ≡ read_on (has levels outer (whole level x)) rest
unfolding read_on took
close_behind levels outer level x rest = refl

-- there is room for one parenthesis more
has_room : (n depth : ℕ) → n + (depth + 1) ≤ 32 → nat_lt n 32 ≡ true
has_room n depth fits = lt-ltb n 32 (omega arith)

-- what the grammar spells as a part is read as that part
reads : (depth : ℕ) (part : Part) (ts : List Token) (t : Tree) → SpellsPart depth part ts t → Goal part depth ts t
reads _ _ _ _ (predicate depth p) = λ levels level rest fits. hop_begun levels level p rest
reads _ _ _ _ (in_parentheses depth ts t s) = λ levels level rest fits.
    let inner = reads depth following ts t s (level ∷ levels) (signs.Close ∷ rest) (omega (arith, fits)) in
    ap (λ tokens. read_on (wants levels level) (signs.Open ∷ tokens)) (append_assoc ts (signs.Close ∷ []) rest)
    ∙ open_begun levels level (ts ++ (signs.Close ∷ rest)) (has_room (length levels) depth fits)
    ∙ inner.reads
    ∙ close_behind levels level inner.level inner.last rest
    ∙ ap (λ x. read_on (has levels level x) rest) inner.gives
reads _ _ _ _ (with_optional depth ts t s) = λ levels level rest fits.
    ap (read_on (wants levels level)) (append_assoc ts (signs.Optional ∷ []) rest)
    ∙ reads depth item ts t s levels level (signs.Optional ∷ rest) fits ∙ optional_behind levels level t rest
reads _ _ _ _ (with_repeated depth ts t s) = λ levels level rest fits.
    ap (read_on (wants levels level)) (append_assoc ts (signs.Repeated ∷ []) rest)
    ∙ reads depth item ts t s levels level (signs.Repeated ∷ rest) fits ∙ repeated_behind levels level t rest
reads _ _ _ _ (with_once_or_more depth ts t s) = λ levels level rest fits.
    ap (read_on (wants levels level)) (append_assoc ts (signs.OnceOrMore ∷ []) rest)
    ∙ reads depth item ts t s levels level (signs.OnceOrMore ∷ rest) fits ∙ once_or_more_behind levels level t rest
reads _ _ _ _ (one_alternative depth ts t s) = λ levels before rest fits. record {
  level = record { before = before; choices = None };
  last = t;
  reads = reads depth item ts t s levels (record { before = before; choices = None }) rest fits;
  same = refl;
  gives = refl;
}
reads _ _ _ _ (one_more depth ts us a b s r) = λ levels before rest fits.
    let first = reads depth alternatives ts a s levels before (signs.Or ∷ (us ++ rest)) fits in
    let level : Level = record { before = before; choices = Some a } in
    let to_or = ap (read_on (wants levels (record { before = before; choices = None }))) (append_assoc ts (signs.Or ∷ us) rest) ∙ first.reads in
    let behind_or = or_behind levels first.level first.last (us ++ rest)
    ∙ ap (λ x. read_on (wants levels (record { before = x; choices = Some (with_choices first.level.choices first.last) })) (us ++ rest)) first.same
    ∙ ap (λ x. read_on (wants levels (record { before = before; choices = Some x })) (us ++ rest)) first.gives in
    record {
      level = level;
      last = b;
      reads = to_or ∙ behind_or ∙ reads depth item us b r levels level rest fits;
      same = refl;
      gives = refl;
    }
reads _ _ _ _ (one_part depth ts t s) = λ levels rest fits.
    let all = reads depth alternatives ts t s levels None rest fits in
    record {
      level = all.level;
      last = all.last;
      reads = all.reads;
      gives = ap (λ x. with_before x (with_choices all.level.choices all.last)) all.same ∙ all.gives;
    }
reads _ _ _ _ (behind depth ts us a b s r) = λ levels rest fits.
    let first = reads depth following ts a s levels (us ++ rest) fits in
    let later = reads depth alternatives us b r levels (Some a) rest fits in
    record {
      level = later.level;
      last = later.last;
      reads = ap (read_on (wants levels new_level)) (append_assoc ts us rest) ∙ first.reads
          ∙ goes_behind levels first.level first.last (us ++ rest) (begins_longer us rest (begins depth alternatives us b r))
          ∙ ap (λ x. read_on (wants levels (record { before = Some x; choices = None })) (us ++ rest)) first.gives
          ∙ later.reads;
      gives = ap (λ x. with_before x (with_choices later.level.choices later.last)) later.same ∙ ap (followed a) later.gives;
    }

ends : (level : Level) (x : Tree) → read_on (has [] level x) [] ≡ Ok (whole level x)
unfolding read_on ended
ends level x = refl

-- so it is read as the tree
pub spelled_is_read : (ts : List Token) (t : Tree) → SpellsPart 32 following ts t → read_on (wants [] new_level) ts ≡ Ok t
spelled_is_read ts t s =
    let all = reads 32 following ts t s [] [] (omega arith) in
    ap (read_on (wants [] new_level)) (sym (append-nil ts)) ∙ all.reads ∙ ends all.level all.last ∙ ap Ok all.gives
