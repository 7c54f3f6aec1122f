-- The tokens of a printed tree are read as that tree.
use Rattle.std.proofs.Common.{◌≡◌, ℕ, ◌+◌, ◌≤◌, Bool, true, false, nat_lt, if◌then◌else◌, List, [], ◌∷◌, ◌++◌, length, Option, Some, None, Ok, refl, sym, ◌∙◌, ap, arith, append_assoc}
use Rattle.std.proofs.lemmas.List.{append-nil}
use Rattle.std.proofs.lemmas.Bool.Decides.{nat_tests}
use Rattle.policy_expr.specs.declared.token.Token.{Token}
use Rattle.policy_expr.specs.declared.token.Token.TheVariants as signs
use Rattle.policy_expr.specs.Language.{Tree, hop, followed, either, optional, repeated, once_or_more}
use Rattle.policy_expr.specs.Reading.{Level, new_level, whole}
use Rattle.policy_expr.proofs.Steps.{Reading, wants, has, with_choices, took, ended, read_on}
use Rattle.policy_expr.proofs.Readable.{nested, depth, strength}

-- tokens in parentheses, or not
abbrev pub closed_in : Bool → List Token → List Token
closed_in wanted tokens = if wanted then signs.Open ∷ (tokens ++ signs.Close ∷ []) else tokens

-- the tokens of a tree's text
abbrev pub tokens_of : Tree → List Token
tokens_of (hop pred) = signs.Hop pred ∷ []
tokens_of (followed a b) = tokens_of a ++ closed_in (nat_lt (strength b) 1) (tokens_of b)
tokens_of (either a b) = closed_in (nat_lt (strength a) 1) (tokens_of a) ++ (signs.Or ∷ closed_in (nat_lt (strength b) 2) (tokens_of b))
tokens_of (optional a) = closed_in (nat_lt (strength a) 2) (tokens_of a) ++ signs.Optional ∷ []
tokens_of (repeated a) = closed_in (nat_lt (strength a) 2) (tokens_of a) ++ signs.Repeated ∷ []
tokens_of (once_or_more a) = closed_in (nat_lt (strength a) 2) (tokens_of a) ++ signs.OnceOrMore ∷ []

-- after these tokens the reading is as if it began from there
abbrev pub Leads : Reading → List Token → Reading → Type 0
Leads from tokens to = (later : List Token) → read_on from (tokens ++ later) ≡ read_on to later

-- the tree is read as one item
abbrev pub ReadsItem : Tree → List Token → ℕ → Type 0
ReadsItem t tokens deep = (levels : List Level) (level : Level) → length levels + deep ≤ 32 → Leads (wants levels level) tokens (has levels level t)

-- the tree is read as alternatives
abbrev pub ReadsAlternatives : Tree → List Token → ℕ → Type 0
ReadsAlternatives t tokens deep = (levels : List Level) (before : Option Tree) → length levels + deep ≤ 32
    → (left : Option Tree) × (item : Tree) × (with_choices left item ≡ t)
    × Leads (wants levels (record { before = before; choices = None })) tokens (has levels (record { before = before; choices = left }) item)

-- the tree is read as a whole
abbrev pub ReadsWhole : Tree → List Token → ℕ → Type 0
ReadsWhole t tokens deep = (levels : List Level) → length levels + deep ≤ 32
    → (level : Level) × (item : Tree) × (whole level item ≡ t) × Leads (wants levels new_level) tokens (has levels level item)

-- the tokens begin as an item does
abbrev pub BeginsItem : List Token → Type 0
BeginsItem [] = ⊥
BeginsItem (signs.Hop pred ∷ later) = Unit {0}
BeginsItem (signs.Open ∷ later) = Unit {0}
BeginsItem (token ∷ later) = ⊥

pub record Reads (t : Tree) : Type 0 where
  pub item : ReadsItem t (closed_in (nat_lt (strength t) 2) (tokens_of t)) (nested (nat_lt (strength t) 2) (depth t))
  pub alternatives : ReadsAlternatives t (closed_in (nat_lt (strength t) 1) (tokens_of t)) (nested (nat_lt (strength t) 1) (depth t))
  pub all : ReadsWhole t (tokens_of t) (depth t)
  pub begins : BeginsItem (tokens_of t)

-- an item in parentheses
in_parentheses_reads : (t : Tree) (tokens : List Token) (deep : ℕ) → ReadsWhole t tokens deep → ReadsItem t (signs.Open ∷ (tokens ++ signs.Close ∷ [])) (deep + 1)
unfolding read_on took
in_parentheses_reads t tokens deep all levels level within later =
    let room : nat_lt (length levels) 32 ≡ true = grind (arith, nat_tests) in
    let inner : length (level ∷ levels) + deep ≤ 32 = omega arith in
    let r = all (level ∷ levels) inner in
    rw (room, append_assoc tokens (signs.Close ∷ []) later) (r.3 (signs.Close ∷ later) ∙ ap (λ (item : Tree). read_on (has levels level item) later) r.2)

-- what is read as an item is read as alternatives
alternatives_of_item : (t : Tree) (tokens : List Token) (deep : ℕ) → ReadsItem t tokens deep → ReadsAlternatives t tokens deep
alternatives_of_item t tokens deep item levels before within = (None, t, refl, item levels (record { before = before; choices = None }) within)

-- what is read as alternatives is read as a whole
whole_of_alternatives : (t : Tree) (tokens : List Token) (deep : ℕ) → ReadsAlternatives t tokens deep → ReadsWhole t tokens deep
whole_of_alternatives t tokens deep alternatives levels within =
    let r = alternatives levels None within in (record { before = None; choices = r.0 }, r.1, r.2, r.3)

begins_more : (tokens more : List Token) → BeginsItem tokens → BeginsItem (tokens ++ more)
begins_more [] more begins = absurd begins
begins_more (signs.Hop pred ∷ later) more begins = tt
begins_more (signs.Open ∷ later) more begins = tt
begins_more (signs.Optional ∷ later) more begins = absurd begins
begins_more (signs.OnceOrMore ∷ later) more begins = absurd begins
begins_more (signs.Repeated ∷ later) more begins = absurd begins
begins_more (signs.Or ∷ later) more begins = absurd begins
begins_more (signs.Close ∷ later) more begins = absurd begins
begins_more (signs.Other ∷ later) more begins = absurd begins

begins_closed : (wanted : Bool) (tokens : List Token) → BeginsItem tokens → BeginsItem (closed_in wanted tokens)
begins_closed true tokens begins = tt
begins_closed false tokens begins = begins

-- an item that follows another begins a new following
followed_begins : (levels : List Level) (level : Level) (item : Tree) (tokens : List Token) → BeginsItem tokens
    → read_on (has levels level item) tokens ≡ read_on (wants levels (record { before = Some (whole level item); choices = None })) tokens
unfolding read_on took
followed_begins levels level item [] begins = absurd begins
followed_begins levels level item (signs.Hop pred ∷ later) begins = refl
followed_begins levels level item (signs.Open ∷ later) begins = refl
followed_begins levels level item (signs.Optional ∷ later) begins = absurd begins
followed_begins levels level item (signs.OnceOrMore ∷ later) begins = absurd begins
followed_begins levels level item (signs.Repeated ∷ later) begins = absurd begins
followed_begins levels level item (signs.Or ∷ later) begins = absurd begins
followed_begins levels level item (signs.Close ∷ later) begins = absurd begins
followed_begins levels level item (signs.Other ∷ later) begins = absurd begins

followed_reads : (a b : Tree) → Reads a → Reads b → ReadsWhole (followed a b) (tokens_of (followed a b)) (depth (followed a b))
followed_reads a b reads_a reads_b levels within =
    let r = reads_a.all levels (omega arith) in
    let s = reads_b.alternatives levels (Some a) (omega arith) in
    let tokens = closed_in (nat_lt (strength b) 1) (tokens_of b) in
    let begins = begins_closed (nat_lt (strength b) 1) (tokens_of b) reads_b.begins in (
      record { before = Some a; choices = s.0 },
      s.1,
      ap (followed a) s.2,
      λ later.
          rw append_assoc (r.3 (tokens ++ later)
          ∙ followed_begins levels r.0 r.1 (tokens ++ later) (begins_more tokens later begins)
          ∙ ap (λ (t : Tree). read_on (wants levels (record { before = Some t; choices = None })) (tokens ++ later)) r.2
          ∙ s.3 later),
    )

either_reads : (a b : Tree) → Reads a → Reads b → ReadsAlternatives (either a b) (tokens_of (either a b)) (depth (either a b))
unfolding read_on took
either_reads a b reads_a reads_b levels before within =
    let r = reads_a.alternatives levels before (omega arith) in
    let second = closed_in (nat_lt (strength b) 2) (tokens_of b) in (
      Some a,
      b,
      refl,
      λ later.
          rw append_assoc (r.3 (signs.Or ∷ (second ++ later))
          ∙ ap (λ (t : Tree). read_on (wants levels (record { before = before; choices = Some t })) (second ++ later)) r.2
          ∙ reads_b.item levels (record { before = before; choices = Some a }) (omega arith) later),
    )

-- an item and a postfix sign
postfix_reads : (a : Tree) (sign : Token) (made : Tree → Tree) → ((levels : List Level) (level : Level) (item : Tree) (later : List Token)
    → read_on (has levels level item) (sign ∷ later) ≡ read_on (has levels level (made item)) later) → Reads a
    → ReadsItem (made a) (closed_in (nat_lt (strength a) 2) (tokens_of a) ++ sign ∷ []) (nested (nat_lt (strength a) 2) (depth a))
postfix_reads a sign made makes reads_a levels level within later =
    rw append_assoc (reads_a.item levels level within (sign ∷ later) ∙ makes levels level a later)

reads_of_item : (t : Tree) → strength t ≡ 2 → ReadsItem t (tokens_of t) (depth t) → BeginsItem (tokens_of t) → Reads t
reads_of_item t strong item begins =
    let i : ReadsItem t (closed_in (nat_lt (strength t) 2) (tokens_of t)) (nested (nat_lt (strength t) 2) (depth t)) = rw strong item in
    let a : ReadsAlternatives t (closed_in (nat_lt (strength t) 1) (tokens_of t)) (nested (nat_lt (strength t) 1) (depth t)) =
    rw strong (alternatives_of_item t (tokens_of t) (depth t) item) in
    record {
      item = i;
      alternatives = a;
      all = whole_of_alternatives t (tokens_of t) (depth t) (alternatives_of_item t (tokens_of t) (depth t) item);
      begins = begins;
    }

pub reads : (t : Tree) → Reads t
unfolding read_on took
reads (hop pred) = reads_of_item (hop pred) refl (λ levels level within later. refl) tt
reads (followed a b) =
    let all = followed_reads a b (reads a) (reads b) in
    let item = in_parentheses_reads (followed a b) (tokens_of (followed a b)) (depth (followed a b)) all in
    record {
      item = item;
      alternatives = alternatives_of_item (followed a b) (signs.Open ∷ (tokens_of (followed a b) ++ signs.Close ∷ [])) (depth (followed a b) + 1) item;
      all = all;
      begins = begins_more (tokens_of a) (closed_in (nat_lt (strength b) 1) (tokens_of b)) (reads a).begins;
    }
reads (either a b) =
    let alternatives = either_reads a b (reads a) (reads b) in
    let all = whole_of_alternatives (either a b) (tokens_of (either a b)) (depth (either a b)) alternatives in
    record {
      item = in_parentheses_reads (either a b) (tokens_of (either a b)) (depth (either a b)) all;
      alternatives = alternatives;
      all = all;
      begins = begins_more (closed_in (nat_lt (strength a) 1) (tokens_of a)) (signs.Or ∷ closed_in (nat_lt (strength b) 2) (tokens_of b))
          (begins_closed (nat_lt (strength a) 1) (tokens_of a) (reads a).begins);
    }
reads (optional a) = reads_of_item (optional a) refl (postfix_reads a signs.Optional optional (λ levels level item later. refl) (reads a))
    (begins_more (closed_in (nat_lt (strength a) 2) (tokens_of a)) (signs.Optional ∷ []) (begins_closed (nat_lt (strength a) 2) (tokens_of a) (reads a).begins))
reads (repeated a) = reads_of_item (repeated a) refl (postfix_reads a signs.Repeated repeated (λ levels level item later. refl) (reads a))
    (begins_more (closed_in (nat_lt (strength a) 2) (tokens_of a)) (signs.Repeated ∷ []) (begins_closed (nat_lt (strength a) 2) (tokens_of a) (reads a).begins))
reads (once_or_more a) = reads_of_item (once_or_more a) refl (postfix_reads a signs.OnceOrMore once_or_more (λ levels level item later. refl) (reads a))
    (begins_more (closed_in (nat_lt (strength a) 2) (tokens_of a)) (signs.OnceOrMore ∷ []) (begins_closed (nat_lt (strength a) 2) (tokens_of a) (reads a).begins))

-- the tokens of a tree are read as that tree
pub tokens_read : (t : Tree) → depth t ≤ 32 → read_on (wants [] new_level) (tokens_of t) ≡ Ok t
unfolding read_on ended
tokens_read t shallow =
    let r = (reads t).all [] (omega arith) in
    ap (read_on (wants [] new_level)) (sym (append-nil (tokens_of t))) ∙ r.3 [] ∙ ap (λ (x : Tree). Ok x) r.2
