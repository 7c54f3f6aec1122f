-- What is read as a tree is what the grammar spells.
use Rattle.std.proofs.Common.{◌≡◌, ◌∙◌, ℕ, ◌+◌, ◌-◌, ◌≤◌, Bool, true, false, List, [], ◌∷◌, ◌++◌, length, Option, Some, None, refl, sym, ap, arith, append_assoc, append-nil, ltb-true, subst}
use Rattle.std.proofs.lemmas.Bool.{ltb-false, le-ltb}
use Rattle.std.specs.Prelude.{nat_lt, if◌then◌else◌, Result, Ok, Err}
use Rattle.policy_expr.specs.declared.token.Token.{Token}
use Rattle.policy_expr.specs.declared.token.Token.TheVariants as signs
use Rattle.policy_expr.specs.declared.fault.PolicyFault.{PolicyFault}
use Rattle.policy_expr.specs.declared.fault.PolicyFault.TheVariants as faults
use Rattle.policy_expr.specs.Language.{Tree, optional, repeated, once_or_more}
use Rattle.policy_expr.specs.Grammar.{following, alternatives, item, SpellsPart, predicate, in_parentheses, with_optional, with_repeated, with_once_or_more, one_alternative, one_more, one_part, behind}
use Rattle.policy_expr.specs.Reading.{Level, new_level, whole, node_count, sequence_at, tree_at}
use Rattle.policy_expr.proofs.Steps.{Reading, with_choices, with_before, wants, took, read_on, ended, item_begun, item_followed, level_closed, tree_is_read, within_size}
use Rattle.policy_expr.specs.Grammar.{SpellsSequence}
use Rattle.policy_expr.specs.Tokens.{tokens}
use Rattle.policy_expr.proofs.Spelled.{spelled_is_read}
use Rattle.refusal.specs.Refusal.{◌>>=◌}

-- the tokens in front spell what an item will follow, and the next ones the alternatives before it
abbrev IsBefore : ℕ → Option Tree → List Token → Type 0
IsBefore depth None ts = ts ≡ []
IsBefore depth (Some a) ts = SpellsPart depth following ts a

abbrev IsLeft : ℕ → Option Tree → List Token → Type 0
IsLeft depth None ts = ts ≡ []
IsLeft depth (Some a) ts = (us : List Token) × (ts ≡ us ++ (signs.Or ∷ [])) × SpellsPart depth alternatives us a

abbrev IsItem : ℕ → Option Tree → List Token → Type 0
IsItem depth None ts = ts ≡ []
IsItem depth (Some x) ts = SpellsPart depth item ts x

record IsLevel (depth : ℕ) (level : Level) (ts : List Token) : Type 0 where
  front : List Token
  back : List Token
  cut : ts ≡ front ++ back
  before : IsBefore depth level.before front
  left : IsLeft depth level.choices back

-- each level that is open, the last one first, and the parenthesis behind it
abbrev AreLevels : List Level → ℕ → List Token → Type 0
AreLevels [] depth ts = (depth ≡ 32) × (ts ≡ [])
AreLevels (level ∷ levels) depth ts = (front : List Token) × (back : List Token) × (ts ≡ front ++ (back ++ (signs.Open ∷ []))) × AreLevels levels (depth + 1) front × IsLevel (depth + 1) level back

-- the tokens so far are what the reading keeps of them
record IsReading (levels : List Level) (level : Level) (x : Option Tree) (ts : List Token) : Type 0 where
  depth : ℕ
  front : List Token
  middle : List Token
  back : List Token
  cut : ts ≡ front ++ (middle ++ back)
  outer : AreLevels levels depth front
  here : IsLevel depth level middle
  last : IsItem depth x back

-- the alternatives with the item, and all parts with it
with_choices_spelled : (depth : ℕ) (left : Option Tree) (x : Tree) (ts us : List Token) → IsLeft depth left ts → SpellsPart depth item us x
    → SpellsPart depth alternatives (ts ++ us) (with_choices left x)
with_choices_spelled depth None x ts us kept s = rw kept (one_alternative depth us x s)
with_choices_spelled depth (Some a) x ts us kept s =
    rw (kept.1, append_assoc kept.0 (signs.Or ∷ []) us) (one_more depth kept.0 us a x kept.2 s)

with_before_spelled : (depth : ℕ) (before : Option Tree) (x : Tree) (ts us : List Token) → IsBefore depth before ts → SpellsPart depth alternatives us x
    → SpellsPart depth following (ts ++ us) (with_before before x)
with_before_spelled depth None x ts us kept s = rw kept (one_part depth us x s)
with_before_spelled depth (Some a) x ts us kept s = behind depth ts us a x kept s

whole_spelled : (depth : ℕ) (level : Level) (x : Tree) (ts us : List Token) → IsLevel depth level ts → SpellsPart depth item us x
    → SpellsPart depth following (ts ++ us) (whole level x)
whole_spelled depth level x ts us kept s =
    rw (kept.cut, append_assoc kept.front kept.back us)
    (with_before_spelled depth level.before (with_choices level.choices x) kept.front (kept.back ++ us) kept.before
    (with_choices_spelled depth level.choices x kept.back us kept.left s))

-- so many parentheses may be opened as are not open
depth_left : (levels : List Level) (depth : ℕ) (ts : List Token) → AreLevels levels depth ts → depth + length levels ≡ 32
depth_left [] depth ts kept = omega (arith, kept.0)
depth_left (level ∷ levels) depth ts kept =
    let outer = depth_left levels (depth + 1) kept.0 kept.3 in
    omega (arith, outer)

-- the reading that goes on with a step, if there is one
IsNext : Result Reading PolicyFault → List Token → Type 0
IsNext (Ok next) ts = IsReading next.open_levels next.level next.item ts
IsNext (Err fault) ts = Unit {0}

regrouped : (a b c : List Token) (token : Token) → (a ++ (b ++ c)) ++ (token ∷ []) ≡ a ++ (b ++ (c ++ (token ∷ [])))
regrouped a b c token = simp append_assoc

-- a parenthesis is opened where an item must come
opened_at : (levels : List Level) (level : Level) (ts front middle : List Token) (depth : ℕ)
    → ts ≡ front ++ (middle ++ []) → AreLevels levels (depth + 1) front → IsLevel (depth + 1) level middle
    → IsReading (level ∷ levels) new_level None (ts ++ (signs.Open ∷ []))
opened_at levels level ts front middle depth cut outer here = record {
  depth = depth;
  front = ts ++ (signs.Open ∷ []);
  middle = [];
  back = [];
  cut = sym (append-nil (ts ++ (signs.Open ∷ [])));
  outer = (front, middle, ap (λ x. x ++ (signs.Open ∷ [])) cut ∙ regrouped front middle [] signs.Open, outer, here);
  here = record { front = []; back = []; cut = refl; before = refl; left = refl };
  last = refl;
}

opened : (levels : List Level) (level : Level) (ts front middle : List Token) (depth : ℕ) (room : Bool) → nat_lt (length levels) 32 ≡ room
    → ts ≡ front ++ (middle ++ []) → AreLevels levels depth front → IsLevel depth level middle
    → IsNext (if room then Ok (wants (level ∷ levels) new_level) else Err faults.TooDeep) (ts ++ (signs.Open ∷ []))
unfolding IsNext
opened levels level ts front middle depth false test cut outer here = tt
opened levels level ts front middle depth true test cut outer here =
    let fits = ltb-true (length levels) 32 test in
    let left = depth_left levels depth front outer in
    let one : depth ≡ (depth - 1) + 1 = omega (arith, fits, left) in
    opened_at levels level ts front middle (depth - 1) cut (subst (λ d. AreLevels levels d front) one outer) (subst (λ d. IsLevel d level middle) one here)

-- a token where an item must come
begun : (levels : List Level) (level : Level) (token : Token) (ts front middle : List Token) (depth : ℕ)
    → ts ≡ front ++ (middle ++ []) → AreLevels levels depth front → IsLevel depth level middle
    → IsNext (item_begun levels level token) (ts ++ (token ∷ []))
unfolding IsNext
begun levels level (signs.Hop p) ts front middle depth cut outer here = record {
  depth = depth;
  front = front;
  middle = middle;
  back = signs.Hop p ∷ [];
  cut = ap (λ x. x ++ (signs.Hop p ∷ [])) cut ∙ regrouped front middle [] (signs.Hop p);
  outer = outer;
  here = here;
  last = predicate depth p;
}
begun levels level signs.Open ts front middle depth cut outer here = opened levels level ts front middle depth (nat_lt (length levels) 32) refl cut outer here
begun levels level signs.Optional ts front middle depth cut outer here = tt
begun levels level signs.OnceOrMore ts front middle depth cut outer here = tt
begun levels level signs.Repeated ts front middle depth cut outer here = tt
begun levels level signs.Or ts front middle depth cut outer here = tt
begun levels level signs.Close ts front middle depth cut outer here = tt
begun levels level signs.Other ts front middle depth cut outer here = tt

-- a sign stands behind an item
signed : (levels : List Level) (level : Level) (x y : Tree) (token : Token) (ts : List Token) → IsReading levels level (Some x) ts
    → ((depth : ℕ) (us : List Token) → SpellsPart depth item us x → SpellsPart depth item (us ++ (token ∷ [])) y)
    → IsReading levels level (Some y) (ts ++ (token ∷ []))
signed levels level x y token ts kept sign = record {
  depth = kept.depth;
  front = kept.front;
  middle = kept.middle;
  back = kept.back ++ (token ∷ []);
  cut = ap (λ x. x ++ (token ∷ [])) kept.cut ∙ regrouped kept.front kept.middle kept.back token;
  outer = kept.outer;
  here = kept.here;
  last = sign kept.depth kept.back kept.last;
}

-- a `|` behind an item
or_read : (levels : List Level) (level : Level) (x : Tree) (ts : List Token) → IsReading levels level (Some x) ts
    → IsReading levels (record { before = level.before; choices = Some (with_choices level.choices x) }) None (ts ++ (signs.Or ∷ []))
or_read levels level x ts kept = record {
  depth = kept.depth;
  front = kept.front;
  middle = kept.middle ++ (kept.back ++ (signs.Or ∷ []));
  back = [];
  cut = ap (λ x. x ++ (signs.Or ∷ [])) kept.cut ∙ regrouped kept.front kept.middle kept.back signs.Or ∙ ap (λ x. kept.front ++ x) (sym (append-nil (kept.middle ++ (kept.back ++ (signs.Or ∷ [])))));
  outer = kept.outer;
  here = record {
    front = kept.here.front;
    back = (kept.here.back ++ kept.back) ++ (signs.Or ∷ []);
    cut = ap (λ x. x ++ (kept.back ++ (signs.Or ∷ []))) kept.here.cut ∙ simp append_assoc;
    before = kept.here.before;
    left = (kept.here.back ++ kept.back, refl, with_choices_spelled kept.depth level.choices x kept.here.back kept.back kept.here.left kept.last);
  };
  last = refl;
}

around : (a b c : List Token) → ((a ++ (b ++ (signs.Open ∷ []))) ++ c) ++ (signs.Close ∷ []) ≡ a ++ (b ++ (signs.Open ∷ (c ++ (signs.Close ∷ []))))
around a b c = simp append_assoc

-- a parenthesis closed behind an item
closed : (levels : List Level) (level : Level) (x : Tree) (ts : List Token) → IsReading levels level (Some x) ts
    → IsNext (level_closed levels (whole level x)) (ts ++ (signs.Close ∷ []))
unfolding IsNext
closed [] level x ts kept = tt
closed (outer ∷ levels) level x ts kept =
    let inner = whole_spelled kept.depth level x kept.middle kept.back kept.here kept.last in
    let open_token : List Token = signs.Open ∷ [] in
    let close_token : List Token = signs.Close ∷ [] in
    record {
      depth = kept.depth + 1;
      front = kept.outer.0;
      middle = kept.outer.1;
      back = signs.Open ∷ ((kept.middle ++ kept.back) ++ close_token);
      cut = ap (λ x. x ++ close_token) (kept.cut ∙ ap (λ x. x ++ (kept.middle ++ kept.back)) kept.outer.2)
          ∙ around kept.outer.0 kept.outer.1 (kept.middle ++ kept.back);
      outer = kept.outer.3;
      here = kept.outer.4;
      last = in_parentheses kept.depth (kept.middle ++ kept.back) (whole level x) inner;
    }

-- an item begins behind an item
begun_behind : (levels : List Level) (level : Level) (x : Tree) (token : Token) (ts : List Token) → IsReading levels level (Some x) ts
    → IsNext (item_begun levels (record { before = Some (whole level x); choices = None }) token) (ts ++ (token ∷ []))
begun_behind levels level x token ts kept =
    begun levels (record { before = Some (whole level x); choices = None }) token ts kept.front (kept.middle ++ kept.back) kept.depth
    (kept.cut ∙ ap (λ x. kept.front ++ x) (sym (append-nil (kept.middle ++ kept.back))))
    kept.outer
    (record {
      front = kept.middle ++ kept.back;
      back = [];
      cut = sym (append-nil (kept.middle ++ kept.back));
      before = whole_spelled kept.depth level x kept.middle kept.back kept.here kept.last;
      left = refl;
    })

-- a token behind an item
behind_item : (levels : List Level) (level : Level) (x : Tree) (token : Token) (ts : List Token) → IsReading levels level (Some x) ts
    → IsNext (item_followed levels level x token) (ts ++ (token ∷ []))
unfolding IsNext
behind_item levels level x signs.Optional ts kept = signed levels level x (optional x) signs.Optional ts kept (λ depth us s. with_optional depth us x s)
behind_item levels level x signs.OnceOrMore ts kept = signed levels level x (once_or_more x) signs.OnceOrMore ts kept (λ depth us s. with_once_or_more depth us x s)
behind_item levels level x signs.Repeated ts kept = signed levels level x (repeated x) signs.Repeated ts kept (λ depth us s. with_repeated depth us x s)
behind_item levels level x signs.Or ts kept = or_read levels level x ts kept
behind_item levels level x signs.Close ts kept = closed levels level x ts kept
behind_item levels level x signs.Other ts kept = tt
behind_item levels level x (signs.Hop p) ts kept = begun_behind levels level x (signs.Hop p) ts kept
behind_item levels level x signs.Open ts kept = begun_behind levels level x signs.Open ts kept

-- any token
taken : (levels : List Level) (level : Level) (x : Option Tree) (token : Token) (ts : List Token) → IsReading levels level x ts
    → IsNext (took (record { open_levels = levels; level = level; item = x }) token) (ts ++ (token ∷ []))
unfolding took
taken levels level None token ts kept =
    begun levels level token ts kept.front kept.middle kept.depth (kept.cut ∙ ap (λ x. kept.front ++ (kept.middle ++ x)) kept.last) kept.outer kept.here
taken levels level (Some x) token ts kept = behind_item levels level x token ts kept

-- the end of the text
finished : (levels : List Level) (level : Level) (x : Option Tree) (ts : List Token) (t : Tree) → IsReading levels level x ts
    → ended (record { open_levels = levels; level = level; item = x }) ≡ Ok t → SpellsPart 32 following ts t
unfolding ended
finished levels level None ts t kept e = absurd cc
finished [] level (Some x) ts t kept e =
    let all = whole_spelled kept.depth level x kept.middle kept.back kept.here kept.last in
    let same : whole level x ≡ t = cc in
    rw (kept.cut, kept.outer.1, ← same, ← kept.outer.0) all
finished (outer ∷ levels) level (Some x) ts t kept e = absurd cc

-- one step, and then the rest
step_read : (next : Result Reading PolicyFault) (token : Token) (later ts : List Token) (t : Tree) → IsNext next (ts ++ (token ∷ []))
    → ((reading : Reading) (us : List Token) (tree : Tree) → IsReading reading.open_levels reading.level reading.item us → read_on reading later ≡ Ok tree → SpellsPart 32 following (us ++ later) tree)
    → (next >>= (λ reading. read_on reading later)) ≡ Ok t → SpellsPart 32 following (ts ++ (token ∷ later)) t
unfolding IsNext
step_read (Ok reading) token later ts t kept rest e = rw (← append_assoc ts (token ∷ []) later) (rest reading (ts ++ (token ∷ [])) t kept e)
step_read (Err fault) token later ts t kept rest e = absurd cc

-- the rest of the text
all_read : (later : List Token) (reading : Reading) (ts : List Token) (t : Tree) → IsReading reading.open_levels reading.level reading.item ts
    → read_on reading later ≡ Ok t → SpellsPart 32 following (ts ++ later) t
unfolding read_on
all_read [] reading ts t kept e = rw (append-nil ts) (finished reading.open_levels reading.level reading.item ts t kept e)
all_read (token ∷ later) reading ts t kept e =
    step_read (took reading token) token later ts t (taken reading.open_levels reading.level reading.item token ts kept) (all_read later) e

read_is_spelled : (ts : List Token) (t : Tree) → read_on (wants [] new_level) ts ≡ Ok t → SpellsPart 32 following ts t
read_is_spelled ts t e = all_read ts (wants [] new_level) [] t (record {
  depth = 32;
  front = [];
  middle = [];
  back = [];
  cut = refl;
  outer = (refl, refl);
  here = record { front = []; back = []; cut = refl; before = refl; left = refl };
  last = refl;
}) e

-- the tree of a text
pub tree_is_spelled : (text : List ℕ) (t : Tree) → tree_at text ≡ Ok t → SpellsSequence text t
tree_is_spelled text t e = read_is_spelled (tokens text) t (tree_is_read text ∙ e)

within_by : (tree t : Tree) (large : Bool) → nat_lt 256 (node_count tree) ≡ large → (if large then Err faults.TooLarge else Ok tree) ≡ Ok t → (tree ≡ t) × (node_count t ≤ 256)
within_by tree t true test e = absurd cc
within_by tree t false test e =
    let same : tree ≡ t = cc in
    let small : node_count tree ≤ 256 = ltb-false _ _ test in
    (same, subst (λ x. node_count x ≤ 256) same small)

-- a tree within the size
pub within : (read : Result Tree PolicyFault) (t : Tree) → (read >>= within_size) ≡ Ok t → (read ≡ Ok t) × (node_count t ≤ 256)
within (Ok tree) t e = let parts = within_by tree t (nat_lt 256 (node_count tree)) refl e in (ap Ok parts.0, parts.1)
within (Err fault) t e = absurd cc

pub sequence_is_spelled : (text : List ℕ) (t : Tree) → sequence_at text ≡ Ok t → SpellsSequence text t × (node_count t ≤ 256)
sequence_is_spelled text t e =
    let parts = within (tree_at text) t e in
    (tree_is_spelled text t parts.0, parts.1)

pub spelled_is_sequence : (text : List ℕ) (t : Tree) → SpellsSequence text t → node_count t ≤ 256 → sequence_at text ≡ Ok t
spelled_is_sequence text t s small =
    let read = sym (tree_is_read text) ∙ spelled_is_read (tokens text) t s in
    rw (read, le-ltb 256 (node_count t) small) refl
