-- Reading a sequence step by step, as what its tokens give in one go, and as their first fault.
use Rattle.std.proofs.Common.{◌≡◌, ◌≢◌, ℕ, ◌+◌, ◌-◌, Bool, true, false, cond, List, [], ◌∷◌, length, Option, Some, None, is_some, refl, arith, add-one}
use Rattle.std.specs.Prelude.{nat_lt, if◌then◌else◌, Result, Ok, Err}
use Rattle.std.specs.Result.{result_err}
use Rattle.std.proofs.lemmas.Bool.{ne_eqb}
use Rattle.policy_expr.specs.declared.fault.PolicyFault.{PolicyFault}
use Rattle.policy_expr.specs.declared.fault.PolicyFault.TheVariants as faults
use Rattle.policy_expr.specs.declared.token.Token.{Token}
use Rattle.policy_expr.specs.declared.token.Token.TheVariants as signs
use Rattle.refusal.specs.Refusal.{◌>>=◌}
use Rattle.policy_expr.specs.Tokens.{tokens}
use Rattle.policy_expr.specs.Language.{Tree, hop, followed, either, optional, repeated, once_or_more}
use Rattle.policy_expr.specs.Reading.{Level, new_level, item_behind, whole, next_level, next_choice, node_count, read_rest, tree_at, fault_at}

abbrev pub with_choices : Option Tree → Tree → Tree
with_choices = item_behind either

abbrev pub with_before : Option Tree → Tree → Tree
with_before = item_behind followed

-- how far the reading is: a level for each parenthesis that is open, the last one first, the level
-- now, and the item at its end, or none where one must come
pub record Reading : Type 0 where
  pub open_levels : List Level
  pub level : Level
  pub item : Option Tree

abbrev pub wants : List Level → Level → Reading
wants levels level = record { open_levels = levels; level = level; item = None }

abbrev pub has : List Level → Level → Tree → Reading
has levels level item = record { open_levels = levels; level = level; item = Some item }

-- a token where an item must come
abbrev pub item_begun : List Level → Level → Token → Result Reading PolicyFault
item_begun levels level (signs.Hop pred) = Ok (has levels level (hop pred))
item_begun levels level signs.Open = if nat_lt (length levels) 32 then Ok (wants (level ∷ levels) new_level) else Err faults.TooDeep
item_begun levels level token = Err faults.BadPredicate

-- a parenthesis closed behind an item
abbrev pub level_closed : List Level → Tree → Result Reading PolicyFault
level_closed [] item = Err faults.Unbalanced
level_closed (outer ∷ levels) item = Ok (has levels outer item)

-- a token behind an item
abbrev pub item_followed : List Level → Level → Tree → Token → Result Reading PolicyFault
item_followed levels level item signs.Optional = Ok (has levels level (optional item))
item_followed levels level item signs.OnceOrMore = Ok (has levels level (once_or_more item))
item_followed levels level item signs.Repeated = Ok (has levels level (repeated item))
item_followed levels level item signs.Or = Ok (wants levels (record { before = level.before; choices = Some (with_choices level.choices item) }))
item_followed levels level item signs.Close = level_closed levels (whole level item)
item_followed levels level item signs.Other = Err faults.BadPredicate
item_followed levels level item token = item_begun levels (record { before = Some (whole level item); choices = None }) token

abbrev pub took_at : List Level → Level → Option Tree → Token → Result Reading PolicyFault
took_at levels level None token = item_begun levels level token
took_at levels level (Some item) token = item_followed levels level item token

-- the reading with one token more
unfoldable pub took : Reading → Token → Result Reading PolicyFault
took reading token = took_at reading.open_levels reading.level reading.item token

abbrev pub ended_at : List Level → Level → Option Tree → Result Tree PolicyFault
ended_at levels level None = Err faults.UnexpectedEnd
ended_at [] level (Some item) = Ok (whole level item)
ended_at (outer ∷ levels) level (Some item) = Err faults.Unbalanced

-- the tree at the end of the text
unfoldable pub ended : Reading → Result Tree PolicyFault
ended reading = ended_at reading.open_levels reading.level reading.item

-- the rest of the tokens
unfoldable pub read_on : Reading → List Token → Result Tree PolicyFault
read_on reading [] = ended reading
read_on reading (token ∷ later) = do
  next ← took reading token
  read_on next later

-- ---- step by step or in one go

-- these tokens give the same at any point of a reading
abbrev AreSame : List Token → Type 0
AreSame ts = (levels : List Level) (level : Level) (item : Option Tree)
    → read_on (record { open_levels = levels; level = level; item = item }) ts ≡ read_rest levels level item ts

end_same : AreSame []
unfolding read_on ended
end_same [] level None = refl
end_same (outer ∷ levels) level None = refl
end_same [] level (Some item) = refl
end_same (outer ∷ levels) level (Some item) = refl

module _ (ts : List Token) (rest : AreSame ts) where
  open_same : (levels : List Level) (level : Level) (room : Bool)
      → (cond room (Ok (wants (level ∷ levels) new_level)) (Err faults.TooDeep) >>= λ r. read_on r ts)
      ≡ cond room (read_rest (level ∷ levels) new_level None ts) (Err faults.TooDeep)
  open_same levels level true = rest (level ∷ levels) new_level None
  open_same levels level false = refl

  begun_same : (levels : List Level) (level : Level) (token : Token)
      → (item_begun levels level token >>= λ r. read_on r ts) ≡ read_rest levels level None (token ∷ ts)
  begun_same levels level (signs.Hop pred) = rest levels level (Some (hop pred))
  begun_same levels level signs.Open = open_same levels level (nat_lt (length levels) 32)
  begun_same levels level signs.Optional = refl
  begun_same levels level signs.OnceOrMore = refl
  begun_same levels level signs.Repeated = refl
  begun_same levels level signs.Or = refl
  begun_same levels level signs.Close = refl
  begun_same levels level signs.Other = refl

  closed_same : (levels : List Level) (level : Level) (item : Tree)
      → (level_closed levels (whole level item) >>= λ r. read_on r ts) ≡ read_rest levels level (Some item) (signs.Close ∷ ts)
  closed_same [] level item = refl
  closed_same (outer ∷ levels) level item = rest levels outer (Some (whole level item))

  followed_same : (levels : List Level) (level : Level) (item : Tree) (token : Token)
      → (item_followed levels level item token >>= λ r. read_on r ts) ≡ read_rest levels level (Some item) (token ∷ ts)
  followed_same levels level item signs.Optional = rest levels level (Some (optional item))
  followed_same levels level item signs.OnceOrMore = rest levels level (Some (once_or_more item))
  followed_same levels level item signs.Repeated = rest levels level (Some (repeated item))
  followed_same levels level item signs.Or = rest levels (record { before = level.before; choices = Some (with_choices level.choices item) }) None
  followed_same levels level item signs.Close = closed_same levels level item
  followed_same levels level item signs.Other = refl
  followed_same levels level item (signs.Hop pred) = begun_same levels (record { before = Some (whole level item); choices = None }) (signs.Hop pred)
  followed_same levels level item signs.Open = begun_same levels (record { before = Some (whole level item); choices = None }) signs.Open

  one_same : (token : Token) → AreSame (token ∷ ts)
  unfolding read_on took
  one_same token levels level None = begun_same levels level token
  one_same token levels level (Some item) = followed_same levels level item token

all_same : (ts : List Token) → AreSame ts
all_same [] = end_same
all_same (token ∷ ts) = one_same ts (all_same ts) token

-- the tree of a text, step by step
pub tree_is_read : (text : List ℕ) → read_on (wants [] new_level) (tokens text) ≡ tree_at text
tree_is_read text = all_same (tokens text) [] new_level None

-- a tree of at most 256 nodes
abbrev pub within_size : Tree → Result Tree PolicyFault
within_size tree = if nat_lt 256 (node_count tree) then Err faults.TooLarge else Ok tree

-- ---- the first fault of the tokens

-- what these tokens give at any point of a reading
abbrev Agrees : List Token → Type 0
Agrees ts = (levels : List Level) (level : Level) (item : Option Tree)
    → fault_at (length levels) (is_some item) ts ≡ result_err (read_rest levels level item ts)

end_agrees : Agrees []
end_agrees levels level None = refl
end_agrees [] level (Some item) = refl
end_agrees (outer ∷ levels) level (Some item) =
    let some : length (outer ∷ levels) ≢ 0 = omega arith in
    rw (ne_eqb (length (outer ∷ levels)) 0 some) refl

module _ (ts : List Token) (rest : Agrees ts) where
  open_agrees : (levels : List Level) (level : Level) (room : Bool)
      → cond room (fault_at (length levels + 1) false ts) (Some faults.TooDeep)
      ≡ result_err (cond room (read_rest (level ∷ levels) new_level None ts) (Err faults.TooDeep))
  open_agrees levels level true = rw add-one (rest (level ∷ levels) new_level None)
  open_agrees levels level false = refl

  begun_agrees : (token : Token) (levels : List Level) (level : Level)
      → fault_at (length levels) false (token ∷ ts) ≡ result_err (read_rest levels level None (token ∷ ts))
  begun_agrees (signs.Hop pred) levels level = rest levels level (Some (hop pred))
  begun_agrees signs.Open levels level = open_agrees levels level (nat_lt (length levels) 32)
  begun_agrees signs.Optional levels level = refl
  begun_agrees signs.OnceOrMore levels level = refl
  begun_agrees signs.Repeated levels level = refl
  begun_agrees signs.Or levels level = refl
  begun_agrees signs.Close levels level = refl
  begun_agrees signs.Other levels level = refl

  closed_agrees : (levels : List Level) (level : Level) (item : Tree)
      → fault_at (length levels) true (signs.Close ∷ ts) ≡ result_err (read_rest levels level (Some item) (signs.Close ∷ ts))
  closed_agrees [] level item = refl
  closed_agrees (outer ∷ levels) level item =
      let some : length (outer ∷ levels) ≢ 0 = omega arith in
      let less : length (outer ∷ levels) - 1 ≡ length levels = omega arith in
      rw (ne_eqb (length (outer ∷ levels)) 0 some, less) (rest levels outer (Some (whole level item)))

  followed_agrees : (token : Token) (levels : List Level) (level : Level) (item : Tree)
      → fault_at (length levels) true (token ∷ ts) ≡ result_err (read_rest levels level (Some item) (token ∷ ts))
  followed_agrees (signs.Hop pred) levels level item = rest levels (next_level level (Some item)) (Some (hop pred))
  followed_agrees signs.Open levels level item = open_agrees levels (next_level level (Some item)) (nat_lt (length levels) 32)
  followed_agrees signs.Optional levels level item = rest levels level (Some (optional item))
  followed_agrees signs.OnceOrMore levels level item = rest levels level (Some (once_or_more item))
  followed_agrees signs.Repeated levels level item = rest levels level (Some (repeated item))
  followed_agrees signs.Or levels level item = rest levels (next_choice level item) None
  followed_agrees signs.Close levels level item = closed_agrees levels level item
  followed_agrees signs.Other levels level item = refl

  one_agrees : (token : Token) → Agrees (token ∷ ts)
  one_agrees token levels level None = begun_agrees token levels level
  one_agrees token levels level (Some item) = followed_agrees token levels level item

agrees : (ts : List Token) → Agrees ts
agrees [] = end_agrees
agrees (token ∷ ts) = one_agrees ts (agrees ts) token

-- the first fault of a text is what reading it is refused by
pub fault_is_read : (text : List ℕ) → fault_at 0 false (tokens text) ≡ result_err (tree_at text)
fault_is_read text = agrees (tokens text) [] new_level None
