-- The order of the values of the first two senders: each sender's values come out as they were put
-- in.
use Rattle.std.specs.Prelude.{◌≡◌, ℕ, ◌==◌, Bool, true, false, if◌then◌else◌, List, [], ◌∷◌, ◌++◌}
use mathlib.Core.Option.{some}
use lib.ListN.{get_elem?}
use Rattle.inbox.specs.declared.account.Roles.{Roles}

-- the tag of a sender: 0 for the first, 1 for the second, 2 for any other
abbrev pub tag : (first second : Bool) → ℕ
tag true two = 0
tag false true = 1
tag false false = 2

-- whether one of two passes has the role
abbrev pub has : (one role : Bool) → Bool
has b true = true
has b false = b

module _ {T : Type 0} where
  -- the values with this tag, in their order
  abbrev pub those_of : ℕ → List (ℕ × T) → List T
  those_of p [] = []
  those_of p (t ∷ ts) = if p == t.0 then t.1 ∷ those_of p ts else those_of p ts

  -- these values without their tags
  abbrev pub values : List (ℕ × T) → List T
  values [] = []
  values (t ∷ ts) = t.1 ∷ values ts

  -- these roles, and the values that were put in or taken out in them
  abbrev pub roles : Bool → Bool → Bool → List T → List T → List T → Roles T
  roles one two takes first second taken = record {
    one = one;
    two = two;
    takes = takes;
    first = first;
    second = second;
    taken = taken;
  }

  -- a pass with a role is at the port of that role, and its list has the values put in or taken out
  -- in it
  abbrev pub Fits : ℕ → ℕ → ℕ → List (ℕ × T) → List T → ℕ → Roles T → Type 0
  Fits a b r tagged got port v =
      (v.one ≡ true → (port ≡ a) × (v.first ≡ those_of 0 tagged))
      × (v.two ≡ true → (port ≡ b) × (v.second ≡ those_of 1 tagged))
      × (v.takes ≡ true → (port ≡ r) × (v.taken ≡ got))

  -- the rule of the roles: the tagged values that were put in are those that came out, followed by
  -- those in the inbox
  abbrev pub Ordered : List T → List (Roles T) → Type 0
  Ordered items views =
      (a : ℕ) × (b : ℕ) × (r : ℕ) × (tagged : List (ℕ × T)) × (got : List T)
      × (values tagged ≡ got ++ items)
      × ((port : ℕ) (v : Roles T) → get_elem? views port ≡ some v → Fits a b r tagged got port v)

  -- the roles after a value was put in
  abbrev pub put_by : Roles T → T → Roles T
  put_by v x =
      roles v.one v.two v.takes
      (if v.one then v.first ++ x ∷ [] else v.first)
      (if v.one then v.second else (if v.two then v.second ++ x ∷ [] else v.second))
      v.taken

  -- the roles after a value was taken out
  abbrev pub taken_by : Roles T → T → Roles T
  taken_by v x = roles v.one v.two v.takes v.first v.second (v.taken ++ x ∷ [])

  -- a pass without a role
  abbrev pub no_roles : Roles T
  no_roles = roles false false false [] [] []

  -- whether a pass is the first sender's and still has the second sender's role to give away
  abbrev pub gives_second : Roles T → Bool
  gives_second v = if v.one then v.two else false

  -- the roles that stay with a sender's pass when it is split
  abbrev pub keeps_of : Roles T → Roles T
  keeps_of v = if gives_second v then roles v.one false v.takes v.first [] v.taken else v

  -- the roles of the pass that is split off
  abbrev pub gives_of : Roles T → Roles T
  gives_of v = if gives_second v then roles false true false [] v.second [] else no_roles

  -- the roles that stay with the first pass after the receiver's pass was split off
  abbrev pub sends_of : Roles T → Roles T
  sends_of v = roles v.one v.two false v.first v.second []

  -- the roles of the receiver's pass
  abbrev pub takes_of : Roles T → Roles T
  takes_of v = roles false false true [] [] v.taken

  -- the roles of a pass that has taken over another pass
  abbrev pub both_of : Roles T → Roles T → Roles T
  both_of v w =
      roles (has v.one w.one) (has v.two w.two) (has v.takes w.takes)
      (if w.one then w.first else v.first)
      (if w.two then w.second else v.second)
      (if w.takes then w.taken else v.taken)
