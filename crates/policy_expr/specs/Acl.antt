-- Access control lists (path policy language): the first entry that matches a hop decides about it.
use Rattle.std.specs.Prelude.{◌≡◌, ℕ, ◌<◌, ◌≤◌, ◌++◌, IsSome, Bool, true, false, not, ◌&&◌, ◌==◌, nat_lt, if◌then◌else◌, List, [], ◌∷◌, length, reverse, Option, Some, None, is_none, slice_get, Result, Ok, Err}
use Rattle.std.specs.List.{list_any}
use Rattle.policy_expr.specs.declared.fault.PolicyFault.{PolicyFault}
use Rattle.policy_expr.specs.declared.fault.PolicyFault.TheVariants as faults
use Rattle.policy_expr.specs.declared.hop.HopPred.{HopPred}
use Rattle.policy_expr.specs.declared.hop.Interfaces.{Interfaces}
use Rattle.policy_expr.specs.declared.hop.Interfaces.TheVariants.{Any, Either, Both}
use Rattle.policy_expr.specs.declared.hop.WalkHop.{WalkHop}
use Rattle.policy_expr.specs.declared.acl.AclEntry.{AclEntry}
use Rattle.policy_expr.specs.declared.acl.Denied.{Denied}
use Rattle.policy_expr.specs.Hop.{Matches}
use Rattle.refusal.specs.Refusal.{◌>>=◌, each, unless}
use Rattle.policy_expr.specs.Predicate.{predicate_at}
use Rattle.separators.specs.Blanks.{after_blanks, trimmed_text}

-- the entry matches the hop; an entry without a predicate matches every hop
abbrev pub MatchesBy : Option HopPred → WalkHop → Type 0
MatchesBy None hop = Unit {0}
MatchesBy (Some pred) hop = Matches pred hop

-- the entry at this place is the first that matches the hop
pub record Decides (acl : List AclEntry) (hop : WalkHop) (at : ℕ) (entry : AclEntry) : Type 0 where
  pub there : slice_get acl at ≡ Some entry
  pub matches : MatchesBy entry.pred hop
  pub first : (earlier : ℕ) (other : AclEntry) → earlier < at → slice_get acl earlier ≡ Some other
      → MatchesBy other.pred hop → ⊥

-- the entry at this place is the first that matches the hop, and it has this sign
abbrev pub HasSignAt : List AclEntry → Bool → WalkHop → ℕ → Type 0
HasSignAt acl sign hop at = (entry : AclEntry) × Decides acl hop at entry × (entry.allows ≡ sign)

-- the first entry that matches the hop allows it
abbrev pub Allowed : List AclEntry → WalkHop → Type 0
Allowed entries hop = (place : ℕ) × HasSignAt entries true hop place

-- each hop of the walk is allowed
abbrev pub AllowsWalk : List AclEntry → List WalkHop → Type 0
AllowsWalk acl walk = (k : ℕ) (hop : WalkHop) → slice_get walk k ≡ Some hop → Allowed acl hop

-- the first denied hop of the walk, and the place of the entry that denies it
pub record IsDenial (entries : List AclEntry) (walk : List WalkHop) (denied : Denied) : Type 0 where
  pub hop : WalkHop
  pub there : slice_get walk denied.hop ≡ Some hop
  pub by : HasSignAt entries false hop denied.entry
  pub before : (k : ℕ) (other : WalkHop) → k < denied.hop → slice_get walk k ≡ Some other
      → Allowed entries other

-- whether interfaces are wildcards alone, and so match every hop
abbrev pub says_nothing : Interfaces → Bool
says_nothing Any = true
says_nothing (Either n) = false
says_nothing (Both m n) = false

-- the entry of a sign and a predicate; a predicate of wildcards alone is dropped
abbrev pub signed_entry : Bool → HopPred → AclEntry
signed_entry allows pred =
    let kept = if (pred.ia == 0) && says_nothing pred.interfaces then None else Some pred in
    record { allows = allows; pred = kept }

-- the entry of a sign and of the text after it: a predicate, or nothing
abbrev pub signed_at : Bool → List ℕ → Result AclEntry PolicyFault
signed_at allows [] = Ok (record { allows = allows; pred = None })
signed_at allows (b ∷ rest) = do
  pred ← predicate_at (b ∷ rest)
  Ok (signed_entry allows pred)

abbrev pub trimmed_at : List ℕ → Result AclEntry PolicyFault
trimmed_at [] = Err faults.BadPredicate
trimmed_at (sign ∷ rest) = if sign == 43 then signed_at true (after_blanks rest)
    else if sign == 45 then signed_at false (after_blanks rest) else Err faults.BadPredicate

-- the entry of a text: '+' or '-', and then a predicate or nothing; blanks around both are ignored
unfoldable pub entry_at : List ℕ → Result AclEntry PolicyFault
entry_at text = trimmed_at (trimmed_text text)

-- an entry without a predicate
abbrev pub is_bare : AclEntry → Bool
is_bare entry = is_none entry.pred

-- the first rule that entries in reverse order break: the last entry has no predicate, and every
-- other has one
abbrev pub default_fault : List AclEntry → Option PolicyFault
default_fault [] = Some faults.NoDefault
default_fault (last ∷ others) = if not (is_bare last) then Some faults.NoDefault
    else if list_any is_bare others then Some faults.AfterDefault else None

-- the first rule that a list of entries breaks: at most 256 entries, and then those of
-- `default_fault`
unfoldable pub acl_fault : List AclEntry → Option PolicyFault
acl_fault entries =
    if nat_lt 256 (length entries) then Some faults.TooLarge else default_fault (reverse entries)

-- the rules of an access control list: at most 256 entries; the last has no predicate, and every
-- other has one
pub record IsAcl (entries : List AclEntry) : Type 0 where
  pub few : length entries ≤ 256
  pub front : List AclEntry
  pub last : AclEntry
  pub parts : entries ≡ front ++ last ∷ []
  pub bare : last.pred ≡ None
  pub others : (k : ℕ) (entry : AclEntry) → slice_get front k ≡ Some entry → IsSome entry.pred

-- the access control list of these texts: the first refusal of an entry, and then `acl_fault`
abbrev pub acl_at : List (List ℕ) → Result (List AclEntry) PolicyFault
acl_at texts = do
  entries ← each entry_at texts
  unless (acl_fault entries) entries
