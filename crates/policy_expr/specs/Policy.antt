-- Policies: an access control list and a sequence. Each of them may be absent, and then allows all.
use Rattle.std.specs.Prelude.{ℕ, ◌==◌, if◌then◌else◌, List, length, Option, Some, None, Result, Ok}
use Rattle.policy_expr.specs.declared.fault.PolicyFault.{PolicyFault}
use Rattle.policy_expr.specs.declared.hop.WalkHop.{WalkHop}
use Rattle.policy_expr.specs.declared.acl.AclEntry.{AclEntry}
use Rattle.policy_expr.specs.declared.acl.Denied.{Denied}
use Rattle.refusal.specs.Refusal.{◌>>=◌, if_there}
use Rattle.policy_expr.specs.Language.{Tree, Lang}
use Rattle.separators.specs.Blanks.{after_blanks}
use Rattle.policy_expr.specs.Reading.{sequence_at}
use Rattle.policy_expr.specs.Acl.{AllowsWalk, IsDenial, acl_at}

-- the value of a policy
pub record Rules : Type 0 where
  pub acl : Option (List AclEntry)
  pub sequence : Option Tree

-- the access control list allows each hop of the walk
abbrev pub AllowsHops : Option (List AclEntry) → List WalkHop → Type 0
AllowsHops None walk = Unit {0}
AllowsHops (Some entries) walk = AllowsWalk entries walk

-- the first denied hop of the walk, and the place of the entry that denies it
abbrev pub DeniesHop : Option (List AclEntry) → List WalkHop → Denied → Type 0
DeniesHop None walk denied = ⊥
DeniesHop (Some entries) walk denied = IsDenial entries walk denied

-- the walk is a word of the sequence
abbrev pub HasWord : Option Tree → List WalkHop → Type 0
HasWord None walk = Unit {0}
HasWord (Some tree) walk = Lang tree walk

-- the text of a sequence; a text of blanks alone is no sequence
abbrev pub unblank : Option (List ℕ) → Option (List ℕ)
unblank None = None
unblank (Some text) = if length (after_blanks text) == 0 then None else Some text

-- the policy of these texts: the refusals of the list come before those of the sequence
unfoldable pub policy_at : Option (List (List ℕ)) → Option (List ℕ) → Result Rules PolicyFault
policy_at acl sequence = do
  entries ← if_there acl_at acl
  tree ← if_there sequence_at (unblank sequence)
  Ok (record { acl = entries; sequence = tree })
