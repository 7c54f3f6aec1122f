-- Which texts spell an entry of an access control list (path policy language). `entry_at` is what
-- reading answers.
use Rattle.std.specs.Prelude.{ℕ, Bool, if◌then◌else◌, List, ◌∷◌, ◌++◌, None}
use Rattle.std.specs.List.{AllPass}
use Rattle.separators.specs.Blanks.{is_blank}
use Rattle.policy_expr.specs.declared.hop.HopPred.{HopPred}
use Rattle.policy_expr.specs.declared.acl.AclEntry.{AclEntry}
use Rattle.policy_expr.specs.Predicate.{SpellsPredicate}
use Rattle.policy_expr.specs.Acl.{signed_entry}

-- the sign of an entry: '+' if it allows the hops that it decides, else '-'
abbrev pub sign_of : Bool → ℕ
sign_of allows = if allows then 43 else 45

-- the text of an entry: its sign, alone or before a predicate, with blanks anywhere round them; a
-- predicate of wildcards alone spells a bare entry
pub data SpellsEntry : List ℕ → AclEntry → Type 0 where
  bare : (allows : Bool) (before behind : List ℕ)
      → AllPass is_blank before → AllPass is_blank behind
      → SpellsEntry (before ++ (sign_of allows ∷ behind)) (record { allows = allows; pred = None })
  with_predicate : (allows : Bool) (before between text behind : List ℕ) (pred : HopPred)
      → AllPass is_blank before → AllPass is_blank between → AllPass is_blank behind
      → SpellsPredicate text pred
      → SpellsEntry (before ++ (sign_of allows ∷ (between ++ (text ++ behind))))
      (signed_entry allows pred)
