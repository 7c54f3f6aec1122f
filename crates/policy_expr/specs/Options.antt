-- The options of a request for paths: several policies, each with a weight.
use Rattle.std.specs.Prelude.{ℕ, ◌&&◌, nat_le, List, length, Option, Result, Ok, codes}
use Rattle.refusal.specs.Refusal.{◌>>=◌, check, each, refused_as}
use Rattle.policy_expr.specs.declared.option_fault.OptionFault.{OptionFault}
use Rattle.policy_expr.specs.declared.option_fault.OptionFault.TheVariants.{OptionCount, Unread}
use Rattle.policy_expr.specs.Fault as policies
use Rattle.policy_expr.specs.Policy.{Rules, policy_at}

-- the number and the name of a refusal
abbrev pub code_and_name : OptionFault → ℕ × List ℕ
code_and_name OptionCount = (67, codes "OptionCount")
code_and_name (Unread fault) = policies.code_and_name fault

-- the value of an option: its policy and its weight
pub record WeighedRules : Type 0 where
  pub rules : Rules
  pub weight : ℕ

-- an option as texts: those of its policy, and its weight
pub record OptionTexts : Type 0 where
  pub acl : Option (List (List ℕ))
  pub sequence : Option (List ℕ)
  pub weight : ℕ

-- the option of these texts, or the refusal of its policy
unfoldable pub option_at : OptionTexts → Result WeighedRules OptionFault
option_at texts = do
  rules ← refused_as Unread (policy_at texts.acl texts.sequence)
  Ok (record { rules = rules; weight = texts.weight })

-- the options of these texts: OptionCount unless there are 1 to 16, and then the first refusal of a
-- text
unfoldable pub options_at : List OptionTexts → Result (List WeighedRules) OptionFault
options_at texts = do
  few ← check (nat_le 1 (length texts) && nat_le (length texts) 16) OptionCount
  each option_at texts
