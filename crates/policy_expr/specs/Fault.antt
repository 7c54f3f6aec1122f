-- The refusals of policies, as lines of text report them.
use Rattle.std.specs.Prelude.{ℕ, List, codes}
use Rattle.policy_expr.specs.declared.fault.PolicyFault.{PolicyFault}
use Rattle.policy_expr.specs.declared.fault.PolicyFault.TheVariants.{UnexpectedEnd, BadPredicate, Unbalanced, TooDeep, TooLarge, NoDefault, AfterDefault}

-- the number and the name of a refusal
abbrev pub code_and_name : PolicyFault → ℕ × List ℕ
code_and_name UnexpectedEnd = (60, codes "UnexpectedEnd")
code_and_name BadPredicate = (61, codes "BadPredicate")
code_and_name Unbalanced = (62, codes "Unbalanced")
code_and_name TooDeep = (63, codes "TooDeep")
code_and_name TooLarge = (64, codes "TooLarge")
code_and_name NoDefault = (65, codes "NoDefault")
code_and_name AfterDefault = (66, codes "AfterDefault")
