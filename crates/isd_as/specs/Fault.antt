-- The refusals of address texts, as lines of text report them.
use Rattle.std.specs.Prelude.{ℕ, List, codes}
use Rattle.isd_as.specs.declared.fault.AddrFault.{AddrFault}
use Rattle.isd_as.specs.declared.fault.AddrFault.TheVariants.{NoDash, BadDigit, IsdRange, AsRange, BadGroups}

-- the number and the name of a refusal
abbrev pub code_and_name : AddrFault → ℕ × List ℕ
code_and_name NoDash = (1, codes "NoDash")
code_and_name BadDigit = (2, codes "BadDigit")
code_and_name IsdRange = (3, codes "IsdRange")
code_and_name AsRange = (4, codes "AsRange")
code_and_name BadGroups = (5, codes "BadGroups")
