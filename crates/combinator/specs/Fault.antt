-- The refusals of a request for paths, as lines of text report them.
use Rattle.std.specs.Prelude.{ℕ, ◌==◌, not, List, Result, codes}
use Rattle.refusal.specs.Refusal.{check}
use Rattle.combinator.specs.declared.fault.CombineFault.{CombineFault}
use Rattle.combinator.specs.declared.fault.CombineFault.TheVariants.{SameAs}

-- the number and the name of a refusal
abbrev pub code_and_name : CombineFault → ℕ × List ℕ
code_and_name SameAs = (85, codes "SameAs")

-- the number and the name of the refusal of a limit, in every type of refusals
abbrev pub bad_limit : ℕ × List ℕ
bad_limit = (137, codes "BadLimit")

-- the ends of a request are two different ASes, or it is refused as SameAs
abbrev pub ends_at : (src dst : ℕ) → Result (Unit {0}) CombineFault
ends_at src dst = check (not (src == dst)) SameAs
