-- The refusals of topologies and views, as lines of text report them.
use Rattle.std.specs.Prelude.{ℕ, List, codes}
use Rattle.scion_topology.specs.declared.fault.TopologyFault.{TopologyFault}
use Rattle.scion_topology.specs.declared.fault.TopologyFault.TheVariants.{NotJson, BadField, DuplicateAs, DuplicateIf, UnknownAs, BadKind, NoRouter, NoLink, TooMany}

-- the number and the name of a refusal
abbrev pub code_and_name : TopologyFault → ℕ × List ℕ
code_and_name NotJson = (10, codes "NotJson")
code_and_name BadField = (11, codes "BadField")
code_and_name DuplicateAs = (12, codes "DuplicateAs")
code_and_name DuplicateIf = (13, codes "DuplicateIf")
code_and_name UnknownAs = (14, codes "UnknownAs")
code_and_name BadKind = (15, codes "BadKind")
code_and_name NoRouter = (16, codes "NoRouter")
code_and_name NoLink = (17, codes "NoLink")
code_and_name TooMany = (18, codes "TooMany")
