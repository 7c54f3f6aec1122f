-- The refusals of router steps, as lines of text report them.
use Rattle.std.specs.Prelude.{ℕ, List, ◌++◌, codes}
use Rattle.refusal.specs.Fault.{code_text}
use Rattle.path_header.specs.Fault as header
use Rattle.router_step.specs.declared.fault.Refusal.{Refusal}
use Rattle.router_step.specs.declared.fault.Refusal.TheVariants.{BadHeader, IndexMismatch, WrongIngress, Expired, BadMac, SourceAs, DestinationAs, SwitchInside, UnknownEgress, LinkKinds, LinkDown}

-- the number and the name of a refusal
abbrev pub code_and_name : Refusal → ℕ × List ℕ
code_and_name (BadHeader fault) = (90, codes "BadHeader")
code_and_name IndexMismatch = (91, codes "IndexMismatch")
code_and_name WrongIngress = (92, codes "WrongIngress")
code_and_name Expired = (93, codes "Expired")
code_and_name BadMac = (94, codes "BadMac")
code_and_name SourceAs = (95, codes "SourceAs")
code_and_name DestinationAs = (96, codes "DestinationAs")
code_and_name SwitchInside = (97, codes "SwitchInside")
code_and_name UnknownEgress = (98, codes "UnknownEgress")
code_and_name LinkKinds = (99, codes "LinkKinds")
code_and_name LinkDown = (100, codes "LinkDown")

-- a refusal as text: `CODE Name`; for a packet without a path header, also that of the header's
-- refusal
abbrev pub refusal_text : Refusal → List ℕ
refusal_text (BadHeader fault) =
    code_text (code_and_name (BadHeader fault))
    ++ (codes " " ++ code_text (header.code_and_name fault))
refusal_text refusal = code_text (code_and_name refusal)
