-- How links look, and what a picture says of looks.
use Rattle.std.specs.Prelude.{ℕ, codes, Bool, true, false, List, []}

-- the look of a link that the packet has passed: coloured, with the thickest line
unfoldable pub passed_look : Bool → List ℕ
passed_look true = codes ", color=red, penwidth=4, arrowsize=0.6"
passed_look false = []

-- the look of a link that is cut: dashed; and the end of the link's line
unfoldable pub state_look : Bool → List ℕ
state_look true = codes "];\n"
state_look false = codes ", style=dashed];\n"

-- the look of an AS that is not in the part that is shown, and is joined to one that is
unfoldable pub beside_look : (inside : Bool) → List ℕ
beside_look true = []
beside_look false = codes ", fontcolor=gray"
