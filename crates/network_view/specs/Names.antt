-- Names in a picture in DOT, the language of graphviz.
use Rattle.std.specs.Prelude.{ℕ, codes, List, ◌++◌}
use Rattle.std.specs.Fmt.{decimal}
use Rattle.isd_as.specs.Address.{canonical}
use Rattle.scion_topology.specs.declared.network.End.{End}

-- the name of an AS
unfoldable pub as_name : ℕ → List ℕ
as_name ia = codes "\"" ++ (canonical ia ++ codes "\"")

-- the name of the box of an AS
unfoldable pub box_name : ℕ → List ℕ
box_name ia = codes "\"cluster_" ++ (canonical ia ++ codes "\"")

-- the name of a router: its AS and its number
unfoldable pub router_name : (ia router : ℕ) → List ℕ
router_name ia router = codes "\""
    ++ (canonical ia ++ (codes " " ++ (decimal router ++ codes "\"")))

-- the name of an interface: its AS and its number
unfoldable pub interface_name : End → List ℕ
interface_name end = codes "\""
    ++ (canonical end.ia ++ (codes "#" ++ (decimal end.number ++ codes "\"")))

-- the opening of the box of an ISD, which is the same for all its ASes
unfoldable pub isd_text : ℕ → List ℕ
isd_text isd =
    codes "subgraph cluster_"
    ++ (decimal isd ++ (codes " { label=\"ISD " ++ (decimal isd ++ codes "\"; ")))

-- the opening of the box of an AS, in the box of its ISD
unfoldable pub box_text : ℕ → List ℕ
box_text ia = codes "subgraph " ++ (box_name ia ++ codes " { ")
