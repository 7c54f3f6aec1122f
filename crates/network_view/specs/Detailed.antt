-- The picture of a small network, with its routers and its interfaces.
use Rattle.std.specs.Prelude.{ℕ, zero, suc, codes, Bool, true, false, List, ◌++◌, [], Option}
use Rattle.std.specs.Fmt.{decimal}
use Rattle.isd_as.specs.Address.{canonical, isd_of}
use Rattle.scion_topology.specs.declared.network.AsEntry.{AsEntry}
use Rattle.scion_topology.specs.declared.network.End.{End}
use Rattle.scion_topology.specs.declared.network.Link.{Link}
use Rattle.scion_topology.specs.declared.network.LinkClass.{LinkClass}
use Rattle.scion_topology.specs.declared.network.LinkClass.TheVariants.{Core, Child}
use Rattle.policy_expr.specs.declared.hop.WalkHop.{WalkHop}
use Rattle.network_view.specs.declared.marks.Router.{Router}
use Rattle.network_view.specs.Looks.{passed_look, state_look}
use Rattle.network_view.specs.Marks.{is_at, was_passed}
use Rattle.network_view.specs.Names.{as_name, box_text, interface_name, isd_text, router_name}

-- ---- ASes

-- the look of a router: the one that has the packet is coloured
unfoldable pub marked_text : Bool → List ℕ
marked_text true = codes ", style=filled, fillcolor=red]; "
marked_text false = codes "]; "

-- a router with its number; it is marked if it has the packet
unfoldable pub router_text : (at : Option Router) (ia router : ℕ) → List ℕ
router_text at ia router =
    router_name ia router
    ++ (codes " [label=r" ++ (decimal router ++ marked_text (is_at at ia router)))

-- the routers of an AS with numbers below this one
unfoldable pub routers_text : (at : Option Router) (ia routers : ℕ) → List ℕ
routers_text at ia zero = []
routers_text at ia (suc router) = routers_text at ia router ++ router_text at ia router

-- the look of the box of an AS: a core AS has a bold line
unfoldable pub box_look : Bool → List ℕ
box_look true = codes "label=\"\"; style=bold; "
box_look false = codes "label=\"\"; style=rounded; "

-- the look of the name of an AS: a node of its own, so that no line is drawn over it
unfoldable pub name_look : Bool → List ℕ
name_look true = codes " core\", shape=plain, fixedsize=false, fontsize=13]; "
name_look false = codes "\", shape=plain, fixedsize=false, fontsize=13]; "

-- the look of an AS that is not in the part that is shown, and is joined to one that is: gray
unfoldable pub beside_box : (inside : Bool) → List ℕ
beside_box true = []
beside_box false = codes "color=gray; node [color=gray, fontcolor=gray]; "

-- the name of an AS in its box
unfoldable pub name_text : AsEntry → List ℕ
name_text one = as_name one.ia ++ (codes " [label=\"" ++ (canonical one.ia ++ name_look one.core))

-- an AS: a box with its name and its routers, in the box of its ISD
unfoldable pub detailed_as : Option Router → (inside : Bool) → AsEntry → List ℕ
detailed_as at inside one =
    isd_text (isd_of one.ia) ++ (box_text one.ia ++ (box_look one.core ++ (beside_box inside
    ++ (name_text one ++ (routers_text at one.ia one.routers ++ codes "} }\n")))))

-- ---- links

-- an interface: its number, in the box of its AS
unfoldable pub interface_text : End → List ℕ
interface_text end =
    isd_text (isd_of end.ia) ++ (box_text end.ia ++ (interface_name end ++ (codes " [label="
    ++ (decimal end.number ++ codes ", shape=plaintext, fixedsize=false, height=0.32]; } }\n"))))

-- the line from a router to its interface, which stands below it
unfoldable pub way_down : End → List ℕ
way_down end =
    router_name end.ia end.router ++ (codes " -- " ++ (interface_name end ++ codes ";\n"))

-- the line from a router to its interface, which stands above it
unfoldable pub way_up : End → List ℕ
way_up end =
    interface_name end ++ (codes " -- " ++ (router_name end.ia end.router ++ codes ";\n"))

-- the look of a link by its class: thick between core ASes, an arrow to a child
unfoldable pub class_look : LinkClass → List ℕ
class_look Core = codes " [color=black, minlen=2, penwidth=3"
class_look Child = codes " [color=black, minlen=2, dir=forward"

-- the line of a link, between its interfaces
unfoldable pub line_text : List WalkHop → Link → List ℕ
line_text passed link =
    interface_name link.a ++ (codes " -- " ++ (interface_name link.b ++ (class_look link.class
    ++ (passed_look (was_passed passed link) ++ state_look link.up))))

-- a link: its interfaces, the lines to their routers, and the line between them
unfoldable pub detailed_link : List WalkHop → Link → List ℕ
detailed_link passed link =
    interface_text link.a ++ (interface_text link.b ++ (way_down link.a ++ (way_up link.b
    ++ line_text passed link)))

-- ---- the frame

-- the layout: names at the lower left of boxes, routers as small circles
abbrev pub detailed_layout : List ℕ
detailed_layout =
    codes "graph network {\n"
    ++ codes "labelloc=b; labeljust=l; ranksep=0.3; nodesep=0.2; fontname=\"sans-serif\";\n"
    ++ codes "node [shape=circle, width=0.3, fixedsize=true, fontsize=10, fontname=\"sans-serif\"];\n"
    ++ codes "edge [color=gray];\n"

-- what lines, boxes and signs mean, below the picture
abbrev pub detailed_legend : List ℕ
detailed_legend =
    codes "labeljust=c; fontsize=11; label=\"thick: a link between core ASes    "
    ++ codes "arrow: a link to a child    dashed: a link that is cut\\n"
    ++ codes "r0, r1: routers    numbers: interfaces    gray line: which router has which "
    ++ codes "interface\\nbold box: a core AS    red: links of the packet or the path, "
    ++ codes "and where the packet is\\ngray box: an AS outside the part that is shown\"; }\n"
