-- The picture of a network of many ASes, each a node without its routers.
use Rattle.std.specs.Prelude.{ℕ, codes, Bool, true, false, List, ◌++◌, Option}
use Rattle.std.specs.Fmt.{decimal}
use Rattle.isd_as.specs.Address.{canonical, isd_of}
use Rattle.scion_topology.specs.declared.network.AsEntry.{AsEntry}
use Rattle.scion_topology.specs.declared.network.End.{End}
use Rattle.scion_topology.specs.declared.network.Link.{Link}
use Rattle.scion_topology.specs.declared.network.LinkClass.{LinkClass}
use Rattle.scion_topology.specs.declared.network.LinkClass.TheVariants.{Core, Child}
use Rattle.policy_expr.specs.declared.hop.WalkHop.{WalkHop}
use Rattle.network_view.specs.declared.marks.Router.{Router}
use Rattle.network_view.specs.Looks.{beside_look, passed_look, state_look}
use Rattle.network_view.specs.Marks.{is_in, was_passed}
use Rattle.network_view.specs.Names.{as_name, isd_text}

-- the look of an AS: a core AS has a bold line
unfoldable pub core_look : Bool → List ℕ
core_look true = codes " core\", style=bold"
core_look false = codes "\""

-- the look of the AS that has the packet: coloured; and the end of the AS's line
unfoldable pub here_look : Bool → List ℕ
here_look true = codes ", style=filled, fillcolor=red]; }\n"
here_look false = codes "]; }\n"

-- an AS: a node with its name, in the box of its ISD
unfoldable pub overview_as : Option Router → (inside : Bool) → AsEntry → List ℕ
overview_as at inside one =
    isd_text (isd_of one.ia) ++ (as_name one.ia ++ (codes " [label=\"" ++ (canonical one.ia
    ++ (core_look one.core ++ (beside_look inside ++ here_look (is_in at one.ia))))))

-- the name of the point of a link between core ASes: its interfaces
unfoldable pub point_name : Link → List ℕ
point_name link =
    codes "\"" ++ (canonical link.a.ia ++ (codes "#" ++ (decimal link.a.number ++ (codes "~"
    ++ (canonical link.b.ia ++ (codes "#" ++ (decimal link.b.number ++ codes "\"")))))))

-- the look of a link: coloured if the packet has passed it, dashed if it is cut
abbrev pub link_look : List WalkHop → Link → List ℕ
link_look passed link = passed_look (was_passed passed link) ++ state_look link.up

-- the look of a line down to an end of a link between core ASes, with the interface there
unfoldable pub line_down : End → List ℕ
line_down end = codes " [minlen=3, penwidth=2, headlabel=" ++ decimal end.number

-- the line from the point of a link down to one of its ends
unfoldable pub half_text : List WalkHop → Link → End → List ℕ
half_text passed link end =
    point_name link ++ (codes " -- " ++ (as_name end.ia
    ++ (line_down end ++ link_look passed link)))

-- the look of the point of a link between core ASes
unfoldable pub point_look : List ℕ
point_look = codes " [shape=point, width=0.1];\n"

-- the point of a link between core ASes
unfoldable pub point_text : Link → List ℕ
point_text link = point_name link ++ point_look

-- a link between core ASes: a point of its own above them, and a line from it to each, so that no
-- two links between the same ASes are drawn one upon another
unfoldable pub core_link : List WalkHop → Link → List ℕ
core_link passed link =
    point_text link ++ (half_text passed link link.a ++ half_text passed link link.b)

-- the ASes of a link to a child
unfoldable pub between_text : Link → List ℕ
between_text link = as_name link.a.ia ++ (codes " -- " ++ as_name link.b.ia)

-- an arrow, with the interfaces at its ends
unfoldable pub arrow_look : Link → List ℕ
arrow_look link =
    codes " [dir=forward, taillabel=" ++ (decimal link.a.number
    ++ (codes ", headlabel=" ++ decimal link.b.number))

-- a link to a child: an arrow between its ASes
unfoldable pub child_link : List WalkHop → Link → List ℕ
child_link passed link = between_text link ++ (arrow_look link ++ link_look passed link)

-- a link by its class
abbrev pub link_of : LinkClass → List WalkHop → Link → List ℕ
link_of Core passed link = core_link passed link
link_of Child passed link = child_link passed link

-- a link: a line between its ASes, or two that meet in its point
abbrev pub overview_link : List WalkHop → Link → List ℕ
overview_link passed link = link_of link.class passed link

-- the layout: names at the lower left of boxes, ASes as small boxes
abbrev pub overview_layout : List ℕ
overview_layout =
    codes "graph network {\n"
    ++ codes "labelloc=b; labeljust=l; newrank=true; ranksep=0.6; fontname=\"sans-serif\";\n"
    ++ codes "node [shape=box, style=rounded, fontsize=11, fontname=\"sans-serif\"];\n"
    ++ codes "edge [fontsize=8, fontcolor=blue, fontname=\"sans-serif\", labeldistance=1.4, "
    ++ codes "arrowsize=0.7];\n"

-- what lines, boxes and numbers mean, below the picture
abbrev pub overview_legend : List ℕ
overview_legend =
    codes "labeljust=c; fontsize=11; label=\"point with two lines: a link between core ASes    "
    ++ codes "arrow: a link to a child    dashed: a link that is cut    blue: interfaces\\n"
    ++ codes "bold box: a core AS    gray name: an AS outside the part that is shown    "
    ++ codes "red: links of the packet or the path, and where the packet is\"; }\n"
