-- The picture of a network of very many ASes: in layers, by their distance from the core.
use Rattle.std.specs.Prelude.{ℕ, zero, suc, ◌+◌, ◌*◌, ◌/◌, ◌%◌, codes, Bool, true, false, List, [], ◌∷◌, ◌++◌, length, nat_le, Option}
use Rattle.std.specs.Fmt.{decimal}
use Rattle.isd_as.specs.Address.{canonical, isd_of}
use Rattle.scion_topology.specs.declared.network.AsEntry.{AsEntry}
use Rattle.scion_topology.specs.declared.network.Link.{Link}
use Rattle.scion_topology.specs.declared.network.LinkClass.{LinkClass}
use Rattle.scion_topology.specs.declared.network.LinkClass.TheVariants.{Core, Child}
use Rattle.policy_expr.specs.declared.hop.WalkHop.{WalkHop}
use Rattle.network_view.specs.declared.marks.Router.{Router}
use Rattle.network_view.specs.Layers.{first_row, layer_ases}
use Rattle.network_view.specs.Looks.{beside_look, passed_look}
use Rattle.network_view.specs.Marks.{is_in, was_passed}
use Rattle.network_view.specs.Names.{as_name}
use Rattle.network_view.specs.Overview.{point_name}

-- ---- ASes

-- where an AS stands: 32 in a row, every other one half a row lower, so that a line between two of
-- a row is not hidden by those between them
unfoldable pub cell_text : (row place : ℕ) → List ℕ
cell_text row place =
    codes ", pos=\"" ++ (decimal (2 * (place % 32)) ++ (codes ",-" ++ (decimal (row + place / 32)
    ++ (codes "." ++ (decimal (5 * (place % 2)) ++ codes "!\"")))))

-- the number of the colour of an AS, one of eight, by its ISD
unfoldable pub hue_of : (isd : ℕ) → ℕ
hue_of isd = isd % 8 + 1

-- the colour of an AS
unfoldable pub hue_text : (isd : ℕ) → List ℕ
hue_text isd = codes ", color=\"/dark28/" ++ (decimal (hue_of isd) ++ codes "\"")

-- the look of an AS: a core AS has a bold line
unfoldable pub layered_look : (core : Bool) → List ℕ
layered_look true = codes "\", penwidth=2.5"
layered_look false = codes "\""

-- the look of the AS that has the packet; and the end of the AS's line
unfoldable pub layered_here : Bool → List ℕ
layered_here true = codes ", fillcolor=red];\n"
layered_here false = codes "];\n"

-- the looks of an AS: its name, its colour, and whether it is in the part that is shown
unfoldable pub looks_text : (inside : ℕ → Bool) → AsEntry → List ℕ
looks_text inside one =
    codes " [label=\"" ++ (canonical one.ia ++ (layered_look one.core
    ++ (hue_text (isd_of one.ia) ++ beside_look (inside one.ia))))

-- an AS: a box with its name, in its place
unfoldable pub layered_as : (at : Option Router) (inside : ℕ → Bool) (row place : ℕ) → AsEntry
    → List ℕ
layered_as at inside row place one =
    as_name one.ia ++ (looks_text inside one
    ++ (cell_text row place ++ layered_here (is_in at one.ia)))

-- ---- layers

-- the ASes of a layer, the first of them in this place
abbrev pub cells_text : (at : Option Router) (inside : ℕ → Bool) (row place : ℕ) → List AsEntry
    → List ℕ
cells_text at inside row place [] = []
cells_text at inside row place (one ∷ more) =
    layered_as at inside row place one ++ cells_text at inside row (suc place) more

-- the number of a layer before its first row, if it has an AS
unfoldable pub layer_label : (layer row count : ℕ) → List ℕ
layer_label layer row zero = []
layer_label layer row (suc count) =
    codes "\"layer " ++ (decimal layer ++ (codes "\" [label=" ++ (decimal layer
    ++ (codes ", shape=plain, fixedsize=false, pos=\"-2,-" ++ (decimal row ++ codes ".0!\"];\n")))))

-- a layer: its ASes in rows, and its number
abbrev pub layer_text : (at : Option Router) (inside : ℕ → Bool) (layer row : ℕ) → List AsEntry
    → List ℕ
layer_text at inside layer row ases =
    cells_text at inside row 0 ases ++ layer_label layer row (length ases)

-- so many layers of these ASes, from the core on
abbrev pub layers_text : (at : Option Router) (inside drawn : ℕ → Bool) (layer_of : ℕ → ℕ)
    → List AsEntry → (layers : ℕ) → List ℕ
layers_text at inside drawn layer_of ases zero = []
layers_text at inside drawn layer_of ases (suc layer) =
    layers_text at inside drawn layer_of ases layer
    ++ layer_text at inside layer (first_row layer_of drawn ases layer)
    (layer_ases layer_of drawn ases layer)

-- ---- links

-- whether the line of a link begins at its first end: at the AS of the smaller address, so that
-- graphviz draws all lines between two ASes beside one another
abbrev pub begins_at_a : Link → Bool
begins_at_a link = nat_le link.a.ia link.b.ia

-- the ASes of a link, between which its line is drawn
unfoldable pub ends_text : (begins_at_a : Bool) → Link → List ℕ
ends_text true link = as_name link.a.ia ++ (codes " -- " ++ as_name link.b.ia)
ends_text false link = as_name link.b.ia ++ (codes " -- " ++ as_name link.a.ia)

-- the look of a link by its class: darker between core ASes, an arrow to a child
unfoldable pub layered_class : (begins_at_a : Bool) → LinkClass → List ℕ
layered_class begins Core = codes " [color=gray40, penwidth=2"
layered_class true Child = codes " [color=gray70, dir=forward"
layered_class false Child = codes " [color=gray70, dir=back"

-- the look of a link that is cut
unfoldable pub cut_look : (up : Bool) → List ℕ
cut_look true = []
cut_look false = codes ", color=black, style=dashed"

-- a link: a line between its ASes; its interfaces are seen where a viewer shows tooltips
unfoldable pub layered_link : List WalkHop → Link → List ℕ
layered_link passed link =
    ends_text (begins_at_a link) link ++ (layered_class (begins_at_a link) link.class
    ++ (cut_look link.up ++ (passed_look (was_passed passed link)
    ++ (codes ", tooltip=" ++ (point_name link ++ codes "];\n")))))

-- ---- the frame

-- the layout: boxes of one size in their places, above straight lines
abbrev pub layered_layout : List ℕ
layered_layout =
    codes "graph network {\n"
    ++ codes "layout=neato; inputscale=1.8; overlap=true; splines=line; outputorder=edgesfirst; "
    ++ codes "fontname=\"sans-serif\"; labelloc=b;\n"
    ++ codes "node [shape=box, style=\"rounded,filled\", fillcolor=white, width=1, height=0.24, "
    ++ codes "fixedsize=true, fontsize=9, fontname=\"sans-serif\"];\n"
    ++ codes "edge [arrowsize=0.5];\n"

-- what lines, boxes and numbers mean, below the picture
abbrev pub layered_legend : List ℕ
layered_legend =
    codes "fontsize=14; label=\"numbers at the left: how many links lead to the nearest core AS, "
    ++ codes "8 for 8 and more    dark: a link between core ASes    arrow: a link to a child    "
    ++ codes "black and dashed: a link that is cut\\n"
    ++ codes "bold box: a core AS    colour: its ISD    gray name: an AS outside the part that is "
    ++ codes "shown    red: links of the packet or the path, and where the packet is\"; }\n"
