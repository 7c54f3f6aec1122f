-- A network as a picture in DOT, the language of graphviz.
use Rattle.std.specs.Prelude.{ℕ, Bool, true, false, if◌then◌else◌, List, [], ◌++◌, count_by, flat_map, nat_le, Option}
use Rattle.scion_topology.specs.declared.network.AsEntry.{AsEntry}
use Rattle.scion_topology.specs.declared.network.Link.{Link}
use Rattle.scion_topology.specs.Network.{Network}
use Rattle.policy_expr.specs.declared.hop.WalkHop.{WalkHop}
use Rattle.network_view.specs.declared.dot.Form.{Form}
use Rattle.network_view.specs.declared.dot.Form.TheVariants.{Detailed, Overview, Layered}
use Rattle.network_view.specs.declared.extent.Extent.{Extent}
use Rattle.network_view.specs.declared.marks.Router.{Router}
use Rattle.network_view.specs.Detailed.{detailed_as, detailed_layout, detailed_legend, detailed_link}
use Rattle.network_view.specs.Extent.{is_drawn, is_inside, is_link_drawn}
use Rattle.network_view.specs.Layered.{layered_layout, layered_legend, layered_link, layers_text}
use Rattle.network_view.specs.Layers.{layer_of}
use Rattle.network_view.specs.Overview.{overview_as, overview_layout, overview_legend, overview_link}

-- the form of a picture of so many ASes: with their routers and interfaces up to 20, and in layers
-- from 61 on
abbrev pub form_of : (count : ℕ) → Form
form_of count = if nat_le count 20 then Detailed else if nat_le count 60 then Overview else Layered

-- a text, if what it stands for is drawn
abbrev pub if_drawn : (drawn : Bool) → List ℕ → List ℕ
if_drawn true text = text
if_drawn false text = []

-- an AS, with its routers or without them
abbrev pub listed_as : (detailed : Bool) (at : Option Router) (inside : Bool) → AsEntry → List ℕ
listed_as true at inside one = detailed_as at inside one
listed_as false at inside one = overview_as at inside one

-- the ASes that are drawn, in the order of the list
abbrev pub listed_text : (as_text : (Bool → AsEntry → List ℕ)) (inside drawn : ℕ → Bool)
    → List AsEntry → List ℕ
listed_text as_text inside drawn ases =
    flat_map (λ one. if_drawn (drawn one.ia) (as_text (inside one.ia) one)) ases

-- the ASes, in each form
abbrev pub ases_text : Form → Network → (at : Option Router) (inside drawn : ℕ → Bool) → List ℕ
ases_text Detailed network at inside drawn =
    listed_text (listed_as true at) inside drawn network.ases
ases_text Overview network at inside drawn =
    listed_text (listed_as false at) inside drawn network.ases
ases_text Layered network at inside drawn =
    layers_text at inside drawn (layer_of network) network.ases 9

-- a link, in each form
abbrev pub link_text : Form → (passed : List WalkHop) (link : Link) → List ℕ
link_text Detailed passed link = detailed_link passed link
link_text Overview passed link = overview_link passed link
link_text Layered passed link = layered_link passed link

-- the links that are drawn, in the order of the network's list
abbrev pub links_text : Form → (passed : List WalkHop) (inside : ℕ → Bool) → List Link → List ℕ
links_text form passed inside links =
    flat_map (λ link. if_drawn (is_link_drawn inside link) (link_text form passed link)) links

-- the layout, in each form
abbrev pub layout : Form → List ℕ
layout Detailed = detailed_layout
layout Overview = overview_layout
layout Layered = layered_layout

-- what lines and signs mean, in each form
abbrev pub legend : Form → List ℕ
legend Detailed = detailed_legend
legend Overview = overview_legend
legend Layered = layered_legend

-- the picture of a network in a form
unfoldable pub text_of : Form → Network → (inside drawn : ℕ → Bool) (passed : List WalkHop)
    (at : Option Router) → List ℕ
text_of form network inside drawn passed at =
    layout form ++ (ases_text form network at inside drawn
    ++ (links_text form passed inside network.links ++ legend form))

-- the picture of a part of a network, with a packet that has passed these hops and is at this
-- router, if at any
abbrev pub dot_of : Network → Extent → (passed : List WalkHop) (at : Option Router) → List ℕ
dot_of network extent passed at =
    text_of (form_of (count_by (λ one. is_drawn network extent one.ia) network.ases))
    network (is_inside network extent) (is_drawn network extent) passed at
