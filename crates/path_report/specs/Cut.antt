-- The links that are cut, at the end of a report.
use Rattle.std.specs.Prelude.{ℕ, codes, Bool, true, false, List, [], ◌++◌, flat_map}
use Rattle.scion_topology.specs.declared.network.Link.{Link}
use Rattle.path_report.specs.Json.{link_json}
use Rattle.path_report.specs.Line.{link_name}

-- the line of a link that is cut, and the same as a JSON object
unfoldable pub cut_line : Link → List ℕ
cut_line link = codes "cut " ++ (link_name link ++ codes "\n")

unfoldable pub cut_json : Link → List ℕ
cut_json link = codes "{\"cut\":" ++ (link_json link ++ codes "}\n")

-- the same in either form
abbrev pub cut_text : (json : Bool) → Link → List ℕ
cut_text true link = cut_json link
cut_text false link = cut_line link

-- a text, if what it stands for is down
abbrev pub if_down : (up : Bool) → List ℕ → List ℕ
if_down true text = []
if_down false text = text

-- the lines of the links that are cut, in the order of the list
abbrev pub cut_lines : (json : Bool) → List Link → List ℕ
cut_lines json links = flat_map (λ link. if_down link.up (cut_text json link)) links
