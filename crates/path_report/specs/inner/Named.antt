-- Links that are named, and the text of the links that most pairs need, with those that are cut.
use Rattle.std.specs.Prelude.{◌≡◌, ℕ, Bool, List, ◌++◌, flat_map, take}
use Rattle.std.specs.List.{list_any}
use Rattle.scion_topology.specs.declared.network.Link.{Link}
use Rattle.scion_topology.specs.Network.{is_end}
use Rattle.path_report.specs.declared.summary.RankedLink.{RankedLink}
use Rattle.path_report.specs.Pair.{PairValue}
use Rattle.path_report.specs.Summary.{IsRanking}
use Rattle.path_report.specs.Cut.{cut_lines}
use Rattle.path_report.specs.Report.{rank_text}

-- whether both links have the same first end
abbrev pub is_same : (one other : Link) → Bool
is_same one other = is_end one.a other.a.ia other.a.number

-- whether the link is one of these, by its first end
abbrev pub is_among : List Link → Link → Bool
is_among links link = list_any (λ one. is_same one link) links

-- the text has the lines of the first 10 links in their order, and then those of the links that are
-- cut
abbrev pub IsSummary : (json : Bool) → List Link → List PairValue → List ℕ → Type 0
IsSummary json links reports text = (ranked : List RankedLink) × (IsRanking links reports ranked
    × (text ≡ flat_map (rank_text json) (take 10 ranked) ++ cut_lines json links))
