-- The line of a pair of ASes.
use Rattle.std.specs.Prelude.{ℕ, zero, suc, ◌==◌, codes, Bool, true, false, List, [], ◌++◌, flat_map, length, Option, Some, None}
use Rattle.std.specs.Fmt.{decimal}
use Rattle.isd_as.specs.Address.{canonical}
use Rattle.scion_topology.specs.declared.network.End.{End}
use Rattle.scion_topology.specs.declared.network.Link.{Link}
use Rattle.path_report.specs.declared.best.BestPath.{BestPath}
use Rattle.path_report.specs.Pair.{PairValue}

-- an end of a link: `ISD-AS#IF`
abbrev pub end_name : End → List ℕ
end_name end = canonical end.ia ++ (codes "#" ++ decimal end.number)

-- a link by its ends: `ISD-AS#IF~ISD-AS#IF`
unfoldable pub link_name : Link → List ℕ
link_name link = end_name link.a ++ (codes "~" ++ end_name link.b)

-- what stands behind a number if there may be more
unfoldable pub more_text : Bool → List ℕ
more_text true = codes "+"
more_text false = []

-- what is said of the best path
unfoldable pub best_text : Option BestPath → List ℕ
best_text None = codes " hops unknown until unknown"
best_text (Some best) =
    codes " hops " ++ (decimal best.hops ++ (codes " until " ++ decimal best.last))

-- the links that the paths need, with their number
unfoldable pub links_text : List Link → List ℕ
links_text links = codes " needs " ++ (decimal (length links)
    ++ flat_map (λ link. codes " " ++ link_name link) links)

-- the ASes that the paths pass, with their number
unfoldable pub ases_text : List ℕ → List ℕ
ases_text ases = codes " through " ++ (decimal (length ases)
    ++ flat_map (λ ia. codes " " ++ canonical ia) ases)

-- how many links may be lost, and the links and the ASes that the paths need
unfoldable pub needed_text : (is_full : Bool) → PairValue → List ℕ
needed_text true report = codes " survives unknown needs unknown through unknown"
needed_text false report =
    codes " survives " ++ (decimal report.survives ++ (more_text (report.survives == 3)
    ++ (links_text report.needed ++ ases_text report.through)))

-- what is said of the paths, if there are some
abbrev pub paths_text : (paths : ℕ) → PairValue → List ℕ
paths_text zero report = []
paths_text (suc paths) report = best_text report.best ++ needed_text report.is_full report

-- the line of a pair: its ASes, the number of its paths, and what is said of them
unfoldable pub pair_line : PairValue → List ℕ
pair_line report =
    canonical report.pair.from ++ (codes " " ++ (canonical report.pair.to
    ++ (codes " paths " ++ (decimal report.paths ++ (more_text report.is_full
    ++ (paths_text report.paths report ++ codes "\n"))))))
