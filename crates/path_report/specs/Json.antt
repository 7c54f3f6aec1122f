-- The lines of a report as JSON objects, one in a line.
use Rattle.std.specs.Prelude.{ℕ, ◌==◌, ◌&&◌, not, codes, Bool, true, false, List, [], ◌∷◌, ◌++◌, flat_map, Option, Some, None}
use Rattle.std.specs.Fmt.{decimal}
use Rattle.isd_as.specs.Address.{canonical}
use Rattle.scion_topology.specs.declared.network.End.{End}
use Rattle.scion_topology.specs.declared.network.Link.{Link}
use Rattle.path_report.specs.declared.best.BestPath.{BestPath}
use Rattle.path_report.specs.declared.summary.RankedLink.{RankedLink}
use Rattle.path_report.specs.Pair.{PairValue}

-- an address as a JSON text
unfoldable pub address_json : (ia : ℕ) → List ℕ
address_json ia = codes "\"" ++ (canonical ia ++ codes "\"")

-- an end of a link, and a link, with the members that they have in a topology
unfoldable pub end_json : End → List ℕ
end_json end =
    codes "{\"ia\":\"" ++ (canonical end.ia
    ++ (codes "\",\"if\":" ++ (decimal end.number ++ codes "}")))

unfoldable pub link_json : Link → List ℕ
link_json link =
    codes "{\"a\":" ++ (end_json link.a ++ (codes ",\"b\":" ++ (end_json link.b ++ codes "}")))

-- the items of a JSON array, with commas between them
abbrev pub items_json : {A : Type 0} → (item : (A → List ℕ)) → List A → List ℕ
items_json item [] = []
items_json item (one ∷ more) = item one ++ flat_map (λ other. codes "," ++ item other) more

-- a truth value
unfoldable pub bool_json : Bool → List ℕ
bool_json true = codes "true"
bool_json false = codes "false"

-- what is said of the best path
unfoldable pub best_json : Option BestPath → List ℕ
best_json None = codes ",\"hops\":null,\"until\":null"
best_json (Some best) =
    codes ",\"hops\":" ++ (decimal best.hops ++ (codes ",\"until\":" ++ decimal best.last))

-- whether it is known what the paths need: there are some, and no more than were found
abbrev pub is_known : (is_full : Bool) (paths : ℕ) → Bool
is_known is_full paths = not (paths == 0) && not is_full

-- the links that the paths need, and the ASes that they pass
unfoldable pub links_json : List Link → List ℕ
links_json links = codes ",\"needs\":[" ++ (items_json link_json links ++ codes "]")

unfoldable pub ases_json : List ℕ → List ℕ
ases_json ases = codes ",\"through\":[" ++ (items_json address_json ases ++ codes "]")

-- how many links may be lost, at most 3, and what the paths need
unfoldable pub known_json : PairValue → List ℕ
known_json report = codes ",\"survives\":"
    ++ (decimal report.survives ++ (links_json report.needed ++ ases_json report.through))

-- the same, if it is known
abbrev pub needed_json : (known : Bool) → PairValue → List ℕ
needed_json true report = known_json report
needed_json false report = codes ",\"survives\":null,\"needs\":null,\"through\":null"

-- the ASes of a pair, the number of its paths, and whether there may be more
unfoldable pub counted_json : PairValue → List ℕ
counted_json report =
    codes "{\"from\":" ++ (address_json report.pair.from
    ++ (codes ",\"to\":" ++ (address_json report.pair.to
    ++ (codes ",\"paths\":" ++ (decimal report.paths
    ++ (codes ",\"more\":" ++ bool_json report.is_full))))))

-- the line of a pair
unfoldable pub pair_json : PairValue → List ℕ
pair_json report =
    counted_json report ++ (best_json report.best
    ++ (needed_json (is_known report.is_full report.paths) report ++ codes "}\n"))

-- the line of a link that some pairs need
unfoldable pub rank_json : RankedLink → List ℕ
rank_json ranked =
    codes "{\"link\":" ++ (link_json ranked.link
    ++ (codes ",\"pairs\":" ++ (decimal ranked.pairs ++ codes "}\n")))
