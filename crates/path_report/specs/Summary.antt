-- The links that most pairs of ASes need.
use Rattle.std.specs.Prelude.{ℕ, suc, nat_lt, codes, Bool, if◌then◌else◌, List, [], ◌∷◌, ◌++◌, count_by, IsPermutation, IsSorted}
use Rattle.std.specs.declared.cmp.Ordering.{Ordering}
use Rattle.std.specs.Fmt.{decimal}
use Rattle.std.specs.List.{list_any}
use Rattle.std.specs.Ordering.{nat_cmp, ordering_then}
use Rattle.scion_topology.specs.declared.network.Link.{Link}
use Rattle.scion_topology.specs.Network.{is_end}
use Rattle.path_report.specs.declared.summary.RankedLink.{RankedLink}
use Rattle.path_report.specs.Pair.{PairValue}
use Rattle.path_report.specs.Line.{link_name}

-- whether the pair needs the link: one that it needs has the same first end, and in a network no
-- two links have one end
abbrev pub needs : PairValue → Link → Bool
needs report link = list_any (λ one. is_end one.a link.a.ia link.a.number) report.needed

-- how many pairs need the link
abbrev pub pairs_needing : List PairValue → Link → ℕ
pairs_needing reports link = count_by (λ report. needs report link) reports

-- the links that some pairs need, each with their number and its place, if the first link has this
-- place
abbrev pub ranks_from : List PairValue → (first : ℕ) → List Link → List RankedLink
ranks_from reports first [] = []
ranks_from reports first (link ∷ links) =
    (if nat_lt 0 (pairs_needing reports link)
    then record { pairs = pairs_needing reports link; place = first; link = link } ∷ [] else [])
    ++ ranks_from reports (suc first) links

-- the order of links: those first that more pairs need, and of these in the order of the network
abbrev pub rank_cmp : (one other : RankedLink) → Ordering
rank_cmp one other = ordering_then (nat_cmp other.pairs one.pairs) (nat_cmp one.place other.place)

-- these are the links that some pairs need, in their order
pub record IsRanking (links : List Link) (reports : List PairValue) (ranked : List RankedLink)
    : Type 0 where
  pub sorted : IsSorted rank_cmp ranked
  pub all : IsPermutation (ranks_from reports 0 links) ranked

-- the line of a link
unfoldable pub rank_line : RankedLink → List ℕ
rank_line ranked =
    codes "link " ++ (link_name ranked.link ++ (codes " pairs " ++ (decimal ranked.pairs
    ++ codes "\n")))
