-- The links of the front that some pairs need.
use Rattle.std.proofs.Common.{◌≡◌, ℕ, suc, ◌+◌, ◌<◌, ◌≤◌, List, [], ◌∷◌, ◌++◌, cond, get_or, length, take, sym, ap, ◌∙◌, arith}
use Rattle.std.specs.Prelude.{nat_lt}
use Rattle.std.proofs.lemmas.Bool.{le-ltb, lt-ltb}
use Rattle.std.proofs.lemmas.List.{append-nil, append_assoc, length-take-le, take_more}
use Rattle.scion_topology.specs.declared.network.Link.{Link}
use Rattle.path_report.specs.declared.summary.RankedLink.{RankedLink}
use Rattle.path_report.specs.Pair.{PairValue}
use Rattle.path_report.specs.Summary.{pairs_needing, ranks_from}

-- the link with its place, if some pairs need it
abbrev rank_at : List PairValue → ℕ → Link → List RankedLink
rank_at reports place link =
    cond (nat_lt 0 (pairs_needing reports link)) (record {
      pairs = pairs_needing reports link;
      place = place;
      link =
          link;
    } ∷ []) []

ranks_push : (reports : List PairValue) (first : ℕ) (links : List Link) (link : Link)
    → ranks_from reports first (links ++ link ∷ []) ≡ ranks_from reports first links ++ rank_at reports
    (first + length links) link
ranks_push reports first [] link =
    append-nil (rank_at reports first link) ∙ ap (λ n. rank_at reports n link)
    (let same : first ≡ first + 0 = omega arith in same)
ranks_push reports first (one ∷ links) link =
    ap (λ later. rank_at reports first one ++ later)
    (ranks_push reports (suc first) links link
    ∙ ap (λ n. ranks_from reports (suc first) links ++ rank_at reports n link)
    (let same : suc first + length links ≡ first + suc (length links) = omega arith in same))
    ∙ sym (append_assoc (rank_at reports first one) (ranks_from reports (suc first) links)
    (rank_at reports (first + suc (length links)) link))

-- one link more of the front
ranks_next : (reports : List PairValue) (links : List Link) (i : ℕ) (link : Link) → i < length links
    → link ≡ get_or links i link
    → ranks_from reports 0 (take (i + 1) links) ≡ ranks_from reports 0 (take i links) ++ rank_at reports i link
ranks_next reports links i link within is =
    ap (ranks_from reports 0) (take_more links i link within ∙ ap (λ it. take i links ++ it ∷ []) (sym is))
    ∙ ranks_push reports 0 (take i links) link
    ∙ ap (λ n. ranks_from reports 0 (take i links) ++ rank_at reports n link)
    (let size = length-take-le i links (omega (arith, within)) in let same : 0 + length (take i links) ≡ i = omega
    (arith, size) in same)

-- a link more that some pairs need, and one that none needs
pub ranks_with : (reports : List PairValue) (links : List Link) (i : ℕ) (link : Link) (pairs : ℕ) → i < length links
    → link ≡ get_or links i link → pairs ≡ pairs_needing reports link → 0 < pairs
    → ranks_from reports 0 (take (i + 1) links) ≡ ranks_from reports 0
    (take i links) ++ record { pairs = pairs; place = i; link = link } ∷ []
ranks_with reports links i link pairs within is counted some =
    ranks_next reports links i link within is
    ∙ ap (λ n. ranks_from reports 0 (take i links) ++ cond (nat_lt 0 n)
    (record { pairs = n; place = i; link = link } ∷ []) []) (sym counted)
    ∙ ap (λ b. ranks_from reports 0 (take i links) ++ cond b (record { pairs = pairs; place = i; link = link } ∷ [])
    []) (lt-ltb 0 pairs some)

pub ranks_without : (reports : List PairValue) (links : List Link) (i : ℕ) (link : Link) (pairs : ℕ) → i < length links
    → link ≡ get_or links i link → pairs ≡ pairs_needing reports link → pairs ≤ 0
    → ranks_from reports 0 (take (i + 1) links) ≡ ranks_from reports 0 (take i links)
ranks_without reports links i link pairs within is counted none =
    ranks_next reports links i link within is
    ∙ ap (λ n. ranks_from reports 0 (take i links) ++ cond (nat_lt 0 n)
    (record { pairs = n; place = i; link = link } ∷ []) []) (sym counted)
    ∙ ap (λ b. ranks_from reports 0 (take i links) ++ cond b (record { pairs = pairs; place = i; link = link } ∷ [])
    []) (le-ltb 0 pairs none)
    ∙ append-nil (ranks_from reports 0 (take i links))
