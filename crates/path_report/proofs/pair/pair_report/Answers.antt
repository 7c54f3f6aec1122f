-- What is said of the walks is said of the pair.
use Rattle.std.proofs.Common.{◌≡◌, ◌<◌, Bool, ℕ, List, All, length, map, sym, ap, ◌∙◌, subst, arith}
use Rattle.std.specs.Prelude.{◌==◌, filter}
use Rattle.std.proofs.lemmas.List.{length-map}
use Rattle.path_server.specs.Lookup.{Selection, segments_for}
use Rattle.policy_expr.specs.Policy.{Rules}
use Rattle.policy_expr.specs.declared.hop.WalkHop.{WalkHop}
use Rattle.scion_topology.specs.declared.network.Link.{Link}
use Rattle.scion_topology.specs.Topology.{IsNetwork}
use Rattle.combinator.specs.Candidate.{Question, question_of}
use Rattle.combinator.specs.Combiner.{CombinerValue, asked_of}
use Rattle.combinator.specs.Walks.{AreWalks}
use Rattle.path_report.specs.declared.open_walk.OpenWalk.{OpenWalk}
use Rattle.path_report.specs.Paths.{IsSurvived, open_walks}
use Rattle.path_report.specs.Pair.{IsPairReport, TellsBest, addresses, question_between}
use Rattle.path_report.specs.inner.Cuts.{DoSurvive}
use Rattle.path_report.specs.inner.Needed.{is_crossed, is_through}
use Rattle.path_report.specs.inner.Places.{HasPlaces}
use Rattle.path_report.proofs.Reporting.{reported_all}
use Rattle.path_report.proofs.Surviving.{survived}
use Rattle.path_report.proofs.pair.pair_report.Goals as goal

pub returns-clause-report : goal.returns-clause-report
returns-clause-report c =
    let net = c.args.net.now in
    let pair = c.args.pair in
    let rules = c.args.wanted.now.rules in
    let limit = c.args.wanted.now.limit in
    let links = net.network.links in
    let walks = c.in_ok-walks.walks in
    let set : c.in_ok-set.set ≡ segments_for net.segments pair.from pair.to net.moment = c.in_ok-set.ensures
    ∙ ap (λ stored. segments_for stored pair.from pair.to c.now.result) c.store.ensures
    ∙ ap (λ m. segments_for net.segments pair.from pair.to m) c.now.ensures in
    let question : asked_of c.in_ok-combiner.combiner c.wanted.inside.policy.now ≡ question_between net rules pair =
    ap (λ (of : CombinerValue). asked_of of c.wanted.inside.policy.now) c.in_ok-combiner.ensures
    ∙ ap (λ (s : Selection). question_of s pair.from pair.to c.wanted.inside.policy.now) set
    ∙ ap (λ (r : Rules). question_of (segments_for net.segments pair.from pair.to net.moment) pair.from pair.to r)
    (ap (λ w. w.rules) c.wanted.view_is) in
    let best : TellsBest links (question_between net rules pair) limit c.in_ok-best.best =
    subst (λ (q : Question). TellsBest links q limit c.in_ok-best.best)
    (ap (λ (of : CombinerValue). asked_of of rules) c.in_ok-combiner.ensures
    ∙ ap (λ (s : Selection). question_of s pair.from pair.to rules) set) c.in_ok-best.ensures in
    let same_limit : c.from-limit.result ≡ limit = c.from-limit.ensures ∙ ap (λ w. w.limit) c.wanted.view_is in
    let gathered : AreWalks (question_between net rules pair) limit walks =
    subst (λ n. AreWalks (question_between net rules pair) n walks) same_limit
    (subst (λ q. AreWalks q c.from-limit.result walks) question c.in_ok-walks.ensures) in
    let topology : c.topology-topology.result.now.links ≡ links = ap (λ n. n.links) c.topology-topology.ensures in
    let hops : map (λ (walk : OpenWalk). walk.hops.now) c.in_ok-open.open.items ≡ open_walks links walks =
    c.in_ok-open.ensures.walks ∙ ap (λ (ls : List Link). open_walks ls walks) topology in
    let full : (length walks == limit) ≡ (c.len.result == c.from-limit.result) =
    ap (λ (n : ℕ). n == limit) (sym c.len.ensures) ∙ ap (λ (n : ℕ). c.len.result == n) (sym same_limit) in
    let found = c.in_ok-open.open.items in
    let count : c.len-paths.result ≡ length (open_walks links walks) =
    c.len-paths.ensures ∙ sym c.deref.ensures.len ∙ ap (λ (ws : List OpenWalk). length ws) c.deref.ensures.value
    ∙ sym (length-map found (λ (walk : OpenWalk). walk.hops.now))
    ∙ ap (λ (ws : List (List WalkHop)). length ws) hops in
    let apart = c.if-paths-eq0.false in
    let some : 0 < c.len-paths.result = omega (arith, apart) in
    let losses : DoSurvive found c.in_ok-losses_survived.field-0 =
    subst (λ (ws : List OpenWalk). DoSurvive ws c.in_ok-losses_survived.field-0) c.deref.ensures.value c.in_ok-losses_survived.ensures in
    let places = subst (λ (ls : List Link). All (HasPlaces ls) found) topology c.in_ok-open.ensures.places in
    let needed : c.in_ok-needed_links.field-0.items ≡ filter (is_crossed (open_walks links walks)) links =
    c.in_ok-needed_links.ensures
    ∙ ap (λ (ws : List OpenWalk). filter (is_crossed (map (λ (walk : OpenWalk). walk.hops.now) ws)) c.topology-topology.result.now.links)
    c.deref-2.ensures.value
    ∙ ap (λ (ws : List (List WalkHop)). filter (is_crossed ws) c.topology-topology.result.now.links) hops
    ∙ ap (λ n. filter (is_crossed (open_walks links walks)) n.links) c.topology-topology.ensures in
    let through : c.in_ok-needed_ases.field-0.items ≡ filter (is_through pair (open_walks links walks)) (addresses net.network.ases) =
    c.in_ok-needed_ases.ensures
    ∙ ap (λ (ws : List OpenWalk). filter (is_through pair (map (λ (walk : OpenWalk). walk.hops.now) ws)) (addresses c.topology-topology.result.now.ases))
    c.deref-3.ensures.value
    ∙ ap (λ (ws : List (List WalkHop)). filter (is_through pair ws) (addresses c.topology-topology.result.now.ases)) hops
    ∙ ap (λ n. filter (is_through pair (open_walks links walks)) (addresses n.ases)) c.topology-topology.ensures in
    subst (λ (b : Bool). IsPairReport net rules limit (record {
      pair = pair;
      is_full = b;
      paths = c.len-paths.result;
      best = c.in_ok-best.best;
      survives = c.in_ok-losses_survived.field-0;
      needed = c.in_ok-needed_links.field-0.items;
      through = c.in_ok-needed_ases.field-0.items;
    })) full
    (reported_all net rules limit pair walks gathered c.len-paths.result c.in_ok-losses_survived.field-0 c.in_ok-best.best
    c.in_ok-needed_links.field-0.items c.in_ok-needed_ases.field-0.items (λ same. c.if-is_full.false (c.len.ensures ∙ same ∙ sym same_limit)) count some best
    (subst (λ (ws : List (List WalkHop)). IsSurvived links ws c.in_ok-losses_survived.field-0) hops
    (survived net.network (subst IsNetwork c.topology-topology.ensures c.known.ensures) found places c.in_ok-losses_survived.field-0 losses)) needed through)
