use Rattle.std.proofs.Common.{rules, ◌≡◌, ◌≤◌, ◌<◌, ◌++◌, ◌∷◌, [], length, sym, ap, subst, ◌∙◌, arith}
use Rattle.std.proofs.lemmas.List.{length_push}
use Rattle.std.specs.List.{AllWithin, insert}
use Rattle.path_server.specs.Expiry.{IsEarliestExpiry}
use Rattle.path_server.specs.Index.{IsIndex, rank_at}
use Rattle.path_server.specs.inner.Blocks.{joined, position}
use Rattle.path_server.proofs.Found.{spot_within}
use Rattle.path_server.proofs.Growing.{grown_is_index, index_rises}
use Rattle.path_server.proofs.Lasting.{earliest_with}
use Rattle.path_server.proofs.store.PathStore.take_in.Goals as goal

pub find_in-spot-requires-clause-rises : goal.find_in-spot-requires-clause-rises
find_in-spot-requires-clause-rises c =
    let old : IsIndex c.deref.result.now (joined c.all.result.now) = search rules in
    index_rises c.deref.result.now (joined c.all.result.now) old (omega (arith, c.deref.ensures.len, c.self.inside.segments.ok.0, c.self.inside.segments.small))

pub invariant_of-self-inside-in-Err-push : goal.invariant_of-self-inside-in-Err-push
invariant_of-self-inside-in-Err-push c =
    let same : c.push.new.self.items ≡ c.self.inside.segments.items = search rules in
    let long = ap length same in (
      subst (λ all. IsIndex all (joined c.make_room.new.self.blocks.items)) (sym same)
          (subst (IsIndex c.self.inside.segments.items) (sym c.make_room.ensures.same) c.self.inside.agreed),
      (
        omega (arith, long, c.self.inside.room, c.make_count_room.ensures.kept),
        (subst (λ all. IsEarliestExpiry all c.self.inside.least_expiry) (sym same) c.self.inside.earliest, tt),
      ),
    )

pub invariant_of-self-inside-2 : goal.invariant_of-self-inside-2
invariant_of-self-inside-2 c =
    let segments = c.deref.result.now in
    let bs = c.all.result.now in
    let spot = c.find_in-spot.result in
    let at = position bs spot.block spot.offset in
    let index = joined bs in
    let found = c.find_in-spot.ensures in
    let old : IsIndex segments index = search rules in
    let below = subst (λ n. AllWithin (λ place. rank_at segments place ≤ n) index 0 at) c.of.ensures.number found.below in
    let rest =
    subst (λ n. AllWithin (λ place. n < rank_at segments place) index at (length index)) c.of.ensures.number found.rest in
    let long = c.deref.ensures.len in
    let place : c.len-place.result ≡ length segments = c.len-place.ensures ∙ sym long in
    let grown =
    grown_is_index segments c.args.segment index at old c.of.ensures.addresses (omega (arith, place, c.len-place.type_inv)) (spot_within bs spot.block spot.offset found.spot) below rest in
    let pushed = c.in_default-push.ensures.items ∙ ap (λ all. all ++ c.args.segment ∷ []) (sym c.deref.ensures.value) in
    let number = length_push segments c.args.segment in
    let put = c.in-Ok.spot in
    let inserted =
    c.put.ensures
    ∙ ap (λ all. insert all (position c.make_room.new.self.blocks.items put.block put.offset) c.len-place.result) c.in-Ok.ensures.same
    ∙ ap (λ n. insert (joined c.self.inside.index.blocks.items) n c.len-place.result) c.in-Ok.ensures.position
    ∙ ap (λ all. insert (joined all) (position all spot.block spot.offset) c.len-place.result) (sym c.all.ensures.all)
    ∙ ap (insert index at) place in
    let earliest = earliest_with segments c.args.segment c.self.inside.least_expiry c.least_expiry-expiry.result c.min-self-inside.result
    (subst (λ all. IsEarliestExpiry all c.self.inside.least_expiry) (sym c.deref.ensures.value) c.self.inside.earliest)
    c.least_expiry-expiry.ensures c.min-self-inside.ensures in (
      subst (λ all. IsIndex all (joined c.put.new.self.blocks.items)) (sym pushed)
          (subst (IsIndex (segments ++ c.args.segment ∷ [])) (sym inserted) grown),
      (
        omega (arith, ap length pushed, number, place, c.in-Ok-make_count_room.ensures.room),
        (subst (λ all. IsEarliestExpiry all c.min-self-inside.result) (sym pushed) earliest, tt),
      ),
    )
