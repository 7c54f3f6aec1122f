use Rattle.std.proofs.Common.{arith, ◌∙◌, ◌≡◌, ◌+◌, length, sym}
use Rattle.std.proofs.lemmas.List.{length_push}
use Rattle.path_verifier.specs.Walk.{hops_of}
use Rattle.path_verifier.proofs.Hops.{one_more, none_more, length_hops_of}
use Rattle.path_verifier.proofs.walk.Walk.push_later.Goals as goal

pub loop-place-preserved : goal.loop-place-preserved
loop-place-preserved c =
    let hops = hops_of c.args.piece.now in
    let longer : length c.push.new.self ≡ length c.loop-place.self + 1 =
    rw c.push.ensures (length_push c.loop-place.self c.hop.result) in
    record {
      told = rw c.push.ensures
          (one_more c.loop-place.self hops c.loop-place.place c.hop.result c.hop.ensures ∙ c.loop-place.invariant.told);
      room = omega (arith, c.loop-place.invariant.room, longer);
    }

pub returns : goal.returns
returns c =
    let hops = hops_of c.args.piece.now in
    let count = length_hops_of c.args.piece.now in
    sym (none_more c.loop-place.self hops c.loop-place.place (omega arith)) ∙ c.loop-place.invariant.told
