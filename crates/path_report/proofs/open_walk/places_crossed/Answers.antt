-- One hop more, which crosses a link or leaves by no link.
use Rattle.std.proofs.Common.{rules}
use Rattle.path_report.proofs.Placing.{places_next}
use Rattle.path_report.proofs.open_walk.places_crossed.Goals as goal
use Rattle.path_report.proofs.open_walk.places_crossed.Goals.{in-Some+in_ok-push, in_default}

pub loop-number-preserved : goal.loop-number-preserved
loop-number-preserved c =
    let next = places_next c.args.topology.now.links c.args.walk.now c.loop-number.number c.index-walk-number.result
    c.loop-number-test.true c.index-walk-number.is in
    let left = c.in_ok-left_by.ensures.place in
    let so_far = c.loop-number.invariant.places in
    record {
      known = c.in_ok-left_by.ensures.known;
      places = elim c.match-left_by.branch [
        | in-Some+in_ok-push w ↦ search (rules, next, left, so_far)
        | in_default w ↦ search (rules, next, left, so_far)
      ];
    }
