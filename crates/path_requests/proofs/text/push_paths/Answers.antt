use Rattle.path_requests.proofs.Ranges.{first_has, later_has}
use Rattle.path_requests.proofs.text.push_paths.Goals as goal

pub path-requires : goal.path-requires
path-requires c =
    first_has c.args.paths.now c.in-Some.first.now c.in-Some.later.now c.in-Some.ensures.cases.0 c.requires

pub path-requires-in-loop-one : goal.path-requires-in-loop-one
path-requires-in-loop-one c =
    later_has c.args.paths.now c.in-Some.first.now c.in-Some.later.now c.loop-one.one-index c.one-item.result
    c.in-Some.ensures.cases.0 c.requires c.loop-one-test.true c.one-item.is
