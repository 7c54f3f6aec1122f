use Rattle.std.proofs.Common.{◌≡◌, ◌*◌, ◌/◌, ◌<◌, ap, arith, length}
use Rattle.path_server.specs.inner.Blocks.{kept_before}
use Rattle.path_segment.specs.Tests.{is_live}
use Rattle.path_server.proofs.Swept.{counted}
use Rattle.path_server.proofs.sweeps.count_before.Goals as goal

pub returns : goal.returns
returns c =
    let segments = c.args.segments.now in
    let start = c.args.place / 8 in
    let there : start < length c.args.counts.now = omega (arith, c.requires.counts.long, c.requires.within) in
    let front = c.requires.counts.each start 0 there in
    let same : 8 * start ≡ start * 8 = omega arith in
    let parts = counted (is_live c.args.now) segments (start * 8) c.args.place (omega arith) in
    let first = ap (kept_before c.args.now segments) same in
    omega (arith, front, parts, first, c.count_live.ensures)
