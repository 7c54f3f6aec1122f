-- The accumulator of the segment behind does not change the next one's field.
use Rattle.path_header.specs.Borrowed.{value_of}
use Rattle.router_step.proofs.Leaving.{next_place}
use Rattle.router_step.proofs.place.in_next_segment.Goals as goal

pub returns : goal.returns
returns c seg_id here = next_place (value_of c.args.header.now) seg_id c.args.here.now c.info.result c.hop.result here c.info.ensures c.hop.ensures
