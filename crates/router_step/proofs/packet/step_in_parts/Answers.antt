-- The step over what stands behind the addresses is that over the packet in one piece.
use Rattle.router_step.specs.Step.{step_of}
use Rattle.router_step.proofs.BehindAddresses.{StepsBytes}
use Rattle.router_step.proofs.InParts.{in_parts}
use Rattle.router_step.proofs.packet.step_in_parts.Goals as goal

pub returns : goal.returns
returns c =
    let view = c.args.view.now in
    let rest = c.args.rest.now in
    let new = c.step_behind.new.bytes in
    let result = c.step_behind.result in
    let source = c.source_in-source.result in
    let destination = c.destination_in-destination.result in
    let e = c.step_behind.ensures in
    let step = step_of view c.args.now c.args.arrival source destination in
    let steps : StepsBytes step rest new result =
    record { exact = e.exact; refused = e.refused; rest = e.rest; after = e.after } in
    record {
      exact = in_parts view c.args.now c.args.arrival c.args.addresses.now rest new source
          destination result c.requires.addresses c.requires.header c.source_in-source.ensures
          c.destination_in-destination.ensures steps;
    }
