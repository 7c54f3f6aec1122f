use Rattle.path_verifier.specs.Piece.{travelled_entries}
use Rattle.combinator.proofs.Least.{all_from, equal_here, decided_here}
use Rattle.combinator.proofs.usable_piece.compare_hop_fields.Goals as goal

pub loop-place-init : goal.loop-place-init
loop-place-init c = all_from c.args.one.now c.args.other.now

pub loop-place-preserved : goal.loop-place-preserved
loop-place-preserved c =
    equal_here _ (travelled_entries c.args.one.now) (travelled_entries c.args.other.now) c.loop-place.place
    c.entry.result.now c.entry-in-loop-place.result.now c.compare_bytes.result c.loop-place.invariant
    c.entry.ensures c.entry-in-loop-place.ensures c.compare_bytes.ensures.same c.compare_bytes.ensures.value c.in-Equal.is

pub returns-in_default : goal.returns-in_default
returns-in_default c =
    decided_here _ (travelled_entries c.args.one.now) (travelled_entries c.args.other.now) c.loop-place.place
    c.entry.result.now c.entry-in-loop-place.result.now c.compare_bytes.result c.loop-place.invariant
    c.entry.ensures c.entry-in-loop-place.ensures c.compare_bytes.ensures.same c.compare_bytes.ensures.value c.in_default.not-Equal
