use Rattle.std.proofs.Common.{arith, ◌∙◌, ◌≡◌, ◌+◌, length, sym}
use Rattle.std.proofs.lemmas.List.{length_push}
use Rattle.path_verifier.specs.Header.{fields_of}
use Rattle.path_verifier.proofs.Hops.{one_more, none_more}
use Rattle.path_verifier.proofs.Headers.{field_there, length_fields_of}
use Rattle.path_verifier.proofs.header.push_fields.Goals as goal

pub loop-place-preserved : goal.loop-place-preserved
loop-place-preserved c =
    let fields = fields_of c.args.piece.now in
    let there =
    field_there c.args.piece.now c.loop-place.place c.entry.result.now c.field_of.result c.entry.ensures c.field_of.ensures in
    let longer : length c.push.new.self.items ≡ length c.loop-place.fields.items + 1 =
    rw c.push.ensures.items (length_push c.loop-place.fields.items c.field_of.result) in
    record {
      told = rw c.push.ensures.items
          (one_more c.loop-place.fields.items fields c.loop-place.place c.field_of.result there ∙ c.loop-place.invariant.told);
      count = omega (arith, c.loop-place.invariant.count, longer);
    }

pub returns-clause-fields : goal.returns-clause-fields
returns-clause-fields c =
    let fields = fields_of c.args.piece.now in
    let count = length_fields_of c.args.piece.now in
    sym (none_more c.loop-place.fields.items fields c.loop-place.place (omega arith)) ∙ c.loop-place.invariant.told
