use Rattle.std.proofs.Common.{◌<◌, false, length, arith, slice_index_or}
use Rattle.std.proofs.lemmas.List.{get_or_default}
use Rattle.std.proofs.lemmas.List.Edits.{map_over_more}
use Rattle.path_header.specs.declared.fields.InfoField.{InfoField}
use Rattle.path_header.specs.Reversal.{turned_info}
use Rattle.path_header.proofs.reversal.turn.Goals as goal

pub loop-info-preserved : goal.loop-info-preserved
loop-info-preserved c =
    let none : InfoField = record { construction = false; seg_id = 0; timestamp = 0 } in
    let i = c.loop-info.info-index in
    let x = slice_index_or c.loop-info.infos i none in
    let below : i < length c.loop-info.infos = omega arith in
    map_over_more turned_info c.args.infos.now c.loop-info.infos i x c.loop-info-test.true c.loop-info.invariant (get_or_default c.loop-info.infos i none x below)
