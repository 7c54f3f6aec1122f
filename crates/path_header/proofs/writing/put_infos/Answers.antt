use Rattle.std.proofs.Common.{false, refl, slice_index_or}
use Rattle.path_header.specs.declared.fields.InfoField.{InfoField}
use Rattle.path_header.specs.Spelling.{info_spelling, InfoFits}
use Rattle.path_header.proofs.OneField.{length-info_spelling}
use Rattle.path_header.proofs.Room.{one_more}
use Rattle.path_header.proofs.writing.put_infos.Goals as goal

pub loop-i-preserved : goal.loop-i-preserved
loop-i-preserved c =
    let none : InfoField = record { construction = false; seg_id = 0; timestamp = 0 } in
    let x = slice_index_or c.args.infos.now c.loop-i.i none in
    one_more info_spelling 8 InfoFits c.args.infos.now c.args.room.now c.loop-i.room c.put.new.room c.args.at c.loop-i.i x none c.info_bytes.result
    c.loop-i-test.true refl c.info_bytes.ensures.text (length-info_spelling x) c.info_bytes.ensures.fits c.requires c.put.ensures c.loop-i.invariant
