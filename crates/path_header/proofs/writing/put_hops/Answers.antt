use Rattle.path_header.specs.Spelling.{hop_spelling, HopFits}
use Rattle.path_header.proofs.OneField.{length-hop_spelling}
use Rattle.path_header.proofs.Room.{one_more}
use Rattle.path_header.proofs.writing.put_hops.Goals as goal

pub loop-i-preserved : goal.loop-i-preserved
loop-i-preserved c =
    one_more hop_spelling 12 HopFits c.args.hops.now c.args.room.now c.loop-i.room c.put.new.room c.args.at c.loop-i.i c.index-hops-i.result c.index-hops-i.result c.hop_bytes.result
    c.loop-i-test.true c.index-hops-i.is c.hop_bytes.ensures.text (length-hop_spelling c.index-hops-i.result c.hop_bytes.ensures.fits) c.hop_bytes.ensures.fits c.requires c.put.ensures c.loop-i.invariant
