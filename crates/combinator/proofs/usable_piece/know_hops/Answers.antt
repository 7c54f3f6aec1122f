use Rattle.std.proofs.Common.{subst}
use Rattle.path_segment.specs.declared.entry.Entry.{Entry}
use Rattle.path_header.specs.Spelling.{HopFits}
use Rattle.path_verifier.specs.Header.{field_of}
use Rattle.combinator.proofs.Collected.{all_more, all_taken}
use Rattle.combinator.proofs.usable_piece.know_hops.Goals as goal

pub loop-entry-preserved : goal.loop-entry-preserved
loop-entry-preserved c =
    all_more (λ (entry : Entry). HopFits (field_of entry)) c.args.entries.now c.loop-entry.entry-index c.entry-item.result c.loop-entry-test.true c.entry-item.is c.loop-entry.invariant
    (subst HopFits c.field_of.ensures c.hop_bytes.ensures.fits)

pub returns : goal.returns
returns c =
    all_taken (λ (entry : Entry). HopFits (field_of entry)) c.args.entries.now c.loop-entry.entry-index c.loop-entry-test.false c.loop-entry.invariant
