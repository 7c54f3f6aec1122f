use Rattle.std.proofs.Common.{subst}
use Rattle.path_verifier.specs.PieceSlots.{pieces_in}
use Rattle.path_verifier.specs.inner.Header.{HaveSixBits}
use Rattle.path_verifier.proofs.Headers.{is_header, length-pieces_in}
use Rattle.path_verifier.proofs.header.header_of.Goals as goal

pub header_of_lists-requires : goal.header_of_lists-requires
header_of_lists-requires c =
    rw (c.infos_of.ensures, c.fields_of_all.ensures, c.lens_of.ensures.value)
    (is_header (pieces_in c.args.held.now) c.requires.some (length-pieces_in c.args.held.now) c.requires.ranges c.requires.few (subst HaveSixBits c.lens_of.ensures.value c.lens_of.ensures.few))
