-- Lines with three members of which some are no plain numbers.
use Rattle.std.proofs.Common.{refl, sym}
use Rattle.event_lines.specs.Line.{plain_lines}
use Rattle.event_lines.proofs.line.plain.Goals as goal

pub returns-in_ok-read_u16-in-originate : goal.returns-in_ok-read_u16-in-originate
unfolding plain_lines
returns-in_ok-read_u16-in-originate c =
    rw (
      c.in-originate.is,
      sym c.in_ok-read_address-in-originate.ensures,
      sym c.in_ok-interface-in-originate.ensures,
      sym c.in_ok-read_u16-in-originate.ensures,
    )
    refl

pub returns-in_ok-interface-in-extend : goal.returns-in_ok-interface-in-extend
unfolding plain_lines
returns-in_ok-interface-in-extend c =
    rw (
      c.in-extend.is,
      sym c.in_ok-read_u32-in-extend.ensures,
      sym c.in_ok-read_address-in-extend.ensures,
      sym c.in_ok-interface-in-extend.ensures,
    )
    refl
