use Rattle.isd_as.proofs.Canonical.{Spells-canonical, SpellsIsd-decimal, SpellsAs-canonical_as}
use Rattle.isd_as.proofs.laws.printed_is_spelled.Goals as goal

pub returns : goal.returns
returns c = record { address = Spells-canonical; isd = SpellsIsd-decimal; as_number = SpellsAs-canonical_as }
