use Rattle.std.specs.Fmt.{decimal}
use Rattle.isd_as.specs.Address.{canonical, canonical_as}
use Rattle.isd_as.proofs.Canonical.{Spells-canonical, SpellsIsd-decimal, SpellsAs-canonical_as}
use Rattle.isd_as.proofs.Spelled.{address_at-Spells, isd_at-SpellsIsd, as_number_at-SpellsAs}
use Rattle.isd_as.proofs.laws.printed_is_read.Goals as goal

pub returns : goal.returns
returns c = record {
  address = λ a fits. address_at-Spells (canonical a) a (Spells-canonical a fits);
  isd = λ n fits. isd_at-SpellsIsd (decimal n) n (SpellsIsd-decimal n fits);
  as_number = λ n fits. as_number_at-SpellsAs (canonical_as n) n (SpellsAs-canonical_as n fits);
}
