use Rattle.std.proofs.Common.{sym, ◌∙◌}
use Rattle.refusal.proofs.Steps.{ok_is}
use Rattle.isd_as.proofs.Spelled.{address_at-Spells, isd_at-SpellsIsd, as_number_at-SpellsAs}
use Rattle.isd_as.proofs.laws.spelled_is_one.Goals as goal

pub returns : goal.returns
returns c = record {
  address = λ text a b first second. ok_is a b (sym (address_at-Spells text a first) ∙ address_at-Spells text b second);
  isd = λ text m n first second. ok_is m n (sym (isd_at-SpellsIsd text m first) ∙ isd_at-SpellsIsd text n second);
  as_number = λ text m n first second. ok_is m n (sym (as_number_at-SpellsAs text m first) ∙ as_number_at-SpellsAs text n second);
}
