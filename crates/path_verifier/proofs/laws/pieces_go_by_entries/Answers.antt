use Rattle.std.proofs.Common.{refl}
use Rattle.path_verifier.specs.Header.{field_of}
use Rattle.path_verifier.specs.Walk.{hop_of}
use Rattle.path_verifier.proofs.Entries.{length_travelled}
use Rattle.path_verifier.proofs.Hops.{length_hops_of, hop_there}
use Rattle.path_verifier.proofs.Headers.{length_fields_of, field_there}
use Rattle.path_verifier.proofs.laws.pieces_go_by_entries.Goals as goal

pub returns : goal.returns
returns c = record {
  entries = length_travelled;
  hops = length_hops_of;
  fields = length_fields_of;
  hop = λ piece i entry there. hop_there piece i entry (hop_of piece.along entry) there refl;
  field = λ piece i entry there. field_there piece i entry (field_of entry) there refl;
}
