use Rattle.scion_topology.proofs.Lasting.{changed_shows, others_stay, up_stays}
use Rattle.scion_topology.proofs.laws.named_link_changes.Goals as goal

pub returns : goal.returns
returns c = record {
  both_ends = λ n m up x y far_ia far_number. changed_shows up x y far_ia far_number n m;
  others = λ n m up x y ia number far_ia far_number. others_stay up x y ia number far_ia far_number n m;
  mended = λ n m x y ia number entry. up_stays x y ia number n m entry;
}
