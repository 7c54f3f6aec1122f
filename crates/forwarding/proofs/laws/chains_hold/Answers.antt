use Rattle.forwarding.proofs.Steady.{mended_holds, cut_holds, rotated_holds, renewed_holds}
use Rattle.forwarding.proofs.Growing.{begun_holds, passed_holds, ended_holds}
use Rattle.forwarding.proofs.laws.chains_hold.Goals as goal

pub returns : goal.returns
returns c = record {
  begun = begun_holds;
  passed_on = passed_holds;
  ended = ended_holds;
  mended = mended_holds;
  cut = cut_holds;
  others = rotated_holds;
  own = renewed_holds;
}
