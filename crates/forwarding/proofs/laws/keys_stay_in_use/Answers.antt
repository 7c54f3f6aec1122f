use Rattle.forwarding.proofs.Steady.{in_use_linked, in_use_keyed}
use Rattle.forwarding.proofs.Growing.{begun_in_use, passed_in_use, ended_in_use}
use Rattle.forwarding.proofs.laws.keys_stay_in_use.Goals as goal

pub returns : goal.returns
returns c = record {
  begun = begun_in_use;
  passed_on = passed_in_use;
  ended = ended_in_use;
  links = in_use_linked;
  others = in_use_keyed;
}
