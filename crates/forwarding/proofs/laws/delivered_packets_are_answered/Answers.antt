use Rattle.forwarding.proofs.Replies.{header_turned, back_in_time, back_expired, sound_turned}
use Rattle.forwarding.proofs.laws.delivered_packets_are_answered.Goals as goal

pub returns : goal.returns
returns c = record {
  header = header_turned;
  in_time = back_in_time;
  late = back_expired;
  sound = sound_turned;
}
