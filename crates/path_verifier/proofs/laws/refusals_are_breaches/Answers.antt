use Rattle.path_verifier.proofs.Breaches.{accepted_in_parts, refusal_is_one, refused_is_not_accepted}
use Rattle.path_verifier.proofs.laws.refusals_are_breaches.Goals as goal

pub returns : goal.returns
returns c = record {
  parts = accepted_in_parts;
  one = refusal_is_one;
  either = refused_is_not_accepted;
}
