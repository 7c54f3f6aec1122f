use Rattle.beaconing.proofs.Made.{extended_grows, terminated_grows}
use Rattle.beaconing.proofs.Coming.{comes_over}
use Rattle.beaconing.proofs.laws.chains_grow_by_one.Goals as goal

pub returns : goal.returns
returns c = record { extended = extended_grows; terminated = terminated_grows; came = comes_over }
