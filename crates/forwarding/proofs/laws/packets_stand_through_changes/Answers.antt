use Rattle.forwarding.proofs.Lasting.{stands_linked, stands_keyed}
use Rattle.forwarding.proofs.laws.packets_stand_through_changes.Goals as goal

pub returns : goal.returns
returns c = record { links = stands_linked; keys = stands_keyed }
