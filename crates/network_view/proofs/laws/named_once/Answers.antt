-- By the rules of networks, and since addresses are read back from their texts.
use Rattle.network_view.proofs.Addresses.{box_name-one}
use Rattle.network_view.proofs.laws.named_once.Goals as goal

pub returns-clause-names : goal.returns-clause-names
returns-clause-names c = box_name-one

pub returns-clause-ases : goal.returns-clause-ases
returns-clause-ases c network right = right.once

pub returns-clause-links : goal.returns-clause-links
returns-clause-links c network right = right.interfaces
