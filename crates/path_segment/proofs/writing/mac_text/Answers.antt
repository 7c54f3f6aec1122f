use Rattle.std.proofs.Common.{arith}
use Rattle.hex.proofs.HexLemmas.{decode_sized-encode_lower}
use Rattle.path_segment.proofs.writing.mac_text.Goals as goal

pub returns-clause-again : goal.returns-clause-again
returns-clause-again c = decode_sized-encode_lower c.args.mac.now 6 c.requires (λ i. omega (arith, c.type_inv.mac i))
