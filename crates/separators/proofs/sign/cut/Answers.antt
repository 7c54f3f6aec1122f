use Rattle.separators.proofs.Cut.{cut_is}
use Rattle.separators.proofs.sign.cut.Goals as goal

pub returns : goal.returns
returns c = cut_is c.args.sign c.args.text.now c.split_once.result (c.split_once.ensures.byte c.requires (λ w o found. found))
