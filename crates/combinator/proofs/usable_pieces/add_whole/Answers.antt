use Rattle.std.proofs.Common.{All, sym, subst}
use Rattle.std.proofs.lemmas.List.Elements.{All-push}
use Rattle.combinator.specs.Candidate.{IsOf}
use Rattle.combinator.proofs.usable_pieces.add_whole.Goals as goal

pub returns-clause-own : goal.returns-clause-own
returns-clause-own c = λ set own all.
    subst (All (IsOf set)) (sym c.in_ok-push.ensures.items)
    (All-push (IsOf set) c.args.usable_pieces.now.items c.new.result all (subst (IsOf set) (sym c.new.ensures) own))
