use Rattle.std.proofs.Common.{ℕ, ◌≤◌, List, length, subst, sym}
use Rattle.path_requests.proofs.Names.{short_name}
use Rattle.path_requests.proofs.fault.RequestFault.code_and_short_name.Goals as goal

pub returns-clause-short : goal.returns-clause-short
returns-clause-short c =
    subst (λ (name : List ℕ). length name ≤ 32) (sym c.code_and_name.ensures.name) (short_name c.args.self)
