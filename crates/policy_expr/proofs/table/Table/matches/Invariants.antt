use Rattle.std.proofs.Common.{ℕ, ◌<◌, ◌↔◌, ◌++◌, ◌∷◌, [], drop, length}
use Rattle.policy_expr.specs.Sets.{Has}
use Rattle.policy_expr.specs.Table.{Accepts}
use Rattle.policy_expr.proofs.Passes.{Goes}
use Rattle.policy_expr.proofs.table.Table.matches.Given as goal

-- the walk is a word where the hops that are left go on with what is wanted
abbrev pub invariant-loop-hop : goal.invariant-loop-hop
invariant-loop-hop g l = record {
  wanted_within : (k : ℕ) → Has l.wanted k → k < length l.self.lines.items;
  rest : Accepts l.self.lines.items l.self.ends l.fn.walk ↔ Goes l.self.lines.items l.self.ends l.wanted (drop l.hop-index l.before ++ l.end ∷ []);
}
