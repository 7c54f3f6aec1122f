use Rattle.std.proofs.Common.{◌≡◌, ◌+◌, ◌∷◌, ◌++◌, [], List, drop, sym, subst}
use Rattle.policy_expr.specs.declared.hop.WalkHop.{WalkHop}
use Rattle.policy_expr.proofs.Passes.{Goes, goes_further, next_hop}
use Rattle.policy_expr.proofs.table.Table.matches.Goals as goal

pub loop-hop-preserved : goal.loop-hop-preserved
loop-hop-preserved g c =
    let i = c.loop-hop.hop-index in
    let before = c.in-Some.before.now in
    let h = c.hop-item.result in
    let parts : drop i before ≡ h ∷ drop (i + 1) before =
    next_hop before i h c.loop-hop-test.true c.hop-item.is in
    let further = goes_further c.args.self.now.lines.items c.args.self.now.ends c.loop-hop.wanted c.wanted_behind-wanted.result h c.in-Some.end.now (drop (i + 1) before) c.wanted_behind-wanted.ensures in
    let at : List WalkHop → Type 0 = λ w. Goes c.args.self.now.lines.items c.args.self.now.ends c.loop-hop.wanted (w ++ c.in-Some.end.now ∷ []) in
    record {
      wanted_within = λ k has. let s = (c.wanted_behind-wanted.ensures k).0 has in c.requires.next s.0 k s.3;
      rest = (
        λ yes. further.0 (subst at parts (c.loop-hop.invariant.rest.0 yes)),
        λ goes. c.loop-hop.invariant.rest.1 (subst at (sym parts) (further.1 goes)),
      );
    }
