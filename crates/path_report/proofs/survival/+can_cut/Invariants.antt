-- None of the links so far can be one of the others.
use Rattle.std.proofs.Common.{ℕ, Contains, take, ◌-◌, ◌++◌, ◌∷◌, []}
use Rattle.path_report.specs.inner.Cuts.{CannotCut}
use Rattle.path_report.proofs.survival.+can_cut.Given as goal

abbrev pub decreases-can_cut : goal.decreases-can_cut
decreases-can_cut l = l.more

abbrev pub invariant-loop-place : goal.invariant-loop-place
invariant-loop-place l = (place : ℕ) → Contains (take l.place-index l.place-items) place
    → CannotCut l.walks (l.lost ++ place ∷ []) (l.more - 1)
