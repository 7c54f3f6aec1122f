-- Each kind of step keeps the rule of the board.
use Rattle.std.proofs.Common.{◌≡◌, ◌≢◌, ℕ, List, set, Option, Some, None, refl, subst, ⊎_elim}
use mathlib.Core.Option.{some}
use lib.ListN.{get_elem?}
use Rattle.left_right.specs.Register.{Admits, TurnsAt, Forks, Merges}
use Rattle.atomic_table.proofs.Lists.{at_set, at_snoc, set_again}
use Rattle.segment_board.specs.History.{KnownHistory}
use Rattle.segment_board.specs.inner.History.{ContinuesFrom}
use Rattle.segment_board.specs.BoardState.{BoardValue}
use Rattle.segment_board.specs.inner.BoardState.{IsTied}
use Rattle.segment_board.specs.inner.Rule.{FitsView, KeepsViews, opening_only, begun_as}
use Rattle.segment_board.proofs.Following.{goes_self, goes_trans}

fits_on : (x y : BoardValue) (u : Option KnownHistory) → ContinuesFrom x.front y.front → FitsView x u → FitsView y u
fits_on x y None on h = tt
fits_on x y (Some z) on h = goes_trans z x.front y.front h on

-- a thread sees what lies on the board, which goes on from what lay there
turned : (seat : ℕ) (x y : BoardValue) (views : List (Option KnownHistory)) → IsTied y
    → ContinuesFrom x.front y.front → KeepsViews x views → KeepsViews y (set views seat (Some y.front))
turned seat x y views tied on h =
    let all = goes_trans (opening_only x.front) x.front y.front h.begins on in
    record {
      tied = tied;
      begins = record { board = refl; history = all.history; newer = all.newer };
      fits = λ j u e. ⊎_elim (λ (t : (j ≡ seat) × (Some y.front ≡ u)). subst (λ (z : Option KnownHistory). FitsView y z) t.1 (goes_self y.front))
          (λ (t : (j ≢ seat) × (get_elem? views j ≡ some u)). fits_on x y u on (h.fits j u t.1))
          (at_set views seat j (Some y.front) u e);
    }

-- entering
pub enters : (seat : ℕ) (v : Option KnownHistory) (x : BoardValue)
    → TurnsAt KeepsViews seat v x x (λ v x y w. (w ≡ Some x.front) × IsTied x × FitsView x v)
enters seat v x views h at =
    (Some x.front, turned seat x x views h.tied (goes_self x.front) h, (refl, h.tied, h.fits seat v at))

-- publishing what is tied to its history, and goes on from what lay there
pub publishes : (seat : ℕ) (v : Option KnownHistory) (x y : BoardValue) → IsTied y
    → ContinuesFrom x.front y.front → TurnsAt KeepsViews seat v x y (λ v x y w. w ≡ Some y.front)
publishes seat v x y tied on views h at = (Some y.front, turned seat x y views tied on h, refl)

-- giving a reader its place
pub admits : Admits KeepsViews None
admits x views h = record {
  tied = h.tied;
  begins = h.begins;
  fits = λ j u e. ⊎_elim (h.fits j u) (λ (same : None ≡ u). subst (λ (z : Option KnownHistory). FitsView x z) same tt) (at_snoc views None u j e);
}

begun_fits : (x : BoardValue) (v : Option KnownHistory) → ContinuesFrom (opening_only x.front) x.front
    → FitsView x v → FitsView x (begun_as v)
begun_fits x None begins h = tt
begun_fits x (Some y) begins h = record { board = h.board; history = begins.history; newer = begins.newer }

-- telling a reader which board it is
pub forks : (seat : ℕ) (v : Option KnownHistory) → Forks KeepsViews seat v v (begun_as v)
forks seat v x views h at = record {
  tied = h.tied;
  begins = h.begins;
  fits = λ j u e. ⊎_elim (λ (t : get_elem? (set views seat v) j ≡ some u). h.fits j u (subst (λ (l : List (Option KnownHistory)). get_elem? l j ≡ some u) (set_again views seat v at) t))
      (λ (same : begun_as v ≡ u). subst (λ (z : Option KnownHistory). FitsView x z) same (begun_fits x v h.begins (h.fits seat v at)))
      (at_snoc (set views seat v) (begun_as v) u j e);
}

-- learning it
pub merges : (seat : ℕ) (v : Option KnownHistory) (other : ℕ) (w : Option KnownHistory)
    → Merges KeepsViews seat v other w w None
merges seat v other w x views h at apart there =
    let theirs : FitsView x w =
    ⊎_elim (λ (t : (other ≡ seat) × (w ≡ w)). absurd (apart t.0)) (λ (t : (other ≢ seat) × (get_elem? views other ≡ some w)). h.fits other w t.1) (at_set views seat other w w there) in
    record {
      tied = h.tied;
      begins = h.begins;
      fits = λ j u e. ⊎_elim (λ (t : (j ≡ other) × (None ≡ u)). subst (λ (z : Option KnownHistory). FitsView x z) t.1 tt)
          (λ (t : (j ≢ other) × (get_elem? (set views seat w) j ≡ some u)).
          ⊎_elim (λ (s : (j ≡ seat) × (w ≡ u)). subst (λ (z : Option KnownHistory). FitsView x z) s.1 theirs)
          (λ (s : (j ≢ seat) × (get_elem? views j ≡ some u)). h.fits j u s.1)
          (at_set views seat j w u t.1))
          (at_set (set views seat w) other j None u e);
    }
