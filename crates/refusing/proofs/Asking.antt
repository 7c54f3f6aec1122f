-- `is_refused` and `count_back` at a call: what each is handed, and what a caller has of it.
-- Assumes `Logic`.
use Rattle.std.proofs.Common.{◌≡◌, ℕ, Bool, List, [], ◌∷◌, refl, ap}
use seplogic.Ra.Ura.{Ura}
use mir.Val.{Val, vunit, vbool, vptr}
use base.Logic.{SProp, ent, sep, ex, guard, id⊢}
use base.Fml.{Lft, Share, ftrue, fsep, flft}
use prog.Memory.{Memory}
use prog.Routine.{Routine}
use types.Logic.{Logic, sem}
use contract.Monad.{Fun}
use types.Kit.{‵, ◌⊛◌, some, later, ◌$◌, ◌∵◌, !, qed, move, keep, use1, split, join, pick, fjoin, feq_i, feq_l, check, show, await, updating, now as at_once, done}
use denote.RattleType.{RattleType}
use denote.Memory.{hidden_shr}
use denote.Builtin.{bool, unit}
use denote.Steps.{nothing, only}
use denote.Triple.Statement.{Contract}
use denote.Triple.Spec.{triple_of}
use Rattle.std.specs.contracts.cell.Cell as CE
use Rattle.refusing.specs.contracts.Plan as PL
use Rattle.refusing.specs.contracts.is_refused as IR
use Rattle.refusing.specs.contracts.count_back as CB

abbrev Held : RattleType
Held = CE.the_row PL.the_row

-- all that a proof sees of the plan's cell
abbrev pub cell : Held.Denot
cell = record { value = tt }

module _ {M : Type 1} {𝓤 : Ura M} (𝓛 : Logic 𝓤) (at_mem : Memory → SProp 𝓤) (run : Routine
    → Fun 𝓤) where
  abbrev pub Asks : Contract 𝓤
  Asks = triple_of 𝓛 IR.signature (IR.spec 𝓛 at_mem run)

  abbrev pub at_asks : Lft → Share → ℕ × ℕ → Asks.Ghost
  at_asks κ q c = (
    (
      (κ, tt),
      (q, tt),
      tt,
      (
        record { ref_ptr = c; now = cell },
        tt,
      ),
      (vptr c.0 c.1 ∷ [], tt),
    ),
    tt,
  )

  abbrev pub Back : Contract 𝓤
  Back = triple_of 𝓛 CB.signature (CB.spec 𝓛 at_mem run)

  abbrev pub at_back : Lft → Share → ℕ × ℕ → Back.Ghost
  at_back κ q c = (
    (
      (κ, tt),
      (q, tt),
      tt,
      (
        record { ref_ptr = c; now = cell },
        tt,
      ),
      (vptr c.0 c.1 ∷ [], tt),
    ),
    tt,
  )

module _ {M : Type 1} {𝓤 : Ura M} (𝓛 : Logic 𝓤) (at_mem : Memory → SProp 𝓤) (run : Routine
    → Fun 𝓤) (κ : Lft) (q : Share) (c : ℕ × ℕ) where
  open 𝓛 use {H, A}

  pub Asks-goes : ent 𝓤 (sep 𝓤 (sem 𝓛 (hidden_shr Held κ cell c.0 c.1)) (A.lft κ q)) ((Asks 𝓛
      at_mem run).pre (at_asks 𝓛 at_mem run κ q c))
  Asks-goes =
      qed 𝓛 (‵ (hidden_shr Held κ cell c.0 c.1) ∷ ‵ (flft κ q) ∷
      []) ∵ feq_i ! (List Val) (vptr c.0 c.1 ∷ []) (vptr c.0 c.1 ∷ []) refl $ fjoin ! $
      nothing ! $ move ! (1 ∷ []) $ fjoin ! $ nothing ! $ move ! (2 ∷ []) $ join ! $ join ! $
      nothing ! $ move ! (1 ∷ []) $ done !

  pub Asks-gives : (v : Val) → ent 𝓤 ((Asks 𝓛 at_mem run).post (at_asks 𝓛 at_mem run κ q c) v) (H.⇛
      (ex 𝓤 (λ (y : Bool). guard 𝓤 (v ≡ vbool y) (A.lft κ q))))
  Asks-gives v =
      qed 𝓛 (types.Kit.raw ((Asks 𝓛 at_mem run).post (at_asks 𝓛 at_mem run κ q c) v) ∷
      []) ∵ updating ! $
      use1 𝓛 (later (some (λ (r : Bool). ((‵ (flft κ q) ⊛ ‵ ftrue) ⊛ ‵ (bool.own_val r (v ∷
      []))) ⊛ some (λ (ws : Unit {0} × Unit {0}). ‵ (fsep ftrue ftrue) ⊛ ‵ ftrue)))) (id⊢ 𝓤 _) $
      await ! tt $ pick ! (λ r.
      split ! $ split ! $ move ! (1 ∷ []) $ feq_l ! (λ e. split ! $ at_once ! $
      show ! (λ (y : Bool). guard 𝓤 (v ≡ vbool y) (A.lft κ q)) r $ check ! (ap only e) $
      keep ! (0 ∷ []) $ done !))

  pub Back-goes : ent 𝓤 (sep 𝓤 (sem 𝓛 (hidden_shr Held κ cell c.0 c.1)) (A.lft κ q)) ((Back 𝓛
      at_mem run).pre (at_back 𝓛 at_mem run κ q c))
  Back-goes =
      qed 𝓛 (‵ (hidden_shr Held κ cell c.0 c.1) ∷ ‵ (flft κ q) ∷
      []) ∵ feq_i ! (List Val) (vptr c.0 c.1 ∷ []) (vptr c.0 c.1 ∷ []) refl $ fjoin ! $
      nothing ! $ move ! (1 ∷ []) $ fjoin ! $ nothing ! $ move ! (2 ∷ []) $ join ! $ join ! $
      nothing ! $ move ! (1 ∷ []) $ done !

  pub Back-gives : (v : Val) → ent 𝓤 ((Back 𝓛 at_mem run).post (at_back 𝓛 at_mem run κ q c) v) (H.⇛
      (guard 𝓤 (v ≡ vunit) (A.lft κ q)))
  Back-gives v =
      qed 𝓛 (types.Kit.raw ((Back 𝓛 at_mem run).post (at_back 𝓛 at_mem run κ q c) v) ∷
      []) ∵ updating ! $
      use1 𝓛 (later (some (λ (r : Unit {0}). ((‵ (flft κ q) ⊛ ‵ ftrue) ⊛ ‵ (unit.own_val r (v ∷
      []))) ⊛ some (λ (ws : Unit {0} × Unit {0}). ‵ (fsep ftrue ftrue) ⊛ ‵ ftrue)))) (id⊢ 𝓤 _) $
      await ! tt $ pick ! (λ r.
      split ! $ split ! $ move ! (1 ∷ []) $ feq_l ! (λ e. split ! $ at_once ! $
      check ! (ap only e) $ keep ! (0 ∷ []) $ done !))
