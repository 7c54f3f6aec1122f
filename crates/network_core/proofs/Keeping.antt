-- An event that does not name a packet leaves it as it is.
use Rattle.std.proofs.Common.{◌≡◌, ◌≢◌, ℕ, zero, suc, ◌<◌, List, [], ◌∷◌, ◌++◌, length, set, refl, sym, ap, ◌∙◌, subst, arith, inl, inr}
use Rattle.std.specs.Prelude.{slice_get}
use Rattle.network_core.specs.declared.reply.Reply.{Reply}
use Rattle.network_core.specs.Event.{EventValue, Turn, Lose, Alter}
use Rattle.network_core.specs.Value.{NetValue}
use Rattle.network_core.specs.Step.{packet_of, Step}
use Rattle.network_core.proofs.Effects.{IsMove, effect}

-- ---- lists

pub there_still : {A : Type 0} (xs ys : List A) (k : ℕ) → k < length xs
    → slice_get (xs ++ ys) k ≡ slice_get xs k
there_still [] ys k within = absurd (omega arith)
there_still (x ∷ xs) ys zero within = refl
there_still (x ∷ xs) ys (suc k) within = there_still xs ys k (omega arith)

set_elsewhere : {A : Type 0} (xs : List A) (i k : ℕ) (y : A) → i ≢ k
    → slice_get (set xs i y) k ≡ slice_get xs k
set_elsewhere [] i k y other = refl
set_elsewhere (x ∷ xs) zero zero y other = absurd (other refl)
set_elsewhere (x ∷ xs) zero (suc k) y other = refl
set_elsewhere (x ∷ xs) (suc i) zero y other = refl
set_elsewhere (x ∷ xs) (suc i) (suc k) y other = set_elsewhere xs i k y (λ same. other (ap suc same))

-- ---- the packet

-- the event names it
abbrev pub Names : ℕ → EventValue → Type 0
Names p (Turn q) = q ≡ p
Names p (Lose q) = q ≡ p
Names p (Alter q at change) = q ≡ p
Names p event = ⊥

abbrev pub Keeps : ℕ → NetValue → NetValue → Type 0
Keeps p old new = slice_get new.packets p ≡ slice_get old.packets p

-- an event that changes a packet names it
named : (p : ℕ) (old new : NetValue) (event : EventValue) (m : IsMove old event new) → m.number ≡ p
    → Names p event
named p old new event m same = elim m.how [
  | inl turn ↦ subst (Names p) (sym turn.0) same
  | inr some ↦ elim some [
    | inl loss ↦ subst (Names p) (sym loss.0) same
    | inr alteration ↦ subst (Names p) (sym alteration.event_is) same
  ]
]

pub kept : (p : ℕ) (old new : NetValue) (event : EventValue) (reply : Reply)
    → p < length old.packets → ¬ (Names p event) → Step old event reply new → Keeps p old new
kept p old new event reply within other is = elim (effect old new event reply is).packets [
  | inl same ↦ ap (λ ps. slice_get ps p) same
  | inr some ↦ elim some [
    | inl d ↦ ap (λ ps. slice_get ps p) d.packets
        ∙ there_still old.packets (packet_of d.sent d.router ∷ []) p within
    | inr m ↦ ap (λ ps. slice_get ps p) m.packets
        ∙ set_elsewhere old.packets m.number p (record m.one { packet = m.packet })
        (λ same. other (named p old new event m same))
  ]
]
