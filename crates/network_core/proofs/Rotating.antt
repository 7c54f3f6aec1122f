-- Whether an AS has taken another key since a number of events, and what is kept from number to
-- number.
use Rattle.std.proofs.Common.{◌≡◌, ℕ, zero, suc, ◌+◌, ◌-◌, ◌<◌, ◌≤◌, ◌⊎◌, Bool, true, false, List, [], ◌∷◌, Some, None, refl, sym, ap, ◌∙◌, subst, arith, inl, inr}
use Rattle.std.specs.Prelude.{slice_get}
use Rattle.std.proofs.lemmas.Bool.{cases_eq, cases_lt}
use Rattle.std.proofs.lemmas.Option.{same_Some}
use Rattle.network_core.specs.Event.{EventValue, RotateKey}
use Rattle.network_core.specs.Value.{NetValue}
use Rattle.network_core.specs.History.{EventRecord, IsHistory, net_at}
use Rattle.network_core.specs.Delivery.{is_done}
use Rattle.network_core.specs.Headline.{IsDone}
use Rattle.network_core.proofs.Issuing.{occurs_at}
use Rattle.network_core.proofs.Numbers.{StepAt, becomes_at, event_or_none}

-- ---- a done rotation

number_of : (ia x : ℕ) (key other : List ℕ) → RotateKey ia key ≡ RotateKey x other → ia ≡ x
number_of ia x key other e = cc

decide : (x : ℕ) (event : EventValue) (done : Bool)
    → ((key : List ℕ) × ((event ≡ RotateKey x key) × (done ≡ true)))
    ⊎ ((key : List ℕ) → event ≡ RotateKey x key → done ≡ true → ⊥)
decide x (RotateKey ia key) true = elim (cases_eq ia x) [
  | inl same ↦ inl (key, (ap (λ i. RotateKey i key) same, refl))
  | inr other ↦ inr (λ k e d. other (number_of ia x key k e))
]
decide x (RotateKey ia key) false = inr (λ k e d. (let no_such : ⊥ = cc in no_such))
decide x event done = inr (λ k e d. (let no_such : ⊥ = cc in no_such))

moment_or_none : (history : List EventRecord) (k : ℕ)
    → ((m : EventRecord) × (slice_get history k ≡ Some m)) ⊎ (slice_get history k ≡ None)
moment_or_none [] k = inr refl
moment_or_none (m ∷ later) zero = inl (m, refl)
moment_or_none (m ∷ later) (suc k) = moment_or_none later k

-- event number k is this one, and was done
pub done_at : (history : List EventRecord) (k : ℕ) (m : EventRecord) (event : EventValue)
    → slice_get history k ≡ Some m → m.event ≡ event → is_done m.reply ≡ true → IsDone history k event
done_at history k m event there event_is done = record {
  reply = m.reply;
  occurs = occurs_at history k m event m.reply there event_is refl;
  done = done;
}

-- from number `begin` on and before number k no event takes another key of this AS into use
abbrev pub Unrotated : List EventRecord → ℕ → ℕ → ℕ → Type 0
Unrotated history begin k x =
    (j : ℕ) (key : List ℕ) → begin ≤ j → j < k → ¬ (IsDone history j (RotateKey x key))

-- one of these events does
abbrev pub WasRotated : List EventRecord → ℕ → ℕ → ℕ → Type 0
WasRotated history begin k x =
    (j : ℕ) × ((key : List ℕ) × ((begin ≤ j) × ((j < k) × IsDone history j (RotateKey x key))))

same_event : (history : List EventRecord) (j k : ℕ) (m : EventRecord) (event : EventValue) → j ≡ k
    → slice_get history k ≡ Some m → IsDone history j event
    → (m.event ≡ event) × (is_done m.reply ≡ true)
same_event history j k m event same there d =
    let e = same_Some m (record { event = event; reply = d.reply; net = d.occurs.net })
    (sym there ∙ ap (slice_get history) (sym same) ∙ d.occurs.there) in
    (ap (λ (x : EventRecord). x.event) e, ap (λ (x : EventRecord). is_done x.reply) e ∙ d.done)

none_there : (history : List EventRecord) (j k : ℕ) (event : EventValue) → j ≡ k
    → slice_get history k ≡ None → IsDone history j event → ⊥
none_there history j k event same none d =
    let e = sym none ∙ ap (slice_get history) (sym same) ∙ d.occurs.there in
    let no_such : ⊥ = cc in no_such

pub rotated_or : (history : List EventRecord) (begin x k : ℕ)
    → Unrotated history begin k x ⊎ WasRotated history begin k x
rotated_or history begin x zero = inl (λ j key low below d. (let no_such : ⊥ = omega arith in no_such))
rotated_or history begin x (suc k) = elim (rotated_or history begin x k) [
  | inr found ↦ (
      let before = found.1.1.1.0 in
      let later : found.0 < suc k = omega arith in
      inr (found.0, (found.1.0, (found.1.1.0, (later, found.1.1.1.1)))))
  | inl none ↦ elim (cases_lt k begin) [
    | inl early ↦ inl (λ j key low below d. (let no_such : ⊥ = omega arith in no_such))
    | inr from ↦ elim (moment_or_none history k) [
      | inl m ↦ elim (decide x m.0.event (is_done m.0.reply)) [
        | inl yes_it ↦ (
            let later : k < suc k = omega arith in
            inr (k, (yes_it.0, (from, (later, done_at history k m.0 (RotateKey x yes_it.0) m.1 yes_it.1.0 yes_it.1.1)))))
        | inr not_it ↦ inl (λ j key low below d. elim (cases_eq j k) [
          | inl same ↦ (let at = same_event history j k m.0 (RotateKey x key) same m.1 d in not_it key at.0 at.1)
          | inr other ↦ none j key low (omega arith) d
        ])
      ]
      | inr nothing ↦ inl (λ j key low below d. elim (cases_eq j k) [
        | inl same ↦ none_there history j k (RotateKey x key) same nothing d
        | inr other ↦ none j key low (omega arith) d
      ])
    ]
  ]
]

pub unrotated_before : (history : List EventRecord) (begin k x : ℕ) → Unrotated history begin (k + 1) x
    → Unrotated history begin k x
unrotated_before history begin k x none j key low below d = none j key low (omega arith) d

-- ---- from number to number

pub kept_from : (start : NetValue) (history : List EventRecord) (P : ℕ → Type 0) (i d : ℕ)
    → IsHistory start history
    → ((k : ℕ) (m : EventRecord) → i ≤ k → slice_get history k ≡ Some m → StepAt start history k m → P k
    → P (k + 1))
    → ((k : ℕ) → i ≤ k → net_at start history (k + 1) ≡ net_at start history k → P k → P (k + 1))
    → P i → P (i + d)
kept_from start history P i zero is each idle at =
    let same : i ≡ i + 0 = omega arith in subst P same at
kept_from start history P i (suc d) is each idle at =
    let before = kept_from start history P i d is each idle at in
    let place : i + d + 1 ≡ i + suc d = omega arith in
    let low : i ≤ i + d = omega arith in
    subst P place (elim (event_or_none start history (i + d)) [
      | inl some ↦ each (i + d) some.0 low some.1 (becomes_at start history (i + d) some.0 is some.1) before
      | inr none ↦ idle (i + d) low none before
    ])

pub kept_between : (start : NetValue) (history : List EventRecord) (P : ℕ → Type 0) (i j : ℕ) → i ≤ j
    → IsHistory start history
    → ((k : ℕ) (m : EventRecord) → i ≤ k → slice_get history k ≡ Some m → StepAt start history k m → P k
    → P (k + 1))
    → ((k : ℕ) → i ≤ k → net_at start history (k + 1) ≡ net_at start history k → P k → P (k + 1))
    → P i → P j
kept_between start history P i j order is each idle at =
    let sum : i + (j - i) ≡ j = omega arith in
    subst P sum (kept_from start history P i (j - i) is each idle at)
