-- The passes of inboxes, one inbox more at a time.
use Rattle.std.proofs.Common.{◌≡◌, ℕ, List, [], ◌∷◌, ◌++◌, length, zero, suc, if◌then◌else◌, Result, Ok, Some, sym, ap, ◌∙◌, ◌⊎◌, inl, inr, arith}
use Rattle.std.specs.Prelude.{slice_get}
use Rattle.std.specs.Result.{is_ok}
use Rattle.inbox.specs.Inbox.{Opened}
use Rattle.router_workers.specs.declared.pass_pairs.PassPair.{PassPair}
use Rattle.router_workers.specs.inner.PassPairs.{ArePassPairs}

-- what a push that was done leaves
pub pushed : {X A E : Type 0} (result : Result A E) (done : A) (old new : List X) (x : X)
    → new ≡ (if is_ok result then old ++ x ∷ [] else old) → result ≡ Ok done
    → new ≡ old ++ x ∷ []
pushed {E = E} result done old new x is was =
    is ∙ ap (λ (r : Result _ E). if is_ok r then old ++ x ∷ [] else old) was

-- the same place of two lists of one length is in both or last in both
both_or_last : {A B : Type 0} (xs : List A) (ys : List B) (x a : A) (y b : B) (i : ℕ)
    → length xs ≡ length ys → slice_get (xs ++ x ∷ []) i ≡ Some a
    → slice_get (ys ++ y ∷ []) i ≡ Some b
    → ((slice_get xs i ≡ Some a) × (slice_get ys i ≡ Some b)) ⊎ ((x ≡ a) × (y ≡ b))
both_or_last [] [] x a y b zero same one two = inr (cc, cc)
both_or_last [] [] x a y b (suc i) same one two = absurd cc
both_or_last [] (d ∷ ys) x a y b i same one two = absurd (omega (arith, same))
both_or_last (c ∷ xs) [] x a y b i same one two = absurd (omega (arith, same))
both_or_last (c ∷ xs) (d ∷ ys) x a y b zero same one two = inl (one, two)
both_or_last (c ∷ xs) (d ∷ ys) x a y b (suc i) same one two =
    both_or_last xs ys x a y b i (omega (arith, same)) one two

pub one_more : {T : Type 0} (inboxes : List Opened) (pairs : List (PassPair T)) (inbox : Opened)
    (pair : PassPair T) → length inboxes ≡ length pairs → ArePassPairs inboxes pairs
    → pair.sender.inbox ≡ inbox.inbox → pair.receiver.inbox ≡ inbox.inbox
    → ArePassPairs (inboxes ++ inbox ∷ []) (pairs ++ pair ∷ [])
one_more inboxes pairs inbox pair same are sender receiver i one two at there =
    elim (both_or_last inboxes pairs inbox one pair two i same at there) [
      | inl before ↦ are i one two before.0 before.1
      | inr last ↦ (
        ap (λ (p : PassPair _). p.sender.inbox) (sym last.1) ∙ sender ∙ ap (λ (o : Opened). o.inbox) last.0,
        ap (λ (p : PassPair _). p.receiver.inbox) (sym last.1) ∙ receiver ∙ ap (λ (o : Opened). o.inbox) last.0,
      )
    ]
