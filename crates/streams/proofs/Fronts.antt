-- What stands written of some bytes, while the rest is not.
use Rattle.std.proofs.Common.{◌≡◌, ◌∙◌, ◌<◌, ◌||◌, ◌&&◌, Bool, true, false, arith, refl, sym, ap, subst, ℕ, ◌-◌, List, ◌++◌, length, take, drop, Option, Some, None, append_assoc, append-nil, take-append-drop}
use lib.Seq.{take-append_seam}
use Rattle.std.proofs.lemmas.List.{take_rest}
use Rattle.std.specs.Prelude.{◌==◌}
use Rattle.std.specs.Io.KnownBytes.{Appends, Keeps}
use Rattle.std.proofs.KnownBytes.{Appends-kept, Appends-trans}
use Rattle.streams.specs.Streams.{AppendsFront}

-- what is written and what is not are the bytes
abbrev pub Written : Option (List ℕ) → Option (List ℕ) → List ℕ → List ℕ → Type 0
Written old new bytes rest = (done : List ℕ) × ((bytes ≡ done ++ rest) × Appends old new done)

-- a write moved n bytes over
pub Written-more : (old mid new : Option (List ℕ)) (bytes rest : List ℕ) (n : ℕ) → Written old mid bytes rest
    → Appends mid new (take n rest) → Written old new bytes (take (length rest - n) (drop n rest))
Written-more old mid new bytes rest n before more =
    let (done, (split, appended)) = before in
    let moved : bytes ≡ (done ++ take n rest) ++ take (length rest - n) (drop n rest) =
    split ∙ ap (λ l. done ++ l) (sym (take-append-drop n rest)) ∙ sym (append_assoc done (take n rest) (drop n rest))
    ∙ ap (λ l. (done ++ take n rest) ++ l) (sym (take_rest rest n)) in
    (done ++ take n rest, (moved, Appends-trans old mid new done (take n rest) appended more))

-- what is written is a front of the bytes
pub Written-front : (old mid new : Option (List ℕ)) (bytes rest : List ℕ) → Written old mid bytes rest → Keeps mid new
    → AppendsFront old new bytes
Written-front old mid new bytes rest before kept =
    let (done, (split, appended)) = before in
    let front : take (length done) bytes ≡ done = ap (take (length done)) split ∙ take-append_seam done rest in
    (length done, subst (Appends old new) (sym front) (Appends-kept old mid new done appended kept))

-- nothing more was written
pub Appends-none : (old new : Option (List ℕ)) (rest : List ℕ) (n : ℕ) → n ≡ 0 → Appends old new (take n rest) → Keeps old new
Appends-none None new rest n none more = tt
Appends-none (Some x) None rest n none more = absurd more
Appends-none (Some x) (Some y) rest n none more = more ∙ ap (λ k. x ++ take k rest) none ∙ append-nil x

-- a write of some bytes leaves the flag
pub flag_still : (flag some : Bool) (n : ℕ) → 0 < n → (flag || ((n == 0) && some)) ≡ flag
flag_still true some n above = refl
flag_still false some n above = grind arith
