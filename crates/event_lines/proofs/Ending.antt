-- Where the first line of some bytes ends.
use Rattle.std.proofs.Common.{arith, rules, ◌≡◌, ℕ, ◌+◌, ◌-◌, ◌<◌, List, ◌∷◌, ◌++◌, Bool, true, false, ◌==◌, length, take, drop, refl, sym, ap, ◌∙◌, get_or}
use Rattle.std.proofs.lemmas.List.{drop_more, take-append-drop, get_or-take, take_all, length-drop, length-take, get_or_default}
use Rattle.std.proofs.lemmas.List.Folds.{list_any_none}
use Rattle.memchr.specs.Find.{NoneBefore, Nowhere, Passes, is_byte}
use Rattle.event_lines.specs.Run.{IsLineCut, has_line_end, line_end}

-- a test that does not pass fails
fails : (b : Bool) → ¬ (b ≡ true) → b ≡ false
fails true other = absurd (other refl)
fails false other = refl

-- no line ends where no byte is an end
pub no_end : (bytes : List ℕ) → Nowhere (Passes (is_byte line_end) bytes) 0 (length bytes) → has_line_end bytes ≡ false
no_end bytes none = list_any_none (λ b. b == line_end) bytes (λ k d l.
    fails (get_or bytes k d == line_end)
    (λ passed. none k (omega arith) l (ap (λ b. b == line_end) (get_or_default bytes k 0 d l) ∙ passed)))

-- the bytes are cut at the first end
pub cut_at : (bytes : List ℕ) (i : ℕ)
    → NoneBefore (Passes (is_byte line_end) bytes) 0 (length bytes) i × Passes (is_byte line_end) bytes i
    → IsLineCut bytes (take i bytes) (take (length bytes - (i + 1)) (drop (i + 1) bytes))
cut_at bytes i first = record {
  whole = sym (take-append-drop i bytes)
      ∙ ap (λ l. take i bytes ++ l) (drop_more bytes i 0 first.0.high)
      ∙ ap (λ b. take i bytes ++ b ∷ drop (i + 1) bytes) (search (rules, first.1))
      ∙ ap (λ l. take i bytes ++ line_end ∷ l)
      (sym (take_all (length bytes - (i + 1)) (drop (i + 1) bytes) (search (rules, length-drop (i + 1) bytes))));
  one = list_any_none (λ b. b == line_end) (take i bytes) (λ k d l.
      let below : k < i = grind (arith, length-take i bytes, l) in
      fails (get_or (take i bytes) k d == line_end) (λ passed. first.0.before k (omega arith) below
      (ap (λ b. b == line_end) (get_or_default bytes k 0 d (omega (arith, first.0.high)) ∙ sym (get_or-take i bytes k d below)) ∙ passed)));
}
