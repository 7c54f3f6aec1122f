-- Reading the texts of options, one after another.
use Rattle.std.proofs.Common.{◌≡◌, ℕ, suc, Bool, true, false, ◌&&◌, ◌+◌, ◌<◌, ◌≤◌, List, [], ◌∷◌, ◌++◌, length, get_or, drop, Result, Ok, Err, refl, sym, ap, subst, ◌∙◌, add-one, drop-cons}
use Rattle.std.specs.Prelude.{IsOk, nat_le}
use Rattle.std.proofs.lemmas.List.{append-nil, drop_all}
use Rattle.refusal.specs.Refusal.{◌>>=◌, check, each}
use Rattle.policy_expr.specs.declared.option_fault.OptionFault.{OptionFault}
use Rattle.policy_expr.specs.declared.option_fault.OptionFault.TheVariants.{OptionCount}
use Rattle.policy_expr.specs.Options.{WeighedRules, OptionTexts, option_at, options_at}
use Rattle.policy_expr.proofs.Front.{with_front, front_later}

-- ---- a loop over the texts

opened : (texts : List OptionTexts) (i : ℕ) (text : OptionTexts) → i < length texts → text ≡ get_or texts i text → drop i texts ≡ text ∷ drop (i + 1) texts
opened texts i text within at =
    rw add-one (drop-cons texts i text within ∙ ap (λ (x : OptionTexts). x ∷ drop (suc i) texts) (sym at))

-- what the texts from this one on are read as, by what this one is
abbrev onward : List OptionTexts → Result WeighedRules OptionFault → Result (List WeighedRules) OptionFault
onward later reading = reading >>= λ option. (each option_at later >>= λ options. Ok (option ∷ options))

from_here : (texts : List OptionTexts) (i : ℕ) (text : OptionTexts) (reading : Result WeighedRules OptionFault) → i < length texts → text ≡ get_or texts i text
    → option_at text ≡ reading → each option_at (drop i texts) ≡ onward (drop (i + 1) texts) reading
from_here texts i text reading within at read = ap (each option_at) (opened texts i text within at) ∙ ap (onward (drop (i + 1) texts)) read

pub read_more : (texts : List OptionTexts) (i : ℕ) (text : OptionTexts) (option : WeighedRules) (front front' : List WeighedRules) → i < length texts
    → text ≡ get_or texts i text → option_at text ≡ Ok option → front' ≡ front ++ option ∷ []
    → with_front front (each option_at (drop i texts)) ≡ each option_at texts → with_front front' (each option_at (drop (i + 1) texts)) ≡ each option_at texts
read_more texts i text option front front' within at read longer so_far =
    ap (λ (f : List WeighedRules). with_front f (each option_at (drop (i + 1) texts))) longer ∙ front_later front option (each option_at (drop (i + 1) texts))
    ∙ ap (with_front front) (sym (from_here texts i text (Ok option) within at read)) ∙ so_far

read_stops : (texts : List OptionTexts) (i : ℕ) (text : OptionTexts) (fault : OptionFault) (front : List WeighedRules) → i < length texts
    → text ≡ get_or texts i text → option_at text ≡ Err fault → with_front front (each option_at (drop i texts)) ≡ each option_at texts → each option_at texts ≡ Err fault
read_stops texts i text fault front within at read so_far =
    sym so_far ∙ ap (with_front front) (from_here texts i text (Err fault) within at read)

-- what is still to be read has no refusal, so the next text has none
pub lawful_here : (texts : List OptionTexts) (i : ℕ) (text : OptionTexts) (front : List WeighedRules) → i < length texts → text ≡ get_or texts i text
    → IsOk (each option_at texts) → with_front front (each option_at (drop i texts)) ≡ each option_at texts → IsOk (option_at text)
lawful_here texts i text front within at ok so_far = here (option_at text) refl
  where
    here : (reading : Result WeighedRules OptionFault) → option_at text ≡ reading → IsOk (option_at text)
    here (Ok option) is = subst (λ r. IsOk r) (sym is) refl
    here (Err fault) is = absurd (let f : false ≡ true = subst (λ r. IsOk r) (read_stops texts i text fault front within at is so_far) ok in cc)

pub read_all : (texts : List OptionTexts) (i : ℕ) (front : List WeighedRules) → length texts ≤ i → with_front front (each option_at (drop i texts)) ≡ each option_at texts → each option_at texts ≡ Ok front
read_all texts i front past so_far =
    sym so_far ∙ ap (λ (rest : List OptionTexts). with_front front (each option_at rest)) (drop_all i texts past) ∙ ap Ok (append-nil front)

-- ---- options that are judged and then read

by_count : (few : Bool) (texts : List OptionTexts) → IsOk (check few OptionCount >>= λ _. each option_at texts) → (check few OptionCount >>= λ _. each option_at texts) ≡ each option_at texts
by_count true texts ok = refl
by_count false texts ok = absurd cc

pub options_are : (texts : List OptionTexts) → IsOk (options_at texts) → options_at texts ≡ each option_at texts
unfolding options_at
options_are texts ok = by_count (nat_le 1 (length texts) && nat_le (length texts) 16) texts ok
