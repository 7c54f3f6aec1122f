-- Lines of bytes, as more bytes come.
use Rattle.std.proofs.Common.{rules, ◌≡◌, ℕ, List, [], ◌∷◌, ◌++◌, Bool, true, false, ◌||◌, ◌==◌, refl, sym, ap, ◌∙◌, append_assoc, append-nil}
use Rattle.std.specs.List.{list_any}
use Rattle.std.proofs.lemmas.Grind.{flat_map-append}
use Rattle.std.proofs.lemmas.List.Folds.{list_any-append}
use Rattle.event_lines.specs.Run.{AreLines, ended_lines, has_line_end, line_end}

-- nothing passes a test in two lists where nothing does in each
both_none : (a b : Bool) → a ≡ false → b ≡ false → (a || b) ≡ false
both_none true b p q = absurd (search rules)
both_none false b p q = q

-- bytes come among which no line ends
pub grown : {bytes rest : List ℕ} {lines : List (List ℕ)} (more : List ℕ)
    → AreLines bytes lines rest → has_line_end more ≡ false → AreLines (bytes ++ more) lines (rest ++ more)
grown {bytes} {rest} {lines} more are none = record {
  whole = ap (λ l. l ++ more) are.whole ∙ append_assoc (ended_lines lines) rest more;
  apart = are.apart;
  last = list_any-append (λ b. b == line_end) rest more ∙ both_none (has_line_end rest)
      (has_line_end more) are.last none;
}

-- lines with one more
pub ended_more : (lines : List (List ℕ)) (line : List ℕ)
    → ended_lines (lines ++ line ∷ []) ≡ ended_lines lines ++ (line ++ line_end ∷ [])
ended_more lines line =
    flat_map-append (λ l. l ++ line_end ∷ []) lines (line ∷ [])
    ∙ ap (λ l. ended_lines lines ++ l) (append-nil (line ++ line_end ∷ []))

pub ended_append : (xs ys : List (List ℕ)) → ended_lines (xs ++ ys) ≡ ended_lines xs ++ ended_lines ys
ended_append xs ys = flat_map-append (λ l. l ++ line_end ∷ []) xs ys

-- the end of a line comes
pub closed : {bytes rest : List ℕ} {lines : List (List ℕ)}
    → AreLines bytes lines rest → AreLines (bytes ++ line_end ∷ []) (lines ++ rest ∷ []) []
closed {bytes} {rest} {lines} are = record {
  whole = ap (λ l. l ++ line_end ∷ []) are.whole ∙ append_assoc (ended_lines lines) rest (line_end ∷ [])
      ∙ sym (ended_more lines rest) ∙ sym (append-nil (ended_lines (lines ++ rest ∷ [])));
  apart = list_any-append has_line_end lines (rest ∷ [])
      ∙ both_none (list_any has_line_end lines) (has_line_end rest || false) are.apart
      (both_none (has_line_end rest) false are.last refl);
  last = refl;
}

-- lines of bytes behind lines of bytes
pub joined : {read rest last : List ℕ} {lines more : List (List ℕ)} (bytes : List ℕ)
    → AreLines read lines rest → AreLines (rest ++ bytes) more last → AreLines (read ++ bytes) (lines ++ more) last
joined {read} {rest} {last} {lines} {more} bytes first second = record {
  whole = ap (λ l. l ++ bytes) first.whole ∙ append_assoc (ended_lines lines) rest bytes
      ∙ ap (λ l. ended_lines lines ++ l) second.whole ∙ sym (append_assoc (ended_lines lines) (ended_lines more) last)
      ∙ ap (λ l. l ++ last) (sym (ended_append lines more));
  apart = list_any-append has_line_end lines more
      ∙ both_none (list_any has_line_end lines) (list_any has_line_end more) first.apart second.apart;
  last = second.last;
}

-- any bytes are lines and what has no end
pub record Cut (bytes : List ℕ) : Type 0 where
  pub lines : List (List ℕ)
  pub rest : List ℕ
  pub are : AreLines bytes lines rest

pub none_read : (rest : List ℕ) → has_line_end rest ≡ false → AreLines rest [] rest
none_read rest none = record { whole = refl; apart = refl; last = none }

with_first : (b : ℕ) (bytes : List ℕ) → Cut bytes → (is : Bool) → (b == line_end) ≡ is → Cut (b ∷ bytes)
with_first b bytes cut true is = record {
  lines = [] ∷ cut.lines;
  rest = cut.rest;
  are = record {
    whole = ap (λ x. x ∷ bytes) (search (rules, is)) ∙ ap (λ l. line_end ∷ l) cut.are.whole;
    apart = cut.are.apart;
    last = cut.are.last;
  };
}
with_first b bytes cut false is = onto cut.lines cut.rest cut.are
  where
    onto : (lines : List (List ℕ)) (rest : List ℕ) → AreLines bytes lines rest → Cut (b ∷ bytes)
    onto [] rest are = record {
      lines = [];
      rest = b ∷ rest;
      are = record {
        whole = ap (λ l. b ∷ l) are.whole;
        apart = refl;
        last = both_none (b == line_end) (has_line_end rest) is are.last;
      };
    }
    onto (line ∷ lines) rest are = record {
      lines = (b ∷ line) ∷ lines;
      rest = rest;
      are = record {
        whole = ap (λ l. b ∷ l) are.whole;
        apart = ap (λ t. (t || has_line_end line) || list_any has_line_end lines) is ∙ are.apart;
        last = are.last;
      };
    }

pub cut_of : (bytes : List ℕ) → Cut bytes
cut_of [] = record { lines = []; rest = []; are = none_read [] refl }
cut_of (b ∷ bytes) = with_first b bytes (cut_of bytes) (b == line_end) refl
