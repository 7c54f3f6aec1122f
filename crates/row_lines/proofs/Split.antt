-- Bytes are split into lines in one way.
use Rattle.std.proofs.Common.{◌≡◌, ℕ, List, [], ◌∷◌, ◌++◌, Bool, true, false, ◌||◌, ◌==◌, refl, sym, ap, subst, ◌∙◌, append_assoc, append-nil}
use Rattle.std.specs.List.{list_any}
use Rattle.event_lines.specs.Run.{AreLines, all_lines, ended_lines, has_line_end, line_end}
use Rattle.row_lines.specs.Lines.{row_lines, row_text}

-- neither of two tests holds where one of them does not
or_none : (a b : Bool) → (a || b) ≡ false → (a ≡ false) × (b ≡ false)
or_none true b none = absurd cc
or_none false b none = (refl, none)

-- bytes with the end of a line among them have it
has_end : (line behind : List ℕ) → has_line_end (line ++ line_end ∷ behind) ≡ false → ⊥
has_end [] behind none = absurd cc
has_end (b ∷ line) behind none =
    has_end line behind (or_none (b == line_end) (has_line_end (line ++ line_end ∷ behind)) none).1

-- up to its first end a line is the same, and so is what stands behind it
first_line : (line other behind later : List ℕ) → has_line_end line ≡ false
    → has_line_end other ≡ false → line ++ line_end ∷ behind ≡ other ++ line_end ∷ later
    → (line ≡ other) × (behind ≡ later)
first_line [] [] behind later none no_other same = (refl, cc)
first_line [] (c ∷ other) behind later none no_other same =
    absurd (let is : c ≡ line_end = cc in
    has_end [] [] (subst (λ n. has_line_end (n ∷ []) ≡ false) is
    (ap (λ t. t || false) (or_none (c == line_end) (has_line_end other) no_other).0)))
first_line (b ∷ line) [] behind later none no_other same =
    absurd (let is : b ≡ line_end = cc in
    has_end [] [] (subst (λ n. has_line_end (n ∷ []) ≡ false) is
    (ap (λ t. t || false) (or_none (b == line_end) (has_line_end line) none).0)))
first_line (b ∷ line) (c ∷ other) behind later none no_other same =
    let one : b ≡ c = cc in
    let rest = first_line line other behind later
    (or_none (b == line_end) (has_line_end line) none).1
    (or_none (c == line_end) (has_line_end other) no_other).1 cc in
    (ap (λ n. n ∷ line) one ∙ ap (λ l. c ∷ l) rest.0, rest.1)

-- a line, its end, further lines and a rest
spread : (line lines rest : List ℕ)
    → ((line ++ line_end ∷ []) ++ lines) ++ rest ≡ line ++ line_end ∷ (lines ++ rest)
spread line lines rest =
    append_assoc (line ++ line_end ∷ []) lines rest
    ∙ append_assoc line (line_end ∷ []) (lines ++ rest)

-- the lines and the rest of the same bytes are the same
lines_once : (lines others : List (List ℕ)) (rest other : List ℕ)
    → list_any has_line_end lines ≡ false → list_any has_line_end others ≡ false
    → has_line_end rest ≡ false → has_line_end other ≡ false
    → ended_lines lines ++ rest ≡ ended_lines others ++ other → (lines ≡ others) × (rest ≡ other)
lines_once [] [] rest other apart no_others last no_other same = (refl, same)
lines_once [] (m ∷ others) rest other apart no_others last no_other same =
    absurd (has_end m (ended_lines others ++ other)
    (ap has_line_end (sym (same ∙ spread m (ended_lines others) other)) ∙ last))
lines_once (l ∷ lines) [] rest other apart no_others last no_other same =
    absurd (has_end l (ended_lines lines ++ rest)
    (ap has_line_end (sym (spread l (ended_lines lines) rest) ∙ same) ∙ no_other))
lines_once (l ∷ lines) (m ∷ others) rest other apart no_others last no_other same =
    let mine = or_none (has_line_end l) (list_any has_line_end lines) apart in
    let theirs = or_none (has_line_end m) (list_any has_line_end others) no_others in
    let first = first_line l m (ended_lines lines ++ rest) (ended_lines others ++ other) mine.0
    theirs.0 (sym (spread l (ended_lines lines) rest) ∙ same
    ∙ spread m (ended_lines others) other) in
    let later = lines_once lines others rest other mine.1 theirs.1 last no_other first.1 in
    (ap (λ n. n ∷ lines) first.0 ∙ ap (λ ls. m ∷ ls) later.0, later.1)

-- no line of the row has an end within it
row_apart : list_any has_line_end row_lines ≡ false
row_apart = refl

-- the lines of the text of the row are its lines
pub are_row : (read : List ℕ) (lines : List (List ℕ)) (rest : List ℕ) → read ≡ row_text
    → AreLines read lines rest → all_lines lines rest ≡ row_lines
are_row read lines rest is are =
    let same = sym are.whole ∙ is ∙ sym (append-nil (ended_lines row_lines)) in
    let once = lines_once lines row_lines rest [] are.apart row_apart are.last refl same in
    ap (λ ls. all_lines ls rest) once.0 ∙ ap (all_lines row_lines) once.1
