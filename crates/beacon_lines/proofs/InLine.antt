-- Bytes that become one line, one after another.
use Rattle.std.proofs.Common.{arith, ◌≡◌, ℕ, ◌+◌, ◌<◌, List, [], ◌∷◌, ◌++◌, length, take, drop, set, get_or, sym, ap, ◌∙◌, append_assoc, append-nil, length-take}
use Rattle.std.proofs.Math.Seq.{set-append_seam}
use Rattle.std.proofs.lemmas.List.{drop_more, get_or_at, length-map, map_more, take_all, drop_all}
use Rattle.beacon_lines.specs.Lines.{byte_in_line, one_line}

-- the first bytes as they stand in the line, and the others as they were
abbrev pub line_up_to : List ℕ → ℕ → List ℕ
line_up_to bytes i = one_line (take i bytes) ++ drop i bytes

-- the first bytes are as many as they were
long : (bytes : List ℕ) (i : ℕ) → i < length bytes → length (one_line (take i bytes)) ≡ i
long bytes i within =
    length-map (take i bytes) byte_in_line ∙ length-take i bytes ∙ omega arith

-- the next byte is as it was
pub next_as_was : (bytes : List ℕ) (i : ℕ) → i < length bytes
    → get_or (line_up_to bytes i) i 0 ≡ get_or bytes i 0
next_as_was bytes i within =
    let first = one_line (take i bytes) in
    let rest = drop (i + 1) bytes in
    ap (λ l. get_or (first ++ l) i 0) (drop_more bytes i 0 within)
    ∙ get_or_at first (get_or bytes i 0) rest 0 i (long bytes i within)

-- one byte more stands in the line
pub next_in_line : (bytes : List ℕ) (i y : ℕ) → i < length bytes
    → y ≡ byte_in_line (get_or bytes i 0)
    → set (line_up_to bytes i) i y ≡ line_up_to bytes (i + 1)
next_in_line bytes i y within is =
    let first = one_line (take i bytes) in
    let rest = drop (i + 1) bytes in
    ap (λ l. set (first ++ l) i y) (drop_more bytes i 0 within)
    ∙ ap (λ n. set (first ++ get_or bytes i 0 ∷ rest) n y) (sym (long bytes i within))
    ∙ set-append_seam first (get_or bytes i 0) rest y
    ∙ ap (λ b. first ++ b ∷ rest) is
    ∙ sym (append_assoc first (byte_in_line (get_or bytes i 0) ∷ []) rest)
    ∙ ap (λ l. l ++ rest) (sym (map_more byte_in_line bytes i 0 within))

-- all bytes stand in it
pub all_in_line : (bytes : List ℕ) → line_up_to bytes (length bytes) ≡ one_line bytes
all_in_line bytes =
    ap (λ l. one_line l ++ drop (length bytes) bytes) (take_all (length bytes) bytes (omega arith))
    ∙ ap (λ l. one_line bytes ++ l) (drop_all (length bytes) bytes (omega arith))
    ∙ append-nil (one_line bytes)
