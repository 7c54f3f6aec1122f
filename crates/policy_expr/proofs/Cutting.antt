-- How the tokens of a text begin: without its blanks, and with a run of marks.
use Rattle.std.proofs.Common.{◌≡◌, ℕ, suc, ◌+◌, ◌-◌, ◌<◌, ◌≤◌, Bool, true, false, ◌&&◌, if◌then◌else◌, List, [], ◌∷◌, ◌++◌, length, take, drop, map, refl, sym, ◌∙◌, ap, subst, arith, length-append}
use Rattle.std.proofs.lemmas.List.{nil_from_length}
use Rattle.std.proofs.lemmas.Bool.Decides.{nat_tests}
use Rattle.std.proofs.Math.Seq.{take-append_seam}
use Rattle.std.proofs.lemmas.Str.Ascii.{IsAscii-nil, IsAscii-cons}
use Rattle.std.specs.Str.{IsAscii}
use Rattle.std.specs.List.{prefix_len}
use Rattle.policy_expr.specs.declared.token.Token.{Token}
use Rattle.policy_expr.specs.Predicate.{predicate_at}
use Rattle.policy_expr.specs.Tokens.{is_mark, with_byte_before, token_texts, read_token, sign_token, token_of, tokens}
use Rattle.separators.specs.Blanks.{is_blank, after_blanks}

-- a mark is below 128, and no blank
pub mark_is_ascii : (b : ℕ) → is_mark b ≡ true → b < 128
mark_is_ascii b mark = grind (arith, nat_tests)

pub mark_is_no_blank : (b : ℕ) → is_mark b ≡ true → is_blank b ≡ false
mark_is_no_blank b mark = grind (arith, nat_tests)

-- the text from its first byte that is no mark
unfoldable pub after_marks : List ℕ → List ℕ
after_marks [] = []
after_marks (b ∷ rest) = if is_mark b then after_marks rest else b ∷ rest

behind_step : (b : ℕ) (rest : List ℕ) (test : Bool) → is_mark b ≡ test → drop (prefix_len is_mark rest) rest ≡ after_marks rest
    → drop (prefix_len is_mark (b ∷ rest)) (b ∷ rest) ≡ (if test then after_marks rest else b ∷ rest)
behind_step b rest true mark later =
    let one_more : 1 + prefix_len is_mark rest ≡ suc (prefix_len is_mark rest) = omega arith in rw (mark, one_more) later
behind_step b rest false mark later = rw mark refl

pub behind_is_after : (text : List ℕ) → drop (prefix_len is_mark text) text ≡ after_marks text
unfolding after_marks
behind_is_after [] = refl
behind_is_after (b ∷ rest) = behind_step b rest (is_mark b) refl (behind_is_after rest)

-- a run ends before a byte that is no mark, and at the end of the text
pub behind_stop : (text rest behind : List ℕ) (b : ℕ) → after_marks text ≡ after_marks rest → rest ≡ b ∷ behind → is_mark b ≡ false
    → rest ≡ drop (prefix_len is_mark text) text
unfolding after_marks
behind_stop text rest behind b same begins no_mark =
    let here : after_marks rest ≡ rest = rw (begins, no_mark) refl in sym (behind_is_after text ∙ same ∙ here)

pub behind_end : (text rest : List ℕ) → after_marks text ≡ after_marks rest → length rest ≡ 0 → rest ≡ drop (prefix_len is_mark text) text
unfolding after_marks
behind_end text rest same none =
    let empty = nil_from_length rest none in
    let here : after_marks rest ≡ rest = rw empty refl in sym (behind_is_after text ∙ same ∙ here)

pub behind_more : (text rest behind : List ℕ) (b : ℕ) → after_marks text ≡ after_marks rest → rest ≡ b ∷ behind → is_mark b ≡ true
    → after_marks text ≡ after_marks behind
unfolding after_marks
behind_more text rest behind b same begins mark =
    let next : after_marks rest ≡ after_marks behind = rw (begins, mark) refl in same ∙ next

-- a byte before the texts of later tokens, which begin with a mark that stands right behind it or
-- not
abbrev with_byte : ℕ → Bool → List (List ℕ) → List (List ℕ)
with_byte b mark_follows later =
    if is_blank b then later else if is_mark b && mark_follows then with_byte_before b later else (b ∷ []) ∷ later

-- the marks at the front of a text
abbrev pub marks_of : List ℕ → List ℕ
marks_of [] = []
marks_of (b ∷ rest) = if is_mark b then b ∷ marks_of rest else []

ascii_step : (b : ℕ) (marks : List ℕ) (test : Bool) → is_mark b ≡ test → IsAscii marks → IsAscii (if test then b ∷ marks else [])
ascii_step b marks true mark ascii = IsAscii-cons b marks (mark_is_ascii b mark) ascii
ascii_step b marks false mark ascii = IsAscii-nil

pub marks_are_ascii : (text : List ℕ) → IsAscii (marks_of text)
marks_are_ascii [] = IsAscii-nil
marks_are_ascii (b ∷ rest) = ascii_step b (marks_of rest) (is_mark b) refl (marks_are_ascii rest)

split_step : (b : ℕ) (rest : List ℕ) (test : Bool) → rest ≡ marks_of rest ++ after_marks rest
    → b ∷ rest ≡ (if test then b ∷ marks_of rest else []) ++ (if test then after_marks rest else b ∷ rest)
split_step b rest true e = ap (λ r. b ∷ r) e
split_step b rest false e = refl

pub marks_and_rest : (text : List ℕ) → text ≡ marks_of text ++ after_marks text
unfolding after_marks
marks_and_rest [] = refl
marks_and_rest (b ∷ rest) = split_step b rest (is_mark b) (marks_and_rest rest)

-- a text without its blanks in front: the texts of its tokens, its length, and its first byte
blank_step : (b : ℕ) (rest : List ℕ) (test : Bool) → is_blank b ≡ test → token_texts rest ≡ token_texts (after_blanks rest)
    → token_texts (b ∷ rest) ≡ token_texts (if test then after_blanks rest else b ∷ rest)
unfolding token_texts
blank_step b rest true blank e = rw blank e
blank_step b rest false blank e = refl

pub texts_after_blanks : (text : List ℕ) → token_texts text ≡ token_texts (after_blanks text)
unfolding after_blanks
texts_after_blanks [] = refl
texts_after_blanks (b ∷ rest) = blank_step b rest (is_blank b) refl (texts_after_blanks rest)

short_step : (b : ℕ) (rest : List ℕ) (test : Bool) → length (after_blanks rest) ≤ length rest
    → length (if test then after_blanks rest else b ∷ rest) ≤ length (b ∷ rest)
short_step b rest true e = omega arith
short_step b rest false e = omega arith

pub length_after_blanks : (text : List ℕ) → length (after_blanks text) ≤ length text
unfolding after_blanks
length_after_blanks [] = omega arith
length_after_blanks (b ∷ rest) = short_step b rest (is_blank b) (length_after_blanks rest)

first_step : (b : ℕ) (rest : List ℕ) (test : Bool) → is_blank b ≡ test → (c : ℕ) (more : List ℕ)
    → (after_blanks rest ≡ c ∷ more → is_blank c ≡ false) → (if test then after_blanks rest else b ∷ rest) ≡ c ∷ more → is_blank c ≡ false
first_step b rest true blank c more later e = later e
first_step b rest false blank c more later e = let same : b ≡ c = cc in subst (λ (x : ℕ). is_blank x ≡ false) same blank

pub first_is_no_blank : (text : List ℕ) (c : ℕ) (more : List ℕ) → after_blanks text ≡ c ∷ more → is_blank c ≡ false
unfolding after_blanks
first_is_no_blank [] c more e = cc
first_is_no_blank (b ∷ rest) c more e = first_step b rest (is_blank b) refl c more (first_is_no_blank rest c more) e

-- a run of marks is the first piece
run_step : (b c : ℕ) (rest : List ℕ) (test : Bool) → is_blank b ≡ false → is_mark b ≡ true → is_mark c ≡ test
    → (is_mark c ≡ true → token_texts (c ∷ rest) ≡ marks_of (c ∷ rest) ∷ token_texts (after_marks (c ∷ rest)))
    → with_byte b test (token_texts (c ∷ rest)) ≡ (b ∷ marks_of (c ∷ rest)) ∷ token_texts (after_marks (c ∷ rest))
unfolding after_marks
run_step b c rest true no_blank mark next later = rw (no_blank, mark, later next) refl
run_step b c rest false no_blank mark next later = rw (no_blank, mark, next) refl

run_joined : (b : ℕ) (rest : List ℕ) → is_mark b ≡ true
    → marks_of (b ∷ rest) ∷ token_texts (after_marks (b ∷ rest)) ≡ (b ∷ marks_of rest) ∷ token_texts (after_marks rest)
unfolding after_marks
run_joined b rest mark = rw mark refl

pub texts_of_run : (b : ℕ) (rest : List ℕ) → is_mark b ≡ true → token_texts (b ∷ rest) ≡ marks_of (b ∷ rest) ∷ token_texts (after_marks (b ∷ rest))
unfolding token_texts after_marks
texts_of_run b [] mark = rw (mark_is_no_blank b mark, mark) refl
texts_of_run b (c ∷ rest) mark =
    run_step b c rest (is_mark c) (mark_is_no_blank b mark) mark refl (texts_of_run c rest) ∙ sym (run_joined b (c ∷ rest) mark)

texts_of_sign : (b : ℕ) (rest : List ℕ) → is_blank b ≡ false → is_mark b ≡ false → token_texts (b ∷ rest) ≡ (b ∷ []) ∷ token_texts rest
unfolding token_texts
texts_of_sign b rest no_blank no_mark = rw (no_blank, no_mark) refl

token_of_other : (b : ℕ) → is_mark b ≡ false → token_of (b ∷ []) ≡ sign_token b
token_of_other b no_mark = rw no_mark refl

token_of_marks : (b : ℕ) (rest : List ℕ) → is_mark b ≡ true → token_of (marks_of (b ∷ rest)) ≡ read_token (predicate_at (marks_of (b ∷ rest)))
token_of_marks b rest mark = rw (mark, mark) refl

-- the first token of a text that begins with a sign
pub first_sign : (text : List ℕ) (b : ℕ) (rest : List ℕ) → after_blanks text ≡ b ∷ rest → is_mark b ≡ false
    → (tokens text ≡ sign_token b ∷ tokens rest) × (length rest < length text)
first_sign text b rest e no_mark =
    let cut : token_texts text ≡ (b ∷ []) ∷ token_texts rest =
    texts_after_blanks text ∙ ap token_texts e ∙ texts_of_sign b rest (first_is_no_blank text b rest e) no_mark in
    let short = length_after_blanks text in
    let l = ap (λ (t : List ℕ). length t) e in
    (ap (map token_of) cut ∙ ap (λ (t : Token). t ∷ tokens rest) (token_of_other b no_mark), omega (arith, short, l))

pub length_after_marks : (text : List ℕ) → length (after_marks text) ≤ length text
length_after_marks text =
    let sum = ap (λ (t : List ℕ). length t) (marks_and_rest text) in omega (arith, sum, length-append (marks_of text) (after_marks text))

shorter_behind_run : (b : ℕ) (rest : List ℕ) → is_mark b ≡ true → length (after_marks (b ∷ rest)) < length (b ∷ rest)
unfolding after_marks
shorter_behind_run b rest mark = rw mark (omega (arith, length_after_marks rest))

-- the first token of a text that begins with a mark
pub first_run : (text : List ℕ) (b : ℕ) (rest : List ℕ) → after_blanks text ≡ b ∷ rest → is_mark b ≡ true
    → (tokens text ≡ read_token (predicate_at (marks_of (b ∷ rest))) ∷ tokens (after_marks (b ∷ rest))) × (length (after_marks (b ∷ rest)) < length text)
first_run text b rest e mark =
    let cut : token_texts text ≡ marks_of (b ∷ rest) ∷ token_texts (after_marks (b ∷ rest)) = texts_after_blanks text ∙ ap token_texts e ∙ texts_of_run b rest mark in
    let short = length_after_blanks text in
    let l = ap (λ (t : List ℕ). length t) e in (
      ap (map token_of) cut ∙ ap (λ (t : Token). t ∷ tokens (after_marks (b ∷ rest))) (token_of_marks b rest mark),
      omega (arith, short, l, shorter_behind_run b rest mark),
    )

-- what stands before the rest is the run
pub run_is : (text : List ℕ) → take (length text - length (after_marks text)) text ≡ marks_of text
run_is text =
    let e = marks_and_rest text in
    let l : length text - length (after_marks text) ≡ length (marks_of text) =
    (let sum = ap (λ (t : List ℕ). length t) e in omega (arith, sum, length-append (marks_of text) (after_marks text))) in
    rw l (ap (take (length (marks_of text))) e ∙ take-append_seam (marks_of text) (after_marks text))

-- the same, where the run is what stands before the rest
pub run_taken : (text trimmed more behind : List ℕ) (b : ℕ) (token : Token) → trimmed ≡ after_blanks text → trimmed ≡ b ∷ more → is_mark b ≡ true
    → behind ≡ after_marks trimmed → token ≡ read_token (predicate_at (take (length trimmed - length behind) trimmed))
    → (tokens text ≡ token ∷ tokens behind) × (length behind < length text)
run_taken text trimmed more behind b token is_trimmed begins mark is_behind is_token =
    let r = first_run text b more (sym is_trimmed ∙ begins) mark in
    let behind_is : behind ≡ after_marks (b ∷ more) = is_behind ∙ ap after_marks begins in
    let token_is : token ≡ read_token (predicate_at (marks_of (b ∷ more))) =
    is_token ∙ ap (λ (rest : List ℕ). read_token (predicate_at (take (length trimmed - length rest) trimmed))) is_behind
    ∙ ap (λ (run : List ℕ). read_token (predicate_at run)) (run_is trimmed) ∙ ap (λ (t : List ℕ). read_token (predicate_at (marks_of t))) begins in
    rw (behind_is, token_is) r

-- the same of a sign
pub sign_taken : (text trimmed behind : List ℕ) (b : ℕ) (token : Token) → trimmed ≡ after_blanks text → trimmed ≡ b ∷ behind → is_mark b ≡ false
    → token ≡ sign_token b → (tokens text ≡ token ∷ tokens behind) × (length behind < length text)
sign_taken text trimmed behind b token is_trimmed begins no_mark is_token = rw is_token (first_sign text b behind (sym is_trimmed ∙ begins) no_mark)

-- a text of blanks has no tokens
pub none_taken : (text trimmed : List ℕ) → trimmed ≡ after_blanks text → length trimmed ≡ 0 → tokens text ≡ []
unfolding token_texts
none_taken text trimmed is_trimmed none =
    ap (map token_of) (texts_after_blanks text ∙ ap token_texts (sym is_trimmed ∙ nil_from_length trimmed none))
