-- What stands in the room once all parts of a header are written.
use Rattle.std.proofs.Common.{◌≡◌, ℕ, ◌+◌, ◌*◌, List, ◌++◌, length, take, drop, refl, sym, ap, subst, ◌∙◌, append_assoc, arith, length-append}
use Rattle.std.specs.List.{flat_map, AllByRecursion}
use Rattle.std.specs.Int.{w32, to_be_bytes}
use Rattle.std.proofs.lemmas.List.{take_at, drop_at, drop-drop}
use Rattle.path_header.specs.declared.fields.InfoField.{InfoField}
use Rattle.path_header.specs.declared.fields.HopField.{HopField}
use Rattle.path_header.specs.Value.{HeaderValue, IsHeader, header_len}
use Rattle.path_header.specs.Spelling.{meta_of, meta_word, info_spelling, hop_spelling, spelling, InfoFits, HopFits, FitsBits, SpellsHeader}
use Rattle.path_header.proofs.WholeHeader.{length-spelling}

-- the room after its three parts, each written behind the one before
pub three_parts : (old first second third meta infos hops : List ℕ) (i h : ℕ)
    → length meta ≡ 4 → length infos ≡ i → length hops ≡ h
    → first ≡ meta ++ drop (length meta) old
    → second ≡ take 4 first ++ (infos ++ drop (4 + i) first)
    → third ≡ take (4 + i) second ++ (hops ++ drop (4 + i + h) second)
    → third ≡ (meta ++ (infos ++ hops)) ++ drop (4 + i + h) old
three_parts old first second third meta infos hops i h meta_len infos_len hops_len first_is second_is third_is =
    let first_parts : first ≡ meta ++ drop 4 old = first_is ∙ ap (λ (n : ℕ). meta ++ drop n old) meta_len in
    let rest_1 : drop (4 + i) first ≡ drop (4 + i) old = sym (drop-drop i 4 first) ∙ ap (λ (t : List ℕ). drop i t) (ap (λ (t : List ℕ). drop 4 t) first_parts ∙ drop_at meta (drop 4 old) 4 meta_len) ∙ drop-drop i 4 old in
    let second_parts : second ≡ (meta ++ infos) ++ drop (4 + i) old = second_is ∙ rw (rest_1) (ap (λ (t : List ℕ). t ++ (infos ++ drop (4 + i) old)) (ap (λ (t : List ℕ). take 4 t) first_parts ∙ take_at meta (drop 4 old) 4 meta_len) ∙ sym (append_assoc meta infos (drop (4 + i) old))) in
    let both : length (meta ++ infos) ≡ 4 + i = omega (arith, length-append meta infos, meta_len, infos_len) in
    let rest_2 : drop (4 + i + h) second ≡ drop (4 + i + h) old = sym (drop-drop h (4 + i) second) ∙ ap (λ (t : List ℕ). drop h t) (ap (λ (t : List ℕ). drop (4 + i) t) second_parts ∙ drop_at (meta ++ infos) (drop (4 + i) old) (4 + i) both) ∙ drop-drop h (4 + i) old in
    let front : take (4 + i) second ≡ meta ++ infos = ap (λ (t : List ℕ). take (4 + i) t) second_parts ∙ take_at (meta ++ infos) (drop (4 + i) old) (4 + i) both in
    third_is ∙ rw (rest_2, front) (sym (append_assoc (meta ++ infos) hops (drop (4 + i + h) old)) ∙ ap (λ (t : List ℕ). t ++ drop (4 + i + h) old) (append_assoc meta infos hops))

-- so its front is the three parts, and what is behind them is as it was
pub front_and_rest : (old new text : List ℕ) (n : ℕ) → length text ≡ n → new ≡ text ++ drop n old → (take n new ≡ text) × (drop n new ≡ drop n old)
front_and_rest old new text n len parts =
    (ap (λ (t : List ℕ). take n t) parts ∙ take_at text (drop n old) n len, ap (λ (t : List ℕ). drop n t) parts ∙ drop_at text (drop n old) n len)

-- a room with this header in front, and behind it what stood there
pub record Holds (v : HeaderValue) (old new : List ℕ) : Type 0 where
  pub spells : SpellsHeader (take (header_len v) new) v
  pub rest : drop (header_len v) new ≡ drop (header_len v) old

holds_from : (v : HeaderValue) (old new : List ℕ) → IsHeader v → FitsBits v → new ≡ spelling v ++ drop (header_len v) old → Holds v old new
holds_from v old new is fits parts =
    let both = front_and_rest old new (spelling v) (header_len v) (length-spelling v is fits) parts in
    record { spells = record { is_header = is; fits = fits; spelled = both.0 }; rest = both.1 }

pub encoded : (v : HeaderValue) (old first second third meta : List ℕ) (infos : List InfoField) (hops : List HopField) (i : ℕ) → IsHeader v
    → infos ≡ v.infos → hops ≡ v.hops → i ≡ length v.infos → meta ≡ to_be_bytes w32 (meta_word (meta_of v))
    → first ≡ meta ++ drop (0 + length meta) old
    → second ≡ take 4 first ++ (flat_map info_spelling infos ++ drop (4 + 8 * length infos) first)
    → third ≡ take (4 + 8 * i) second ++ (flat_map hop_spelling hops ++ drop (4 + 8 * i + 12 * length hops) second)
    → length (flat_map info_spelling infos) ≡ 8 * length infos → length (flat_map hop_spelling hops) ≡ 12 * length hops
    → AllByRecursion InfoFits infos → AllByRecursion HopFits hops
    → Holds v old third
encoded v old first second third meta infos hops i is infos_is hops_is i_is meta_is first_is second_is third_is infos_len hops_len infos_fit hops_fit =
    let info_count_is : length infos ≡ i = ap (λ (xs : List InfoField). length xs) infos_is ∙ sym i_is in
    let hop_count_is : length hops ≡ length v.hops = ap (λ (xs : List HopField). length xs) hops_is in
    let meta_len : length meta ≡ 4 = ap (λ (t : List ℕ). length t) meta_is in
    let none_before : 0 + length meta ≡ length meta = omega arith in
    let first_part : first ≡ meta ++ drop (length meta) old = first_is ∙ ap (λ (n : ℕ). meta ++ drop n old) none_before in
    let second_part : second ≡ take 4 first ++ (flat_map info_spelling infos ++ drop (4 + 8 * i) first) = second_is ∙ ap (λ (n : ℕ). take 4 first ++ (flat_map info_spelling infos ++ drop (4 + 8 * n) first)) info_count_is in
    let parts = three_parts old first second third meta (flat_map info_spelling infos) (flat_map hop_spelling hops) (8 * i) (12 * length hops) meta_len (infos_len ∙ ap (λ (n : ℕ). 8 * n) info_count_is) hops_len first_part second_part third_is in
    let end_is : 4 + 8 * i + 12 * length hops ≡ header_len v = omega (arith, i_is, hop_count_is, is.infos, is.hops) in
    let text : meta ++ (flat_map info_spelling infos ++ flat_map hop_spelling hops) ≡ spelling v = rw (meta_is, infos_is, hops_is) refl in
    let all_fit : FitsBits v = record { infos = subst (λ (xs : List InfoField). AllByRecursion InfoFits xs) infos_is infos_fit; hops = subst (λ (xs : List HopField). AllByRecursion HopFits xs) hops_is hops_fit } in
    holds_from v old third is all_fit (parts ∙ ap (λ (t : List ℕ). t ++ drop (4 + 8 * i + 12 * length hops) old) text ∙ ap (λ (n : ℕ). spelling v ++ drop n old) end_is)
