-- The header of the way back has as many bytes, and takes the place of the other.
use Rattle.std.proofs.Common.{◌≡◌, ℕ, List, ◌++◌, map, take, drop, Ok, sym, ap, subst, ◌∙◌, arith}
use Rattle.std.specs.Prelude.{Result}
use Rattle.std.proofs.lemmas.List.{length-reverse, length-map, take-append-drop}
use Rattle.path_header.specs.declared.fault.HeaderFault.{HeaderFault}
use Rattle.path_header.specs.Value.{HeaderValue, IsHeader, header_len}
use Rattle.path_header.specs.Spelling.{SpellsHeader, spelling}
use Rattle.path_header.specs.Reversal.{reversed_header, turned_info}
use Rattle.scion_ffi.specs.Header.{IsTurnedRound}

pub reversed_len : (v : HeaderValue) → IsHeader v → IsHeader (reversed_header v)
    → header_len (reversed_header v) ≡ header_len v
reversed_len v old new =
    omega (arith, old.infos, old.hops, new.infos, new.hops, length-reverse (map turned_info v.infos), length-map v.infos turned_info, length-reverse v.hops)

-- a header that was read at the front is turned, and written there
pub turned_in_place : (v w : HeaderValue) (n m : ℕ) (old new : List ℕ) (read : Result (HeaderValue × ℕ) HeaderFault)
    → Ok (v, m) ≡ read → m ≡ header_len v → w ≡ reversed_header v → IsHeader v → IsHeader w → n ≡ header_len w
    → SpellsHeader (take n new) w → drop n new ≡ drop n old → IsTurnedRound read old new
turned_in_place v w n m old new read found len back is is_back long spells rest =
    let as_long : header_len (reversed_header v) ≡ header_len v = reversed_len v is (subst IsHeader back is_back) in
    let same : n ≡ m = long ∙ ap (λ (u : HeaderValue). header_len u) back ∙ as_long ∙ sym len in
    subst (λ (r : Result (HeaderValue × ℕ) HeaderFault). IsTurnedRound r old new) found
    (sym (take-append-drop n new) ∙ ap (λ (t : List ℕ). t ++ drop n new) spells.spelled
    ∙ ap (λ (t : List ℕ). spelling w ++ t) rest
    ∙ ap (λ (u : HeaderValue). spelling u ++ drop n old) back
    ∙ ap (λ (k : ℕ). spelling (reversed_header v) ++ drop k old) same)
