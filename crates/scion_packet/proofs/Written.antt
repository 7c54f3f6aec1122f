-- A header that fills its room.
use Rattle.std.proofs.Common.{◌≡◌, ℕ, List, length, take, subst, arith}
use Rattle.std.proofs.lemmas.List.{take_all}
use Rattle.path_header.specs.Value.{HeaderValue, header_len}
use Rattle.path_header.specs.Spelling.{SpellsHeader}

pub all_taken : (text : List ℕ) (header : HeaderValue) (n : ℕ) → n ≡ header_len header
    → length text ≡ header_len header → SpellsHeader (take n text) header → SpellsHeader text header
all_taken text header n is len spells =
    subst (λ (t : List ℕ). SpellsHeader t header) (take_all n text (omega (arith, is, len))) spells
