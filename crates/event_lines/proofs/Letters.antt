-- The letters of one piece more.
use Rattle.std.proofs.Common.{◌≡◌, ℕ, suc, ◌+◌, List, [], ◌∷◌, ◌++◌, take, Some, sym, ap, ◌∙◌, add-one}
use Rattle.std.specs.Prelude.{slice_get}
use Rattle.std.proofs.Math.Seq.{take-suc}
use Rattle.std.proofs.lemmas.List.{flat_map_more}
use Rattle.std.proofs.lemmas.Option.{slice_get_within, get_or_from_slice_get}
use Rattle.path_verifier.specs.Piece.{PieceValue, kind_of}
use Rattle.event_lines.specs.Text.{kinds_text, letter}

pub letters_more : (pieces : List PieceValue) (i : ℕ) (piece : PieceValue) → slice_get pieces i ≡ Some piece
    → kinds_text (take (i + 1) pieces) ≡ kinds_text (take i pieces) ++ letter (kind_of piece)
letters_more pieces i piece at =
    let here : take (suc i) pieces ≡ take i pieces ++ (piece ∷ []) =
    take-suc pieces i piece (slice_get_within pieces i piece at)
    ∙ ap (λ (p : PieceValue). take i pieces ++ (p ∷ [])) (get_or_from_slice_get pieces i piece piece at) in
    rw add-one (ap kinds_text here ∙ sym (flat_map_more (λ p. letter (kind_of p)) [] (take i pieces) piece))
