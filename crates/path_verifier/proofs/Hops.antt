-- The hops of a piece, one by one.
use Rattle.std.proofs.Common.{◌≡◌, ℕ, zero, suc, ◌+◌, ◌-◌, ◌≤◌, List, [], ◌∷◌, ◌++◌, length, drop, Some, refl, sym, ap, ◌∙◌, add-one, append_assoc, length-append, length-drop}
use Rattle.std.specs.Prelude.{slice_get, option_map}
use Rattle.std.proofs.lemmas.List.{length-map, drop_all, append-nil}
use Rattle.std.proofs.lemmas.Option.{slice_get-map, same_Some}
use Rattle.path_segment.specs.declared.entry.Entry.{Entry}
use Rattle.policy_expr.specs.declared.hop.WalkHop.{WalkHop}
use Rattle.path_verifier.specs.Piece.{PieceValue, travelled_entries}
use Rattle.path_verifier.specs.Walk.{hop_of, hops_of, left_by, with_meeting_hop, walk_with}
use Rattle.path_verifier.specs.Header.{len_of}

pub hop_there : (piece : PieceValue) (i : ℕ) (entry : Entry) (hop : WalkHop)
    → slice_get (travelled_entries piece) i ≡ Some entry → hop ≡ hop_of piece.along entry
    → slice_get (hops_of piece) i ≡ Some hop
unfolding hops_of
hop_there piece i entry hop there is =
    slice_get-map (hop_of piece.along) (travelled_entries piece) i ∙ ap
    (option_map (hop_of piece.along)) there ∙ ap Some (sym is)

pub length_hops_of : (piece : PieceValue) → length (hops_of piece) ≡ len_of piece
unfolding hops_of
length_hops_of piece = length-map (travelled_entries piece) (hop_of piece.along)

drop_at : {A : Type 0} (xs : List A) (i : ℕ) (x : A) → slice_get xs i ≡ Some x → drop i xs ≡ x ∷ drop (suc i) xs
drop_at [] i x there = absurd cc
drop_at (y ∷ ys) zero x there = let is : y ≡ x = same_Some y x there in ap (λ z. z ∷ ys) is
drop_at (y ∷ ys) (suc i) x there = drop_at ys i x there

-- one element more behind a front, and one less to come
pub one_more : {A : Type 0} (front xs : List A) (i : ℕ) (x : A) → slice_get xs i ≡ Some x
    → (front ++ (x ∷ [])) ++ drop (i + 1) xs ≡ front ++ drop i xs
one_more front xs i x there = rw (append_assoc, add-one, drop_at xs i x there) refl

-- nothing is to come
pub none_more : {A : Type 0} (front xs : List A) (i : ℕ) → length xs ≤ i → front ++ drop i xs ≡ front
none_more front xs i past = rw (drop_all i xs past) (append-nil front)

pub length_left_by : (way : ℕ) (hops : List WalkHop) → length (left_by way hops) ≡ length hops
length_left_by way [] = refl
length_left_by way (hop ∷ []) = refl
length_left_by way (hop ∷ next ∷ later) = ap suc (length_left_by way (next ∷ later))

-- a walk with the hops of a piece from the second on
pub length_later : (walk : List WalkHop) (piece : PieceValue)
    → length (walk ++ drop 1 (hops_of piece)) ≡ length walk + (len_of piece - 1)
length_later walk piece = simp (length-append, length-drop, length_hops_of) refl

pub joined_from : (walk : List WalkHop) (piece : PieceValue) (hop : WalkHop) → slice_get (hops_of piece) 0 ≡ Some hop
    → with_meeting_hop walk hop ++ drop 1 (hops_of piece) ≡ walk_with walk (hops_of piece)
joined_from walk piece hop there = rw (drop_at (hops_of piece) 0 hop there) refl
