use Rattle.std.proofs.Common.{◌≡◌, ℕ, sym, ap, ◌∙◌}
use Rattle.std.specs.declared.cmp.Ordering.{Ordering}
use Rattle.std.specs.Ordering.{nat_cmp, ordering_then}
use Rattle.std.specs.Cmp.Lexicographic.{slice_cmp}
use Rattle.path_verifier.specs.Piece.{PieceValue}
use Rattle.path_verifier.specs.Header.{info_of}
use Rattle.combinator.specs.inner.Group.{hop_bytes, fields_cmp}
use Rattle.combinator.specs.inner.UsablePieces.{info_number}
use Rattle.combinator.proofs.Words.{info_cmp}
use Rattle.combinator.proofs.Least.{then_decided}
use Rattle.combinator.proofs.usable_piece.UsablePiece.compare_fields.Goals as goal

-- the bytes of info fields compare as their numbers
by_numbers : (one other : PieceValue) (c : Ordering) (mine theirs : ℕ) → c ≡ nat_cmp mine theirs
    → mine ≡ info_number one → theirs ≡ info_number other
    → fields_cmp one other ≡ ordering_then c (slice_cmp nat_cmp (hop_bytes one) (hop_bytes other))
by_numbers one other c mine theirs is own also =
    let later = slice_cmp nat_cmp (hop_bytes one) (hop_bytes other) in
    ap (λ (d : Ordering). ordering_then d later)
    (info_cmp (info_of one) (info_of other) ∙ ap (λ (n : ℕ). nat_cmp n (info_number other)) (sym own) ∙ ap (nat_cmp mine) (sym also) ∙ sym is)

pub returns-in-Equal : goal.returns-in-Equal
returns-in-Equal c =
    let one = c.args.self.now in
    let other = c.args.other.now in
    c.compare_hop_fields.ensures
    ∙ sym (by_numbers one other c.cmp.result c.self.inside.info c.other.inside.info c.cmp.ensures
    (c.self.invariant.5 ∙ ap info_number c.self.view_is) (c.other.invariant.5 ∙ ap info_number c.other.view_is)
    ∙ ap (λ (d : Ordering). ordering_then d (slice_cmp nat_cmp (hop_bytes one) (hop_bytes other))) c.in-Equal.is)

pub returns-in_default : goal.returns-in_default
returns-in_default c =
    let one = c.args.self.now in
    let other = c.args.other.now in
    sym (by_numbers one other c.cmp.result c.self.inside.info c.other.inside.info c.cmp.ensures
    (c.self.invariant.5 ∙ ap info_number c.self.view_is) (c.other.invariant.5 ∙ ap info_number c.other.view_is)
    ∙ then_decided c.cmp.result (slice_cmp nat_cmp (hop_bytes one) (hop_bytes other)) c.in_default.not-Equal)
