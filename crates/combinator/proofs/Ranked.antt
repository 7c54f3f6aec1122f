-- What pieces of an equal rank have in common.
use Rattle.std.proofs.Common.{◌≡◌, ℕ, ◌+◌, ◌*◌, ◌≤◌, refl, arith}
use Rattle.path_verifier.specs.declared.kind.PieceKind.{PieceKind}
use Rattle.path_verifier.specs.declared.kind.PieceKind.TheVariants.{Up, Core, Down}
use Rattle.path_verifier.specs.Piece.{PieceValue, HasRange, kind_of}
use Rattle.path_verifier.specs.Header.{len_of}
use Rattle.path_verifier.proofs.Entries.{length_travelled}
use Rattle.combinator.specs.inner.UsablePieces.{kind_rank, rank_of}
use Rattle.combinator.specs.inner.Search.{HasFields}

split : (kind other : PieceKind) (m n : ℕ) → m ≤ 63 → n ≤ 63 → kind_rank kind * 64 + m ≡ kind_rank other * 64 + n
    → (kind ≡ other) × (m ≡ n)
split Up Up m n few also same = (refl, omega (arith, same))
split Up Core m n few also same = absurd (omega (arith, few, also, same))
split Up Down m n few also same = absurd (omega (arith, few, also, same))
split Core Up m n few also same = absurd (omega (arith, few, also, same))
split Core Core m n few also same = (refl, omega (arith, same))
split Core Down m n few also same = absurd (omega (arith, few, also, same))
split Down Up m n few also same = absurd (omega (arith, few, also, same))
split Down Core m n few also same = absurd (omega (arith, few, also, same))
split Down Down m n few also same = (refl, omega (arith, same))

few_hops : (piece : PieceValue) → HasRange piece → HasFields piece → len_of piece ≤ 63
unfolding HasFields
few_hops piece range fields =
    let long = length_travelled piece range in
    let few = fields.2 in
    omega (arith, long, few, range.within)

pub same_rank : (one other : PieceValue) → HasRange one → HasFields one → HasRange other → HasFields other
    → rank_of one ≡ rank_of other → (kind_of one ≡ kind_of other) × (len_of one ≡ len_of other)
same_rank one other range fields also too same =
    split (kind_of one) (kind_of other) (len_of one) (len_of other) (few_hops one range fields) (few_hops other also too) same
