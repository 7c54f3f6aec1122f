use Rattle.std.proofs.Common.{◌≡◌, ℕ, true, false, List, [], ◌∷◌, get_or, All, Contains, sym, subst}
use Rattle.std.proofs.lemmas.List.Elements.{All-nil, All-contains_itself}
use Rattle.std.proofs.lemmas.List.Sorted.{All-permutation, Contains-permutation}
use Rattle.path_segment.specs.Chain.{Chain}
use Rattle.path_verifier.specs.Piece.{PieceValue}
use Rattle.path_verifier.specs.Accepted.{AreLive}
use Rattle.combinator.specs.Candidate.{question_of, IsOf}
use Rattle.combinator.specs.inner.Search.{HasFields}
use Rattle.combinator.specs.inner.UsablePieces.{IsCut, IsWhole, AreIn}
use Rattle.combinator.proofs.Answering.{have_all}
use Rattle.combinator.proofs.usable_pieces.usable_pieces_of.Goals as goal

listed : (list segments : List Chain) → segments ≡ list → All (Contains list) segments
listed list segments same = subst (All (Contains list)) (sym same) (All-contains_itself list)

all_in : (P : PieceValue → Type 0) (pieces others : List PieceValue) → AreIn pieces others → All P others → All P pieces
all_in P pieces others within all = λ k d less.
    let there = within (get_or pieces k d) (All-contains_itself pieces k d less) in
    subst P there.2 (all there.0 (get_or pieces k d) there.1)

pub returns-clause-own : goal.returns-clause-own
returns-clause-own c =
    let set = c.args.set.now in
    All-permutation (IsOf set) c.drop_expired.new.pieces.items c.put_side_by_side.new.pieces.items c.put_side_by_side.ensures
    (all_in (IsOf set) c.drop_expired.new.pieces.items c.add_cores.new.usable_pieces.items c.drop_expired.ensures.own
    (c.in_ok-add_cores.ensures.own set (listed set.cores c.cores.result.now c.cores.ensures)
    (c.in_ok-add_cuts-2.ensures.own set (listed set.ups c.ups.result.now c.ups.ensures)
    (c.in_ok-add_cuts.ensures.own set (listed set.downs c.downs.result.now c.downs.ensures)
    (subst (All (IsOf set)) (sym c.new-pieces.ensures.items) (All-nil (IsOf set)))))))

pub returns-clause-live : goal.returns-clause-live
returns-clause-live c =
    All-permutation (λ (piece : PieceValue). AreLive c.args.set.now.moment (piece ∷ []))
    c.drop_expired.new.pieces.items c.put_side_by_side.new.pieces.items c.put_side_by_side.ensures
    (subst (λ (now : ℕ). All (λ (piece : PieceValue). AreLive now (piece ∷ [])) c.drop_expired.new.pieces.items)
    c.now.ensures c.drop_expired.ensures.live)

pub returns-clause-whole : goal.returns-clause-whole
returns-clause-whole c = λ rules.
    let question = question_of c.args.set.now c.args.src c.args.dst rules in
    let kept : (piece : PieceValue) → AreLive question.set.moment (piece ∷ []) → Contains c.add_cores.new.usable_pieces.items piece
    → Contains c.put_side_by_side.new.pieces.items piece = λ piece live there.
    Contains-permutation c.drop_expired.new.pieces.items c.put_side_by_side.new.pieces.items piece c.put_side_by_side.ensures
    (c.drop_expired.ensures.kept piece there (subst (λ (now : ℕ). AreLive now (piece ∷ []))
    (sym c.now.ensures) live)) in
    have_all question c.put_side_by_side.new.pieces.items
    (λ piece is live. kept piece live
    (c.in_ok-add_cores.ensures.more piece (c.in_ok-add_cuts-2.ensures.all piece
    (subst (λ (segments : List Chain). IsCut segments false question.src piece) (sym c.ups.ensures) is))))
    (λ piece is live. kept piece live
    (c.in_ok-add_cores.ensures.all piece
    (subst (λ (segments : List Chain). IsWhole segments piece) (sym c.cores.ensures) is)))
    (λ piece is live. kept piece live
    (c.in_ok-add_cores.ensures.more piece (c.in_ok-add_cuts-2.ensures.more piece (c.in_ok-add_cuts.ensures.all piece
    (subst (λ (segments : List Chain). IsCut segments true question.dst piece) (sym c.downs.ensures) is)))))

pub returns-clause-fields : goal.returns-clause-fields
returns-clause-fields c = subst (All HasFields) c.deref.ensures.value c.know_all.ensures.fields
