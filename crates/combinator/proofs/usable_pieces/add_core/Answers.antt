use Rattle.std.proofs.Common.{◌≡◌, Bool, true, false, Contains, sym, subst, ◌∙◌}
use Rattle.path_segment.specs.declared.kind.SegKind.{SegKind}
use Rattle.path_segment.specs.declared.kind.SegKind.TheVariants.{Core}
use Rattle.path_server.specs.Lookup.{Selection}
use Rattle.path_segment.specs.Chain.{Chain}
use Rattle.path_verifier.specs.Piece.{kind_in}
use Rattle.combinator.specs.Candidate.{segments_of}
use Rattle.combinator.specs.inner.UsablePieces.{piece_of}
use Rattle.combinator.proofs.usable_pieces.add_core.Goals as goal

as_core : (set : Selection) (segment : Chain) (along : Bool) → segment.kind ≡ Core
    → Contains set.cores segment → Contains (segments_of set (kind_in segment.kind along)) segment
as_core set segment along kind there =
    subst (λ (k : SegKind). Contains (segments_of set (kind_in k along)) segment) (sym kind) there

pub returns-in_ok-add_whole-in-Core-2-clause-own : goal.returns-in_ok-add_whole-in-Core-2-clause-own
returns-in_ok-add_whole-in-Core-2-clause-own c = λ set there all.
    let kind : c.args.segment.now.kind ≡ Core = sym c.kind.ensures ∙ c.in-Core.is in
    c.in_ok-add_whole-in-Core-2.ensures.own set (as_core set c.args.segment.now false kind there)
    (c.in_ok-add_whole-in-Core.ensures.own set (as_core set c.args.segment.now true kind there) all)

pub returns-in_ok-add_whole-in-Core-2-clause-all : goal.returns-in_ok-add_whole-in-Core-2-clause-all
returns-in_ok-add_whole-in-Core-2-clause-all c = λ kind to along last.
    elim along as (λ a. Contains c.add_whole-in-Core.new.usable_pieces.items (piece_of c.args.segment.now 0 to a)) [
      | true ↦ c.in_ok-add_whole-in-Core-2.ensures.more (piece_of c.args.segment.now 0 to true)
          (c.in_ok-add_whole-in-Core.ensures.all to last)
      | false ↦ c.in_ok-add_whole-in-Core-2.ensures.all to last
    ]
