use Rattle.std.proofs.Common.{rules, [], ◌∷◌}
use Rattle.std.proofs.lemmas.Fn.{All-from_retain}
use Rattle.path_verifier.specs.Piece.{PieceValue}
use Rattle.path_verifier.specs.Accepted.{AreLive}
use Rattle.combinator.proofs.Retained.{kept_was_there, all_that_pass}
use Rattle.combinator.proofs.usable_pieces.drop_expired.Goals as goal

pub returns-clause-live : goal.returns-clause-live
returns-clause-live c =
    All-from_retain _ (λ (piece : PieceValue). AreLive c.args.now (piece ∷ [])) _ (λ x b f' k. search rules) _ _ c.retain.ensures.filtered

pub returns-clause-own : goal.returns-clause-own
returns-clause-own c =
    kept_was_there _ (λ (piece : PieceValue). AreLive c.args.now (piece ∷ [])) _ (λ x b f' k. search rules) _ _ c.retain.ensures.filtered

pub returns-clause-kept : goal.returns-clause-kept
returns-clause-kept c =
    all_that_pass _ (λ (piece : PieceValue). AreLive c.args.now (piece ∷ [])) _ (λ x b f' k. search rules) _ _ c.retain.ensures.filtered
