-- What goes on from what: editions, and beginnings of a history.
use Rattle.std.proofs.Common.{◌≡◌, List, [], ◌∷◌, ◌++◌, refl, ap, sym, ◌∙◌, subst, inl, inr, arith}
use mathlib.Core.List.{IsPrefix}
use Rattle.path_server.specs.declared.op.StoreOp.{StoreOp}
use Rattle.segment_board.specs.declared.edition.Edition.{Edition}
use Rattle.segment_board.specs.History.{KnownHistory, newest, edition_after}
use Rattle.segment_board.specs.inner.History.{Follows, ContinuesFrom}
use Rattle.segment_board.proofs.Prefixes.{prefix_self, prefix_trans}
use Rattle.segment_board.proofs.Growing.{newest_last}

pub follows_trans : (a b c : Edition) → Follows a b → Follows b c → Follows a c
follows_trans a b c (inl same) q = subst (λ (z : Edition). Follows z c) same q
follows_trans a b c (inr p) (inl same) = subst (λ (z : Edition). Follows a z) (sym same) (inr p)
follows_trans a b c (inr p) (inr q) =
    inr (omega (arith, p.0, q.0), prefix_trans a.operations b.operations c.operations p.1 q.1)

-- the edition after another follows it
pub follows_after : (e : Edition) (ops : List StoreOp) → Follows e (edition_after e ops)
follows_after e ops = inr (omega arith, (ops, refl))

-- what was reached goes on from itself
pub goes_self : (x : KnownHistory) → ContinuesFrom x x
goes_self x = record { board = refl; history = prefix_self x.log; newer = inl refl }

pub goes_trans : (x y z : KnownHistory) → ContinuesFrom x y → ContinuesFrom y z → ContinuesFrom x z
goes_trans x y z p q = record {
  board = q.board ∙ p.board;
  history = prefix_trans x.log y.log z.log p.history q.history;
  newer = follows_trans (newest x.log) (newest y.log) (newest z.log) p.newer q.newer;
}

-- where the history goes on by an edition that follows the newest that was shown, so does what was reached
pub goes_after : (x y : KnownHistory) (old : List Edition) (ops : List StoreOp) → y.board ≡ x.board
    → IsPrefix x.log old → y.log ≡ old ++ edition_after (newest x.log) ops ∷ [] → ContinuesFrom x y
goes_after x y old ops board before log = record {
  board = board;
  history = prefix_trans x.log old y.log before (edition_after (newest x.log) ops ∷ [], sym log);
  newer = subst (λ (z : Edition). Follows (newest x.log) z)
      (sym (ap newest log ∙ newest_last old (edition_after (newest x.log) ops)))
      (follows_after (newest x.log) ops);
}
