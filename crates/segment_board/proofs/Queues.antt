-- What the operations in the writer's queue make.
use Rattle.std.proofs.Common.{◌≡◌, List, [], ◌∷◌, ◌++◌, fold, refl, ap, sym, ◌∙◌, subst}
use Rattle.std.proofs.lemmas.List.Sums.{fold-append, fold_push}
use mathlib.Core.List.{IsPrefix}
use Rattle.path_server.specs.Store.{after_operation, store_of}
use Rattle.segment_board.specs.declared.board_state.BoardOp.{BoardOp}
use Rattle.segment_board.specs.declared.board_state.BoardOp.TheVariants.{Apply, Mark}
use Rattle.segment_board.specs.declared.edition.Edition.{Edition}
use Rattle.segment_board.specs.History.{KnownHistory, newest, edition_after}
use Rattle.segment_board.specs.inner.History.{ContinuesFrom}
use Rattle.segment_board.specs.BoardState.{BoardValue}
use Rattle.segment_board.specs.inner.BoardState.{board_after, IsTied, IsReady}
use Rattle.segment_board.specs.WriterState.{operations_of}
use Rattle.segment_board.proofs.Growing.{newest_last}
use Rattle.segment_board.proofs.Following.{goes_self, goes_after}

pub operations-append : (xs ys : List BoardOp) → operations_of (xs ++ ys) ≡ operations_of xs ++ operations_of ys
operations-append [] ys = refl
operations-append (Apply op ∷ xs) ys = ap (λ ops. op ∷ ops) (operations-append xs ys)
operations-append (Mark f ∷ xs) ys = operations-append xs ys

-- the store after a queue is the one after its operations
store_after : (x : BoardValue) (q : List BoardOp)
    → (fold board_after x q).store ≡ fold after_operation x.store (operations_of q)
store_after x [] = refl
store_after x (Apply op ∷ q) = store_after (record x { store = after_operation x.store op }) q
store_after x (Mark f ∷ q) = store_after (record x { front = f }) q

-- a queue that ends with a mark leaves its front
pub fold_mark : (x : BoardValue) (q : List BoardOp) (f : KnownHistory)
    → fold board_after x (q ++ Mark f ∷ []) ≡ record { store = fold after_operation x.store (operations_of q); front = f }
fold_mark x q f = fold_push board_after x q (Mark f) ∙ ap (λ s. record { store = s; front = f }) (store_after x q)

-- a queue may be published that ends with the front of all that is awaited
pub ready_mark : (x : BoardValue) (q : List BoardOp) (f : KnownHistory) (old : List Edition) → IsTied x
    → f.board ≡ x.front.board → IsPrefix x.front.log old
    → f.log ≡ old ++ edition_after (newest x.front.log) (operations_of q) ∷ [] → IsReady x (q ++ Mark f ∷ [])
ready_mark x q f old tied board before log =
    let e = fold_mark x q f in
    let ops = operations_of q in
    let last : (newest f.log).operations ≡ (newest x.front.log).operations ++ ops =
    ap (λ (l : List Edition). (newest l).operations) log ∙ ap (λ (z : Edition). z.operations) (newest_last old (edition_after (newest x.front.log) ops)) in
    let made : fold after_operation x.store ops ≡ store_of (newest f.log).operations =
    ap (λ s. fold after_operation s ops) tied ∙ (sym (fold-append after_operation [] (newest x.front.log).operations ops) ∙ ap store_of (sym last)) in
    (subst (λ (y : BoardValue). IsTied y) (sym e) made, subst (λ (y : BoardValue). ContinuesFrom x.front y.front) (sym e) (goes_after x.front f old ops board before log))

-- where nothing is pending, what lies on the board may be published as it is
pub ready_alone : (x : BoardValue) (q : List BoardOp) → IsTied x → q ≡ [] → IsReady x q
ready_alone x q tied none = subst (λ (ops : List BoardOp). IsReady x ops) (sym none) (tied, goes_self x.front)
