-- The parts of a board's writer stay tied.
use Rattle.std.proofs.Common.{◌≡◌, Bool, true, List, [], ◌∷◌, ◌++◌, fold, Option, Some, Result, Ok, Err, refl, ap, sym, ◌∙◌, subst}
use Rattle.std.specs.Prelude.{MatchBool, MatchResult, OnOk, OnErr}
use Rattle.std.proofs.lemmas.List.{append-nil, append_assoc}
use mathlib.Core.List.{IsPrefix}
use Rattle.left_right.specs.declared.writer.Writer.{Writer}
use Rattle.left_right.specs.Sides.{view}
use Rattle.logbook.specs.Pages.{Book, Named}
use Rattle.path_server.specs.Store.{after_operation, store_of}
use Rattle.path_server.specs.declared.op.StoreOp.{StoreOp}
use Rattle.segment_board.specs.declared.edition.Edition.{Edition}
use Rattle.segment_board.specs.declared.board_state.BoardOp.{BoardOp}
use Rattle.segment_board.specs.declared.board_state.BoardOp.TheVariants.{Apply, Mark}
use Rattle.segment_board.specs.History.{KnownHistory, newest, opening}
use Rattle.segment_board.specs.inner.History.{head_of}
use Rattle.segment_board.specs.BoardState.{BoardValue}
use Rattle.segment_board.specs.inner.BoardState.{board_after, IsTied, IsReady}
use Rattle.segment_board.specs.Board.{Written}
use Rattle.segment_board.specs.WriterState.{shown_of, queue_of, edition_of, awaited, operations_of}
use Rattle.segment_board.specs.Writing.{IsInOrder}
use Rattle.segment_board.proofs.Prefixes.{prefix_self, prefix_trans}
use Rattle.segment_board.proofs.Growing.{newest_last}
use Rattle.segment_board.proofs.Queues.{operations-append, fold_mark, ready_mark}

-- the parts of what clauses see, put together
abbrev pub written : Book → Edition → List StoreOp → Written
written board e pending = record { board = board; edition = e.number; published = e.operations; pending = pending }

pub added : (old new : List BoardOp) (op : StoreOp) → new ≡ old ++ Apply op ∷ []
    → operations_of new ≡ operations_of old ++ op ∷ []
added old new op e = ap operations_of e ∙ operations-append old (Apply op ∷ [])

pub marked : (old new : List BoardOp) (f : KnownHistory) → new ≡ old ++ Mark f ∷ []
    → operations_of new ≡ operations_of old
marked old new f e = ap operations_of e ∙ (operations-append old (Mark f ∷ []) ∙ append-nil (operations_of old))

-- a history that has grown by this edition
abbrev pub with_edition : KnownHistory → Edition → KnownHistory
with_edition history edition = record history { log = history.log ++ edition ∷ [] }

pub has_grown : {grown : Bool} (next again latest : KnownHistory) (edition : Edition) → grown ≡ true
    → MatchBool grown (next ≡ with_edition again edition) (next ≡ again) → again ≡ latest
    → next ≡ with_edition latest edition
has_grown next again latest edition is grows same =
    subst (λ (b : Bool). MatchBool b (next ≡ with_edition again edition) (next ≡ again)) is grows ∙ ap
    (λ (r : KnownHistory). with_edition r edition) same

pub is_marked : (old new : List BoardOp) (f next : KnownHistory) → new ≡ old ++ Mark f ∷ [] → f ≡ next
    → new ≡ old ++ Mark next ∷ []
is_marked old new f next queue same = queue ∙ ap (λ (r : KnownHistory). old ++ Mark r ∷ []) same

pub on_ok : {T E : Type 0} (r : Result T E) (P Q R : Type 0) → MatchResult r (λ _. P) (λ _. Q) → (P → R) → OnOk r R
on_ok (Ok x) P Q R h f = f h
on_ok (Err e) P Q R h f = tt

pub on_err : {T E : Type 0} (r : Result T E) (P Q R : Type 0) → MatchResult r (λ _. P) (λ _. Q) → (Q → R) → OnErr r R
on_err (Ok x) P Q R h f = tt
on_err (Err e) P Q R h f = f h

pub at_ok : {T E : Type 0} (r : Result T E) (v : T) (P Q : Type 0) → r ≡ Ok v → MatchResult r (λ _. P) (λ _. Q) → P
at_ok r v P Q is h = subst (λ z. MatchResult z (λ _. P) (λ _. Q)) is h

-- what lies on a board at first
pub tied_first : (x first : BoardValue) → x ≡ first → first.store ≡ [] → first.front.log ≡ opening ∷ [] → IsTied x
tied_first x first is store log =
    subst (λ (y : BoardValue). IsTied y) (sym is)
    (store ∙ ap (λ (l : List Edition). store_of (newest l).operations) (sym log))

-- a board's writer is in order at first
pub opened : {P A S : Type 0} {g : _} (u : Writer BoardValue BoardOp (Option KnownHistory) P A S g) (head : Named) (root latest : KnownHistory) (first : BoardValue)
    → head ≡ head_of root.board → root.log ≡ opening ∷ [] → latest ≡ root → first.store ≡ [] → first.front ≡ root
    → shown_of u ≡ first → queue_of u ≡ [] → view u.desk.place ≡ Some (shown_of u).front → IsInOrder u head root latest
opened u head root latest first head_is log same store front is queue knows =
    let shown : (shown_of u).front ≡ latest = ap (λ (x : BoardValue). x.front) is ∙ (front ∙ sym same) in
    record {
      head_is = head_is ∙ ap (λ (r : KnownHistory). head_of r.board) (sym same);
      root_board = ap (λ (r : KnownHistory). r.board) (sym same);
      root_log = log;
      shown_board = ap (λ (r : KnownHistory). r.board) shown;
      tied = tied_first (shown_of u) first is store (ap (λ (r : KnownHistory). r.log) front ∙ log);
      behind = subst (λ (r : KnownHistory). IsPrefix r.log latest.log) (sym shown) (prefix_self latest.log);
      ahead = subst (λ (r : KnownHistory). IsPrefix (newest r.log).operations (awaited u).operations) shown
          (operations_of (queue_of u), refl);
      knows = knows;
    }

module _ {P A S : Type 0} {g : _} (w v : Writer BoardValue BoardOp (Option KnownHistory) P A S g)
    (head : Named) (root latest : KnownHistory) where
  same_awaited : v.desk ≡ w.desk → (ops : List StoreOp)
      → operations_of (queue_of v) ≡ operations_of (queue_of w) ++ ops
      → (awaited w).operations ++ ops ≡ (awaited v).operations
  same_awaited desk ops e =
      append_assoc (edition_of w).operations (operations_of (queue_of w)) ops
      ∙ (ap (λ more. (edition_of w).operations ++ more) (sym e) ∙ ap (λ d. (newest d.shown.value.front.log).operations ++ operations_of (queue_of v)) (sym desk))

  knows_still : IsInOrder w head root latest → v.desk ≡ w.desk → view v.desk.place ≡ Some (shown_of v).front
  knows_still o desk = ap (λ d. view d.place) desk ∙ (o.knows ∙ ap (λ d. Some d.shown.value.front) (sym desk))

  behind_still : IsInOrder w head root latest → v.desk ≡ w.desk → IsPrefix (shown_of v).front.log latest.log
  behind_still o desk = subst (λ (x : BoardValue). IsPrefix x.front.log latest.log)
      (sym (ap (λ d. d.shown.value) desk)) o.behind

  -- more is pending
  pub more_pending : IsInOrder w head root latest → v.desk ≡ w.desk → (ops : List StoreOp)
      → operations_of (queue_of v) ≡ operations_of (queue_of w) ++ ops → IsInOrder v head root latest
  more_pending o desk ops more = record {
    head_is = o.head_is;
    root_board = o.root_board;
    root_log = o.root_log;
    shown_board = ap (λ d. d.shown.value.front.board) desk ∙ o.shown_board;
    tied = subst (λ (x : BoardValue). IsTied x) (sym (ap (λ d. d.shown.value) desk)) o.tied;
    behind = behind_still o desk;
    ahead = prefix_trans (newest latest.log).operations (awaited w).operations (awaited v).operations o.ahead
        (ops, same_awaited desk ops more);
    knows = knows_still o desk;
  }

  pub more_view : v.desk ≡ w.desk → (ops : List StoreOp)
      → operations_of (queue_of v) ≡ operations_of (queue_of w) ++ ops
      → written latest.board (edition_of v) (operations_of (queue_of v)) ≡ written latest.board (edition_of w) (operations_of (queue_of w) ++ ops)
  more_view desk ops e i = written latest.board (newest (desk i).shown.value.front.log) (e i)

  module _ (next : KnownHistory) where
    -- the history has gone on by what is awaited
    pub made_ready : IsInOrder w head root latest → v.desk ≡ w.desk → next ≡ with_edition latest (awaited w)
        → operations_of (queue_of v) ≡ operations_of (queue_of w) → IsInOrder v head root next
    made_ready o desk step same =
        let board : next.board ≡ latest.board = ap (λ (r : KnownHistory). r.board) step in
        let log : next.log ≡ latest.log ++ awaited w ∷ [] = ap (λ (r : KnownHistory). r.log) step in
        let all : (awaited w).operations ≡ (awaited v).operations =
        sym (append-nil (awaited w).operations) ∙ same_awaited desk [] (same ∙ sym (append-nil (operations_of (queue_of w)))) in
        let last : (newest next.log).operations ≡ (awaited v).operations =
        ap (λ (l : List Edition). (newest l).operations) log ∙ (ap (λ (e : Edition). e.operations) (newest_last latest.log (awaited w)) ∙ all) in
        record {
          head_is = o.head_is ∙ ap head_of (sym board);
          root_board = o.root_board ∙ sym board;
          root_log = o.root_log;
          shown_board = ap (λ d. d.shown.value.front.board) desk ∙ (o.shown_board ∙ sym board);
          tied = subst (λ (x : BoardValue). IsTied x) (sym (ap (λ d. d.shown.value) desk)) o.tied;
          behind = prefix_trans (shown_of v).front.log latest.log next.log (behind_still o desk)
              (awaited w ∷ [], sym log);
          ahead = subst (λ (z : List StoreOp). IsPrefix (newest next.log).operations z) last
              (prefix_self (newest next.log).operations);
          knows = knows_still o desk;
        }

    pub is_ready : IsInOrder w head root latest → v.desk ≡ w.desk → next ≡ with_edition latest (awaited w)
        → queue_of v ≡ queue_of w ++ Mark next ∷ [] → IsReady (shown_of v) (queue_of v)
    is_ready o desk step queue =
        let ready : IsReady (shown_of w) (queue_of w ++ Mark next ∷ []) =
        ready_mark (shown_of w) (queue_of w) next latest.log o.tied (ap (λ (r : KnownHistory). r.board) step ∙ sym o.shown_board) o.behind (ap (λ (r : KnownHistory). r.log) step) in
        subst (λ (x : BoardValue). IsReady x (queue_of v)) (sym (ap (λ d. d.shown.value) desk))
        (subst (λ (q : List BoardOp). IsReady (shown_of w) q) (sym queue) ready)

    module _ (u : Writer BoardValue BoardOp (Option KnownHistory) P A S g) where
      abbrev pub Showed : Type 0
      Showed = (shown_of u ≡ fold board_after (shown_of v) (queue_of v)) × (queue_of u ≡ []) ×
          (view u.desk.place ≡ Some (shown_of u).front)

      abbrev pub Kept : Type 0
      Kept = (shown_of u ≡ shown_of v) × (queue_of u ≡ queue_of v) × (view u.desk.place ≡ view v.desk.place)

      shown_next : queue_of v ≡ queue_of w ++ Mark next ∷ [] → Showed
          → shown_of u ≡ record { store = fold after_operation (shown_of v).store (operations_of (queue_of w)); front = next }
      shown_next queue s = s.0 ∙ (ap (λ q. fold board_after (shown_of v) q) queue ∙ fold_mark (shown_of v) (queue_of w) next)

      -- once it was shown
      pub showed : IsInOrder v head root next → queue_of v ≡ queue_of w ++ Mark next ∷ []
          → IsReady (shown_of v) (queue_of v) → Showed → IsInOrder u head root next
      showed o queue ready s =
          let is = shown_next queue s in
          let front : (shown_of u).front ≡ next = ap (λ (x : BoardValue). x.front) is in
          let all : (newest next.log).operations ≡ (awaited u).operations =
          sym (ap (λ (r : KnownHistory). (newest r.log).operations ++ operations_of (queue_of u)) front ∙ (ap (λ (q : List BoardOp). (newest next.log).operations ++ operations_of q) s.1 ∙ append-nil (newest next.log).operations)) in
          record {
            head_is = o.head_is;
            root_board = o.root_board;
            root_log = o.root_log;
            shown_board = ap (λ (r : KnownHistory). r.board) front;
            tied = subst (λ (x : BoardValue). IsTied x) (sym s.0) ready.0;
            behind = subst (λ (r : KnownHistory). IsPrefix r.log next.log) (sym front) (prefix_self next.log);
            ahead = subst (λ (z : List StoreOp). IsPrefix (newest next.log).operations z) all
                (prefix_self (newest next.log).operations);
            knows = s.2;
          }

      pub kept : IsInOrder v head root next → Kept → IsInOrder u head root next
      kept o s =
          let all : (awaited v).operations ≡ (awaited u).operations =
          sym (ap (λ (x : BoardValue). (newest x.front.log).operations ++ operations_of (queue_of u)) s.0 ∙ ap (λ (q : List BoardOp). (edition_of v).operations ++ operations_of q) s.1) in
          record {
            head_is = o.head_is;
            root_board = o.root_board;
            root_log = o.root_log;
            shown_board = ap (λ (x : BoardValue). x.front.board) s.0 ∙ o.shown_board;
            tied = subst (λ (x : BoardValue). IsTied x) (sym s.0) o.tied;
            behind = subst (λ (x : BoardValue). IsPrefix x.front.log next.log) (sym s.0) o.behind;
            ahead = subst (λ (z : List StoreOp). IsPrefix (newest next.log).operations z) all o.ahead;
            knows = s.2 ∙ (o.knows ∙ ap (λ (x : BoardValue). Some x.front) (sym s.0));
          }

      pub after_show : {T E : Type 0} (r : Result T E) → IsInOrder v head root next
          → queue_of v ≡ queue_of w ++ Mark next ∷ [] → IsReady (shown_of v) (queue_of v)
          → MatchResult r (λ _. Showed) (λ _. Kept) → IsInOrder u head root next
      after_show (Ok x) o queue ready h = showed o queue ready h
      after_show (Err e) o queue ready h = kept o h

      pub showed_view : next ≡ with_edition latest (awaited w) → queue_of v ≡ queue_of w ++ Mark next ∷ [] → Showed
          → written next.board (edition_of u) (operations_of (queue_of u)) ≡ written latest.board (awaited w) []
      showed_view step queue s =
          let board : next.board ≡ latest.board = ap (λ (r : KnownHistory). r.board) step in
          let last : edition_of u ≡ awaited w =
          ap (λ (x : BoardValue). newest x.front.log) (shown_next queue s) ∙ (ap (λ (r : KnownHistory). newest r.log) step ∙ newest_last latest.log (awaited w)) in
          λ i. written (board i) (last i) (operations_of (s.1 i))

      pub kept_view : v.desk ≡ w.desk → next ≡ with_edition latest (awaited w)
          → operations_of (queue_of v) ≡ operations_of (queue_of w) → Kept
          → written next.board (edition_of u) (operations_of (queue_of u)) ≡ written latest.board (edition_of w) (operations_of (queue_of w))
      kept_view desk step same s =
          let board : next.board ≡ latest.board = ap (λ (r : KnownHistory). r.board) step in
          let shown : shown_of u ≡ shown_of w = s.0 ∙ ap (λ d. d.shown.value) desk in
          let ops : operations_of (queue_of u) ≡ operations_of (queue_of w) = ap operations_of s.1 ∙ same in
          λ i. written (board i) (newest (shown i).front.log) (ops i)
