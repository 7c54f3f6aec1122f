-- How one history of a board goes on from another.
use Rattle.std.specs.Prelude.{ℕ, ◌≡◌, ◌⊎◌, ◌==◌, ◌<◌, true, List, [], ◌∷◌, ◌++◌, length, MatchBool}
use mathlib.Core.List.{IsPrefix}
use Rattle.logbook.specs.Pages.{Cell, Step, View, Book, Named}
use Rattle.segment_board.specs.declared.edition.Edition.{Edition}
use Rattle.segment_board.specs.History.{KnownHistory, newest}

-- the second edition equals the first, or is a later one that begins with its operations
abbrev pub Follows : (e later : Edition) → Type 0
Follows e later =
    (later ≡ e) ⊎ ((e.number < later.number) × IsPrefix e.operations later.operations)

abbrev pub RisesFrom : Edition → List Edition → Type 0
RisesFrom x [] = Unit {0}
RisesFrom x (y ∷ ys) = IsPrefix x.operations y.operations × RisesFrom y ys

-- each edition begins with the operations of the one before
abbrev pub Rises : List Edition → Type 0
Rises [] = Unit {0}
Rises (x ∷ xs) = RisesFrom x xs

-- `later` continues `before`: it is the same board, at least as much of its history is known, and
-- its newest edition is the same or a later one
pub record ContinuesFrom (before later : KnownHistory) : Type 0 where
  pub board : later.board ≡ before.board
  pub history : IsPrefix before.log later.log
  pub newer : Follows (newest before.log) (newest later.log)

-- the first word of a board's book is the length of the history; the second word is not used and
-- stays 0
pub record IsKept (cells : List Cell) (log : List Edition) : Type 0 where
  pub words : cells ≡ (length log, true) ∷ (0, true) ∷ []
  pub rises : Rises log

abbrev pub head_of : Book → Named
head_of b = record { tracked = true; key = 0; book = b }

-- the edition was added to the history if all of it had been seen; else nothing was added
abbrev pub Added : (s : Step Edition) (v : View Edition ℕ) (found : ℕ) (w : View Edition ℕ) → Type 0
Added s v found w = MatchBool (found == s.old) (w.0 ≡ v.0 ++ s.ask ∷ []) (Unit {0})
