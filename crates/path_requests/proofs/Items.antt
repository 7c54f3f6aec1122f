-- Reading a list one item after another, up to the first refusal.
use Rattle.std.proofs.Common.{◌≡◌, List, [], ◌∷◌, ◌++◌, Result, Ok, Err, sym, ap, ◌∙◌}
use Rattle.std.proofs.lemmas.List.{append-nil}
use Rattle.serde_json.specs.Data.{Data, Items, no_items, item}
use Rattle.refusal.specs.declared.fault.OrMemory.{OrMemory}
use Rattle.refusal.specs.declared.fault.OrMemory.TheVariants.{Memory, Refused}
use Rattle.refusal.specs.Refusal.{◌>>=◌, Reads}
use Rattle.policy_expr.proofs.Front.{with_front, front_later}
use Rattle.path_requests.specs.Asked.{each_item}

-- what the items are read as, by what the first of them is
abbrev onward : {A F : Type 0} → (Data → Result A F) → Items → Result A F → Result (List A) F
onward one later reading = reading >>= λ x. (each_item one later >>= λ xs. Ok (x ∷ xs))

from_here : {A F : Type 0} (one : Data → Result A F) (left later : Items) (d : Data) (reading : Result A F)
    → left ≡ item d later
    → one d ≡ reading → each_item one left ≡ onward one later reading
from_here one left later d reading is read = ap (each_item one) is ∙ ap (onward one later) read

pub read_more : {A F : Type 0} (one : Data → Result A F) (all left later : Items) (d : Data) (x : A) (front front' : List A)
    → left ≡ item d later → one d ≡ Ok x → front' ≡ front ++ x ∷ []
    → with_front front (each_item one left) ≡ each_item one all
    → with_front front' (each_item one later) ≡ each_item one all
read_more one all left later d x front front' is read longer so_far =
    ap (λ (f : List _). with_front f (each_item one later)) longer
    ∙ front_later front x (each_item one later)
    ∙ ap (with_front front) (sym (from_here one left later d (Ok x) is read)) ∙ so_far

pub stops : {A F X Y : Type 0} (seen : X → List A) (one_seen : Y → A) (one : Data → Result A F) (all left later : Items) (d : Data) (front : List A) (error : OrMemory F)
    (result : Result X (OrMemory F)) → left ≡ item d later → Reads one_seen (Err error) (one d)
    → with_front front (each_item one left) ≡ each_item one all → result ≡ Err error
    → Reads seen result (each_item one all)
stops seen one_seen one all left later d front Memory result at read so_far is = rw is tt
stops seen one_seen one all left later d front (Refused fault) result at read so_far is =
    rw is (sym so_far ∙ ap (with_front front) (from_here one left later d (Err fault) at read))

pub read_all : {A F : Type 0} (one : Data → Result A F) (all left : Items) (front : List A) → left ≡ no_items
    → with_front front (each_item one left) ≡ each_item one all → each_item one all ≡ Ok front
read_all one all left front none so_far =
    sym so_far ∙ ap (λ (rest : Items). with_front front (each_item one rest)) none ∙ ap Ok (append-nil front)
