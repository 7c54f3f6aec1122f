-- One AS more of a layer.
use Rattle.std.proofs.Common.{◌≡◌, ℕ, suc, ◌+◌, ◌<◌, ◌≤◌, Bool, true, false, List, [], ◌∷◌, ◌++◌, cond, get_or, length, take, sym, ap, ◌∙◌, arith}
use Rattle.std.specs.Prelude.{Option, filter}
use Rattle.std.proofs.lemmas.List.{append_assoc, take_more}
use Rattle.std.proofs.lemmas.List.Elements.{filter-append}
use Rattle.scion_topology.specs.declared.network.AsEntry.{AsEntry}
use Rattle.network_view.specs.declared.marks.Router.{Router}
use Rattle.network_view.specs.Layered.{cells_text, layered_as}
use Rattle.network_view.specs.Layers.{if_of, is_of, layer_ases}

-- ASes behind others
pub cells_append : (at : Option Router) (inside : ℕ → Bool) (row place : ℕ) (xs ys : List AsEntry)
    → cells_text at inside row place (xs ++ ys)
    ≡ cells_text at inside row place xs ++ cells_text at inside row (place + length xs) ys
cells_append at inside row place [] ys =
    ap (λ (p : ℕ). cells_text at inside row p ys) (let same : place ≡ place + 0 = omega arith in same)
cells_append at inside row place (x ∷ xs) ys =
    ap (λ (later : List ℕ). layered_as at inside row place x ++ later) (cells_append at inside row (suc place) xs ys
    ∙ ap (λ (p : ℕ). cells_text at inside row (suc place) xs ++ cells_text at inside row p ys)
    (let same : suc place + length xs ≡ place + suc (length xs) = omega arith in same))
    ∙ sym (append_assoc (layered_as at inside row place x) (cells_text at inside row (suc place) xs)
    (cells_text at inside row (place + suc (length xs)) ys))

-- one AS is at most one
pub of_one : (drawn : ℕ → Bool) (layer_of : ℕ → ℕ) (layer : ℕ) (one : AsEntry) → length (if_of drawn layer_of layer one) ≤ 1
of_one drawn layer_of layer one = short (is_of drawn layer_of layer one)
  where
    short : (is : Bool) → length (cond is (one ∷ []) []) ≤ 1
    short true = omega arith
    short false = omega arith

-- one AS more of the front
pub layer_next : (layer_of : ℕ → ℕ) (drawn : ℕ → Bool) (layer : ℕ) (ases : List AsEntry) (i : ℕ) (one : AsEntry)
    → i < length ases → one ≡ get_or ases i one
    → layer_ases layer_of drawn (take (i + 1) ases) layer
    ≡ layer_ases layer_of drawn (take i ases) layer ++ if_of drawn layer_of layer one
layer_next layer_of drawn layer ases i one within is =
    ap (filter (is_of drawn layer_of layer)) (take_more ases i one within
    ∙ ap (λ (it : AsEntry). take i ases ++ it ∷ []) (sym is))
    ∙ filter-append (is_of drawn layer_of layer) (take i ases) (one ∷ [])
