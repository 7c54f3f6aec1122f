-- Encodings of trees and policies, by which proofs tell them apart.
use Rattle.std.specs.Prelude.{◌≡◌, ℕ, ◌==◌, if◌then◌else◌, refl}
use Rattle.std.proofs.Common.{sym, ◌∙◌, ap}
use base.Stored.{Coded, Gv, gnil, gnum, gcons}
use Rattle.std.specs.Coded.{codes}
use Rattle.policy_expr.specs.declared.hop.Interfaces.{Interfaces}
use Rattle.policy_expr.specs.declared.hop.Interfaces.TheVariants.{Any, Either, Both}
use Rattle.policy_expr.specs.Language.{Tree, hop, followed, either, optional, repeated, once_or_more}

abbrev interfaces_code : Interfaces → Gv
interfaces_code Any = gnil
interfaces_code (Either n) = gnum n
interfaces_code (Both m n) = gcons (gnum m) (gnum n)

abbrev number_from : Gv → ℕ
number_from gnil = 0
number_from (gnum n) = n
number_from (gcons a b) = 0

abbrev interfaces_from : Gv → Interfaces
interfaces_from gnil = Any
interfaces_from (gnum n) = Either n
interfaces_from (gcons a b) = Both (number_from a) (number_from b)

interfaces_back : (i : Interfaces) → interfaces_from (interfaces_code i) ≡ i
interfaces_back Any = refl
interfaces_back (Either n) = refl
interfaces_back (Both m n) = refl

-- a node of one item, and a node of two
abbrev unary : ℕ → Tree → Tree
unary kind a = if kind == 0 then optional a else if kind == 1 then repeated a else once_or_more a

abbrev binary : (kind : ℕ) (a b : Tree) → Tree
binary kind a b = if kind == 0 then followed a b else either a b

abbrev pub tree_code : Tree → Gv
tree_code (hop pred) = gcons gnil (gcons (gnum pred.ia) (interfaces_code pred.interfaces))
tree_code (followed a b) = gcons (gcons (gnum 0) (tree_code a)) (tree_code b)
tree_code (either a b) = gcons (gcons (gnum 1) (tree_code a)) (tree_code b)
tree_code (optional a) = gcons (gnum 0) (tree_code a)
tree_code (repeated a) = gcons (gnum 1) (tree_code a)
tree_code (once_or_more a) = gcons (gnum 2) (tree_code a)

abbrev coded_hop : Gv → Tree
coded_hop gnil = hop (record { ia = 0; interfaces = Any })
coded_hop (gnum n) = hop (record { ia = 0; interfaces = Any })
coded_hop (gcons ia interfaces) =
    hop (record { ia = number_from ia; interfaces = interfaces_from interfaces })

abbrev pub tree_from : Gv → Tree
tree_from gnil = coded_hop gnil
tree_from (gnum n) = coded_hop gnil
tree_from (gcons gnil pred) = coded_hop pred
tree_from (gcons (gnum kind) a) = unary kind (tree_from a)
tree_from (gcons (gcons kind a) b) = binary (number_from kind) (tree_from a) (tree_from b)

pub tree_back : (t : Tree) → tree_from (tree_code t) ≡ t
tree_back (hop pred) =
    ap (λ (i : Interfaces). hop (record { ia = pred.ia; interfaces = i }))
    (interfaces_back pred.interfaces)
tree_back (followed a b) = ap (λ (x : Tree). followed x (tree_from (tree_code b))) (tree_back a)
    ∙ ap (λ (x : Tree). followed a x) (tree_back b)
tree_back (either a b) = ap (λ (x : Tree). either x (tree_from (tree_code b))) (tree_back a)
    ∙ ap (λ (x : Tree). either a x) (tree_back b)
tree_back (optional a) = ap (λ (x : Tree). optional x) (tree_back a)
tree_back (repeated a) = ap (λ (x : Tree). repeated x) (tree_back a)
tree_back (once_or_more a) = ap (λ (x : Tree). once_or_more x) (tree_back a)

abbrev pub coded_tree : Coded Tree
coded_tree =
    record { code = tree_code; inj = λ x y e. sym (tree_back x) ∙ ap tree_from e ∙ tree_back y }

-- the codes by which `hlevel` finds that of a value with a policy in it
pub ruleset policy_codes = (coded_tree, codes)
