-- Reading a sequence answers the first fault of its tokens.
use Rattle.std.proofs.Common.{IfOk, IfErr, ◌≡◌, ℕ, ◌≤◌, Bool, true, false, cond, List, Option, Result, Ok, Err, IsOk, refl, sym, ◌∙◌, unwrap_or}
use Rattle.std.specs.Prelude.{nat_lt}
use Rattle.std.specs.Result.{result_err}
use Rattle.refusal.specs.Refusal.{◌>>=◌, Answers}
use Rattle.refusal.specs.declared.fault.OrMemory.{OrMemory}
use Rattle.refusal.specs.declared.fault.OrMemory.TheVariants.{Memory, Refused}
use Rattle.policy_expr.specs.declared.fault.PolicyFault.{PolicyFault}
use Rattle.policy_expr.specs.declared.fault.PolicyFault.TheVariants as faults
use Rattle.policy_expr.specs.Tokens.{tokens}
use Rattle.policy_expr.specs.Language.{Tree}
use Rattle.policy_expr.specs.Grammar.{SpellsSequence}
use Rattle.policy_expr.specs.Reading.{tree_at, node_count, sequence_at, fault_at, IsTextRefusal}
use Rattle.policy_expr.proofs.Steps.{within_size, fault_is_read}
use Rattle.policy_expr.proofs.Found.{sequence_is_spelled, spelled_is_sequence}

fault_is : (f : PolicyFault) (read : Result Tree PolicyFault) (found : Option PolicyFault) → found ≡ result_err read → (read >>= within_size) ≡ Err f → f ≡ unwrap_or found faults.TooLarge
fault_is f (Err g) found is e = rw is (let same : g ≡ f = cc in sym same)
fault_is f (Ok tree) found is e = rw is (large (nat_lt 256 (node_count tree)) e)
  where
    large : (b : Bool) → cond b (Err faults.TooLarge) (Ok tree) ≡ Err f → f ≡ faults.TooLarge
    large true d = cc
    large false d = absurd cc

-- the refusal of a text is its first fault, and TooLarge where it has none
pub refusal_is : (text : List ℕ) (f : PolicyFault) → sequence_at text ≡ Err f → f ≡ unwrap_or (fault_at 0 false (tokens text)) faults.TooLarge
refusal_is text f e = fault_is f (tree_at text) (fault_at 0 false (tokens text)) (fault_is_read text) e

-- where the text is read, it spells a tree
pub spelled_there : (text : List ℕ) → IsOk (sequence_at text) → (tree : Tree) × SpellsSequence text tree × (node_count tree ≤ 256)
spelled_there text ok = there (sequence_at text) refl ok
  where
    there : (r : Result Tree PolicyFault) → sequence_at text ≡ r → IsOk r → (tree : Tree) × SpellsSequence text tree × (node_count tree ≤ 256)
    there (Ok tree) is ok = let both = sequence_is_spelled text tree is in (tree, both.0, both.1)
    there (Err fault) is ok = absurd (let f : false ≡ true = ok in cc)

-- ---- the three clauses, from the equation

module _ (text : List ℕ) where
  pub found_from : (r : Result Tree (OrMemory PolicyFault)) → Answers (λ s. s) r (sequence_at text) → IfOk r (λ t. SpellsSequence text t × (node_count t ≤ 256))
  found_from (Ok t) e = sequence_is_spelled text t e
  found_from (Err error) e = tt

  pub refused_from : (r : Result Tree (OrMemory PolicyFault)) → Answers (λ s. s) r (sequence_at text) → IfErr r (IsTextRefusal text)
  refused_from (Ok t) e = tt
  refused_from (Err Memory) e = spelled_there text e
  refused_from (Err (Refused fault)) e = refusal_is text fault e

  pub only_from : (r : Result Tree (OrMemory PolicyFault)) → Answers (λ s. s) r (sequence_at text)
      → (tree : Tree) → SpellsSequence text tree → node_count tree ≤ 256 → Answers (λ s. s) r (Ok tree)
  only_from (Ok t) e tree spelled small = sym (spelled_is_sequence text tree spelled small) ∙ e
  only_from (Err Memory) e tree spelled small = refl
  only_from (Err (Refused fault)) e tree spelled small = sym (spelled_is_sequence text tree spelled small) ∙ e
