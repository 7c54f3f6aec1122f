-- Sequences are trees whose texts are read again.
use Rattle.std.proofs.Common.{◌≡◌, ◌∙◌, ℕ, true, false, List, Result, Ok, Err, IsOk, refl, ap}
use Rattle.policy_expr.specs.declared.fault.PolicyFault.{PolicyFault}
use Rattle.policy_expr.specs.Language.{Tree}
use Rattle.policy_expr.specs.Printing.{sequence_text, IsSequence}
use Rattle.policy_expr.specs.Reading.{tree_at, sequence_at}
use Rattle.policy_expr.proofs.Readable.{IsReadable}
use Rattle.policy_expr.proofs.Printed.{printed_again}
use Rattle.policy_expr.proofs.Kept.{read_is_sequence}
use Rattle.policy_expr.proofs.Found.{within, sequence_is_spelled, spelled_is_sequence}

readable_is_sequence : (tree : Tree) → IsReadable tree → IsSequence tree
readable_is_sequence tree readable = record {
  small = readable.small;
  spelled = (sequence_is_spelled (sequence_text tree) tree (printed_again tree readable)).0;
}

-- what is printed of a sequence is read as it again
pub sequence_again : (tree : Tree) → IsSequence tree → sequence_at (sequence_text tree) ≡ Ok tree
sequence_again tree sequence = spelled_is_sequence (sequence_text tree) tree sequence.spelled sequence.small

-- a text that is printed of a sequence is read as it again
pub text_again : (text : List ℕ) (tree : Tree) → IsSequence tree → text ≡ sequence_text tree → sequence_at text ≡ Ok tree
text_again text tree sequence same = ap sequence_at same ∙ sequence_again tree sequence

-- what is read of a text is a sequence
pub read_sequence : (text : List ℕ) (tree : Tree) → sequence_at text ≡ Ok tree → IsSequence tree
read_sequence text tree e = readable_is_sequence tree (read_is_sequence text tree e)

-- what was judged to be a sequence is one once it is read as a tree
pub judged_sequence : (text : List ℕ) (tree : Tree) → IsOk (sequence_at text) → tree_at text ≡ Ok tree → IsSequence tree
judged_sequence text tree ok read = read_sequence text tree (whole (sequence_at text) refl ok)
  where
    one : (r : Result Tree PolicyFault) (a b : Tree) → r ≡ Ok a → r ≡ Ok b → a ≡ b
    one r a b is_a is_b = cc

    whole : (r : Result Tree PolicyFault) → sequence_at text ≡ r → IsOk r → sequence_at text ≡ Ok tree
    whole (Ok other) is ok = (let same : other ≡ tree = one (tree_at text) other tree (within (tree_at text) other is).0 read in is ∙ ap Ok same)
    whole (Err fault) is ok = absurd (let f : false ≡ true = ok in cc)
