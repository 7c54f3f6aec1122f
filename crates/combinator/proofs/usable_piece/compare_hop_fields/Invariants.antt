use Rattle.std.proofs.Common.{◌≡◌}
use Rattle.std.specs.Ordering.{nat_cmp}
use Rattle.std.specs.Cmp.Lexicographic.{slice_cmp}
use Rattle.path_verifier.specs.Piece.{travelled_entries}
use Rattle.combinator.specs.inner.Group.{hop_bytes}
use Rattle.combinator.proofs.Least.{bytes_from}
use Rattle.combinator.proofs.usable_piece.compare_hop_fields.Given as goal

abbrev pub invariant-loop-place : goal.invariant-loop-place
invariant-loop-place l = slice_cmp nat_cmp (hop_bytes l.one) (hop_bytes l.other)
    ≡ slice_cmp nat_cmp (bytes_from (travelled_entries l.one) l.place) (bytes_from (travelled_entries l.other) l.place)
