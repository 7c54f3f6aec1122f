use Rattle.std.proofs.Common.{◌≡◌, ◌++◌, length, take, drop}
use Rattle.std.specs.Prelude.{option_map}
use Rattle.scion_ffi.specs.Parts.{entries_told}
use Rattle.scion_ffi.proofs.parts.fill.Given as goal

abbrev pub invariant-loop-i : goal.invariant-loop-i
invariant-loop-i l =
    (length l.room ≡ length l.initial.room)
    × (entries_told l.interfaces ≡ option_map (λ entries. take l.i l.room ++ entries) (entries_told (drop l.i l.interfaces)))
