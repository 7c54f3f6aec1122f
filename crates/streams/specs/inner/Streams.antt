-- What calls on sources and sinks answer.
use Rattle.std.specs.Prelude.{◌≡◌, ℕ, ◌+◌, ◌<◌, ◌≤◌, List, ◌++◌, length, Option, Result, Ok, Err}
use Rattle.std.specs.Io.KnownBytes.{Consumes, IsAtEnd}
use Rattle.streams.specs.declared.fault.InputFault.{InputFault}
use Rattle.streams.specs.declared.fault.InputFault.TheVariants.{TooLong}
use Rattle.streams.specs.Streams.{ConsumesSome}

-- one read, whose bytes are added to those before, up to `most` in all: the number of bytes read, 0
-- only at the end; or why they were not added
abbrev pub ReadsOn : ℕ → ℕ → Result ℕ InputFault → Option (List ℕ) → Option (List ℕ)
    → List ℕ → List ℕ → Type 0
ReadsOn most room (Ok n) old new before after = (bytes : List ℕ)
    × ((Consumes old new bytes × (n ≡ 0 → IsAtEnd new))
    × ((after ≡ before ++ bytes) × ((length bytes ≡ n) × (length after ≤ most))))
ReadsOn most room (Err TooLong) old new before after =
    ConsumesSome old new (λ n. (most < length before + n) × (n ≤ room))
ReadsOn most room (Err fault) old new before after =
    ConsumesSome old new (λ n. length before + n ≤ most)
