-- The results of calls on sources and sinks.
use Rattle.std.specs.Prelude.{◌≡◌, ℕ, ◌+◌, ◌≤◌, ◌&&◌, ◌==◌, nat_lt, Bool, true, false, List, length, take, Option, Result, Ok, Err}
use Rattle.std.specs.Io.KnownBytes.{Appends, Consumes, IsAtEnd}
use Rattle.streams.specs.declared.fault.InputFault.{InputFault}
use Rattle.streams.specs.declared.fault.InputFault.TheVariants.{Read, TooLong}

-- the largest number of bytes of an input
abbrev pub most_input : ℕ
most_input = 67108864

-- whether a write failed: it returned a fault, or wrote none of at least one byte
abbrev pub is_failed_write : {E : Type 0} → Result ℕ E → List ℕ → Bool
is_failed_write (Ok n) bytes = (n == 0) && nat_lt 0 (length bytes)
is_failed_write (Err error) bytes = true

-- a beginning of the bytes was written: all of them, some or none
abbrev pub AppendsFront : (old new : Option (List ℕ)) (bytes : List ℕ) → Type 0
AppendsFront old new bytes = (n : ℕ) × Appends old new (take n bytes)

-- whether a read failed
abbrev pub is_failed_read : {A : Type 0} → Result A InputFault → Bool
is_failed_read (Err Read) = true
is_failed_read result = false

-- some bytes were consumed, and their number fulfils this
abbrev pub ConsumesSome : (old new : Option (List ℕ)) (fits : (ℕ → Type 0)) → Type 0
ConsumesSome old new fits = (bytes : List ℕ) × (Consumes old new bytes × fits (length bytes))

-- all bytes up to the end were read, at most `most`; or, if there were too many, one more than that
-- was consumed; or, after another fault, at most `most`
abbrev pub ReadsAll : {A : Type 0} → (items : (A → List ℕ)) (most : ℕ)
    (result : Result A InputFault) (old new : Option (List ℕ)) → Type 0
ReadsAll items most (Ok bytes) old new =
    (Consumes old new (items bytes) × IsAtEnd new) × (length (items bytes) ≤ most)
ReadsAll items most (Err TooLong) old new = ConsumesSome old new (λ n. n ≡ most + 1)
ReadsAll items most (Err fault) old new = ConsumesSome old new (λ n. n ≤ most)
