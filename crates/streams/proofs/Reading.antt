-- What a read adds to what was read before it.
use Rattle.std.proofs.Common.{◌≡◌, ℕ, ◌+◌, ◌≤◌, ◌<◌, List, ◌++◌, length, Option, length-append, arith}
use Rattle.std.specs.Prelude.{Result, Ok, Err, IsErrAnd}
use Rattle.std.specs.Io.KnownBytes.{Consumes}
use Rattle.std.proofs.KnownBytes.{Consumes-trans}
use Rattle.streams.specs.declared.fault.InputFault.{InputFault}
use Rattle.streams.specs.declared.fault.InputFault.TheVariants.{Read, TooLong, Memory}
use Rattle.streams.specs.Streams.{ConsumesSome, ReadsAll}
use Rattle.streams.specs.inner.Streams.{ReadsOn}

-- what was consumed before counts too
more : (old mid new : Option (List ℕ)) (read : List ℕ) (P Q : ℕ → Type 0)
    → ((n : ℕ) → P n → Q (length read + n)) → Consumes old mid read → ConsumesSome mid new P → ConsumesSome old new Q
more old mid new read P Q implies before some =
    let (bytes, (consumed, fits)) = some in (
      read ++ bytes,
      (
        Consumes-trans old mid new read bytes before consumed,
        rw (length-append read bytes) (implies (length bytes) fits),
      ),
    )

-- a fault of one read is one of them all
pub ReadsAll-fault : {A : Type 0} (items : A → List ℕ) (most room : ℕ) (fault : InputFault) (old mid new : Option (List ℕ)) (read after : List ℕ)
    → Consumes old mid read → room + length read ≤ most + 1 → ReadsOn most room (Err fault) mid new read after
    → ReadsAll items most (Err fault) old new
ReadsAll-fault items most room TooLong old mid new read after before few some =
    more old mid new read (λ n. (most < length read + n) × (n ≤ room)) (λ n. n ≡ most + 1) (λ n (fits : (most < length read + n) × (n ≤ room)). omega (arith, few, fits.0, fits.1)) before some
ReadsAll-fault items most room Read old mid new read after before few some =
    more old mid new read (λ n. length read + n ≤ most) (λ n. n ≤ most) (λ n fits. fits) before some
ReadsAll-fault items most room Memory old mid new read after before few some =
    more old mid new read (λ n. length read + n ≤ most) (λ n. n ≤ most) (λ n fits. fits) before some

-- so is what a call answers that hands it on
pub ReadsAll-handed : {A : Type 0} (items : A → List ℕ) (most : ℕ) (fault : InputFault) (old new : Option (List ℕ)) (result : Result A InputFault)
    → IsErrAnd result (λ e. e ≡ fault) → ReadsAll items most (Err fault) old new → ReadsAll items most result old new
ReadsAll-handed items most fault old new (Ok x) is reads = absurd is
ReadsAll-handed items most fault old new (Err e) is reads = rw is reads
