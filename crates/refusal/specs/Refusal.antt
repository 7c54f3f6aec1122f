-- Steps that may be refused, and the possible answers of calls that also need memory.
use Rattle.std.specs.Prelude.{◌≡◌, Bool, if◌then◌else◌, List, [], ◌∷◌, Option, Some, None, Result, Ok, Err, IsOk}
use Rattle.refusal.specs.declared.fault.OrMemory.{OrMemory}
use Rattle.refusal.specs.declared.fault.OrMemory.TheVariants.{Memory, Refused}

-- ---- steps

-- runs one step after another and stops at the first refusal
infixl 10 ◌>>=◌
abbrev pub ◌>>=◌ : {A B F : Type 0} → Result A F → (A → Result B F) → Result B F
(Ok x) >>= f = f x
(Err fault) >>= f = Err fault

-- goes on if the check holds, and is this refusal if it does not
abbrev pub check : {F : Type 0} → Bool → F → Result (Unit {0}) F
check holds fault = if holds then Ok tt else Err fault

-- the value if no refusal was found, and the refusal otherwise
abbrev pub unless : {A F : Type 0} → Option F → A → Result A F
unless None x = Ok x
unless (Some fault) x = Err fault

-- the results of the step for all elements, or the first refusal
abbrev pub each : {A B F : Type 0} → (A → Result B F) → List A → Result (List B) F
each step [] = Ok []
each step (x ∷ later) = do
  y ← step x
  ys ← each step later
  Ok (y ∷ ys)

-- the result of the step if there is a value, and nothing if there is none
abbrev pub if_there : {A B F : Type 0} → (A → Result B F) → Option A → Result (Option B) F
if_there step None = Ok None
if_there step (Some x) = do
  y ← step x
  Ok (Some y)

-- the same result with its refusal converted by `of_fault`
abbrev pub refused_as : {A F G : Type 0} → (F → G) → Result A F → Result A G
refused_as of_fault (Ok x) = Ok x
refused_as of_fault (Err fault) = Err (of_fault fault)

-- the same result with any refusal replaced by this one
abbrev pub or_else : {A F G : Type 0} → G → Result A F → Result A G
or_else fault result = refused_as (λ other. fault) result

-- ---- what a call answers

-- the call returns exactly the wanted result; `view` maps what it returns to what the definitions
-- speak of
abbrev pub Gives : {X Y F : Type 0} → (X → Y) → Result X F → Result Y F → Type 0
Gives view (Ok x) wanted = wanted ≡ Ok (view x)
Gives view (Err fault) wanted = wanted ≡ Err fault

-- the call returns no value and only judges: Ok if the wanted result is a value, and else its
-- refusal
abbrev pub Judges : {A F : Type 0} → Result (Unit {0}) F → Result A F → Type 0
Judges (Ok done) wanted = IsOk wanted
Judges (Err fault) wanted = wanted ≡ Err fault

-- the error of a call that judges before it takes memory: memory may run out only if the wanted
-- result is a value
abbrev pub Fails : {A F : Type 0} → OrMemory F → Result A F → Type 0
Fails Memory wanted = IsOk wanted
Fails (Refused fault) wanted = wanted ≡ Err fault

-- the answer of a call that judges before it takes memory: the wanted value as `view` maps it, or
-- an error that `Fails` allows
abbrev pub Answers : {X Y F : Type 0} → (X → Y) → Result X (OrMemory F) → Result Y F → Type 0
Answers view (Ok x) wanted = wanted ≡ Ok (view x)
Answers view (Err error) wanted = Fails error wanted

-- the answer of a call that takes memory while it judges: memory may run out also if the wanted
-- result is a refusal
abbrev pub Reads : {X Y F : Type 0} → (X → Y) → Result X (OrMemory F) → Result Y F → Type 0
Reads view (Ok x) wanted = wanted ≡ Ok (view x)
Reads view (Err Memory) wanted = Unit {0}
Reads view (Err (Refused fault)) wanted = wanted ≡ Err fault
