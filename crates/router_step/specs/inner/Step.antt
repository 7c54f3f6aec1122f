-- What a step on a header leaves.
use Rattle.std.specs.Prelude.{◌≡◌, Result, Ok, Err}
use Rattle.path_header.specs.Value.{HeaderValue}
use Rattle.router_step.specs.declared.outcome.Outcome.{Outcome}
use Rattle.router_step.specs.declared.fault.Refusal.{Refusal}

-- the step succeeds with the outcome and the new header, or is refused and leaves the header as it
-- was
abbrev pub IsStepped : Result (Outcome × HeaderValue) Refusal → HeaderValue → HeaderValue
    → Result Outcome Refusal → Type 0
IsStepped step old new (Ok outcome) = step ≡ Ok (outcome, new)
IsStepped step old new (Err e) = (step ≡ Err e) × (new ≡ old)
