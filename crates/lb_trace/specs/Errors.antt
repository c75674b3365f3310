-- The numbers of refusals.
-- Source: this project's rule.
use Rattle.std.specs.Prelude.{ℕ, ◌≡◌, ◌⊎◌, List, Result, Err}
use Rattle.lb_static.specs.Signature.{Elements}
use Rattle.lb_traces.specs.Traces.{Traces}
use Rattle.lb_trace.specs.Refusals.{outcome}
use Rattle.lb_trace.specs.Spelling.{Spells}
use Rattle.lb_trace.specs.declared.error.TraceError.{TraceError}
use Rattle.lb_trace.specs.declared.error.TraceError.TheVariants as fault

-- the number of a refusal: 0 is memory
abbrev pub error_number : TraceError → ℕ
error_number (fault.Memory e) = 0
error_number fault.Header = 14
error_number (fault.Record r n m) = 15
error_number (fault.Cell r c) = 16
error_number (fault.Trace r) = 17
error_number (fault.Limit r) = 18

-- the error `e` has the number that stands in `outcome`, or a growth was refused
abbrev pub IsRefusal : Result Traces ℕ → TraceError → Type 0
IsRefusal outcome e = (error_number e ≡ 0) ⊎ (outcome ≡ Err (error_number e))

-- an error of reading `text`: a growth was refused, or it is the first refusal of `text`, which
-- spells no traces
abbrev pub Refuses : Elements → List ℕ → TraceError → Type 0
Refuses elements text e =
    (error_number e ≡ 0)
    ⊎ ((outcome elements text ≡ Err (error_number e))
    × ((traces : Traces) → ¬ (Spells elements text traces)))
