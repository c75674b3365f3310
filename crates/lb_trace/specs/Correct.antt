-- The result of reading a trace text: the promise of this crate.
-- Source: this project's rule.
use Rattle.std.specs.Prelude.{◌≡◌, ℕ, List, Result, IfOk, IfErr}
use Rattle.lb_static.specs.Signature.{Elements}
use Rattle.lb_traces.specs.Traces.{Recording, Traces}
use Rattle.lb_trace.specs.Errors.{Refuses}
use Rattle.lb_trace.specs.Spelling.{Spells}
use Rattle.lb_trace.specs.declared.error.TraceError.{TraceError}

-- the result of reading `text`: the traces that it spells under a signature, and no others; or its
-- first refusal, where it spells none; or a refused growth
pub record IsTraceReading
    (elements : Elements) (text : List ℕ) (read : Result Recording TraceError)
    : Type 0 where
  pub signature : IfOk read (λ set. set.signature ≡ elements)
  pub spelled : IfOk read (λ set. Spells elements text set.traces)
  pub only : IfOk read (λ set. (other : Traces) → Spells elements text other → other ≡ set.traces)
  pub refused : IfErr read (Refuses elements text)
