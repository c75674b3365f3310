-- A part of a text, as it is read.
-- This file says what data of the program mean; no definition of the language stands on it.
use Rattle.std.specs.Prelude.{◌≡◌, Bool as Truth, true, [], ◌∷◌}
use Rattle.lb_static.specs.Signature.{Elements}
use Rattle.lb_traces.specs.Traces.{Traces}
use Rattle.lb_trace.specs.declared.round.RoundReader.{RoundReader}
use Rattle.lb_trace.specs.Mirrors.{knows}
use Rattle.lb_trace.specs.Refusals.{is_last}
use Rattle.lb_trace.specs.Spelling.{Record}

-- the part `round` has these traces so far, under the signature `elements`, and knows their names
pub record IsRound (elements : Elements) (traces : Traces) (round : RoundReader) : Type 0 where
  pub signature : round.recorder.rows.signature ≡ elements
  pub read : round.recorder.rows.traces ≡ traces
  pub known : knows round.recorder.names round.recorder.rows.traces

-- whether a record goes on with the last of some traces, or has no name
abbrev pub goes_on : Record → Traces → Truth
goes_on [] traces = true
goes_on (name ∷ cells) traces = is_last name traces
