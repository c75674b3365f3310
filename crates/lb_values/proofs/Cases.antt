-- The one list of traces that a text spells.
use Rattle.std.proofs.Common.{◌≡◌, ◌∙◌, Ok, subst}
use Rattle.lb_syntax.specs.Tokens.{Text}
use Rattle.lb_static.specs.DataTypes.{signature}
use Rattle.lb_static.specs.Instances.{Program}
use Rattle.lb_static.specs.Signature.{Elements}
use Rattle.lb_traces.specs.Traces.{Recording, Traces}
use Rattle.lb_trace.specs.Correct.{IsTraceReading}
use Rattle.lb_trace.specs.Spelling.{Spells}
use Rattle.lb_report.specs.Bench.{IsOnlyRecording}

-- traces that are read under the signature of a program are the one recording of it
pub recorded_is :
    (P : Program) (elements : Elements) (text : Text) (r : Recording) →
    elements ≡ signature P → IsTraceReading elements text (Ok r) → IsOnlyRecording P text r
recorded_is P elements text r same read = record {
  under_signature = read.signature ∙ same;
  text_spells_it = subst (λ (es : Elements). Spells es text r.traces) same read.spelled;
  no_other_is_spelled =
      subst (λ (es : Elements). (other : Traces) → Spells es text other → other ≡ r.traces) same
      read.only;
}
