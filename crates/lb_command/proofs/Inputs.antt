-- The reads of the input, by the outcome of a run.
use Rattle.std.proofs.Common.{◌≢◌, arith, inl, inr}
use Rattle.lb_refusal.specs.Refusals.{number_of}
use Rattle.lb_refusal.specs.declared.error.BenchError.{BenchError}
use Rattle.lb_report.proofs.RefusalNumbers.{below_19}
use Rattle.lb_command.specs.Outcomes.{TellsOfInput}
use Rattle.lb_command.specs.Streams.{Input}
use Rattle.lb_command.specs.declared.refusal.Refusal.{Refusal}

-- no error of the bench has the number 21, that of an input that could not be read
pub is_not_read : (e : BenchError) → number_of e ≢ 21
is_not_read e h = omega (arith, below_19 e)

-- `TellsOfInput HasFile` gives `TellsOfInput Other`, where `Other` follows from `HasFile`
pub tells_more : (HasFile Other : Type 0) (i : Input) (refusal : Refusal) → (HasFile → Other)
    → TellsOfInput HasFile i refusal → TellsOfInput Other i refusal
tells_more HasFile Other i refusal f tells = record {
  read = λ number. elim (tells.read number) [ inl file ↦ inl (f file) | inr unread ↦ inr unread ];
  other = tells.other;
}
