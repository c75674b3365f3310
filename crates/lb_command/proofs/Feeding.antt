-- The outcome of a report on the traces of a feed, from the answer of the bench.
use Rattle.std.proofs.Common.{◌≡◌, ◌∙◌, ℕ, List, [], ◌++◌, Option, None, Some, Result, Ok, Err}
use Rattle.std.proofs.Common.{ap, append-nil, arith, inr, refl, subst, sym}
use Rattle.std.specs.Io.KnownBytes.{Consumes, IsAtEnd}
use Rattle.clap.specs.Words.{Text}
use Rattle.lb_output.specs.declared.text.Report.{Report}
use Rattle.lb_report.specs.Bench.{IsBenchReport}
use Rattle.lb_report.specs.FeedAnswers.{IsFeedAnswer}
use Rattle.lb_report.specs.RangeAnswers.{IsRangeAnswer}
use Rattle.lb_feed.specs.Windows.{Left}
use Rattle.lb_feed.specs.declared.feed.LoadError.TheVariants as load
use Rattle.lb_report.specs.declared.feeding.FeedFault.{FeedFault}
use Rattle.lb_report.specs.declared.feeding.FeedFault.TheVariants as fault
use Rattle.lb_refusal.specs.declared.options.Options.{Options}
use Rattle.lb_command.specs.Outcomes.{HasRead, IsInput, IsOutcomeOn, IsReported}
use Rattle.lb_command.specs.Outcomes.IsRefusedOn.{judged, unread}
use Rattle.lb_command.specs.Streams.{Input, input}
use Rattle.lb_command.specs.Warnings.{AreRemarks}
use Rattle.lb_command.specs.declared.answer.Warned.{Warned}
use Rattle.lb_command.specs.declared.refusal.Refusal.{Refusal}
use Rattle.lb_command.proofs.Inputs.{is_not_read}
use Rattle.lb_command.proofs.Outcomes.{load_unread}

-- the bytes that a feed gave up to its end are all that it had still to give
pub all_given : (before after : Option Text) (traces : Text) → Consumes before after traces
    → IsAtEnd after → IsInput before traces
all_given None after traces consumed end = tt
all_given (Some xs) None traces consumed end = absurd consumed
all_given (Some xs) (Some ys) traces consumed end =
    sym (consumed ∙ ap (λ (rest : List ℕ). traces ++ rest) end ∙ append-nil traces)

-- the outcome of a report, from the answer of the bench on two texts
pub range_outcome : (Are : Text → Text → Type 0) (source traces : Text) (options : Options)
    (found : Result Report FeedFault) (told : Result (Warned Report) Refusal)
    → Are source traces → IsRangeAnswer source traces options found → IsReported found told
    → IsOutcomeOn Are options told
range_outcome Are source traces options (Ok report) (Ok told) are answer is = record {
  source = source;
  traces = traces;
  texts = are;
  reported =
      subst (λ (r : Report). IsBenchReport source traces options r) (sym is) answer.report;
}
range_outcome Are source traces options (Ok report) (Err refusal) are answer is = absurd is
range_outcome Are source traces options (Err (fault.Load e)) (Ok told) are answer is = absurd is
range_outcome Are source traces options (Err (fault.Load e)) (Err refusal) are answer is =
    unread (load_unread e refusal is)
range_outcome Are source traces options (Err (fault.Refused e)) (Ok told) are answer is = absurd is
range_outcome Are source traces options (Err (fault.Refused e)) (Err refusal) are answer is =
    judged source traces are e answer is

-- the outcome of a report, from the answer of the bench on a feed
pub feed_outcome : (source : Text) (options : Options) (old new : Left)
    (found : Result Report FeedFault) (told : Result (Warned Report) Refusal)
    → IsFeedAnswer source options old new found → IsReported found told
    → IsOutcomeOn (λ _ traces. IsInput old.coming traces) options told
feed_outcome source options old new (Ok report) told answer is =
    range_outcome (λ _ traces. IsInput old.coming traces) source answer.traces options (Ok report)
    told (all_given old.coming new.coming answer.traces answer.consumed answer.end) answer.answer is
feed_outcome source options old new (Err (fault.Load e)) (Ok told) answer is = absurd is
feed_outcome source options old new (Err (fault.Load e)) (Err refusal) answer is =
    unread (load_unread e refusal is)
feed_outcome source options old new (Err (fault.Refused e)) told answer is =
    range_outcome (λ _ traces. IsInput old.coming traces) source answer.traces options
    (Err (fault.Refused e)) told
    (all_given old.coming new.coming answer.traces answer.consumed answer.end) answer.answer is

-- E0, want of memory, is not E21, an input that could not be read
not_memory : (number : ℕ) → number ≡ 0 → number ≡ 21 → ⊥
not_memory number zero read = omega (arith, zero, read)

abbrev pub input_of : (old new : Left) → Input
input_of old new = input old.coming old.given new.given old.failures new.failures

-- `HasRead` holds of the outcome of a report on a feed
pub feed_read : (source : Text) (options : Options) (old new : Left)
    (found : Result Report FeedFault) (told : Result (Warned Report) Refusal)
    → IsFeedAnswer source options old new found → IsReported found told
    → HasRead ⊥ (input_of old new) told
feed_read source options old new (Ok report) (Ok told) answer is = answer.failures
feed_read source options old new (Ok report) (Err refusal) answer is = absurd is
feed_read source options old new (Err (fault.Load e)) (Ok told) answer is = absurd is
feed_read source options old new (Err (fault.Load load.Memory)) (Err refusal) answer is =
    record {
      read = λ number. absurd (not_memory refusal.number is number);
      other = λ number. answer;
    }
feed_read source options old new (Err (fault.Load load.Read)) (Err refusal) answer is =
    record { read = λ number. inr answer; other = λ number. absurd (number is) }
feed_read source options old new (Err (fault.Refused e)) (Ok told) answer is = absurd is
feed_read source options old new (Err (fault.Refused e)) (Err refusal) answer is = record {
  read = λ number. absurd (is_not_read e (sym is.number ∙ number));
  other = λ number. answer.failures;
}

-- no remarks at all are remarks beside a report
pub nothing_said : (words : List Text) (options : Options) (remarks : List ℕ) → remarks ≡ []
    → AreRemarks words options remarks
nothing_said words options remarks none = record {
  warnings = [];
  reasons = [];
  are_warnings = record { unasked = λ no. refl; unobserved = λ no. refl };
  unasked = λ no. refl;
  both = none;
}
