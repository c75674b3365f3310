-- The outcome of a run that writes values, from what its parts answer.
use Rattle.std.proofs.Common.{◌≡◌, ◌≢◌, ◌∙◌, ℕ, Option, Result, Ok, Err, arith, inl, inr, subst}
use Rattle.std.proofs.Common.{sym}
use Rattle.clap.specs.Words.{Text}
use Rattle.lb_report.specs.Bench.{OnlyProgram}
use Rattle.lb_show.specs.declared.options.ShowOptions.{ShowOptions}
use Rattle.lb_values.specs.Values.{IsLeft, IsNoTrace, IsValuesAnswer}
use Rattle.lb_values.specs.declared.values.ValuesFault.{ValuesFault}
use Rattle.lb_values.specs.declared.values.ValuesFault.TheVariants as values
use Rattle.lb_words.specs.declared.request.Task.{Task}
use Rattle.lb_command.specs.Outcomes.{AreTexts, source_in, traces_in}
use Rattle.lb_command.specs.Showing.{AreAsked, AreUnshown, IsFaultTold, IsShowing, IsShowingOn}
use Rattle.lb_command.specs.Showing.{IsUnshown}
use Rattle.lb_command.specs.Showing.IsUnshown.{judged, memory, no_trace, no_variable}
use Rattle.lb_command.specs.Streams.{Change, Input, IsUntouched, NeverFailed}
use Rattle.lb_command.specs.declared.refusal.Refusal.{Refusal}
use Rattle.lb_command.specs.declared.refusal.Texts.{Texts}
use Rattle.lb_command.specs.declared.showing.ShowingFault.{ShowingFault}
use Rattle.lb_command.specs.declared.showing.ShowingFault.TheVariants.{Refused, Stopped}
use Rattle.lb_command.proofs.Inputs.{is_not_read}

twenty : (n : ℕ) → n ≡ 20 → n ≢ 21
twenty n same is = omega (arith, same, is)

zero_is : (n : ℕ) → n ≡ 0 → n ≢ 21
zero_is n same is = omega (arith, same, is)

-- where memory ran out before anything was written, the values are not shown
pub out_of_memory :
    (T : Type 0) (source traces : Text) (task : Task) (output : Change) (refusal : Refusal) →
    refusal.number ≡ 0 → IsUntouched output →
    IsShowing {T = T} source traces task output (Err (Refused refusal))
out_of_memory T source traces task output refusal number untouched = record {
  cause = memory number;
  not_read = zero_is refusal.number number;
  untouched = untouched;
}

module _ (source traces : Text) (task : Task) (asked : ShowOptions) (output : Change) where
  abbrev pub Answers : Result (Unit {0}) ValuesFault → Type 0
  Answers r =
      IsValuesAnswer source traces task.options asked output.before output.after
      output.failures_before output.failures_after r

  left : IsLeft output.before output.after output.failures_before output.failures_after
      → IsUntouched output
  left is = record { kept = is.kept; never_failed = is.never_failed }

  pub shown_of :
      {T : Type 0} (x : T) → AreAsked task.values asked → Answers (Ok tt) →
      IsShowing source traces task output (Ok x)
  shown_of x are answer = record { asked = asked; are_asked = are; sent = answer }

  pub unshown_of :
      (T : Type 0) (cause : ValuesFault) (fault : ShowingFault) → AreAsked task.values asked →
      IsFaultTold cause fault → Answers (Err cause) →
      IsShowing {T = T} source traces task output (Err fault)
  unshown_of T (values.Refused e) (Refused refusal) are told answer = record {
    cause = judged e answer.0 told;
    not_read = λ is. is_not_read e (sym told.number ∙ is);
    untouched = left answer.1;
  }
  unshown_of T values.UnknownTrace (Refused refusal) are told answer =
      let Is : Text → Type 0 = λ name.
      OnlyProgram source task.options (λ P. IsNoTrace P traces name) in
      record {
        cause = no_trace told (subst Is are.trace answer.0);
        not_read = twenty refusal.number told.0;
        untouched = left answer.1;
      }
  unshown_of T (values.UnknownVariable place) (Refused refusal) are told answer = record {
    cause = no_variable told answer.0;
    not_read = twenty refusal.number told.0;
    untouched = left answer.1;
  }
  unshown_of T (values.Stopped e) fault are told answer =
      let Is : ShowingFault → Type 0 = λ f.
      IsShowing {T = T} source traces task output (Err f) in
      subst Is (sym told) (record { asked = asked; are_asked = are; sent = answer })
  unshown_of T (values.Refused e) (Stopped cause) are told answer = absurd told
  unshown_of T values.UnknownTrace (Stopped cause) are told answer = absurd told
  unshown_of T (values.UnknownVariable place) (Stopped cause) are told answer = absurd told

-- `IsShowing` of the two texts of a task gives `IsShowingOn` of the task
pub showing_on :
    {T : Type 0} (task : Task) (i : Input) (output : Change) (source traces : Text)
    (r : Result T ShowingFault) → AreTexts task i.coming source traces → NeverFailed i →
    IsShowing source traces task output r → IsShowingOn task i output r
showing_on task i output source traces (Ok x) texts never shown =
    record { source = source; traces = traces; texts = texts; shown = shown; read = never }
showing_on task i output source traces (Err (Stopped e)) texts never shown =
    record { source = source; traces = traces; texts = texts; shown = shown; read = never }
showing_on task i output source traces (Err (Refused refusal)) texts never shown =
    inr (record { source = source; traces = traces; texts = texts; shown = shown; read = never })

-- `IsShowing` of two texts gives `IsShowing` of a value of `Texts` that holds them
pub showing_in :
    {T : Type 0} (t : Texts) (source traces : Text) (task : Task) (output : Change)
    (r : Result T ShowingFault) → source ≡ source_in t → traces ≡ traces_in t →
    IsShowing source traces task output r →
    IsShowing (source_in t) (traces_in t) task output r
showing_in t source traces task output r first second shown =
    subst (λ (s : Text). IsShowing s (traces_in t) task output r) first
    (subst (λ (s : Text). IsShowing source s task output r) second shown)
