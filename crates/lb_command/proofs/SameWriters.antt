-- The sinks of a run lend their bytes to the same writers after the run as before it.
use Rattle.std.proofs.Common.{ℕ, List, [], ◌∷◌, Result, Ok, Err, inl, inr}
use Rattle.clap.specs.Words.{Text}
use Rattle.lb_output.specs.Follows.{IsFollowed}
use Rattle.lb_output.specs.declared.follow_error.FollowError.{FollowError}
use Rattle.lb_values.specs.Sending.{IsSent}
use Rattle.lb_words.specs.declared.request.Aim.{Aim}
use Rattle.lb_words.specs.declared.request.Aim.TheVariants as aim
use Rattle.lb_words.specs.declared.request.Task.{Task}
use Rattle.lb_command.specs.Correct.{IsRun, IsRunFor, IsWholeRun}
use Rattle.lb_command.specs.Judging.{IsJudgingRun}
use Rattle.lb_command.specs.Live.{IsLiveRun}
use Rattle.lb_command.specs.Merging.{IsMergeRun}
use Rattle.lb_command.specs.Outcomes.{IsDelivered, IsTold}
use Rattle.lb_command.specs.Showing.{IsShowingOn, IsShowingRun}
use Rattle.lb_command.specs.Streams.{Change, HasSameWriter, Input, TookOrFailed}
use Rattle.lb_command.specs.Warnings.{IsWarned}
use Rattle.lb_command.specs.declared.answer.Answer.{Answer}
use Rattle.lb_command.specs.declared.refusal.Refusal.{Refusal}
use Rattle.lb_command.specs.declared.showing.ShowingFault.TheVariants.{Refused}

-- ## One sink

same_by_text : (c : Change) (text : List ℕ) → TookOrFailed c text → HasSameWriter c
same_by_text c text (inl took) = took.all.same
same_by_text c text (inr failed) = failed.same

same_by_warnings : (c : Change) (warnings : List ℕ) → IsWarned c warnings → HasSameWriter c
same_by_warnings c [] untouched = untouched.kept.same
same_by_warnings c (x ∷ xs) warned = same_by_text c (x ∷ xs) warned

same_by_refusal : (words : List Text) (c : Change) (text : List ℕ) → IsTold words c text
    → HasSameWriter c
same_by_refusal words c text told = same_by_text c _ told.told

same_by_report : (text : List ℕ) (c : Change) (run : Result (Unit {0}) FollowError)
    → IsFollowed text c.before c.after c.failures_before c.failures_after run → HasSameWriter c
same_by_report text c (Ok x) followed = followed.0.same
same_by_report text c (Err e) followed = followed.0.gone.same

same_by_values : (text : List ℕ) (c : Change) (run : Result (Unit {0}) FollowError)
    → IsSent text c.before c.after c.failures_before c.failures_after run → HasSameWriter c
same_by_values text c (Ok x) sent = sent.0.same
same_by_values text c (Err e) sent = sent.begun.gone.same

-- ## Both sinks

-- both sinks of a run lend their bytes to the same writers as before
pub record HaveSameWriters (output errors : Change) : Type 0 where
  pub of_output : HasSameWriter output
  pub of_errors : HasSameWriter errors

same_by_answer : (words : List Text) (answer : Answer) (warnings : List ℕ) (status : ℕ)
    (output errors : Change) → IsDelivered words answer warnings status output errors
    → HaveSameWriters output errors
same_by_answer words answer warnings status output errors (IsDelivered.whole is took warned) =
    record { of_output = took.all.same; of_errors = same_by_warnings errors warnings warned }
same_by_answer words answer warnings status output errors
    (IsDelivered.broken count within took is failed told) =
    record { of_output = took.same; of_errors = same_by_refusal words errors _ told }

of_whole : (words : List Text) (task : Task) (i : Input) (status : ℕ) (output errors : Change)
    → IsWholeRun words task i status output errors → HaveSameWriters output errors
of_whole words task i status output errors (IsWholeRun.answered told on read delivered) =
    same_by_answer words _ _ status output errors delivered
of_whole words task i status output errors (IsWholeRun.refused refusal on tells is untouched told) =
    record { of_output = untouched.kept.same; of_errors = same_by_refusal words errors _ told }
of_whole words task i status output errors
    (IsWholeRun.no_baseline refusal on unread is untouched told) =
    record { of_output = untouched.kept.same; of_errors = same_by_refusal words errors _ told }

of_live : (words : List Text) (task : Task) (i : Input) (status : ℕ) (output errors : Change)
    → IsLiveRun words task i status output errors → HaveSameWriters output errors
of_live words task i status output errors (IsLiveRun.whole warnings on is are warned) = record {
  of_output = same_by_report on.goes.report output (Ok tt) on.goes.followed;
  of_errors = same_by_warnings errors warnings warned;
}
of_live words task i status output errors (IsLiveRun.stopped e on is told) = record {
  of_output = same_by_report on.goes.report output (Err e) on.goes.followed;
  of_errors = same_by_refusal words errors _ told;
}
of_live words task i status output errors (IsLiveRun.refused refusal on is told) =
    record { of_output = on.untouched.kept.same; of_errors = same_by_refusal words errors _ told }

of_unshown : (task : Task) (i : Input) (output : Change) (refusal : Refusal)
    → IsShowingOn {T = Unit {0}} task i output (Err (Refused refusal)) → HasSameWriter output
of_unshown task i output refusal (inl unread) = unread.untouched.kept.same
of_unshown task i output refusal (inr on) = on.shown.untouched.kept.same

of_showing : (words : List Text) (task : Task) (i : Input) (status : ℕ) (output errors : Change)
    → IsShowingRun words task i status output errors → HaveSameWriters output errors
of_showing words task i status output errors
    (IsShowingRun.whole warnings on is are warned) = record {
      of_output = same_by_values on.shown.sent.text output (Ok tt) on.shown.sent.sent;
      of_errors = same_by_warnings errors warnings warned;
    }
of_showing words task i status output errors (IsShowingRun.stopped e on is told) = record {
  of_output = same_by_values on.shown.sent.text output (Err e) on.shown.sent.sent;
  of_errors = same_by_refusal words errors _ told;
}
of_showing words task i status output errors (IsShowingRun.refused refusal on is told) = record {
  of_output = of_unshown task i output refusal on;
  of_errors = same_by_refusal words errors _ told;
}

of_judging : (words : List Text) (task : Task) (i : Input) (status : ℕ) (output errors : Change)
    → IsJudgingRun words task i status output errors → HaveSameWriters output errors
of_judging words task i status output errors
    (IsJudgingRun.answered answer warnings to read are delivered) =
    same_by_answer words answer warnings status output errors delivered
of_judging words task i status output errors
    (IsJudgingRun.refused refusal away tells is untouched told) =
    record { of_output = untouched.kept.same; of_errors = same_by_refusal words errors _ told }

of_merge : (words : List Text) (task : Task) (status : ℕ) (output errors : Change)
    → IsMergeRun words task status output errors → HaveSameWriters output errors
of_merge words task status output errors (IsMergeRun.answered shown notes told delivered) =
    same_by_answer words _ notes status output errors delivered
of_merge words task status output errors (IsMergeRun.refused refusal on is untouched told) =
    record { of_output = untouched.kept.same; of_errors = same_by_refusal words errors _ told }

of_task : (a : Aim) (words : List Text) (task : Task) (i : Input) (status : ℕ)
    (output errors : Change) → IsRunFor a words task i status output errors
    → HaveSameWriters output errors
of_task aim.Report words task i status output errors r =
    of_whole words task i status output errors r
of_task aim.LiveReport words task i status output errors r =
    of_live words task i status output errors r
of_task aim.OneTrace words task i status output errors r =
    of_showing words task i status output errors r
of_task aim.Merge words task i status output errors r =
    of_merge words task status output errors r.1
of_task aim.Check words task i status output errors r =
    of_judging words task i status output errors r
of_task aim.Header words task i status output errors r =
    of_judging words task i status output errors r

pub same_writers : (words : List Text) (i : Input) (status : ℕ) (output errors : Change)
    → IsRun words i status output errors → HaveSameWriters output errors
same_writers words i status output errors (IsRun.asked task is r) =
    of_task task.aim words task i status output errors r
same_writers words i status output errors (IsRun.told answer of unread delivered) =
    same_by_answer words answer [] status output errors delivered
same_writers words i status output errors (IsRun.refused refusal is unread s untouched told) =
    record { of_output = untouched.kept.same; of_errors = same_by_refusal words errors _ told }
