-- The feed is judged while it is read, and then read to its end.
use Rattle.std.proofs.Common.{◌≡◌, Result, Ok, Err, arith, subst, sym}
use Rattle.std.specs.Result.{IsErrAnd}
use Rattle.lb_syntax.specs.Tokens.{Text}
use Rattle.lb_output.specs.declared.text.Report.{Report}
use Rattle.lb_feed.specs.Windows.{Left, left}
use Rattle.lb_report.specs.Bench.{program_of}
use Rattle.lb_report.specs.FeedAnswers.{IsFeedAnswer}
use Rattle.lb_report.specs.declared.feeding.FeedFault.{FeedFault}
use Rattle.lb_report.specs.declared.feeding.FeedFault.TheVariants as fault
use Rattle.lb_refusal.specs.declared.options.Options.{Options}
use Rattle.lb_report.proofs.FeedAnswering.{IsNew, feed_answered, feed_failed, feed_refused}
use Rattle.lb_report.proofs.FeedAnswering.{judged_long, judging_read, load_fault}
use Rattle.lb_report.proofs.feeding.bench_feed.Goals as goal

-- an error that is passed on
told : (source : Text) (options : Options) (old new : Left) (r : Result Report FeedFault)
    (first : FeedFault)
    → IsErrAnd r (λ e. e ≡ first) → IsFeedAnswer source options old new (Err first)
    → IsFeedAnswer source options old new r
told source options old new (Ok report) first same bad = absurd same
told source options old new (Err e) first same bad =
    subst (λ f. IsFeedAnswer source options old new (Err f)) (sym same) bad

pub report_of-requires : goal.report_of-requires
report_of-requires g c =
    let found = c.in-Ok-judge_feed.ensures.ok in
    judged_long (program_of found.tree c.args.options.now) _ _ _ _ c.in-Ok-judge_feed.judged
    found.holds

pub returns-in-Ok-judge_feed : goal.returns-in-Ok-judge_feed
returns-in-Ok-judge_feed g c =
    let new : IsNew c.in-Ok.window = record {
      nothing = c.in-Ok.ensures.empty;
      read = c.in-Ok.ensures.begun.0;
      still = c.in-Ok.ensures.begun.1;
    } in
    feed_answered c.args.source.now c.args.options.now c.in-Ok.window c.judge_feed.new.window _ _
    c.in-Ok-judge_feed.judged new c.in-Ok-judge_feed.ensures.ok c.read.result c.report_of.result
    c.read.ensures c.report_of.ensures.short c.report_of.ensures.ok c.report_of.ensures.err

pub returns-in-Err-Load : goal.returns-in-Err-Load
returns-in-Err-Load g c =
    let new : IsNew c.in-Ok.window = record {
      nothing = c.in-Ok.ensures.empty;
      read = c.in-Ok.ensures.begun.0;
      still = c.in-Ok.ensures.begun.1;
    } in
    let bad = rw c.in-Err-Load.field-0-is at c.in-Err-Load.ensures.err in
    rw c.in-Err-Load.field-0-is (load_fault c.in-Ok.window _ _ c.in-Err-Load.cause new bad)

pub drain-requires-clause-within : goal.drain-requires-clause-within
drain-requires-clause-within g c =
    let bad = rw c.in-Err-Refused.field-0-is at c.in-Err-Refused.ensures.err in
    let read = judging_read c.args.source.now c.args.options.now c.in-Ok.window _ _ _
    c.in-Err-Refused.cause bad in
    read.limit c.in-Ok.ensures.window.limit

pub drain-requires-clause-failures : goal.drain-requires-clause-failures
drain-requires-clause-failures g c =
    let bad = rw c.in-Err-Refused.field-0-is at c.in-Err-Refused.ensures.err in
    let read = judging_read c.args.source.now c.args.options.now c.in-Ok.window _ _ _
    c.in-Err-Refused.cause bad in
    omega (arith, read.failures, c.requires)

pub returns-in_err-drain-in-Err-Refused : goal.returns-in_err-drain-in-Err-Refused
returns-in_err-drain-in-Err-Refused g c =
    let new : IsNew c.in-Ok.window = record {
      nothing = c.in-Ok.ensures.empty;
      read = c.in-Ok.ensures.begun.0;
      still = c.in-Ok.ensures.begun.1;
    } in
    let f = c.args.feed.now in
    let h = c.drain.new.feed in
    let old = left (g.F.Feed.coming f) (g.F.Feed.given f) (g.F.Feed.failures f) in
    let last = left (g.F.Feed.coming h) (g.F.Feed.given h) (g.F.Feed.failures h) in
    let bad = rw c.in-Err-Refused.field-0-is at c.in-Err-Refused.ensures.err in
    let e = c.in_err-drain-in-Err-Refused.field-0.0 in
    let found = feed_failed c.args.source.now c.args.options.now c.in-Ok.window _ _ _ last
    c.in-Err-Refused.cause e new bad c.in_err-drain-in-Err-Refused.ensures.err in
    told c.args.source.now c.args.options.now old last c.from_residual.result (fault.Load e)
    c.from_residual.ensures.1 found

pub returns : goal.returns
returns g c =
    let new : IsNew c.in-Ok.window = record {
      nothing = c.in-Ok.ensures.empty;
      read = c.in-Ok.ensures.begun.0;
      still = c.in-Ok.ensures.begun.1;
    } in
    let bad = rw c.in-Err-Refused.field-0-is at c.in-Err-Refused.ensures.err in
    let drained = c.in_ok-drain-in-Err-Refused.ensures in
    rw (c.first_of.ensures, c.in-Err-Refused.field-0-is)
    (feed_refused c.args.source.now c.args.options.now c.in-Ok.window _ c.drain.new.self _ _ _
    c.in-Err-Refused.cause c.read-in-Err-Refused.result new bad drained.read drained.over
    c.read-in-Err-Refused.ensures)
