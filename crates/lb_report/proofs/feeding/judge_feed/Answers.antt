-- The program of a source judges, or a part of the texts is refused.
use Rattle.std.proofs.Common.{refl, subst, sym}
use Rattle.lb_feed.specs.Windows.{left}
use Rattle.lb_feed.proofs.WindowReads.{read_none}
use Rattle.lb_report.specs.FeedJudging.{IsJudgingFault}
use Rattle.lb_report.specs.declared.feeding.FeedFault.{FeedFault}
use Rattle.lb_report.specs.Bench.{program_of}
use Rattle.lb_report.proofs.FeedAnswering.{judging_fault, program_judged, source_fault}
use Rattle.lb_report.proofs.feeding.judge_feed.Goals as goal

pub returns-in-Err-clause-err : goal.returns-in-Err-clause-err
returns-in-Err-clause-err g c =
    source_fault c.args.source.now c.args.options.now c.args.window.now _ c.in-Err.cause
    (read_none c.args.window.now c.args.window.now _ refl refl refl) c.in-Err.ensures.err

pub returns-in-Ok-judged_by-clause-ok : goal.returns-in-Ok-judged_by-clause-ok
returns-in-Ok-judged_by-clause-ok g c =
    let found = c.in-Ok.ensures.ok in
    record {
      tree = found.tree;
      spelled = found.spelled;
      holds =
          program_judged (program_of found.tree c.args.options.now) c.in-Ok.program _ _ _ _
          c.in-Ok-judged_by.judged found.holds c.in-Ok-judged_by.ensures.ok;
    }

pub returns-clause-err : goal.returns-clause-err
returns-clause-err g c =
    let f = c.args.feed.now in
    let h = c.judged_by.new.feed in
    let old = left (g.F.Feed.coming f) (g.F.Feed.given f) (g.F.Feed.failures f) in
    let new = left (g.F.Feed.coming h) (g.F.Feed.given h) (g.F.Feed.failures h) in
    let Is : FeedFault → Type 0 =
    IsJudgingFault c.args.source.now c.args.options.now c.args.window.now c.judged_by.new.window old
    new in
    subst Is (sym c.fault_of.ensures)
    (judging_fault c.args.source.now c.args.options.now c.in-Ok.program _ _ _ _
    c.in-Err-judged_by.halt c.in-Ok.ensures.ok c.in-Err-judged_by.ensures.err)
