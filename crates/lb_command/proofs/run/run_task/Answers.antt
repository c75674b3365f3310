use Rattle.std.proofs.Common.{map, refl, subst, sym}
use Rattle.std.specs.Prelude.{string_bytes}
use Rattle.lb_words.specs.declared.request.Aim.{Aim}
use Rattle.lb_command.specs.Correct.{IsRunFor}
use Rattle.lb_command.specs.Streams.{change, input}
use Rattle.lb_command.proofs.run.run_task.Goals as goal

pub returns-in-Report : goal.returns-in-Report
returns-in-Report g c =
    let args = c.args in
    let new = c.run_whole.new in
    let Is : Aim → Type 0 = λ aim.
    IsRunFor aim (map string_bytes args.words.now) args.task.now
    (input (g.F.Feed.coming args.reader.now) (g.F.Feed.given args.reader.now)
    (g.F.Feed.given new.reader) (g.F.Feed.failures args.reader.now)
    (g.F.Feed.failures new.reader)) c.run_whole.result
    (change (g.W.Sink.taken args.writer.now) (g.W.Sink.taken new.writer)
    (g.W.Sink.failures args.writer.now) (g.W.Sink.failures new.writer))
    (change (g.E.Sink.taken args.errors.now) (g.E.Sink.taken new.errors)
    (g.E.Sink.failures args.errors.now) (g.E.Sink.failures new.errors)) in
    subst Is (sym c.in-Report.is) c.run_whole.ensures

pub returns-in-LiveReport : goal.returns-in-LiveReport
returns-in-LiveReport g c =
    let args = c.args in
    let new = c.run_live.new in
    let Is : Aim → Type 0 = λ aim.
    IsRunFor aim (map string_bytes args.words.now) args.task.now
    (input (g.F.Feed.coming args.reader.now) (g.F.Feed.given args.reader.now)
    (g.F.Feed.given new.reader) (g.F.Feed.failures args.reader.now)
    (g.F.Feed.failures new.reader)) c.run_live.result
    (change (g.W.Sink.taken args.writer.now) (g.W.Sink.taken new.writer)
    (g.W.Sink.failures args.writer.now) (g.W.Sink.failures new.writer))
    (change (g.E.Sink.taken args.errors.now) (g.E.Sink.taken new.errors)
    (g.E.Sink.failures args.errors.now) (g.E.Sink.failures new.errors)) in
    subst Is (sym c.in-LiveReport.is) c.run_live.ensures

pub returns-in-OneTrace : goal.returns-in-OneTrace
returns-in-OneTrace g c =
    let args = c.args in
    let new = c.run_showing.new in
    let Is : Aim → Type 0 = λ aim.
    IsRunFor aim (map string_bytes args.words.now) args.task.now
    (input (g.F.Feed.coming args.reader.now) (g.F.Feed.given args.reader.now)
    (g.F.Feed.given new.reader) (g.F.Feed.failures args.reader.now)
    (g.F.Feed.failures new.reader)) c.run_showing.result
    (change (g.W.Sink.taken args.writer.now) (g.W.Sink.taken new.writer)
    (g.W.Sink.failures args.writer.now) (g.W.Sink.failures new.writer))
    (change (g.E.Sink.taken args.errors.now) (g.E.Sink.taken new.errors)
    (g.E.Sink.failures args.errors.now) (g.E.Sink.failures new.errors)) in
    subst Is (sym c.in-OneTrace.is) c.run_showing.ensures

pub returns-in-Check : goal.returns-in-Check
returns-in-Check g c =
    let args = c.args in
    let new = c.run_judging.new in
    let Is : Aim → Type 0 = λ aim.
    IsRunFor aim (map string_bytes args.words.now) args.task.now
    (input (g.F.Feed.coming args.reader.now) (g.F.Feed.given args.reader.now)
    (g.F.Feed.given new.reader) (g.F.Feed.failures args.reader.now)
    (g.F.Feed.failures new.reader)) c.run_judging.result
    (change (g.W.Sink.taken args.writer.now) (g.W.Sink.taken new.writer)
    (g.W.Sink.failures args.writer.now) (g.W.Sink.failures new.writer))
    (change (g.E.Sink.taken args.errors.now) (g.E.Sink.taken new.errors)
    (g.E.Sink.failures args.errors.now) (g.E.Sink.failures new.errors)) in
    subst Is (sym c.in-Check.is) c.run_judging.ensures

pub returns-in-Header : goal.returns-in-Header
returns-in-Header g c =
    let args = c.args in
    let new = c.run_judging-in-Header.new in
    let Is : Aim → Type 0 = λ aim.
    IsRunFor aim (map string_bytes args.words.now) args.task.now
    (input (g.F.Feed.coming args.reader.now) (g.F.Feed.given args.reader.now)
    (g.F.Feed.given new.reader) (g.F.Feed.failures args.reader.now)
    (g.F.Feed.failures new.reader)) c.run_judging-in-Header.result
    (change (g.W.Sink.taken args.writer.now) (g.W.Sink.taken new.writer)
    (g.W.Sink.failures args.writer.now) (g.W.Sink.failures new.writer))
    (change (g.E.Sink.taken args.errors.now) (g.E.Sink.taken new.errors)
    (g.E.Sink.failures args.errors.now) (g.E.Sink.failures new.errors)) in
    subst Is (sym c.in-Header.is) c.run_judging-in-Header.ensures

pub returns-in-Merge : goal.returns-in-Merge
returns-in-Merge g c =
    let args = c.args in
    let new = c.run_merge.new in
    let Is : Aim → Type 0 = λ aim.
    IsRunFor aim (map string_bytes args.words.now) args.task.now
    (input (g.F.Feed.coming args.reader.now) (g.F.Feed.given args.reader.now)
    (g.F.Feed.given args.reader.now) (g.F.Feed.failures args.reader.now)
    (g.F.Feed.failures args.reader.now)) c.run_merge.result
    (change (g.W.Sink.taken args.writer.now) (g.W.Sink.taken new.writer)
    (g.W.Sink.failures args.writer.now) (g.W.Sink.failures new.writer))
    (change (g.E.Sink.taken args.errors.now) (g.E.Sink.taken new.errors)
    (g.E.Sink.failures args.errors.now) (g.E.Sink.failures new.errors)) in
    subst Is (sym c.in-Merge.is) ((refl, refl), c.run_merge.ensures)
