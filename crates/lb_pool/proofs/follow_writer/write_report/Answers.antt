-- The lines went out, except the text that was kept back; the last line goes out with that.
use Rattle.std.proofs.Common.{◌≡◌, ℕ, List, ◌++◌, ap, sym, subst, ◌∙◌}
use Rattle.lb_traces.specs.Traces.{trace_names}
use Rattle.lb_board.specs.FollowSeats.{right_of}
use Rattle.lb_output.specs.Follows.{Goes}
use Rattle.lb_output.specs.Reports.{lines, report_of, total}
use Rattle.lb_output.proofs.GoingOut.{goes_more, is_followed}
use Rattle.lb_pool.proofs.follow_writer.write_report.Goals as goal

pub returns : goal.returns
returns g c =
    let names = trace_names c.args.set.now.traces in
    let right = right_of c.args.board.now in
    let taken = g.S.Sink.taken in
    let failures = g.S.Sink.failures in
    let wrote = c.in_ok-write_lines.ensures in
    let out = c.write_lines.new.out in
    let full = c.add_total.new.self in
    let all = c.as_slice.ensures.value ∙ wrote.verdicts in
    let text : full.text.items ≡ out.text.items ++ total right =
    c.in_ok-add_total.ensures.text ∙ ap (λ vs. out.text.items ++ total vs) all in
    let more : Goes (taken c.args.sink.now) (taken c.write_lines.new.sink) (report_of names right)
    (out.text.items ++ total right) 0 out.count =
    goes_more (taken c.args.sink.now) (taken c.write_lines.new.sink) (lines names right)
    out.text.items (total right) 0 out.count wrote.gone in
    let Is : List ℕ → ℕ → Type 0 = λ rest to.
    Goes (taken c.args.sink.now) (taken c.write_lines.new.sink) (report_of names right) rest 0 to in
    let goes : Is full.text.items full.count =
    subst (λ to. Is full.text.items to) (sym c.in_ok-add_total.ensures.count)
    (subst (λ rest. Is rest out.count) (sym text) more) in
    let last = c.send_all.ensures in
    is_followed (taken c.args.sink.now) (taken c.write_lines.new.sink)
    (taken c.send_all.new.sink) (report_of names right) full.text.items
    c.send_all.new.out.text.items full.count c.send_all.new.out.count
    (failures c.args.sink.now) (failures c.write_lines.new.sink)
    (failures c.send_all.new.sink) c.send_all.result goes wrote.ok last.gone last.all last.ok
    last.first last.cause
