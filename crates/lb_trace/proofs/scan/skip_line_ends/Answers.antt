use Rattle.std.proofs.Common.{◌∙◌, ap, refl, sym, length, arith}
use Rattle.std.proofs.lemmas.List.{drop_all, take_rest}
use Rattle.lb_trace.specs.Scan.{begun_records}
use Rattle.lb_trace.proofs.FirstCells.{skipped-all, skipped-more, skipped-to}
use Rattle.lb_trace.proofs.scan.skip_line_ends.Goals as goal

pub returns-then-not-ends_line : goal.returns-then-not-ends_line
returns-then-not-ends_line c =
    skipped-to _ _ _ c.loop-i-test.true refl (sym c.if-not-ends_line.ensures) c.loop-i.invariant
    ∙ ap begun_records (sym (take_rest c.args.text.now c.loop-i.i))

pub loop-i-preserved : goal.loop-i-preserved
loop-i-preserved c =
    skipped-more _ _ _ c.loop-i-test.true refl (sym c.if-not-ends_line.ensures) c.loop-i.invariant

pub returns : goal.returns
returns c =
    skipped-all c.args.text.now c.loop-i.i c.loop-i-test.false c.loop-i.invariant
    ∙ ap begun_records (sym (take_rest c.args.text.now (length c.args.text.now)
    ∙ drop_all (length c.args.text.now) c.args.text.now (omega arith)))
