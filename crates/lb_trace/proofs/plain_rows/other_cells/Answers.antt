use Rattle.std.proofs.Common.{◌+◌, ◌∙◌, ap, sym, refl, drop, arith}
use Rattle.std.proofs.lemmas.List.{take_all}
use Rattle.lb_trace.specs.Lines.{record_of}
use Rattle.lb_trace.specs.PlainRows.{onto, plain_row}
use Rattle.std.proofs.Common.{Some}
use Rattle.lb_trace.proofs.PlainValues.{after-last, after-more, onto-nil, pushed-value, row-full}
use Rattle.lb_trace.proofs.PlainValues.{row-long, row-more, row-none, row-short}
use Rattle.std.proofs.Common.{rules}
use Rattle.lb_trace.proofs.plain_rows.other_cells.Goals as goal

pub loop-i-init : goal.loop-i-init
loop-i-init c = record {
  cells = sym (onto-nil (plain_row c.args.columns.now (record_of c.args.text.now)));
  after = refl;
  long = c.requires;
}

pub loop-i-preserved : goal.loop-i-preserved
loop-i-preserved c =
    let cell = c.in-Some.cell in
    let columns = c.args.columns.now in
    let i = c.loop-i.i in
    record {
      cells = c.loop-i.invariant.cells
          ∙ row-more _ _ _ _ _ _ _ _ _ c.loop-i-test.true refl c.in-Some.ensures c.if-cell.false
          ∙ ap (λ r. onto r (plain_row (drop (i + 1) columns) (record_of cell.rest.now)))
          (sym (pushed-value _ _ _ (search rules) c.put_one.ensures.front));
      after = c.loop-i.invariant.after
          ∙ after-more _ _ _ _ _ c.in-Some.ensures c.if-cell.false;
      long = c.put_one.ensures.long ∙ c.loop-i.invariant.long;
    }

pub returns-then-i-columns : goal.returns-then-i-columns
returns-then-i-columns c =
    let cell = c.in-Some.cell in
    c.loop-i.invariant.cells
    ∙ row-short _ _ _ _ _ _ _ _ _ c.loop-i-test.true refl c.in-Some.ensures
    c.if-cell.true (omega arith)

pub returns-then-cell : goal.returns-then-cell
returns-then-cell c =
    let cell = c.in-Some.cell in (
      c.loop-i.invariant.cells
          ∙ row-full _ _ _ _ _ _ _ _ _ c.loop-i-test.true refl c.in-Some.ensures
          c.if-cell.true (omega arith)
          ∙ ap Some (sym (pushed-value _ _ _ (search rules) c.put_one.ensures.front)
          ∙ take_all (c.loop-i.i + 1) c.put_one.new.cells
          (omega (arith, c.put_one.ensures.long, c.loop-i.invariant.long))),
      after-last _ _ _ _ _ c.in-Some.ensures
          c.if-cell.true ∙ sym c.loop-i.invariant.after,
    )

pub returns : goal.returns
returns c =
    c.loop-i.invariant.cells
    ∙ row-long _ _ _ _ c.loop-i-test.false

pub returns-in_default : goal.returns-in_default
returns-in_default c =
    c.loop-i.invariant.cells
    ∙ row-none _ _ _ _ _ _ c.loop-i-test.true refl c.in_default.ensures
