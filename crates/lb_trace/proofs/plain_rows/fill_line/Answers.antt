use Rattle.std.proofs.Common.{◌+◌, ◌∙◌, ap, sym, refl, drop}
use Rattle.std.proofs.Common.{arith, take}
use Rattle.std.proofs.lemmas.List.{take_rest}
use Rattle.lb_trace.specs.Lines.{record_of}
use Rattle.lb_trace.specs.PlainRows.{onto, plain_row}
use Rattle.lb_trace.proofs.PlainValues.{after-more, onto-nil, pushed-value, row-more, row-short}
use Rattle.lb_trace.proofs.PlainValues.{put-tail, tail-read}
use Rattle.lb_trace.proofs.TruthCells.{goes-on-from}
use Rattle.std.proofs.Common.{rules}
use Rattle.lb_trace.proofs.plain_rows.fill_line.Goals as goal

pub loop-i-init : goal.loop-i-init
loop-i-init c = record {
  cells = sym (onto-nil (plain_row c.args.columns.now (record_of c.args.text.now)));
  after = refl;
  long = c.requires;
  within = omega arith;
}

pub loop-i-preserved-in-Some : goal.loop-i-preserved-in-Some
loop-i-preserved-in-Some c =
    let four = c.in-Some.ensures in
    let on = goes-on-from c.args.columns.now _ c.loop-i.i c.loop-i.rest.now _ _ _
    (take c.loop-i.i c.loop-i.cells) _
    (take_rest c.args.columns.now c.loop-i.i) (take_rest c.loop-i.rest.now 8)
    c.put_four.ensures.front four.2 in
    record {
      cells = c.loop-i.invariant.cells ∙ on.0;
      after = c.loop-i.invariant.after ∙ on.1;
      long = c.put_four.ensures.long ∙ c.loop-i.invariant.long;
      within = omega (arith, c.loop-i-test.true);
    }

pub loop-i-preserved-in-Some-four_numbers : goal.loop-i-preserved-in-Some-four_numbers
loop-i-preserved-in-Some-four_numbers c =
    let numbers = c.in-Some-four_numbers.ensures in
    let on = goes-on-from c.args.columns.now _ c.loop-i.i c.loop-i.rest.now _ _ _
    (take c.loop-i.i c.loop-i.cells) _
    (take_rest c.args.columns.now c.loop-i.i) refl c.put_four-in-Some-four_numbers.ensures.front
    numbers.1 in
    record {
      cells = c.loop-i.invariant.cells ∙ on.0;
      after = c.loop-i.invariant.after ∙ on.1;
      long = c.put_four-in-Some-four_numbers.ensures.long ∙ c.loop-i.invariant.long;
      within = omega (arith, c.loop-i-test.true);
    }

pub loop-i-preserved : goal.loop-i-preserved
loop-i-preserved c =
    let cell = c.in-Some-small_cell.cell in
    let spelled = c.in-Some-small_cell.ensures in
    let columns = c.args.columns.now in
    let i = c.loop-i.i in
    record {
      cells = c.loop-i.invariant.cells
          ∙ row-more columns i _ _ c.loop-i.rest.now cell.rest.now cell.value
          (take i c.loop-i.cells) cell.is_last (omega (arith, c.loop-i-test.true)) refl spelled
          c.if-cell.false
          ∙ ap (λ r. onto r (plain_row (drop (i + 1) columns) (record_of cell.rest.now)))
          (sym (pushed-value _ (take i c.loop-i.cells) cell.value (search rules)
          c.put_one.ensures.front));
      after = c.loop-i.invariant.after
          ∙ after-more _ c.loop-i.rest.now cell.rest.now cell.value cell.is_last spelled
          c.if-cell.false;
      long = c.put_one.ensures.long ∙ c.loop-i.invariant.long;
      within = omega (arith, c.loop-i-test.true);
    }

pub returns-then-cell : goal.returns-then-cell
returns-then-cell c =
    let cell = c.in-Some-small_cell.cell in
    let spelled = c.in-Some-small_cell.ensures in
    c.loop-i.invariant.cells
    ∙ row-short c.args.columns.now c.loop-i.i _ _ c.loop-i.rest.now cell.rest.now cell.value
    (take c.loop-i.i c.loop-i.cells) cell.is_last (omega (arith, c.loop-i-test.true)) refl spelled
    c.if-cell.true (omega (arith, c.loop-i-test.true))

pub returns : goal.returns
returns c =
    let columns = c.args.columns.now in
    let i = c.loop-i.i in
    tail-read _ _ _ _ _ _ _ _ _
    (take_rest columns i) c.loop-i.invariant.cells c.loop-i.invariant.after
    (put-tail c.loop-i.cells c.last_cells.new.cells i) c.last_cells.ensures
