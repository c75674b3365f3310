use Rattle.std.proofs.Common.{◌∙◌, [], Some, ap, arith, sym, take}
use Rattle.lb_trace.specs.Lines.{record_of}
use Rattle.lb_trace.specs.PlainRows.{plain_row}
use Rattle.lb_trace.proofs.PlainValues.{onto-nil}
use Rattle.lb_trace.proofs.plain_rows.last_cells.Goals as goal

pub put_first-requires : goal.put_first-requires
put_first-requires c = omega (arith, c.requires, c.in-Some.ensures.0)

pub returns-in-Some : goal.returns-in-Some
returns-in-Some c =
    let whole = c.in-Some.ensures.1 in (
      sym (onto-nil (plain_row c.args.columns.now (record_of c.args.text.now))) ∙ whole.0 []
          ∙ ap Some (ap (λ n. take n c.in-Some.numbers.values) (sym c.requires)
          ∙ sym c.put_first.ensures),
      whole.1,
    )
