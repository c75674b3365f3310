use Rattle.std.proofs.Common.{◌∙◌, ◌++◌, codes, decimal, refl, ap, sym}
use Rattle.lb_flat.specs.Values.{cell_of}
use Rattle.lb_flat.specs.declared.cell.Cell.{Cell}
use Rattle.lb_csv.specs.CsvTexts.{cell_field}
use Rattle.lb_csv.proofs.Texts.{part_added, flat_map-map, loop_step, loop_end}
use Rattle.lb_csv.proofs.csv.push_record.Goals as goal

pub loop-cell-init : goal.loop-cell-init
loop-cell-init c =
    let old = c.args.text.now.items in
    let cells = c.args.cells.now in
    part_added old _ (decimal c.args.t) _ _
    (c.in_ok-push_number.ensures ∙ ap (λ n. old ++ decimal n) c.from.ensures)
    (ap (λ s. old ++ (decimal c.args.t ++ (s ++ codes "\n")))
    (sym (flat_map-map cell_field cell_of cells)))

pub loop-cell-preserved : goal.loop-cell-preserved
loop-cell-preserved c =
    loop_step (λ (x : Cell). cell_field (cell_of x)) c.args.cells.now (codes "\n")
    c.loop-cell.cell-index _ _ refl c.loop-cell-test.true _ _ _ c.in_ok-push_field.ensures
    c.loop-cell.invariant

pub returns : goal.returns
returns c =
    loop_end (λ (x : Cell). cell_field (cell_of x)) c.args.cells.now (codes "\n")
    c.loop-cell.cell-index c.loop-cell-test.false _ _ _ c.in_ok-push.ensures
    c.loop-cell.invariant
