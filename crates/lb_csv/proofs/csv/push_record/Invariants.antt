use Rattle.std.proofs.Common.{◌≡◌, ◌++◌, codes, drop, flat_map, map}
use Rattle.lb_flat.specs.Values.{cell_of}
use Rattle.lb_csv.specs.CsvTexts.{cell_field, record_text}
use Rattle.lb_csv.proofs.csv.push_record.Given as goal

abbrev pub invariant-loop-cell : goal.invariant-loop-cell
invariant-loop-cell l =
    l.text.items
    ++ (flat_map (λ x. cell_field (cell_of x)) (drop l.cell-index l.cells) ++ codes "\n")
    ≡ l.fn.text.items ++ record_text l.t (map cell_of l.cells)
