use Rattle.std.proofs.Common.{◌≡◌, ◌++◌, codes, drop, flat_map, string_bytes}
use Rattle.lb_csv.specs.CsvTexts.{field, header}
use Rattle.lb_csv.specs.Shown.{names_of}
use Rattle.lb_csv.proofs.csv.push_header.Given as goal

abbrev pub invariant-loop-column : goal.invariant-loop-column
invariant-loop-column l =
    l.text.items
    ++ (flat_map (λ c. field (string_bytes c.name)) (drop l.column-index l.columns) ++ codes "\n")
    ≡ l.fn.text.items ++ header (names_of l.columns)
