use Rattle.std.proofs.Common.{◌++◌, List, ℕ, codes, string_bytes, ap, sym, ◌∙◌}
use Rattle.lb_csv.specs.CsvTexts.{field}
use Rattle.lb_csv.specs.declared.column.Column.{Column}
use Rattle.lb_csv.proofs.Texts.{part_added, flat_map-map, loop_step, loop_end}
use Rattle.lb_csv.proofs.csv.push_header.Goals as goal

name_field : Column → List ℕ
name_field x = field (string_bytes x.name)

pub loop-column-init : goal.loop-column-init
unfolding name_field
loop-column-init c =
    let old = c.args.text.now.items in
    let columns = c.args.columns.now in
    part_added old _ (codes "instant") _ _ c.in_ok-push.ensures
    (ap (λ s. old ++ (codes "instant" ++ (s ++ codes "\n")))
    (sym (flat_map-map field (λ (x : Column). string_bytes x.name) columns)))

pub loop-column-preserved : goal.loop-column-preserved
unfolding name_field
loop-column-preserved c =
    let columns = c.args.columns.now in
    let item = c.column-item.result in
    loop_step name_field columns (codes "\n") c.loop-column.column-index item item c.column-item.is
    c.loop-column-test.true _ _ _
    (c.in_ok-push_name.ensures
    ∙ ap (λ s. c.loop-column.text.items ++ field s) c.as_str.ensures.value)
    c.loop-column.invariant

pub returns : goal.returns
unfolding name_field
returns c =
    loop_end name_field c.args.columns.now (codes "\n") c.loop-column.column-index
    c.loop-column-test.false _ _ _ c.in_ok-push-2.ensures c.loop-column.invariant
