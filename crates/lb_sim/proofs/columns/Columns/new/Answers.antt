use Rattle.std.proofs.Common.{◌≡◌, ◌-◌, length, ap, sym, ◌∙◌, arith, rules}
use Rattle.lb_sim.specs.InputRows.{truth_columns, number_columns}
use Rattle.lb_sim.proofs.InputColumns.{truths_counted, columns_counted}
use Rattle.lb_sim.proofs.columns.Columns.new.Goals as goal

pub invariant_of-result : goal.invariant_of-result
invariant_of-result c =
    let kinds = c.args.signature.now in
    let same : c.extend_from_slice.new.self.items ≡ kinds = search rules in
    let counted : c.count_truths-truths.result ≡ length (truth_columns 0 kinds) =
    c.count_truths-truths.ensures ∙ sym (truths_counted kinds) in
    let rest : length kinds - c.count_truths-truths.result ≡ length (number_columns 0 kinds) =
    omega (arith, counted, columns_counted 0 kinds) in
    record {
      in_order = c.in_ok-every_number.ensures;
      all_truths = counted ∙ ap (λ ks. length (truth_columns 0 ks)) (sym same);
      all_numbers = rest ∙ ap (λ ks. length (number_columns 0 ks)) (sym same);
    }
