use Rattle.lb_flat.proofs.Words.{◌≡◌, ◌+◌, [], is_some, List, drop, length, map, ap, sym, subst}
use Rattle.lb_flat.proofs.Words.{◌∙◌, arith, drop_of_length-le, fixed_in, AreFixed, flat_equations}
use Rattle.lb_flat.proofs.Words.{filled, cell_of, length-map, Cell}
use Rattle.lb_flat.proofs.prepare.set_constants.Goals.{in-Some, in_default}
use Rattle.lb_flat.proofs.runs.{Evaluating.constants_set, Steps.{constant_set, constant_passed}}
use Rattle.lb_flat.proofs.prepare.set_constants.Goals as goal

pub loop-i-preserved : goal.loop-i-preserved
loop-i-preserved c =
    let clocks = c.args.clocks.now in
    let qs = c.args.equations.now in
    let h = c.loop-i.invariant in
    let grown = λ (row : List Cell).
    filled [] (map cell_of row) (fixed_in (flat_equations clocks (drop (c.loop-i.i + 1) qs)))
    ≡ filled [] (map cell_of c.args.row.now) (fixed_in (flat_equations clocks qs)) in
    record {
      as_long = c.match-fixed_value.auto.row ∙ h.as_long;
      rest = elim c.match-fixed_value.branch [
        | in-Some w ↦
            subst grown (sym w.row-is)
            (constant_set clocks qs c.loop-i.i _ c.loop-i-test.true c.loop-i.row w.present.result _
            (sym c.fixed_value.ensures.fixed ∙ ap is_some w.in-Some.is)
            (w.present.ensures
            ∙ w.in-Some.ensures.value (map cell_of c.loop-i.row)) h.rest)
        | in_default w ↦
            subst grown (sym w.row-is)
            (constant_passed clocks qs c.loop-i.i _ c.loop-i-test.true c.loop-i.row _
            (sym c.fixed_value.ensures.fixed ∙ ap is_some w.in_default.is) h.rest)
      ];
    }

pub returns-clause-fixed : goal.returns-clause-fixed
returns-clause-fixed c =
    let clocks = c.args.clocks.now in
    let qs = c.args.equations.now in
    let none : drop c.loop-i.i qs ≡ [] = drop_of_length-le qs c.loop-i-test.false in
    subst (λ r. AreFixed r (flat_equations clocks qs))
    (sym (ap (λ rs. filled [] (map cell_of c.loop-i.row) (fixed_in (flat_equations clocks rs)))
    (sym none) ∙ c.loop-i.invariant.rest))
    (constants_set (length c.args.row.now) (flat_equations clocks qs)
    (map cell_of c.args.row.now) c.requires.in_order
    (omega (arith, length-map c.args.row.now cell_of)))
