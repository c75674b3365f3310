use Rattle.lb_flat.proofs.Words.{[], ◌+◌, List, None, get_or, sym, subst, equation_of, clock_of}
use Rattle.lb_flat.proofs.{Words.Cell, instant.compute.Goals.{in-Some, in_default}}
use Rattle.lb_flat.proofs.runs.Steps.{IsFilling, fill_step, all_filled}
use Rattle.lb_flat.specs.declared.equation.{Equation.Equation, Operation.TheVariants.Input}
use Rattle.lb_flat.proofs.instant.compute.Goals as goal

pub loop-i-preserved : goal.loop-i-preserved
loop-i-preserved c =
    let clocks = c.args.clocks.now in
    let steps = c.args.steps.now in
    let i = c.loop-i.i in
    let d : Equation =
    record { element = record { 0 = 0 }; clock = None; operation = Input (record { 0 = 0 }) } in
    let filling : List Cell → Type 0 =
    λ row. IsFilling (equation_of clocks) [] row c.args.row.now steps (i + 1) in
    elim c.match-truth.branch [
      | in-Some w ↦
          subst filling (sym w.row-is)
          (fill_step _ _ _ _ _ _ _ _ c.loop-i-test.true c.loop-i.invariant
          (w.in-Some.ensures (clock_of clocks (get_or steps i d).clock)))
      | in_default w ↦
          subst filling (sym w.row-is)
          (fill_step _ _ _ _ _ _ _ _ c.loop-i-test.true c.loop-i.invariant w.now.ensures)
    ]

pub returns-clause-row : goal.returns-clause-row
returns-clause-row c = all_filled _ _ _ _ _ _ c.loop-i-test.false c.loop-i.invariant
