-- The scheduled equations are the equations of the program, in order.
use Rattle.lb_flat.proofs.Words.{List, refl, err_from_is_err_and, IsOrderOf, AreOrdered}
use Rattle.lb_flat.proofs.Words.{flat_equations, numbers_of, program_of}
use Rattle.lb_flat.specs.{Correct.IsCycleFound, CyclicPrograms.AreOfCyclic}
use Rattle.lb_flat.specs.declared.{equation.Equation.Equation, error.OrderError.OrderError}
use Rattle.lb_flat.specs.declared.error.OrderError.TheVariants.{Memory, Cycle}
use Rattle.lb_flat.specs.declared.program.FlatProgram.{FlatProgram}
use Rattle.lb_flat.proofs.ordering.{Ordering.ready_of, ReadCycles.{cyclic_of, expansion_causal}}
use Rattle.lb_flat.proofs.solutions.StandingRuns.{expansion_in_order, stands_in_order}
use Rattle.lb_flat.proofs.solutions.StandingRuns.{flat_in_order, standing_determined}
use Rattle.lb_flat.specs.Judging as judging
use Rattle.lb_flat.proofs.scheduling.order.Goals as goal

is_order :
    (p : FlatProgram) {qs : List Equation} → AreOrdered p qs →
    IsOrderOf (program_of p)
    (record (program_of p) { equations = flat_equations p.clocks.items qs })
is_order p {qs} ordered = record {
  same = refl;
  ordering = ordered.ordering;
  ready = ready_of p.size (flat_equations p.clocks.items qs) ordered.in_order;
}

pub invariant_of-result-clause-stands : goal.invariant_of-result-clause-stands
invariant_of-result-clause-stands c =
    let p = c.args.flat.program in
    stands_in_order (program_of p) _
    (is_order p c.in_ok-equations.ensures.order) c.args.flat.stands

pub returns-clause-stands : goal.returns-clause-stands
returns-clause-stands c P expansion =
    let p = c.args.flat.program in
    flat_in_order P (program_of p) expansion.flat _
    (is_order p c.in_ok-equations.ensures.order)

pub returns-clause-kept : goal.returns-clause-kept
returns-clause-kept c P expansion =
    let p = c.args.flat.program in
    expansion_in_order P (program_of p) _
    (is_order p c.in_ok-equations.ensures.order) expansion

pub returns-clause-determined : goal.returns-clause-determined
returns-clause-determined c P flat =
    let p = c.args.flat.program in
    let qs = flat_equations p.clocks.items c.in_ok-equations.equations.items in
    standing_determined P _ flat (ready_of p.size qs c.in_ok-equations.ensures.order.in_order)

pub returns-clause-causal : goal.returns-clause-causal
returns-clause-causal c P expansion =
    let p = c.args.flat.program in
    let qs = flat_equations p.clocks.items c.in_ok-equations.equations.items in
    let ordered = c.in_ok-equations.ensures.order in
    expansion_causal P (program_of p) expansion qs ordered.ordering
    (ready_of p.size qs ordered.in_order)

pub returns-clause-order : goal.returns-clause-order
returns-clause-order c = is_order c.args.flat.program c.in_ok-equations.ensures.order

-- a cycle that is found is a cycle of each program that the equations come from
of_cyclic : (f : judging.FlatProgram) (e : OrderError) → IsCycleFound f e → AreOfCyclic f e
of_cyclic f Memory found = tt
of_cyclic f (Cycle c) found =
    λ P expansion.
    cyclic_of P (numbers_of c.value.elements.items) (found.1 P expansion)

pub returns-in_err-equations-clause-cyclic : goal.returns-in_err-equations-clause-cyclic
returns-in_err-equations-clause-cyclic c =
    let p = err_from_is_err_and c.from_residual.result c.from_residual.ensures.1 in
    rw (p.1, p.2) (of_cyclic _ _ c.in_err-equations.ensures.cycle)

pub returns-in_err-equations-clause-cycle : goal.returns-in_err-equations-clause-cycle
returns-in_err-equations-clause-cycle c =
    let p = err_from_is_err_and c.from_residual.result c.from_residual.ensures.1 in
    rw (p.1, p.2) c.in_err-equations.ensures.cycle
