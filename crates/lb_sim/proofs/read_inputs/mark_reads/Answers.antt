use Rattle.std.proofs.Common.{List, ap, arith, sym}
use Rattle.lb_flat.specs.Programs.{numbers_of}
use Rattle.lb_flat.specs.declared.equation.ElementId.{ElementId}
use Rattle.lb_sim.proofs.ReadElements.{clocks_next, operands_next, reads_marked}
use Rattle.lb_sim.proofs.read_inputs.mark_reads.Goals as goal

pub loop-i-init : goal.loop-i-init
loop-i-init c = record {
  as_long = c.requires.elements;
  clocks = λ i t lt. absurd (omega (arith, lt));
}

pub loop-i-preserved : goal.loop-i-preserved
loop-i-preserved c =
    clocks_next c.args.program.now c.loop-i.marks c.mark_clock.new.marks c.loop-i.i
    c.index-clock.result.now (sym c.index-clock.ensures) c.mark_clock.ensures.more
    c.mark_clock.ensures.marked c.loop-i.invariant

pub loop-i-2-init : goal.loop-i-2-init
loop-i-2-init c = record {
  before = record {
    as_long = c.loop-i.invariant.as_long;
    clocks = λ i t lt.
        c.loop-i.invariant.clocks i t
        (omega (arith, lt, c.loop-i-test.false, c.len-i-end.ensures));
  };
  ticks = λ i q lt. absurd (omega (arith, lt));
  operands = λ i q lt. absurd (omega (arith, lt));
}

pub loop-i-2-preserved : goal.loop-i-2-preserved
loop-i-2-preserved c =
    operands_next c.args.program.now c.loop-i-2.marks c.mark_clock-in-loop-i-2.new.marks
    c.mark_operands.new.marks c.loop-i-2.i c.index-equation.result.now
    (sym c.index-equation.ensures) c.mark_clock-in-loop-i-2.ensures.more
    c.mark_clock-in-loop-i-2.ensures.marked
    c.mark_operands.ensures c.loop-i-2.invariant

pub returns : goal.returns
returns c =
    reads_marked c.args.program.now c.loop-i-2.marks c.mark_all.new.marks c.mark_all-2.new.marks
    c.mark_all-3.new.marks _ _ c.loop-i-2.i c.loop-i-2.invariant
    (omega (arith, c.loop-i-2-test.false, c.len-i-end-2.ensures)) c.mark_all.ensures
    c.mark_all-2.ensures c.mark_all-3.ensures
    (ap (λ (l : List ElementId). numbers_of l) c.as_slice.ensures.value)
    (ap (λ (l : List ElementId). numbers_of l) c.as_slice-2.ensures.value)
