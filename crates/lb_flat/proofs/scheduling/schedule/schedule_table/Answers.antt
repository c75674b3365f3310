use Rattle.lb_flat.proofs.Words.{◌≡◌, ◌∙◌, Global, Vec, ap, arith, subst, sym, Program}
use Rattle.lb_flat.proofs.Words.{IsExpansionOf, numbers_of, program_of, IsCertificate, IsReadCycle}
use Rattle.lb_flat.proofs.{Words.{ElementId, Cycle}, ordering.Ordering.all_settled}
use Rattle.lb_flat.proofs.ordering.{ReadCycles.expansion_certified, Tables.is_table}
use Rattle.lb_flat.proofs.scheduling.schedule.schedule_table.Goals as goal

pub schedule_in_depth-requires-clause-table : goal.schedule_in_depth-requires-clause-table
schedule_in_depth-requires-clause-table c =
    rw c.as_slice-clocks.ensures.value
    (is_table c.args.program.now c.args.table.now c.requires.table c.requires.in_range)

pub schedule_in_depth-requires-clause-state : goal.schedule_in_depth-requires-clause-state
schedule_in_depth-requires-clause-state c = rw c.as_slice-clocks.ensures.value c.requires.state

pub schedule_all-requires-clause-table : goal.schedule_all-requires-clause-table
schedule_all-requires-clause-table c =
    rw c.as_slice-clocks.ensures.value
    (is_table c.args.program.now c.args.table.now c.requires.table c.requires.in_range)

pub read_cycle-requires-clause-stuck : goal.read_cycle-requires-clause-stuck
read_cycle-requires-clause-stuck c = record {
  in_range = c.requires.in_range;
  given = c.requires.given;
  table = c.requires.table;
  marks = c.in_ok-schedule_all.ensures.state.marks;
  stuck = rw c.as_slice-clocks.ensures.value at c.in_ok-schedule_all.ensures.stuck;
  settled = rw c.as_slice-clocks.ensures.value at c.in_ok-schedule_all.ensures.state.settled;
}

pub read_cycle-requires-clause-from : goal.read_cycle-requires-clause-from
read_cycle-requires-clause-from c =
    record { is_element = c.loop-e-test.true; is_left = c.if-not-done-e.true }

pub returns-clause-scheduled : goal.returns-clause-scheduled
returns-clause-scheduled c =
    rw c.as_slice-clocks.ensures.value at
    (all_settled _ _ _ _ _ c.in_ok-schedule_all.ensures.state
    (omega (arith, c.requires.table.entries, c.loop-e-test.false)) c.loop-e.invariant)

pub returns-then-not-done-e-clause-cycle : goal.returns-then-not-done-e-clause-cycle
returns-then-not-done-e-clause-cycle c =
    let f = program_of c.args.program.now in
    let found = c.in_ok-elements.ensures in
    let is = numbers_of c.in_ok-elements.elements.items in
    let same : c.in_ok-new.field-0.value.elements ≡ c.in_ok-elements.elements =
    ap (λ (k : Cycle). k.elements) c.in_ok-new.ensures.ok ∙ c.new.ensures in
    subst
    (λ (v : Vec ElementId Global).
    IsReadCycle f (numbers_of v.items)
    × ((P : Program) → IsExpansionOf P f → IsCertificate P (numbers_of v.items)))
    (sym same) (found, λ P e. expansion_certified P f e is found)
