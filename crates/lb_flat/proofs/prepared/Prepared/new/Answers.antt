-- The equations of a program in order can be computed one after the other.
use Rattle.lb_flat.proofs.{Words.{rules, ◌≡◌, length, flat_equations}, ordering.Ordering.ready_of}
use Rattle.lb_flat.proofs.prepared.Prepared.new.Goals as goal

pub set_constants-requires-clause-in_order : goal.set_constants-requires-clause-in_order
set_constants-requires-clause-in_order c =
    let p = c.args.ordered.now.program in
    let Q = flat_equations p.clocks.items p.equations.items in
    let long : length c.as_mut_slice.result.now ≡ p.size = search rules in
    rw (long, c.as_slice-clocks.ensures.value, c.as_slice-equations.ensures.value)
    (ready_of p.size Q c.args.ordered.now.in_order)
