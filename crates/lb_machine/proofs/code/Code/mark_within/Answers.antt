use Rattle.std.proofs.Common.{◌-◌, ◌≡◌, ◌<◌, sym, subst, arith, length, get_or}
use Rattle.std.specs.List.{AllByRecursion}
use Rattle.lb_machine.specs.Listed.{selects_from}
use Rattle.lb_machine.specs.Meaning.{IsDone}
use Rattle.lb_machine.proofs.Doing.{behind_done, block_done}
use Rattle.lb_machine.proofs.code.Code.mark_within.Goals as goal

pub loop-j-init : goal.loop-j-init
loop-j-init c s q run outer inner =
    let is = c.args.self.now.instructions in
    c.mark_choices.ensures s q run.constants
    (subst (λ choices. AllByRecursion (IsDone s) (selects_from is.first choices))
    (sym c.as_slice.ensures.value)
    (behind_done s is.blocks.items is.first is.choices.items run.done)) outer inner

pub loop-j-preserved : goal.loop-j-preserved
loop-j-preserved c s q run outer inner =
    let is = c.args.self.now.instructions in
    let b = c.index-block.result.now in
    let k = c.len.result - 1 - c.loop-j.j in
    let lt : k < length is.blocks.items = omega (arith, c.len.ensures, c.loop-j-test.true) in
    let same : get_or is.blocks.items k b ≡ b = sym c.index-block.ensures in
    let done = block_done s is.blocks.items is.first is.choices.items k b run.done lt in
    c.mark_choices-in-loop-j.ensures s q run.constants
    (subst (λ choices. AllByRecursion (IsDone s) (selects_from b.first choices))
    (sym c.as_slice-in-loop-j.ensures.value)
    (subst (λ x. AllByRecursion (IsDone s) (selects_from x.first x.choices.items)) same done.1))
    outer
    (c.mark_operands.ensures s q (subst (λ x. IsDone s x.last) same done.0) outer
    (c.loop-j.invariant s q run outer inner))
