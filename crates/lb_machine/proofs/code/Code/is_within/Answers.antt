use Rattle.std.proofs.Common.{◌-◌, ◌<◌, sym, subst, arith, length}
use Rattle.std.specs.List.{AllByRecursion}
use Rattle.lb_machine.specs.Listed.{selects_from}
use Rattle.lb_machine.specs.Meaning.{IsDone}
use Rattle.lb_machine.proofs.Doing.{block_done}
use Rattle.lb_machine.proofs.code.Code.is_within.Goals as goal

pub returns-then-count-gt0 : goal.returns-then-count-gt0
returns-then-count-gt0 c told s run on =
    let is = c.args.self.now.instructions in
    let b = c.index.result.now in
    let k = c.len-count.result - 1 in
    let lt : k < length is.blocks.items =
    omega (arith, c.len-count.ensures, c.if-count-gt0.true) in
    let done = block_done s is.blocks.items is.first is.choices.items k b run.done lt in
    c.is_joined.ensures told s run.constants
    (subst (λ x. AllByRecursion (IsDone s) (selects_from x.first x.choices.items))
    (sym c.index.ensures) done.1) on
