use Rattle.std.proofs.Common.{◌+◌, ◌-◌, ◌≡◌, ◌<◌, sym, subst, arith, length}
use Rattle.lb_machine.specs.Listed.{select_at}
use Rattle.lb_machine.specs.Meaning.{IsDone}
use Rattle.lb_machine.proofs.Doing.{choice_done}
use Rattle.lb_machine.proofs.within.is_joined.Goals as goal

pub returns-then-at-len : goal.returns-then-at-len
returns-then-at-len c told s constants all on =
    let block = c.args.block.now in
    let out = c.args.outer.0 in
    let k = out - block.first in
    let lt : k < length block.choices.items = omega (arith, c.len.ensures, c.if-at-len.true) in
    let at : block.first + k ≡ out = omega (arith, c.if-outer-block.false) in
    c.joins.ensures told s out constants
    (subst (λ x. IsDone s (select_at out x)) (sym c.index.ensures)
    (choice_done s block.choices.items block.first k out c.index.result.now all lt at)) on
