use Rattle.std.proofs.Common.{◌+◌, ◌-◌, ◌<◌, sym, subst, arith, length, refl}
use Rattle.lb_machine.specs.Listed.{select_at}
use Rattle.lb_machine.specs.Meaning.{IsDone}
use Rattle.lb_machine.proofs.Doing.{behind_done, choice_done}
use Rattle.lb_machine.proofs.instructions.Instructions.last_choice.Goals as goal

pub returns-then-out-lt4294967296 : goal.returns-then-out-lt4294967296
returns-then-out-lt4294967296 c s all =
    let is = c.args.self.now in
    let k = c.len-count.result - 1 - c.loop-j.j in
    let lt : k < length is.choices.items =
    omega
    (arith, c.len-count.ensures, c.min-j-end.ensures, c.loop-j-test.true, c.loop-j.auto.j-end) in
    c.are_same.ensures c.if-are_same.true s (is.first + k)
    (subst (λ x. IsDone s (select_at (is.first + k) x)) (sym c.index.ensures)
    (choice_done s is.choices.items is.first k (is.first + k) c.index.result.now
    (behind_done s is.blocks.items is.first is.choices.items all) lt refl))
