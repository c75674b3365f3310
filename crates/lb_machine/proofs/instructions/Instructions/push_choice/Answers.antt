use Rattle.std.proofs.Common.{◌≡◌, ◌+◌, length, arith, rules}
use Rattle.lb_machine.proofs.Listing.{choice_pushed}
use Rattle.lb_machine.proofs.instructions.Instructions.push_choice.Goals as goal

pub returns-clause-pushed : goal.returns-clause-pushed
returns-clause-pushed c e =
    let before = c.args.self.now in
    let count : c.len.result ≡ length before.choices.items = search rules in
    let out : c.first_with-first.result + length before.choices.items ≡ c.args.out.0 =
    omega (arith, count, c.if-first-len.false) in
    choice_pushed before.blocks.items c.first_with-first.result before.first before.choices.items
    c.push.new.self.items c.args.out.0 c.args.c c.in_ok-push.ensures.items out
    c.first_with-first.ensures
