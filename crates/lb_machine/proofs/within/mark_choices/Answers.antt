use Rattle.std.proofs.Common.{◌+◌, ◌-◌, refl, arith, length, ◌<◌}
use Rattle.lb_machine.specs.declared.instructions.Choice.{Choice}
use Rattle.lb_machine.proofs.Doing.{choice_done}
use Rattle.lb_machine.proofs.within.mark_choices.Goals as goal

abbrev nothing : Choice
nothing = record { mask = record { 0 = 0 }; a = record { 0 = 0 }; b = record { 0 = 0 } }

pub loop-j-preserved : goal.loop-j-preserved
loop-j-preserved c s q constants all outer inner =
    let choices = c.args.choices.now in
    let k = length choices - 1 - c.loop-j.j in
    let lt : k < length choices = omega (arith, c.loop-j-test.true) in
    c.mark_choice.ensures s q constants
    (choice_done s choices c.args.first k (c.args.first + k) nothing all lt refl) outer
    (c.loop-j.invariant s q constants all outer inner)
