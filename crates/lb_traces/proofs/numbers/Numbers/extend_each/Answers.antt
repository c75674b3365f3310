use Rattle.std.proofs.Common.{arith, rules, ◌∙◌, w32}
use Rattle.std.proofs.lemmas.Int.{to_z-of_z}
use mir.Val.{SFits}
use Rattle.lb_traces.proofs.PushedLists.{tail-pushed}
use Rattle.lb_traces.proofs.numbers.Numbers.extend_each.Goals as goal

pub loop-i-preserved : goal.loop-i-preserved
loop-i-preserved c =
    let fits : SFits w32 c.get.result = search rules in
    record {
      pushed =
          tail-pushed c.loop-i.self-inside.packed.items c.loop-i.self-inside.tail.items
          c.push_reserved.new.self.items c.args.self.now.items c.args.from.now.items c.args.start
          c.loop-i.i _ c.loop-i.invariant.pushed c.push_reserved.ensures.items
          (to_z-of_z w32 c.get.result fits ∙ c.get.ensures) (omega arith)
          (omega (arith, c.loop-i-test.true, c.requires.within));
      room =
          omega (
            arith,
            c.loop-i.invariant.room,
            c.loop-i-test.true,
            c.push_reserved.ensures.len,
            c.push_reserved.ensures.capacity,
          );
    }
