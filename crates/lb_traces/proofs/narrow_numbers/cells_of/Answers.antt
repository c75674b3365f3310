use Rattle.std.proofs.Common.{arith, ◌<◌, ◌∙◌, length, get_or, pos}
use Rattle.std.proofs.lemmas.List.{length-set}
use Rattle.lb_traces.proofs.PushedLists.{cells-set, told-cast}
use Rattle.lb_traces.proofs.narrow_numbers.cells_of.Goals as goal

pub loop-i-preserved : goal.loop-i-preserved
loop-i-preserved c =
    let i = c.loop-i.i in
    let numbers = c.args.numbers.now in
    let inside : i < length c.loop-i.cells =
    omega (arith, c.loop-i-test.true, c.requires.few, c.loop-i.invariant.long) in
    record {
      same =
          cells-set _ _ _ _ inside c.loop-i.invariant.same
          (told-cast (get_or numbers i (pos 0)) (c.requires.told i c.loop-i-test.true));
      long = length-set c.loop-i.cells i _ ∙ c.loop-i.invariant.long;
    }
