use Rattle.std.proofs.Common.{refl}
use Rattle.lb_lanes.specs.Planes.{on}
use Rattle.lb_lanes.proofs.Composed.{every, transposed, mask_by}
use Rattle.lb_lanes.proofs.transposes.transpose.Goals as goal

pub two_rounds-requires-clause-mask : goal.two_rounds-requires-clause-mask
unfolding on every
two_rounds-requires-clause-mask c = mask_by _ _ refl

pub two_rounds-requires-clause-next_mask : goal.two_rounds-requires-clause-next_mask
unfolding on every
two_rounds-requires-clause-next_mask c = mask_by _ _ refl

pub two_rounds-requires-2-clause-mask : goal.two_rounds-requires-2-clause-mask
unfolding on every
two_rounds-requires-2-clause-mask c = mask_by _ _ refl

pub two_rounds-requires-2-clause-next_mask : goal.two_rounds-requires-2-clause-next_mask
unfolding on every
two_rounds-requires-2-clause-next_mask c = mask_by _ _ refl

pub two_rounds-requires-3-clause-mask : goal.two_rounds-requires-3-clause-mask
unfolding on every
two_rounds-requires-3-clause-mask c = mask_by _ _ refl

pub two_rounds-requires-3-clause-next_mask : goal.two_rounds-requires-3-clause-next_mask
unfolding on every
two_rounds-requires-3-clause-next_mask c = mask_by _ _ refl

pub returns : goal.returns
returns c =
    let one = c.two_rounds.ensures in
    let two = c.two_rounds-2.ensures in
    let three = c.two_rounds-3.ensures in
    transposed c.args.words.now one.0 c.two_rounds.new.out two.0 c.two_rounds-2.new.out three.0
    c.two_rounds-3.new.out one.1 one.2 two.1 two.2 three.1 three.2
