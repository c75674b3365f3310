use Rattle.std.proofs.Common.{ap, ◌∙◌, arith}
use Rattle.lb_lanes.specs.Planes.{on}
use Rattle.lb_sim.proofs.lane_bits.turn_group.Goals as goal

pub returns-clause-put : goal.returns-clause-put
returns-clause-put c k i h l =
    ap (λ w. on w i) (c.put_planes.ensures.put k h)
    ∙ c.transpose.ensures i k l (omega (arith, h, c.requires.few))
    ∙ ap (λ w. on w k) (c.words_from-words.ensures i l)
