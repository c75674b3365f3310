-- The next lane is the lowest set bit from `from` on.
use Rattle.std.proofs.Common.{◌+◌, ◌/◌, ◌^◌, arith, rules, w64}
use Rattle.std.specs.Int.{trailing_zeros}
use Rattle.lb_sim.proofs.LaneBits.{lowest_from, none_from, IsNext}
use Rattle.lb_sim.proofs.lane_bits.next_lane.Goals as goal
use Rattle.lb_sim.proofs.lane_bits.next_lane.Goals.{Else-rest-eq0}

next :
    (c : Else-rest-eq0) →
    IsNext c.args.plane c.args.from
    (c.args.from + trailing_zeros w64 (c.args.plane / 2 ^ c.args.from))
next c =
    lowest_from c.args.plane c.args.from (search rules) (search rules)
    (omega (arith, c.if-rest-eq0.false))

pub returns-then-rest-eq0-clause-none : goal.returns-then-rest-eq0-clause-none
returns-then-rest-eq0-clause-none c i le l =
    none_from c.args.plane c.args.from i c.if-rest-eq0.true le

pub returns-else-rest-eq0-clause-within : goal.returns-else-rest-eq0-clause-within
returns-else-rest-eq0-clause-within c =
    let within = (next (goal.at.returns-else-rest-eq0-clause-within c).Else-rest-eq0).within in
    (omega arith, omega (arith, within))

pub returns-else-rest-eq0-clause-none : goal.returns-else-rest-eq0-clause-none
returns-else-rest-eq0-clause-none c =
    (next (goal.at.returns-else-rest-eq0-clause-none c).Else-rest-eq0).none

pub returns-else-rest-eq0-clause-there : goal.returns-else-rest-eq0-clause-there
returns-else-rest-eq0-clause-there c l =
    (next (goal.at.returns-else-rest-eq0-clause-there c).Else-rest-eq0).there
