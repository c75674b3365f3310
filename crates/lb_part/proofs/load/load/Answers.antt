use Rattle.std.proofs.Common.{◌-◌}
use Rattle.lb_part.proofs.ReadRanges.{range-alone}
use Rattle.lb_part.proofs.load.load.Goals as goal

pub returns-clause-range : goal.returns-clause-range
returns-clause-range g c =
    λ all known.
    range-alone all c.new-bytes.result.items c.extend.new.bytes.items c.args.from
    (c.args.to - c.args.from) c.new-bytes.ensures.items (c.in_ok-extend.ensures.range all known)
