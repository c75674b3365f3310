use Rattle.std.proofs.Common.{◌-◌, length}
use Rattle.lb_static.specs.ConstantValues.{known, read_constants, IsSound}
use Rattle.lb_static.proofs.constants.values_of.Given as goal

abbrev pub invariant-loop : goal.invariant-loop
invariant-loop l = IsSound (read_constants l.constants) l.values.items

abbrev pub decreases-loop : goal.decreases-loop
decreases-loop l = length l.constants - known l.values.items
