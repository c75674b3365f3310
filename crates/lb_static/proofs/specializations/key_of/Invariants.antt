use Rattle.std.proofs.Common.{◌≡◌, take}
use Rattle.lb_static.proofs.specializations.key_of.Given as goal

abbrev pub invariant-loop-value : goal.invariant-loop-value
invariant-loop-value l = l.numbers.items ≡ take l.value-index l.values
