use Rattle.std.proofs.Common.{rules}
use Rattle.lb_static.proofs.static_value.lawful.Goals as goal

pub invariant_of-result : goal.invariant_of-result
invariant_of-result c = search rules

pub returns-then-exact-from : goal.returns-then-exact-from
returns-then-exact-from c = search rules

pub returns-else-from-exact : goal.returns-else-from-exact
returns-else-from-exact c = search rules
