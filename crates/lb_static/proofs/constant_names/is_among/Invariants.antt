use Rattle.std.proofs.Common.{◌≡◌, drop}
use Rattle.lb_static.specs.Parts.{among}
use Rattle.lb_static.proofs.constant_names.is_among.Given as goal

abbrev pub invariant-loop-other : goal.invariant-loop-other
invariant-loop-other l = among l.name (drop l.other-index l.names) ≡ among l.name l.names
