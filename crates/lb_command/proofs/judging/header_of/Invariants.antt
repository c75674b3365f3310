use Rattle.std.proofs.Common.{◌≡◌, ◌++◌, take, codes}
use Rattle.std.specs.List.{flat_map}
use Rattle.lb_static.specs.Signature.{names_of}
use Rattle.lb_command.proofs.Columns.{column}
use Rattle.lb_command.proofs.judging.header_of.Given as goal

abbrev pub invariant-loop-i : goal.invariant-loop-i
invariant-loop-i l =
    l.text.items ≡ codes "trace" ++ flat_map column (take l.i (names_of l.inputs))
