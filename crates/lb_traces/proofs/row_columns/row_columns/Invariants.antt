use Rattle.std.proofs.Common.{take}
use Rattle.lb_static.specs.Signature.{kinds_of}
use Rattle.lb_traces.specs.Packed.{AreColumns}
use Rattle.lb_traces.proofs.row_columns.row_columns.Given as goal

abbrev pub invariant-loop-j : goal.invariant-loop-j
invariant-loop-j l =
    AreColumns (take l.j (kinds_of l.signature)) l.integers.items l.truths.items l.places.items
