use Rattle.std.proofs.Common.{◌≡◌, ◌+◌, false, drop}
use Rattle.std.specs.Prelude.{option_map}
use Rattle.lb_part.specs.Heads.{record_end}
use Rattle.lb_part.proofs.head.record_end.Given as goal

abbrev pub invariant-loop-i : goal.invariant-loop-i
invariant-loop-i l =
    record_end false l.text ≡ option_map (λ n. l.i + n) (record_end l.begun (drop l.i l.text))
