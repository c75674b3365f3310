use Rattle.std.proofs.Common.{ℕ, ◌≡◌, ◌<◌, get_or, [], false}
use Rattle.std.specs.Str.{bytes_eq}
use Rattle.csv.specs.Records.{fields_of}
use Rattle.lb_trace.specs.Spelling.{after_first}
use Rattle.lb_trace.proofs.header.position.Given as goal

abbrev pub invariant-loop-i : goal.invariant-loop-i
invariant-loop-i l = (k : ℕ) → k < l.i
    → bytes_eq l.name (get_or (after_first (fields_of l.header)) k []) ≡ false
