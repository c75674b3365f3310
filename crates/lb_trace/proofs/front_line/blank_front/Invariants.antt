use Rattle.std.proofs.Common.{◌≡◌, ◌<◌, [], true, take}
use Rattle.lb_trace.specs.Chunks.{is_ended}
use Rattle.lb_trace.specs.Plain.{plain_records}
use Rattle.lb_trace.proofs.front_line.blank_front.Given as goal

abbrev pub invariant-loop-i : goal.invariant-loop-i
invariant-loop-i l = record {
  blank : plain_records (take l.i l.text) ≡ [];
  ended : 0 < l.i → is_ended (take l.i l.text) ≡ true;
}
