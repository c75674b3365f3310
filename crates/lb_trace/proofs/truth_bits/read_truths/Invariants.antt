use Rattle.std.proofs.Common.{◌≡◌, ◌≤◌, ◌-◌, ◌*◌, drop}
use Rattle.lb_trace.specs.TruthBits.{HasBits}
use Rattle.lb_trace.proofs.truth_bits.read_truths.Given as goal

abbrev pub invariant-loop-done : goal.invariant-loop-done
invariant-loop-done l = record {
  most : l.done ≤ l.last;
  read : HasBits l.text l.done l.bits;
  after : l.rest ≡ drop (2 * l.done) l.text;
}

abbrev pub decreases-loop-done : goal.decreases-loop-done
decreases-loop-done l = l.last - l.done
