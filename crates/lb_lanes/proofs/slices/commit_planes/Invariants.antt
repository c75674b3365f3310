use Rattle.std.proofs.Common.{◌≡◌, ◌*◌, length, get_or}
use Rattle.lb_lanes.specs.Correct.{IsSelection}
use Rattle.lb_lanes.proofs.Joined.{WrittenBelow}
use Rattle.lb_lanes.proofs.slices.commit_planes.Given as goal

abbrev pub invariant-loop-c : goal.invariant-loop-c
invariant-loop-c l = record {
  long : length l.old ≡ length l.initial.old;
  words : WrittenBelow (λ k n. IsSelection l.mask.0 (get_or l.new k 0) (get_or l.initial.old k 0) n)
      (8 * l.c) l.initial.old l.old;
}

abbrev pub invariant-loop-k : goal.invariant-loop-k
invariant-loop-k l =
    WrittenBelow (λ k n. IsSelection l.mask.0 (get_or l.new k 0) (get_or l.fn.old k 0) n) l.k
    l.fn.old l.old
