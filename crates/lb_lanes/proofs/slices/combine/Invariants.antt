use Rattle.std.proofs.Common.{◌≡◌, ◌*◌, length, get_or}
use Rattle.lb_lanes.proofs.Joined.{WrittenBelow}
use Rattle.lb_lanes.proofs.slices.combine.Given as goal

abbrev pub invariant-loop-c : goal.invariant-loop-c
invariant-loop-c g l = record {
  long : length l.out ≡ length l.initial.out;
  words : WrittenBelow (λ k n. n ≡ g.K.WordOp.word (get_or l.a k 0) (get_or l.b k 0))
      (8 * l.c) l.initial.out l.out;
}

abbrev pub invariant-loop-k : goal.invariant-loop-k
invariant-loop-k g l =
    WrittenBelow (λ k n. n ≡ g.K.WordOp.word (get_or l.a k 0) (get_or l.b k 0)) l.k l.fn.out l.out
