use Rattle.std.proofs.Common.{◌≡◌, ◌≤◌, ◌-◌, ℕ, List, length, take}
use Rattle.lb_output.specs.Taken.{Taken, Takes}
use Rattle.lb_output.proofs.sink.send.Given as goal

-- the first `count` bytes went out
pub record HasGone (first now : Taken) (bytes : List ℕ) (count : ℕ) : Type 0 where
  pub within : count ≤ length bytes
  pub gone : Takes first now (take count bytes)

abbrev pub invariant-loop-count : goal.invariant-loop-count
invariant-loop-count g l =
    HasGone (g.S.Sink.taken l.fn.sink) (g.S.Sink.taken l.sink) l.bytes l.count
    × (g.S.Sink.failures l.sink ≡ g.S.Sink.failures l.fn.sink)

abbrev pub decreases-loop-count : goal.decreases-loop-count
decreases-loop-count g l = length l.bytes - l.count
