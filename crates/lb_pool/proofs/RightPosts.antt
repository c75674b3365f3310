-- The verdicts that workers of a live report may post to its board.
use Rattle.std.proofs.Common.{◌≡◌, ℕ, ◌<◌, List, length, ap, ◌∙◌, arith}
use Rattle.std.specs.Prelude.{All}
use Rattle.lb_flat.specs.Programs.{program_of}
use Rattle.lb_flat.specs.RightVerdicts.{right_verdicts}
use Rattle.lb_traces.specs.Traces.{IsRecording, Recording}
use Rattle.lb_flat.specs.declared.flat.Ordered.{Ordered}
use Rattle.lb_flat.specs.declared.program.FlatProgram.{FlatProgram}
use Rattle.lb_flat.proofs.solutions.StandingRuns.{length-right_verdicts, ordered_ready}
use Rattle.lb_flat.proofs.solutions.StandingRuns.{right_verdicts_are}
use Rattle.lb_board.specs.FollowSeats.{right_of}
use Rattle.lb_board.specs.declared.follow_board.FollowBoard.{FollowBoard}
use Rattle.lb_pool.specs.Correct.{AreVerdicts}
use Rattle.lb_pool.specs.FollowWorkers.{IsBoardFor}

-- a board has a verdict for each trace
pub length-right_of : (p : FlatProgram) (r : Recording) (batches : List (List ℕ))
    (board : FollowBoard) → IsBoardFor p r batches board
    → length (right_of board) ≡ length r.traces
length-right_of p r batches board is =
    ap length is.right ∙ length-right_verdicts (program_of p) r

pub are_on_board : (p : FlatProgram) (r : Recording) (batches : List (List ℕ))
    (board : FollowBoard) (members : List ℕ) → IsBoardFor p r batches board
    → All (λ k. k < length r.traces) members → All (λ k. k < length (right_of board)) members
are_on_board p r batches board members is below k d within =
    omega (arith, below k d within, length-right_of p r batches board is)

-- the right verdicts of a program in order are the verdicts of the traces
pub right_verdicts_of : (o : Ordered) (r : Recording) → IsRecording r
    → AreVerdicts o.program r (right_verdicts (program_of o.program) r)
right_verdicts_of o r lawful = record {
  count = length-right_verdicts (program_of o.program) r;
  each = right_verdicts_are (program_of o.program) r (ordered_ready o) lawful;
}
