-- The board that the workers of a live report use.
-- Source: this project's rule.
use Rattle.std.specs.Prelude.{◌≡◌, ℕ, List, length}
use Rattle.lb_flat.specs.Programs.{program_of}
use Rattle.lb_flat.specs.RightVerdicts.{right_verdicts}
use Rattle.lb_flat.specs.Standing.{HasKindsOf, StandsForProgram}
use Rattle.lb_traces.specs.Traces.{Recording}
use Rattle.lb_flat.specs.declared.program.FlatProgram.{FlatProgram}
use Rattle.lb_board.specs.FollowSeats.{batches_of, right_of}
use Rattle.lb_board.specs.declared.follow_board.FollowBoard.{FollowBoard}

-- a board has these batches, and the right verdicts of these traces by a flat program; the flat
-- program stands for a program, and reads traces of these kinds
pub record IsBoardFor (p : FlatProgram) (r : Recording) (batches : List (List ℕ))
    (board : FollowBoard) : Type 0 where
  pub batches_are : batches_of board ≡ length batches
  pub right : right_of board ≡ right_verdicts (program_of p) r
  pub stands : StandsForProgram (program_of p)
  pub kinds : HasKindsOf (program_of p) r
