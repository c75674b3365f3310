-- The results of workers.
-- Source: this project's rule.
use Rattle.std.specs.Prelude.{◌≡◌, ℕ, ◌+◌, ◌||◌, ◌++◌, true, List, min}
use Rattle.lb_traces.specs.Traces.{Recording}
use Rattle.lb_flat.specs.declared.program.FlatProgram.{FlatProgram}
use Rattle.lb_board.specs.Seats.{IsSeatOf, shares_of, told_of, drawn_of}
use Rattle.lb_board.specs.declared.board.ClaimBoard.{ClaimBoard}
use Rattle.lb_pool.specs.Runs.{AreJudged, numbers_of, numbers_drawn}
use Rattle.lb_pool.specs.declared.claims.Drained.{Drained}

-- the result of a worker: the seat has its shares, and was told that no batch is left; there is a
-- verdict for each trace of the batches that the seat has drawn, and for no other
pub record HasDrained (board : ClaimBoard) (shares : ℕ) (p : FlatProgram) (r : Recording)
    (batches : List (List ℕ)) (d : Drained) : Type 0 where
  pub seat : IsSeatOf board d.seat
  pub shares_kept : shares_of d.seat ≡ shares
  pub told : told_of d.seat ≡ true
  pub numbers : numbers_of d.judged.items ≡ numbers_drawn batches (drawn_of d.seat)
  pub judged : AreJudged p r d.judged.items

-- the results of two workers, put together
pub record IsBoth (board : ClaimBoard) (one other d : Drained) : Type 0 where
  pub seat : IsSeatOf board d.seat
  pub shares : shares_of d.seat ≡ min 64 (shares_of one.seat + shares_of other.seat)
  pub told : told_of d.seat ≡ (told_of one.seat || told_of other.seat)
  pub drawn : drawn_of d.seat ≡ drawn_of one.seat ++ drawn_of other.seat
  pub judged : d.judged.items ≡ one.judged.items ++ other.judged.items
