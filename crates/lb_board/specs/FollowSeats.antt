-- The parts of boards of settled traces and of their seats that contracts name.
use Rattle.std.specs.Prelude.{◌≡◌, ℕ, List, Bool, Option, Some, None}
use Rattle.lb_check.specs.declared.verdict.Verdict.{Verdict}
use Rattle.lb_board.specs.FollowKeys.{right_by}
use Rattle.lb_board.specs.Settlements.{Settlement, KnowsNothing, and_one}
use Rattle.lb_board.specs.declared.follow_board.FollowBoard.{FollowBoard}
use Rattle.lb_board.specs.declared.follow_board.FollowSeat.{FollowSeat}
use Rattle.lb_board.specs.declared.follow_board.Look.{Look}
use Rattle.lb_board.specs.declared.follow_board.Look.TheVariants.{Waiting, Ready, Failed}

-- the number of batches of a board
abbrev pub batches_of : FollowBoard → ℕ
batches_of board = board.batches

-- the right verdicts of the traces of a board
abbrev pub right_of : FollowBoard → List Verdict
right_of board = right_by board.table.shared.key

-- a seat belongs to this board
pub record IsFollowSeatOf (board : FollowBoard) (seat : FollowSeat) : Type 0 where
  pub table : seat.seat.table_id ≡ board.table.shared.table_id
  pub limit : seat.seat.me.0.draws.limit ≡ board.batches
  pub right : seat.seat.me.0.right ≡ right_by board.table.shared.key

-- the shares that a seat has of the board's 64
abbrev pub shares_of : FollowSeat → ℕ
shares_of seat = seat.seat.me.0.draws.shares

-- whether a seat was told that no batch is left
abbrev pub told_of : FollowSeat → Bool
told_of seat = seat.seat.me.0.draws.told

-- the batches that a seat has drawn
abbrev pub drawn_of : FollowSeat → List ℕ
drawn_of seat = seat.seat.me.0.draws.drawn

-- the traces that were posted with a seat, each with its verdict, or with None as failed
abbrev pub posts_of : FollowSeat → List Settlement
posts_of seat = seat.seat.me.0.posts

-- the traces that a seat knows to be settled, each with what it is settled with
abbrev pub known_of : FollowSeat → List Settlement
known_of seat = seat.seat.me.0.known

-- a seat has the shares and the draws that it had before
pub record HasSameDraws (before after : FollowSeat) : Type 0 where
  pub shares : shares_of after ≡ shares_of before
  pub told : told_of after ≡ told_of before
  pub drawn : drawn_of after ≡ drawn_of before

-- the answer of a look at trace k, with what is known before and after it: where the trace is open,
-- nothing is known of it; else what it is settled with is added
abbrev pub Tells : ℕ → List Settlement → Look → List Settlement → Type 0
Tells k before Waiting after = (after ≡ before) × KnowsNothing before k
Tells k before (Ready v) after = after ≡ and_one before k (Some v)
Tells k before Failed after = after ≡ and_one before k None

-- the answer of a look at a trace that is settled with this
abbrev pub shown : Option Verdict → Look
shown None = Failed
shown (Some v) = Ready v
