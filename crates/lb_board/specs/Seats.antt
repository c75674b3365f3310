-- The parts of boards and seats that contracts name.
use Rattle.std.specs.Prelude.{◌≡◌, ℕ, List, Bool}
use Rattle.lb_board.specs.declared.board.ClaimBoard.{ClaimBoard}
use Rattle.lb_board.specs.declared.board.ClaimSeat.{ClaimSeat}

-- the limit of a board: its numbers are those below it
abbrev pub limit_of : ClaimBoard → ℕ
limit_of board = board.n

-- a seat belongs to this board
abbrev pub IsSeatOf : ClaimBoard → ClaimSeat → Type 0
IsSeatOf board seat =
    (seat.seat.table_id ≡ board.table.shared.table_id) × (seat.seat.me.0.limit ≡ board.n)

-- the shares that a seat has of the board's 64
abbrev pub shares_of : ClaimSeat → ℕ
shares_of seat = seat.seat.me.0.shares

-- whether a seat was told that no number is left
abbrev pub told_of : ClaimSeat → Bool
told_of seat = seat.seat.me.0.told

-- the numbers that a seat has drawn
abbrev pub drawn_of : ClaimSeat → List ℕ
drawn_of seat = seat.seat.me.0.drawn
