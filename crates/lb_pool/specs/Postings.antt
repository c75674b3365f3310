-- The posts of the workers of a live report.
-- Source: this project's rule.
use Rattle.std.specs.Prelude.{◌≡◌, ℕ, ◌<◌, List, length, get_or, Option, Some}
use Rattle.std.specs.List.{Contains}
use Rattle.lb_check.specs.declared.verdict.Verdict.{Verdict}
use Rattle.lb_board.specs.FollowSeats.{IsFollowSeatOf, HasSameDraws, right_of, posts_of}
use Rattle.lb_board.specs.Settlements.{IsRight}
use Rattle.lb_board.specs.declared.follow_board.FollowBoard.{FollowBoard}
use Rattle.lb_board.specs.declared.follow_board.FollowSeat.{FollowSeat}

-- trace k was posted with a seat, with its verdict or as failed
pub record IsPostedWith (s : FollowSeat) (k : ℕ) : Type 0 where
  pub settled : Option Verdict
  pub posted : Contains (posts_of s) (k, settled)

-- a seat may post v for the member at `place`: v is the verdict that the board has for it
pub record MayPost (b : FollowBoard) (s : FollowSeat) (members : List ℕ) (place : ℕ)
    (v : Verdict) : Type 0 where
  pub seat : IsFollowSeatOf b s
  pub member : place < length members
  pub trace : get_or members place 0 < length (right_of b)
  pub right : IsRight (right_of b) (get_or members place 0) (Some v)

-- a verdict of the member at a place was posted with a seat
abbrev pub HasPosted : FollowSeat → List ℕ → ℕ → Verdict → Type 0
HasPosted s members place v = Contains (posts_of s) (get_or members place 0, Some v)

-- what stays while verdicts are posted: the board, the members, the draws of the seat, and that the
-- seat belongs to the board
pub record StaysPosting (b b' : FollowBoard) (members members' : List ℕ)
    (s s' : FollowSeat) : Type 0 where
  pub board_is : b' ≡ b
  pub members_are : members' ≡ members
  pub draws : HasSameDraws s s'
  pub still : IsFollowSeatOf b s → IsFollowSeatOf b' s'
