-- Laws of `StaysPosting` and `MayPost`, for a worker that posts verdicts.
use Rattle.std.proofs.Common.{◌∙◌, ℕ, List, refl, subst, sym}
use Rattle.lb_check.specs.declared.verdict.Verdict.{Verdict}
use Rattle.lb_board.specs.FollowSeats.{IsFollowSeatOf}
use Rattle.lb_board.specs.declared.follow_board.FollowBoard.{FollowBoard}
use Rattle.lb_board.specs.declared.follow_board.FollowSeat.{FollowSeat}
use Rattle.lb_pool.specs.Postings.{MayPost, StaysPosting}

pub stays_itself : (b : FollowBoard) (members : List ℕ) (s : FollowSeat)
    → StaysPosting b b members members s s
stays_itself b members s = record {
  board_is = refl;
  members_are = refl;
  draws = record { shares = refl; told = refl; drawn = refl };
  still = λ is. is;
}

pub stays_further : (b b' b'' : FollowBoard) (m m' m'' : List ℕ) (s s' s'' : FollowSeat)
    → StaysPosting b b' m m' s s' → StaysPosting b' b'' m' m'' s' s''
    → StaysPosting b b'' m m'' s s''
stays_further b b' b'' m m' m'' s s' s'' one more = record {
  board_is = more.board_is ∙ one.board_is;
  members_are = more.members_are ∙ one.members_are;
  draws = record {
    shares = more.draws.shares ∙ one.draws.shares;
    told = more.draws.told ∙ one.draws.told;
    drawn = more.draws.drawn ∙ one.draws.drawn;
  };
  still = λ is. more.still (one.still is);
}

pub may_still_post : (b b' : FollowBoard) (m m' : List ℕ) (s s' : FollowSeat) (place : ℕ)
    (v : Verdict) → StaysPosting b b' m m' s s' → MayPost b s m place v → MayPost b' s' m' place v
may_still_post b b' m m' s s' place v stays may =
    subst (λ (board : FollowBoard). MayPost board s' m' place v) (sym stays.board_is)
    (subst (λ (members : List ℕ). MayPost b s' members place v) (sym stays.members_are)
    (record {
      seat = subst (λ (board : FollowBoard). IsFollowSeatOf board s') stays.board_is
          (stays.still may.seat);
      member = may.member;
      trace = may.trace;
      right = may.right;
    }))
