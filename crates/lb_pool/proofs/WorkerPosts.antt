-- The verdicts that a worker of a live report may post, and those that it has posted.
use Rattle.std.proofs.Common.{◌≡◌, ℕ, ◌+◌, ◌<◌, List, [], ◌∷◌, length, get_or, take, subst, sym}
use Rattle.std.specs.Prelude.{Option, Some}
use Rattle.std.specs.List.{All, Contains}
use Rattle.std.proofs.lemmas.List.Elements.{All-from_get_or, All-more, All-weaker}
use Rattle.std.proofs.lemmas.List.Elements.{Contains-append_left, Contains-push}
use Rattle.lb_check.specs.declared.verdict.Verdict.{Verdict}
use Rattle.lb_flat.specs.Programs.{program_of}
use Rattle.lb_traces.specs.Traces.{Recording}
use Rattle.lb_flat.specs.declared.program.FlatProgram.{FlatProgram}
use Rattle.lb_sim.specs.Correct.{HasVerdict, TakesVerdicts}
use Rattle.lb_board.specs.FollowSeats.{IsFollowSeatOf, posts_of, right_of}
use Rattle.lb_board.specs.Settlements.{Settlement, and_one}
use Rattle.lb_board.specs.declared.follow_board.FollowBoard.{FollowBoard}
use Rattle.lb_board.specs.declared.follow_board.FollowSeat.{FollowSeat}
use Rattle.lb_pool.specs.FollowWorkers.{IsBoardFor}
use Rattle.lb_pool.specs.Postings.{HasPosted, IsPostedWith, MayPost}
use Rattle.lb_pool.proofs.RightPosts.{are_on_board}
use Rattle.lb_pool.proofs.RightTraces.{right_to_post}

-- ## One more post

pub posted_last : (s s' : FollowSeat) (k : ℕ) (x : Option Verdict)
    → posts_of s' ≡ and_one (posts_of s) k x → Contains (posts_of s') (k, x)
posted_last s s' k x e =
    subst (λ (l : List Settlement). Contains l (k, x)) (sym e) (Contains-push (posts_of s) (k, x))

pub posted_before : (s s' : FollowSeat) (k : ℕ) (x : Option Verdict) (y : Settlement)
    → posts_of s' ≡ and_one (posts_of s) k x → Contains (posts_of s) y → Contains (posts_of s') y
posted_before s s' k x y e h =
    subst (λ (l : List Settlement). Contains l y) (sym e)
    (Contains-append_left (posts_of s) ((k, x) ∷ []) y h)

-- one more member was posted
pub one_more_posted : (s s' : FollowSeat) (members : List ℕ) (i : ℕ) (x : Option Verdict)
    → i < length members → posts_of s' ≡ and_one (posts_of s) (get_or members i 0) x
    → All (IsPostedWith s) (take i members) → All (IsPostedWith s') (take (i + 1) members)
one_more_posted s s' members i x inside e before =
    let k = get_or members i 0 in
    All-more (IsPostedWith s') members i 0 inside
    (All-weaker (IsPostedWith s) (IsPostedWith s')
    (λ j is. record {
      settled = is.settled;
      posted = posted_before s s' k x (j, is.settled) e is.posted;
    })
    (take i members) before)
    (record { settled = x; posted = posted_last s s' k x e })

-- ## A batch

-- the right verdict of each member may be posted
pub may_post_each : (p : FlatProgram) (r : Recording) (batches : List (List ℕ))
    (board : FollowBoard) (seat : FollowSeat) (members : List ℕ) → IsBoardFor p r batches board
    → All (λ k. k < length r.traces) members → IsFollowSeatOf board seat
    → TakesVerdicts (program_of p) r members (MayPost board seat members)
may_post_each p r batches board seat members is below of place v inside right = record {
  seat = of;
  member = inside;
  trace = are_on_board p r batches board members is below place 0 inside;
  right =
      right_to_post p r (right_of board) (get_or members place 0) v is.stands is.kinds is.right
      (below place 0 inside) right;
}

-- each member was posted with a seat, once a verdict of each was posted with it
pub each_posted : (p : FlatProgram) (r : Recording) (seat : FollowSeat) (members ms : List ℕ)
    → ms ≡ members → ((k : ℕ) → k < length members
    → HasVerdict (program_of p) r members (HasPosted seat ms) k) → All (IsPostedWith seat) members
each_posted p r seat members ms e have =
    All-from_get_or (IsPostedWith seat) members 0
    (λ i inside. record {
      settled = Some (have i inside).verdict;
      posted =
          subst
          (λ (l : List ℕ). Contains (posts_of seat) (get_or l i 0, Some (have i inside).verdict)) e
          (have i inside).held;
    })

-- `each_posted` for an equal seat and equal members
pub same_posted : (s s' : FollowSeat) (members ms : List ℕ) → All (IsPostedWith s) members
    → s ≡ s' → members ≡ ms → All (IsPostedWith s') ms
same_posted s s' members ms posted same equal =
    subst (λ (x : FollowSeat). All (IsPostedWith x) ms) same
    (subst (All (IsPostedWith s)) equal posted)
