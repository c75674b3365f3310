-- The view of a seat of a board of settled traces, at first and after each step: the view of a
-- claim board; the right verdicts; what was posted with the seat; what it knows.
-- Source: this project's rule.
use Rattle.std.specs.Prelude.{ℕ, List, [], ◌++◌, if◌then◌else◌, ◌==◌}
use Rattle.lb_check.specs.declared.verdict.Verdict.{Verdict}
use Rattle.lb_board.specs.declared.views.View.{View}
use Rattle.lb_board.specs.declared.follow_views.FollowView.{FollowView}
use Rattle.lb_board.specs.Settlements.{Settlement, told_by, and_one}
use Rattle.lb_board.specs.Views as claims

abbrev pub follow_view :
    View → List Verdict → List Settlement → List Settlement → FollowView
follow_view draws right posts known = record {
  draws = draws;
  right = right;
  posts = posts;
  known = known;
}

-- the first seat has all shares; nothing was posted, and nothing is known
abbrev pub first_view : ℕ → List Verdict → FollowView
first_view batches right = follow_view (claims.first_view batches) right [] []

-- a split leaves all posts with the first seat, and what is known with both
abbrev pub larger_half : FollowView → FollowView
larger_half v = follow_view (claims.larger_half v.draws) v.right v.posts v.known

abbrev pub smaller_half : FollowView → FollowView
smaller_half v = follow_view (claims.smaller_half v.draws) v.right [] v.known

-- a join puts together what was posted, and what is known
abbrev pub both : FollowView → FollowView → FollowView
both v w =
    follow_view (claims.both v.draws w.draws) v.right (v.posts ++ w.posts) (v.known ++ w.known)

-- the view of a seat that was joined away
abbrev pub spent : FollowView
spent = follow_view claims.spent [] [] []

-- a claim changes nothing but the draws
abbrev pub with_draws : FollowView → View → FollowView
with_draws v draws = follow_view draws v.right v.posts v.known

-- the view after a post of `said` for trace k, whose word then holds `held`
abbrev pub posted : FollowView → ℕ → ℕ → ℕ → FollowView
posted v k said held =
    follow_view v.draws v.right (and_one v.posts k (told_by said))
    (and_one v.known k (told_by held))

-- the view after a look that found this word of trace k
abbrev pub looked : FollowView → ℕ → ℕ → FollowView
looked v k found =
    if found == 0
    then v
    else follow_view v.draws v.right v.posts (and_one v.known k (told_by found))
