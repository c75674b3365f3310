-- The verdicts and the law that belong to the key of a board of settled traces.
-- Source: this project's rule.
use Rattle.std.specs.Prelude.{ℕ, List}
use Rattle.atomic_table.specs.Table.{State}
use Rattle.lb_check.specs.declared.verdict.Verdict.{Verdict}
use Rattle.lb_flat.specs.Programs.{program_of}
use Rattle.lb_flat.specs.RightVerdicts.{right_verdicts}
use Rattle.lb_board.specs.declared.follow_views.FollowKey.{FollowKey}
use Rattle.lb_board.specs.declared.follow_views.FollowView.{FollowView}
use Rattle.lb_board.specs.FollowLaw.{IsLawfulFollow}
use Rattle.lb_board.specs.FollowViews.{first_view}

-- the right verdicts of the traces of a key
unfoldable pub right_by : FollowKey → List Verdict
right_by key = right_verdicts (program_of key.ordered.value.program) key.set.value

abbrev pub law_of : FollowKey → State ℕ FollowView → Type 0
law_of key = IsLawfulFollow key.batches (right_by key)

abbrev pub view_of : FollowKey → FollowView
view_of key = first_view key.batches (right_by key)
