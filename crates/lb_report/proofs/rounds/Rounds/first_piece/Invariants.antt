use Rattle.std.proofs.Common.{◌+◌, ◌-◌, if◌then◌else◌}
use Rattle.lb_feed.specs.Windows.{HasTaken, IsWindow, left}
use Rattle.lb_feed.specs.declared.feed.TheConstants.{INPUT_LIMIT}
use Rattle.lb_report.proofs.rounds.Rounds.first_piece.Given as goal

abbrev pub invariant-pieces : goal.invariant-pieces
invariant-pieces g l = record {
  window : IsWindow l.window;
  taken : HasTaken l.fn.window l.window
      (left (g.F.Feed.coming l.fn.feed) (g.F.Feed.given l.fn.feed) (g.F.Feed.failures l.fn.feed))
      (left (g.F.Feed.coming l.feed) (g.F.Feed.given l.feed) (g.F.Feed.failures l.feed));
}

-- each turn takes some bytes, or is the last
abbrev pub decreases-pieces : goal.decreases-pieces
decreases-pieces g l = (INPUT_LIMIT + 1 - l.window.read) + (if l.window.is_over then 0 else 1)
