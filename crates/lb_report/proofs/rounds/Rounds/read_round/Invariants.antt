use Rattle.std.proofs.Common.{◌≡◌}
use Rattle.lb_feed.specs.Windows.{GoesOn, IsWindow, left, turns_left}
use Rattle.lb_report.specs.Pieces.{IsOpenRound, IsRoundRead}
use Rattle.lb_report.proofs.rounds.Rounds.read_round.Given as goal

abbrev pub invariant-pieces : goal.invariant-pieces
invariant-pieces g l = record {
  window : IsWindow l.window;
  round : IsOpenRound l.self.signature.now l.round;
  failures : g.F.Feed.failures l.feed ≡ g.F.Feed.failures l.fn.feed;
  read : IsRoundRead l.table l.fn.window l.window
      (left (g.F.Feed.coming l.fn.feed) (g.F.Feed.given l.fn.feed) (g.F.Feed.failures l.fn.feed))
      (left (g.F.Feed.coming l.feed) (g.F.Feed.given l.feed) (g.F.Feed.failures l.feed))
      l.fn.round l.round;
  goes : GoesOn l.fn.window l.window;
}

-- each turn drops some bytes, or is the last
abbrev pub decreases-pieces : goal.decreases-pieces
decreases-pieces g l = turns_left l.window
