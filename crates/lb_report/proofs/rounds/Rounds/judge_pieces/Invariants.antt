use Rattle.std.proofs.Common.{◌≡◌, List}
use Rattle.lb_trace.specs.Spelling.{Record}
use Rattle.lb_feed.specs.Windows.{IsWindow, left, turns_left}
use Rattle.lb_report.specs.JudgedParts.{IsMoreRead, IsPartRead, IsState}
use Rattle.lb_report.proofs.rounds.Rounds.judge_pieces.Given as goal

abbrev pub invariant-rounds : goal.invariant-rounds
invariant-rounds g l = record {
  window : IsWindow l.window;
  state : IsState l.self.signature.now l.state;
  failures : g.F.Feed.failures l.feed ≡ g.F.Feed.failures l.fn.feed;
  known : (rows : List Record)
      → IsPartRead l.self.runner.program.now.program.now l.self.signature.now l.table rows
      l.fn.begun
      → IsMoreRead l.self.runner.program.now.program.now l.self.signature.now l.table rows
      l.fn.window l.window
      (left (g.F.Feed.coming l.fn.feed) (g.F.Feed.given l.fn.feed) (g.F.Feed.failures l.fn.feed))
      (left (g.F.Feed.coming l.feed) (g.F.Feed.given l.feed) (g.F.Feed.failures l.feed)) l.state;
}

-- each round drops some bytes, or is the last
abbrev pub decreases-rounds : goal.decreases-rounds
decreases-rounds g l = turns_left l.window
