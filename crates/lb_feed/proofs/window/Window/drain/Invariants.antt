use Rattle.std.proofs.Common.{◌+◌, ◌-◌, if◌then◌else◌}
use Rattle.lb_feed.specs.declared.feed.TheConstants.{INPUT_LIMIT}
use Rattle.lb_feed.specs.Windows.{HasRead, IsWithin, left}
use Rattle.lb_feed.proofs.window.Window.drain.Given as goal

abbrev pub invariant-reads : goal.invariant-reads
invariant-reads g l = record {
  within : IsWithin l.self;
  read : HasRead l.fn.self l.self
      (left (g.F.Feed.coming l.fn.feed) (g.F.Feed.given l.fn.feed) (g.F.Feed.failures l.fn.feed))
      (left (g.F.Feed.coming l.feed) (g.F.Feed.given l.feed) (g.F.Feed.failures l.feed));
}

-- each read takes some bytes, or is the last
abbrev pub decreases-reads : goal.decreases-reads
decreases-reads g l = (INPUT_LIMIT + 1 - l.self.read) + (if l.self.is_over then 0 else 1)
