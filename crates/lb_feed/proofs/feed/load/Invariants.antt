use Rattle.std.proofs.Common.{◌≡◌, ◌≤◌, ◌+◌, ◌-◌, ℕ, List, Option, Vec, Global, vec_len, take}
use Rattle.std.specs.Io.KnownBytes.{Consumes}
use Rattle.lb_feed.specs.Counts.{count_more}
use Rattle.lb_feed.specs.declared.feed.TheConstants.{INPUT_LIMIT}
use Rattle.lb_feed.proofs.feed.load.Given as goal

-- the filled part is the bytes that came so far
pub record IsFilled (first now : Option (List ℕ)) (filled : ℕ) (bytes : Vec ℕ Global) : Type 0 where
  pub within : filled ≤ vec_len bytes
  pub limit : filled ≤ INPUT_LIMIT
  pub came : Consumes first now (take filled bytes.items)

abbrev pub invariant-loop-bytes : goal.invariant-loop-bytes
invariant-loop-bytes g l = record {
  filled : IsFilled (g.F.Feed.coming l.fn.feed) (g.F.Feed.coming l.feed) l.filled l.bytes;
  failures : g.F.Feed.failures l.feed ≡ g.F.Feed.failures l.fn.feed;
  counted : g.F.Feed.given l.feed ≡ count_more (g.F.Feed.given l.fn.feed) l.filled;
}

abbrev pub decreases-loop-bytes : goal.decreases-loop-bytes
decreases-loop-bytes g l = INPUT_LIMIT + 1 - l.filled
