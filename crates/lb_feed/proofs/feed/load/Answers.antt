use Rattle.std.proofs.Common.{◌≡◌, ◌∙◌, ◌+◌, arith, inr, length, rules, vec_len}
use Rattle.lb_feed.proofs.Counts.{count_more-twice}
use Rattle.lb_feed.proofs.FeedBytes.{Consumes-filled, too_long}
use Rattle.lb_feed.proofs.feed.load.Goals as goal

pub loop-bytes-preserved : goal.loop-bytes-preserved
loop-bytes-preserved g c =
    let before = c.loop-bytes.invariant in
    let read = c.in_ok-count.ensures in
    record {
      filled = record {
        within = read.within;
        limit = omega (arith, c.if-filled-gt-INPUT_LIMIT.false);
        came = Consumes-filled _ _ _ c.loop-bytes.bytes.items _ c.loop-bytes.filled _
            before.filled.came read.front read.next;
      };
      failures = read.ok ∙ before.failures;
      counted = count_more-twice _ _ _ c.loop-bytes.filled c.in_ok-count.count before.counted
          read.counted;
    }

pub returns-then-filled-gt-INPUT_LIMIT-clause-read :
    goal.returns-then-filled-gt-INPUT_LIMIT-clause-read
returns-then-filled-gt-INPUT_LIMIT-clause-read g c = λ is.
    let before = c.loop-bytes.invariant in
    let read = c.in_ok-count.ensures in
    let bytes = c.read_piece.new.bytes in
    let long : vec_len bytes ≡ length bytes.items = omega (arith, bytes.ok.0) in
    inr (too_long (g.F.Feed.coming c.args.feed.now) (g.F.Feed.coming c.read_piece.new.feed)
    (g.F.Feed.given c.args.feed.now) (g.F.Feed.given c.read_piece.new.feed)
    bytes.items (c.loop-bytes.filled + c.in_ok-count.count) (omega (arith, read.within, long))
    c.if-filled-gt-INPUT_LIMIT.true
    (Consumes-filled _ _ _ c.loop-bytes.bytes.items _ c.loop-bytes.filled _ before.filled.came
    read.front read.next)
    (count_more-twice _ _ _ c.loop-bytes.filled c.in_ok-count.count before.counted
    read.counted))

-- all bytes are no error
pub returns-then-count-eq0-clause-read : goal.returns-then-count-eq0-clause-read
returns-then-count-eq0-clause-read g c = search rules
