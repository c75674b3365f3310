use Rattle.lb_feed.specs.Windows.{Left, left}
use Rattle.lb_command.proofs.Feeding.{feed_outcome, feed_read}
use Rattle.lb_command.proofs.run.report_on_feed.Goals as goal

pub returns-clause-outcome : goal.returns-clause-outcome
returns-clause-outcome g c =
    let feed = c.args.feed.now in
    let after = c.bench_feed-found.new.feed in
    let old = left (g.F.Feed.coming feed) (g.F.Feed.given feed) (g.F.Feed.failures feed) in
    let new = left (g.F.Feed.coming after) (g.F.Feed.given after) (g.F.Feed.failures after) in
    feed_outcome c.as_slice.result.now c.args.task.now.options old new c.bench_feed-found.result
    c.reported.result c.bench_feed-found.ensures c.reported.ensures.outcome

pub returns-clause-read : goal.returns-clause-read
returns-clause-read g c =
    let feed = c.args.feed.now in
    let after = c.bench_feed-found.new.feed in
    let old = left (g.F.Feed.coming feed) (g.F.Feed.given feed) (g.F.Feed.failures feed) in
    let new = left (g.F.Feed.coming after) (g.F.Feed.given after) (g.F.Feed.failures after) in
    feed_read c.as_slice.result.now c.args.task.now.options old new c.bench_feed-found.result
    c.reported.result c.bench_feed-found.ensures c.reported.ensures.outcome
