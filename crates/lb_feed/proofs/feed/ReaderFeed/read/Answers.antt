use Rattle.std.proofs.Common.{rules}
use Rattle.lb_feed.proofs.feed.ReaderFeed.read.Goals as goal

-- the bytes that came are added to those given
pub returns-in-Ok-clause-counted : goal.returns-in-Ok-clause-counted
returns-in-Ok-clause-counted g c = search rules
