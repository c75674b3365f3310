use Rattle.std.proofs.Common.{◌≤◌}
use Rattle.lb_feed.proofs.Sectioning.{FollowOn}
use Rattle.lb_feed.proofs.file_chunks.chunk_ends.Given as goal

abbrev pub invariant-chunks : goal.invariant-chunks
invariant-chunks g l = record {
  follow : FollowOn 0 l.last l.ends.items;
  within : l.last ≤ l.size;
}
