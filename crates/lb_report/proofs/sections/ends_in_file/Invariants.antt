use Rattle.std.proofs.Common.{◌≤◌}
use Rattle.lb_feed.proofs.Sectioning.{FollowOn}
use Rattle.lb_report.proofs.sections.ends_in_file.Given as goal

abbrev pub invariant-sections : goal.invariant-sections
invariant-sections g l = record {
  follow : FollowOn l.from l.last l.ends.items;
  within : l.last ≤ l.size;
}
