use Rattle.std.proofs.Common.{◌≤◌, ◌<◌, ◌+◌, ◌-◌, ◌*◌}
use Rattle.lb_report.specs.declared.sections.TheConstants.{MOST_PROBE}
use Rattle.lb_report.proofs.sections.end_in_file.Given as goal

abbrev pub invariant-probes : goal.invariant-probes
invariant-probes g l = record {
  some : 0 < l.probe;
  few : l.probe ≤ 4 * MOST_PROBE;
}

abbrev pub decreases-probes : goal.decreases-probes
decreases-probes g l = MOST_PROBE + 1 - l.probe
