use Rattle.lb_part_laws.proofs.MergedParts.{merged_is}
use Rattle.lb_part_laws.proofs.reports.reports_on_parts_are_merged_to_the_report_on_all.Goals as goal

pub returns : goal.returns
returns c source all options texts reports whole merged parts each told are =
    merged_is source all options texts reports whole merged parts each told are
