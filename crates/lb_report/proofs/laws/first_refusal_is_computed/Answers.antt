use Rattle.lb_report.proofs.FirstRefusals.{only_computed}
use Rattle.lb_report.proofs.laws.first_refusal_is_computed.Goals as goal

pub returns : goal.returns
returns c source traces node observer = only_computed source traces node observer
