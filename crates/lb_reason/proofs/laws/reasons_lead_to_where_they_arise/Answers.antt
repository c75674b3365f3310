use Rattle.lb_reason.specs.Deciding.{is_bad, is_nil}
use Rattle.lb_reason.proofs.Ends.{bad_follows, followed, nil_follows, steps_end}
use Rattle.lb_reason.proofs.laws.reasons_lead_to_where_they_arise.Goals as goal

pub returns-clause-end : goal.returns-clause-end
returns-clause-end c = λ Q row first size last ready is. steps_end Q row size ready first last is

pub returns-clause-fault : goal.returns-clause-fault
returns-clause-fault c = λ Q row first yes. followed Q row is_bad (bad_follows row) first yes

pub returns-clause-nil : goal.returns-clause-nil
returns-clause-nil c = λ Q row first yes. followed Q row is_nil (nil_follows row) first yes
