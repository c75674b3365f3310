use Rattle.std.proofs.Common.{◌∙◌, ap, sym, ◌+◌, ◌-◌, length}
use Rattle.lb_part.specs.Heads.{record_end}
use Rattle.std.proofs.Common.{false}
use Rattle.lb_part.proofs.FirstRecords.{head-found}
use Rattle.lb_part.proofs.head.head_end.Goals as goal

pub returns-in-Some-clause-head : goal.returns-in-Some-clause-head
returns-in-Some-clause-head c =
    λ more last.
    head-found c.args.text.now more c.args.is_last c.in-Some.end c.requires last
    (ap (record_end false) (sym c.without_mark-body.ensures.value)
    ∙ sym c.record_end.ensures.value ∙ c.in-Some.is)
    ∙ ap (λ n. (length c.args.text.now - n) + c.in-Some.end)
    (ap length (sym c.without_mark-body.ensures.value))
