use Rattle.std.proofs.Common.{◌∙◌}
use Rattle.lb_trace.proofs.PlainRecords.{plain_parts}
use Rattle.lb_trace.proofs.plain.are_plain.Goals as goal

pub returns : goal.returns
returns g c = λ holds.
    let chain = rw c.with_min_len.ensures.base at c.all.ensures in
    plain_parts _ c.all.result chain.0 c.args.parts.now (chain.1 ∙ c.par_iter.ensures) chain.2 holds
