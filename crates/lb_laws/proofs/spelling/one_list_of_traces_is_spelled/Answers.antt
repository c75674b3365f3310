use Rattle.std.proofs.Common.{◌≡◌}
use Rattle.lb_trace.proofs.Outcomes.{complete_text}
use Rattle.lb_laws.proofs.spelling.one_list_of_traces_is_spelled.Goals as goal

pub returns : goal.returns
returns c elements text traces other spells also =
    let first = complete_text elements text traces spells in
    let second = complete_text elements text other also in
    let same : other ≡ traces = cc in
    same
