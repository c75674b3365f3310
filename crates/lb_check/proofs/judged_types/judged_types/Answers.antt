use Rattle.lb_check.proofs.definitions.BrokenRules.{if_found, types_found, types_judged}
use Rattle.lb_check.proofs.definitions.BrokenRules.{types_named}
use Rattle.lb_check.proofs.judged_types.judged_types.Goals as goal

pub returns-clause-judged : goal.returns-clause-judged
returns-clause-judged c P j =
    if_found c.types_by_specialization.result _ _ c.types_by_specialization.ensures
    (types_judged P c.args.reached.now c.args.table.now j)

pub returns-clause-named : goal.returns-clause-named
returns-clause-named c P j =
    if_found c.types_by_specialization.result _ _ c.types_by_specialization.ensures
    (types_named P c.args.reached.now c.args.table.now j)

pub returns-clause-found : goal.returns-clause-found
returns-clause-found c =
    if_found c.types_by_specialization.result _ _ c.types_by_specialization.ensures
    (types_found c.args.reached.now c.args.table.now)
