use Rattle.lb_check.proofs.Words.{◌≡◌, drop, first_broken, context_in, is_variable_typed}
use Rattle.lb_check.proofs.lists.ListPairs.{broken_from}
use Rattle.lb_check.proofs.type_rules.first_ill_typed_variable.Given as goal

abbrev pub invariant-loop-i : goal.invariant-loop-i
invariant-loop-i l =
    let kept = is_variable_typed (context_in l.env) in
    first_broken kept l.variables ≡ broken_from kept l.i (drop l.i l.variables)
