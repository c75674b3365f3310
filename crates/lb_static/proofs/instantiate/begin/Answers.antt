-- An instance is judged by its own values, or by those of the specialization that is found.
use Rattle.std.proofs.Common.{◌≤◌, ◌<◌, arith, rules, length}
use Rattle.std.specs.Prelude.{option_map}
use Rattle.std.proofs.lemmas.Result.{err_from_is_err_and}
use Rattle.lb_static.specs.Instantiation.{level}
use Rattle.lb_static.proofs.InstanceSteps.{known_with, known_place, ok_when}
use Rattle.lb_static.proofs.instantiate.begin.Goals as goal

pub returns-then-len-ge-MOST_INSTANCES-clause-judged :
    goal.returns-then-len-ge-MOST_INSTANCES-clause-judged
returns-then-len-ge-MOST_INSTANCES-clause-judged c = search rules

-- where memory is refused, no instance is judged
pub returns-in_err-push-clause-judged : goal.returns-in_err-push-clause-judged
returns-in_err-push-clause-judged c =
    let p = err_from_is_err_and c.from_residual.result c.from_residual.ensures.1 in
    rw (p.1, p.2) (λ P q n w at low judged. tt)

pub returns-in_err-found-clause-judged : goal.returns-in_err-found-clause-judged
returns-in_err-found-clause-judged c =
    let p = err_from_is_err_and c.from_residual-in_err-found.result
    c.from_residual-in_err-found.ensures.1 in
    rw (p.1, p.2) (λ P q n w at low judged. tt)

pub returns-clause-few : goal.returns-clause-few
returns-clause-few c = ok_when c.begun_from.result _ (λ b e. omega arith)

pub returns-clause-low : goal.returns-clause-low
returns-clause-low c = ok_when c.begun_from.result _ (λ b e. omega arith)

pub returns-clause-row : goal.returns-clause-row
returns-clause-row c = ok_when c.begun_from.result _ (λ b e. c.in_ok-push.ensures.items)

pub returns-clause-known : goal.returns-clause-known
returns-clause-known c =
    known_place c.args.entered.now.specializations c.args.entry.node c.args.values.now
    (option_map (λ f. f.0) c.in_ok-found.found) c.begun_from.result
    c.in_ok-found.ensures.found c.begun_from.ensures.known

pub returns-clause-judged : goal.returns-clause-judged
returns-clause-judged c = λ P q n w at low judged.
    let few : length c.args.entered.now.instances.items < 4096 = omega arith in
    let deep : level P q ≤ 64 = omega arith in
    let known = known_with P c.args.reached.now c.args.entered.now.specializations c.args.entry.node
    c.args.values.now c.in_ok-found.found judged
    c.in_ok-found.ensures.found c.in_ok-found.ensures.there in
    c.begun_from.ensures.judged P q n (length c.args.entered.now.instances.items) w at known few
    deep
