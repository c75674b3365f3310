-- A name whose place is before the static parameters is that of a variable.
use Rattle.std.proofs.Common.{true, false, arith, sym, ◌∙◌, ◌≡◌}
use Rattle.std.specs.Prelude.{nat_lt}
use Rattle.std.proofs.lemmas.Bool.Decides.{nat_tests}
use Rattle.lb_static.proofs.NodeScopes.{variable_found, is_variable_at, no_variable}
use Rattle.lb_static.proofs.node_scope.NodeScope.place.Goals as goal

pub returns-in-Some-clause-found : goal.returns-in-Some-clause-found
returns-in-Some-clause-found c =
    variable_found c.args.self.now c.args.name.now c.as_str.result.now c.in-Some.place
    c.in-Some.ensures.value c.as_str.ensures c.if-place-self.true

pub returns-in-Some-clause-is_declared : goal.returns-in-Some-clause-is_declared
returns-in-Some-clause-is_declared c =
    let less : nat_lt c.in-Some.place c.args.self.now.variables ≡ true =
    grind (arith, nat_tests, c.if-place-self.true) in
    sym less ∙ is_variable_at c.args.self.now c.args.name.now c.as_str.result.now c.in-Some.place
    c.in-Some.ensures.value c.as_str.ensures

pub returns-in_default-clause-is_declared : goal.returns-in_default-clause-is_declared
returns-in_default-clause-is_declared c =
    let less : nat_lt c.in-Some.place c.args.self.now.variables ≡ false =
    grind (arith, nat_tests, c.if-place-self.false) in
    sym less ∙ is_variable_at c.args.self.now c.args.name.now c.as_str.result.now c.in-Some.place
    c.in-Some.ensures.value c.as_str.ensures

pub returns-in_default-2-clause-is_declared : goal.returns-in_default-2-clause-is_declared
returns-in_default-2-clause-is_declared c = sym
    (no_variable c.args.self.now c.args.name.now c.as_str.result.now
    (sym c.in_default.is ∙ c.place.ensures.value) c.as_str.ensures)
