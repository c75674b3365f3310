use Rattle.lb_check.proofs.Words.{rules, ◌≡◌, length, sym}
use Rattle.lb_check.proofs.definitions.NodeDefinitions.{all_defined, memory_found, places_told}
use Rattle.lb_check.proofs.definitions.NodeDefinitions.{variable_found}
use Rattle.lb_check.proofs.definition_rules.ill_defined_part.Goals as goal

pub returns-in-Some-memory_in_function : goal.returns-in-Some-memory_in_function
returns-in-Some-memory_in_function c P names reached =
    memory_found P c.args.reached.now names reached c.args.id c.in-Some.node.now
    (sym c.in-Some.ensures) c.memory_in_function.result
    c.in-Some-memory_in_function.j c.memory_in_function.ensures c.in-Some-memory_in_function.is

pub returns-in-Some-2 : goal.returns-in-Some-2
returns-in-Some-2 c P names reached =
    let n = c.in-Some.node.now in
    let many : c.len.result ≡ length n.variables.items = search rules in
    variable_found P c.args.reached.now names reached c.args.id n (sym c.in-Some.ensures)
    c.in-Some-2.i
    (places_told n c.len.result c.deref.result.now c.in_ok-i.field-0 _ many
    c.deref.ensures.value c.in_ok-i.ensures c.in-Some-2.is)

pub returns-in-None : goal.returns-in-None
returns-in-None c P names reached =
    let n = c.in-Some.node.now in
    let many : c.len.result ≡ length n.variables.items = search rules in
    all_defined P c.args.reached.now names reached c.args.id n (sym c.in-Some.ensures)
    c.memory_in_function.result
    c.memory_in_function.ensures c.in_default-memory_in_function.is
    (places_told n c.len.result c.deref.result.now c.in_ok-i.field-0 _ many
    c.deref.ensures.value c.in_ok-i.ensures c.in-None.is)
