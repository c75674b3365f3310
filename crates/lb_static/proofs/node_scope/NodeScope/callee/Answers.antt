-- The node at the first place of a name is the node with that name.
use Rattle.std.proofs.Common.{◌≡◌, ◌∙◌, sym, arith, length, false}
use Rattle.std.specs.Prelude.{nat_eq}
use Rattle.std.proofs.lemmas.Bool.Decides.{nat_tests}
use Rattle.lb_static.specs.CountedNames.{Calls}
use Rattle.lb_static.specs.NodeNames.{program_in, takes}
use Rattle.lb_static.proofs.Faults.{told_fails}
use Rattle.lb_static.proofs.NodeScopes.{nodes_placed, no_callee, takes_so, callee_at}
use Rattle.lb_static.proofs.node_scope.NodeScope.callee.Goals as goal

pub returns-in_default-clause-err : goal.returns-in_default-clause-err
returns-in_default-clause-err c =
    let text = c.as_str.result.now in
    let source = c.args.self.now.source.now in
    let at = sym (nodes_placed c.args.self.now text) ∙ sym c.node_place.ensures ∙ c.in_default.is in
    told_fails c.unknown_name.result Calls
    (λ x. takes (program_in c.args.self.now) x c.args.arguments)
    c.args.name.now c.unknown_name.ensures
    (no_callee source c.args.name.now text c.as_str.ensures c.args.arguments at)

pub returns-then-wanted-arguments-clause-err : goal.returns-then-wanted-arguments-clause-err
returns-then-wanted-arguments-clause-err c =
    let text = c.as_str.result.now in
    let source = c.args.self.now.source.now in
    let at = sym (nodes_placed c.args.self.now text) ∙ sym c.node_place.ensures ∙ c.in-Some.is in
    let x = c.index.result.now in
    let long : c.len-wanted.result ≡ length x.parameters.items =
    c.len-wanted.ensures ∙ x.parameters.ok.0 in
    let differ : nat_eq c.args.arguments (length x.parameters.items) ≡ false =
    grind (arith, nat_tests, long, c.if-wanted-arguments.true) in
    told_fails c.other_arguments.result Calls
    (λ y. takes (program_in c.args.self.now) y c.args.arguments)
    c.args.name.now c.other_arguments.ensures
    (takes_so source c.args.name.now text c.as_str.ensures c.in-Some.place x at
    c.index.ensures c.args.arguments ∙ differ)

pub returns-clause-ok : goal.returns-clause-ok
returns-clause-ok c =
    let text = c.as_str.result.now in
    let source = c.args.self.now.source.now in
    let at = sym (nodes_placed c.args.self.now text) ∙ sym c.node_place.ensures ∙ c.in-Some.is in
    let x = c.index.result.now in
    let long : c.len-wanted.result ≡ length x.parameters.items =
    c.len-wanted.ensures ∙ x.parameters.ok.0 in
    callee_at source c.args.name.now text c.as_str.ensures c.in-Some.place x at c.index.ensures
    c.args.arguments (sym c.if-wanted-arguments.false ∙ long)
