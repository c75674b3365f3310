-- A name whose place is behind the variables is that of a static parameter.
use Rattle.std.proofs.Common.{sym, ap, ◌∙◌, take}
use Rattle.lb_static.specs.Parts.{among}
use Rattle.lb_static.proofs.NodeScopes.{static_found, static_not_found}
use Rattle.lb_static.proofs.node_scope.NodeScope.is_static.Goals as goal

pub returns-in-Some : goal.returns-in-Some
returns-in-Some c = static_found c.args.self.now c.args.name.now c.as_str.result.now c.in-Some.place
    c.in-Some.ensures.value c.as_str.ensures

pub returns-in-None : goal.returns-in-None
returns-in-None c =
    let globals = c.args.self.now.globals.now in
    static_not_found c.args.self.now c.args.name.now c.as_str.result.now c.is_constant.result
    c.in-None.ensures.value c.as_str.ensures
    (c.is_constant.ensures ∙ ap (λ x. among x (take globals.constants globals.names))
    (c.as_str-in-None.ensures ∙ sym c.as_str.ensures))
