-- The name of the node at this place, if there is one.
use Rattle.lb_check.proofs.Words.{IfOk, Node, ap, listed, node_of, option_map, slice_get-map, subst}
use Rattle.{lb_check.proofs.Words.{sym, ◌∙◌, ◌≡◌}, lb_static.proofs.Lookups.{held, past}}
use Rattle.std.specs.Prelude.{string_bytes}
use Rattle.lb_cause.proofs.cause.name_of.Goals as goal

pub returns-in-Some : goal.returns-in-Some
returns-in-Some c =
    let nodes = c.args.reached.now.nodes.items in
    let name = λ (n : Node). n.name in
    subst (λ l. IfOk c.from_str.result (λ t. string_bytes t ≡ l))
    (c.as_str.ensures
    ∙ sym (ap (listed name) (slice_get-map node_of nodes c.args.id.0
    ∙ ap (option_map node_of) (held c.deref.result.now nodes c.args.id.0 c.in-Some.node.now
    c.deref.ensures.value c.in-Some.ensures.lookup.3.0 c.in-Some.ensures.lookup.1))))
    c.from_str.ensures.ok

pub returns-in-None : goal.returns-in-None
returns-in-None c =
    let nodes = c.args.reached.now.nodes.items in
    let name = λ (n : Node). n.name in
    c.new.ensures.bytes
    ∙ sym (ap (listed name) (slice_get-map node_of nodes c.args.id.0
    ∙ ap (option_map node_of) (past c.deref.result.now nodes c.args.id.0
    c.deref.ensures.value c.in-None.ensures.lookup.3)))
