-- The static parameters of the node, if it is reached.
use Rattle.std.proofs.Common.{◌≡◌, ◌∙◌, [], ◌∷◌, Bool, Option, Some, ap, length, option_map, refl}
use Rattle.std.proofs.Common.{sym, vec_len}
use Rattle.std.specs.Prelude.{nat_eq}
use Rattle.std.specs.List.{list_all}
use Rattle.std.proofs.Math.Bool.{and-true}
use Rattle.std.proofs.lemmas.Option.{slice_get-map}
use Rattle.lb_syntax.specs.Lists.{some_of}
use Rattle.lb_syntax.specs.Tree.{Node}
use Rattle.lb_static.specs.ReachedNodes.{tree_at}
use Rattle.lb_static.specs.ResolvedNodes.{node_of}
use Rattle.lb_static.proofs.EntryCounts.{counted_items}
use Rattle.lb_static.proofs.Lookups.{held, past}
use Rattle.lb_static.proofs.check_interface.has_no_parameters.Goals as goal

abbrev none_at : Option Node → Bool
none_at o = list_all (λ n. nat_eq (length n.parameters) 0) (some_of (o ∷ []))

of_tree : (b : Bool) (o : Option Node) (n : Node) → o ≡ Some n
    → b ≡ nat_eq (length n.parameters) 0 → b ≡ none_at o
of_tree b o n at e =
    e ∙ sym (and-true (nat_eq (length n.parameters) 0)) ∙ sym (ap none_at at)

pub returns-in-Some : goal.returns-in-Some
returns-in-Some c =
    let nodes = c.args.reached.now.nodes.items in
    let n = c.in-Some.node.now in
    let parameters = n.tree.now.parameters in
    of_tree c.is_empty.result (tree_at c.args.reached.now c.args.id) (node_of n)
    (slice_get-map node_of nodes c.args.id.0
    ∙ ap (option_map node_of) (held c.deref.result.now nodes c.args.id.0 n c.deref.ensures.value
    c.in-Some.ensures.lookup.3.0 c.in-Some.ensures.lookup.1))
    (c.is_empty.ensures
    ∙ ap (λ k. nat_eq k 0) (counted_items parameters (vec_len parameters) refl))

pub returns-in-None : goal.returns-in-None
returns-in-None c =
    let nodes = c.args.reached.now.nodes.items in
    sym (ap none_at (slice_get-map node_of nodes c.args.id.0
    ∙ ap (option_map node_of) (past c.deref.result.now nodes c.args.id.0 c.deref.ensures.value
    c.in-None.ensures.lookup.3)))
