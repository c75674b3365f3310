-- One more call of the cycle.
use Rattle.std.proofs.Common.{◌≡◌, ◌<◌, ◌++◌, ◌∷◌, [], length, map, option_map, Some, get_or, take}
use Rattle.std.proofs.Common.{refl, ap, sym, ◌∙◌}
use Rattle.std.specs.Prelude.{slice_get, string_bytes}
use Rattle.std.proofs.lemmas.List.{map-append, take_all, take_more}
use Rattle.std.proofs.lemmas.List.Elements.{All-get_or}
use Rattle.std.proofs.lemmas.Option.{slice_get-map, slice_get_read}
use Rattle.lb_syntax.specs.Lists.{either_or}
use Rattle.lb_static.specs.CallGraphs.{name_in, names_at}
use Rattle.lb_static.specs.ReachedNodes.{trees}
use Rattle.lb_static.specs.ResolvedNodes.{node_of}
use Rattle.lb_static.proofs.check_recursion.cycle_calls.Goals as goal

pub loop-turn-preserved : goal.loop-turn-preserved
loop-turn-preserved c =
    let r = c.args.reached.now in
    let nodes = r.nodes.items in
    let cycle = c.args.cycle.now in
    let turn = c.loop-turn.turn in
    let place = get_or cycle turn 0 in
    let n = c.index-node.result.now in
    let below : place < length nodes =
    All-get_or (λ i. i < length nodes) cycle turn 0 c.loop-turn-test.true c.requires in
    let at : slice_get (trees r) place ≡ Some (node_of n) =
    slice_get-map node_of nodes place
    ∙ ap (option_map node_of) (slice_get_read nodes (length nodes) place n refl below
    c.index-node.ensures) in
    let named : name_in r place ≡ (node_of n).name =
    ap (λ o. either_or (option_map (λ m. m.name) o) []) at in
    let text : string_bytes c.in_ok-from_str.field-0 ≡ name_in r place =
    c.in_ok-from_str.ensures.ok ∙ c.as_str.ensures ∙ sym named in
    ap (map (λ k. string_bytes k.node)) c.in_ok-push.ensures.items
    ∙ map-append (λ k. string_bytes k.node) c.loop-turn.calls.items _
    ∙ ap (λ l. l ++ string_bytes c.in_ok-from_str.field-0 ∷ []) c.loop-turn.invariant
    ∙ ap (λ x. names_at r (take turn cycle) ++ x ∷ []) text
    ∙ sym (map-append (name_in r) (take turn cycle) (place ∷ []))
    ∙ ap (names_at r) (sym (take_more cycle turn 0 c.loop-turn-test.true))

pub returns : goal.returns
returns c =
    c.loop-turn.invariant
    ∙ ap (names_at c.args.reached.now)
    (take_all c.loop-turn.turn c.args.cycle.now c.loop-turn-test.false)
