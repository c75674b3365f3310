-- The node that is found is the node at the place.
use Rattle.std.proofs.Common.{◌≡◌, ◌+◌, ◌<◌, true, false, cond, Some, length, map, drop, get_or}
use Rattle.std.proofs.Common.{ap, sym, ◌∙◌, rules}
use Rattle.std.specs.Str.{bytes_eq}
use Rattle.lb_syntax.specs.SourceView.{view_node}
use Rattle.lb_static.specs.SourceNames.{node_in_source}
use Rattle.lb_static.specs.StaticValues.{named}
use Rattle.lb_static.proofs.CalledNodes.{found_here}
use Rattle.lb_static.proofs.Lists.{map_next}
use Rattle.lb_static.proofs.resolve_reachable.place_named.Goals as goal

pub returns-then-eq : goal.returns-then-eq
returns-then-eq c =
    let items = c.args.source.now.nodes.items in
    let x = c.args.name.now in
    let below : c.loop-place.place < length items = search rules in
    let same : bytes_eq (get_or items c.loop-place.place c.index.result.now).name x ≡ true =
    ap (λ n. bytes_eq n.name x) (sym c.index.ensures)
    ∙ ap (λ n. bytes_eq n x) (sym c.as_str.ensures) ∙ sym c.if-eq.ensures in (
      below,
      found_here x items c.loop-place.place c.index.result.now
          (node_in_source c.args.source.now x) below c.loop-place.invariant same,
    )

pub loop-place-preserved : goal.loop-place-preserved
loop-place-preserved c =
    let items = c.args.source.now.nodes.items in
    let x = c.args.name.now in
    let n = c.index.result.now in
    let below : c.loop-place.place < length items = search rules in
    let rest = map view_node (drop (c.loop-place.place + 1) items) in
    let other : bytes_eq (get_or items c.loop-place.place n).name x ≡ false =
    ap (λ n. bytes_eq n.name x) (sym c.index.ensures)
    ∙ ap (λ n. bytes_eq n x) (sym c.as_str.ensures) ∙ sym c.if-eq.ensures in
    c.loop-place.invariant
    ∙ ap (named (λ n. n.name) x) (map_next view_node items c.loop-place.place n below)
    ∙ ap (λ b. cond b (Some (view_node (get_or items c.loop-place.place n)))
    (named (λ n. n.name) x rest)) other
