-- Each pass adds what serves for one variable.
use Rattle.lb_expand.proofs.Words.{◌≡◌, ◌∷◌, ◌++◌, [], length, map, take, ap, ◌∙◌, arith}
use Rattle.lb_expand.proofs.Words.{range_with_len, sources_of, serving_element}
use Rattle.lb_expand.proofs.clock_tables.AddedClocks.{item_added, front_taken}
use Rattle.lb_expand.proofs.clocks.push_serving.Goals as goal

pub loop-x-preserved : goal.loop-x-preserved
loop-x-preserved c =
    let l = c.loop-x in
    let from = sources_of c.args.checked.now c.args.layout.now in
    let before = c.args.serving.now.items in
    let f = serving_element from before c.args.row.0 c.args.origin in
    let count : c.len-before.result ≡ length c.args.serving.now.items =
    omega (arith, c.len-before.ensures) in
    item_added f before l.serving.items c.push.new.self.items l.x l.invariant
    (c.in_ok-push.ensures.items
    ∙ ap (λ k. l.serving.items ++ k ∷ [])
    (c.serving_element-element.ensures
    ∙ ap (λ known. serving_element from known c.args.row.0 c.args.origin l.x)
    (c.first_elements-known.ensures
    ∙ ap (take c.len-before.result) c.deref.ensures.value
    ∙ ap (λ n. take n l.serving.items) count
    ∙ front_taken before (map f (range_with_len 0 l.x)) l.serving.items l.invariant)))
