use Rattle.lb_expand.proofs.Words.{◌<◌, length, arith, sym, ap, ◌∙◌, start_in, option_map}
use Rattle.lb_expand.proofs.emission.EmittedCalls.{start_passed, start_here, start_end}
use Rattle.lb_expand.proofs.expansion.whole_emission.start_in.Goals as goal

pub loop-row-preserved : goal.loop-row-preserved
loop-row-preserved c =
    let l = c.loop-row in
    let r = c.args.reached.now in
    let t = c.args.table.now in
    let b = c.args.observer in
    let is = t.instances.items in
    let i = c.index.result.now in
    let lt : l.row < length is =
    omega (arith, c.loop-row-test.true, l.auto.row-end, c.len-row-end.ensures) in
    start_passed r t b is l.row i i (start_in r t b) lt c.index.ensures
    (sym c.is_start.ensures ∙ c.if-is_start.false) l.invariant

pub returns-in-Some : goal.returns-in-Some
returns-in-Some c =
    let l = c.loop-row in
    let lt : l.row < length c.args.table.now.instances.items =
    omega (arith, c.loop-row-test.true, l.auto.row-end, c.len-row-end.ensures) in
    let found = sym c.node_at.ensures ∙ ap (option_map (λ n. n.now)) c.in-Some.is in
    start_here _ _ _ _ _ _ _ _ _ lt c.index.ensures (sym c.is_start.ensures ∙ c.if-is_start.true)
    found l.invariant

pub returns-in-None : goal.returns-in-None
returns-in-None c =
    let l = c.loop-row in
    let lt : l.row < length c.args.table.now.instances.items =
    omega (arith, c.loop-row-test.true, l.auto.row-end, c.len-row-end.ensures) in
    let none = sym c.node_at.ensures ∙ ap (option_map (λ n. n.now)) c.in-None.is in
    start_here _ _ _ _ _ _ _ _ _ lt c.index.ensures (sym c.is_start.ensures ∙ c.if-is_start.true)
    none l.invariant

pub returns : goal.returns
returns c =
    let l = c.loop-row in
    start_end _ _ _ _ _ _ (omega
    (arith, c.loop-row-test.false, l.auto.row-end, c.len-row-end.ensures)) l.invariant
