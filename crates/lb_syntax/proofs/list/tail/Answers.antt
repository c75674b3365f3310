use Rattle.std.proofs.Common.{ℕ, suc, rules, arith, length, map, ◌≡◌, ◌-◌, ◌+◌, ◌∙◌, None}
use Rattle.std.proofs.lemmas.Grind.{common_steps}
use Rattle.lb_syntax.specs.Reading.{tail_at, with_front}
use Rattle.lb_syntax.specs.ListReading.{pushed}
use Rattle.lb_syntax.proofs.Fronts.{front_end, tail_fails, tail_turn}
use Rattle.lb_syntax.proofs.Turns.{one_more, no_more}
use Rattle.lb_syntax.proofs.list.tail.Goals as goal

pub returns-in-None : goal.returns-in-None
unfolding tail_at
returns-in-None g c =
    let front = map g.I.Items.view c.loop-turn.found.items in
    let turns = λ (n : ℕ). with_front front
    (tail_at (g.I.Items.separator_at c.args.items.now) (g.I.Items.item_at c.args.items.now) n
    c.loop-turn.rest.now) in
    let e = one_more turns (length c.args.tokens.now) c.loop-turn._turn c.loop-turn-test.true
    c.loop-turn.invariant in
    let f = front_end front c.loop-turn.rest.now in
    first_of (search rules, grind (arith, common_steps))

pub returns-in_err-rest-in-Some : goal.returns-in_err-rest-in-Some
unfolding tail_at
returns-in_err-rest-in-Some g c =
    let front = map g.I.Items.view c.loop-turn.found.items in
    let sep = g.I.Items.separator_at c.args.items.now in
    let item = g.I.Items.item_at c.args.items.now in
    let turns = λ (n : ℕ). with_front front (tail_at sep item n c.loop-turn.rest.now) in
    let e = one_more turns (length c.args.tokens.now) c.loop-turn._turn c.loop-turn-test.true
    c.loop-turn.invariant in
    let n = length c.args.tokens.now - (c.loop-turn._turn + 1) in
    let f : pushed front (item c.in-Some.next.now) ≡ None →
    with_front front (tail_at sep item (suc n) c.loop-turn.rest.now) ≡ None =
    tail_fails sep item n front c.loop-turn.rest.now c.in-Some.next.now (search rules) in
    first_of (search rules, grind (arith, common_steps))

pub loop-turn-preserved : goal.loop-turn-preserved
unfolding tail_at
loop-turn-preserved g c =
    let front = map g.I.Items.view c.loop-turn.found.items in
    let turns = λ (n : ℕ). with_front front
    (tail_at (g.I.Items.separator_at c.args.items.now) (g.I.Items.item_at c.args.items.now) n
    c.loop-turn.rest.now) in
    let e = one_more turns (length c.args.tokens.now) c.loop-turn._turn c.loop-turn-test.true
    c.loop-turn.invariant in
    let n = length c.args.tokens.now - (c.loop-turn._turn + 1) in
    e ∙ tail_turn (g.I.Items.separator_at c.args.items.now)
    (g.I.Items.item_at c.args.items.now) n front _ c.loop-turn.rest.now c.in-Some.next.now _
    (search rules) c.in_ok-rest-in-Some.ensures

pub returns : goal.returns
unfolding tail_at
returns g c =
    let front = map g.I.Items.view c.loop-turn.found.items in
    let turns = λ (n : ℕ). with_front front
    (tail_at (g.I.Items.separator_at c.args.items.now) (g.I.Items.item_at c.args.items.now) n
    c.loop-turn.rest.now) in
    let e = no_more turns (length c.args.tokens.now) c.loop-turn._turn c.loop-turn-test.false
    c.loop-turn.invariant in
    let f = front_end front c.loop-turn.rest.now in
    first_of (search rules, grind (arith, common_steps))
