use Rattle.std.proofs.Common.{rules, arith, map, ◌≡◌, None}
use Rattle.std.proofs.lemmas.Grind.{common_steps}
use Rattle.lb_syntax.specs.ListReading.{pushed}
use Rattle.lb_syntax.specs.Reading.{list_at, with_front}
use Rattle.lb_syntax.proofs.Fronts.{list_fails, list_turn}
use Rattle.lb_syntax.proofs.list.list_onto.Goals as goal

pub returns-in_err-rest : goal.returns-in_err-rest
returns-in_err-rest g c =
    let front = map g.I.Items.view c.args.found.now.items in
    let sep = g.I.Items.separator_at c.args.items.now in
    let item = g.I.Items.item_at c.args.items.now in
    let f : pushed front (item c.args.tokens.now) ≡ None →
    with_front front (list_at sep item c.args.tokens.now) ≡ None =
    list_fails sep item front c.args.tokens.now in
    first_of (search rules, grind (arith, common_steps))

pub returns : goal.returns
returns g c =
    rw (list_turn (g.I.Items.separator_at c.args.items.now) (g.I.Items.item_at c.args.items.now)
    (map g.I.Items.view c.args.found.now.items) _ c.args.tokens.now c.in_ok-rest.rest.now
    c.in_ok-rest.ensures) c.tail.ensures
