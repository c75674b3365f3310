use Rattle.std.proofs.Common.{◌≡◌, ◌-◌, length, map}
use Rattle.lb_syntax.specs.Reading.{with_front, tail_at}
use Rattle.lb_syntax.proofs.list.tail.Given as goal

abbrev pub invariant-loop-turn : goal.invariant-loop-turn
invariant-loop-turn g l =
    with_front (map g.I.Items.view l.fn.found.items)
    (tail_at (g.I.Items.separator_at l.items) (g.I.Items.item_at l.items)
    (length l.tokens) l.tokens)
    ≡ with_front (map g.I.Items.view l.found.items)
    (tail_at (g.I.Items.separator_at l.items) (g.I.Items.item_at l.items) (l._turn-end - l._turn)
    l.rest)
