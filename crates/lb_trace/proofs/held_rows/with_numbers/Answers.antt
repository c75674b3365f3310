use Rattle.std.proofs.Common.{arith, drop, length-drop, refl, rules}
use Rattle.lb_trace.proofs.FrontRows.{front-numbers}
use Rattle.lb_trace.proofs.ShortCells.{integers-long}
use Rattle.lb_trace.proofs.held_rows.with_numbers.Goals as goal

pub put_four-requires : goal.put_four-requires
put_four-requires c =
    let front = c.args.front in
    omega (
      arith,
      integers-long (drop front.i c.args.columns.now) c.requires.integers,
      length-drop front.i c.args.columns.now,
      c.requires.front.parts.few,
      c.requires.room,
    )

pub returns-clause-front : goal.returns-clause-front
returns-clause-front c =
    let columns = c.args.columns.now in
    let front = c.args.front in
    let left = drop front.i columns in
    front-numbers columns left c.args.text.now front.rest.now c.in_ok-four.four.rest.now
    c.args.numbers.now c.put_four.new.cells c.in_ok-four.four.values front.i front.at front.truths
    front.bits c.requires.room c.requires.front refl c.requires.integers
    (omega (
      arith,
      integers-long left c.requires.integers,
      length-drop front.i columns,
    )) (search rules) c.put_four.ensures.front (c.in_ok-four.ensures left c.requires.integers)
