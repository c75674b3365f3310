-- One word more in each turn.
use Rattle.std.proofs.Common.{arith}
use Rattle.lb_traces.proofs.PackedRows.{pushing_none, pushing_more, pushing_all}
use Rattle.lb_traces.proofs.traces.push_words.Goals as goal

pub loop-g-init : goal.loop-g-init
loop-g-init c = record {
  pushed = pushing_none c.args.words.now.items c.args.row.now c.args.columns.now;
  room = omega (arith, c.requires.room);
}

pub loop-g-preserved : goal.loop-g-preserved
loop-g-preserved c = record {
  pushed =
      pushing_more _ _ _ _ _ _ _ c.loop-g.invariant.pushed c.push_reserved.ensures.items
      c.packed.ensures;
  room =
      omega (
        arith,
        c.loop-g.invariant.room,
        c.loop-g-test.true,
        c.words_of_row-g-end.ensures,
        c.push_reserved.ensures.len,
        c.push_reserved.ensures.capacity,
      );
}

pub push_reserved-requires : goal.push_reserved-requires
push_reserved-requires c =
    omega (arith, c.loop-g.invariant.room, c.loop-g-test.true, c.words_of_row-g-end.ensures)

pub returns : goal.returns
returns c =
    pushing_all _ _ _ _ _ c.loop-g.invariant.pushed
    (omega (arith, c.loop-g-test.false, c.words_of_row-g-end.ensures))
