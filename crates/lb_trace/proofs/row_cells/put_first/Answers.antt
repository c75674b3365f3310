-- The cells are written one after the other.
use Rattle.std.proofs.Common.{◌≡◌, ◌∙◌, arith, get_or, length, pos, rules, sym, w32}
use Rattle.std.proofs.lemmas.Int.{to_z-of_z}
use Rattle.lb_trace.proofs.WrittenCells.{all-written, first-more}
use Rattle.lb_trace.proofs.row_cells.put_first.Goals as goal

pub loop-i-preserved : goal.loop-i-preserved
loop-i-preserved c =
    let vs = c.args.values in
    let size : length vs ≡ 4 = search rules in
    record {
      front =
          first-more vs c.loop-i.cells c.put_one.new.cells c.loop-i.i _
          (omega (arith, size, c.requires, c.loop-i-test.true))
          (to_z-of_z w32 (get_or vs c.loop-i.i (pos 0)) (search rules))
          c.loop-i.invariant.front c.put_one.ensures.front;
      long = c.put_one.ensures.long ∙ c.loop-i.invariant.long;
    }

pub returns : goal.returns
returns c =
    all-written _ _ _ c.loop-i.i c.loop-i.invariant.long (omega arith) c.loop-i.invariant.front
