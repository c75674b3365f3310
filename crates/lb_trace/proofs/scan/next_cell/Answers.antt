use Rattle.std.proofs.Common.{refl}
use Rattle.lb_trace.proofs.FirstCells.{first-after, first-all, first-ended, first-record}
use Rattle.lb_trace.proofs.FirstCells.{walked-more}
use Rattle.lb_trace.proofs.scan.next_cell.Goals as goal

pub returns-in-Some : goal.returns-in-Some
returns-in-Some c =
    let first = first-ended _ _ _ _ c.loop-i-test.true refl c.in-Some.ensures c.loop-i.invariant in
    record {
      cells = first-record _ _ _ _ first;
      after = first-after _ _ _ _ first;
      bytes = first.same_bytes;
      rest = first.same_rest;
      last = first.same_last;
    }

pub loop-i-preserved : goal.loop-i-preserved
loop-i-preserved c = walked-more _ _ _ c.loop-i-test.true refl
    c.in_default.ensures c.loop-i.invariant

pub returns : goal.returns
returns c =
    let first = first-all c.args.text.now c.loop-i.i c.loop-i-test.false c.loop-i.invariant in
    record {
      cells = first-record _ _ _ _ first;
      after = first-after _ _ _ _ first;
      bytes = first.same_bytes;
      rest = first.same_rest;
      last = first.same_last;
    }
