use Rattle.lb_expand.proofs.Words.{clock_of, drop, emitted_of, numbers_of, pair_of, slice_range}
use Rattle.lb_expand.proofs.{Words.{zip2, ◌+◌, ◌≡◌}, emission.EmittedStacks.IsAdding}
use Rattle.lb_expand.proofs.expansion.term_emission.TermEmission.pairs.Given as goal

abbrev pub invariant-loop-i : goal.invariant-loop-i
invariant-loop-i l =
    let f = pair_of l.operator in
    let all = numbers_of l.fn.self.found.items in
    let xs = slice_range all l.from l.middle in
    let ys = drop l.middle all in
    record {
      adding : IsAdding (clock_of l.fn.self.clocks.items l.clock) (emitted_of l.fn.self)
          (emitted_of l.self) (zip2 f (drop l.i xs) (drop l.i ys)) (zip2 f xs ys);
      next : l.self.next ≡ l.fn.self.next + l.i;
      clocks : l.self.clocks ≡ l.fn.self.clocks;
    }
