use Rattle.lb_expand.proofs.Words.{◌≡◌, ◌+◌, map, drop, emitted_of, unary_of, numbers_of, clock_of}
use Rattle.lb_expand.proofs.emission.EmittedStacks.{IsAdding}
use Rattle.lb_expand.proofs.expansion.term_emission.TermEmission.each.Given as goal

abbrev pub invariant-loop-i : goal.invariant-loop-i
invariant-loop-i l =
    let f = unary_of l.operator in
    let all = numbers_of l.fn.self.found.items in
    record {
      adding : IsAdding (clock_of l.fn.self.clocks.items l.clock) (emitted_of l.fn.self)
          (emitted_of l.self) (map f (drop l.i all)) (map f (drop l.from all));
      next : l.self.next + l.from ≡ l.fn.self.next + l.i;
      clocks : l.self.clocks ≡ l.fn.self.clocks;
    }
