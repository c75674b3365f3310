use Rattle.lb_expand.proofs.Words.{◌≡◌, ◌<◌, ◌+◌, drop, chained, state_of, numbers_of, clock_of}
use Rattle.lb_expand.proofs.expansion.term_emission.TermEmission.chain.Given as goal

abbrev pub invariant-loop-i : goal.invariant-loop-i
invariant-loop-i l =
    let k = clock_of l.fn.self.clocks.items l.clock in
    let all = numbers_of l.fn.self.found.items in
    record {
      rest : chained k l.operator (state_of l.self) l.last.0 (drop l.i all)
          ≡ chained k l.operator (state_of l.fn.self) l.fn.init.0 (drop l.from all);
      next : l.self.next + l.from ≡ l.fn.self.next + l.i;
      last : l.last.0 < l.self.next;
      found : l.self.found ≡ l.fn.self.found;
      clocks : l.self.clocks ≡ l.fn.self.clocks;
    }
