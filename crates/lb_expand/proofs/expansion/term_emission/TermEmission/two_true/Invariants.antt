use Rattle.lb_expand.proofs.Words.{◌≡◌, ◌<◌, ◌+◌, ◌*◌, drop, twice, state_of, numbers_of, clock_of}
use Rattle.lb_expand.proofs.expansion.term_emission.TermEmission.two_true.Given as goal

abbrev pub invariant-loop-i : goal.invariant-loop-i
invariant-loop-i l =
    let k = clock_of l.fn.self.clocks.items l.clock in
    let all = numbers_of l.fn.self.found.items in
    record {
      rest : twice k (state_of l.self) l.any.0 l.two.0 (drop l.i all)
          ≡ twice k (state_of l.fn.self) l.fn.no.0 l.fn.no.0 (drop l.from all);
      next : l.self.next + 3 * l.from ≡ l.fn.self.next + 3 * l.i;
      any : l.any.0 < l.self.next;
      two : l.two.0 < l.self.next;
      found : l.self.found ≡ l.fn.self.found;
      clocks : l.self.clocks ≡ l.fn.self.clocks;
    }
