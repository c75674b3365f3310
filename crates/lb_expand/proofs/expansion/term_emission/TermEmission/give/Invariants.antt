use Rattle.lb_expand.proofs.Words.{◌≡◌, range_with_len, from_inputs, targets_of, with_copies}
use Rattle.lb_expand.proofs.Words.{state_of, clock_of}
use Rattle.lb_expand.proofs.expansion.term_emission.TermEmission.give.Given as goal

abbrev pub invariant-loop-i : goal.invariant-loop-i
invariant-loop-i l =
    let k = clock_of l.fn.self.clocks.items l.clock in
    record {
      state : state_of l.self
          ≡ with_copies (state_of l.fn.self)
          (from_inputs l.input (targets_of k (range_with_len l.targets.first l.i)));
      found : l.self.found ≡ l.fn.self.found;
      next : l.self.next ≡ l.fn.self.next;
      clocks : l.self.clocks ≡ l.fn.self.clocks;
    }
