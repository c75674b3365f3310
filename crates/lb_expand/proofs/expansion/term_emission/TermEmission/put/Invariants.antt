use Rattle.lb_expand.proofs.Words.{◌≡◌, range_with_len, gives, numbers_of, state_of, emitted_of}
use Rattle.lb_expand.proofs.Words.{onto}
use Rattle.lb_expand.proofs.expansion.term_emission.TermEmission.put.Given as goal

abbrev pub invariant-loop-i : goal.invariant-loop-i
invariant-loop-i l =
    record {
      emitted : emitted_of l.self
          ≡ onto (numbers_of l.fn.self.found.items)
          (gives (state_of l.fn.self) (range_with_len l.elements.first l.i));
      next : l.self.next ≡ l.fn.self.next;
      clocks : l.self.clocks ≡ l.fn.self.clocks;
    }
