use Rattle.lb_expand.proofs.Words.{◌≡◌, drop, numbers_of, state_of, with_asserted}
use Rattle.lb_expand.proofs.expansion.term_emission.TermEmission.assert_from.Given as goal

abbrev pub invariant-loop-i : goal.invariant-loop-i
invariant-loop-i l =
    let all = numbers_of l.fn.self.found.items in
    record {
      rest : with_asserted (state_of l.self) (drop l.i all)
          ≡ with_asserted (state_of l.fn.self) (drop l.from all);
      found : l.self.found ≡ l.fn.self.found;
      next : l.self.next ≡ l.fn.self.next;
      clocks : l.self.clocks ≡ l.fn.self.clocks;
    }
