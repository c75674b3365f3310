use Rattle.lb_expand.proofs.Words.{◌≡◌, drop, copied, elements_of, targets_of, with_copies}
use Rattle.lb_expand.proofs.Words.{numbers_of, state_of, clock_of}
use Rattle.lb_expand.proofs.expansion.term_emission.TermEmission.copy.Given as goal

abbrev pub invariant-loop-i : goal.invariant-loop-i
invariant-loop-i l =
    let k = clock_of l.fn.self.clocks.items l.clock in
    let ts = targets_of k (elements_of l.targets) in
    let js = drop l.from (numbers_of l.fn.self.found.items) in
    record {
      rest : with_copies (state_of l.self) (copied (drop l.i ts) (drop l.i js))
          ≡ with_copies (state_of l.fn.self) (copied ts js);
      found : l.self.found ≡ l.fn.self.found;
      next : l.self.next ≡ l.fn.self.next;
      clocks : l.self.clocks ≡ l.fn.self.clocks;
    }
