use Rattle.lb_expand.proofs.Words.{◌≡◌, drop, numbers_of, emitted_of, with_kept}
use Rattle.lb_expand.specs.TermEmissions.{kept}
use Rattle.lb_expand.proofs.expansion.term_emission.TermEmission.keep.Given as goal

abbrev pub invariant-loop-i : goal.invariant-loop-i
invariant-loop-i l =
    let all = numbers_of l.fn.self.found.items in
    record {
      rest : with_kept (emitted_of l.self) (drop l.i all) ≡ kept l.from (emitted_of l.fn.self);
      found : l.self.found ≡ l.fn.self.found;
      next : l.self.next ≡ l.fn.self.next;
      clocks : l.self.clocks ≡ l.fn.self.clocks;
    }
