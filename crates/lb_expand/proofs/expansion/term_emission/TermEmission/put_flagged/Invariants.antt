use Rattle.lb_expand.proofs.Words.{◌≡◌, flagged_below, gives, numbers_of, state_of, emitted_of}
use Rattle.lb_expand.proofs.Words.{onto, flat_map}
use Rattle.lb_expand.proofs.expansion.term_emission.TermEmission.put_flagged.Given as goal

abbrev pub invariant-loop-x : goal.invariant-loop-x
invariant-loop-x g l =
    let places = (g.F.Frame.context l.frame).places in
    record {
      emitted : emitted_of l.self
          ≡ onto (numbers_of l.fn.self.found.items)
          (gives (state_of l.fn.self) (flat_map places (flagged_below l.flags l.x)));
      next : l.self.next ≡ l.fn.self.next;
      clocks : l.self.clocks ≡ l.fn.self.clocks;
    }
