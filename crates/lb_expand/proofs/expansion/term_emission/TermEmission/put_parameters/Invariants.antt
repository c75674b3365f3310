use Rattle.lb_expand.proofs.Words.{◌≡◌, ◌-◌, ◌≤◌, gives, places_from, numbers_of, state_of}
use Rattle.lb_expand.proofs.Words.{emitted_of, onto}
use Rattle.lb_expand.proofs.expansion.term_emission.TermEmission.put_parameters.Given as goal

abbrev pub invariant-loop-x : goal.invariant-loop-x
invariant-loop-x g l =
    let ctx = g.F.Frame.context l.frame in
    record {
      emitted : emitted_of l.self
          ≡ onto (numbers_of l.fn.self.found.items)
          (gives (state_of l.fn.self) (places_from ctx l.first (l.x - l.first)));
      within : l.x - l.first ≤ l.end - l.first;
      next : l.self.next ≡ l.fn.self.next;
      clocks : l.self.clocks ≡ l.fn.self.clocks;
    }
