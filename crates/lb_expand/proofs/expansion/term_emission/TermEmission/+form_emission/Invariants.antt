use Rattle.lb_expand.proofs.Words.{drop, emit_list, emitted_of, numbers_of, place_of, stacked}
use Rattle.lb_expand.proofs.{Words.{state_of, ◌≡◌, ◌≤◌}, emission.EmittedWalks.listed_onto}
use Rattle.lb_expand.proofs.expansion.term_emission.TermEmission.+form_emission.Given as goal

abbrev pub invariant-emit_all-loop-term : goal.invariant-emit_all-loop-term
invariant-emit_all-loop-term g l =
    let ctx = g.F.Frame.context l.frame in
    record {
      rest : listed_onto ctx (place_of l.to) (emitted_of l.self) (drop l.term-index l.terms)
          ≡ stacked (numbers_of l.fn.self.found.items)
          (emit_list ctx (place_of l.fn.at) (state_of l.fn.self) l.terms);
      next : l.fn.self.next ≤ l.self.next;
      clocks : l.self.clocks ≡ l.fn.self.clocks;
    }
