use Rattle.lb_expand.proofs.Words.{◌≡◌, range_with_len, gives, numbers_of, state_of, emitted_of}
use Rattle.lb_expand.proofs.Words.{onto, flat_map}
use Rattle.lb_expand.proofs.expansion.term_emission.TermEmission.put_each.Given as goal

abbrev pub invariant-loop-index : goal.invariant-loop-index
invariant-loop-index g l =
    let ctx = g.F.Frame.context l.frame in
    record {
      emitted : emitted_of l.self
          ≡ onto (numbers_of l.fn.self.found.items) (gives (state_of l.fn.self)
          (flat_map (λ i. ctx.child l.call i l.variable) (range_with_len 0 l.index)));
      next : l.self.next ≡ l.fn.self.next;
      clocks : l.self.clocks ≡ l.fn.self.clocks;
    }
