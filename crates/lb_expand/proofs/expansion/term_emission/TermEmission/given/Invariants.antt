use Rattle.lb_expand.proofs.Words.{◌≡◌, length, from_inputs, parameter_targets, with_copies}
use Rattle.lb_expand.proofs.Words.{state_of}
use Rattle.lb_expand.proofs.expansion.term_emission.TermEmission.given.Given as goal

abbrev pub invariant-loop-x : goal.invariant-loop-x
invariant-loop-x g l =
    let ts = parameter_targets (g.F.Frame.context l.frame) l.x in
    record {
      state : state_of l.self ≡ with_copies (state_of l.fn.self) (from_inputs 0 ts);
      number : l.input ≡ length ts;
      found : l.self.found ≡ l.fn.self.found;
      next : l.self.next ≡ l.fn.self.next;
      clocks : l.self.clocks ≡ l.fn.self.clocks;
    }
