use Rattle.lb_expand.proofs.Words.{◌≡◌, ◌≤◌, drop, length, range_with_len, copied, variable_targets}
use Rattle.lb_expand.proofs.Words.{parameter_targets, with_copies, numbers_of, state_of, flat_map}
use Rattle.lb_expand.proofs.expansion.term_emission.TermEmission.copy_parameters.Given as goal

abbrev pub invariant-loop-x : goal.invariant-loop-x
invariant-loop-x g l =
    let ctx = g.F.Frame.context l.frame in
    let all = numbers_of l.fn.self.found.items in
    record {
      rest : with_copies (state_of l.self)
          (copied (flat_map (variable_targets ctx) (drop l.x (range_with_len 0 l.inputs)))
          (drop l.at all))
          ≡ with_copies (state_of l.fn.self)
          (copied (parameter_targets ctx l.inputs) (drop l.from all));
      at : l.at ≤ length l.fn.self.found.items;
      found : l.self.found ≡ l.fn.self.found;
      next : l.self.next ≡ l.fn.self.next;
      clocks : l.self.clocks ≡ l.fn.self.clocks;
    }
