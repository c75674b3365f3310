use Rattle.lb_expand.proofs.Words.{◌≡◌, ◌≤◌, drop, length, range_with_len, copied, input_targets}
use Rattle.lb_expand.proofs.Words.{with_copies, numbers_of, state_of, flat_map}
use Rattle.lb_expand.proofs.expansion.term_emission.TermEmission.copy_inputs.Given as goal

abbrev pub invariant-loop-x : goal.invariant-loop-x
invariant-loop-x g l =
    let f = input_targets (g.F.Frame.context l.frame) l.call 0 in
    let all = numbers_of l.fn.self.found.items in
    record {
      rest : with_copies (state_of l.self)
          (copied (flat_map f (drop l.x (range_with_len 0 l.inputs))) (drop l.at all))
          ≡ with_copies (state_of l.fn.self)
          (copied (flat_map f (range_with_len 0 l.inputs)) (drop l.from all));
      at : l.at ≤ length l.fn.self.found.items;
      found : l.self.found ≡ l.fn.self.found;
      next : l.self.next ≡ l.fn.self.next;
      clocks : l.self.clocks ≡ l.fn.self.clocks;
    }
