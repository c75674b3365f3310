use Rattle.lb_expand.proofs.Words.{◌≡◌, ◌≤◌, drop, length, copied, left_targets, with_copies}
use Rattle.lb_expand.proofs.Words.{numbers_of, state_of, flat_map}
use Rattle.lb_expand.proofs.expansion.term_emission.TermEmission.copy_lefts.Given as goal

abbrev pub invariant-loop-x : goal.invariant-loop-x
invariant-loop-x g l =
    let f = left_targets (g.F.Frame.context l.frame) in
    let all = numbers_of l.fn.self.found.items in
    record {
      rest : with_copies (state_of l.self)
          (copied (flat_map f (drop l.x-index l.lefts)) (drop l.at all))
          ≡ with_copies (state_of l.fn.self) (copied (flat_map f l.lefts) (drop l.from all));
      at : l.at ≤ length l.fn.self.found.items;
      found : l.self.found ≡ l.fn.self.found;
      next : l.self.next ≡ l.fn.self.next;
      clocks : l.self.clocks ≡ l.fn.self.clocks;
    }
