use Rattle.lb_expand.proofs.Words.{◌≡◌, ◌≤◌, ◌-◌, drop, length, range_with_len, part_copies}
use Rattle.lb_expand.proofs.Words.{with_copies, numbers_of, state_of}
use Rattle.lb_expand.proofs.expansion.term_emission.TermEmission.copy_parts.Given as goal

abbrev pub invariant-loop-x : goal.invariant-loop-x
invariant-loop-x g l =
    let ctx = g.F.Frame.context l.frame in
    let m = ctx.repeats l.call in
    let all = numbers_of l.fn.self.found.items in
    let xs = range_with_len l.first (l.inputs - l.first) in
    record {
      rest : with_copies (state_of l.self)
          (part_copies ctx l.call m l.index (drop (l.x - l.first) xs) (drop l.at all))
          ≡ with_copies (state_of l.fn.self)
          (part_copies ctx l.call m l.index xs (drop l.from all));
      at : l.at ≤ length l.fn.self.found.items;
      found : l.self.found ≡ l.fn.self.found;
      next : l.self.next ≡ l.fn.self.next;
      clocks : l.self.clocks ≡ l.fn.self.clocks;
    }
