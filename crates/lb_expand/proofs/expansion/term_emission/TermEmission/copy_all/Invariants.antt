use Rattle.lb_expand.proofs.Words.{◌≡◌, drop, range_with_len, index_copies, with_copies, numbers_of}
use Rattle.lb_expand.proofs.Words.{state_of, flat_map}
use Rattle.lb_expand.proofs.expansion.term_emission.TermEmission.copy_all.Given as goal

abbrev pub invariant-loop-index : goal.invariant-loop-index
invariant-loop-index g l =
    let ctx = g.F.Frame.context l.frame in
    let m = ctx.repeats l.call in
    let all = numbers_of l.fn.self.found.items in
    let f = index_copies ctx l.call m l.fn.iterator l.callee (drop l.from all) in
    record {
      rest : with_copies (state_of l.self) (flat_map f (drop l.index (range_with_len 0 m)))
          ≡ with_copies (state_of l.fn.self) (flat_map f (range_with_len 0 m));
      found : l.self.found ≡ l.fn.self.found;
      next : l.self.next ≡ l.fn.self.next;
      clocks : l.self.clocks ≡ l.fn.self.clocks;
    }
