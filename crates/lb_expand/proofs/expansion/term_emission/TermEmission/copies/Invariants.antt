use Rattle.lb_expand.proofs.Words.{◌≡◌, ◌≤◌, drop, length, copies, gives, numbers_of, state_of}
use Rattle.lb_expand.proofs.Words.{emitted_of, onto}
use Rattle.lb_expand.proofs.expansion.term_emission.TermEmission.copies.Given as goal

abbrev pub invariant-loop-i : goal.invariant-loop-i
invariant-loop-i l =
    let all = numbers_of l.fn.self.found.items in
    record {
      emitted : emitted_of l.self
          ≡ onto all (gives (state_of l.fn.self) (copies l.i (drop l.from all)));
      length : length l.fn.self.found.items ≤ length l.self.found.items;
      next : l.self.next ≡ l.fn.self.next;
      clocks : l.self.clocks ≡ l.fn.self.clocks;
    }
