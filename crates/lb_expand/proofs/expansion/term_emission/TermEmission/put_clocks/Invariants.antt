use Rattle.lb_expand.proofs.Words.{◌≡◌, drop, gives, row_clocks, numbers_of, state_of, onto}
use Rattle.lb_expand.proofs.expansion.term_emission.TermEmission.put_clocks.Given as goal

abbrev pub invariant-loop-number : goal.invariant-loop-number
invariant-loop-number g l =
    let r = l.reached in
    let t = l.table in
    let cs = g.F.TableFrame.contexts l.fn.frame in
    let is = t.instances.items in
    record {
      rest : onto (numbers_of l.self.found.items)
          (gives (state_of l.self) (row_clocks r t cs l.number (drop l.number is)))
          ≡ onto (numbers_of l.fn.self.found.items)
          (gives (state_of l.fn.self) (row_clocks r t cs 0 is));
      next : l.self.next ≡ l.fn.self.next;
      clocks : l.self.clocks ≡ l.fn.self.clocks;
      rows : g.F.TableFrame.is_row l.frame ≡ g.F.TableFrame.is_row l.fn.frame;
      contexts : g.F.TableFrame.contexts l.frame ≡ cs;
      table : g.F.Frame.clocks l.frame ≡ g.F.Frame.clocks l.fn.frame;
      variables : g.F.Frame.variables l.frame ≡ g.F.Frame.variables l.fn.frame;
    }
