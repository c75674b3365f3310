use Rattle.lb_expand.proofs.Words.{◌≡◌, ◌≤◌, drop, Every, bodies, IsCounted, emit_rows, numbers_of}
use Rattle.lb_expand.proofs.Words.{state_of}
use Rattle.lb_expand.proofs.expansion.term_emission.TermEmission.rows.Given as goal

abbrev pub invariant-loop-number : goal.invariant-loop-number
invariant-loop-number g l =
    let cs = g.F.TableFrame.contexts l.fn.frame in
    let is = l.table.instances.items in
    record {
      rest : emit_rows (state_of l.self) (bodies l.reached l.table cs l.number (drop l.number is))
          ≡ emit_rows (state_of l.fn.self) (bodies l.reached l.table cs 0 is);
      counted : Every IsCounted (bodies l.reached l.table cs l.number (drop l.number is));
      next : l.fn.self.next ≤ l.self.next;
      found : numbers_of l.self.found.items ≡ numbers_of l.fn.self.found.items;
      clocks : l.self.clocks ≡ l.fn.self.clocks;
      rows : g.F.TableFrame.is_row l.frame ≡ g.F.TableFrame.is_row l.fn.frame;
      contexts : g.F.TableFrame.contexts l.frame ≡ cs;
      table : g.F.Frame.clocks l.frame ≡ g.F.Frame.clocks l.fn.frame;
      variables : g.F.Frame.variables l.frame ≡ g.F.Frame.variables l.fn.frame;
    }
