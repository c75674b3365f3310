use Rattle.lb_expand.proofs.Words.{◌≡◌, ◌≤◌, drop, first_place, emit_statements, place_of}
use Rattle.lb_expand.proofs.Words.{numbers_of, state_of}
use Rattle.lb_expand.proofs.expansion.term_emission.TermEmission.statements.Given as goal

abbrev pub invariant-loop-statement : goal.invariant-loop-statement
invariant-loop-statement g l =
    let ctx = g.F.Frame.context l.frame in
    record {
      rest : emit_statements ctx (place_of l.at) (state_of l.self)
          (drop l.statement-index l.statements)
          ≡ emit_statements ctx first_place (state_of l.fn.self) l.statements;
      next : l.fn.self.next ≤ l.self.next;
      found : numbers_of l.self.found.items ≡ numbers_of l.fn.self.found.items;
      clocks : l.self.clocks ≡ l.fn.self.clocks;
    }
