use Rattle.lb_check.proofs.Words.{◌≡◌, drop, flat_map, take, first_broken, context_in, found_in}
use Rattle.lb_check.proofs.Words.{kept_in, is_resolved_statement_typed, statement_types}
use Rattle.lb_check.{specs.PlacedTypes.AreKept, proofs.lists.ListPairs.broken_from}
use Rattle.lb_check.proofs.judged_types.first_ill_typed_statement.Given as goal

abbrev pub invariant-loop-j : goal.invariant-loop-j
invariant-loop-j l =
    let ctx = context_in l.env in
    let typed = is_resolved_statement_typed ctx in
    let all = l.statement-items in
    record {
      first : first_broken typed all ≡ broken_from typed l.j (drop l.j all);
      kept :
          AreKept (flat_map (statement_types ctx) (take l.j all)) (kept_in l.fn.parts)
          (kept_in l.parts) (found_in l.fn.found) (found_in l.found);
    }
