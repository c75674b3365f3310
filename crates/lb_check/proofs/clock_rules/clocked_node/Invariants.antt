use Rattle.lb_check.proofs.Words.{◌≡◌, drop, flat_map, first_broken, is_resolved_statement_clocked}
use Rattle.lb_check.proofs.Words.{node_terms, nothing_found, or_else, placed_statement, with_terms}
use Rattle.lb_check.specs.{PlacedClocks.found_in, StoredClocks.context_in}
use Rattle.lb_check.proofs.lists.ListPairs.{broken_from}
use Rattle.lb_check.proofs.clock_rules.clocked_node.Given as goal

abbrev pub invariant-loop-j : goal.invariant-loop-j
invariant-loop-j l =
    let ctx = context_in l.env in
    let rest = drop l.j l.statement-items in
    record {
      first :
          first_broken (is_resolved_statement_clocked ctx) l.env.node.now.body.items
          ≡ or_else l.statement_place (broken_from (is_resolved_statement_clocked ctx) l.j rest);
      placed :
          with_terms nothing_found (node_terms l.env.reached.now l.env.node.now)
          ≡ with_terms (found_in l.clocks) (flat_map (placed_statement ctx) rest);
    }
