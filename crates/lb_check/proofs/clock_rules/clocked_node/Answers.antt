use Rattle.lb_check.proofs.Words.{None, Some, ap, cond, is_resolved_statement_clocked, or_else}
use Rattle.lb_check.proofs.Words.{placed_statement, source_names, subst, sym, ◌∙◌}
use Rattle.lb_check.proofs.clocking.{WalkedClocks.{flat_end, flat_more}, WholeClocks.distinct_at}
use Rattle.lb_check.proofs.clocking.WholeClocks.{part_found, resolved_at}
use Rattle.lb_check.proofs.lists.ListPairs.{broken_end, broken_next}
use Rattle.lb_check.specs.{FoundParts.IsClockedPart, PlacedClocks.found_in, StoredClocks.context_in}
use Rattle.lb_check.proofs.clock_rules.clocked_node.Goals as goal

pub loop-j-preserved : goal.loop-j-preserved
loop-j-preserved c =
    let ctx = context_in c.args.env.now in
    let l = c.loop-j in
    let items = c.deref-statement-items.result.now in
    let statement = c.statement-item.result in
    let next = c.first_so_far-statement_place in
    record {
      first = broken_next (is_resolved_statement_clocked ctx) _ l.statement_place next.result items
          l.j statement l.invariant.first c.loop-j-test.true c.statement-item.is
          (next.ensures
          ∙ ap (λ b. or_else l.statement_place (cond b None (Some l.j))) c.in_ok-kept.ensures.kept);
      placed = flat_more (placed_statement ctx) _ (found_in l.clocks) items l.j l.invariant.placed
          (found_in c.place_statement.new.placed) statement c.loop-j-test.true
          c.statement-item.is c.in_ok-kept.ensures.placed;
    }

pub returns-clause-part : goal.returns-clause-part
returns-clause-part c P id names reached at =
    let r = c.args.env.now.reached.now in
    let n = c.args.env.now.node.now in
    let l = c.loop-j in
    subst (IsClockedPart r id) (sym c.first_part.ensures)
    (part_found r id n at c.in_ok-declared.declared l.statement_place
    (c.in_ok-declared.ensures (source_names P) (resolved_at P r names reached id.0 n at)
    (distinct_at P r names reached id.0 n at))
    (broken_end (is_resolved_statement_clocked (context_in c.args.env.now)) _ l.statement_place
    c.deref-statement-items.result.now l.j l.invariant.first c.loop-j-test.false))

pub returns-clause-placed : goal.returns-clause-placed
returns-clause-placed c =
    let l = c.loop-j in
    sym (flat_end (placed_statement (context_in c.args.env.now)) _ (found_in l.clocks)
    c.deref-statement-items.result.now l.j l.invariant.placed c.loop-j-test.false)
