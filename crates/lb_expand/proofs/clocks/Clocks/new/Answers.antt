-- The clocks that are filled are the table of clocks of the program, and in range.
use Rattle.lb_expand.proofs.Words.{AreClocks, all_clocks, all_runs, rules, sources_of, subst, sym}
use Rattle.lb_expand.proofs.{Words.◌≡◌, clock_tables.ClockEntries.filled_within}
use Rattle.lb_expand.proofs.frames.FramedRows.{clocks_filled}
use Rattle.lb_expand.proofs.clocks.Clocks.new.Goals as goal

pub returns-clause-lawful : goal.returns-clause-lawful
returns-clause-lawful c laid =
    let clocks : c.in_ok-table.table.items
    ≡ all_clocks (sources_of c.args.checked.now c.args.layout.now) = search rules in
    let runs : c.in_ok-runs.runs.items
    ≡ all_runs (sources_of c.args.checked.now c.args.layout.now) = search rules in
    clocks_filled c.args.checked.now c.elab-elab.ensures.lawful c.args.layout.now laid
    c.in_ok-table.table.items c.in_ok-runs.runs.items clocks runs

pub returns-clause-within : goal.returns-clause-within
returns-clause-within c laid =
    let clocks : c.in_ok-table.table.items
    ≡ all_clocks (sources_of c.args.checked.now c.args.layout.now) = search rules in
    subst (AreClocks c.args.layout.now.count) (sym clocks)
    (filled_within c.args.checked.now c.elab-elab.ensures.lawful c.args.layout.now laid)
