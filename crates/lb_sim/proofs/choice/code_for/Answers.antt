-- The steady code where the lanes suit it, and else the code that any lane suits.
use Rattle.std.proofs.Common.{◌<◌, All, sym, subst}
use Rattle.lb_machine.specs.declared.instruction.PlaneId.{PlaneId}
use Rattle.lb_sim.proofs.LanePrograms.{clear_within, set_within, suits_any}
use Rattle.lb_sim.proofs.choice.code_for.Goals as goal

pub is_usable-requires-clause-clear : goal.is_usable-requires-clause-clear
is_usable-requires-clause-clear c =
    let p = c.args.program.now in
    subst (λ n. All (λ (q : PlaneId). q.0 < n) p.steady.clear.items) (sym c.requires)
    (clear_within p p.steady p.steady_law)

pub is_usable-requires-clause-set : goal.is_usable-requires-clause-set
is_usable-requires-clause-set c =
    let p = c.args.program.now in
    subst (λ n. All (λ (q : PlaneId). q.0 < n) p.steady.set.items) (sym c.requires)
    (set_within p p.steady p.steady_law)

pub returns-then-is_usable-clause-law : goal.returns-then-is_usable-clause-law
returns-then-is_usable-clause-law c = c.args.program.now.steady_law

pub returns-then-is_usable-clause-suits : goal.returns-then-is_usable-clause-suits
returns-then-is_usable-clause-suits c = c.is_usable.ensures c.if-is_usable.true

pub returns-else-is_usable-clause-law : goal.returns-else-is_usable-clause-law
returns-else-is_usable-clause-law c = c.args.program.now.general_law

pub returns-else-is_usable-clause-suits : goal.returns-else-is_usable-clause-suits
returns-else-is_usable-clause-suits c words i l there =
    let p = c.args.program.now in
    suits_any p.general _ p.general_clear p.general_set
