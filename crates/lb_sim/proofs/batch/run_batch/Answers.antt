-- The verdicts of the batch are those that the lanes have put.
use Rattle.std.proofs.Common.{length, sym, ap, ◌∙◌, subst, arith, rules}
use Rattle.std.proofs.lemmas.List.{with_items_is, places}
use Rattle.lb_flat.specs.Programs.{program_of}
use Rattle.lb_sim.specs.Correct.{HaveVerdicts}
use Rattle.lb_sim.proofs.batch.run_batch.Goals as goal

pub returns-clause-count : goal.returns-clause-count
returns-clause-count c =
    let same = with_items_is c.in_ok-verdicts.verdicts c.run_queue_in.new.verdicts
    (search (rules, places)) in
    ap length same
    ∙ omega (
      arith,
      c.run_queue_in.ensures.verdicts,
      c.as_mut_slice.ensures.len,
      c.in_ok-verdicts.ensures.len,
    )

pub returns-clause-verdicts : goal.returns-clause-verdicts
returns-clause-verdicts c =
    let same = with_items_is c.in_ok-verdicts.verdicts c.run_queue_in.new.verdicts
    (search (rules, places)) in
    subst
    (λ vs.
    HaveVerdicts (program_of c.args.program.now.program.now) c.args.set.now c.args.members.now vs)
    (sym same) c.run_queue_in.ensures.judged
