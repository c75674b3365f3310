-- The buffer holds the verdicts that the queue has put there.
use Rattle.std.proofs.Common.{◌≡◌, List, length, drop, vec_len, sym, ap, ◌∙◌, subst, arith, rules}
use Rattle.std.proofs.lemmas.List.{take_at}
use Rattle.lb_check.specs.declared.verdict.Verdict.{Verdict}
use Rattle.lb_flat.specs.Programs.{program_of}
use Rattle.lb_sim.specs.Correct.{HaveVerdicts}
use Rattle.lb_pool.proofs.batch.run_members.Goals as goal

pub push_judged-requires-clause-found : goal.push_judged-requires-clause-found
push_judged-requires-clause-found c =
    let work = c.args.work.now in
    let new = c.run_queue_in-done.new.verdicts in
    let whole = c.resize.new.self in
    let old = c.as_mut_slice.result.now in
    let items : length whole.items ≡ vec_len whole = search rules in
    let long : length old ≡ length whole.items = ap length c.as_mut_slice.ensures.value in
    let size : length new ≡ whole.len =
    omega (arith, c.run_queue_in-done.ensures.verdicts, long, items) in
    let same : c.as_slice.result.now ≡ new =
    c.as_slice.ensures.value ∙ take_at new (drop (length new) whole.items) whole.len size in
    subst (λ (verdicts : List Verdict). HaveVerdicts (program_of work.program.now.program.now)
    work.set.now c.args.members.now verdicts) (sym same) c.run_queue_in-done.ensures.judged
