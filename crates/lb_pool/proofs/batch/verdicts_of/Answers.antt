-- Each trace has been judged, so all verdicts stand in their places.
use Rattle.std.proofs.Common.{◌≡◌, length, drop, vec_len, sym, ap, ◌∙◌, subst, arith, rules}
use Rattle.std.proofs.lemmas.List.{take_at}
use Rattle.lb_pool.specs.Correct.{AreVerdicts}
use Rattle.lb_pool.proofs.Placed.{all_placed}
use Rattle.lb_pool.proofs.batch.verdicts_of.Goals as goal

pub returns : goal.returns
returns c =
    let work = c.args.work.now in
    let p = work.program.now.program.now in
    let r = work.set.now in
    let verdicts = c.in_ok-verdicts.verdicts in
    let old = c.as_mut_slice.result.now in
    let new = c.place.new.verdicts in
    let items : length verdicts.items ≡ vec_len verdicts = search rules in
    let count : length verdicts.items ≡ length r.traces =
    omega (arith, items, c.in_ok-verdicts.ensures.len, c.len.ensures.count) in
    let long : length old ≡ length r.traces = ap length c.as_mut_slice.ensures.value ∙ count in
    let right : AreVerdicts p r new =
    subst (AreVerdicts p r) (sym c.place.ensures)
    (all_placed p r old c.args.judged.now long c.requires.judged c.requires.each) in
    let size : length new ≡ verdicts.len = omega (arith, right.count, count, items) in
    subst (AreVerdicts p r) (sym (take_at new (drop (length new) verdicts.items) verdicts.len size))
    right
