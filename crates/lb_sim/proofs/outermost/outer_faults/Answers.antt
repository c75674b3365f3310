use Rattle.std.proofs.Common.{◌∙◌, sym, ap, ◌||◌, subst, ◌≡◌, true}
use Rattle.lb_check.specs.Verdicts.{is_bad}
use Rattle.lb_flat.specs.Judging.{some_in}
use Rattle.lb_flat.specs.Programs.{numbers_of}
use Rattle.lb_sim.specs.Showing.{row_at}
use Rattle.lb_sim.proofs.Watching.{some_among}
use Rattle.lb_sim.proofs.outermost.outer_faults.Goals as goal

pub returns-clause-faults : goal.returns-clause-faults
returns-clause-faults c s run on =
    let row = row_at s c.args.places.now in
    let seen = c.in_ok-plane.ensures.plane.means s run in
    let outer = numbers_of c.as_slice-outer.result.now in
    let some : some_in is_bad row outer ≡ true =
    sym (ap (λ b. b || some_in is_bad row outer) run.constants.nowhere) ∙ sym seen ∙ on in
    some_among is_bad row c.args.count c.in_ok-found.found.items c.in_ok-found.ensures.first
    (subst (λ is. some_in is_bad row (numbers_of is) ≡ true) c.as_slice-outer.ensures.value some)
