use Rattle.lb_flat.proofs.Words.{◌<◌, refl, subst, sym, length-set, get_or}
use Rattle.lb_flat.proofs.runs.Steps.{places_there, commit_step, within_step, all_committed}
use Rattle.lb_flat.proofs.instant.commit.Goals as goal

pub loop-i-init : goal.loop-i-init
loop-i-init c = record {
  there = places_there _ _ _ c.requires.places;
  within = c.requires.within;
  moved = record { rest = refl };
}

pub loop-i-preserved : goal.loop-i-preserved
loop-i-preserved c =
    let h = c.loop-i.invariant in
    let there = h.there c.loop-i.i 0 c.loop-i-test.true in
    let first = c.args.steps.now in
    let places = c.args.memories.now in
    record {
      there = λ k d lt.
          subst (λ n. get_or places k d < n) (sym (length-set c.loop-i.steps _ _)) (h.there k d lt);
      within =
          within_step c.args.clocks.now c.args.row.now c.loop-i.steps _ _ _ there
          c.remember.ensures _ h.within;
      moved =
          commit_step c.args.clocks.now c.args.row.now c.loop-i.steps _ _ _ there
          c.remember.ensures first places c.loop-i.i c.loop-i-test.true refl h.moved;
    }

pub returns-clause-memories : goal.returns-clause-memories
returns-clause-memories c =
    all_committed _ _ _ _ _ _ c.requires.places c.loop-i-test.false c.loop-i.invariant.moved
