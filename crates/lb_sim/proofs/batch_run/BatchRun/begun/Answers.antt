use Rattle.std.proofs.Common.{◌<◌, length, refl, sym, ap, ◌∙◌, arith, rules}
use Rattle.std.proofs.lemmas.List.{with_items_is, places}
use Rattle.lb_check.specs.declared.verdict.Verdict.TheVariants.{Passed}
use Rattle.lb_sim.proofs.BatchSteps.{started_as, begun_constants, begun_constant_words}
use Rattle.lb_sim.proofs.BatchSteps.{begun_stands, put_as, put_there, every_lane}
use Rattle.lb_sim.proofs.BatchSteps.{all_passed, all_begun}
use Rattle.lb_sim.proofs.batch_run.BatchRun.begun.Goals as goal

pub invariant_of-result-clause-constants : goal.invariant_of-result-clause-constants
invariant_of-result-clause-constants c i h =
    let p = c.args.program.now in
    let e = c.start_lanes.ensures in
    let there = every_lane c.not-every.result.0 c.not-every.ensures i h in
    let planes_are =
    with_items_is c.args.planes c.start_lanes.new.planes (search (rules, places)) in
    let words_are =
    with_items_is c.args.words c.start_lanes.new.words (search (rules, places)) in
    begun_constants p _ _ i h
    (started_as p _ _ _ _ i planes_are words_are
    (record {
      planes_put = λ k l. e.first_planes k i l h there;
      words_put = λ k l. e.first_words k i l h there;
    }))

pub invariant_of-result-clause-constant_words : goal.invariant_of-result-clause-constant_words
invariant_of-result-clause-constant_words c i h =
    let p = c.args.program.now in
    let e = c.start_lanes.ensures in
    let there = every_lane c.not-every.result.0 c.not-every.ensures i h in
    let planes_are =
    with_items_is c.args.planes c.start_lanes.new.planes (search (rules, places)) in
    let words_are =
    with_items_is c.args.words c.start_lanes.new.words (search (rules, places)) in
    begun_constant_words p _ _ i h
    (started_as p _ _ _ _ i planes_are words_are
    (record {
      planes_put = λ k l. e.first_planes k i l h there;
      words_put = λ k l. e.first_words k i l h there;
    }))

pub invariant_of-result-clause-going : goal.invariant_of-result-clause-going
invariant_of-result-clause-going c =
    let every = c.not-every.result.0 in
    let verdicts_are =
    put_as Passed every Passed _ _ _ _ (sym c.as_mut_slice-3.ensures.value)
    (with_items_is c.args.verdicts c.begin_again.new.verdicts (search (rules, places)))
    c.begin_again.ensures.passed in
    all_passed every _ _ verdicts_are c.first_lanes-live.result.0
    (every_lane every c.not-every.ensures)

pub returns-clause-fresh : goal.returns-clause-fresh
returns-clause-fresh c =
    let p = c.args.program.now in
    let e = c.start_lanes.ensures in
    let every = c.not-every.result.0 in
    let planes_are =
    with_items_is c.args.planes c.start_lanes.new.planes (search (rules, places)) in
    let words_are =
    with_items_is c.args.words c.start_lanes.new.words (search (rules, places)) in
    let verdicts_are =
    put_as Passed every Passed _ _ _ _ (sym c.as_mut_slice-3.ensures.value)
    (with_items_is c.args.verdicts c.begin_again.new.verdicts (search (rules, places)))
    c.begin_again.ensures.passed in
    record {
      empty = λ i h.
          let below : i < 64 = omega (arith, h, c.requires.few) in
          let there = every_lane every c.not-every.ensures i below in
          begun_stands p _ _ i below
          (started_as p _ _ _ _ i planes_are words_are
          (record {
            planes_put = λ k l. e.first_planes k i l below there;
            words_put = λ k l. e.first_words k i l below there;
          }))
          _ _ _ (put_there Passed every Passed _ _ verdicts_are i below there) (omega arith);
      all = c.first_lanes-live.ensures;
      none = refl;
    }

pub invariant_of-result-clause-words_room : goal.invariant_of-result-clause-words_room
invariant_of-result-clause-words_room c =
    let words_are =
    with_items_is c.args.words c.start_lanes.new.words (search (rules, places)) in
    ap length words_are
    ∙ c.start_lanes.ensures.words
    ∙ ap length c.as_mut_slice-2.ensures.value
    ∙ c.requires.words

pub invariant_of-result-clause-verdicts_room : goal.invariant_of-result-clause-verdicts_room
invariant_of-result-clause-verdicts_room c =
    let verdicts_are =
    with_items_is c.args.verdicts c.begin_again.new.verdicts (search (rules, places)) in
    ap length verdicts_are ∙ c.begin_again.ensures.verdicts

pub invariant_of-result-clause-begins_room : goal.invariant_of-result-clause-begins_room
invariant_of-result-clause-begins_room c =
    let begins_are =
    with_items_is c.args.begins c.begin_again.new.begins (search (rules, places)) in
    ap length begins_are ∙ c.begin_again.ensures.begins

pub invariant_of-result-clause-begun : goal.invariant_of-result-clause-begun
invariant_of-result-clause-begun c =
    let every = c.not-every.result.0 in
    let begins_are =
    put_as 0 every 0 _ _ _ _ (sym c.as_mut_slice-4.ensures.value)
    (with_items_is c.args.begins c.begin_again.new.begins (search (rules, places)))
    c.begin_again.ensures.begun in
    all_begun every _ _ 0 begins_are (every_lane every c.not-every.ensures)
