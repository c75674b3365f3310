use Rattle.std.proofs.Common.{length, refl, sym, ap, ◌∙◌, rules}
use Rattle.std.proofs.lemmas.List.{with_items_is, places}
use Rattle.lb_sim.specs.Inputs.{inputs_row}
use Rattle.lb_sim.proofs.BatchSteps.{moved_as, run_moves, run_stays, run_settled, run_going}
use Rattle.lb_sim.proofs.batch_run.BatchRun.step.Goals as goal

pub returns : goal.returns
returns c =
    let run = c.args.self.now in
    let p = run.program.now in
    let rows = inputs_row c.args.inputs.now in
    let planes_are =
    with_items_is run.planes c.advance-passed.new.planes (search (rules, places)) in
    let words_are = with_items_is run.words c.advance-passed.new.words (search (rules, places)) in
    let verdicts_are =
    with_items_is run.verdicts c.advance-passed.new.verdicts (search (rules, places)) in
    let moved =
    moved_as p rows _ _ _ _ _ _ _ _ _ _ _ _ _ _ _ _ _ _ (sym c.as_mut_slice.ensures.value)
    planes_are (sym c.as_mut_slice-2.ensures.value) words_are
    (sym c.as_mut_slice-3.ensures.value) verdicts_are (sym c.as_slice.ensures.value)
    c.advance-passed.ensures.moved in
    record {
      moves =
          run_moves p rows _ _ _ _ _ _ run.live.0 run.active.0 c.args.live.0 _ run.begins.items
          run.steps moved run.going run.begun c.requires.shrinks;
      stays =
          run_stays p rows _ _ _ _ _ _ run.live.0 run.active.0 c.args.live.0 _ run.begins.items
          run.steps moved run.going run.begun;
      settled =
          run_settled p rows _ _ _ _ _ _ run.live.0 run.active.0 c.args.live.0 _
          run.begins.items run.steps moved run.going;
      active =
          run_going p rows _ _ _ _ _ _ run.live.0 run.active.0 c.args.live.0 _ run.begins.items
          run.steps moved run.going run.begun c.requires.shrinks;
      live_is = refl;
      steps = refl;
      begins = refl;
      program = refl;
    }

pub invariant_of-self-clause-constants : goal.invariant_of-self-clause-constants
invariant_of-self-clause-constants c i h =
    let run = c.args.self.now in
    let p = run.program.now in
    let rows = inputs_row c.args.inputs.now in
    let planes_are =
    with_items_is run.planes c.advance-passed.new.planes (search (rules, places)) in
    let words_are = with_items_is run.words c.advance-passed.new.words (search (rules, places)) in
    let verdicts_are =
    with_items_is run.verdicts c.advance-passed.new.verdicts (search (rules, places)) in
    let moved =
    moved_as p rows _ _ _ _ _ _ _ _ _ _ _ _ _ _ _ _ _ _ (sym c.as_mut_slice.ensures.value)
    planes_are (sym c.as_mut_slice-2.ensures.value) words_are
    (sym c.as_mut_slice-3.ensures.value) verdicts_are (sym c.as_slice.ensures.value)
    c.advance-passed.ensures.moved in
    (moved i h).constants

pub invariant_of-self-clause-constant_words : goal.invariant_of-self-clause-constant_words
invariant_of-self-clause-constant_words c i h =
    let run = c.args.self.now in
    let p = run.program.now in
    let rows = inputs_row c.args.inputs.now in
    let planes_are =
    with_items_is run.planes c.advance-passed.new.planes (search (rules, places)) in
    let words_are = with_items_is run.words c.advance-passed.new.words (search (rules, places)) in
    let verdicts_are =
    with_items_is run.verdicts c.advance-passed.new.verdicts (search (rules, places)) in
    let moved =
    moved_as p rows _ _ _ _ _ _ _ _ _ _ _ _ _ _ _ _ _ _ (sym c.as_mut_slice.ensures.value)
    planes_are (sym c.as_mut_slice-2.ensures.value) words_are
    (sym c.as_mut_slice-3.ensures.value) verdicts_are (sym c.as_slice.ensures.value)
    c.advance-passed.ensures.moved in
    (moved i h).constant_words

pub invariant_of-self-clause-going : goal.invariant_of-self-clause-going
invariant_of-self-clause-going c =
    let run = c.args.self.now in
    let p = run.program.now in
    let rows = inputs_row c.args.inputs.now in
    let planes_are =
    with_items_is run.planes c.advance-passed.new.planes (search (rules, places)) in
    let words_are = with_items_is run.words c.advance-passed.new.words (search (rules, places)) in
    let verdicts_are =
    with_items_is run.verdicts c.advance-passed.new.verdicts (search (rules, places)) in
    let moved =
    moved_as p rows _ _ _ _ _ _ _ _ _ _ _ _ _ _ _ _ _ _ (sym c.as_mut_slice.ensures.value)
    planes_are (sym c.as_mut_slice-2.ensures.value) words_are
    (sym c.as_mut_slice-3.ensures.value) verdicts_are (sym c.as_slice.ensures.value)
    c.advance-passed.ensures.moved in
    run_going p rows _ _ _ _ _ _ run.live.0 run.active.0 c.args.live.0 _ run.begins.items
    run.steps moved run.going run.begun c.requires.shrinks

pub invariant_of-self-clause-words_room : goal.invariant_of-self-clause-words_room
invariant_of-self-clause-words_room c =
    let run = c.args.self.now in
    let words_are = with_items_is run.words c.advance-passed.new.words (search (rules, places)) in
    ap length words_are
    ∙ c.advance-passed.ensures.words
    ∙ ap length c.as_mut_slice-2.ensures.value
    ∙ run.words_room

pub invariant_of-self-clause-verdicts_room : goal.invariant_of-self-clause-verdicts_room
invariant_of-self-clause-verdicts_room c =
    let run = c.args.self.now in
    let verdicts_are =
    with_items_is run.verdicts c.advance-passed.new.verdicts (search (rules, places)) in
    ap length verdicts_are ∙ c.advance-passed.ensures.verdicts
