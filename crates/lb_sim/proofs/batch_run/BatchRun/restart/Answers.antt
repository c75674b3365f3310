use Rattle.std.proofs.Common.{length, refl, sym, ap, ◌∙◌, rules}
use Rattle.std.proofs.lemmas.List.{with_items_is, places}
use Rattle.lb_check.specs.declared.verdict.Verdict.TheVariants.{Passed}
use Rattle.lb_sim.proofs.BatchSteps.{restarted_as, restart_begun, restart_going}
use Rattle.lb_sim.proofs.BatchSteps.{restart_constants, restart_constant_words}
use Rattle.lb_sim.proofs.BatchSteps.{restart_empty, restart_others, restart_verdict}
use Rattle.lb_sim.proofs.BatchSteps.{put_as}
use Rattle.lb_sim.proofs.batch_run.BatchRun.restart.Goals as goal

pub returns : goal.returns
returns c =
    let run = c.args.self.now in
    let p = run.program.now in
    let e = c.start_lanes.ensures in
    let planes_are = with_items_is run.planes c.start_lanes.new.planes (search (rules, places)) in
    let words_are = with_items_is run.words c.start_lanes.new.words (search (rules, places)) in
    let restarted =
    restarted_as p _ _ _ _ _ _ _ _ c.args.lanes.0 (sym c.as_mut_slice.ensures.value) planes_are
    (sym c.as_mut_slice-2.ensures.value) words_are
    (record {
      started = λ i h there.
          record {
            planes_put = λ k l. e.first_planes k i l h there;
            words_put = λ k l. e.first_words k i l h there;
          };
      other_planes = e.other_planes;
      other_words = e.other_words;
    }) in
    let lanes = c.args.lanes.0 in
    let verdicts_are =
    put_as Passed lanes Passed _ _ _ _ (sym c.as_mut_slice-3.ensures.value)
    (with_items_is run.verdicts c.begin_again.new.verdicts (search (rules, places)))
    c.begin_again.ensures.passed in
    let begins_are =
    put_as 0 lanes run.steps _ _ _ _ (sym c.as_mut_slice-4.ensures.value)
    (with_items_is run.begins c.begin_again.new.begins (search (rules, places)))
    c.begin_again.ensures.begun in
    record {
      empty =
          restart_empty lanes _ _ verdicts_are _ _ run.steps begins_are run.active.0
          c.or-self-2.result.0 c.or-self-2.ensures p _ _ _ _ restarted;
      others =
          restart_others lanes _ _ verdicts_are _ _ run.steps begins_are run.active.0
          c.or-self-2.result.0 c.or-self-2.ensures p _ _ _ _ restarted;
      verdicts = restart_verdict lanes _ _ verdicts_are;
      active = c.or-self-2.ensures;
      begins = begins_are;
      steps = refl;
      program = refl;
    }

pub invariant_of-self-clause-constants : goal.invariant_of-self-clause-constants
invariant_of-self-clause-constants c =
    let run = c.args.self.now in
    let p = run.program.now in
    let e = c.start_lanes.ensures in
    let planes_are = with_items_is run.planes c.start_lanes.new.planes (search (rules, places)) in
    let words_are = with_items_is run.words c.start_lanes.new.words (search (rules, places)) in
    let restarted =
    restarted_as p _ _ _ _ _ _ _ _ c.args.lanes.0 (sym c.as_mut_slice.ensures.value) planes_are
    (sym c.as_mut_slice-2.ensures.value) words_are
    (record {
      started = λ i h there.
          record {
            planes_put = λ k l. e.first_planes k i l h there;
            words_put = λ k l. e.first_words k i l h there;
          };
      other_planes = e.other_planes;
      other_words = e.other_words;
    }) in
    restart_constants p _ _ _ _ c.args.lanes.0 restarted run.constants

pub invariant_of-self-clause-constant_words : goal.invariant_of-self-clause-constant_words
invariant_of-self-clause-constant_words c =
    let run = c.args.self.now in
    let p = run.program.now in
    let e = c.start_lanes.ensures in
    let planes_are = with_items_is run.planes c.start_lanes.new.planes (search (rules, places)) in
    let words_are = with_items_is run.words c.start_lanes.new.words (search (rules, places)) in
    let restarted =
    restarted_as p _ _ _ _ _ _ _ _ c.args.lanes.0 (sym c.as_mut_slice.ensures.value) planes_are
    (sym c.as_mut_slice-2.ensures.value) words_are
    (record {
      started = λ i h there.
          record {
            planes_put = λ k l. e.first_planes k i l h there;
            words_put = λ k l. e.first_words k i l h there;
          };
      other_planes = e.other_planes;
      other_words = e.other_words;
    }) in
    restart_constant_words p _ _ _ _ c.args.lanes.0 restarted run.constant_words

pub invariant_of-self-clause-going : goal.invariant_of-self-clause-going
invariant_of-self-clause-going c =
    let run = c.args.self.now in
    let lanes = c.args.lanes.0 in
    let verdicts_are =
    put_as Passed lanes Passed _ _ _ _ (sym c.as_mut_slice-3.ensures.value)
    (with_items_is run.verdicts c.begin_again.new.verdicts (search (rules, places)))
    c.begin_again.ensures.passed in
    restart_going lanes _ _ verdicts_are run.live.0 run.active.0 c.or-self.result.0
    c.or-self-2.result.0 run.going c.or-self.ensures c.or-self-2.ensures

pub invariant_of-self-clause-begun : goal.invariant_of-self-clause-begun
invariant_of-self-clause-begun c =
    let run = c.args.self.now in
    let begins_are =
    put_as 0 c.args.lanes.0 run.steps _ _ _ _ (sym c.as_mut_slice-4.ensures.value)
    (with_items_is run.begins c.begin_again.new.begins (search (rules, places)))
    c.begin_again.ensures.begun in
    restart_begun c.args.lanes.0 _ _ run.steps begins_are run.begun

pub invariant_of-self-clause-words_room : goal.invariant_of-self-clause-words_room
invariant_of-self-clause-words_room c =
    let run = c.args.self.now in
    let words_are = with_items_is run.words c.start_lanes.new.words (search (rules, places)) in
    ap length words_are
    ∙ c.start_lanes.ensures.words
    ∙ ap length c.as_mut_slice-2.ensures.value
    ∙ run.words_room

pub invariant_of-self-clause-verdicts_room : goal.invariant_of-self-clause-verdicts_room
invariant_of-self-clause-verdicts_room c =
    let run = c.args.self.now in
    let verdicts_are =
    with_items_is run.verdicts c.begin_again.new.verdicts (search (rules, places)) in
    ap length verdicts_are ∙ c.begin_again.ensures.verdicts

pub invariant_of-self-clause-begins_room : goal.invariant_of-self-clause-begins_room
invariant_of-self-clause-begins_room c =
    let run = c.args.self.now in
    let begins_are =
    with_items_is run.begins c.begin_again.new.begins (search (rules, places)) in
    ap length begins_are ∙ c.begin_again.ensures.begins
