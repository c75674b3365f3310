use Rattle.std.proofs.Common.{◌∙◌, length, ap}
use Rattle.lb_lanes.specs.Planes.{on}
use Rattle.lb_sim.specs.InputRows.{truth_columns, number_columns}
use Rattle.lb_sim.proofs.LanePrograms.{planes_fit, words_fit, truths_fit, numbers_fit}
use Rattle.lb_sim.proofs.LaneParts.{computed}
use Rattle.lb_sim.proofs.instant.compute.Goals as goal

pub put_instant-requires-clause-planes_room : goal.put_instant-requires-clause-planes_room
put_instant-requires-clause-planes_room c =
    let x = c.args.inputs.now in
    truths_fit c.args.program.now c.args.code.now c.requires.law _ _
    (x.planes_room
    ∙ x.columns.all_truths
    ∙ ap (λ ks. length (truth_columns 0 ks)) c.requires.signature)
    c.requires.planes

pub put_instant-requires-clause-words_room : goal.put_instant-requires-clause-words_room
put_instant-requires-clause-words_room c =
    let x = c.args.inputs.now in
    numbers_fit c.args.program.now c.args.code.now c.requires.law _ _
    (x.words_room
    ∙ x.columns.all_numbers
    ∙ ap (λ ks. length (number_columns 0 ks)) c.requires.signature)
    c.requires.words

pub run-requires-clause-planes : goal.run-requires-clause-planes
run-requires-clause-planes c =
    planes_fit c.args.program.now c.args.code.now c.requires.law _ _ c.put_instant.ensures.planes
    c.requires.planes

pub run-requires-clause-words : goal.run-requires-clause-words
run-requires-clause-words c =
    words_fit c.args.program.now c.args.code.now c.requires.law _ _ c.put_instant.ensures.words
    c.requires.words

pub returns-clause-computed : goal.returns-clause-computed
returns-clause-computed c i h =
    let p = c.args.program.now in
    let x = c.args.inputs.now in
    let e = c.put_instant.ensures in
    let r = c.run.ensures in
    computed p c.args.code.now c.requires.law (length x.planes.items) (length x.words.items)
    (x.planes_room
    ∙ x.columns.all_truths
    ∙ ap (λ ks. length (truth_columns 0 ks)) c.requires.signature)
    (x.words_room
    ∙ x.columns.all_numbers
    ∙ ap (λ ks. length (number_columns 0 ks)) c.requires.signature)
    c.args.planes.now c.put_instant.new.planes c.run.new.planes c.args.words.now
    c.put_instant.new.words c.run.new.words e.first_planes e.other_planes e.first_words
    e.other_words r.first_planes r.first_words i x.columns.kinds.items _
    (on c.args.lanes.0 i) c.requires.signature (e.rows i h) (c.requires.constants i h)
    (c.requires.constant_words i h) (λ there. r.done i (c.of.ensures i h there))
