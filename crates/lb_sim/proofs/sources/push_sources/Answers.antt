use Rattle.lb_sim.proofs.TakenPlaces.{all_taken}
use Rattle.lb_sim.proofs.sources.push_sources.Goals as goal

pub returns-clause-taken : goal.returns-clause-taken
returns-clause-taken c =
    let value = c.in_ok-take_plane.ensures in
    let nil = c.in_ok-take_plane-2.ensures in
    let bad = c.in_ok-take_plane-3.ensures in
    let word = c.in_ok-take_word.ensures in
    all_taken c.take_plane.new.code c.take_plane-2.new.code c.take_plane-3.new.code
    c.take_word.new.code c.args.home c.args.next c.plane_of-home_plane.result
    c.plane_of-next_plane.result c.word_of-home_word.result c.word_of-next_word.result _ _ _ _ _ _
    c.plane_of-home_plane.ensures c.plane_of-next_plane.ensures c.word_of-home_word.ensures
    c.word_of-next_word.ensures value.taken nil.taken bad.taken word.taken nil.grown bad.grown
    word.grown
