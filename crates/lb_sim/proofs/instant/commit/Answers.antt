use Rattle.lb_sim.proofs.LanePrograms.{planes_carried, words_carried, word_memories_fit}
use Rattle.lb_sim.proofs.instant.commit.Goals as goal

pub carry_planes-requires-clause-sources : goal.carry_planes-requires-clause-sources
carry_planes-requires-clause-sources c =
    planes_carried c.args.program.now c.args.code.now c.requires.law _ _ c.requires.planes
    c.as_slice.ensures.value

pub carry_words-requires-clause-sources : goal.carry_words-requires-clause-sources
carry_words-requires-clause-sources c =
    words_carried c.args.program.now c.args.code.now c.requires.law _ _ c.requires.words
    c.as_slice-2.ensures.value

pub carry_words-requires-clause-room : goal.carry_words-requires-clause-room
carry_words-requires-clause-room c =
    word_memories_fit c.args.program.now c.args.code.now c.requires.law _ _ c.requires.words
    c.as_slice-2.ensures.value
