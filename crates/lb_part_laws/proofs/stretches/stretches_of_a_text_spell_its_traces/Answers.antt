use Rattle.lb_part_laws.proofs.SpelledStretches.{stretches_spell}
use Rattle.lb_part_laws.proofs.stretches.stretches_of_a_text_spell_its_traces.Goals as goal

pub returns : goal.returns
returns c elements head body stretches traces h none are spells =
    stretches_spell elements head stretches body traces h none are spells
