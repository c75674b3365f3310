use Rattle.lb_part_laws.proofs.PartTraces.{parts_spell}
use Rattle.lb_part_laws.proofs.parts.parts_of_a_text_spell_its_traces.Goals as goal

pub returns : goal.returns
returns c elements all texts traces parts spells =
    parts_spell elements all texts traces parts spells
