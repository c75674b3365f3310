use Rattle.std.proofs.Common.{length, sym, subst, rules}
use Rattle.std.proofs.lemmas.List.{with_items_is, places}
use Rattle.lb_flat.specs.Programs.{program_of}
use Rattle.lb_sim.specs.Presets.{AreConstants}
use Rattle.lb_sim.proofs.memories.constants.Goals as goal

pub returns-clause-table : goal.returns-clause-table
returns-clause-table c =
    let words = c.fill_constants.new.preset.words.items in
    subst
    (AreConstants (program_of c.args.program.now) (length c.args.preset.now.words.items)
    (length words) words)
    (sym (with_items_is c.in_ok-table.table c.fill_constants.new.table (search (rules, places))))
    c.in_ok-fill_constants.ensures.table
