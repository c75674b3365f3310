use Rattle.std.proofs.Common.{false, get_or, length, sym, ap, subst, ◌∙◌, rules}
use Rattle.std.proofs.lemmas.List.{with_items_is, places}
use Rattle.lb_syntax.specs.Lists.{In}
use Rattle.lb_flat.specs.Programs.{numbers_of, program_of}
use Rattle.lb_sim.specs.Presets.{AreMemories}
use Rattle.lb_sim.proofs.MarkedElements.{operand_named}
use Rattle.lb_sim.proofs.memories.memories.Goals as goal

pub fill_memories-requires-clause-named : goal.fill_memories-requires-clause-named
fill_memories-requires-clause-named c = λ a is.
    let on = ap (λ xs. get_or xs a false) c.as_slice.ensures.value in
    let i = (c.in_ok-watched.ensures.marked a).0 (sym on ∙ is) in
    operand_named (program_of c.args.program.now) a
    (subst (λ xs. In a (numbers_of xs)) c.as_slice-operands.ensures.value i)

pub returns-clause-table : goal.returns-clause-table
returns-clause-table c =
    let before = c.args.preset.now in
    subst
    (AreMemories (program_of c.args.program.now) (length before.planes.items)
    (length before.words.items) c.fill_memories.new.preset)
    (sym (with_items_is c.in_ok-table.table c.fill_memories.new.table (search (rules, places))))
    c.in_ok-fill_memories.ensures.table
