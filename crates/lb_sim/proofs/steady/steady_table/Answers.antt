use Rattle.std.proofs.Common.{length, sym, subst, rules}
use Rattle.std.proofs.lemmas.List.{with_items_is, places}
use Rattle.lb_flat.specs.Programs.{program_of}
use Rattle.lb_sim.specs.Steady.{IsTableOf}
use Rattle.lb_sim.proofs.steady.steady_table.Goals as goal

pub returns : goal.returns
returns c =
    let a = c.args.known.now in
    let clear = c.fill_steady.new.clear.items in
    let set = c.fill_steady.new.set.items in
    subst
    (λ xs.
    IsTableOf (program_of c.args.program.now) a.memory_plane (length a.preset.planes.items)
    (length a.preset.words.items) a.kept.items xs clear set)
    (sym (with_items_is c.in_ok-held.held c.fill_steady.new.table (search (rules, places))))
    c.in_ok-fill_steady.ensures
