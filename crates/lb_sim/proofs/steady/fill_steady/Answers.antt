use Rattle.std.proofs.Common.{◌<◌, ◌≤◌, length, sym, subst, arith, []}
use Rattle.lb_flat.specs.Programs.{program_of}
use Rattle.lb_flat.specs.Values.{equation_of}
use Rattle.lb_sim.specs.Homes.{IsHomeIn}
use Rattle.lb_sim.proofs.EquationsAt.{equation_there, equation_within, all_within, element_there}
use Rattle.lb_sim.proofs.EquationsAt.{home_there, memory_there}
use Rattle.lb_sim.proofs.SteadyTables.{IsSteadying, steadying_none, steadying_more, all_steady}
use Rattle.lb_sim.proofs.steady.fill_steady.Goals as goal

pub loop-i-init : goal.loop-i-init
loop-i-init c =
    let f = program_of c.args.program.now in
    let a = c.args.known.now in
    let np = length a.preset.planes.items in
    let nw = length a.preset.words.items in
    let table = c.args.table.now in
    subst (λ xs. IsSteadying f a.memory_plane np nw a.kept.items table xs c.args.set.now.items 0)
    (sym c.requires.no_clear)
    (subst (λ xs. IsSteadying f a.memory_plane np nw a.kept.items table [] xs 0)
    (sym c.requires.no_set)
    (steadying_none f a.memory_plane a.memory_word a.preset a.kept.items
    c.requires.allotted.memories table c.requires.in_order c.requires.none))

pub loop-i-preserved : goal.loop-i-preserved
loop-i-preserved c =
    let p = c.args.program.now in
    let f = program_of p in
    let a = c.args.known.now in
    let m = c.requires.allotted.memories in
    let l = c.loop-i in
    let x = c.index.result.now in
    let home = c.index-home.result.now in
    let lt : l.i < length p.equations.items =
    omega (arith, c.loop-i-test.true, l.auto.i-end, c.len-i-end.ensures) in
    let there = sym c.index.ensures in
    let within = element_there p c.requires.in_range l.i x lt there in
    let at = home_there a.kept.items x.element.0 home f.size m.as_long within
    c.index-home.ensures in
    let np = length a.preset.planes.items in
    let nw = length a.preset.words.items in
    let homes = m.homes x.element.0 home (omega (arith, within, m.as_long)) in
    let stands = subst (IsHomeIn a.memory_plane np a.memory_word nw) (sym c.index-home.ensures)
    homes in
    steadying_more f a.memory_plane a.memory_word a.preset a.kept.items m l.table l.clear.items
    l.set.items l.i l.invariant (equation_of p.clocks.items x)
    (equation_within p.clocks.items p.equations.items l.i lt)
    (equation_there p.clocks.items p.equations.items l.i x lt there) home c.in_ok-held.held at
    (memory_there f a.memory_plane a.memory_word a.preset a.kept.items m
    (equation_of p.clocks.items x) l.i (equation_within p.clocks.items p.equations.items l.i lt)
    (equation_there p.clocks.items p.equations.items l.i x lt there) home at)
    stands c.steady_memory.new.clear.items c.steady_memory.new.set.items c.in_ok-held.ensures

pub returns : goal.returns
returns c =
    let p = c.args.program.now in
    let a = c.args.known.now in
    let l = c.loop-i in
    let le : length p.equations.items ≤ l.i =
    omega (arith, c.loop-i-test.false, l.auto.i-end, c.len-i-end.ensures) in
    all_steady (program_of p) a.memory_plane a.memory_word a.preset a.kept.items
    c.requires.allotted.memories l.table l.clear.items l.set.items l.i l.invariant
    (all_within p.clocks.items p.equations.items l.i le)
