use Rattle.std.proofs.Common.{◌≡◌, ℕ, ◌<◌, ◌≤◌, true, false, length, get_or, sym, arith}
use Rattle.lb_flat.specs.Programs.{program_of}
use Rattle.lb_flat.specs.Values.{equation_of}
use Rattle.lb_sim.proofs.FewPlaces.{planes_few, words_few}
use Rattle.lb_sim.proofs.EquationsAt.{equation_there, equation_within, kind_there, all_within}
use Rattle.lb_sim.proofs.Allotments.{memories_first, memories_more, memories_all}
use Rattle.lb_sim.proofs.memories.fill_memories.Goals as goal

pub loop-i-init : goal.loop-i-init
loop-i-init c =
    memories_first (program_of c.args.program.now) c.args.preset.now c.args.table.now
    c.requires.in_order c.requires.none

pub first_memory-requires-clause-planes : goal.first_memory-requires-clause-planes
first_memory-requires-clause-planes c =
    let p = c.args.program.now in
    let l = c.loop-i in
    let lt : l.i < length p.equations.items =
    omega (arith, c.loop-i-test.true, l.auto.i-end, c.len-i-end.ensures) in
    let few = planes_few l.table (program_of p).equations l.i
    (length c.args.preset.now.planes.items) (length l.preset.planes.items) l.invariant.planes in
    omega (arith, few, lt, c.requires.planes)

pub first_memory-requires-clause-words : goal.first_memory-requires-clause-words
first_memory-requires-clause-words c =
    let p = c.args.program.now in
    let l = c.loop-i in
    let lt : l.i < length p.equations.items =
    omega (arith, c.loop-i-test.true, l.auto.i-end, c.len-i-end.ensures) in
    let few = words_few l.table (program_of p).equations l.i
    (length c.args.preset.now.words.items) (length l.preset.words.items) l.invariant.words in
    omega (arith, few, lt, c.requires.words)

pub loop-i-preserved : goal.loop-i-preserved
loop-i-preserved c =
    let p = c.args.program.now in
    let l = c.loop-i in
    let x = c.index.result.now in
    let lt : l.i < length p.equations.items =
    omega (arith, c.loop-i-test.true, l.auto.i-end, c.len-i-end.ensures) in
    let made = c.in_ok-home.ensures in
    let marked : ℕ → Type 0 = λ a. get_or c.args.watched.now a false ≡ true in
    memories_more (program_of p) c.args.preset.now l.preset l.table l.i l.invariant
    (equation_of p.clocks.items x) (equation_within p.clocks.items p.equations.items l.i lt)
    (equation_there p.clocks.items p.equations.items l.i x lt (sym c.index.ensures))
    c.index-kind.result.now
    (kind_there p c.requires.in_range l.i x c.index-kind.result.now lt (sym c.index.ensures)
    c.index-kind.ensures)
    marked c.requires.named c.first_memory.new.preset c.in_ok-home.home made.more made.memory

pub returns-clause-more : goal.returns-clause-more
returns-clause-more c = c.loop-i.invariant.more

pub returns-clause-table : goal.returns-clause-table
returns-clause-table c =
    let p = c.args.program.now in
    let l = c.loop-i in
    let le : length p.equations.items ≤ l.i =
    omega (arith, c.loop-i-test.false, l.auto.i-end, c.len-i-end.ensures) in
    memories_all (program_of p) c.args.preset.now l.preset l.table l.i l.invariant
    (all_within p.clocks.items p.equations.items l.i le)
