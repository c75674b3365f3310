use Rattle.std.proofs.Common.{◌≡◌, ◌<◌, ◌≤◌, length, sym, subst, arith}
use Rattle.lb_flat.specs.Programs.{program_of}
use Rattle.lb_flat.specs.Values.{equation_of}
use Rattle.lb_sim.specs.Presets.{IsConstant}
use Rattle.lb_sim.proofs.EquationsAt.{equation_there, equation_within, kind_there, all_within}
use Rattle.lb_sim.proofs.Allotments.{constants_first, constants_more, constants_all}
use Rattle.lb_sim.proofs.memories.fill_constants.Goals as goal

pub loop-i-init : goal.loop-i-init
loop-i-init c =
    constants_first (program_of c.args.program.now) c.args.preset.now c.args.table.now
    c.requires.in_order c.requires.none

pub constant-requires-clause-first : goal.constant-requires-clause-first
constant-requires-clause-first c =
    let from : length c.args.preset.now.words.items ≡ c.len-first.result =
    omega (arith, c.len-first.ensures) in
    omega (arith, from, c.loop-i.invariant.more.words)

pub constant-requires-clause-room : goal.constant-requires-clause-room
constant-requires-clause-room c =
    let l = c.loop-i in
    let lt : l.i < length c.args.program.now.equations.items =
    omega (arith, c.loop-i-test.true, l.auto.i-end, c.len-i-end.ensures) in
    omega (arith, l.invariant.few, lt, c.requires.room)

pub loop-i-preserved : goal.loop-i-preserved
loop-i-preserved c =
    let p = c.args.program.now in
    let l = c.loop-i in
    let x = c.index.result.now in
    let lt : l.i < length p.equations.items =
    omega (arith, c.loop-i-test.true, l.auto.i-end, c.len-i-end.ensures) in
    let made = c.in_ok-held.ensures in
    let next = c.constant.new.preset in
    let from : length c.args.preset.now.words.items ≡ c.len-first.result =
    omega (arith, c.len-first.ensures) in
    constants_more (program_of p) c.args.preset.now l.preset l.table l.i l.invariant
    (equation_of p.clocks.items x) (equation_within p.clocks.items p.equations.items l.i lt)
    (equation_there p.clocks.items p.equations.items l.i x lt (sym c.index.ensures))
    c.index-kind.result.now
    (kind_there p c.requires.in_range l.i x c.index-kind.result.now lt (sym c.index.ensures)
    c.index-kind.ensures)
    c.constant.new.preset c.in_ok-held.held made.more made.planes made.few made.fixed
    (subst
    (λ n.
    IsConstant n (length next.words.items) next.words.items c.index-kind.result.now
    (equation_of p.clocks.items x).operation c.in_ok-held.held)
    (sym from) made.constant)

pub returns-clause-more : goal.returns-clause-more
returns-clause-more c = c.loop-i.invariant.more

pub returns-clause-planes : goal.returns-clause-planes
returns-clause-planes c = c.loop-i.invariant.planes

pub returns-clause-few : goal.returns-clause-few
returns-clause-few c =
    let l = c.loop-i in
    let le : l.i ≤ length c.args.program.now.equations.items =
    omega (arith, l.auto.i-end, c.len-i-end.ensures) in
    omega (arith, l.invariant.few, le)

pub returns-clause-table : goal.returns-clause-table
returns-clause-table c =
    let p = c.args.program.now in
    let l = c.loop-i in
    let le : length p.equations.items ≤ l.i =
    omega (arith, c.loop-i-test.false, l.auto.i-end, c.len-i-end.ensures) in
    constants_all (program_of p) c.args.preset.now l.preset l.table l.i l.invariant
    (all_within p.clocks.items p.equations.items l.i le)
