use Rattle.std.proofs.Common.{◌∙◌, [], length, sym, subst}
use Rattle.lb_flat.proofs.ordering.Ordering.{ready_of}
use Rattle.lb_flat.specs.Programs.{flat_equations, program_of}
use Rattle.lb_sim.specs.Steady.{IsTableOf}
use Rattle.lb_sim.proofs.SteadyTables.{own_table}
use Rattle.lb_sim.proofs.compiler.all_codes.Goals as goal

pub read_inputs-requires-clause-inputs : goal.read_inputs-requires-clause-inputs
read_inputs-requires-clause-inputs c =
    c.as_slice.ensures.value ∙ c.requires.allotted.inputs_at

pub steady_table-requires-clause-in_order : goal.steady_table-requires-clause-in_order
steady_table-requires-clause-in_order c =
    let p = c.args.program.now in
    ready_of p.size (flat_equations p.clocks.items p.equations.items) c.requires.in_order

pub lane_code-requires-clause-table : goal.lane_code-requires-clause-table
lane_code-requires-clause-table c =
    let f = program_of c.args.program.now in
    let a = c.args.known.now in
    let np = length a.preset.planes.items in
    let nw = length a.preset.words.items in
    let all = own_table f a.memory_plane a.memory_word a.preset a.kept.items
    c.requires.allotted.memories in
    subst (λ xs. IsTableOf f a.memory_plane np nw a.kept.items xs c.new-none.result.items
    c.new-no_more.result.items)
    (sym c.as_slice-kept.ensures.value)
    (subst (λ xs. IsTableOf f a.memory_plane np nw a.kept.items a.kept.items xs
    c.new-no_more.result.items)
    (sym c.new-none.ensures.items)
    (subst (λ xs. IsTableOf f a.memory_plane np nw a.kept.items a.kept.items [] xs)
    (sym c.new-no_more.ensures.items) all))

pub lane_code-requires-2-clause-table : goal.lane_code-requires-2-clause-table
lane_code-requires-2-clause-table c =
    let f = program_of c.args.program.now in
    let a = c.args.known.now in
    let np = length a.preset.planes.items in
    let nw = length a.preset.words.items in
    let t = c.in_ok-table.table in
    subst (λ xs. IsTableOf f a.memory_plane np nw a.kept.items xs t.clear.items t.set.items)
    (sym c.as_slice-shown.ensures.value) c.in_ok-table.ensures

pub returns-clause-general : goal.returns-clause-general
returns-clause-general c = c.in_ok-general.ensures.code

pub returns-clause-steady : goal.returns-clause-steady
returns-clause-steady c = c.in_ok-steady.ensures.code

pub returns-clause-clear : goal.returns-clause-clear
returns-clause-clear c = c.in_ok-general.ensures.clear ∙ c.new-none.ensures.items

pub returns-clause-set : goal.returns-clause-set
returns-clause-set c = c.in_ok-general.ensures.set ∙ c.new-no_more.ensures.items

pub returns-clause-within : goal.returns-clause-within
returns-clause-within c = c.in_ok-read.ensures.within

pub returns-clause-loads : goal.returns-clause-loads
returns-clause-loads c = c.in_ok-read.ensures.loads
