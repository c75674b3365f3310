use Rattle.std.proofs.Common.{◌≤◌, rules}
use Rattle.lb_flat.proofs.ordering.Ordering.{ready_of}
use Rattle.lb_flat.specs.Programs.{flat_equations, program_of}
use Rattle.lb_sim.proofs.Assembled.{code_within}
use Rattle.lb_sim.proofs.compiler.compile.Goals as goal

pub allot_places-requires-clause-in_order : goal.allot_places-requires-clause-in_order
allot_places-requires-clause-in_order c =
    let p = c.args.ordered.now.program in
    ready_of p.size (flat_equations p.clocks.items p.equations.items) c.args.ordered.now.in_order

pub invariant_of-result-clause-read_within : goal.invariant_of-result-clause-read_within
invariant_of-result-clause-read_within c = c.in_ok-codes.ensures.within

pub invariant_of-result-clause-read_law : goal.invariant_of-result-clause-read_law
invariant_of-result-clause-read_law c = ∣ c.in_ok-codes.ensures.loads ∣₁

pub invariant_of-result-clause-general_law : goal.invariant_of-result-clause-general_law
invariant_of-result-clause-general_law c =
    let f = program_of c.args.ordered.now.program in
    let a = c.in_ok-known.known in
    let general = c.in_ok-codes.codes.general in
    let planes : c.in_ok-codes.codes.general.code.planes ≤ c.max-planes.result = search rules in
    let words : c.in_ok-codes.codes.general.code.words ≤ c.max-words.result = search rules in
    ∣ code_within f a.inputs.items a.kept.items a.preset.planes.items a.preset.words.items
    a.constant_word a.memory_plane a.memory_word general.code.planes general.code.words
    c.max-planes.result c.max-words.result general planes words c.in_ok-codes.ensures.general ∣₁

pub invariant_of-result-clause-steady_law : goal.invariant_of-result-clause-steady_law
invariant_of-result-clause-steady_law c =
    let f = program_of c.args.ordered.now.program in
    let a = c.in_ok-known.known in
    let steady = c.in_ok-codes.codes.steady in
    let planes : c.in_ok-codes.codes.steady.code.planes ≤ c.max-planes.result = search rules in
    let words : c.in_ok-codes.codes.steady.code.words ≤ c.max-words.result = search rules in
    ∣ code_within f a.inputs.items a.kept.items a.preset.planes.items a.preset.words.items
    a.constant_word a.memory_plane a.memory_word steady.code.planes steady.code.words
    c.max-planes.result c.max-words.result steady planes words c.in_ok-codes.ensures.steady ∣₁

pub invariant_of-result-clause-general_clear : goal.invariant_of-result-clause-general_clear
invariant_of-result-clause-general_clear c = c.in_ok-codes.ensures.clear

pub invariant_of-result-clause-general_set : goal.invariant_of-result-clause-general_set
invariant_of-result-clause-general_set c = c.in_ok-codes.ensures.set
