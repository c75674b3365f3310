use Rattle.std.proofs.Common.{◌+◌, ◌<◌, ℕ, List, arith, get_or, length, subst, sym, ◌∙◌, false}
use Rattle.std.proofs.lemmas.List.{get_or_default}
use Rattle.std.proofs.lemmas.Option.{slice_get_within}
use Rattle.lb_flat.specs.Programs.{program_of}
use Rattle.lb_flat.specs.Values.{operation_of}
use Rattle.lb_sim.specs.Homes.{word_in}
use Rattle.lb_sim.specs.InputRows.{number_columns}
use Rattle.lb_sim.specs.ReadInputs.{IsInputPlace, IsLoadedFor, LoadsReads}
use Rattle.lb_sim.specs.declared.place.Value.{Value}
use Rattle.lb_sim.proofs.EquationsAt.{element_there}
use Rattle.lb_sim.proofs.ReadElements.{input_places, input_words, loads_all, loads_next}
use Rattle.lb_sim.proofs.read_inputs.read_inputs.Goals as goal

pub load_read-requires : goal.load_read-requires
load_read-requires c =
    subst
    (λ (l : List Value). (k : ℕ) (d : Value) → k < length l → IsInputPlace (get_or l k d))
    (sym c.requires.inputs)
    (λ k d lt. input_places 2 1 c.args.program.now.inputs.items k d (omega arith) lt)

pub loop-i-preserved : goal.loop-i-preserved
loop-i-preserved c =
    let p = c.args.program.now in
    let q = c.index-q.result.now in
    let marks = c.in_ok-read.read.items in
    let found = c.load_read.new.found in
    let words = length (number_columns 0 p.inputs.items) in
    let done = c.in_ok-load_read.ensures in
    let lt : c.loop-i.i < length p.equations.items =
    omega (arith, c.loop-i-test.true, c.len-i-end.ensures) in
    let element = element_there p c.requires.in_range c.loop-i.i q lt (sym c.index-q.ensures) in
    let inside : q.element.0 < length marks =
    omega (arith, element, c.in_ok-read.ensures.as_long) in
    let below : (k : ℕ) (d : Value) → k < length c.args.inputs.now →
    word_in (get_or c.args.inputs.now k d) < words + 1 =
    subst
    (λ (l : List Value).
    (k : ℕ) (d : Value) → k < length l → word_in (get_or l k d) < words + 1)
    (sym c.requires.inputs)
    (λ k d at.
    let h = input_words 0 2 1 p.inputs.items k d (omega arith) at in omega (arith, h)) in
    loads_next p c.args.inputs.now marks c.loop-i.found.numbers.items found.numbers.items
    c.loop-i.found.truths found.truths c.loop-i.i q (sym c.index-q.ensures) done.still
    (done.within words below c.loop-i.invariant.within)
    (subst
    (λ b.
    IsLoadedFor b c.args.inputs.now found.numbers.items found.truths (operation_of q.operation))
    (c.index.ensures ∙ get_or_default marks q.element.0 _ false inside) done.loaded)
    c.loop-i.invariant

pub returns-clause-loads : goal.returns-clause-loads
returns-clause-loads c =
    let p = c.args.program.now in
    subst
    (λ (l : List Value).
    LoadsReads (program_of p) l c.loop-i.found.numbers.items c.loop-i.found.truths)
    c.requires.inputs
    (loads_all p c.args.inputs.now c.in_ok-read.read.items c.loop-i.found.numbers.items
    c.loop-i.found.truths c.loop-i.i c.in_ok-read.ensures c.loop-i.invariant
    (λ i q at.
    let lt = slice_get_within p.equations.items i q at in
    omega (arith, lt, c.loop-i-test.false, c.len-i-end.ensures)))
