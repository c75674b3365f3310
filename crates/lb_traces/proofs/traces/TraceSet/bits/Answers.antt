-- The words of the instants lie within all words, and hold the Booleans of their rows.
use Rattle.std.proofs.Common.{arith, rules, ◌≡◌, ◌+◌, ◌-◌, ◌*◌, length, take, drop}
use Rattle.std.proofs.Common.{ap, ◌∙◌}
use Rattle.lb_static.specs.Signature.{kinds_of}
use Rattle.lb_traces.specs.Packed.{words_of_row, bit_in, truth_columns}
use Rattle.lb_traces.proofs.Storing.{count_of}
use Rattle.lb_traces.proofs.FoundCells.{part_fits, part_count, part_bits, part_past}
use Rattle.lb_traces.proofs.traces.TraceSet.bits.Goals as goal

pub index-requires : goal.index-requires
index-requires c =
    let count =
    count_of _ _ _ _ _ c.self.view_is in
    omega (arith, c.requires.trace, c.self.invariant.parts.rows.paired, count)

pub overflow_mul-result : goal.overflow_mul-result
overflow_mul-result c =
    let h =
    part_fits _ _ _ _ _ _ _ _ _ c.args.k c.self.view_is c.self.invariant c.requires.trace
    c.args.t c.args.count c.index.result.now c.requires.instants c.index.ensures
    c.words_of_row-width.result (c.words_of_row-width.ensures ∙ ap words_of_row (search rules)) in
    omega (arith, h.0, h.1, c.self.inside.words.small)

pub overflow_mul-result-2 : goal.overflow_mul-result-2
overflow_mul-result-2 c =
    let h =
    part_fits _ _ _ _ _ _ _ _ _ c.args.k c.self.view_is c.self.invariant c.requires.trace
    c.args.t c.args.count c.index.result.now c.requires.instants c.index.ensures
    c.words_of_row-width.result (c.words_of_row-width.ensures ∙ ap words_of_row (search rules)) in
    omega (arith, h.0, c.self.inside.words.small)

pub offset_bounds-as_slice-first : goal.offset_bounds-as_slice-first
offset_bounds-as_slice-first c =
    let h =
    part_fits _ _ _ _ _ _ _ _ _ c.args.k c.self.view_is c.self.invariant c.requires.trace
    c.args.t c.args.count c.index.result.now c.requires.instants c.index.ensures
    c.words_of_row-width.result (c.words_of_row-width.ensures ∙ ap words_of_row (search rules)) in
    omega (arith, h.0, h.1, c.self.inside.words.small)

pub slice_bounds-result-end : goal.slice_bounds-result-end
slice_bounds-result-end c =
    let h =
    part_fits _ _ _ _ _ _ _ _ _ c.args.k c.self.view_is c.self.invariant c.requires.trace
    c.args.t c.args.count c.index.result.now c.requires.instants c.index.ensures
    c.words_of_row-width.result (c.words_of_row-width.ensures ∙ ap words_of_row (search rules)) in
    omega (arith, h.0, h.1)

-- the part of all words that the code takes
taken :
    (c : goal.After-result-1) →
    take ((c.index.result.now + c.args.t + c.args.count) * c.words_of_row-width.result
    - (c.index.result.now + c.args.t) * c.words_of_row-width.result)
    (drop ((c.index.result.now + c.args.t) * c.words_of_row-width.result) c.as_slice.result.now)
    ≡ take (c.args.count * words_of_row (length c.self.inside.columns.truths.items))
    (drop ((c.index.result.now + c.args.t)
    * words_of_row (length c.self.inside.columns.truths.items)) c.self.inside.words.items)
taken c =
    let row = c.index.result.now + c.args.t in
    let n = c.words_of_row-width.result in
    let long : c.len.result ≡ length c.self.inside.columns.truths.items = search rules in
    let wide : c.words_of_row-width.result
    ≡ words_of_row (length c.self.inside.columns.truths.items) =
    c.words_of_row-width.ensures ∙ ap words_of_row long in
    let e : (row + c.args.count) * n - row * n ≡ c.args.count * n = omega arith in
    ap (λ m. take m (drop (row * n) c.as_slice.result.now)) e
    ∙ ap (λ xs. take (c.args.count * n) (drop (row * n) xs)) c.as_slice.ensures.value
    ∙ ap (λ w. take (c.args.count * w) (drop (row * w) c.self.inside.words.items)) wide

pub returns-clause-words : goal.returns-clause-words
returns-clause-words c =
    ap length (taken c)
    ∙ part_count _ _ _ _ _ _ _ _ _ c.args.k c.self.view_is c.self.invariant c.requires.trace
    c.args.t c.args.count c.index.result.now c.requires.instants c.index.ensures

pub returns-clause-bits : goal.returns-clause-bits
returns-clause-bits c d b ld l =
    ap
    (λ ws. bit_in ws
    (64 * (d * words_of_row (length (truth_columns 0 (kinds_of c.args.self.now.signature)))) + b))
    (taken c)
    ∙ part_bits _ _ _ _ _ _ _ _ _ c.args.k c.self.view_is c.self.invariant c.requires.trace
    c.args.t c.args.count c.index.result.now c.requires.instants c.index.ensures d b ld l

pub returns-clause-past : goal.returns-clause-past
returns-clause-past c d b ld le l =
    ap
    (λ ws. bit_in ws
    (64 * (d * words_of_row (length (truth_columns 0 (kinds_of c.args.self.now.signature)))) + b))
    (taken c)
    ∙ part_past _ _ _ _ _ _ _ _ _ c.args.k c.self.view_is c.self.invariant c.requires.trace
    c.args.t c.args.count c.index.result.now c.requires.instants c.index.ensures d b ld le l
