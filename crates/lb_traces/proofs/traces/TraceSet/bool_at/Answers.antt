-- The word lies within all words, and its bit is the Boolean.
use Rattle.std.proofs.Common.{arith, rules, ◌≡◌, ◌<◌, ◌≤◌, ◌+◌, ◌*◌, ◌/◌, ◌%◌, ◌==◌, length, get_or}
use Rattle.std.proofs.Common.{ap}
use Rattle.std.proofs.Common.{sym, ◌∙◌, subst}
use Rattle.std.proofs.lemmas.List.{get_or_read}
use Rattle.std.specs.Int.{bit_at}
use Rattle.lb_syntax.specs.declared.tree.Kind.TheVariants.{Bool}
use Rattle.lb_traces.specs.Traces.{cell_at}
use Rattle.lb_traces.specs.Packed.{words_of_row, truth_cell}
use Rattle.lb_traces.proofs.Storing.{count_of}
use Rattle.lb_traces.proofs.FoundCells.{place_in, words_fit, bit_within, bit_found, truth_is}
use Rattle.lb_traces.proofs.traces.TraceSet.bool_at.Goals as goal

pub index-requires : goal.index-requires
index-requires c =
    let count =
    count_of _ _ _ _ _ c.self.view_is in
    omega (arith, c.requires.trace, c.self.invariant.parts.rows.paired, count)

pub index-requires-2 : goal.index-requires-2
index-requires-2 c =
    let within = place_in _ _ _ _ _ _ _ _ _ c.args.k c.self.view_is c.self.invariant c.requires.trace
    c.args.column Bool c.requires.kind in
    omega (arith, within)

pub overflow_mul-row : goal.overflow_mul-row
overflow_mul-row c =
    let long : c.len.result ≡ length c.self.inside.columns.truths.items = search rules in
    let wide : c.words_of_row.result ≡ words_of_row (length c.self.inside.columns.truths.items) =
    c.words_of_row.ensures ∙ ap words_of_row long in
    let fit : (c.index.result.now + c.args.t) * c.words_of_row.result + c.words_of_row.result
    ≤ length c.self.inside.words.items =
    subst
    (λ w. (c.index.result.now + c.args.t) * w + w ≤ length c.self.inside.words.items)
    (sym wide)
    (words_fit _ _ _ _ _ _ _ _ _ c.args.k c.self.view_is c.self.invariant c.requires.trace
    c.args.t c.index.result.now
    c.requires.instant c.index.ensures) in
    omega (arith, fit, c.self.inside.words.small)

pub overflow_add-row-2 : goal.overflow_add-row-2
overflow_add-row-2 c =
    let long : c.len.result ≡ length c.self.inside.columns.truths.items = search rules in
    let wide : c.words_of_row.result ≡ words_of_row (length c.self.inside.columns.truths.items) =
    c.words_of_row.ensures ∙ ap words_of_row long in
    let fit : (c.index.result.now + c.args.t) * c.words_of_row.result + c.words_of_row.result
    ≤ length c.self.inside.words.items =
    subst
    (λ w. (c.index.result.now + c.args.t) * w + w ≤ length c.self.inside.words.items)
    (sym wide)
    (words_fit _ _ _ _ _ _ _ _ _ c.args.k c.self.view_is c.self.invariant c.requires.trace
    c.args.t c.index.result.now
    c.requires.instant c.index.ensures) in
    let place : c.index-2.result.now / 64 < c.words_of_row.result =
    omega (
      arith,
      bit_within _ _ _ _ _ _ _ _ _ c.args.k c.self.view_is c.self.invariant
          c.requires.trace c.args.t c.index.result.now
          c.requires.instant c.index.ensures
          c.args.column c.index-2.result.now c.index-2.ensures c.requires.kind,
      wide,
    ) in
    omega (arith, fit, place, c.self.inside.words.small)

pub index-word-requires : goal.index-word-requires
index-word-requires c =
    let long : c.len.result ≡ length c.self.inside.columns.truths.items = search rules in
    let wide : c.words_of_row.result ≡ words_of_row (length c.self.inside.columns.truths.items) =
    c.words_of_row.ensures ∙ ap words_of_row long in
    let fit : (c.index.result.now + c.args.t) * c.words_of_row.result + c.words_of_row.result
    ≤ length c.self.inside.words.items =
    subst
    (λ w. (c.index.result.now + c.args.t) * w + w ≤ length c.self.inside.words.items)
    (sym wide)
    (words_fit _ _ _ _ _ _ _ _ _ c.args.k c.self.view_is c.self.invariant c.requires.trace
    c.args.t c.index.result.now
    c.requires.instant c.index.ensures) in
    let place : c.index-2.result.now / 64 < c.words_of_row.result =
    omega (
      arith,
      bit_within _ _ _ _ _ _ _ _ _ c.args.k c.self.view_is c.self.invariant
          c.requires.trace c.args.t c.index.result.now
          c.requires.instant c.index.ensures
          c.args.column c.index-2.result.now c.index-2.ensures c.requires.kind,
      wide,
    ) in
    omega (arith, fit, place)

pub returns : goal.returns
returns c =
    let long : c.len.result ≡ length c.self.inside.columns.truths.items = search rules in
    let wide : c.words_of_row.result ≡ words_of_row (length c.self.inside.columns.truths.items) =
    c.words_of_row.ensures ∙ ap words_of_row long in
    let fit : (c.index.result.now + c.args.t) * c.words_of_row.result + c.words_of_row.result
    ≤ length c.self.inside.words.items =
    subst
    (λ w. (c.index.result.now + c.args.t) * w + w ≤ length c.self.inside.words.items)
    (sym wide)
    (words_fit _ _ _ _ _ _ _ _ _ c.args.k c.self.view_is c.self.invariant c.requires.trace
    c.args.t c.index.result.now
    c.requires.instant c.index.ensures) in
    let place : c.index-2.result.now / 64 < c.words_of_row.result =
    omega (
      arith,
      bit_within _ _ _ _ _ _ _ _ _ c.args.k c.self.view_is c.self.invariant
          c.requires.trace c.args.t c.index.result.now
          c.requires.instant c.index.ensures
          c.args.column c.index-2.result.now c.index-2.ensures c.requires.kind,
      wide,
    ) in
    let row = c.index.result.now + c.args.t in
    let b = c.index-2.result.now in
    let inside : (c.index.result.now + c.args.t) * c.words_of_row.result + c.index-2.result.now / 64
    < length c.self.inside.words.items = omega (arith, fit, place) in
    let read = get_or_read c.self.inside.words.items (row * c.words_of_row.result + b / 64)
    c.index-word.result.now inside c.index-word.ensures 0 in
    let same : cell_at c.args.self.now.traces c.args.k c.args.t c.args.column
    ≡ truth_cell c.has_bit.result =
    bit_found _ _ _ _ _ _ _ _ _ c.args.k c.self.view_is c.self.invariant c.requires.trace
    c.args.t c.index.result.now
    c.requires.instant c.index.ensures
    c.args.column c.index-2.result.now c.index-2.ensures c.requires.kind
    ∙ ap
    (λ w. truth_cell (bit_at (get_or c.self.inside.words.items (row * w + b / 64) 0) (b % 64) == 1))
    (sym wide)
    ∙ ap (λ w. truth_cell (bit_at w (b % 64) == 1)) (sym read)
    ∙ ap truth_cell (sym c.has_bit.ensures) in
    truth_is c.has_bit.result (cell_at c.args.self.now.traces c.args.k c.args.t c.args.column) same
