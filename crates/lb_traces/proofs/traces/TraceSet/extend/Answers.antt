-- The integers and the words have grown by those of the rows, and the last place by their number.
use Rattle.std.proofs.Common.{arith, ◌≡◌, ◌++◌, length, ◌+◌, ◌-◌, ◌*◌, ap, ◌∙◌, set, take, refl}
use Rattle.std.proofs.Common.{drop, is_ok, true, length-drop}
use Rattle.lb_traces.specs.Traces.{with_rows, rows_from, trace_at}
use Rattle.lb_traces.specs.Ledger.{last_place}
use Rattle.lb_traces.specs.Packed.{words_of_row}
use Rattle.lb_traces.proofs.IntegerCounts.{integers-limit}
use Rattle.lb_traces.proofs.Storing.{count_of}
use Rattle.lb_traces.proofs.AddedRows.{Changed, changed_by}
use Rattle.lb_traces.proofs.Extending.{finds_rest, set_grown, rows_fit_for}
use Rattle.lb_traces.proofs.traces.TraceSet.extend.Goals as goal

pub index-requires : goal.index-requires
index-requires c =
    let count =
    count_of _ _ _ _ _ c.set.view_is in
    omega (arith, c.requires.trace, c.set.invariant.parts.rows.paired, count)

pub overflow_mul-first : goal.overflow_mul-first
overflow_mul-first c =
    let rest =
    finds_rest _ _ _ _ _ _ _ _ _ c.args.k c.set.view_is c.set.invariant c.requires.trace
    c.index.result.now
    c.args.from c.length.result c.len-width.result c.words_of_row-count.result c.index.ensures
    c.requires.from c.length.ensures.instants
    (c.len-width.ensures ∙ c.set.inside.columns.integers.ok.0)
    (c.words_of_row-count.ensures
    ∙ ap words_of_row (c.len.ensures ∙ c.set.inside.columns.truths.ok.0)) in
    omega (
      arith,
      rest.numbers_fit,
      rest.numbers_first,
      integers-limit _ _ _ _ _ _ _ _ c.set.invariant,
    )

pub overflow_mul-past : goal.overflow_mul-past
overflow_mul-past c =
    let rest =
    finds_rest _ _ _ _ _ _ _ _ _ c.args.k c.set.view_is c.set.invariant c.requires.trace
    c.index.result.now
    c.args.from c.length.result c.len-width.result c.words_of_row-count.result c.index.ensures
    c.requires.from c.length.ensures.instants
    (c.len-width.ensures ∙ c.set.inside.columns.integers.ok.0)
    (c.words_of_row-count.ensures
    ∙ ap words_of_row (c.len.ensures ∙ c.set.inside.columns.truths.ok.0)) in
    omega (arith, rest.numbers_fit, integers-limit _ _ _ _ _ _ _ _ c.set.invariant)

pub extend-requires-clause-order : goal.extend-requires-clause-order
extend-requires-clause-order c =
    let rest =
    finds_rest _ _ _ _ _ _ _ _ _ c.args.k c.set.view_is c.set.invariant c.requires.trace
    c.index.result.now
    c.args.from c.length.result c.len-width.result c.words_of_row-count.result c.index.ensures
    c.requires.from c.length.ensures.instants
    (c.len-width.ensures ∙ c.set.inside.columns.integers.ok.0)
    (c.words_of_row-count.ensures
    ∙ ap words_of_row (c.len.ensures ∙ c.set.inside.columns.truths.ok.0)) in
    rest.numbers_first

pub extend-requires-clause-within : goal.extend-requires-clause-within
extend-requires-clause-within c =
    let rest =
    finds_rest _ _ _ _ _ _ _ _ _ c.args.k c.set.view_is c.set.invariant c.requires.trace
    c.index.result.now
    c.args.from c.length.result c.len-width.result c.words_of_row-count.result c.index.ensures
    c.requires.from c.length.ensures.instants
    (c.len-width.ensures ∙ c.set.inside.columns.integers.ok.0)
    (c.words_of_row-count.ensures
    ∙ ap words_of_row (c.len.ensures ∙ c.set.inside.columns.truths.ok.0)) in
    rest.numbers_fit

pub overflow_mul-words : goal.overflow_mul-words
overflow_mul-words c =
    let rest =
    finds_rest _ _ _ _ _ _ _ _ _ c.args.k c.set.view_is c.set.invariant c.requires.trace
    c.index.result.now
    c.args.from c.length.result c.len-width.result c.words_of_row-count.result c.index.ensures
    c.requires.from c.length.ensures.instants
    (c.len-width.ensures ∙ c.set.inside.columns.integers.ok.0)
    (c.words_of_row-count.ensures
    ∙ ap words_of_row (c.len.ensures ∙ c.set.inside.columns.truths.ok.0)) in
    omega (arith, rest.words_fit, rest.words_first, c.set.inside.words.small)

pub overflow_mul-words-2 : goal.overflow_mul-words-2
overflow_mul-words-2 c =
    let rest =
    finds_rest _ _ _ _ _ _ _ _ _ c.args.k c.set.view_is c.set.invariant c.requires.trace
    c.index.result.now
    c.args.from c.length.result c.len-width.result c.words_of_row-count.result c.index.ensures
    c.requires.from c.length.ensures.instants
    (c.len-width.ensures ∙ c.set.inside.columns.integers.ok.0)
    (c.words_of_row-count.ensures
    ∙ ap words_of_row (c.len.ensures ∙ c.set.inside.columns.truths.ok.0)) in
    omega (arith, rest.words_fit, c.set.inside.words.small)

pub offset_bounds-as_slice-first : goal.offset_bounds-as_slice-first
offset_bounds-as_slice-first c =
    let rest =
    finds_rest _ _ _ _ _ _ _ _ _ c.args.k c.set.view_is c.set.invariant c.requires.trace
    c.index.result.now
    c.args.from c.length.result c.len-width.result c.words_of_row-count.result c.index.ensures
    c.requires.from c.length.ensures.instants
    (c.len-width.ensures ∙ c.set.inside.columns.integers.ok.0)
    (c.words_of_row-count.ensures
    ∙ ap words_of_row (c.len.ensures ∙ c.set.inside.columns.truths.ok.0)) in
    omega (arith, rest.words_fit, rest.words_first, c.set.inside.words.small)

pub slice_bounds-words-end : goal.slice_bounds-words-end
slice_bounds-words-end c =
    let rest =
    finds_rest _ _ _ _ _ _ _ _ _ c.args.k c.set.view_is c.set.invariant c.requires.trace
    c.index.result.now
    c.args.from c.length.result c.len-width.result c.words_of_row-count.result c.index.ensures
    c.requires.from c.length.ensures.instants
    (c.len-width.ensures ∙ c.set.inside.columns.integers.ok.0)
    (c.words_of_row-count.ensures
    ∙ ap words_of_row (c.len.ensures ∙ c.set.inside.columns.truths.ok.0)) in
    omega (arith, rest.words_fit, rest.words_first)

pub count_rows-requires-clause-room : goal.count_rows-requires-clause-room
count_rows-requires-clause-room c =
    let s = c.self.inside in
    omega (
      arith,
      c.length.ensures.instants,
      length-drop c.args.from (trace_at c.args.set.now.traces c.args.k).1,
      rows_fit_for _ _ _ _ _ _ c.self.view_is
          c.self.invariant.parts c.requires.room,
    )

numbers_are : (c : goal.After-count_rows) → c.extend.new.self.items
    ≡ c.self.inside.numbers.items
    ++ take ((c.index.result.now + c.args.from + (c.length.result - c.args.from))
    * c.len-width.result - (c.index.result.now + c.args.from) * c.len-width.result)
    (drop ((c.index.result.now + c.args.from) * c.len-width.result) c.set.inside.numbers.items)
numbers_are c = c.in_ok-extend.ensures.ok

words_are : (c : goal.After-count_rows) → c.extend_from_slice.new.self.items
    ≡ c.self.inside.words.items
    ++ take ((c.index.result.now + c.args.from + (c.length.result - c.args.from))
    * c.words_of_row-count.result
    - (c.index.result.now + c.args.from) * c.words_of_row-count.result)
    (drop ((c.index.result.now + c.args.from) * c.words_of_row-count.result)
    c.as_slice.result.now)
words_are c =
    let room : is_ok c.extend_from_slice.result ≡ true =
    c.extend_from_slice.ensures.succeeds (omega (arith, c.in_ok-reserve.ensures.ok)) in
    rw (← c.in_ok-reserve.ensures.items) (rw room at c.extend_from_slice.ensures.items)

changed :
    (c : goal.After-count_rows) →
    Changed c.self.inside.signature c.self.inside.names
    (c.self.inside.numbers.items
    ++ take ((c.index.result.now + c.args.from + (c.length.result - c.args.from))
    * c.len-width.result - (c.index.result.now + c.args.from) * c.len-width.result)
    (drop ((c.index.result.now + c.args.from) * c.len-width.result) c.set.inside.numbers.items))
    (c.self.inside.words.items
    ++ take ((c.index.result.now + c.args.from + (c.length.result - c.args.from))
    * c.words_of_row-count.result
    - (c.index.result.now + c.args.from) * c.words_of_row-count.result)
    (drop ((c.index.result.now + c.args.from) * c.words_of_row-count.result)
    c.as_slice.result.now))
    (set c.self.inside.row_ends.items (length c.self.inside.row_ends.items - 1)
    (last_place c.self.inside.row_ends.items + (c.length.result - c.args.from)))
    c.self.inside.columns.integers.items c.self.inside.columns.truths.items
    c.self.inside.columns.places.items
    (record {
      signature = c.args.self.now.signature;
      traces =
          with_rows c.args.self.now.traces
          (rows_from c.args.set.now.traces c.args.k c.args.from);
    })
changed c =
    set_grown _ _ _ _ _ _ _ _ _ c.args.k c.set.view_is c.set.invariant c.requires.trace
    c.index.result.now
    c.args.from c.length.result c.len-width.result c.words_of_row-count.result c.index.ensures
    c.requires.from c.length.ensures.instants
    (c.len-width.ensures ∙ c.set.inside.columns.integers.ok.0)
    (c.words_of_row-count.ensures
    ∙ ap words_of_row (c.len.ensures ∙ c.set.inside.columns.truths.ok.0))
    _ _ _ _ _ _ _ _ _
    (length c.self.inside.row_ends.items - 1) c.self.view_is c.self.invariant c.requires.signature
    c.requires.started (omega (arith, c.self.invariant.parts.rows.ledger.not_empty))
    c.set.inside.numbers.items c.as_slice.result.now refl
    c.as_slice.ensures.value c.requires.instants c.requires.room

pub invariant_of-self-2 : goal.invariant_of-self-2
invariant_of-self-2 c =
    (changed_by refl (numbers_are c) (words_are c) c.count_rows.ensures (changed c)).is

pub returns-clause-ok : goal.returns-clause-ok
returns-clause-ok c =
    (changed_by refl (numbers_are c) (words_are c) c.count_rows.ensures (changed c)).view
