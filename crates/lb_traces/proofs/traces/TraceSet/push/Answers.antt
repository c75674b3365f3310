-- The integers and the words have grown by one row, and the last place by one.
use Rattle.std.proofs.Common.{arith, rules, ◌≡◌, ◌++◌, length, ◌+◌, ◌-◌, ap, ap₂, ◌∙◌, set, subst}
use Rattle.lb_traces.specs.Traces.{with_row}
use Rattle.lb_traces.specs.Ledger.{last_place}
use Rattle.lb_traces.specs.Packed.{numbers_in, HasPushed}
use Rattle.lb_traces.proofs.Storing.{rows_fit_of}
use Rattle.lb_traces.proofs.AddedRows.{Changed, set_pushed, integers_in, truths_in}
use Rattle.lb_traces.proofs.SixteenRows.{ints-of}
use Rattle.lb_traces.proofs.IntegerCounts.{integers-limit}
use Rattle.lb_traces.proofs.traces.TraceSet.push.Goals as goal

pub count_rows-requires-clause-room : goal.count_rows-requires-clause-room
count_rows-requires-clause-room c =
    omega (arith, rows_fit_of _ _ _ _ _ c.self.view_is c.self.invariant.parts c.requires.room)

numbers_are : (c : goal.After-count_rows) → c.push_row.new.self.items
    ≡ c.self.inside.numbers.items ++ numbers_in c.args.row.now c.self.inside.columns.integers.items
numbers_are c =
    c.push_row.ensures
    ∙ ap₂ (λ a b. a ++ numbers_in c.args.row.now b) c.in_ok-reserve_next.ensures.items
    c.as_slice.ensures.value

pub push_row-requires-clause-room : goal.push_row-requires-clause-room
push_row-requires-clause-room c =
    let long : c.len-2.result ≡ length c.self.inside.columns.integers.items = search rules in
    omega (arith, c.in_ok-reserve_next.ensures.ok, long, ap length c.as_slice.ensures.value)

pub push_row-requires-clause-columns : goal.push_row-requires-clause-columns
push_row-requires-clause-columns c =
    rw c.as_slice.ensures.value
    (integers_in _ _ _ _ _ _ _ _ _ _ c.self.view_is c.self.invariant c.requires.row)

pub push_row-requires-clause-together : goal.push_row-requires-clause-together
push_row-requires-clause-together c =
    rw c.as_slice.ensures.value c.self.inside.columns.side_by_side

pub push_words-requires-clause-room : goal.push_words-requires-clause-room
push_words-requires-clause-room c =
    omega (
      arith,
      c.in_ok-reserve.ensures.ok,
      c.words_of_row.ensures,
      ap length c.as_slice-2.ensures.value,
    )

pub push_words-requires-clause-columns : goal.push_words-requires-clause-columns
push_words-requires-clause-columns c =
    rw c.as_slice-2.ensures.value
    (truths_in _ _ _ _ _ _ _ _ _ _ c.self.view_is c.self.invariant c.requires.row)

words_are : (c : goal.After-count_rows) → HasPushed c.self.inside.words.items c.args.row.now
    c.self.inside.columns.truths.items c.push_words.new.words.items
words_are c =
    subst
    (λ ws. HasPushed ws c.args.row.now c.self.inside.columns.truths.items
    c.push_words.new.words.items)
    c.in_ok-reserve.ensures.items
    (rw (← c.as_slice-2.ensures.value) c.push_words.ensures)

changed :
    (c : goal.After-count_rows) →
    Changed c.self.inside.signature c.self.inside.names
    (c.self.inside.numbers.items
    ++ numbers_in c.args.row.now c.self.inside.columns.integers.items)
    c.push_words.new.words.items
    (set c.self.inside.row_ends.items (length c.self.inside.row_ends.items - 1)
    (last_place c.self.inside.row_ends.items + 1)) c.self.inside.columns.integers.items
    c.self.inside.columns.truths.items c.self.inside.columns.places.items
    (record {
      signature = c.args.self.now.signature;
      traces = with_row c.args.self.now.traces c.args.row.now;
    })
changed c =
    set_pushed _ _ _ _ _ _ _ _ _
    c.args.row.now (length c.self.inside.row_ends.items - 1) c.push_words.new.words.items
    c.self.view_is
    c.self.invariant c.requires.started c.requires.row c.requires.instants c.requires.room
    (omega (arith, c.self.invariant.parts.rows.ledger.not_empty)) (words_are c)

pub invariant_of-self-2 : goal.invariant_of-self-2
invariant_of-self-2 c = rw (numbers_are c, c.count_rows.ensures) (changed c).is

pub returns-clause-ok : goal.returns-clause-ok
returns-clause-ok c = rw (numbers_are c, c.count_rows.ensures) (changed c).view

pub push_words-requires-clause-ints : goal.push_words-requires-clause-ints
push_words-requires-clause-ints c =
    ints-of c.args.self.now.signature c.args.row.now c.requires.row

pub reserve_next-requires : goal.reserve_next-requires
reserve_next-requires c =
    omega (arith, integers-limit _ _ _ _ _ _ _ _ c.self.invariant)
