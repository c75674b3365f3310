-- The integers have grown by those of the row, the words by its word, and the last place by one.
use Rattle.std.proofs.Common.{arith, ◌≡◌, ◌++◌, ◌∷◌, [], length, ◌+◌, ◌-◌, ap, ap₂, ◌∙◌}
use Rattle.std.proofs.Common.{set, take}
use Rattle.lb_static.specs.Signature.{kinds_of}
use Rattle.lb_traces.specs.Ledger.{last_place}
use Rattle.lb_traces.specs.Packed.{row_held}
use Rattle.lb_traces.specs.Traces.{with_row}
use Rattle.lb_traces.proofs.AddedRows.{Changed}
use Rattle.lb_traces.proofs.HeldParts.{held-pushed}
use Rattle.lb_traces.proofs.IntegerCounts.{integers-limit}
use Rattle.lb_traces.proofs.Storing.{rows_fit_of}
use Rattle.lb_traces.proofs.traces.TraceSet.push_held.Goals as goal

pub count_rows-requires-clause-room : goal.count_rows-requires-clause-room
count_rows-requires-clause-room c =
    omega (arith, rows_fit_of _ _ _ _ _ c.self.view_is c.self.invariant.parts c.requires.room)

pub reserve_next-requires : goal.reserve_next-requires
reserve_next-requires c =
    omega (arith, integers-limit _ _ _ _ _ _ _ _ c.self.invariant)

numbers_are : (c : goal.After-count_rows) → c.push_all.new.self.items
    ≡ c.self.inside.numbers.items ++ c.args.numbers.now
numbers_are c =
    c.push_all.ensures
    ∙ ap (λ a. a ++ c.args.numbers.now) c.in_ok-reserve_next.ensures.items

words_are : (c : goal.After-count_rows) → c.push_word.new.words.items
    ≡ c.self.inside.words.items
    ++ take (length c.self.inside.columns.truths.items) (c.args.word ∷ [])
words_are c =
    c.push_word.ensures
    ∙ ap₂ (λ a b. a ++ take (length b) (c.args.word ∷ [])) c.in_ok-reserve.ensures.items
    c.as_slice.ensures.value

changed :
    (c : goal.After-count_rows) →
    Changed c.self.inside.signature c.self.inside.names
    (c.self.inside.numbers.items ++ c.args.numbers.now)
    (c.self.inside.words.items
    ++ take (length c.self.inside.columns.truths.items) (c.args.word ∷ []))
    (set c.self.inside.row_ends.items (length c.self.inside.row_ends.items - 1)
    (last_place c.self.inside.row_ends.items + 1)) c.self.inside.columns.integers.items
    c.self.inside.columns.truths.items c.self.inside.columns.places.items
    (record {
      signature = c.args.self.now.signature;
      traces =
          with_row c.args.self.now.traces
          (row_held (kinds_of c.args.self.now.signature) c.args.numbers.now (c.args.word ∷ []));
    })
changed c =
    held-pushed _ _ _ _ _ _ _ _ _
    c.args.numbers.now c.args.word (length c.self.inside.row_ends.items - 1) c.self.view_is
    c.self.invariant c.requires.started c.are_ints.ensures c.requires.numbers c.requires.truths
    c.requires.small c.requires.instants c.requires.room
    (omega (arith, c.self.invariant.parts.rows.ledger.not_empty))

pub invariant_of-self-2 : goal.invariant_of-self-2
invariant_of-self-2 c = rw (numbers_are c, words_are c, c.count_rows.ensures) (changed c).is

pub returns-clause-ok : goal.returns-clause-ok
returns-clause-ok c = rw (numbers_are c, words_are c, c.count_rows.ensures) (changed c).view
