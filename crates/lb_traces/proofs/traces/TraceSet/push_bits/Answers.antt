-- The words have grown by one, and the last place too.
use Rattle.std.proofs.Common.{arith, ◌≡◌, ◌++◌, ◌∷◌, [], length, ◌+◌, ◌-◌, set}
use Rattle.lb_traces.specs.BitRows.{row_of_bits}
use Rattle.lb_traces.specs.Ledger.{last_place}
use Rattle.lb_traces.specs.Traces.{with_row}
use Rattle.lb_traces.proofs.AddedRows.{Changed}
use Rattle.lb_traces.proofs.BitRows.{bits-pushed}
use Rattle.lb_traces.proofs.Storing.{rows_fit_of}
use Rattle.lb_traces.proofs.traces.TraceSet.push_bits.Goals as goal

pub count_rows-requires-clause-room : goal.count_rows-requires-clause-room
count_rows-requires-clause-room c =
    omega (arith, rows_fit_of _ _ _ _ _ c.self.view_is c.self.invariant.parts c.requires.room)

words_are : (c : goal.After-count_rows) → c.push.new.self.items
    ≡ c.self.inside.words.items ++ c.args.word ∷ []
words_are c = c.in_ok-push.ensures.items

changed :
    (c : goal.After-count_rows) →
    Changed c.self.inside.signature c.self.inside.names c.self.inside.numbers.items
    (c.self.inside.words.items ++ c.args.word ∷ [])
    (set c.self.inside.row_ends.items (length c.self.inside.row_ends.items - 1)
    (last_place c.self.inside.row_ends.items + 1)) c.self.inside.columns.integers.items
    c.self.inside.columns.truths.items c.self.inside.columns.places.items
    (record {
      signature = c.args.self.now.signature;
      traces =
          with_row c.args.self.now.traces
          (row_of_bits (length c.args.self.now.signature) c.args.word);
    })
changed c =
    bits-pushed _ _ _ _ _ _ _ _ _
    c.args.word (length c.self.inside.row_ends.items - 1) c.self.view_is
    c.self.invariant c.requires.started c.requires.truths c.requires.small c.requires.instants
    c.requires.room (omega (arith, c.self.invariant.parts.rows.ledger.not_empty))

pub invariant_of-self-2 : goal.invariant_of-self-2
invariant_of-self-2 c = rw (words_are c, c.count_rows.ensures) (changed c).is

pub returns-clause-ok : goal.returns-clause-ok
returns-clause-ok c = rw (words_are c, c.count_rows.ensures) (changed c).view
