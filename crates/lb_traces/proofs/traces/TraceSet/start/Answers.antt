-- The names, the integers, the words and the places have grown by one trace of one row.
use Rattle.std.proofs.Common.{arith, ◌≡◌, ◌<◌, ◌++◌, ◌∷◌, [], length, ◌+◌, ap, ap₂, ◌∙◌, sym}
use Rattle.std.proofs.Common.{refl, subst, is_ok, true, Result, Ok, Err}
use Rattle.std.specs.Result.{OnErr}
use Rattle.lb_traces.specs.Traces.{Recording, with_trace}
use Rattle.lb_traces.specs.Ledger.{last_place}
use Rattle.lb_traces.specs.Packed.{cells_of, numbers_in, HasPushed}
use Rattle.lb_traces.proofs.Ledgers.{read_last}
use Rattle.lb_traces.proofs.StoredRows.{length-stored}
use Rattle.lb_traces.proofs.Storing.{rows_fit_of}
use Rattle.lb_traces.proofs.AddedRows.{Changed, as_it_is, changed_by, set_started}
use Rattle.lb_traces.proofs.AddedRows.{integers_in, truths_in}
use Rattle.lb_traces.proofs.SixteenRows.{ints-of}
use Rattle.lb_traces.proofs.IntegerCounts.{integers-limit}
use Rattle.lb_traces.proofs.traces.TraceSet.start.Goals as goal

pub push-requires-clause-room : goal.push-requires-clause-room
push-requires-clause-room c =
    let count : _ = subst (λ (r : Recording). length r.traces < 1000000) (sym c.self.view_is)
    c.requires.count in
    let s = c.self.inside in
    omega (
      arith,
      count,
      length-stored (length s.signature) s.names
          (cells_of s.signature s.numbers.items s.words.items s.row_ends.items) s.row_ends.items,
    )

rows_are : (c : goal.After-push-arg-2-1) → c.index-rows.result.now
    ≡ last_place c.self.inside.row_ends.items
rows_are c =
    let items : c.reserve.new.self.items ≡ c.self.inside.row_ends.items =
    c.in_ok-reserve.ensures.items in
    let count : c.len-3.result ≡ length c.reserve.new.self.items =
    c.len-3.ensures ∙ c.reserve.new.self.ok.0 in
    read_last _ _ _
    c.self.invariant.parts.rows.ledger (count ∙ ap length items) (rw items at c.index-rows.ensures)

pub overflow_add-rows : goal.overflow_add-rows
overflow_add-rows c =
    omega (
      arith,
      rows_are c,
      rows_fit_of _ _ _ _ _ c.self.view_is c.self.invariant.parts c.requires.room,
    )

names_are : (c : goal.After-push-2) → c.push.new.self ≡ c.self.inside.names ++ c.args.name.now ∷ []
names_are c = c.in_ok-push.ensures.ok

numbers_are : (c : goal.After-push-2) → c.push_row.new.self.items
    ≡ c.self.inside.numbers.items ++ numbers_in c.args.row.now c.self.inside.columns.integers.items
numbers_are c =
    c.push_row.ensures
    ∙ ap₂ (λ a b. a ++ numbers_in c.args.row.now b) c.in_ok-reserve_next.ensures.items
    c.as_slice.ensures.value

ends_are : (c : goal.After-push-2) → c.push-2.new.self.items ≡ c.self.inside.row_ends.items
    ++ (last_place c.self.inside.row_ends.items + 1) ∷ []
ends_are c =
    let items : c.reserve.new.self.items ≡ c.self.inside.row_ends.items =
    c.in_ok-reserve.ensures.items in
    let room : is_ok c.push-2.result ≡ true = c.push-2.ensures.succeeds
    (omega (arith, c.in_ok-reserve.ensures.ok)) in
    let count : c.len-3.result ≡ length c.reserve.new.self.items =
    c.len-3.ensures ∙ c.reserve.new.self.ok.0 in
    let rows : c.index-rows.result.now ≡ last_place c.self.inside.row_ends.items =
    read_last _ _ _ c.self.invariant.parts.rows.ledger (count ∙ ap length items)
    (rw items at c.index-rows.ensures) in
    (rw room at c.push-2.ensures.items)
    ∙ ap (λ ends. ends ++ (c.index-rows.result.now + 1) ∷ []) items
    ∙ ap (λ n. c.self.inside.row_ends.items ++ (n + 1) ∷ []) rows

pub push_row-requires-clause-room : goal.push_row-requires-clause-room
push_row-requires-clause-room c =
    let long : c.len.result ≡ length c.self.inside.columns.integers.items =
    c.len.ensures ∙ c.self.inside.columns.integers.ok.0 in
    omega (arith, c.in_ok-reserve_next.ensures.ok, long, ap length c.as_slice.ensures.value)

pub push_row-requires-clause-columns : goal.push_row-requires-clause-columns
push_row-requires-clause-columns c =
    rw c.as_slice.ensures.value
    (integers_in _ _ _ _ _ _ _ _ _ _ c.self.view_is c.self.invariant c.requires.row)

pub push_row-requires-clause-together : goal.push_row-requires-clause-together
push_row-requires-clause-together c =
    rw c.as_slice.ensures.value c.self.inside.columns.side_by_side

pub push_words-requires-clause-room : goal.push_words-requires-clause-room
push_words-requires-clause-room c =
    omega (
      arith,
      c.in_ok-reserve-2.ensures.ok,
      c.words_of_row.ensures,
      ap length c.as_slice-2.ensures.value,
    )

pub push_words-requires-clause-columns : goal.push_words-requires-clause-columns
push_words-requires-clause-columns c =
    rw c.as_slice-2.ensures.value
    (truths_in _ _ _ _ _ _ _ _ _ _ c.self.view_is c.self.invariant c.requires.row)

words_are : (c : goal.After-push-2) → HasPushed c.self.inside.words.items c.args.row.now
    c.self.inside.columns.truths.items c.push_words.new.words.items
words_are c =
    subst
    (λ ws. HasPushed ws c.args.row.now c.self.inside.columns.truths.items
    c.push_words.new.words.items)
    c.in_ok-reserve-2.ensures.items
    (rw (← c.as_slice-2.ensures.value) c.push_words.ensures)

changed :
    (c : goal.After-push-2) →
    Changed c.self.inside.signature (c.self.inside.names ++ c.args.name.now ∷ [])
    (c.self.inside.numbers.items
    ++ numbers_in c.args.row.now c.self.inside.columns.integers.items)
    c.push_words.new.words.items
    (c.self.inside.row_ends.items ++ (last_place c.self.inside.row_ends.items + 1) ∷ [])
    c.self.inside.columns.integers.items c.self.inside.columns.truths.items
    c.self.inside.columns.places.items
    (record {
      signature = c.args.self.now.signature;
      traces = with_trace c.args.self.now.traces c.args.name.now c.args.row.now;
    })
changed c =
    set_started _ _ _ _ _ _ _ _ _
    c.args.name.now c.args.row.now c.push_words.new.words.items c.self.view_is c.self.invariant
    c.requires.name c.requires.fresh c.requires.row c.requires.count c.requires.room (words_are c)

pub invariant_of-self-2 : goal.invariant_of-self-2
invariant_of-self-2 c = (changed_by (names_are c) (numbers_are c) refl (ends_are c) (changed c)).is

pub returns-clause-ok : goal.returns-clause-ok
returns-clause-ok c = (changed_by (names_are c) (numbers_are c) refl (ends_are c) (changed c)).view

pub push_words-requires-clause-ints : goal.push_words-requires-clause-ints
push_words-requires-clause-ints c =
    ints-of c.args.self.now.signature c.args.row.now c.requires.row

pub reserve_next-requires : goal.reserve_next-requires
reserve_next-requires c =
    omega (arith, integers-limit _ _ _ _ _ _ _ _ c.self.invariant)

on_err : {X E : Type 0} (result : Result X E) (P : Type 0) → P → OnErr result P
on_err (Ok x) P p = tt
on_err (Err e) P p = p

pub invariant_of-self : goal.invariant_of-self
invariant_of-self c =
    (changed_by refl c.in_err-reserve_next.ensures.items refl refl
    (as_it_is c.self.invariant c.self.view_is)).is

pub returns-in_err-reserve_next-clause-err : goal.returns-in_err-reserve_next-clause-err
returns-in_err-reserve_next-clause-err c =
    on_err _ _ (changed_by refl c.in_err-reserve_next.ensures.items refl refl
    (as_it_is c.self.invariant c.self.view_is)).view

pub invariant_of-self-in_err-reserve : goal.invariant_of-self-in_err-reserve
invariant_of-self-in_err-reserve c =
    (changed_by refl c.in_ok-reserve_next.ensures.items refl c.in_err-reserve.ensures.items
    (as_it_is c.self.invariant c.self.view_is)).is

pub returns-in_err-reserve-clause-err : goal.returns-in_err-reserve-clause-err
returns-in_err-reserve-clause-err c =
    on_err _ _
    (changed_by refl c.in_ok-reserve_next.ensures.items refl c.in_err-reserve.ensures.items
    (as_it_is c.self.invariant c.self.view_is)).view

pub invariant_of-self-in_err-reserve-2 : goal.invariant_of-self-in_err-reserve-2
invariant_of-self-in_err-reserve-2 c =
    (changed_by refl c.in_ok-reserve_next.ensures.items c.in_err-reserve-2.ensures.items
    c.in_ok-reserve.ensures.items
    (as_it_is c.self.invariant c.self.view_is)).is

pub returns-in_err-reserve-2-clause-err : goal.returns-in_err-reserve-2-clause-err
returns-in_err-reserve-2-clause-err c =
    on_err _ _ (changed_by refl c.in_ok-reserve_next.ensures.items c.in_err-reserve-2.ensures.items
    c.in_ok-reserve.ensures.items
    (as_it_is c.self.invariant c.self.view_is)).view

pub invariant_of-self-in_err-push : goal.invariant_of-self-in_err-push
invariant_of-self-in_err-push c =
    (changed_by c.in_err-push.ensures.err c.in_ok-reserve_next.ensures.items
    c.in_ok-reserve-2.ensures.items c.in_ok-reserve.ensures.items
    (as_it_is c.self.invariant c.self.view_is)).is

pub returns-in_err-push-clause-err : goal.returns-in_err-push-clause-err
returns-in_err-push-clause-err c =
    on_err _ _ (changed_by c.in_err-push.ensures.err c.in_ok-reserve_next.ensures.items
    c.in_ok-reserve-2.ensures.items c.in_ok-reserve.ensures.items
    (as_it_is c.self.invariant c.self.view_is)).view
