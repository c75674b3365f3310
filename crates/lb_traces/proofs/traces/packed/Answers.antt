-- One bit more for each Boolean, or sixteen at once.
use Rattle.std.proofs.Common.{◌≡◌, ℕ, ◌+◌, ◌<◌, ◌≤◌, ◌∙◌, All, List, ℤ, ap, arith, drop, get_or}
use Rattle.std.proofs.Common.{length, pos, subst, sym, w32}
use Rattle.std.proofs.lemmas.Int.{to_z-of_z}
use Rattle.std.proofs.lemmas.List.{get_or-drop, length-drop, take_rest}
use Rattle.std.specs.Prelude.{int_le}
use Rattle.lb_traces.specs.Traces.{IsInt}
use Rattle.lb_traces.proofs.PackedRows.{packing_all, packing_more, packing_none}
use Rattle.lb_traces.proofs.SixteenRows.{packing_sixteen}
use Rattle.lb_traces.proofs.traces.packed.Goals as goal

sixteen-inside : (row : List ℤ) (columns : List ℕ) (first : ℕ) → All (λ j. j < length row) columns
    → first + 16 ≤ length columns
    → ((k : ℕ) → k < 16 → get_or columns (first + k) 0 ≡ get_or columns first 0 + k)
    → (k : ℕ) → k < 16 → get_or columns first 0 + k < length row
sixteen-inside row columns first all room each k below =
    subst (λ j. j < length row) (each k below) (all (first + k) 0 (omega (arith, below, room)))

past-start : (row : List ℤ) (start : ℕ) → start + 15 < length row → 15 < length (drop start row)
past-start row start last = omega (arith, last, length-drop start row)

pub loop-i-init : goal.loop-i-init
loop-i-init c = record {
  packed = packing_none c.args.row.now c.args.columns.now c.args.first;
  within = omega arith;
}

pub returns : goal.returns
returns c =
    packing_all c.args.row.now c.args.columns.now c.args.first c.loop-i.word c.loop-i.i
    c.loop-i.invariant.packed
    (λ l. omega (arith, l, c.loop-i-test.false, c.loop-i.invariant.within, c.requires.first))

pub loop-i-preserved-then-are_neighbours : goal.loop-i-preserved-then-are_neighbours
loop-i-preserved-then-are_neighbours c =
    let start = get_or c.args.columns.now (c.args.first + c.loop-i.i) 0 in
    record {
      packed =
          packing_sixteen _ _ _ _ _ _ c.loop-i.invariant.packed
          (omega (arith, c.if-count-i-ge16.true, c.min-count.ensures))
          (omega (arith, c.if-count-i-ge16.true, c.min-count.ensures, c.requires.first))
          (c.are_neighbours.ensures c.if-are_neighbours.true)
          (λ i below. c.truths_in.ensures.bits i below
          ∙ ap (λ (cells : List ℤ). int_le (pos 1) (get_or cells i (pos 0)))
          (take_rest c.args.row.now start))
          c.truths_in.ensures.small;
      within = omega (arith, c.if-count-i-ge16.true);
    }

pub loop-i-preserved : goal.loop-i-preserved
loop-i-preserved c = record {
  packed =
      packing_more _ _ _ _ _ _ _ c.loop-i.invariant.packed (ap (int_le (pos 1))
      (to_z-of_z w32 c.cell_in-b.result (record { sfits = c.cell_in-b.type_inv })
      ∙ c.cell_in-b.ensures))
      c.with_bit-word.ensures.here
      c.with_bit-word.ensures.others;
  within = omega arith;
}

pub truths_in-requires-clause-ints : goal.truths_in-requires-clause-ints
truths_in-requires-clause-ints c = λ i below.
    let row = c.args.row.now in
    let first = c.args.first + c.loop-i.i in
    let start = get_or c.args.columns.now first 0 in
    subst IsInt
    (sym (ap (λ (xs : List ℤ). get_or xs i (pos 0)) (take_rest row start)
    ∙ get_or-drop start row i (pos 0)))
    (c.requires.ints (start + i) (pos 0)
    (sixteen-inside row c.args.columns.now first c.requires.columns
    (omega (arith, c.if-count-i-ge16.true, c.min-count.ensures, c.requires.first))
    (c.are_neighbours.ensures c.if-are_neighbours.true) i below))

pub truths_in-requires-clause-long : goal.truths_in-requires-clause-long
truths_in-requires-clause-long c =
    let row = c.args.row.now in
    let first = c.args.first + c.loop-i.i in
    let start = get_or c.args.columns.now first 0 in
    let last : start + 15 < length row =
    sixteen-inside row c.args.columns.now first c.requires.columns
    (omega (arith, c.if-count-i-ge16.true, c.min-count.ensures, c.requires.first))
    (c.are_neighbours.ensures c.if-are_neighbours.true) 15 (omega arith) in
    subst (λ (xs : List ℤ). 15 < length xs) (sym (take_rest row start))
    (past-start row start last)
