-- One integer more in each turn, or sixteen.
use Rattle.std.proofs.Common.{◌++◌, ◌∷◌, [], ℕ, pos, get_or, length, take, ap, sym, ◌∙◌, arith}
use Rattle.std.proofs.Common.{rules, w32, to_z, of_z, ◌≡◌, ◌+◌, ◌-◌, ◌<◌, drop, is_ok, length-drop}
use Rattle.std.proofs.Common.{subst, true, vec_len}
use Rattle.std.proofs.lemmas.Int.{to_z-of_z}
use Rattle.std.proofs.lemmas.List.{append_assoc, map_push, take_more}
use Rattle.std.proofs.lemmas.List.{get_or_default, length-take-le}
use mir.Val.{SFits}
use Rattle.lb_traces.specs.Packed.{numbers_in}
use Rattle.lb_traces.proofs.SixteenRows.{more-together}
use Rattle.lb_traces.proofs.numbers.push_numbers.Goals as goal

pub loop-w-init : goal.loop-w-init
loop-w-init c = record {
  pushed = c.push_together.ensures.items;
  within = c.requires.together.within;
  room = c.push_together.ensures.room;
}

pub push_reserved-requires : goal.push_reserved-requires
push_reserved-requires c = omega (arith, c.loop-w.invariant.room, c.loop-w-test.true)

pub loop-w-preserved : goal.loop-w-preserved
loop-w-preserved c =
    let old = c.args.numbers.now.items in
    let row = c.args.row.now in
    let columns = c.args.columns.now in
    let w = c.loop-w.w in
    let fits : SFits w32 c.cell_in.result = search rules in
    let cell = to_z w32 (of_z w32 c.cell_in.result) in
    let column = get_or_default columns w (length row) 0 c.loop-w-test.true in
    record {
      pushed =
          c.push_reserved.ensures.items
          ∙ ap (λ xs. xs ++ cell ∷ []) c.loop-w.invariant.pushed
          ∙ append_assoc old (numbers_in row (take w columns)) (cell ∷ [])
          ∙ ap (λ v. old ++ (numbers_in row (take w columns) ++ v ∷ []))
          (to_z-of_z w32 c.cell_in.result fits ∙ c.cell_in.ensures
          ∙ ap (λ j. get_or row j (pos 0)) column)
          ∙ ap (λ xs. old ++ xs)
          (sym (map_push (λ (j : ℕ). get_or row j (pos 0)) (take w columns) (get_or columns w 0)))
          ∙ ap (λ xs. old ++ numbers_in row xs) (sym (take_more columns w 0 c.loop-w-test.true));
      within = omega (arith, c.loop-w-test.true);
      room =
          omega (
            arith,
            c.loop-w.invariant.room,
            c.loop-w-test.true,
            c.push_reserved.ensures.len,
            c.push_reserved.ensures.capacity,
          );
    }

pub loop-w-preserved-then-are_neighbours : goal.loop-w-preserved-then-are_neighbours
loop-w-preserved-then-are_neighbours c =
    let old = c.args.numbers.now.items in
    let row = c.args.row.now in
    let columns = c.args.columns.now in
    let w = c.loop-w.w in
    let start = get_or columns w 0 in
    let near = c.are_neighbours.ensures c.if-are_neighbours.true in
    let last : start + 15 < length row =
    subst (λ j. j < length row) (near 15 (omega arith))
    (c.requires.columns (w + 15) 0 (omega (arith, c.if-columns-w-ge16.true))) in
    let cells = take (start + 16 - start) (drop start row) in
    let count : start + 16 - start ≡ 16 = omega arith in
    let long : length cells ≡ 16 =
    ap (λ n. length (take n (drop start row))) count
    ∙ length-take-le 16 (drop start row) (omega (arith, last, length-drop start row)) in
    let ok : is_ok c.extend_from_slice.result ≡ true =
    c.extend_from_slice.ensures.succeeds
    (omega (arith, c.loop-w.invariant.room, c.if-columns-w-ge16.true, long)) in
    let items : c.extend_from_slice.new.self.items
    ≡ c.loop-w.numbers.items ++ cells =
    rw ok at c.extend_from_slice.ensures.items in
    let size : vec_len c.extend_from_slice.new.self
    ≡ vec_len c.loop-w.numbers + length cells =
    rw ok at c.extend_from_slice.ensures.len in
    record {
      pushed =
          items ∙ ap (λ xs. xs ++ cells) c.loop-w.invariant.pushed
          ∙ append_assoc old (numbers_in row (take w columns)) cells
          ∙ ap (λ n. old ++ (numbers_in row (take w columns) ++ take n (drop start row))) count
          ∙ ap (λ xs. old ++ xs) (sym (more-together row columns w 16
          (omega (arith, c.if-columns-w-ge16.true)) near (omega (arith, last))));
      within = omega (arith, c.if-columns-w-ge16.true);
      room =
          omega (
            arith,
            c.loop-w.invariant.room,
            c.if-columns-w-ge16.true,
            c.extend_from_slice.ensures.capacity,
            size,
            long,
          );
    }
