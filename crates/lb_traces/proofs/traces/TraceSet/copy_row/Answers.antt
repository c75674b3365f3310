-- One cell more in each turn.
use Rattle.std.proofs.Common.{◌≡◌, ◌<◌, ◌+◌, ◌++◌, ◌∷◌, [], ℕ, ℤ, List, pos, get_or, length, take}
use Rattle.std.proofs.Common.{ap, sym, ◌∙◌}
use Rattle.std.proofs.Common.{Bool as Truth, true, false, inl, inr, refl, subst, arith, w32, to_z}
use Rattle.std.proofs.lemmas.Bool.{true≢false}
use Rattle.std.proofs.lemmas.Int.{to_z-of_z}
use Rattle.std.proofs.lemmas.List.{append-nil, append_assoc, take_more, take_all}
use Rattle.std.proofs.lemmas.Option.{get_or_from_slice_get}
use Rattle.std.specs.Int.{from_bool}
use Rattle.std.specs.Prelude.{◌↔◌, IsTrue}
use Rattle.lb_syntax.specs.declared.tree.Kind.TheVariants.{Int, Bool}
use Rattle.lb_static.specs.Signature.{kinds_of}
use Rattle.lb_traces.specs.Traces.{Recording, IsRecording, IsCell, IsRow, trace_at}
use Rattle.lb_traces.proofs.HeldRows.{lawful_cell}
use Rattle.lb_traces.proofs.RowsFound.{row_follows}
use Rattle.lb_traces.proofs.Storing.{length-row}
use Rattle.lb_traces.proofs.traces.TraceSet.copy_row.Goals.{in-Int, in-Bool}
use Rattle.lb_traces.proofs.traces.TraceSet.copy_row.Goals as goal

-- the cell of a Boolean
truth_of : (b : Truth) (v : ℤ) → IsCell Bool v → IsTrue b ↔ (v ≡ pos 1) → pos (from_bool b) ≡ v
truth_of true v cell h = sym (h.0 refl)
truth_of false v (inl e) h = sym e
truth_of false v (inr e) h = absurd (true≢false (sym (h.1 e)))

-- a row that has grown by one cell
grown :
    (old row new items : List ℤ) (column : ℕ) (v : ℤ) → new ≡ items ++ v ∷ [] →
    items ≡ old ++ take column row → column < length row → v ≡ get_or row column (pos 0) →
    new ≡ old ++ take (column + 1) row
grown old row new items column v pushed before l is =
    pushed ∙ ap (λ xs. xs ++ v ∷ []) before ∙ append_assoc old (take column row) (v ∷ [])
    ∙ ap (λ x. old ++ (take column row ++ x ∷ [])) is
    ∙ ap (λ xs. old ++ xs) (sym (take_more row column (pos 0) l))

pub loop-column-init : goal.loop-column-init
loop-column-init c =
    let wide : length c.self.inside.signature ≡ length c.args.self.now.signature =
    ap (λ (r : Recording). length r.signature) c.self.view_is in
    record {
      copied = c.in_ok-reserve.ensures.items ∙ sym (append-nil c.args.row.now.items);
      room = omega (arith, wide, c.len.ensures.count, c.in_ok-reserve.ensures.ok);
    }

pub push_reserved-requires : goal.push_reserved-requires
push_reserved-requires c =
    let wide : length c.self.inside.signature ≡ length c.args.self.now.signature =
    ap (λ (r : Recording). length r.signature) c.self.view_is in
    omega (
      arith,
      wide,
      c.len-column-end.ensures.count,
      c.loop-column.invariant.room,
      c.loop-column-test.true,
    )

pub returns-clause-ok : goal.returns-clause-ok
returns-clause-ok c =
    let row = get_or (trace_at c.args.self.now.traces c.args.k).1 c.args.t [] in
    let lawful : IsRecording c.args.self.now =
    subst IsRecording c.self.view_is c.self.invariant.parts.lawful in
    let follows : IsRow c.args.self.now.signature row =
    row_follows _ _ _ lawful c.requires.trace c.requires.instant in
    let long : length row ≡ length c.args.self.now.signature =
    length-row c.args.self.now.signature row follows in
    let wide : length c.self.inside.signature ≡ length c.args.self.now.signature =
    ap (λ (r : Recording). length r.signature) c.self.view_is in
    c.loop-column.invariant.copied
    ∙ ap (λ xs. c.args.row.now.items ++ xs)
    (take_all c.loop-column.column row
    (omega (arith, long, wide, c.loop-column-test.false, c.len-column-end.ensures.count)))

pub loop-column-preserved : goal.loop-column-preserved
loop-column-preserved c =
    let row = get_or (trace_at c.args.self.now.traces c.args.k).1 c.args.t [] in
    let lawful : IsRecording c.args.self.now =
    subst IsRecording c.self.view_is c.self.invariant.parts.lawful in
    let follows : IsRow c.args.self.now.signature row =
    row_follows _ _ _ lawful c.requires.trace c.requires.instant in
    let long : length row ≡ length c.args.self.now.signature =
    length-row c.args.self.now.signature row follows in
    let wide : length c.self.inside.signature ≡ length c.args.self.now.signature =
    ap (λ (r : Recording). length r.signature) c.self.view_is in
    let l : c.loop-column.column < length row =
    omega (arith, long, wide, c.loop-column-test.true, c.len-column-end.ensures.count) in
    let value : to_z w32 c.match-kind.cell-bits ≡ get_or row c.loop-column.column (pos 0) =
    elim c.match-kind.branch [
      | in-Int w ↦
          w.cell-is ∙ to_z-of_z w32 w.int_at-cell.result (record { sfits = w.int_at-cell.type_inv })
          ∙ w.int_at-cell.ensures
      | in-Bool w ↦
          w.cell-is ∙ to_z-of_z w32 w.from-cell.result (record { sfits = w.from-cell.type_inv })
          ∙ w.from-cell.ensures ∙ truth_of w.bool_at.result
          (get_or row c.loop-column.column (pos 0))
          (lawful_cell _ _ _ follows l
          (ap (λ (r : Recording). get_or (kinds_of r.signature) c.loop-column.column Int)
          (sym c.self.view_is)
          ∙ get_or_from_slice_get (kinds_of c.self.inside.signature) c.loop-column.column
          c.kind.result Int c.kind.ensures
          ∙ w.in-Bool.is))
          w.bool_at.ensures
    ] in
    record {
      copied =
          grown _ _ _ _
          c.loop-column.column (to_z w32 c.match-kind.cell-bits) c.push_reserved.ensures.items
          c.loop-column.invariant.copied l value;
      room =
          omega (
            arith,
            c.loop-column.invariant.room,
            c.loop-column-test.true,
            c.push_reserved.ensures.len,
            c.push_reserved.ensures.capacity,
          );
    }
