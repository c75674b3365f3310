-- What is emitted from the rows of a checked program is its expansion.
use Rattle.lb_expand.proofs.Words.{◌≡◌, ℕ, ap, ap₂, refl, sym, subst, ◌∙◌}
use Rattle.lb_expand.proofs.Words.{elaborated_program, kinds_of, Table, IsBounded, IsExpansionOf}
use Rattle.lb_expand.proofs.Words.{program_of, table_kinds, called_row, child_row, all_clocks}
use Rattle.lb_expand.proofs.Words.{sources_of, AreClocks, Clocks, false, true, then_ok}
use Rattle.lb_expand.specs.declared.layout.Layout.{Layout}
use Rattle.lb_expand.proofs.clock_tables.ClockEntries.{filled_few, filled_whole}
use Rattle.lb_expand.proofs.frames.ReadyProgram.{both_ok, emits_bounded, first_there}
use Rattle.lb_expand.proofs.frames.ReadyProgram.{frame_emittable, framed_emit, framed_expansion}
use Rattle.lb_expand.proofs.frames.ReadyProgram.{no_frame, numbers_small}
use Rattle.lb_expand.proofs.expansion.flat_program.Goals as goal

pub unreachable-requires : goal.unreachable-requires
unreachable-requires c =
    let x = c.args.checked.now in
    let l = c.args.layout.now in
    let et = c.table-table.ensures.value ∙ ap (λ e. e.table) c.elab-elab.ensures.value in
    let kept : (j n i : ℕ) →
    called_row c.in_ok-children.children.rows j n i ≡ child_row x.elab.table j n i =
    λ j n i. c.in_ok-children.ensures j n i ∙ ap (λ (t : Table). child_row t j n i) et in
    first_there x c.elab-elab.ensures.lawful l c.in_ok-children.children c.in_ok-clocks.clocks
    c.requires.layout kept c.in_ok-clocks.ensures.table c.in_ok-clocks.ensures.runs
    c.requires.small (no_frame c.new-3.result _ _ c.new-3.ensures c.in_default.not-Some)

pub emit_program-requires : goal.emit_program-requires
emit_program-requires c =
    let x = c.args.checked.now in
    let l = c.args.layout.now in
    let lawful = c.elab-elab.ensures.lawful in
    let elab = c.elab-elab.ensures.value in
    let all = c.in_ok-children.children in
    let k = c.in_ok-clocks.clocks in
    let f = c.in-Some.frame in
    let laid = c.requires.layout in
    let et = c.table-table.ensures.value ∙ ap (λ e. e.table) elab in
    let er = c.reached.ensures.value ∙ ap (λ e. e.reached) elab in
    let er2 = c.reached-2.ensures.value ∙ ap (λ e. e.reached) elab in
    let kept : (j n i : ℕ) → called_row all.rows j n i ≡ child_row x.elab.table j n i =
    λ j n i. c.in_ok-children.ensures j n i ∙ ap (λ (t : Table). child_row t j n i) et in
    let at = c.in-Some.ensures in
    let are = frame_emittable x l all k 0 f at c.reached-2.result.now er2 c.table-table.result.now
    et c.in_ok-inputs.inputs.items (c.in_ok-inputs.ensures ∙ ap kinds_of c.signature.ensures.value)
    c.in_ok-kinds.kinds.items (c.in_ok-kinds.ensures ∙ ap₂ table_kinds er et) l.count refl in
    let e = framed_emit x lawful l all k laid kept c.in_ok-clocks.ensures.table
    c.in_ok-clocks.ensures.runs c.requires.small _ are in
    let below = numbers_small _ e in
    let same = c.in_ok-all_clocks.ensures.items ∙ c.deref.ensures.value in
    record {
      table = ap (λ (k : Clocks). k.table.items) at.clocks ∙ sym same;
      variables = ap (λ (l : Layout). l.count) at.layout;
      clocks = subst (AreClocks l.count) (sym same) (c.in_ok-clocks.ensures.within laid);
      kinds = e.kinds;
      positive = e.positive;
      elements = below;
      places = e.places;
      there = e.there;
      root = e.start false;
      observer = e.start true;
    }

pub returns : goal.returns
returns c =
    let x = c.args.checked.now in
    let l = c.args.layout.now in
    let lawful = c.elab-elab.ensures.lawful in
    let elab = c.elab-elab.ensures.value in
    let all = c.in_ok-children.children in
    let k = c.in_ok-clocks.clocks in
    let f = c.in-Some.frame in
    let laid = c.requires.layout in
    let et = c.table-table.ensures.value ∙ ap (λ e. e.table) elab in
    let er = c.reached.ensures.value ∙ ap (λ e. e.reached) elab in
    let er2 = c.reached-2.ensures.value ∙ ap (λ e. e.reached) elab in
    let kept : (j n i : ℕ) → called_row all.rows j n i ≡ child_row x.elab.table j n i =
    λ j n i. c.in_ok-children.ensures j n i ∙ ap (λ (t : Table). child_row t j n i) et in
    let at = c.in-Some.ensures in
    let are = frame_emittable x l all k 0 f at c.reached-2.result.now er2 c.table-table.result.now
    et c.in_ok-inputs.inputs.items (c.in_ok-inputs.ensures ∙ ap kinds_of c.signature.ensures.value)
    c.in_ok-kinds.kinds.items (c.in_ok-kinds.ensures ∙ ap₂ table_kinds er et) l.count refl in
    let e = framed_emit x lawful l all k laid kept c.in_ok-clocks.ensures.table
    c.in_ok-clocks.ensures.runs c.requires.small _ are in
    let same = c.in_ok-all_clocks.ensures.items ∙ c.deref.ensures.value in
    record {
      expansion =
          then_ok c.emit_program.result _
          (λ p. IsExpansionOf (elaborated_program x.elab) (program_of p))
          (λ p is.
          framed_expansion x lawful l all k laid kept c.in_ok-clocks.ensures.table
          c.in_ok-clocks.ensures.runs c.requires.small _ are (program_of p) is)
          c.emit_program.ensures.program;
      in_range = c.emit_program.ensures.in_range;
      bounded =
          both_ok c.emit_program.result _ _ IsBounded
          (λ p is clocks.
          emits_bounded _ e (all_clocks (sources_of x l)) (filled_whole x lawful l laid)
          (filled_few x lawful l laid) p is (clocks ∙ (same ∙ c.in_ok-clocks.ensures.table)))
          c.emit_program.ensures.program c.emit_program.ensures.clocks;
    }
