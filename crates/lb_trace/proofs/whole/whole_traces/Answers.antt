-- The line before a place has the name too, or has another name, or there is none.
use Rattle.std.proofs.Common.{sym, ◌∙◌, arith}
use Rattle.std.proofs.lemmas.Slice.Eq.{bytes_eq-Decides}
use Rattle.lb_trace.proofs.LastLines.{searched_all, searched_none, searched_other, searched_same}
use Rattle.lb_trace.proofs.whole.whole_traces.Goals as goal

pub lines-preserved-then-eq : goal.lines-preserved-then-eq
lines-preserved-then-eq c =
    searched_same _ _ _ _ _ _ c.lines.invariant (omega (arith, c.lines-test.true)) (omega arith)
    c.in-Some-line_before.ensures
    (sym c.name_at.ensures
    ∙ (bytes_eq-Decides c.name_at.result.now c.name_at-name.result.now).0
    (sym c.eq.ensures ∙ c.if-eq.true))

pub lines-preserved-in_default-line_before : goal.lines-preserved-in_default-line_before
lines-preserved-in_default-line_before c =
    searched_other _ _ _ _ _ _ c.lines.invariant (omega arith) c.in-Some-line_before.ensures
    (λ same. cc (
      c.if-eq.false,
      c.eq.ensures,
      (bytes_eq-Decides c.name_at.result.now c.name_at-name.result.now).1
          (c.name_at.ensures ∙ same),
    ))

pub lines-preserved : goal.lines-preserved
lines-preserved c =
    searched_none _ _ _ _ _ c.lines.invariant (omega arith) c.in_default-line_before.ensures

pub returns-in-Some-line_before-2-clause-whole : goal.returns-in-Some-line_before-2-clause-whole
returns-in-Some-line_before-2-clause-whole c = λ some.
    searched_all c.args.text.now c.name_at-name.result.now c.lines.start c.lines.other
    c.in-Some-line_before-2.field-0 c.lines.invariant (omega (arith, c.lines-test.false))
    c.in-Some-line_before-2.ensures
