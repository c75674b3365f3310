-- The text after a record is as long as what is left of the text behind its place.
use Rattle.std.proofs.Common.{◌≤◌, ◌-◌, List, ℕ, length, sym, subst}
use Rattle.lb_trace.specs.Lines.{EndsRecord}
use Rattle.lb_trace.proofs.Lines.{after-ends, after-short}
use Rattle.lb_trace.proofs.plain_rows.past_line.Goals as goal

pub overflow_sub-result : goal.overflow_sub-result
overflow_sub-result c =
    subst (λ (rest : List ℕ). length rest ≤ length c.args.text.now) (sym c.in-Some.ensures.1)
    (after-short c.args.text.now)

pub returns : goal.returns
returns c = (
  c.in-Some.ensures.0,
  subst
      (λ (rest : List ℕ). EndsRecord c.args.text.now (length c.args.text.now - length rest))
      (sym c.in-Some.ensures.1) (after-ends c.args.text.now),
)
