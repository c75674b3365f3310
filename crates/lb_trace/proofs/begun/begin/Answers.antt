-- A text begins with its header, or with none.
use Rattle.std.proofs.Common.{◌∷◌, sym, ap, ◌∙◌}
use Rattle.csv.specs.Records.{fields_of}
use Rattle.lb_trace.specs.Lines.{after_line}
use Rattle.lb_trace.specs.Plain.{plain_records}
use Rattle.lb_trace.specs.Spelling.{is_header}
use Rattle.lb_trace.specs.Tables.{has_header}
use Rattle.lb_trace.proofs.PlainRecordings.{begun-more, begun-none}
use Rattle.lb_trace.proofs.begun.begin.Goals as goal

pub returns-then-is_empty : goal.returns-then-is_empty
returns-then-is_empty c =
    ap (has_header c.args.signature.now)
    (c.skip_line_ends-first.ensures
    ∙ begun-none c.skip_line_ends-first.result.now (sym c.is_empty.ensures ∙ c.if-is_empty.true))

pub returns-in_default : goal.returns-in_default
returns-in_default c =
    let other = rw c.in_default.is at c.in_ok-table.ensures in
    ap (has_header c.args.signature.now)
    (c.skip_line_ends-first.ensures
    ∙ begun-more c.skip_line_ends-first.result.now (sym c.is_empty.ensures ∙ c.if-is_empty.false)
    ∙ ap (λ r. r ∷ plain_records (after_line c.skip_line_ends-first.result.now))
    (sym c.in_ok-rest.ensures.cells))
    ∙ other

pub returns : goal.returns
returns c =
    let headed = rw c.in-Some.is at c.in_ok-table.ensures in (
      ap (is_header c.args.signature.now) headed.1 ∙ headed.0,
      c.skip_line_ends-first.ensures
          ∙ begun-more c.skip_line_ends-first.result.now
          (sym c.is_empty.ensures ∙ c.if-is_empty.false)
          ∙ ap (λ r. r ∷ plain_records (after_line c.skip_line_ends-first.result.now))
          (sym c.in_ok-rest.ensures.cells ∙ sym headed.1)
          ∙ ap (λ left. fields_of c.in-Some.table.header ∷ plain_records left)
          (sym c.in_ok-rest.ensures.after),
      headed.2,
    )
