-- The header behind a byte order mark.
use Rattle.std.proofs.Common.{◌+◌, ◌-◌, List, ℕ, length, take, sym, ap, ◌∙◌, arith}
use Rattle.csv.specs.Reading.{strip_bom}
use Rattle.lb_trace.specs.Chunks.{is_ended}
use Rattle.lb_trace.specs.Plain.{plain_records}
use Rattle.lb_trace.proofs.FrontLines.{mark-ended, strip-take, strip_short}
use Rattle.lb_trace.proofs.front_line.header_len.Goals as goal

pub returns-clause-first : goal.returns-clause-first
returns-clause-first c =
    let text = c.args.text.now in
    let n = c.filled_len.result in
    ap (λ (b : List ℕ). plain_records (strip_bom (take ((length text - length b) + n) text)))
    c.strip_bom-body.ensures
    ∙ ap plain_records (strip-take text n)
    ∙ ap (λ (b : List ℕ). plain_records (take n b)) (sym c.strip_bom-body.ensures)
    ∙ c.filled_len.ensures.first
    ∙ ap (λ (b : List ℕ). take 1 (plain_records b)) c.strip_bom-body.ensures

pub returns-clause-ended : goal.returns-clause-ended
returns-clause-ended c = λ short.
    let text = c.args.text.now in
    let n = c.filled_len.result in
    ap (λ (b : List ℕ). is_ended (take ((length text - length b) + n) text))
    c.strip_bom-body.ensures
    ∙ mark-ended text n
    (ap (λ (b : List ℕ). is_ended (take n b)) (sym c.strip_bom-body.ensures)
    ∙ c.filled_len.ensures.ended
    (omega (arith, short, ap length c.strip_bom-body.ensures, strip_short text)))

pub returns-clause-within : goal.returns-clause-within
returns-clause-within c =
    omega (
      arith,
      c.filled_len.ensures.within,
      ap length c.strip_bom-body.ensures,
      strip_short c.args.text.now,
    )

pub overflow_sub-result : goal.overflow_sub-result
overflow_sub-result c =
    omega (arith, ap length c.strip_bom-body.ensures, strip_short c.args.text.now)
