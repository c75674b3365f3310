-- The traces that are read are those that the text spells.
use Rattle.std.proofs.Common.{◌≡◌, Ok, sym, ap, ◌∙◌, rules}
use Rattle.std.proofs.lemmas.Result.{err_from_is_err_and}
use Rattle.lb_traces.specs.Traces.{Recording}
use Rattle.lb_trace.specs.declared.error.TraceError.TheVariants as fault
use Rattle.lb_trace.specs.Refusals.{outcome}
use Rattle.lb_trace.proofs.LineReadings.{text-other, text-read, text-refused}
use Rattle.lb_trace.proofs.Outcomes.{sound_text}
use Rattle.lb_trace.proofs.Readings.{is_reading, is_refusal, refused}
use Rattle.lb_trace.proofs.read_plain.read_plain.Goals as goal

pub returns-in_default-found : goal.returns-in_default-found
returns-in_default-found c =
    is_refusal _ _ _ (refused _ _ _ (text-other _ _ _ c.requires.short
    c.requires.plain (rw c.in_default-found.is at c.in-Ok.ensures)))

pub returns-in_err-add_lines : goal.returns-in_err-add_lines
returns-in_err-add_lines c =
    let begun = rw c.in-Some.is at c.in-Ok.ensures in
    let bad = text-refused _ _ _ _ _ _ _ c.requires.short c.requires.plain
    begun.1 begun.0 c.in-Ok-with_room.ensures.rows c.in_err-add_lines.ensures.err in
    let p = err_from_is_err_and c.from_residual.result c.from_residual.ensures.1 in
    rw (p.1, p.2) (is_refusal _ _ _ bad)

pub returns : goal.returns
returns c =
    let begun = rw c.in-Some.is at c.in-Ok.ensures in
    let read : outcome c.args.signature.now c.args.text.now ≡ Ok c.add_lines.new.self.rows.traces =
    text-read _ _ _ _ _ _ _ c.requires.short c.requires.plain begun.1 begun.0
    c.in-Ok-with_room.ensures.rows c.in_ok-add_lines.ensures.ok in
    is_reading _ _ _ (search rules) (sound_text _ _ _
    (read ∙ ap (λ (r : Recording). Ok r.traces) (sym c.into_set.ensures)))
