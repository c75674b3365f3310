-- The traces of the first chunk and of the others are those that their text spells.
use Rattle.std.proofs.Common.{sym, ap, ◌∙◌, arith}
use Rattle.std.proofs.lemmas.Bool.{not-true}
use Rattle.lb_traces.specs.Traces.{Recording}
use Rattle.lb_trace.specs.Spelling.{instants}
use Rattle.lb_trace.proofs.LoadedChunks.{given-chunks, loaded_spells}
use Rattle.lb_trace.proofs.Readings.{is_reading}
use Rattle.lb_trace.proofs.loaded.read_loaded.Goals as goal

pub returns : goal.returns
returns g c =
    let begun = rw c.in-Ok-Some.field-0-is at c.in-Ok-Some.ensures in
    let table = c.in-Ok-Some.begun.table in
    let found = c.in-Some-read_rounds.ensures in
    let elements = c.args.signature.now in
    let same = ap (λ (r : Recording). r.signature) c.into_set-set.ensures ∙ found.3.0 in (
      found.1.chunks,
      given-chunks _ elements table c.in-Some.most c.args.numbers.now found.0 found.1,
      is_reading _ _ _ same
          (loaded_spells _ _ _ _ _ _ _ _ _ _ _ (omega (arith, c.if-first-lt3.false))
          (sym c.is_ended.ensures ∙ c.if-not-is_ended.false) c.strip_bom-body.ensures
          (not-true _ (sym c.is_plain.ensures.value ∙ c.if-not-is_plain.false))
          begun.0 begun.1 c.in-Ok.ensures.0.1 found.1 c.in-Some.ensures
          same c.signature.ensures.lawful
          (ap (λ (r : Recording). instants r.traces) c.into_set-set.ensures ∙ found.2)),
    )
