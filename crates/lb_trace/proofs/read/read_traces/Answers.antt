-- A text is read by its kind: without quotes in one pass, else by csv.
use Rattle.std.proofs.Common.{sym, ap, ◌∙◌, rules}
use Rattle.csv.specs.Reading.{default_config, records}
use Rattle.lb_trace.specs.declared.error.TraceError.TheVariants as fault
use Rattle.lb_trace.specs.Spelling.{records_of}
use Rattle.lb_trace.proofs.Outcomes.{outcome-long}
use Rattle.lb_trace.proofs.Readings.{is_refusal, refused}
use Rattle.lb_trace.proofs.read.read_traces.Goals as goal

pub returns-then-text-gt-MOST_BYTES : goal.returns-then-text-gt-MOST_BYTES
returns-then-text-gt-MOST_BYTES c =
    is_refusal _ _ _ (refused _ _ _
    (outcome-long c.args.signature.now c.args.text.now c.if-text-gt-MOST_BYTES.true))

pub read_plain-requires-clause-plain : goal.read_plain-requires-clause-plain
unfolding records_of
read_plain-requires-clause-plain c =
    ap (records default_config) (sym c.strip_bom-body.ensures)
    ∙ c.is_plain.ensures.records (search rules)
