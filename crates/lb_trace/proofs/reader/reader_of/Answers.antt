-- The settings of the builder are those of the reader.
use Rattle.std.proofs.Common.{ap, ◌∙◌, inr}
use Rattle.csv.specs.Reading.{builder_config, builder_names_headers, builder_trim}
use Rattle.lb_trace.proofs.Readings.{reaches-none}
use Rattle.lb_trace.proofs.reader.reader_of.Goals as goal

pub returns : goal.returns
returns c =
    let named = c.has_headers.ensures in
    let flexible = c.flexible.ensures in
    let reader = c.from_reader.ensures in
    reaches-none c.args.text.now c.from_reader.result
    (reader.trim ∙ ap builder_trim flexible ∙ ap builder_trim named ∙ c.new.ensures.trim)
    (inr (inr (
      reader.has_headers ∙ ap builder_names_headers flexible
          ∙ ap builder_names_headers named,
      reader.headers,
    )))
    (reader.config ∙ ap builder_config flexible ∙ ap builder_config named ∙ c.new.ensures.config)
    reader.source reader.state
