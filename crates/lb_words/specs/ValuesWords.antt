-- The options that ask for the values of one trace, and what they ask for.
-- Source: this project's rule.
use Rattle.std.specs.Prelude.{◌≡◌, Option, None, Some, List, codes, bytes_eq, if◌then◌else◌}
use Rattle.std.specs.Prelude.{Bool, is_some}
use Rattle.std.specs.Prelude.{[], option_map, unwrap_or}
use Rattle.clap.specs.Words.{App, Row, Text, first_of, with_rule}
use Rattle.lb_show.specs.declared.options.Format.{Format}
use Rattle.lb_show.specs.declared.options.Format.TheVariants.{Table, Csv, Vcd, Svg}
use Rattle.lb_words.specs.WordValues.{HasNumber, by_default, has_switch, named, switch}
use Rattle.lb_words.specs.declared.values_request.Values.{Values}

abbrev pub with_trace : App → App
with_trace app =
    with_rule (with_rule app (named (codes "show"))) (named (codes "format"))

abbrev pub with_choice : App → App
with_choice app =
    with_rule (with_rule app (by_default (codes "0") (named (codes "last"))))
    (named (codes "vars"))

abbrev pub with_instances : App → App
with_instances app = with_rule app (switch (codes "all"))

abbrev pub with_values : App → App
with_values app = with_instances (with_choice (with_trace app))

-- the format with a name
abbrev pub format_named : Text → Option Format
format_named name =
    if bytes_eq name (codes "table") then Some Table
    else (if bytes_eq name (codes "csv") then Some Csv
    else (if bytes_eq name (codes "vcd") then Some Vcd
    else (if bytes_eq name (codes "svg") then Some Svg else None)))

-- whether the words name a trace whose values are shown
abbrev pub names_trace : List Row → Bool
names_trace rows = is_some (first_of (codes "show") rows)

-- the format of the values; where the words name no trace, `--format` is that of the report, and
-- the values have the format `Table`
abbrev pub format_in : List Row → Option Format
format_in rows =
    if names_trace rows
    then format_named (unwrap_or (first_of (codes "format") rows) (codes "table"))
    else Some Table

-- the values that the words ask for
pub record AreValues (rows : List Row) (values : Values) : Type 0 where
  pub trace : values.trace.now ≡ unwrap_or (first_of (codes "show") rows) []
  pub format : format_in rows ≡ Some values.format
  pub last : HasNumber rows (codes "last") (codes "0") 0 1000000000 values.last
  pub whole : values.is_whole ≡ has_switch (codes "all") rows
  pub names : option_map (λ s. s.now) values.names ≡ first_of (codes "vars") rows
