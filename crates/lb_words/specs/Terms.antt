-- The terms of a run: its measure, an earlier report, and the format of its report.
-- Source: this project's rule.
use Rattle.std.specs.Prelude.{◌≡◌, Bool, true, false, ◌&&◌, not, is_some, if◌then◌else◌, codes}
use Rattle.std.specs.Prelude.{List, Option, Some, None, unwrap_or, option_map, bytes_eq}
use Rattle.clap.specs.Words.{Row, Text, first_of}
use Rattle.lb_words.specs.ValuesWords.{names_trace}
use Rattle.lb_words.specs.WordValues.{has_switch}
use Rattle.lb_words.specs.declared.terms.Format.{Format}
use Rattle.lb_words.specs.declared.terms.Format.TheVariants.{Lines, Junit}
use Rattle.lb_words.specs.declared.terms.Terms.{Terms}

-- ## What the words give

-- the format with a name
abbrev pub format_named : Text → Option Format
format_named name =
    if bytes_eq name (codes "lines") then Some Lines
    else (if bytes_eq name (codes "junit") then Some Junit else None)

-- the format of the report; where the words name a trace, `--format` is that of its values, and the
-- report has the format `Lines`
abbrev pub format_in : List Row → Option Format
format_in rows =
    if names_trace rows then Some Lines
    else format_named (unwrap_or (first_of (codes "format") rows) (codes "lines"))

pub record IsTerms (rows : List Row) (terms : Terms) : Type 0 where
  pub strict : terms.is_strict ≡ has_switch (codes "strict") rows
  pub baseline : option_map (λ s. s.now) terms.baseline ≡ first_of (codes "baseline") rows
  pub format : format_in rows ≡ Some terms.format

-- ## What the terms ask for

abbrev pub is_lines : Format → Bool
is_lines Lines = true
is_lines Junit = false

-- whether the terms are the usual ones: the run is asked for nothing but its report
abbrev pub are_usual : Terms → Bool
are_usual terms =
    not terms.is_strict && is_lines terms.format && not (is_some terms.baseline)
