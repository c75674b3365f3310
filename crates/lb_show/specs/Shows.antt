-- The values of a trace as CSV.
-- Source: this project's rule.
use Rattle.std.specs.Prelude.{◌≡◌, ℕ, ◌-◌, ◌<◌, Bool, true, false, List, [], ◌++◌, length}
use Rattle.lb_check.specs.declared.verdict.Verdict.{Verdict}
use Rattle.lb_flat.specs.Correct.{IsVerdictOf}
use Rattle.lb_flat.specs.Inputs.{inputs_of}
use Rattle.lb_flat.specs.Judging.{FlatProgram}
use Rattle.lb_traces.specs.Traces.{Recording, trace_at}
use Rattle.lb_csv.specs.Csv.{parts_in, rest_in}
use Rattle.lb_csv.specs.CsvTexts.{header, records}
use Rattle.lb_show.specs.Paintings as painted
use Rattle.lb_csv.specs.Shown.{names_of, numbers_of}
use Rattle.lb_csv.specs.Verdicts.{deciding}
use Rattle.lb_csv.specs.Windows.{end_at, first_at}
use Rattle.lb_csv.specs.declared.column.Column.{Column}
use Rattle.lb_show.specs.declared.options.ShowOptions.{ShowOptions}
use Rattle.lb_show.specs.declared.show.Show.{Show}
use Rattle.lb_show.specs.declared.show.Text as code
use Rattle.lb_show.specs.declared.show.Text.TheVariants.{Csv, Painted}

abbrev pub is_csv_text : code.Text → Bool
is_csv_text (Csv c) = true
is_csv_text (Painted p) = false

abbrev pub rest_of_text : code.Text → List ℕ
rest_of_text (Csv c) = rest_in c
rest_of_text (Painted p) = []

-- whether the text of a show is CSV
abbrev pub is_csv : Show → Bool
is_csv s = is_csv_text s.text

-- the CSV that is not written yet
abbrev pub csv_rest : Show → List ℕ
csv_rest s = rest_of_text s.text

abbrev pub parts_of_text : code.Text → ℕ
parts_of_text (Csv c) = parts_in c
parts_of_text (Painted p) = painted.parts_left p

-- the most parts that are left
abbrev pub parts_left : Show → ℕ
parts_left s = parts_of_text s.text

-- a text is CSV of the trace with the name that the options have: a header, and a record for each
-- instant up to the one that decides its verdict. With `last`, only that many of the last of these
-- instants have a record
pub record IsCsvOf (f : FlatProgram) (r : Recording) (o : ShowOptions) (text : List ℕ) : Type 0
  where
    pub number : ℕ
    pub is_trace : number < length r.traces
    pub named : (trace_at r.traces number).0 ≡ o.trace.now
    pub verdict : Verdict
    pub is_verdict : IsVerdictOf f r number verdict
    pub columns : List Column
    pub spelled :
        let end = end_at (deciding verdict) (length (trace_at r.traces number).1) in
        let first = first_at o.last end in
        text
        ≡ header (names_of columns)
        ++ records f (inputs_of r number) (numbers_of columns) first (end - first)
