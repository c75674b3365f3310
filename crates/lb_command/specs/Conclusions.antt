-- The output of a run for its report, by the terms of the run.
-- Source: this project's rule.
use Rattle.std.specs.Prelude.{◌≡◌, ◌⊎◌, ℕ, List, [], Option, Some, None, IsSome, true, if◌then◌else◌}
use Rattle.std.specs.Borrow.{Bor}
use Rattle.std.specs.Option.{MatchOption}
use Rattle.clap.specs.Words.{Text}
use Rattle.lb_output.specs.declared.text.Report.{Report}
use Rattle.lb_listing.specs.Compared as compared
use Rattle.lb_listing.specs.Indexed.{IsIndexed, listed}
use Rattle.lb_listing.specs.Junit.{junit_of}
use Rattle.lb_listing.specs.Listings as listing
use Rattle.lb_listing.specs.Verdicts as verdicts
use Rattle.lb_listing.specs.declared.listing.Listing.{Listing}
use Rattle.lb_listing.specs.declared.status.Measure.{Measure}
use Rattle.lb_listing.specs.declared.status.Measure.TheVariants.{Lenient, Strict}
use Rattle.lb_words.specs.Terms.{are_usual}
use Rattle.lb_words.specs.declared.terms.Format.{Format}
use Rattle.lb_words.specs.declared.terms.Format.TheVariants.{Lines, Junit}
use Rattle.lb_words.specs.declared.terms.Terms.{Terms}
use Rattle.lb_command.specs.Lines.{start_of}
use Rattle.lb_command.specs.declared.refusal.Refusal.{Refusal}

-- the measure of a run
abbrev pub measure_of : Terms → Measure
measure_of terms = if terms.is_strict then Strict else Lenient

-- the text of a report in a format, by its traces; a JUnit suite has the name `node` of the node
-- under test, and the remarks
abbrev pub written : Format → (node remarks : Text) → List listing.Line → Text
written Lines node remarks traces = listing.report traces
written Junit node remarks traces = junit_of node traces remarks

-- the status of a run without an earlier report, by its verdicts alone; it has no notes
pub record IsMeasured (measure : Measure) (traces : List listing.Line) (status : ℕ)
    (notes : Text) : Type 0 where
  pub status_is : status ≡ verdicts.status_of measure traces
  pub nothing_said : notes ≡ []

-- the status and the notes of a run with an earlier report, by how its traces differ from `before`
pub record IsCompared (measure : Measure) (before traces : List listing.Line) (status : ℕ)
    (notes : Text) : Type 0 where
  pub status_is : status ≡ compared.status_of measure before traces
  pub differences : notes ≡ compared.text_of before traces

-- `IsCompared` with the traces that some report lists: no contract says what the file of the
-- earlier report holds, but it is a report
pub record IsComparedToFile (measure : Measure) (traces : List listing.Line) (status : ℕ)
    (notes : Text) : Type 0 where
  pub text : Text
  pub before : List listing.Line
  pub lists : listing.Lists text before
  pub compared : IsCompared measure before traces status notes

abbrev pub HasStatus : Terms → (traces : List listing.Line) → (status : ℕ) → (notes : Text)
    → Type 0
HasStatus terms traces status notes =
    MatchOption terms.baseline (IsMeasured (measure_of terms) traces status notes)
    (λ path. IsComparedToFile (measure_of terms) traces status notes)

-- the output `shown` and the notes for a report that lists `traces`
pub record IsTold (terms : Terms) (node remarks : Text) (traces : List listing.Line)
    (shown : Report) (notes : Text) : Type 0 where
  pub text : shown.text.items ≡ written terms.format node remarks traces
  pub measured : HasStatus terms traces shown.status notes

-- the output `shown` and the notes for a report: the report itself and no notes, where the terms
-- are the usual ones; or what the terms ask for, of the traces that the report lists
pub data IsConcluded (terms : Terms) (node : Text) (report : Report) (remarks : Text)
    (shown : Report) (notes : Text) : Type 0 where
  as_it_is : are_usual terms ≡ true → shown ≡ report → notes ≡ []
      → IsConcluded terms node report remarks shown notes
  told : (traces : List listing.Line) → listing.Lists report.text.items traces
      → IsTold terms node remarks traces shown notes
      → IsConcluded terms node report remarks shown notes

-- the earlier report of a run, as it was read, if its terms name one
abbrev pub IsBaseline : Terms → Option (Bor Listing) → Type 0
IsBaseline terms None = terms.baseline ≡ None
IsBaseline terms (Some before) =
    IsSome terms.baseline × IsIndexed before.now
    × ((text : Text) × listing.Lists text (listed before.now))

-- the text of the earlier report that the terms name is none: E20, at the first line that shows it
pub record IsNoBaseline (terms : Terms) (text : Text) (refusal : Refusal) : Type 0 where
  pub usage : refusal.number ≡ 20
  pub named : IsSome terms.baseline
  pub line : ℕ
  pub fault : listing.IsFault text line
  pub place : refusal.position ≡ start_of line

-- the earlier report could not be read, or memory ran out, or it is no report. No contract says what
-- its file holds
abbrev pub IsBaselineRefused : Terms → Refusal → Type 0
IsBaselineRefused terms refusal = ((refusal.number ≡ 0) ⊎ (refusal.number ≡ 21))
    ⊎ ((text : Text) × IsNoBaseline terms text refusal)
