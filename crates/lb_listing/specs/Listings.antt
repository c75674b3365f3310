-- The list of a report, and the texts that are reports.
-- Source: this project's rule.
use Rattle.std.specs.Prelude.{◌≡◌, ◌≢◌, ℕ, ◌<◌, ◌+◌, ◌^◌, List, ◌∷◌, ◌++◌, map, length}
use Rattle.std.specs.Prelude.{Option, Some, None, IsSome}
use Rattle.std.specs.List.{All, AllPairs}
use Rattle.std.specs.Map.{lookup}
use Rattle.std.specs.Str.{bytes_eq}
use Rattle.lb_check.specs.declared.verdict.Verdict.{Verdict}
use Rattle.lb_traces.specs.Traces.{IsTraceName}
use Rattle.lb_output.specs.Reports.{instant_of, line, lines, report_of, total}
pub use Rattle.lb_output.specs.Reports.{said, spaced}
use Rattle.lb_listing.specs.declared.entry.Entry.{Entry}
use Rattle.lb_listing.specs.declared.read.ListingError.{ListingError}
use Rattle.lb_listing.specs.declared.read.ListingError.TheVariants.{Memory, Fault}

-- ## The list of a report

-- a trace: its name, and its verdict
abbrev pub Line : Type 0
Line = List ℕ × Verdict

abbrev pub line_of : Entry → Line
line_of e = (e.name.now, e.verdict)

abbrev pub names_of : List Line → List (List ℕ)
names_of listed = map (λ l. l.0) listed

abbrev pub verdicts_of : List Line → List Verdict
verdicts_of listed = map (λ l. l.1) listed

-- the verdict of the trace with a name
abbrev pub verdict_in : List ℕ → List Line → Option Verdict
verdict_in name listed = lookup (bytes_eq name) listed

-- an instant that a trace may have
abbrev pub IsInstant : Option ℕ → Type 0
IsInstant (Some t) = t < 1000000
IsInstant None = Unit {0}

abbrev pub HasInstant : Verdict → Type 0
HasInstant v = IsInstant (instant_of v)

-- a line has a lawful name, and an instant that a trace may have
pub record IsLine (l : Line) : Type 0 where
  pub name : IsTraceName l.0
  pub instant : HasInstant l.1

-- lines that one report may have: no two have one name, and their number fits in 64 bits
pub record IsListing (listed : List Line) : Type 0 where
  pub each : All IsLine listed
  pub distinct : AllPairs (λ a b. a ≢ b) (names_of listed)
  pub count : length listed < 2 ^ 64

-- ## The text

-- the text of a line
abbrev pub spelled : Line → List ℕ
spelled l = line l.0 l.1

-- the text of a line without its end
abbrev pub body : Line → List ℕ
body l = l.0 ++ 32 ∷ said l.1

-- the lines of some traces; and the last line of a report on them
abbrev pub lines_of : List Line → List ℕ
lines_of listed = lines (names_of listed) (verdicts_of listed)

abbrev pub total_of : List Line → List ℕ
total_of listed = total (verdicts_of listed)

-- the report on some traces
abbrev pub report : List Line → List ℕ
report listed = report_of (names_of listed) (verdicts_of listed)

-- a text is the report on these traces
pub record Lists (text : List ℕ) (listed : List Line) : Type 0 where
  pub lawful : IsListing listed
  pub spelled : text ≡ report listed

-- a byte is not in a text
abbrev pub HasNo : ℕ → List ℕ → Type 0
HasNo b text = All (λ c. c ≢ b) text

-- ## Texts that are no reports

-- a text is no report, and this is the first line that shows it, counted from 1. Lines of traces
-- stand before it; it is neither the line of a new trace nor the end of the report
pub record IsFault (text : List ℕ) (number : ℕ) : Type 0 where
  pub before : List Line
  pub rest : List ℕ
  pub reads : text ≡ lines_of before ++ rest
  pub lawful : IsListing before
  pub number_is : number ≡ length before + 1
  pub no_further_trace : (l : Line) (more : List ℕ) → IsLine l → rest ≡ spelled l ++ more
      → IsSome (verdict_in l.0 before)
  pub no_end : rest ≢ total_of before
  pub no_report : (listed : List Line) → ¬ (Lists text listed)

abbrev pub IsRefused : List ℕ → ListingError → Type 0
IsRefused text (Memory e) = Unit {0}
IsRefused text (Fault number) = IsFault text number
