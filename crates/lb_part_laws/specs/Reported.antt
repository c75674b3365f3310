-- Reports on several texts.
-- Source: this project's rule.
use Rattle.std.specs.Prelude.{List, ℕ, map}
use Rattle.std.specs.List.{AllZip}
use Rattle.lb_syntax.specs.Tokens.{Text}
use Rattle.lb_output.specs.declared.text.Report.{Report}
use Rattle.lb_report.specs.Bench.{IsBenchReport}
use Rattle.lb_refusal.specs.declared.options.Options.{Options}

-- each report is one on the text at its place, with one source and one set of options
abbrev pub AreReportsOn : (source : Text) → Options → (texts : List Text) → List Report → Type 0
AreReportsOn source options texts reports =
    AllZip (λ text report. IsBenchReport source text options report) texts reports

-- the texts of some reports
abbrev pub texts_in : List Report → List (List ℕ)
texts_in reports = map (λ report. report.text.items) reports
