-- Verdicts that are the same, and verdicts that make a run fail.
-- Source: this project's rule.
use Rattle.std.specs.Prelude.{ℕ, Bool, true, false, ◌==◌, ◌&&◌, ◌||◌, not, if◌then◌else◌, List}
use Rattle.std.specs.Prelude.{length}
use Rattle.std.specs.List.{list_any}
use Rattle.lb_check.specs.declared.verdict.Verdict.{Verdict}
use Rattle.lb_check.specs.declared.verdict.Verdict.TheVariants.{Passed, Fault, Undefined, Assertion}
use Rattle.lb_check.specs.declared.verdict.Verdict.TheVariants.{False}
use Rattle.lb_output.specs.Reports.{is_failure}
use Rattle.lb_listing.specs.Listings.{Line}
use Rattle.lb_listing.specs.declared.status.Measure.{Measure}
use Rattle.lb_listing.specs.declared.status.Measure.TheVariants.{Lenient, Strict}

-- two verdicts are the same, and so are their instants
abbrev pub is_same : Verdict → Verdict → Bool
is_same Passed Passed = true
is_same (Fault s) (Fault t) = s == t
is_same (Undefined s) (Undefined t) = s == t
is_same (Assertion s) (Assertion t) = s == t
is_same (False s) (False t) = s == t
is_same v w = false

abbrev pub is_passed : Verdict → Bool
is_passed Passed = true
is_passed v = false

-- the verdicts that make a run fail; under the strict measure a broken assumption too
abbrev pub fails : Measure → Verdict → Bool
fails Lenient v = is_failure v
fails Strict v = not (is_passed v)

-- whether a run fails that has no trace at all
abbrev pub fails_without_traces : Measure → Bool
fails_without_traces Lenient = false
fails_without_traces Strict = true

abbrev pub is_empty : {A : Type 0} → List A → Bool
is_empty xs = length xs == 0

-- 1 where a run with these traces fails, else 0
abbrev pub status_of : Measure → List Line → ℕ
status_of measure listed =
    if list_any (λ l. fails measure l.1) listed || (is_empty listed && fails_without_traces measure)
    then 1 else 0
