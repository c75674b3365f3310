-- The differences between a report and an earlier one.
-- Source: this project's rule.
use Rattle.std.specs.Prelude.{ℕ, Bool, false, ◌&&◌, ◌||◌, ◌++◌, List, [], codes}
use Rattle.std.specs.Prelude.{Option, Some, None, is_some, not, count_by, flat_map, if◌then◌else◌}
use Rattle.std.specs.List.{list_any}
use Rattle.lb_check.specs.declared.verdict.Verdict.{Verdict}
use Rattle.lb_output.specs.Reports.{number}
use Rattle.lb_listing.specs.Listings.{Line, spaced, verdict_in}
use Rattle.lb_listing.specs.Verdicts.{fails, fails_without_traces, is_empty, is_passed, is_same}
use Rattle.lb_listing.specs.declared.status.Measure.{Measure}

-- ## A trace of the report, and its verdict in an earlier report

abbrev pub is_kept_by : Option Verdict → Verdict → Bool
is_kept_by None now = false
is_kept_by (Some before) now = is_same before now

abbrev pub is_changed_by : Option Verdict → Verdict → Bool
is_changed_by None now = false
is_changed_by (Some before) now = not (is_same before now)

-- the trace passed before, or is new, and fails now
abbrev pub is_setback_by : Measure → Option Verdict → Verdict → Bool
is_setback_by measure None now = fails measure now
is_setback_by measure (Some before) now = is_passed before && fails measure now

abbrev pub is_kept : (before : List Line) → Line → Bool
is_kept before l = is_kept_by (verdict_in l.0 before) l.1

abbrev pub is_changed : (before : List Line) → Line → Bool
is_changed before l = is_changed_by (verdict_in l.0 before) l.1

-- a report has no trace of this name: the trace is new, or one of the earlier report that is gone
abbrev pub is_missing : (from : List Line) → Line → Bool
is_missing from l = not (is_some (verdict_in l.0 from))

abbrev pub is_setback : Measure → (before : List Line) → Line → Bool
is_setback measure before l = is_setback_by measure (verdict_in l.0 before) l.1

-- ## The text

abbrev pub new_line : Line → List ℕ
new_line l = codes "new: " ++ l.0 ++ spaced l.1 ++ codes "\n"

abbrev pub changed_line : Line → Verdict → List ℕ
changed_line l before =
    codes "changed: " ++ l.0 ++ spaced before ++ codes " ->" ++ spaced l.1 ++ codes "\n"

abbrev pub gone_line : Line → List ℕ
gone_line l = codes "gone: " ++ l.0 ++ spaced l.1 ++ codes "\n"

-- the line of a trace that changed or is new; nothing for any other trace
abbrev pub change_by : Line → Option Verdict → List ℕ
change_by l None = new_line l
change_by l (Some before) = if is_same before l.1 then [] else changed_line l before

abbrev pub change : (before : List Line) → Line → List ℕ
change before l = change_by l (verdict_in l.0 before)

-- the line of a trace that is gone; nothing for any other trace
abbrev pub loss : (now : List Line) → Line → List ℕ
loss now l = if is_missing now l then gone_line l else []

-- a word and a number
abbrev pub counted : (word : List ℕ) → ℕ → List ℕ
counted word n = word ++ number n

-- the counts of the traces that are the same, changed, new and gone
abbrev pub counts : (before now : List Line) → List ℕ
counts before now =
    counted (codes "baseline: same") (count_by (is_kept before) now)
    ++ counted (codes " changed") (count_by (is_changed before) now)
    ++ counted (codes " new") (count_by (is_missing before) now)
    ++ counted (codes " gone") (count_by (is_missing now) before) ++ codes "\n"

abbrev pub changes : (before now : List Line) → List ℕ
changes before now = flat_map (change before) now

abbrev pub losses : (before now : List Line) → List ℕ
losses before now = flat_map (loss now) before

-- the text of a comparison: a line for each trace that changed or is new, in the order of the
-- report; then one for each that is gone, in the order of the earlier report; then the counts
abbrev pub text_of : (before now : List Line) → List ℕ
text_of before now = changes before now ++ losses before now ++ counts before now

-- ## The status

-- 1 where some trace that passed before, or is new, fails now, or where the run fails because it
-- has no trace; else 0
abbrev pub status_of : Measure → (before now : List Line) → ℕ
status_of measure before now =
    if list_any (is_setback measure before) now || (is_empty now && fails_without_traces measure)
    then 1 else 0
