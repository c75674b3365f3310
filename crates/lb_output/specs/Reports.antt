-- The report: a line for each trace, a last line that counts, and the status.
-- Source: this project's rule.
use Rattle.std.specs.Prelude.{◌≡◌, ℕ, Bool, true, false, ◌==◌, if◌then◌else◌, Option, Some, None}
use Rattle.std.specs.Prelude.{List, [], ◌∷◌, ◌++◌, length, codes, decimal, count_by, flat_map}
use Rattle.std.specs.Prelude.{get_or}
use Rattle.std.specs.List.{list_any, range_with_len}
use Rattle.lb_check.specs.declared.verdict.Verdict.{Verdict}
use Rattle.lb_check.specs.declared.verdict.Verdict.TheVariants.{Passed, Fault, Undefined, Assertion}
use Rattle.lb_check.specs.declared.verdict.Verdict.TheVariants.{False}
use Rattle.lb_output.specs.declared.text.Report.{Report}

-- the words for verdicts, in the order of the last line
abbrev pub words : List (List ℕ)
words =
    codes "passed" ∷ codes "fault" ∷ codes "undefined" ∷ codes "assertion" ∷ codes "false" ∷ []

-- the place of a verdict's word among the words
abbrev pub place_of : Verdict → ℕ
place_of Passed = 0
place_of (Fault t) = 1
place_of (Undefined t) = 2
place_of (Assertion t) = 3
place_of (False t) = 4

-- the instant that decided a verdict, if one did
abbrev pub instant_of : Verdict → Option ℕ
instant_of Passed = None
instant_of (Fault t) = Some t
instant_of (Undefined t) = Some t
instant_of (Assertion t) = Some t
instant_of (False t) = Some t

-- the verdicts that make a run fail
abbrev pub is_failure : Verdict → Bool
is_failure Passed = false
is_failure (Fault t) = true
is_failure (Undefined t) = true
is_failure (Assertion t) = false
is_failure (False t) = true

-- ## The text

-- a space and a number in decimal
abbrev pub number : ℕ → List ℕ
number n = codes " " ++ decimal n

-- a space and one of the words
abbrev pub word : ℕ → List ℕ
word place = codes " " ++ get_or words place []

-- the instant of a line, if it has one
abbrev pub instant : Option ℕ → List ℕ
instant (Some t) = number t
instant None = []

-- the text of a verdict, as `false 21`; and behind a space
abbrev pub said : Verdict → List ℕ
said v = get_or words (place_of v) [] ++ instant (instant_of v)

abbrev pub spaced : Verdict → List ℕ
spaced v = word (place_of v) ++ instant (instant_of v)

-- the line of a trace
abbrev pub line : List ℕ → Verdict → List ℕ
line name v = name ++ word (place_of v) ++ instant (instant_of v) ++ codes "\n"

-- the lines of traces with these names and verdicts
abbrev pub lines : List (List ℕ) → List Verdict → List ℕ
lines [] verdicts = []
lines (name ∷ names) [] = []
lines (name ∷ names) (v ∷ verdicts) = line name v ++ lines names verdicts

-- the number of verdicts whose word is at `place`
abbrev pub count_of : List Verdict → ℕ → ℕ
count_of verdicts place = count_by (λ v. place_of v == place) verdicts

-- one of the words, and the number of verdicts that have it
abbrev pub counted : List Verdict → ℕ → List ℕ
counted verdicts place = word place ++ number (count_of verdicts place)

-- the last line
abbrev pub total : List Verdict → List ℕ
total verdicts =
    codes "total" ++ number (length verdicts)
    ++ flat_map (counted verdicts) (range_with_len 0 (length words)) ++ codes "\n"

-- the report on traces with these names and verdicts
abbrev pub report_of : List (List ℕ) → List Verdict → List ℕ
report_of names verdicts = lines names verdicts ++ total verdicts

-- ## The status

-- 1 where a verdict is a fault, undefined or false, else 0
abbrev pub status_of : List Verdict → ℕ
status_of verdicts = if list_any is_failure verdicts then 1 else 0

-- a report on traces with these names and verdicts
pub record IsReport (names : List (List ℕ)) (verdicts : List Verdict) (report : Report)
    : Type 0 where
  pub text : report.text.items ≡ report_of names verdicts
  pub status : report.status ≡ status_of verdicts
