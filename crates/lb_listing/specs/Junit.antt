-- A report as JUnit XML: a suite, and a test case for each trace.
-- Source: this project's rule, within the schema of the XML that Jenkins reads.
use Rattle.std.specs.Prelude.{ℕ, Bool, true, false, List, [], ◌∷◌, ◌++◌, length, codes, decimal}
use Rattle.std.specs.Prelude.{◌==◌, nat_le, ◌||◌, ◌&&◌, if◌then◌else◌}
use Rattle.std.specs.Prelude.{count_by}
use Rattle.std.specs.Prelude.{flat_map, get_or}
use Rattle.lb_check.specs.declared.verdict.Verdict.{Verdict}
use Rattle.lb_check.specs.declared.verdict.Verdict.TheVariants.{Passed, Fault, Undefined, Assertion}
use Rattle.lb_check.specs.declared.verdict.Verdict.TheVariants.{False}
use Rattle.lb_output.specs.Reports.{is_failure, place_of, words}
use Rattle.lb_listing.specs.Listings.{Line, said}

abbrev pub is_skipped : Verdict → Bool
is_skipped (Assertion t) = true
is_skipped v = false

-- a text between quotes
abbrev pub quoted : List ℕ → List ℕ
quoted text = codes "'" ++ text ++ codes "'"

-- an attribute with a number
abbrev pub counted : (name : List ℕ) → ℕ → List ℕ
counted name n = name ++ quoted (decimal n)

-- the end of the case of a trace that failed, and of one that was not judged to its end
abbrev pub failure : Verdict → List ℕ
failure v = codes "><failure type=" ++ quoted (get_or words (place_of v) [])
    ++ codes " message=" ++ quoted (said v) ++ codes "/></testcase>\n"

abbrev pub skipped : Verdict → List ℕ
skipped v = codes "><skipped message=" ++ quoted (said v) ++ codes "/></testcase>\n"

abbrev pub outcome : Verdict → List ℕ
outcome Passed = codes "/>\n"
outcome (Fault t) = failure (Fault t)
outcome (Undefined t) = failure (Undefined t)
outcome (Assertion t) = skipped (Assertion t)
outcome (False t) = failure (False t)

-- the case of a trace
abbrev pub testcase : (suite : List ℕ) → Line → List ℕ
testcase suite l =
    codes "<testcase classname=" ++ quoted suite ++ codes " name=" ++ quoted l.0 ++ outcome l.1

-- the text before the counts of the suite
abbrev pub head : (suite : List ℕ) → List ℕ
head suite = codes "<?xml version='1.0' encoding='UTF-8'?>\n"
    ++ codes "<testsuites>\n<testsuite name=" ++ quoted suite

abbrev pub counts : (all failed skipped : ℕ) → List ℕ
counts all failed skipped =
    counted (codes " tests=") all ++ counted (codes " failures=") failed
    ++ codes " errors='0'" ++ counted (codes " skipped=") skipped ++ codes ">\n"

-- a byte of a text between tags or quotes: an entity, or `?`, for a byte that cannot stand there as
-- it is
abbrev pub escaped : ℕ → List ℕ
escaped b =
    if b == 38 then codes "&amp;"
    else (if b == 60 then codes "&lt;"
    else (if b == 62 then codes "&gt;"
    else (if b == 39 then codes "&apos;"
    else (if b == 9 || b == 10 || nat_le 32 b && nat_le b 126 then b ∷ [] else codes "?"))))

-- the remarks beside a report, if there are any
abbrev pub said_beside : (remarks : List ℕ) → List ℕ
said_beside [] = []
said_beside (b ∷ bs) = codes "<system-err>" ++ flat_map escaped (b ∷ bs) ++ codes "</system-err>\n"

-- the text of a report on these traces, where the name of the suite is escaped already
abbrev pub junit_named : (suite : List ℕ) → List Line → (remarks : List ℕ) → List ℕ
junit_named suite listed remarks =
    head suite ++ counts (length listed) (count_by (λ l. is_failure l.1) listed)
    (count_by (λ l. is_skipped l.1) listed)
    ++ flat_map (testcase suite) listed ++ said_beside remarks
    ++ codes "</testsuite>\n</testsuites>\n"

-- the text of a report on these traces, with the name of the suite and the remarks beside it
abbrev pub junit_of : (suite : List ℕ) → List Line → (remarks : List ℕ) → List ℕ
junit_of suite listed remarks = junit_named (flat_map escaped suite) listed remarks
