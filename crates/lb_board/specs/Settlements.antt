-- What a trace is settled with, and the word that stands for it.
-- Source: this project's rule.
use Rattle.std.specs.Prelude.{◌≡◌, ℕ, ◌+◌, ◌*◌, ◌/◌, ◌%◌, ◌==◌, if◌then◌else◌, List, [], ◌∷◌}
use Rattle.std.specs.Prelude.{Option, Some, None, ◌++◌, get_or}
use Rattle.std.specs.List.{Contains}
use Rattle.lb_check.specs.declared.verdict.Verdict.{Verdict}
use Rattle.lb_check.specs.declared.verdict.Verdict.TheVariants.{Passed, Fault, Undefined, Assertion}
use Rattle.lb_check.specs.declared.verdict.Verdict.TheVariants.{False}

-- a trace and what it is settled with: its verdict, or None where it failed
abbrev pub Settlement : Type 0
Settlement = ℕ × Option Verdict

-- the word of a settled trace: 1 where it failed, else 8 times the instant of the verdict, plus its
-- kind, as `8 * 5 + 3` for `Fault 5`; the word of an open trace is 0
abbrev pub verdict_word : Verdict → ℕ
verdict_word Passed = 2
verdict_word (Fault t) = 8 * t + 3
verdict_word (Undefined t) = 8 * t + 4
verdict_word (Assertion t) = 8 * t + 5
verdict_word (False t) = 8 * t + 6

abbrev pub word_of : Option Verdict → ℕ
word_of None = 1
word_of (Some v) = verdict_word v

-- the verdict of a kind at an instant
abbrev pub verdict_at : ℕ → ℕ → Verdict
verdict_at kind t =
    if kind == 2
    then Passed
    else (if kind == 3
    then Fault t
    else (if kind == 4
    then Undefined t
    else (if kind == 5 then Assertion t else False t)))

-- the settlement that a word stands for, if it is not 0: a verdict, or None for a trace that failed
abbrev pub told_by : ℕ → Option Verdict
told_by w = if w % 8 == 1 then None else Some (verdict_at (w % 8) (w / 8))

-- a verdict is the right one of trace k; None is always right
abbrev pub IsRight : List Verdict → ℕ → Option Verdict → Type 0
IsRight right k None = Unit {0}
IsRight right k (Some v) = v ≡ get_or right k Passed

-- trace k is known to be settled with this
abbrev pub Knows : List Settlement → ℕ → Option Verdict → Type 0
Knows known k x = Contains known (k, x)

-- nothing is known of trace k
abbrev pub KnowsNothing : List Settlement → ℕ → Type 0
KnowsNothing known k = (x : Option Verdict) → Knows known k x → ⊥

-- `known`, and behind it trace k with what it is settled with
abbrev pub and_one : List Settlement → ℕ → Option Verdict → List Settlement
and_one known k x = known ++ (k, x) ∷ []
