-- The word of a settled trace stands for what the trace is settled with.
use Rattle.std.proofs.Common.{◌≡◌, ℕ, ◌+◌, ◌*◌, ◌/◌, ◌%◌, ◌<◌, ◌==◌, if◌then◌else◌, refl, sym}
use Rattle.std.proofs.Common.{ap, ap₂, ◌∙◌, arith, lit<}
use Rattle.std.specs.Prelude.{Option, Some, None}
use Rattle.lb_check.specs.declared.verdict.Verdict.{Verdict}
use Rattle.lb_check.specs.declared.verdict.Verdict.TheVariants.{Passed, Fault, Undefined, Assertion}
use Rattle.lb_check.specs.declared.verdict.Verdict.TheVariants.{False}
use Rattle.lb_board.specs.Settlements.{word_of, verdict_at, told_by}

by_kind :
    (t kind : ℕ) → kind < 8 →
    told_by (8 * t + kind) ≡ (if kind == 1 then None else Some (verdict_at kind t))
by_kind t kind h =
    let e : (8 * t + kind) % 8 ≡ kind = omega (arith, h) in
    let f : (8 * t + kind) / 8 ≡ t = omega (arith, h) in
    ap₂ (λ (k i : ℕ). if k == 1 then None else Some (verdict_at k i)) e f

pub told_word : (x : Option Verdict) → told_by (word_of x) ≡ x
told_word None = refl
told_word (Some Passed) = refl
told_word (Some (Fault t)) = by_kind t 3 (lit< tt)
told_word (Some (Undefined t)) = by_kind t 4 (lit< tt)
told_word (Some (Assertion t)) = by_kind t 5 (lit< tt)
told_word (Some (False t)) = by_kind t 6 (lit< tt)

pub word_some : (x : Option Verdict) → 0 < word_of x
word_some None = lit< tt
word_some (Some Passed) = lit< tt
word_some (Some (Fault t)) = omega arith
word_some (Some (Undefined t)) = omega arith
word_some (Some (Assertion t)) = omega arith
word_some (Some (False t)) = omega arith

-- a word of a settlement is the word of what `told_by` reads from it
pub word_told : (w : ℕ) (x : Option Verdict) → w ≡ word_of x → w ≡ word_of (told_by w)
word_told w x e = e ∙ ap word_of (sym (ap told_by e ∙ told_word x))

pub same_word : (x y : Option Verdict) → word_of x ≡ word_of y → x ≡ y
same_word x y e = sym (told_word x) ∙ ap told_by e ∙ told_word y
