-- The instant that decides a verdict.
-- Source: this project's rule.
use Rattle.std.specs.Prelude.{ℕ, Option, Some, None}
use Rattle.lb_check.specs.declared.verdict.Verdict.{Verdict}
use Rattle.lb_check.specs.declared.verdict.Verdict.TheVariants.{Passed, Fault, Undefined, Assertion}
use Rattle.lb_check.specs.declared.verdict.Verdict.TheVariants.{False}

-- the instant that decides a verdict, if one does
abbrev pub deciding : Verdict → Option ℕ
deciding Passed = None
deciding (Fault t) = Some t
deciding (Undefined t) = Some t
deciding (Assertion t) = Some t
deciding (False t) = Some t
