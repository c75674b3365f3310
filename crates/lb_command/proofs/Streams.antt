-- Bytes that a sink took, one text after the other.
use Rattle.std.proofs.Common.{◌≡◌, ℕ, List, [], ◌++◌, Result, Ok, Err, refl, inl, inr}
use Rattle.std.proofs.Common.{◌∷◌, ◌+◌, ◌<◌, ◌≤◌, length, arith}
use Rattle.std.specs.Prelude.{IfErr, OnOk, OnErr}
use Rattle.lb_output.specs.Taken.{Taken, Takes}
use Rattle.lb_output.specs.declared.sink.Sent.{Sent}
use Rattle.lb_output.proofs.SinkBytes.{nothing_by_none, takes_more}
use Rattle.lb_command.specs.Streams.{Change, HasSameWriter, TookOrFailed}
use Rattle.lb_command.specs.Warnings.{IsWarned}

pub then_takes : (a b c : Taken) (x y : List ℕ) → Takes a b x → Takes b c y → Takes a c (x ++ y)
then_takes a b c x y p q = takes_more a b c x y (x ++ y) p q refl

-- a text was written whole where the result is `Ok`, and else the sink failed
pub took_or_failed : {T E : Type 0} (r : Result T E) (c : Change) (text : List ℕ)
    → OnOk r (Takes c.before c.after text) → OnOk r (c.failures_after ≡ c.failures_before)
    → OnErr r (c.failures_before < c.failures_after) → HasSameWriter c → TookOrFailed c text
took_or_failed (Ok x) c text all ok failed same =
    inl (record { all = all; never_failed = ok })
took_or_failed (Err e) c text all ok failed same = inr (record { more = failed; same = same })

-- one failure more is a failure
pub failed_once : {T E : Type 0} (r : Result T E) (before after : ℕ) → OnErr r (after ≡ before + 1)
    → OnErr r (before < after)
failed_once (Ok x) before after once = tt
failed_once (Err e) before after once = omega (arith, once)

-- a call adds at most one failure
pub few_failures : {T E : Type 0} (r : Result T E) (before after : ℕ) → OnOk r (after ≡ before)
    → OnErr r (after ≡ before + 1) → after ≤ before + 1
few_failures (Ok x) before after ok once = omega (arith, ok)
few_failures (Err e) before after ok once = omega (arith, once)

-- `IsWarned` holds of warnings that were written, or on which the sink failed
pub warned : (r : Result (Unit {0}) Sent) (c : Change) (text : List ℕ)
    → OnOk r (Takes c.before c.after text) → OnOk r (c.failures_after ≡ c.failures_before)
    → IfErr r (λ sent. sent.count < length text)
    → OnErr r (c.failures_before < c.failures_after) → HasSameWriter c → IsWarned c text
warned (Ok x) c [] all ok within failed same =
    record { kept = nothing_by_none c.before c.after all; never_failed = ok }
warned (Err e) c [] all ok within failed same = absurd (omega (arith, within))
warned r c (x ∷ xs) all ok within failed same =
    took_or_failed r c (x ∷ xs) all ok failed same
