-- What is known of a call's result that is returned as it is.
use Rattle.std.proofs.Common.{ℕ, ◌≤◌, ◌+◌, Result, Ok, Err, IfOk, OnOk, arith}
use Rattle.std.proofs.lemmas.Result.{on_ok_weaker}
use Rattle.lb_machine.specs.Correct.{AddsAtMost}
use Rattle.lb_machine.specs.declared.code.Code.{Code}

-- a call that adds at most `m` planes and words adds at most `n`
pub few_more : {T E : Type 0} (r : Result T E) (a b : Code) (m n : ℕ) → m ≤ n →
    OnOk r (AddsAtMost a b m) → OnOk r (AddsAtMost a b n)
few_more r a b m n le h = on_ok_weaker r (λ (few : AddsAtMost a b m). omega (arith, few, le)) h

-- `m` planes and words, and then `n` more, are at most `k` together
pub few_then : {T E : Type 0} (r : Result T E) (a b c : Code) (m n k : ℕ) → m + n ≤ k →
    AddsAtMost a b m → OnOk r (AddsAtMost b c n) → OnOk r (AddsAtMost a c k)
few_then r a b c m n k le first h =
    on_ok_weaker r (λ (few : AddsAtMost b c n). omega (arith, first, few, le)) h

-- two facts about what a call returned make a third
pub if_ok_both : {T E : Type 0} (r : Result T E) (G : Type 0) (P Q : T → Type 0) →
    ((x : T) → G → P x → Q x) → OnOk r G → IfOk r P → IfOk r Q
if_ok_both (Ok x) G P Q made g h = made x g h
if_ok_both (Err e) G P Q made g h = tt
