-- Errors that are passed on.
use Rattle.std.proofs.Common.{◌≡◌, subst, sym}
use Rattle.std.specs.Prelude.{Err, IfErr, Ok, Result}
use Rattle.std.specs.Result.{IsErrAnd}

-- an error that a `?` passes on
pub passes_on : {T E : Type 0} (r : Result T E) (first : E) (P : E → Type 0)
    → IsErrAnd r (λ e. e ≡ first) → P first → IfErr r P
passes_on (Ok x) first P same p = tt
passes_on (Err e) first P same p = subst P (sym same) p
