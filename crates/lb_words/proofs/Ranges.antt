-- An option that holds a value is `Some` of it.
use Rattle.std.proofs.Common.{◌≡◌, Option, Some, None, ap}
use Rattle.std.specs.Option.{IsSomeAnd}

pub some_is : {T : Type 0} (o : Option T) (v : T) → IsSomeAnd o (λ x. x ≡ v) → o ≡ Some v
some_is None v h = absurd h
some_is (Some x) v h = ap Some h
