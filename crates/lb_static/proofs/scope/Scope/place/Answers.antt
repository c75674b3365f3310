-- The place in the map is the place in the names.
use Rattle.std.proofs.Common.{◌≡◌, ◌∙◌, ◌<◌, ℕ, Bool, List, Option, Some, None, length, ap, sym}
use Rattle.std.specs.Prelude.{IfSome, position}
use Rattle.std.specs.Str.{bytes_eq}
use Rattle.lb_static.proofs.NodeScopes.{position_within}
use Rattle.lb_static.proofs.scope.Scope.place.Goals as goal

within : {A : Type 0} (p : A → Bool) (xs : List A) (o : Option ℕ) → o ≡ position p xs
    → IfSome o (λ i. i < length xs)
within p xs None e = tt
within p xs (Some i) e = position_within p xs i (sym e)

pub returns-clause-value : goal.returns-clause-value
returns-clause-value c =
    c.copied.ensures ∙ c.get.ensures.value ∙ c.self.invariant.1 c.args.name.now
    ∙ ap (position (bytes_eq c.args.name.now)) c.self.view_is

pub returns-clause-within : goal.returns-clause-within
returns-clause-within c =
    within (bytes_eq c.args.name.now) c.args.self.now c.copied.result
    (c.copied.ensures ∙ c.get.ensures.value ∙ c.self.invariant.1 c.args.name.now
    ∙ ap (position (bytes_eq c.args.name.now)) c.self.view_is)
