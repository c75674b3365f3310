-- The paths that the words name.
use Rattle.std.proofs.Common.{◌≡◌, ℕ, List, Option, None, Some, refl, subst}
use Rattle.std.specs.Prelude.{IsSome, option_map}
use Rattle.std.specs.Borrow.{Bor}

-- a path has a text
pub path_some : (path : Option (Bor (List ℕ))) (text : Option (List ℕ))
    → option_map (λ s. s.now) path ≡ text → IsSome path → IsSome text
path_some None text is some = cc some
path_some (Some p) text is some = subst (λ (o : Option (List ℕ)). IsSome o) is refl
