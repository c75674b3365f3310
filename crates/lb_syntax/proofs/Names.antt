-- The view of a name is the name itself.
use Rattle.std.proofs.Common.{◌≡◌, List, map}
use Rattle.std.proofs.lemmas.List.{map-id}
use Rattle.lb_syntax.specs.Tree.{Name}

pub same : (xs : List Name) → map (λ x. x) xs ≡ xs
same xs = map-id xs
