-- Marked planes within another plane: where one of them is true in a lane, the other plane is.
-- Source: this project's rule.
use Rattle.std.specs.Prelude.{◌≡◌, ℕ, Bool, true, false, List, slice_index_or}
use Rattle.lb_machine.specs.Meaning.{Lane}

-- in a lane, the planes that are marked by their numbers are within plane `q`
abbrev pub AreUnder : Lane → List Bool → ℕ → Type 0
AreUnder s marked q =
    (p : ℕ) → slice_index_or marked p false ≡ true → s.bits p ≡ true → s.bits q ≡ true
