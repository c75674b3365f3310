-- The record of a trace text that a search finds.
-- Source: this project's rule.
use Rattle.std.specs.Prelude.{◌≡◌, ℕ}
use Rattle.lb_places.specs.declared.records.Goal.{Goal}
use Rattle.lb_places.specs.declared.records.Goal.TheVariants.{Name, Number}

-- a record with this number may be the one that is looked for; a goal by name allows each number
abbrev pub IsNumbered : Goal → ℕ → Type 0
IsNumbered (Number n) number = number ≡ n
IsNumbered (Name name) number = Unit {0}
