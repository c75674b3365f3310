-- The bound of a static value: its distance from zero.
-- This file says what data of the program mean; no definition of the language stands on it.
use Rattle.std.specs.Prelude.{ℤ, unsigned_abs, ◌<◌, ◌^◌}

-- a value no farther from zero than the greatest number token in a tree, which 32 bits hold;
-- arithmetic on such values gives such values
abbrev pub IsWithinWord : ℤ → Type 0
IsWithinWord z = unsigned_abs z < 2 ^ 32
