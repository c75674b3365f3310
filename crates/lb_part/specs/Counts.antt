-- Numbers of parts.
-- Source: this project's rule.
use Rattle.std.specs.Prelude.{◌≡◌, ℕ, ◌*◌, ◌/◌, ◌<◌, ◌≤◌, List}
use Rattle.std.specs.Str.Parse.{IsNumeral, digits_value}

-- ASCII digits alone that spell a number of parts
pub record IsCount (digits : List ℕ) (n : ℕ) : Type 0 where
  pub numeral : IsNumeral 10 digits
  pub value : digits_value 10 digits ≡ n
  pub some : 0 < n
  pub few : n ≤ 65536

-- the end of the first `parts` of `count` parts of `bytes` bytes
abbrev pub reach : (parts count bytes : ℕ) → ℕ
reach parts count bytes = bytes * parts / count
