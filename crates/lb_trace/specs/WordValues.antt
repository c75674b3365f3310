-- Numbers of at most eight bytes, which are the highest bytes of words.
-- This file says what the code finds in a text; no definition of the language stands on it.
use Rattle.std.specs.Prelude.{ℕ, ◌-◌, ◌%◌, ◌==◌, Bool, if◌then◌else◌, map, ℤ, pos, neg_ℤ}
use Rattle.std.specs.List.{list_any}
use Rattle.lb_trace.specs.Fronts.{bytes_of, joined}

-- whether a word has a minus sign
unfoldable pub has_minus : ℕ → Bool
has_minus word = list_any (λ b. b == 45) (bytes_of word)

-- the number that the digits of a word spell
unfoldable pub eight_of : ℕ → ℕ
eight_of word = joined (map (λ b. b - 48) (bytes_of word))

-- a number with its sign
abbrev pub signed_by : Bool → ℕ → ℤ
signed_by minus n = if minus then neg_ℤ (pos n) else pos n

-- the value of a word
abbrev pub value_in : ℕ → ℤ
value_in word = signed_by (has_minus word) (eight_of word)

-- `n` in two's complement of 32 bits, negated where `mark` is not 0
abbrev pub turned : ℕ → ℕ → ℕ
turned mark n = if mark == 0 then n else (4294967296 - n) % 4294967296
