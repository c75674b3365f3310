-- Counts of bytes.
-- Source: this project's rule.
use Rattle.std.specs.Prelude.{ℕ, ◌+◌, ◌-◌, min}

-- the largest count; it stands for all larger ones too
abbrev pub most_counted : ℕ
most_counted = 18446744073709551615

-- the count `before` and `bytes` more, up to the largest count
abbrev pub count_more : (before bytes : ℕ) → ℕ
count_more before bytes = before + min bytes (most_counted - before)
