-- Numbers that are drawn, each once.
-- Source: this project's rule.
use Rattle.std.specs.Prelude.{◌≡◌, ℕ, List, cond, count_by, ◌==◌, nat_lt}

-- the number of times that x stands in a list
abbrev pub times : ℕ → List ℕ → ℕ
times x xs = count_by (λ y. y == x) xs

-- 1 where x is below n, else 0
abbrev pub once_below : ℕ → ℕ → ℕ
once_below x n = cond (nat_lt x n) 1 0

-- the numbers below n stand in a list, each once, and no others
abbrev pub AreAllBelow : ℕ → List ℕ → Type 0
AreAllBelow n xs = (x : ℕ) → times x xs ≡ once_below x n
