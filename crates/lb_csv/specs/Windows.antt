-- The instants of a trace that are shown.
-- Source: this project's rule.
use Rattle.std.specs.Prelude.{ℕ, ◌+◌, ◌-◌, min, Option, Some, None}

-- the instant behind the last one that is shown, of a trace of `count` instants
abbrev pub end_at : Option ℕ → ℕ → ℕ
end_at None count = count
end_at (Some t) count = min count (t + 1)

-- the first instant that is shown: the first of all, or of the `last` instants before `end`
abbrev pub first_at : Option ℕ → ℕ → ℕ
first_at None end = 0
first_at (Some last) end = end - last
