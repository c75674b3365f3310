-- One round of the transposition of 64 words of 64 bits.
use Rattle.std.specs.Prelude.{◌≡◌, ℕ, ◌+◌, ◌-◌, ◌*◌, ◌/◌, ◌%◌, ◌<◌, ◌==◌, ◌&&◌, ◌||◌, Bool, true}
use Rattle.std.specs.Prelude.{not, List, nat_le, nat_lt, slice_index, if◌then◌else◌}
use Rattle.lb_lanes.specs.Planes.{on}

-- A round with the shift s, a power of 2, turns the six bits of the row's number by one place to
-- the left. In place of the bit that leaves at the top comes the bit of weight s of the column's
-- number, and the other way round. So the bit at row r and column c comes from this row and column:
abbrev pub row_from : ℕ → ℕ → ℕ → ℕ
row_from s r c = r / 2 + 32 * (c / s % 2)

abbrev pub column_from : ℕ → ℕ → ℕ → ℕ
column_from s r c = c + s * (r % 2) - s * (c / s % 2)

abbrev pub IsRound : ℕ → List ℕ → List ℕ → Type 0
IsRound s old new =
    (r c : ℕ) → r < 64 → c < 64
    → on (slice_index new r) c ≡ on (slice_index old (row_from s r c)) (column_from s r c)

-- column c, under a mask of the columns whose number has no bit of weight s
abbrev pub is_masked : ℕ → ℕ → ℕ → Bool
is_masked s mask c =
    if c / s % 2 == 0 then on mask c && (nat_lt c s || not (on mask (c - s)))
    else (nat_le s c && on mask (c - s)) && not (on mask c)

abbrev pub IsMask : ℕ → ℕ → Type 0
IsMask s mask = (c : ℕ) → c < 64 → is_masked s mask c ≡ true
