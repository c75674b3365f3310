-- Places that cut a list into pieces, one after the other.
use Rattle.std.specs.Prelude.{ℕ, ◌≡◌, ◌+◌, ◌-◌, ◌<◌, List, length, map, get_or}
use Rattle.std.specs.List.{range_with_len, slice_range}

-- the place at an index
abbrev pub place : List ℕ → ℕ → ℕ
place ends k = get_or ends k 0

-- the last place
abbrev pub last_place : List ℕ → ℕ
last_place ends = place ends (length ends - 1)

-- places from 0 on, each greater than the one before it
pub record IsLedger (ends : List ℕ) : Type 0 where
  pub not_empty : 0 < length ends
  pub first : place ends 0 ≡ 0
  pub climbs : (i j : ℕ) → i < j → j < length ends → place ends i < place ends j

-- the values of `f` on each two neighbours of `ends`
abbrev pub pieces : {A : Type 0} → (ℕ → ℕ → A) → List ℕ → List A
pieces f ends =
    map (λ k. f (place ends k) (place ends (k + 1))) (range_with_len 0 (length ends - 1))

-- the pieces of `items` between the places `ends`
abbrev pub cut : List ℕ → List ℕ → List (List ℕ)
cut ends items = pieces (slice_range items) ends
