-- The layout of names and traces in memory.
use Rattle.std.specs.Prelude.{ℕ, ◌≡◌, ◌+◌, ◌-◌, ◌*◌, ◌≤◌, List, [], length, map, get_or, take, drop}
use Rattle.std.specs.Prelude.{ℤ}
use Rattle.std.specs.List.{range_with_len}
use Rattle.std.specs.Str.{IsAscii}
use Rattle.lb_static.specs.Signature.{Elements}
use Rattle.lb_traces.specs.Ledger.{IsLedger, place, last_place}
use Rattle.lb_traces.specs.Traces.{Row, Traces, Recording, IsRecording}

-- names of at most 64 ASCII bytes, one after the other, and the places that part them
pub record AreNames (text ends : List ℕ) : Type 0 where
  pub ledger : IsLedger ends
  pub all : last_place ends ≡ length text
  pub ascii : IsAscii text
  pub short : length text + 64 ≤ 64 * length ends
  pub count : length ends ≤ 1000001

-- row number `r` of the rows of `width` cells that lie one after the other in `cells`
abbrev pub row_of : ℕ → List ℤ → ℕ → Row
row_of width cells r = take width (drop (r * width) cells)

-- the rows from number `from` up to number `to`, without that one
abbrev pub rows_between : ℕ → List ℤ → ℕ → ℕ → List Row
rows_between width cells from to = map (row_of width cells) (range_with_len from (to - from))

-- the traces with these names, whose rows lie in `cells` and are parted by the places `ends`
abbrev pub stored_traces : ℕ → List (List ℕ) → List ℤ → List ℕ → Traces
stored_traces width names cells ends =
    map (λ k. (get_or names k [], rows_between width cells (place ends k) (place ends (k + 1))))
    (range_with_len 0 (length names))

-- the recording that names, cells and places hold under a signature
abbrev pub stored : Elements → List (List ℕ) → List ℤ → List ℕ → Recording
stored elements names cells ends =
    record { signature = elements; traces = stored_traces (length elements) names cells ends }

-- the places part all rows, a part for each name
pub record AreRows (width : ℕ) (names : List (List ℕ)) (cells : List ℤ) (ends : List ℕ)
    : Type 0 where
  pub ledger : IsLedger ends
  pub paired : length ends ≡ length names + 1
  pub all : last_place ends * width ≡ length cells

-- the parts fit one another, and what they hold is lawful
pub record IsStored (elements : Elements) (names : List (List ℕ)) (cells : List ℤ) (ends : List ℕ)
    : Type 0 where
  pub rows : AreRows (length elements) names cells ends
  pub lawful : IsRecording (stored elements names cells ends)
