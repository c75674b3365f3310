-- Counts of bytes, one after the other.
use Rattle.std.proofs.Common.{◌≡◌, ℕ, ◌+◌, ◌-◌, ◌<◌, ◌≤◌, min, arith}
use Rattle.lb_feed.specs.Counts.{count_more, most_counted}

twice : (limit first between last some more : ℕ) → between ≡ first + min some (limit - first)
    → last ≡ between + min more (limit - between)
    → last ≡ first + min (some + more) (limit - first)
twice limit first between last some more one two = omega arith

none : (limit count : ℕ) → count + min 0 (limit - count) ≡ count
none limit count = omega arith

-- to count `some` bytes and then `more` is to count them together
pub count_more-twice : (first between last some more : ℕ) → between ≡ count_more first some
    → last ≡ count_more between more → last ≡ count_more first (some + more)
count_more-twice first between last some more one two =
    twice most_counted first between last some more one two

-- a count stays where no byte is added
pub count_more-none : (count : ℕ) → count_more count 0 ≡ count
count_more-none count = none most_counted count

-- reads that stopped before `limit` read `count` bytes
count_from : (limit start count at : ℕ) → at ≡ start + min count (limit - start) → at < limit
    → at ≡ start + count
count_from limit start count at is below = omega (arith, is, below)

pub read_from : (start count at : ℕ) → at ≡ count_more start count → at ≤ 1073741824
    → at ≡ start + count
read_from start count at is short =
    count_from 18446744073709551615 start count at is (omega (arith, short))
