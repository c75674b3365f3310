-- Counts of rows and levels while the instances of a program are entered.
use Rattle.std.proofs.Common.{◌≡◌, ℕ, suc, ◌+◌, ◌-◌, ◌<◌, ◌≤◌, length, Global, Vec, vec_len, arith}

-- the number of the items of a vector
pub counted_items : {A : Type 0} (v : Vec A Global) (n : ℕ) → n ≡ vec_len v → n ≡ length v.items
counted_items v n e = omega (arith, e, v.ok.0)

-- two vectors of one length
pub as_many_items : {A B : Type 0} (v : Vec A Global) (w : Vec B Global) (i j : ℕ)
    → i ≡ vec_len v → j ≡ vec_len w → i ≡ j → length v.items ≡ length w.items
as_many_items v w i j e f same = omega (arith, e, f, same, v.ok.0, w.ok.0)

-- ## Levels

-- the levels that are left below an instance, where those of the instance are 66 less its level
pub fuel_below : (level : ℕ) → 66 - (level + 1) ≡ 65 - level
fuel_below level = omega arith

pub fuel_here : (level : ℕ) → level ≤ 65 → 66 - level ≡ suc (65 - level)
fuel_here level low = omega arith

pub one_deeper : (k level : ℕ) → k ≡ level → suc k ≡ level + 1
one_deeper k level e = omega arith

-- ## Rows

-- each new specialization has a row of its own
pub few_more : (first before after row rows all : ℕ) → after + rows ≤ before + all
    → before + row ≤ first + rows → after + row ≤ first + all
few_more first before after row rows all more few = omega arith

pub few_done : (first before after old row rows all : ℕ) → row ≡ old
    → before + (row + 1) ≤ first + rows → after ≤ before + 1 → all ≡ rows
    → after + old ≤ first + all
few_done first before after old row rows all place few more same = omega arith

pub still_above : (row rows all : ℕ) → rows < all → row < rows → row < all
still_above row rows all more above = omega arith

pub more_rows : (old row rows all : ℕ) → row ≡ old → row < rows → all ≡ rows → old < all
more_rows old row rows all place above same = omega arith

-- ## Calls

-- the calls of an instance are all entered
pub past_sites : (sites calls items call : ℕ) → calls ≡ sites → items ≡ calls → items ≤ call
    → sites ≤ call
past_sites sites calls items call as_many same past = omega arith
