-- Bytes of a text, from a place on.
-- Source: this project's rule.
use Rattle.std.specs.Prelude.{◌≡◌, ℕ, List, ◌++◌, length, Option, Some}

-- `P` holds of the bytes of a text, if they are known
abbrev pub OfKnown : Option (List ℕ) → (List ℕ → Type 0) → Type 0
OfKnown known P = (all : List ℕ) → known ≡ Some all → P all

-- a text has the bytes `range` from place `from` on
pub record HasRange (all : List ℕ) (from : ℕ) (range : List ℕ) : Type 0 where
  pub front : List ℕ
  pub back : List ℕ
  pub whole : all ≡ front ++ (range ++ back)
  pub place : length front ≡ from

-- `new` is `old`, and behind it `count` bytes of a text, from place `from` on
pub record IsExtended (all : List ℕ) (from count : ℕ) (old new : List ℕ) : Type 0 where
  pub range : List ℕ
  pub has : HasRange all from range
  pub many : length range ≡ count
  pub whole : new ≡ old ++ range
