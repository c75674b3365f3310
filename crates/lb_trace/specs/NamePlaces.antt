-- The places of names in a table: each name has one of the two that its hashes give, unless other
-- names were there before it.
-- Source: this project's rule.
use Rattle.std.specs.Prelude.{◌≡◌, ◌≢◌, ℕ, ◌+◌, ◌*◌, ◌/◌, ◌^◌, ◌<◌, ◌≤◌, ◌⊎◌, Bool, true, List}
use Rattle.std.specs.Prelude.{[], ◌∷◌, length, get_or}
use Rattle.std.specs.Hash.FoldHasher.{finish, initial, write}
use Rattle.std.specs.List.{list_any}
use Rattle.std.specs.Str.{bytes_eq}

-- the two hashes of a name: the second one is the hash of the bytes of "second" and then the name
abbrev pub first_hash : List ℕ → ℕ
first_hash name = finish (write initial name)

abbrev pub second_hash : List ℕ → ℕ
second_hash name =
    finish (write (write initial (115 ∷ 101 ∷ 99 ∷ 111 ∷ 110 ∷ 100 ∷ [])) name)

-- the place, of `count` places, that a hash gives
abbrev pub place_among : ℕ → ℕ → ℕ
place_among count hash = hash / 2 ^ 32 * count / 2 ^ 32

abbrev pub first_among : ℕ → List ℕ → ℕ
first_among count name = place_among count (first_hash name)

abbrev pub second_among : ℕ → List ℕ → ℕ
second_among count name = place_among count (second_hash name)

-- the numbers that stand at the two places of a name
abbrev pub at_first : List ℕ → List ℕ → ℕ
at_first places name = get_or places (first_among (length places) name) 0

abbrev pub at_second : List ℕ → List ℕ → ℕ
at_second places name = get_or places (second_among (length places) name) 0

-- each of the first `n` names stands, by its number counted from 1, at its first place; or, where
-- another name stands there, at its second place; or, where another name stands there too, it is
-- among the others; each of the others is one of `names`
pub record HavePlaces (places : List ℕ) (has : List ℕ → Bool) (names : List (List ℕ)) (n : ℕ) :
    Type 0 where
  pub within : (i : ℕ) → get_or places i 0 ≤ n
  pub first : (k : ℕ) → k < n → at_first places (get_or names k []) ≢ 0
  pub second :
      (k : ℕ) → k < n →
      (at_first places (get_or names k []) ≡ k + 1) ⊎ (at_second places (get_or names k []) ≢ 0)
  pub found :
      (k : ℕ) → k < n →
      (at_first places (get_or names k []) ≡ k + 1)
      ⊎ ((at_second places (get_or names k []) ≡ k + 1) ⊎ (has (get_or names k []) ≡ true))
  pub others : (q : List ℕ) → has q ≡ true → list_any (bytes_eq q) names ≡ true
