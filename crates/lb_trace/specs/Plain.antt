-- The records of a text without quotes.
-- Source: this project's rule, proved equal to the csv crate's specification.
use Rattle.std.specs.Prelude.{ℕ, Bool, true, false, ◌==◌, ◌||◌, if◌then◌else◌, List, [], ◌∷◌, map}
use Rattle.std.specs.List.{filter, list_any}

-- some parts, with one more byte at the front of the first
abbrev pub at_front : ℕ → List (List ℕ) → List (List ℕ)
at_front b [] = (b ∷ []) ∷ []
at_front b (part ∷ more) = (b ∷ part) ∷ more

-- the parts of a text between the bytes that the test picks, which are left out
unfoldable pub split_at : (ℕ → Bool) → List ℕ → List (List ℕ)
split_at picks [] = [] ∷ []
split_at picks (b ∷ rest) =
    if picks b then [] ∷ split_at picks rest else at_front b (split_at picks rest)

-- a carriage return or a line feed
abbrev pub ends_line : ℕ → Bool
ends_line b = (b == 13) || (b == 10)

abbrev pub is_comma : ℕ → Bool
is_comma b = b == 44

abbrev pub is_quote : ℕ → Bool
is_quote b = b == 34

abbrev pub is_filled : List ℕ → Bool
is_filled [] = false
is_filled (b ∷ rest) = true

-- the records of a text without quotes: its lines, but for empty ones, each cut at its commas
unfoldable pub plain_records : List ℕ → List (List (List ℕ))
plain_records text = map (split_at is_comma) (filter is_filled (split_at ends_line text))

abbrev pub has_quote : List ℕ → Bool
has_quote text = list_any is_quote text
