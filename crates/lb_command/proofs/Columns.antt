-- The names in a header.
use Rattle.std.proofs.Common.{◌≡◌, ◌∙◌, ◌+◌, ◌++◌, ◌∷◌, ℕ, List, [], Some, get_or, take, length}
use Rattle.std.proofs.Common.{ap, append-nil, append_assoc, sym}
use Rattle.std.proofs.lemmas.Grind.{flat_map-append}
use Rattle.std.proofs.lemmas.List.{take_more}
use Rattle.std.proofs.lemmas.Option.{get_or_from_slice_get, slice_get_within}
use Rattle.std.specs.List.{flat_map, slice_get}
use Rattle.clap.specs.Words.{Text}

-- a name with the comma before it
abbrev pub column : Text → Text
column name = 44 ∷ name

-- the columns of `i + 1` names are those of `i` names, and then the column of the next one
pub columns_more : (names : List Text) (i : ℕ) (name : Text) → slice_get names i ≡ Some name
    → flat_map column (take (i + 1) names) ≡ flat_map column (take i names) ++ column name
columns_more names i name at =
    ap (flat_map column) (take_more names i name (slice_get_within names i name at))
    ∙ flat_map-append column (take i names) (get_or names i name ∷ [])
    ∙ ap (λ more. flat_map column (take i names) ++ more)
    (append-nil (column (get_or names i name))
    ∙ ap column (get_or_from_slice_get names i name name at))

-- a text with the columns of `i` names, then a comma and the next name, has `i + 1` columns
pub columns_put : (front : Text) (names : List Text) (i : ℕ) (name before between after : Text)
    → slice_get names i ≡ Some name → before ≡ front ++ flat_map column (take i names)
    → between ≡ before ++ 44 ∷ [] → after ≡ between ++ name
    → after ≡ front ++ flat_map column (take (i + 1) names)
columns_put front names i name before between after at is comma put =
    put ∙ ap (λ t. t ++ name) (comma ∙ ap (λ t. t ++ 44 ∷ []) is)
    ∙ append_assoc (front ++ flat_map column (take i names)) (44 ∷ []) name
    ∙ append_assoc front (flat_map column (take i names)) (column name)
    ∙ ap (λ more. front ++ more) (sym (columns_more names i name at))
