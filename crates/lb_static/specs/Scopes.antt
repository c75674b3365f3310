-- The declared names after one more declaration, and the places of names.
-- This file says what data of the program mean; no definition of the language stands on it.
use Rattle.std.specs.Prelude.{◌≡◌, ℕ, true, List, [], ◌∷◌, ◌++◌, if◌then◌else◌, position, String}
use Rattle.std.specs.BTreeMap.{BTreeMap, get_by_text}
use Rattle.std.specs.Str.{bytes_eq}
use Rattle.lb_syntax.specs.Tree.{Name}
use Rattle.lb_static.specs.Names.{are_distinct}
use Rattle.lb_static.specs.Parts.{among}

-- the names after one more declaration: a name that is there stays where it is
abbrev pub declared_after : List Name → Name → List Name
declared_after names x = if among x names then names else names ++ x ∷ []

-- the names are distinct, and a map has the place of each of them
abbrev pub ArePlaced : {A : Type 0} → List Name → BTreeMap (String A) ℕ → Type 0
ArePlaced names places =
    (are_distinct names ≡ true)
    × ((q : Name) → get_by_text places q ≡ position (bytes_eq q) names)
