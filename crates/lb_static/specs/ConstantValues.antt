-- The values of constants as a table holds them while they are computed.
-- This file says what data of the program mean; no definition of the language stands on it.
use Rattle.std.specs.Prelude.{◌≡◌, ◌<◌, ℕ, ℤ, Option, None, Some, is_some, List, map, length}
use Rattle.std.specs.Prelude.{slice_get, position}
use Rattle.std.specs.List.{count_by}
use Rattle.std.specs.Str.{bytes_eq}
use Rattle.std.specs.Borrow.{Bor}
use Rattle.lb_syntax.specs.Lists.{◌>>=◌}
use Rattle.lb_syntax.specs.SourceView.{view_constant}
use Rattle.lb_syntax.specs.Tree.{Name, Constant}
use Rattle.lb_syntax.specs.declared.tree.Constant as written
use Rattle.lb_static.specs.StaticValues.{named, value_under, constant_value}

-- the constants behind some references
abbrev pub read_constants : List (Bor written.Constant) → List Constant
read_constants = map (λ k. view_constant k.now)

abbrev pub names_of : List Constant → List Name
names_of = map (λ c. c.name)

-- the value that is held for a name: the item at the place of the name
abbrev pub value_held : List Name → List (Option ℤ) → Name → Option ℤ
value_held names values x = position (bytes_eq x) names >>= λ i. slice_get values i >>= λ v. v

-- the number of values that are held
abbrev pub known : List (Option ℤ) → ℕ
known = count_by is_some

-- The values that are held so far are values of the constants. With `k` values held, each of them
-- needs a chain of at most `k` constants, where each names the next.
pub record IsSound (constants : List Constant) (values : List (Option ℤ)) : Type 0 where
  pub as_many : length values ≡ length constants
  pub is_value : (x : Name) (v : ℤ) → value_held (names_of constants) values x ≡ Some v
      → constant_value constants (known values) x ≡ Some v

-- the constant at place `i` has no value under the values that are held, unless its own is held
abbrev pub IsStable : List Constant → List (Option ℤ) → ℕ → Type 0
IsStable constants values i =
    (c : Constant) → slice_get constants i ≡ Some c → slice_get values i ≡ Some None
    → value_under (value_held (names_of constants) values) c.value ≡ None

abbrev pub AreStable : List Constant → List (Option ℤ) → Type 0
AreStable constants values = (i : ℕ) → i < length constants → IsStable constants values i

-- the first constant of each name in `firsts` is the first of that name in `constants`
abbrev pub AreFirst : List Constant → List Constant → Type 0
AreFirst firsts constants =
    (x : Name) → named (λ c. c.name) x firsts ≡ named (λ c. c.name) x constants
