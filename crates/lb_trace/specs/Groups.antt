-- Columns in groups that are read at once.
-- This file says what data of the program mean; no definition of the language stands on it.
use Rattle.std.specs.Prelude.{ℕ, ◌≡◌, ◌<◌, ◌≤◌, List, [], ◌∷◌, drop, get_or, length}
use Rattle.lb_syntax.specs.declared.tree.Kind.TheVariants as kind
use Rattle.lb_trace.specs.declared.groups.Group.{Group}
use Rattle.lb_trace.specs.declared.groups.Group.TheVariants.{Numbers, Truths}
use Rattle.lb_trace.specs.declared.header.Column.{Column}
use Rattle.lb_trace.specs.Numbers.{AreIntegers}

-- the number of columns of a group
abbrev pub width_of : Group → ℕ
width_of Numbers = 4
width_of (Truths n) = n

-- the first `n` columns hold Booleans
abbrev pub AreBooleans : ℕ → List Column → Type 0
AreBooleans n columns =
    (k : ℕ) (d : Column) → k < n → (get_or columns k d).kind ≡ kind.Bool

-- the first columns are those of a group: four of integers, or 1 to 16 of Booleans
abbrev pub IsGroup : Group → List Column → Type 0
IsGroup Numbers columns = AreIntegers columns
IsGroup (Truths n) columns = (0 < n) × (n ≤ 16) × (n ≤ length columns) × AreBooleans n columns

-- groups, one after the other, are those of the first columns
abbrev pub AllGroups : List Group → List Column → Type 0
AllGroups [] columns = Unit {0}
AllGroups (group ∷ groups) columns =
    IsGroup group columns × AllGroups groups (drop (width_of group) columns)
