-- The values that the cells of a trace text spell.
-- Source: this project's rule.
use Rattle.std.specs.Prelude.{ℕ, ◌+◌, ◌-◌, ◌*◌, Bool as Truth, true, false, ◌==◌, ◌&&◌, ◌||◌}
use Rattle.std.specs.Prelude.{nat_le, if◌then◌else◌, List, [], ◌∷◌, length, Option, Some, None, ℤ}
use Rattle.std.specs.Prelude.{pos, neg_ℤ, codes}
use Rattle.std.specs.Char.{is_ascii_digit}
use Rattle.std.specs.List.{fold, list_all}
use Rattle.std.specs.Option.{option_and_then}
use Rattle.std.specs.Str.{bytes_eq}
use Rattle.lb_syntax.specs.declared.tree.Kind.{Kind}
use Rattle.lb_syntax.specs.declared.tree.Kind.TheVariants.{Int, Bool}

-- the number that ASCII digits stand for
abbrev pub decimal : List ℕ → ℕ
decimal digits = fold (λ n digit. n * 10 + (digit - 48)) 0 digits

-- the number that 1 to 20 ASCII digits spell
abbrev pub natural_of : List ℕ → Option ℕ
natural_of digits =
    if nat_le 1 (length digits) && nat_le (length digits) 20 && list_all is_ascii_digit digits
    then Some (decimal digits) else None

-- a number as an `int`, if it is in range
abbrev pub signed : Truth → ℕ → Option ℤ
signed negative n =
    if negative then (if nat_le n 2147483648 then Some (neg_ℤ (pos n)) else None)
    else (if nat_le n 2147483647 then Some (pos n) else None)

-- the integer that a cell spells: an optional `-`, and 1 to 20 digits whose value is in range
abbrev pub int_of : List ℕ → Option ℤ
int_of [] = None
int_of (b ∷ rest) =
    if b == 45 then option_and_then (signed true) (natural_of rest)
    else option_and_then (signed false) (natural_of (b ∷ rest))

-- the Boolean that a cell spells, as 0 or 1: `0`, `1`, `true` or `false`
abbrev pub bool_of : List ℕ → Option ℤ
bool_of cell =
    if bytes_eq cell (codes "1") || bytes_eq cell (codes "true") then Some (pos 1)
    else if bytes_eq cell (codes "0") || bytes_eq cell (codes "false") then Some (pos 0)
    else None

-- the value that a cell spells in a column of this kind
abbrev pub cell_value : Kind → List ℕ → Option ℤ
cell_value Int cell = int_of cell
cell_value Bool cell = bool_of cell
