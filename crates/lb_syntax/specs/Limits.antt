-- The limits of a source text.
-- Source: this project's rule; the reference manual sets none.
use Rattle.std.specs.Prelude.{ℕ, ◌+◌, ◌-◌, ◌<◌, Bool, true, false, ◌&&◌, ◌||◌, if◌then◌else◌}
use Rattle.std.specs.Prelude.{◌==◌, nat_le, is_some, List, [], ◌∷◌, length, count_by, take, IsTrue}
use Rattle.std.specs.Prelude.{IsFalse}
use Rattle.std.specs.List.{list_all}
use Rattle.lb_syntax.specs.declared.token.Mark.{Mark}
use Rattle.lb_syntax.specs.declared.token.Mark.TheVariants as m
use Rattle.lb_syntax.specs.declared.token.Token.{Token}
use Rattle.lb_syntax.specs.declared.token.Token.TheVariants as token
use Rattle.lb_syntax.specs.Levels.{form_of}

-- ---- names and literals

-- a name has at most 64 bytes
abbrev pub is_short_name : Token → Bool
is_short_name (token.Name name) = nat_le (length name) 64
is_short_name t = true

-- a literal is at most 2147483647
abbrev pub is_small_literal : Token → Bool
is_small_literal (token.Literal value) = nat_le value 2147483647
is_small_literal t = true

-- ---- statements

-- the number of static brackets that are open after a token; `let` and `tel` close them all, and a
-- `>>` where none is open closes none
abbrev pub depth_after : ℕ → Token → ℕ
depth_after depth (token.Mark m.Let) = 0
depth_after depth (token.Mark m.Tel) = 0
depth_after depth (token.Mark m.OpenStatic) = depth + 1
depth_after depth (token.Mark m.CloseStatic) = depth - 1
depth_after depth t = depth

-- whether a token separates statements: `let`, `tel`, and a `;` in no static brackets
abbrev pub is_separator : ℕ → Token → Bool
is_separator depth (token.Mark m.Let) = true
is_separator depth (token.Mark m.Tel) = true
is_separator depth (token.Mark m.Semicolon) = depth == 0
is_separator depth t = false

-- some runs, with `t` at the front of the first
abbrev pub in_first : Token → List (List Token) → List (List Token)
in_first t [] = (t ∷ []) ∷ []
in_first t (run ∷ rest) = (t ∷ run) ∷ rest

-- the longest runs of tokens without a separator, from a place inside `depth` static brackets on:
-- of `x = 1; y = 2` the runs `x = 1` and `y = 2`
unfoldable pub runs : ℕ → List Token → List (List Token)
runs depth [] = [] ∷ []
runs depth (t ∷ ts) =
    if is_separator depth t then [] ∷ runs (depth_after depth t) ts
    else in_first t (runs (depth_after depth t) ts)

-- the statements of a text, and the runs before, between and after them
abbrev pub statements : List Token → List (List Token)
statements = runs 0

-- whether a mark is a prefix operator, or a bracket that nests in front of an operand
abbrev pub opens : Mark → Bool
opens m.If = true
opens m.Not = true
opens m.Pre = true
opens m.Current = true
opens m.Hash = true
opens m.Nor = true
opens m.Open = true
opens m.OpenStatic = true
opens mark = false

-- whether a token is counted: the operators, and the brackets that nest
abbrev pub is_counted : Token → Bool
is_counted (token.Mark mark) = opens mark || is_some (form_of mark)
is_counted t = false

-- a statement has at most 500 counted tokens
abbrev pub is_small_statement : List Token → Bool
is_small_statement run = nat_le (count_by is_counted run) 500

-- ---- all of them

-- every name, literal and statement keeps its limit
abbrev pub keeps_limits : List Token → Bool
keeps_limits ts =
    list_all is_short_name ts && list_all is_small_literal ts &&
    list_all is_small_statement (statements ts)

-- the token at `index` is the first that breaks a limit: a name, a literal, or the 501st counted
-- token of a statement
pub record IsFirstOver (ts : List Token) (index : ℕ) : Type 0 where
  pub within : index < length ts
  pub kept_before : IsTrue (keeps_limits (take index ts))
  pub broken_with_it : IsFalse (keeps_limits (take (index + 1) ts))
