-- Reading from the front of the tokens: words that the mirrors of the parser share.
-- This file mirrors code (src/reader.rt); no definition of the language stands on it.
use Rattle.std.specs.Prelude.{◌≡◌, Bool, false, if◌then◌else◌, List, [], ◌∷◌, Option, Some, None}
use Rattle.std.specs.Prelude.{Result, Ok, Err}
use denote.Enum.Bare.{sameb}
use Rattle.lb_syntax.specs.contracts.token.Mark.{the_type}
use Rattle.lb_syntax.specs.declared.reader.ReadError.{ReadError}
use Rattle.lb_syntax.specs.declared.reader.ReadError.TheVariants as error
use Rattle.lb_syntax.specs.declared.token.Mark.{Mark}
use Rattle.lb_syntax.specs.declared.token.Token.{Token}
use Rattle.lb_syntax.specs.declared.token.Token.TheVariants as token
use Rattle.lb_syntax.specs.Tree.{Name}
pub use Rattle.lb_syntax.specs.Lists.{◌>>=◌}

-- a reader: gives the thing at the front of the tokens and the tokens after it, or none
abbrev pub Reader : Type 0 → Type 0
Reader A = List Token → Option (A × List Token)

-- an allowed error of a function: memory ran out, or its mirror reads nothing either
abbrev pub Fails : {Y : Type 0} → ReadError → Option Y → Type 0
Fails error.Memory read = Unit {0}
Fails (error.Syntax left) read = read ≡ None

-- the result of a function, seen by `view`, is what its mirror reads, unless memory ran out
abbrev pub Gives : {X Y : Type 0} → (X → Y) → Result X ReadError → Option Y → Type 0
Gives view (Ok x) read = read ≡ Some (view x)
Gives view (Err e) read = Fails e read

-- A function gets the result of an earlier reading. It goes on with what was read as its mirror
-- `next` does, and returns an error of that reading as it is.
abbrev pub GoesOn : {X Y Z : Type 0} → (Z → Y) → Result X ReadError → (X → Option Y) →
    Result Z ReadError → Type 0
GoesOn view (Ok x) next result = Gives view result (next x)
GoesOn view (Err e) next result = result ≡ Err e

abbrev pub is_mark : Mark → Token → Bool
is_mark m (token.Mark k) = sameb the_type k m
is_mark m _ = false

-- the tokens after the mark `m`, if it comes next
unfoldable pub expect : Mark → List Token → Option (List Token)
expect m [] = None
expect m (t ∷ ts) = if is_mark m t then Some ts else None

-- `x`, which was read, and the tokens after the mark `m`, if it comes next
abbrev pub before : {A : Type 0} → Mark → A → Reader A
before m x ts = do
  rest ← expect m ts
  Some (x, rest)

-- a name
unfoldable pub name_at : Reader Name
name_at (token.Name x ∷ ts) = Some (x, ts)
name_at _ = None
