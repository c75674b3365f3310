-- A function value that reads trees to a depth.
-- This file mirrors code (src/statics.rt, src/expression.rt); no definition of the language stands
-- on it.
use Rattle.std.specs.Prelude.{ℕ, List, Result, Box}
use Rattle.std.specs.declared.alloc.Global.{Global}
use denote.Ref.{Bor}
use Rattle.lb_syntax.specs.declared.reader.ReadError.{ReadError}
use Rattle.lb_syntax.specs.declared.token.Token.{Token}
use Rattle.lb_syntax.specs.declared.tree.Expr.{Expr}
use Rattle.lb_syntax.specs.declared.tree.Static.{Static}
use Rattle.lb_syntax.specs.Readers.{Gives, Reader}
use Rattle.lb_syntax.specs.Reading.{tree_at, static_tree}
use Rattle.lb_syntax.specs.View.{view_box, view_static}

-- the precondition of the function, on a depth, a least level and tokens; below, its postcondition
abbrev pub Pre : Type 1
Pre = Global → ℕ → ℕ → Bor (List Token) → Type 0

abbrev pub Post : Type 0 → Type 1
Post X = Global → ℕ → ℕ → Bor (List Token) → Result (X × Bor (List Token)) ReadError → Type 0

-- the function may be called at `depth`, and its result, seen by `view`, is what `mirror` reads
pub record NestsBy {X Y : Type 0} (view : X → Y) (mirror : ℕ → ℕ → Reader Y) (depth : ℕ)
    (pre : Pre) (post : Post X) : Type 0 where
  pub callable : (alloc : Global) (least : ℕ) (ts : Bor (List Token)) → pre alloc depth least ts
  pub reads :
      (alloc : Global) (least : ℕ) (ts : Bor (List Token))
      (r : Result (X × Bor (List Token)) ReadError)
      → post alloc depth least ts r → Gives (λ x. (view x.0, x.1.now)) r (mirror depth least ts.now)

abbrev pub NestsStatic : ℕ → Pre → Post Static → Type 0
NestsStatic = NestsBy view_static static_tree

abbrev pub Nests : ℕ → Pre → Post (Box Expr Global) → Type 0
Nests = NestsBy view_box tree_at
