-- The equations that `expand` emits for the rows of the table of instances, in its order.
-- This file mirrors code (src/expansion/row_emission.rt); no definition of the language stands on
-- it.
use Rattle.std.specs.Prelude.{◌≡◌, ℕ, suc, Bool, true, Some, List, [], ◌∷◌, ◌++◌, slice_get}
use Rattle.lb_syntax.specs.Lists.{listed}
use Rattle.lb_static.specs.declared.reachable.Reached.{Reached}
use Rattle.lb_static.specs.declared.resolved.ResolvedNode.{ResolvedNode}
use Rattle.lb_static.specs.declared.resolved.ResolvedStatement.{ResolvedStatement}
use Rattle.lb_static.specs.declared.table.Table.{Table}
use Rattle.lb_expand.specs.Emit.{State}
use Rattle.lb_expand.specs.EmitTerms.{Context, first_place, emit_statements}
use Rattle.lb_expand.specs.Frames.{HasPlaces}
use Rattle.lb_expand.specs.TableClocks.{node_at}
use Rattle.lb_static.specs.declared.table.Instance as row

-- the statements of node `n`, with the context of their row
abbrev pub with_body : Context → ResolvedNode → List (Context × List ResolvedStatement)
with_body ctx n = (ctx, n.body.items) ∷ []

-- the statements of row `j`, with its context
abbrev pub body_in :
    Reached → Table → (ℕ → Context) → ℕ → row.Instance →
    List (Context × List ResolvedStatement)
body_in r t cs j i = listed (with_body (cs j)) (node_at r t i)

-- the statements of rows, each with its context; the first row has number `j`
unfoldable pub bodies :
    Reached → Table → (ℕ → Context) → ℕ → List row.Instance →
    List (Context × List ResolvedStatement)
bodies r t cs j [] = []
bodies r t cs j (i ∷ rows) = body_in r t cs j i ++ bodies r t cs (suc j) rows

-- the terms and calls of a row can be counted, whatever was emitted before
abbrev pub IsCounted : Context × List ResolvedStatement → Type 0
IsCounted row = (s : State) → HasPlaces (emit_statements row.0 first_place s row.1).place

-- row `j` is there, if it has a node
abbrev pub HasRow : Reached → Table → (ℕ → Bool) → ℕ → row.Instance → Type 0
HasRow r t is_row j i = (n : ResolvedNode) → node_at r t i ≡ Some n → is_row j ≡ true

-- each row that has a node is there
abbrev pub HasRows : Reached → Table → (ℕ → Bool) → Type 0
HasRows r t is_row =
    (j : ℕ) (i : row.Instance) → slice_get t.instances.items j ≡ Some i → HasRow r t is_row j i
