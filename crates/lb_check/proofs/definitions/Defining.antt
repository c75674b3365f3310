-- The left sides and terms of a node from a place on.
use Rattle.lb_check.proofs.Words.{ArrayIterator, BinaryOperator, Bool, CallId, Global, IterateNode}
use Rattle.lb_check.proofs.Words.{IterateSymbol, List, Reached, ResolvedNode, ResolvedStatement}
use Rattle.lb_check.proofs.Words.{Row_of-Term, StaticId, Term, VariableId, Vec, ap, calls_function}
use Rattle.lb_check.proofs.Words.{count_left, count_statement, count_statements, drop, drop_more}
use Rattle.lb_check.proofs.Words.{end_of-Term, get_or, if◌then◌else◌, inl, inr, items-the_row-Term}
use Rattle.lb_check.proofs.Words.{items_hidden-the_row-Term-0, length, list_all, more_of-Term, refl}
use Rattle.lb_check.proofs.{Words.{ℕ, ◌&&◌, ◌+◌, ◌<◌, ◌==◌, ◌∙◌, ◌≡◌, ◌⊎◌}, typing.TypeRows.row_in}
use Rattle.lb_check.specs.NodeDefinitions.{is_memoryless, is_row_memoryless}
use Rattle.lb_static.specs.declared.resolved.Term.{Array, AtMostOne, Call, Nor}

pub count_next : (k : ℕ) (xs : List VariableId) (i : ℕ) (d : VariableId) → i < length xs
    → count_left k (drop i xs) ≡ (if (get_or xs i d).0 == k then 1 else 0) + count_left k
    (drop (i + 1) xs)
count_next k xs i d lt = ap (count_left k) (drop_more xs i d lt)

pub counts_next : (k : ℕ) (ss : List ResolvedStatement) (i : ℕ) (d : ResolvedStatement)
    → i < length ss
    → count_statements k (drop i ss) ≡ count_statement k (get_or ss i d)
    + count_statements k (drop (i + 1) ss)
counts_next k ss i d lt = ap (count_statements k) (drop_more ss i d lt)

module _ (r : Reached) (n : ResolvedNode) where
  abbrev free : Term → Bool
  free e = is_memoryless r n e

  pub memoryless_next : (es : List Term) (i : ℕ) (d : Term) → i < length es
      → list_all (is_memoryless r n) (drop i es) ≡ is_memoryless r n (get_or es i d)
      && list_all (is_memoryless r n) (drop (i + 1) es)
  memoryless_next es i d lt = ap (list_all (is_memoryless r n)) (drop_more es i d lt)

  -- ## The row of terms in a term is the list in its vector

  row_items : (m : _) (row : Row_of-Term m) →
      is_row_memoryless r n row ≡ list_all free (items-the_row-Term m row)
  unfolding is_memoryless
  row_items m end_of-Term = refl
  row_items m (more_of-Term e rest) = ap (λ b. free e && b) (row_items _ rest)

  row_hidden : (t : Term) (es : Vec Term Global) → items-the_row-Term _ (row_in t).1 ≡ es.items →
      is_row_memoryless r n (row_in t).1 ≡ list_all free es.items
  row_hidden t es e = row_items _ (row_in t).1 ∙ ap (list_all free) e

  -- a term whose operands stand in this row, and which calls nothing
  abbrev pub IsPlainRow : Term → Vec Term Global → Type 0
  IsPlainRow t es =
      (t ≡ Array es) ⊎ ((t ≡ AtMostOne es) ⊎ ((t ≡ Nor es)
      ⊎ ((it : ArrayIterator) × (op : BinaryOperator) × (m : StaticId)
      × (t ≡ IterateSymbol it op m es))))

  pub memoryless_row : (t : Term) (es : Vec Term Global) → IsPlainRow t es →
      free t ≡ list_all free es.items
  unfolding is_memoryless
  memoryless_row t es (inl e) = ap free e
      ∙ row_hidden (Array es) es (items_hidden-the_row-Term-0 es)
  memoryless_row t es (inr (inl e)) = ap free e
      ∙ row_hidden (AtMostOne es) es (items_hidden-the_row-Term-0 es)
  memoryless_row t es (inr (inr (inl e))) = ap free e
      ∙ row_hidden (Nor es) es (items_hidden-the_row-Term-0 es)
  memoryless_row t es (inr (inr (inr (it, op, m, e)))) =
      ap free e ∙ row_hidden (IterateSymbol it op m es) es (items_hidden-the_row-Term-0 es)

  -- a call or an iterated node with this number and these operands
  abbrev pub IsCalling : Term → CallId → Vec Term Global → Type 0
  IsCalling t c es = (t ≡ Call c es) ⊎ ((it : ArrayIterator) × (t ≡ IterateNode it c es))

  pub memoryless_call : (t : Term) (c : CallId) (es : Vec Term Global) → IsCalling t c es →
      free t ≡ calls_function r n c && list_all free es.items
  unfolding is_memoryless
  memoryless_call t c es (inl e) =
      ap free e ∙ ap (λ b. calls_function r n c && b)
      (row_hidden (Call c es) es (items_hidden-the_row-Term-0 es))
  memoryless_call t c es (inr (it, e)) =
      ap free e ∙ ap (λ b. calls_function r n c && b)
      (row_hidden (IterateNode it c es) es (items_hidden-the_row-Term-0 es))
