-- The types of a term, from those of its operands and rows.
use Rattle.lb_check.proofs.Words
use Words.{Array', AtMostOne', Bool, Box, Call', Count, DataType, FoundNode, FoundTypes, Global}
use Words.{Group', IsLeaf, IsPair, IsRow, IsSingle, IterateNode', IterateSymbol', List, None, Nor'}
use Words.{Option, Row_of-Term, Some, StaticId, Term, UnaryOperator, VariableId, Vec, [], all_some}
use Words.{and-false, and-true, ap, are_equal, are_one, arith, array_of, end_of-Term, false}
use Words.{index_type, inl, inr, items-the_row-Term, items_hidden-the_row-Term-0, length, list_type}
use Words.{more_of-Term, one_type, only, placed_all_types, placed_row_types, placed_types, refl}
use Words.{results, reverse, reverse-append, row_results, singly, slice_type, sym, type_of}
use Words.{types_in, when_truth, with_term, ℕ, ◌++◌, ◌>>=◌, ◌∙◌, ◌∷◌, ◌≡◌, ◌≢◌, ◌⊎◌}
use Rattle.lb_check.specs.{PlacedTypes.with_terms, TermTypes.{Context, two_types, types_of}}
use Rattle.lb_static.specs.declared.resolved.Term.{Array, Current, Group, If, Index, Pre, Replicate}
use Rattle.lb_static.specs.declared.resolved.Term.{Slice, Unary, When}

-- Sizes of a type, the outermost last.

pub outermost : (ns : List ℕ) (n : ℕ) → reverse (ns ++ n ∷ []) ≡ n ∷ reverse ns
outermost ns n = reverse-append ns (n ∷ [])

-- A row of terms in a tree is the list in the vector, and so are its types.

pub types_items : (ctx : Context) (n : _) (row : Row_of-Term n) →
    types_in ctx row ≡ types_of ctx (items-the_row-Term n row)
unfolding type_of
types_items ctx n end_of-Term = refl
types_items ctx n (more_of-Term e rest) = grind (arith, types_items ctx _ rest)

-- the row of terms of a term
abbrev pub row_in : Term → (n : Count) × Row_of-Term n
row_in (Array' _ row) = (_, row)
row_in (AtMostOne' _ row) = (_, row)
row_in (Nor' _ row) = (_, row)
row_in (Call' _ _ row) = (_, row)
row_in (IterateNode' _ _ _ row) = (_, row)
row_in (IterateSymbol' _ _ _ _ row) = (_, row)
row_in _ = (_, end_of-Term)

-- the row in the tree is the list in the vector
pub row_is : (t : Term) (es : Vec Term Global) → IsRow t es →
    items-the_row-Term _ (row_in t).1 ≡ es.items
row_is t es (inl e) = rw e (items_hidden-the_row-Term-0 es)
row_is t es (inr (inl e)) = rw e (items_hidden-the_row-Term-0 es)
row_is t es (inr (inr (inl e))) = rw e (items_hidden-the_row-Term-0 es)
row_is t es (inr (inr (inr (inl (c, e))))) = rw e (items_hidden-the_row-Term-0 es)
row_is t es (inr (inr (inr (inr (inl (it, c, e)))))) = rw e (items_hidden-the_row-Term-0 es)
row_is t es (inr (inr (inr (inr (inr (it, op, n, e)))))) = rw e (items_hidden-the_row-Term-0 es)

module _ (ctx : Context) where
  -- the results of a term come from the types of its row, and its parts are those of the row behind
  -- itself
  row_forms : (t : Term) (es : Vec Term Global) → IsRow t es →
      (results ctx t ≡ (types_in ctx (row_in t).1 >>= row_results ctx t))
      × (placed_types ctx t ≡ results ctx t ∷ placed_row_types ctx (row_in t).1)
  unfolding results placed_types
  row_forms t es (inl e) = rw e (refl, refl)
  row_forms t es (inr (inl e)) = rw e (refl, refl)
  row_forms t es (inr (inr (inl e))) = rw e (refl, refl)
  row_forms t es (inr (inr (inr (inl (c, e))))) = rw e (refl, refl)
  row_forms t es (inr (inr (inr (inr (inl (it, c, e)))))) = rw e (refl, refl)
  row_forms t es (inr (inr (inr (inr (inr (it, op, n, e)))))) = rw e (refl, refl)

  pub results_of_row : (t : Term) (es : Vec Term Global) → IsRow t es →
      results ctx t ≡ (types_of ctx es.items >>= row_results ctx t)
  results_of_row t es is =
      (row_forms t es is).0
      ∙ ap (λ o. o >>= row_results ctx t)
      (types_items ctx (row_in t).0 (row_in t).1 ∙ ap (types_of ctx) (row_is t es is))

-- The type of a term from those of its one, two or three operands.

-- a term with this one operand
abbrev pub IsSinglePart : Term → Box Term Global → Type 0
IsSinglePart t e =
    (t ≡ Group e) ⊎ (((op : UnaryOperator) × (t ≡ Unary op e)) ⊎ ((t ≡ Pre e) ⊎ ((t ≡ Current e)
    ⊎ (((x : VariableId) × (sign : Bool) × (t ≡ When e x sign))
    ⊎ (((n : StaticId) × (t ≡ Replicate e n))
    ⊎ (((i : StaticId) × (t ≡ Index e i))
    ⊎ ((i : StaticId) × (j : StaticId) × (t ≡ Slice e i j))))))))

pub single_type : (ctx : Context) (t : Term) (e : Box Term Global) (s : DataType) → IsSinglePart t e →
    type_of ctx e.value ≡ Some s
    → one_type ctx t s ≡ type_of ctx t
unfolding type_of
single_type ctx t e s (inl is) h = rw (is, h) refl
single_type ctx t e s (inr (inl (op, is))) h = rw (is, h) refl
single_type ctx t e s (inr (inr (inl is))) h = rw (is, h) refl
single_type ctx t e s (inr (inr (inr (inl is)))) h = rw (is, h) refl
single_type ctx t e s (inr (inr (inr (inr (inl (x, sign, is)))))) h = rw (is, h) refl
single_type ctx t e s (inr (inr (inr (inr (inr (inl (n, is))))))) h = rw (is, h) refl
single_type ctx t e s (inr (inr (inr (inr (inr (inr (inl (i, is)))))))) h = rw (is, h) refl
single_type ctx t e s (inr (inr (inr (inr (inr (inr (inr (i, j, is)))))))) h = rw (is, h) refl

no_truth : (o : Option DataType) → when_truth o None ≡ None
no_truth o = grind arith

no_count : (o : Option ℕ) → (o >>= λ _. let none : Option DataType = None in none) ≡ None
no_count None = refl
no_count (Some n) = refl

pub single_none : (ctx : Context) (t : Term) (e : Box Term Global) → IsSinglePart t e →
    type_of ctx e.value ≡ None → type_of ctx t ≡ None
unfolding type_of
single_none ctx t e (inl is) h = rw (is, h) refl
single_none ctx t e (inr (inl (op, is))) h = rw (is, h) refl
single_none ctx t e (inr (inr (inl is))) h = rw (is, h) refl
single_none ctx t e (inr (inr (inr (inl is)))) h = rw (is, h) refl
single_none ctx t e (inr (inr (inr (inr (inl (x, sign, is)))))) h =
    ap (type_of ctx) is ∙ ap (when_truth (ctx.variable x)) h ∙ no_truth (ctx.variable x)
single_none ctx t e (inr (inr (inr (inr (inr (inl (n, is))))))) h =
    ap (type_of ctx) is ∙ ap (λ o. ctx.count n >>= λ n. o >>= array_of n) h ∙ no_count (ctx.count n)
single_none ctx t e (inr (inr (inr (inr (inr (inr (inl (i, is)))))))) h =
    ap (type_of ctx) is ∙ ap (λ o. ctx.count i >>= λ i. o >>= index_type i) h
    ∙ no_count (ctx.count i)
single_none ctx t e (inr (inr (inr (inr (inr (inr (inr (i, j, is)))))))) h =
    ap (type_of ctx) is ∙ ap (λ o. ctx.count i >>= λ i. ctx.count j >>= λ j. o >>= slice_type i j)
    h ∙ grind arith

pub pair_type : (ctx : Context) (t : Term) (a b : Box Term Global) (o p : Option DataType) →
    IsPair t a b
    → o ≡ type_of ctx a.value → p ≡ type_of ctx b.value → two_types t o p ≡ type_of ctx t
unfolding type_of
pair_type ctx t a b o p (inl (op, is)) e f = rw (is, e, f) refl
pair_type ctx t a b o p (inr (inl is)) e f = rw (is, e, f) refl
pair_type ctx t a b o p (inr (inr (inl is))) e f = rw (is, e, f) refl
pair_type ctx t a b o p (inr (inr (inr is))) e f = rw (is, e, f) refl

-- The types that are kept of the parts of a term, from those of its operands.

-- ## Kept types grow

-- two lists of terms are kept by keeping one after the other
pub more_terms : (f : FoundNode) (xs ys : List FoundTypes) →
    with_terms f (xs ++ ys) ≡ with_terms (with_terms f xs) ys
more_terms f [] ys = refl
more_terms f (x ∷ xs) ys = more_terms (with_term f x) xs ys

-- ## Terms by their forms

-- a term has one result, and its parts are `xs` behind itself
abbrev pub HasOneResult : Context → Term → List FoundTypes → Type 0
HasOneResult ctx t xs =
    (results ctx t ≡ singly (type_of ctx t)) × (placed_types ctx t ≡ results ctx t ∷ xs)

module _ (ctx : Context) where
  pub leaf_result : (t : Term) → IsLeaf t → HasOneResult ctx t []
  unfolding results placed_types
  leaf_result t (inl (n, e)) = rw e (refl, refl)
  leaf_result t (inr (inl (b, e))) = rw e (refl, refl)
  leaf_result t (inr (inr (inl (i, e)))) = rw e (refl, refl)
  leaf_result t (inr (inr (inr (x, e)))) = rw e (refl, refl)

  pub group_placed : (t : Term) (e : Box Term Global) → t ≡ Group e →
      placed_types ctx t ≡ placed_types ctx e.value
  unfolding placed_types
  group_placed t e is = rw is refl

  pub single_result : (t : Term) (e : Box Term Global) → IsSingle t e →
      HasOneResult ctx t (placed_types ctx e.value)
  unfolding results placed_types
  single_result t e (inl (op, is)) = rw is (refl, refl)
  single_result t e (inr (inl is)) = rw is (refl, refl)
  single_result t e (inr (inr (inl is))) = rw is (refl, refl)
  single_result t e (inr (inr (inr (inl (x, sign, is))))) = rw is (refl, refl)
  single_result t e (inr (inr (inr (inr (inl (n, is)))))) = rw is (refl, refl)
  single_result t e (inr (inr (inr (inr (inr (inl (i, is))))))) = rw is (refl, refl)
  single_result t e (inr (inr (inr (inr (inr (inr (i, j, is))))))) = rw is (refl, refl)

  pub pair_result : (t : Term) (a b : Box Term Global) → IsPair t a b →
      HasOneResult ctx t (placed_types ctx a.value ++ placed_types ctx b.value)
  unfolding results placed_types
  pair_result t a b (inl (op, is)) = rw is (refl, refl)
  pair_result t a b (inr (inl is)) = rw is (refl, refl)
  pair_result t a b (inr (inr (inl is))) = rw is (refl, refl)
  pair_result t a b (inr (inr (inr is))) = rw is (refl, refl)

  pub choice_result : (t : Term) (c a b : Box Term Global) → t ≡ If c a b →
      HasOneResult ctx t
      (placed_types ctx c.value ++ (placed_types ctx a.value ++ placed_types ctx b.value))
  unfolding results placed_types
  choice_result t c a b is = rw is (refl, refl)

  -- ## Rows

  row_items : (n : _) (row : Row_of-Term n) →
      placed_row_types ctx row ≡ placed_all_types ctx (items-the_row-Term n row)
  unfolding placed_types
  row_items n end_of-Term = refl
  row_items n (more_of-Term e rest) = ap (λ l. placed_types ctx e ++ l) (row_items _ rest)

  pub row_placed : (t : Term) (es : Vec Term Global) → IsRow t es →
      placed_types ctx t ≡ results ctx t ∷ placed_all_types ctx es.items
  row_placed t es is =
      (row_forms ctx t es is).1
      ∙ ap (λ l. results ctx t ∷ l)
      (row_items _ (row_in t).1 ∙ ap (placed_all_types ctx) (row_is t es is))

-- The one type of a term is that of its results, so an equation of one variable is judged by types
-- alone, without a list of them.

-- the one type of a list of one type is this type
pub only_singly : (o : Option DataType) → (singly o >>= only) ≡ o
only_singly (Some t) = refl
only_singly None = refl

-- the one type of a term is that of its results
pub type_is_only : (ctx : Context) (t : Term) → type_of ctx t ≡ (results ctx t >>= only)
unfolding type_of results
type_is_only ctx (Group' p e) = type_is_only ctx e
type_is_only ctx (Array' arity all) = refl
type_is_only ctx (AtMostOne' arity all) = refl
type_is_only ctx (Nor' arity all) = refl
type_is_only ctx (Call' c arity all) = refl
type_is_only ctx (IterateNode' it c arity all) = refl
type_is_only ctx (IterateSymbol' it op n arity all) = refl
type_is_only ctx t = sym (only_singly (type_of ctx t))

-- the results of an array come from the types of its elements
pub list_results : (ctx : Context) (t : Term) (es : Vec Term Global) → t ≡ Array es →
    results ctx t ≡ singly (types_of ctx es.items >>= list_type)
list_results ctx t es is =
    ap (results ctx) is ∙ results_of_row ctx (Array es) es (inl refl) ∙ grind arith

pub list_type_is : (ctx : Context) (t : Term) (es : Vec Term Global) → t ≡ Array es →
    type_of ctx t ≡ (types_of ctx es.items >>= list_type)
list_type_is ctx t es is =
    type_is_only ctx t ∙ ap (λ o. o >>= only) (list_results ctx t es is)
    ∙ only_singly (types_of ctx es.items >>= list_type)

-- results are the one type `v` exactly where their one type is `v`
pub equal_one :
    (o : Option (List DataType)) (v : Option DataType) →
    are_equal o (all_some (v ∷ [])) ≡ are_one (o >>= only) v
equal_one o v = grind (arith, and-true, and-false)

-- one result differs from any other number of types
pub single_apart : (o : Option DataType) (vs : List (Option DataType)) → length vs ≢ 1 →
    false ≡ are_equal (singly o) (all_some vs)
single_apart None vs apart = refl
single_apart (Some s) [] apart = refl
single_apart (Some s) (None ∷ vs) apart = refl
single_apart (Some s) (Some t ∷ []) apart = absurd (apart refl)
single_apart (Some s) (Some t ∷ (None ∷ vs)) apart = refl
single_apart (Some s) (Some t ∷ (Some u ∷ vs)) apart = grind (arith, and-false)
