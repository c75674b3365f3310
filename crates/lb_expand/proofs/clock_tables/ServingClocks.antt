-- The variables that serve as clocks, and their elements.
use Rattle.lb_expand.proofs.Words
use Words.{◌≡◌, ℕ, true, Option, Some, None, option_map, List, [], ◌∷◌, ◌++◌, map, length, flat_map}
use Words.{refl, ap, ap₂, sym, ◌∙◌, subst, arith, ◌==◌, nat_lt, slice_get, list_all, bytes_eq}
use Words.{length-map, map-append, slice_get-map, Every, either_or, listed, some_of, zip2, Name}
use Words.{Static, Whole, Expr, Declaration, and_first, and_second, variables, are_distinct, parts}
use Words.{parts_in, right_side, among, clock_names, variable_names, IsResolved, node_of, texts_of}
use Words.{counts_of, Texts, static_at, named_value, expr_of, statement_of, declaration_of}
use Words.{is_variable, is_static, is_call, is_within, are_within, is_statement_within}
use Words.{ResolvedNode, ResolvedStatement, Term, Value, Group', Unary', Binary', If', Arrow', Fby'}
use Words.{Pre', Current', When', Replicate', Index', Slice', Join', Array', AtMostOne', Nor'}
use Words.{Call', IterateNode', IterateSymbol', Row_of-Term, end_of-Term, more_of-Term, distinct_at}
use Words.{held_at, whens_in, statement_whens, declared_when, clocks_named, is_among, ◌<◌, ◌≤◌}
use Words.{zero, suc, ◌+◌, Bool, false, take, set, get_or, replicate, Vec, Box, Global, ◌⊎◌, inl}
use Words.{inr, nat_tests, append_assoc, take_more, length-replicate, get_or-set_same}
use Words.{get_or-set_other, eqb-true, or-true, UnaryOperator, StaticId, VariableId, IterateNode}
use Words.{IterateSymbol, items-the_row-Term, items_hidden-the_row-Term-0, whens_in_all, HasFlags}
use Words.{IsPair, IsRow, row_in, range_with_len, filter, append-nil, drop_more, drop_all, Reached}
use Words.{Table, clock_numbers, flagged_below, State, Emitted, gives, Context, clocks_in}
use Words.{row_clocks, onto, node_at, ◌&&◌, ◌||◌, cond, drop, length-set, flat_map-append, Declared}
use Rattle.std.proofs.{Math.Bool.or-false, lemmas.List.Elements.filter-append}
use Rattle.lb_static.specs.{Parts.own_clock_names, ResolvedTerms.{Counts, row_of, sampling_of}}
use Rattle.lb_static.specs.ResolvedTerms.{is_sampling_within, are_statics, is_declared_within}
use Rattle.lb_static.specs.declared.resolved.{Sampling.Sampling, Term.{Literal, Truth, Variable}}
use Rattle.lb_static.specs.declared.resolved.Term.{Group, Unary, If, Pre, Current, When, Replicate}
use Rattle.lb_static.specs.declared.resolved.Term.{Index, Slice, Array, AtMostOne, Nor, Call}
use Rattle.{lb_flat.proofs.lists.Lists.range_last, lb_expand.specs.ClockUses.whens_in_row}
use Rattle.lb_expand.{specs.ClockUses.flagged, proofs.emission.EmittedCalls.putting_more}
use Rattle.lb_static.specs.declared.resolved.ResolvedStatement.TheVariants as statement
use Rattle.lb_static.specs.declared.table.Instance as row

-- A variable serves as a clock by its number exactly where it does so by its name.

-- the names that serve as clocks in some expressions
abbrev clocks_of : List Expr → List Name
clocks_of es = flat_map own_clock_names es

module _ (names : List Name) (bound : ℕ) where
  abbrev name_of : ℕ → Name
  name_of x = either_or (slice_get names x) []

  -- the variables with these numbers have these names
  record Named (xs : List ℕ) (ys : List Name) : Type 0 where
    same : map name_of xs ≡ ys
    within : Every (λ x. nat_lt x bound ≡ true) xs

  nothing : Named [] []
  nothing = record { same = refl; within = tt }

  one_first : (x : ℕ) (xs : List ℕ) (ys : List Name) → nat_lt x bound ≡ true → Named xs ys →
      Named (x ∷ xs) (name_of x ∷ ys)
  one_first x xs ys lt h =
      record { same = ap (λ (ys : List Name). name_of x ∷ ys) h.same; within = (lt, h.within) }

  some_first : (xs xs' : List ℕ) → Every (λ x. nat_lt x bound ≡ true) xs →
      Every (λ x. nat_lt x bound ≡ true) xs' → Every (λ x. nat_lt x bound ≡ true) (xs ++ xs')
  some_first [] xs' p q = q
  some_first (x ∷ xs) xs' p q = (p.0, some_first xs xs' p.1 q)

  both_named : (xs xs' : List ℕ) (ys ys' : List Name) → Named xs ys → Named xs' ys' →
      Named (xs ++ xs') (ys ++ ys')
  both_named xs xs' ys ys' h g = record {
    same = map-append name_of xs xs' ∙ ap₂ (λ (l r : List Name). l ++ r) h.same g.same;
    within = some_first xs xs' h.within g.within;
  }

  two_parts : (xs xs' : List ℕ) (es fs : List Expr) → Named xs (clocks_of es) →
      Named xs' (clocks_of fs) → Named (xs ++ xs') (clocks_of (es ++ fs))
  two_parts xs xs' es fs h g =
      subst (Named (xs ++ xs')) (sym (flat_map-append own_clock_names es fs))
      (both_named xs xs' (clocks_of es) (clocks_of fs) h g)

value_none : (s : Static) → clocks_of (parts (named_value s)) ≡ []
value_none (Whole n) = refl
value_none _ = refl

module _ (t : Texts) (n : Counts) where
  abbrev Says : List ℕ → List Expr → Type 0
  Says xs es = Named t.variables n.variables xs (clocks_of es)

  abbrev shown : Term → List Expr
  shown e = parts (expr_of t e)

  pair_says : (a b : Term) → Says (whens_in a) (shown a) → Says (whens_in b) (shown b) →
      Says (whens_in a ++ whens_in b) (shown a ++ shown b)
  pair_says a b h g =
      two_parts t.variables n.variables (whens_in a) (whens_in b) (shown a) (shown b) h g

  mutual
    whens_are : (e : Term) → is_within n e ≡ true → Says (whens_in e) (shown e)
    whens_are (Literal m) w = nothing t.variables n.variables
    whens_are (Truth b) w = nothing t.variables n.variables
    whens_are (Variable x) w = nothing t.variables n.variables
    whens_are (Value i) w =
        rw (value_none (static_at t.statics i)) (nothing t.variables n.variables)
    whens_are (Group' p e) w = whens_are e w
    whens_are (Unary' op p a) w = whens_are a w
    whens_are (Pre' p a) w = whens_are a w
    whens_are (Current' p a) w = whens_are a w
    whens_are (When' p a x sign) w =
        one_first t.variables n.variables x.0 (whens_in a) (clocks_of (shown a))
        (and_first (is_variable n x) (is_within n a) w)
        (whens_are a (and_second (is_variable n x) (is_within n a) w))
    whens_are (Replicate' p a i) w = whens_are a (and_second (is_static n i) (is_within n a) w)
    whens_are (Index' p a i) w = whens_are a (and_second (is_static n i) (is_within n a) w)
    whens_are (Slice' p a i j) w =
        whens_are a (and_second (is_static n j) (is_within n a)
        (and_second (is_static n i) (is_static n j && is_within n a) w))
    whens_are (Binary' op p a q b) w =
        pair_says a b (whens_are a (and_first (is_within n a) (is_within n b) w))
        (whens_are b (and_second (is_within n a) (is_within n b) w))
    whens_are (Arrow' p a q b) w =
        pair_says a b (whens_are a (and_first (is_within n a) (is_within n b) w))
        (whens_are b (and_second (is_within n a) (is_within n b) w))
    whens_are (Fby' p a q b) w =
        pair_says a b (whens_are a (and_first (is_within n a) (is_within n b) w))
        (whens_are b (and_second (is_within n a) (is_within n b) w))
    whens_are (Join' p a q b) w =
        pair_says a b (whens_are a (and_first (is_within n a) (is_within n b) w))
        (whens_are b (and_second (is_within n a) (is_within n b) w))
    whens_are (If' p c q a r b) w =
        let v = and_second (is_within n c) (is_within n a && is_within n b) w in
        two_parts t.variables n.variables (whens_in c) (whens_in a ++ whens_in b) (shown c)
        (shown a ++ shown b)
        (whens_are c (and_first (is_within n c) (is_within n a && is_within n b) w))
        (pair_says a b (whens_are a (and_first (is_within n a) (is_within n b) v))
        (whens_are b (and_second (is_within n a) (is_within n b) v)))
    whens_are (Array' arity all) w = row_whens_are all w
    whens_are (AtMostOne' arity all) w = row_whens_are all w
    whens_are (Nor' arity all) w = row_whens_are all w
    whens_are (IterateSymbol' it op i arity all) w =
        row_whens_are all (and_second (is_static n i) (are_within n all) w)
    whens_are (Call' c arity all) w =
        row_whens_are all (and_second (is_call n c) (are_within n all) w)
    whens_are (IterateNode' it c arity all) w =
        row_whens_are all (and_second (is_call n c) (are_within n all) w)

    row_whens_are : {m : _} (row : Row_of-Term m) → are_within n row ≡ true →
        Says (whens_in_row row) (parts_in (row_of t row))
    row_whens_are end_of-Term w = nothing t.variables n.variables
    row_whens_are (more_of-Term e rest) w =
        two_parts t.variables n.variables (whens_in e) (whens_in_row rest) (shown e)
        (parts_in (row_of t rest))
        (whens_are e (and_first (is_within n e) (are_within n rest) w))
        (row_whens_are rest (and_second (is_within n e) (are_within n rest) w))

  statement_are : (s : ResolvedStatement) → is_statement_within n s ≡ true →
      Says (statement_whens s) (parts (right_side (statement_of t s)))
  statement_are (statement.Equation lefts e) w =
      whens_are e (and_second (list_all (is_variable n) lefts.items) (is_within n e) w)
  statement_are (statement.Assertion e) w = whens_are e w

  body_are : (ss : List ResolvedStatement) → list_all (is_statement_within n) ss ≡ true →
      Says (flat_map statement_whens ss)
      (flat_map (λ s. parts (right_side s)) (map (statement_of t) ss))
  body_are [] w = nothing t.variables n.variables
  body_are (s ∷ ss) w =
      two_parts t.variables n.variables (statement_whens s) (flat_map statement_whens ss)
      (parts (right_side (statement_of t s)))
      (flat_map (λ s. parts (right_side s)) (map (statement_of t) ss))
      (statement_are s (and_first (is_statement_within n s) _ w))
      (body_are ss (and_second (is_statement_within n s) _ w))

  -- ## Declared clocks

  abbrev waited : Declaration → Option Name
  waited d = option_map (λ s. s.variable) d.clock

  one_declared :
      (o : Option Sampling) (xs : List ℕ) (os : List (Option Name)) →
      is_sampling_within n o ≡ true → Named t.variables n.variables xs (some_of os) →
      Named t.variables n.variables (listed (λ (s : Sampling). s.variable.0 ∷ []) o ++ xs)
      (some_of (option_map (λ s. s.variable) (option_map (sampling_of t.variables) o) ∷ os))
  one_declared None xs os w h = h
  one_declared (Some s) xs os w h = one_first t.variables _ _ xs _ w h

  declared_are :
      (xs : List Name) (vs : List Declared) → length xs ≡ length vs →
      list_all (is_declared_within n) vs ≡ true →
      Named t.variables n.variables (flat_map declared_when vs)
      (some_of (map waited (zip2 (declaration_of t.variables t.statics) xs vs)))
  declared_are [] [] long w = nothing t.variables n.variables
  declared_are [] (v ∷ vs) long w = absurd (omega (arith, long))
  declared_are (x ∷ xs) [] long w = absurd (omega (arith, long))
  declared_are (x ∷ xs) (v ∷ vs) long w =
      let own = and_first (is_declared_within n v) (list_all (is_declared_within n) vs) w in
      one_declared _ _ _ (and_second (are_statics n v.first_size v.sizes)
      (is_sampling_within n v.clock) own) (declared_are xs vs (omega (arith, long)) (and_second
      (is_declared_within n v) (list_all (is_declared_within n) vs) w))

module _ (names : List Name) (bound : ℕ) (many : bound ≡ length names)
    (distinct : are_distinct names ≡ true) (x : ℕ) (z : Name)
    (at : slice_get names x ≡ Some z) where
  one_is : (y : ℕ) → nat_lt y bound ≡ true → (y == x) ≡ bytes_eq z (name_of names bound y)
  one_is y lt =
      let w = held_at names y (subst (λ n. nat_lt y n ≡ true) many lt) in
      cc (distinct_at names x y z w.0 distinct at w.1)

  among_is : (xs : List ℕ) → Every (λ y. nat_lt y bound ≡ true) xs →
      is_among xs x ≡ among z (map (name_of names bound) xs)
  among_is [] h = refl
  among_is (y ∷ xs) h = ap₂ (λ a b. a || b) (one_is y h.0) (among_is xs h.1)

-- where the names of a node are distinct, a variable serves as a clock by its number as by its name
pub serves_by_number :
    (nodes : List Name) (r : ResolvedNode) → IsResolved nodes r →
    are_distinct (variable_names (node_of r)) ≡ true → (x : ℕ) (d : Declaration) →
    slice_get (variables (node_of r)) x ≡ Some d →
    is_among (clocks_named r) x ≡ among d.name (clock_names (node_of r))
serves_by_number nodes r own distinct x d e =
    let m = node_of r in
    let names = variable_names m in
    let t = texts_of r in
    let n = counts_of r in
    let vs = r.variables.items in
    let long : length names ≡ length vs =
    length-map (variables m) (λ (d : Declaration). d.name) ∙ sym own.as_many in
    let declared = subst (λ (ds : List Declaration).
    Named names n.variables (flat_map declared_when vs) (some_of (map (waited t n) ds)))
    own.declared (declared_are t n names vs long own.declared_within) in
    let body = subst (λ ss. Named names n.variables (flat_map statement_whens r.body.items)
    (clocks_of (flat_map (λ s. parts (right_side s)) ss))) own.body
    (body_are t n r.body.items own.body_within) in
    let all = both_named names n.variables (flat_map declared_when vs)
    (flat_map statement_whens r.body.items) (some_of (map (waited t n) (variables m)))
    (clocks_of (flat_map (λ s. parts (right_side s)) m.body)) declared body in
    let at = slice_get-map (λ (d : Declaration). d.name) (variables m) x
    ∙ ap (option_map (λ (d : Declaration). d.name)) e in
    cc (among_is names n.variables (sym long) distinct x d.name at (clocks_named r) all.within)

-- The code that finds which variables of a node serve as clocks.

-- ## Names in a term

-- a term with one operand that itself names nothing
abbrev pub IsPlainSingle : Term → Box Term Global → Type 0
IsPlainSingle t e =
    ((op : UnaryOperator) × (t ≡ Unary op e))
    ⊎ ((t ≡ Pre e) ⊎ ((t ≡ Current e) ⊎ (((n : StaticId) × (t ≡ Replicate e n))
    ⊎ (((i : StaticId) × (t ≡ Index e i))
    ⊎ ((i : StaticId) × (j : StaticId) × (t ≡ Slice e i j))))))

pub single_whens : (t : Term) (e : Box Term Global) → IsPlainSingle t e →
    whens_in t ≡ whens_in e.value
single_whens t e (inl (op, is)) = rw is refl
single_whens t e (inr (inl is)) = rw is refl
single_whens t e (inr (inr (inl is))) = rw is refl
single_whens t e (inr (inr (inr (inl (n, is))))) = rw is refl
single_whens t e (inr (inr (inr (inr (inl (i, is)))))) = rw is refl
single_whens t e (inr (inr (inr (inr (inr (i, j, is)))))) = rw is refl

pub group_whens : (t : Term) (e : Box Term Global) → t ≡ Group e → whens_in t ≡ whens_in e.value
group_whens t e is = rw is refl

pub when_whens : (t : Term) (e : Box Term Global) (x : VariableId) (sign : Bool) →
    t ≡ When e x sign → whens_in t ≡ x.0 ∷ whens_in e.value
when_whens t e x sign is = rw is refl

pub pair_whens : (t : Term) (a b : Box Term Global) → IsPair t a b →
    whens_in t ≡ whens_in a.value ++ whens_in b.value
pair_whens t a b (inl (op, is)) = rw is refl
pair_whens t a b (inr (inl is)) = rw is refl
pair_whens t a b (inr (inr (inl is))) = rw is refl
pair_whens t a b (inr (inr (inr is))) = rw is refl

pub if_whens : (t : Term) (c a b : Box Term Global) → t ≡ If c a b →
    whens_in t ≡ whens_in c.value ++ (whens_in a.value ++ whens_in b.value)
if_whens t c a b is = rw is refl

list_of_row : (n : _) (row : Row_of-Term n) →
    whens_in_row row ≡ whens_in_all (items-the_row-Term n row)
list_of_row n end_of-Term = refl
list_of_row n (more_of-Term e rest) = cc (list_of_row _ rest)

row_is : (t : Term) (es : Vec Term Global) →
    items-the_row-Term (row_in t).0 (row_in t).1 ≡ es.items →
    whens_in_row (row_in t).1 ≡ whens_in_all es.items
row_is t es is = list_of_row (row_in t).0 (row_in t).1 ∙ ap whens_in_all is

pub row_whens : (t : Term) (es : Vec Term Global) → IsRow t es → whens_in t ≡ whens_in_all es.items
row_whens t es (inl e) = rw e (row_is (Array es) es (items_hidden-the_row-Term-0 es))
row_whens t es (inr (inl e)) = rw e (row_is (AtMostOne es) es (items_hidden-the_row-Term-0 es))
row_whens t es (inr (inr (inl e))) = rw e (row_is (Nor es) es (items_hidden-the_row-Term-0 es))
row_whens t es (inr (inr (inr (inl (c, e))))) =
    rw e (row_is (Call c es) es (items_hidden-the_row-Term-0 es))
row_whens t es (inr (inr (inr (inr (inl (it, c, e)))))) =
    rw e (row_is (IterateNode it c es) es (items_hidden-the_row-Term-0 es))
row_whens t es (inr (inr (inr (inr (inr (it, op, n, e)))))) =
    rw e (row_is (IterateSymbol it op n es) es (items_hidden-the_row-Term-0 es))

pub leaf_whens :
    (t : Term) →
    ((n : ℕ) × (t ≡ Literal n)) ⊎ (((b : Bool) × (t ≡ Truth b))
    ⊎ (((x : VariableId) × (t ≡ Variable x)) ⊎ ((i : StaticId) × (t ≡ Value i)))) →
    whens_in t ≡ []
leaf_whens t (inl (n, is)) = rw is refl
leaf_whens t (inr (inl (b, is))) = rw is refl
leaf_whens t (inr (inr (inl (x, is)))) = rw is refl
leaf_whens t (inr (inr (inr (i, is)))) = rw is refl

-- ## Lists that grow

-- a list grows by the pieces `xs` and `ys`, one after the other
pub tail_added : {A : Type 0} (before mid xs ys all : List A) → mid ≡ before ++ xs →
    all ≡ xs ++ ys → mid ++ ys ≡ before ++ all
tail_added before mid xs ys all h e = cc (append_assoc before xs ys)

-- ## Flags

other_number : (m x : ℕ) → (m == x) ≡ false → (x ≡ m → ⊥)
other_number m x e is = absurd (grind (arith, nat_tests))

among_last : (xs : List ℕ) (m x : ℕ) → is_among (xs ++ m ∷ []) x ≡ (is_among xs x || (m == x))
among_last [] m x = or-false (m == x)
among_last (y ∷ xs) m x = cc (among_last xs m x, or_assoc (y == x) (is_among xs x) (m == x))
  where
    or_assoc : (a b c : Bool) → ((a || b) || c) ≡ (a || (b || c))
    or_assoc true b c = refl
    or_assoc false b c = refl

-- a name below `count` sets its flag
pub flag_set :
    (count : ℕ) (names : List ℕ) (i m d : ℕ) (flags : List Bool) → i < length names →
    m ≡ get_or names i d → m < count → HasFlags count (take i names) flags →
    HasFlags count (take (i + 1) names) (set flags m true)
flag_set count names i m d flags lt e below h =
    let last : take (i + 1) names ≡ take i names ++ m ∷ [] =
    take_more names i d lt ∙ ap (λ y. take i names ++ y ∷ []) (sym e) in
    let size = length-set flags m true in
    let each : (x : ℕ) → x < count → get_or (set flags m true) x false
    ≡ is_among (take (i + 1) names) x =
    λ x less. by x less (m == x) refl ∙ sym (ap (λ xs. is_among xs x) last
    ∙ among_last (take i names) m x) in
    record { long = size ∙ h.long; flag = each }
  where
    inside_of : length flags ≡ count → m < length flags
    inside_of long = omega (arith, long, below)

    by : (x : ℕ) → x < count → (b : Bool) → (m == x) ≡ b →
        get_or (set flags m true) x false ≡ (is_among (take i names) x || (m == x))
    by x less true q =
        let same = eqb-true m x q in
        subst (λ y. get_or (set flags m true) y false ≡ true) same
        (get_or-set_same flags m true false (inside_of h.long))
        ∙ sym (ap (λ b. is_among (take i names) x || b) q ∙ or-true (is_among (take i names) x))
    by x less false q =
        get_or-set_other flags m x true false (other_number m x q) ∙ (h.flag x less
        ∙ sym (ap (λ b. is_among (take i names) x || b) q ∙ or-false (is_among (take i names) x)))

-- a name that is not below `count` sets no flag
pub flag_past :
    (count : ℕ) (names : List ℕ) (i m d : ℕ) (flags : List Bool) → i < length names →
    m ≡ get_or names i d → count ≤ m → HasFlags count (take i names) flags →
    HasFlags count (take (i + 1) names) flags
flag_past count names i m d flags lt e past h =
    let last : take (i + 1) names ≡ take i names ++ m ∷ [] =
    take_more names i d lt ∙ ap (λ y. take i names ++ y ∷ []) (sym e) in
    record {
      long = h.long;
      flag = λ x less. h.flag x less ∙ sym (ap (λ xs. is_among xs x) last
          ∙ (among_last (take i names) m x
          ∙ (ap (λ b. is_among (take i names) x || b) (differs x less)
          ∙ or-false (is_among (take i names) x))));
    }
  where
    differs : (x : ℕ) → x < count → (m == x) ≡ false
    differs x less = grind (arith, nat_tests)

pub no_flag : (count : ℕ) → HasFlags count [] (replicate count false)
no_flag count = record { long = length-replicate count false; flag = λ x less. none count x }
  where
    none : (n x : ℕ) → get_or (replicate n false) x false ≡ false
    none zero x = refl
    none (suc n) zero = refl
    none (suc n) (suc x) = none n x

pub ruleset marks = (flag_set, flag_past)

-- The elements of the variables that serve as clocks, as the code collects them: variable after
-- variable, and row after row.

-- ## Numbers that pass a test

filter_last : (p : ℕ → Bool) (n : ℕ) →
    filter p (range_with_len 0 (n + 1))
    ≡ filter p (range_with_len 0 n) ++ cond (p n) (n ∷ []) []
filter_last p n =
    let zero_n : 0 + n ≡ n = omega arith in
    cc (range_last 0 n, filter-append p (range_with_len 0 n) (n ∷ []))

filters_agree : (p q : ℕ → Bool) (n : ℕ) → ((x : ℕ) → x < n → p x ≡ q x) →
    filter p (range_with_len 0 n) ≡ filter q (range_with_len 0 n)
filters_agree p q zero h = refl
filters_agree p q (suc n) h =
    let next : suc n ≡ n + 1 = omega arith in
    let before = filters_agree p q n (λ x lt. h x (omega (arith, lt))) in
    cc (filter_last p n, h n (omega arith), filter_last q n)

-- the flags of a node give the variables that serve as clocks
pub flagged_are : (n : ResolvedNode) (flags : List Bool) →
    HasFlags (length n.variables.items) (clocks_named n) flags → flagged flags ≡ clock_numbers n
flagged_are n flags h =
    cc (filters_agree (λ x. get_or flags x false) (is_among (clocks_named n)) (length
    n.variables.items) h.flag)

-- ## Variable after variable

same_there : (flags : List Bool) (x : ℕ) (d e : Bool) → x < length flags →
    get_or flags x d ≡ get_or flags x e
same_there [] x d e lt = absurd (omega (arith, lt))
same_there (f ∷ flags) zero d e lt = refl
same_there (f ∷ flags) (suc x) d e lt = same_there flags x d e (omega (arith, lt))

module _ (places : ℕ → List ℕ) (flags : List Bool) where
  last_flag : (x : ℕ) (b d : Bool) → x < length flags → get_or flags x d ≡ b →
      flat_map places (flagged_below flags (x + 1))
      ≡ flat_map places (flagged_below flags x) ++ flat_map places (cond b (x ∷ []) [])
  last_flag x b d lt e =
      let so = flagged_below flags x in
      let is = same_there flags x false d lt ∙ e in
      cc (filter_last (λ x. get_or flags x false) x, flat_map-append places so (cond b (x ∷ []) []))

  -- a variable with a flag adds its elements
  pub flag_put :
      (below : List ℕ) (s : State) (w z : Emitted) (new : List ℕ) (x : ℕ) (d : Bool) →
      x < length flags → get_or flags x d ≡ true →
      w ≡ onto below (gives s (flat_map places (flagged_below flags x))) →
      z ≡ onto w.found (gives w.state new) → new ≡ places x →
      z ≡ onto below (gives s (flat_map places (flagged_below flags (x + 1))))
  flag_put below s w z new x d lt e h put is =
      let so = flat_map places (flagged_below flags x) in
      putting_more below _ new _ s w z h put (ap (λ (ys : List ℕ). so ++ ys)
      (is ∙ sym (append-nil (places x))) ∙ sym (last_flag x true d lt e))

  -- a variable without a flag adds nothing
  pub flag_skipped :
      (below : List ℕ) (s : State) (w : Emitted) (x : ℕ) (d : Bool) → x < length flags →
      get_or flags x d ≡ false →
      w ≡ onto below (gives s (flat_map places (flagged_below flags x))) →
      w ≡ onto below (gives s (flat_map places (flagged_below flags (x + 1))))
  flag_skipped below s w x d lt e h =
      let so = flat_map places (flagged_below flags x) in
      cc (last_flag x false d lt e, append-nil so)

-- ## Row after row

module _ (r : Reached) (t : Table) (cs : ℕ → Context) where
  -- the clock elements of a row whose node is found
  pub clocks_found :
      (j : ℕ) (i : row.Instance) (n : ResolvedNode) (ctx : Context) (flags : List Bool) →
      node_at r t i ≡ Some n → ctx ≡ cs j →
      HasFlags (length n.variables.items) (clocks_named n) flags →
      flat_map ctx.places (flagged flags) ≡ clocks_in cs r t j i
  clocks_found j i n ctx flags e at h = cc (flagged_are n flags h)

  clocks_more :
      (is : List row.Instance) (j : ℕ) (i d : row.Instance) → j < length is →
      i ≡ get_or is j d →
      row_clocks r t cs j (drop j is)
      ≡ clocks_in cs r t j i ++ row_clocks r t cs (j + 1) (drop (j + 1) is)
  unfolding row_clocks
  clocks_more is j i d lt e =
      let next : suc j ≡ j + 1 = omega arith in
      cc (drop_more is j d lt)

  no_clocks : (j : ℕ) → row_clocks r t cs j [] ≡ []
  unfolding row_clocks
  no_clocks j = refl

  -- a step of the loop over rows: after row j, the rows from j + 1 on are left
  pub clocks_step :
      (x y whole : Emitted) (is : List row.Instance) (j : ℕ) (i d : row.Instance) →
      j < length is → i ≡ get_or is j d →
      y ≡ onto x.found (gives x.state (clocks_in cs r t j i)) →
      onto x.found (gives x.state (row_clocks r t cs j (drop j is))) ≡ whole →
      onto y.found (gives y.state (row_clocks r t cs (j + 1) (drop (j + 1) is))) ≡ whole
  clocks_step x y whole is j i d lt e put h =
      let one = clocks_in cs r t j i in
      let rest = row_clocks r t cs (j + 1) (drop (j + 1) is) in
      cc (append_assoc x.found one rest, clocks_more is j i d lt e)

  pub clocks_end :
      (s : State) (so : List ℕ) (whole : Emitted) (is : List row.Instance) (j : ℕ) →
      length is ≤ j → onto so (gives s (row_clocks r t cs j (drop j is))) ≡ whole →
      gives s so ≡ whole
  clocks_end s so whole is j le h = cc (drop_all j is le, no_clocks j, append-nil so)
