-- The types that the code finds for a term and its parts are those of its expression.
use Rattle.lb_check.proofs.Words
use Words.{arith, and-true, ◌≡◌, ℕ, true, List, [], ◌∷◌, Option, Some, None, refl, ap, sym, ◌∙◌}
use Words.{◌&&◌, ◌>>=◌, either_or, Whole, Node_named, and_first, and_second, Term, Literal, Truth}
use Words.{Value, Group', Unary', Binary', If', Arrow', Fby', Pre', Current', When', Replicate'}
use Words.{Index', Slice', Join', Array', AtMostOne', Nor', Call', IterateNode', IterateSymbol'}
use Words.{Row_of-Term, end_of-Term, more_of-Term, Program, Instance, static_count, Texts, Counts}
use Words.{expr_of, row_of, named_value, name_at, static_at, site_at, is_variable, is_static}
use Words.{is_call, is_no_variable, is_within, are_within, is_unhidden, are_unhidden, DataType}
use Words.{data_types, all_types, name_data_type, operator_types, unary_type, binary_type}
use Words.{common_type, array_of, index_type, slice_type, join_type, list_type, symbol_types}
use Words.{iterator_types, from_one, from_two, from_truths, singly, only, ◌++◌, map, flat_map, ap₂}
use Words.{list_all, map-append, Count, Expr, Static, parts, parts_in, right_side, statement_of}
use Words.{is_statement_within, is_statement_unhidden, ResolvedStatement, FoundTypes, placed_types}
use Words.{placed_row_types, statement_types, type_of, types_in, results, when_both, when_truth}
use Rattle.{lb_static.specs.declared.resolved.Term.Variable, lb_check.specs.TermTypes.Context}
use Rattle.lb_check.proofs.typing.TypeRows.{type_is_only}
use Rattle.lb_syntax.specs.Tree as tree
use Rattle.lb_static.specs.declared.resolved.ResolvedStatement.TheVariants as statement

-- The types that the code finds for a term are those of the expression that it stands for.

-- ## The results of operands

from_one_is : (ts : Option (List DataType)) (o : Option DataType) (f : DataType → Option DataType) →
    (ts >>= only) ≡ o
    → from_one ts f ≡ singly (o >>= f)
from_one_is ts o f e = grind arith

same_again : (ts : Option (List DataType)) (o : Option DataType) → (ts >>= only) ≡ o →
    from_one ts Some ≡ singly o
same_again ts o e = grind arith

from_two_is : (ts us : Option (List DataType)) (o p : Option DataType)
    (f : DataType → DataType → Option DataType)
    → (ts >>= only) ≡ o → (us >>= only) ≡ p → from_two ts us f ≡ singly (when_both o p f)
from_two_is ts us o p f eo ep = grind arith

under_truth : (o p : Option DataType) (us : Option (List DataType)) → us ≡ singly p
    → (from_truths (singly o) >>= λ _. us) ≡ singly (when_truth o p)
under_truth None p us e = refl
under_truth (Some t) p us e = grind (arith, and-true)

counted : (c d : Option ℕ) (ts : Option (List DataType)) (o : Option DataType)
    (f : ℕ → DataType → Option DataType)
    → c ≡ d → (ts >>= only) ≡ o → (c >>= λ n. from_one ts (f n)) ≡ singly (d >>= λ n. o >>= f n)
counted c d ts o f e one = grind (arith, from_one_is)

counted_twice : (c d e g : Option ℕ) (ts : Option (List DataType)) (o : Option DataType)
    (f : ℕ → ℕ → DataType → Option DataType)
    → c ≡ d → e ≡ g → (ts >>= only) ≡ o
    → (c >>= λ i. e >>= λ j. from_one ts (f i j)) ≡ singly (d >>= λ i. g >>= λ j. o >>= f i j)
counted_twice c d e g ts o f first second one = grind (arith, counted)

-- ## Rows

called : {A B C : Type 0} → (o n : Option A) (p q : Option B) (f : A → B → Option C) → o ≡ n → p ≡ q
    → (o >>= λ a. p >>= λ b. f a b) ≡ (q >>= λ b. n >>= λ a. f a b)
called o n p q f eo ep = grind arith

iterated : {A B C D : Type 0} →
    (c d : Option A) (o n : Option B) (p q : Option C) (f : A → B → C → Option D)
    → c ≡ d → o ≡ n → p ≡ q
    → (c >>= λ a. o >>= λ b. p >>= λ x. f a b x) ≡ (q >>= λ x. d >>= λ a. n >>= λ b. f a b x)
iterated c d o n p q f ec eo ep = grind arith

-- ## Terms

-- the meaning of the numbers of a node is what the definitions say of an instance
pub record Fits (P : Program) (here : Instance) (texts : Texts) (n : Counts) (ctx : Context) :
    Type 0 where
  pub variable : (x : _) → is_variable n x ≡ true →
      name_data_type P here (name_at texts.variables x) ≡ ctx.variable x
  pub value : (i : _) → is_static n i ≡ true
      → is_no_variable texts.variables (static_at texts.statics i) ≡ true
      → data_types P here (named_value (static_at texts.statics i)) ≡ singly (ctx.constant i)
  pub count : (i : _) → is_static n i ≡ true →
      static_count P here (static_at texts.statics i) ≡ ctx.count i
  pub call : (c : _) → is_call n c ≡ true
      → operator_types P here (Node_named (site_at texts.calls c).callee
      (site_at texts.calls c).arguments) ≡ ctx.call c
  pub repeats : (c : _) → is_call n c ≡ true
      → static_count P here (either_or (site_at texts.calls c).count (Whole 0)) ≡ ctx.repeats c

module _ (P : Program) (here : Instance) (texts : Texts) (n : Counts) (ctx : Context)
    (fits : Fits P here texts n ctx) where
  abbrev typed : Term → Option (List DataType)
  typed t = data_types P here (expr_of texts t)

  one : (t : Term) → typed t ≡ results ctx t → (typed t >>= only) ≡ type_of ctx t
  one t e = ap (λ o. o >>= only) e ∙ sym (type_is_only ctx t)

  -- the results of a term are the types of its text
  abbrev HasResults : Term → Type 0
  HasResults t = is_within n t ≡ true → is_unhidden texts t ≡ true → typed t ≡ results ctx t

  -- the results of two operands are their types
  two : (a b : Term) (f : DataType → DataType → Option DataType) →
      (is_within n a && is_within n b) ≡ true →
      (is_unhidden texts a && is_unhidden texts b) ≡ true → HasResults a → HasResults b →
      from_two (typed a) (typed b) f ≡ singly (when_both (type_of ctx a) (type_of ctx b) f)
  two a b f w u ea eb =
      from_two_is (typed a) (typed b) (type_of ctx a) (type_of ctx b) f
      (one a (ea (and_first _ _ w) (and_first _ _ u)))
      (one b (eb (and_second _ _ w) (and_second _ _ u)))

  mutual
    unfolding type_of results

    pub term_results : (t : Term) → is_within n t ≡ true → is_unhidden texts t ≡ true →
        typed t ≡ results ctx t
    term_results (Literal m) w u = refl
    term_results (Truth b) w u = refl
    term_results (Variable x) w u = ap singly (fits.variable x w)
    term_results (Value i) w u = fits.value i w u
    term_results (Group' p e) w u = term_results e w u
    term_results (Unary' op p a) w u =
        from_one_is (typed a) (type_of ctx a) (unary_type op) (one a (term_results a w u))
    term_results (Binary' op p a q b) w u =
        two a b (binary_type op) w u (λ w u. term_results a w u) (λ w u. term_results b w u)
    term_results (If' p c q a r b) w u =
        let ec = one c (term_results c (and_first _ _ w) (and_first _ _ u)) in
        ap (λ ts. from_truths ts >>= λ _. from_two (typed a) (typed b) common_type)
        (same_again (typed c) (type_of ctx c) ec)
        ∙ under_truth (type_of ctx c) (when_both (type_of ctx a) (type_of ctx b) common_type) _
        (two a b common_type (and_second _ _ w) (and_second _ _ u) (λ w u. term_results a w u)
        (λ w u. term_results b w u))
    term_results (Arrow' p a q b) w u =
        two a b common_type w u (λ w u. term_results a w u) (λ w u. term_results b w u)
    term_results (Fby' p a q b) w u =
        two a b common_type w u (λ w u. term_results a w u) (λ w u. term_results b w u)
    term_results (Pre' p e) w u = same_again (typed e) (type_of ctx e) (one e (term_results e w u))
    term_results (Current' p e) w u =
        same_again (typed e) (type_of ctx e) (one e (term_results e w u))
    term_results (When' p e x sign) w u =
        let ex = fits.variable x (and_first _ (is_within n e) w) in
        ap (λ o. from_truths (singly o) >>= λ _. from_one (typed e) Some) ex
        ∙ under_truth (ctx.variable x) (type_of ctx e) _
        (same_again (typed e) (type_of ctx e)
        (one e (term_results e (and_second (is_variable n x) _ w) u)))
    term_results (Replicate' p e i) w u =
        counted _ (ctx.count i) (typed e) (type_of ctx e) array_of
        (fits.count i (and_first _ (is_within n e) w))
        (one e (term_results e (and_second (is_static n i) _ w) u))
    term_results (Index' p e i) w u =
        counted _ (ctx.count i) (typed e) (type_of ctx e) index_type
        (fits.count i (and_first _ (is_within n e) w))
        (one e (term_results e (and_second (is_static n i) _ w) u))
    term_results (Slice' p e i j) w u =
        let rest = and_second (is_static n i) _ w in
        counted_twice _ (ctx.count i) _ (ctx.count j) (typed e) (type_of ctx e) slice_type
        (fits.count i (and_first _ (is_static n j && is_within n e) w))
        (fits.count j (and_first _ (is_within n e) rest))
        (one e (term_results e (and_second (is_static n j) _ rest) u))
    term_results (Join' p a q b) w u =
        two a b join_type w u (λ w u. term_results a w u) (λ w u. term_results b w u)
    term_results (Array' arity all) w u =
        ap (λ o. o >>= λ ts. singly (list_type ts)) (row_types all w u)
    term_results (AtMostOne' arity all) w u = ap from_truths (row_types all w u)
    term_results (Nor' arity all) w u = ap from_truths (row_types all w u)
    term_results (Call' c arity all) w u =
        called _ (ctx.call c) _ (types_in ctx all) _
        (fits.call c (and_first _ (are_within n all) w))
        (row_types all (and_second (is_call n c) _ w) u)
    term_results (IterateNode' it c arity all) w u =
        let wc = and_first _ (are_within n all) w in
        iterated _ (ctx.repeats c) _ (ctx.call c) _ (types_in ctx all)
        (λ m o ts. iterator_types it m o.0 o.1 ts)
        (fits.repeats c wc) (fits.call c wc) (row_types all (and_second (is_call n c) _ w) u)
    term_results (IterateSymbol' it op i arity all) w u =
        iterated _ (ctx.count i) _ (symbol_types op) _ (types_in ctx all)
        (λ m o ts. iterator_types it m o.0 o.1 ts)
        (fits.count i (and_first _ (are_within n all) w)) refl
        (row_types all (and_second (is_static n i) _ w) u)

    row_types : {m : _} (row : Row_of-Term m) → are_within n row ≡ true →
        are_unhidden texts row ≡ true
        → all_types P here (row_of texts row) ≡ types_in ctx row
    row_types end_of-Term w u = refl
    row_types (more_of-Term e rest) w u =
        let ee = one e (term_results e (and_first _ (are_within n rest) w)
        (and_first _ (are_unhidden texts rest) u)) in
        let er = row_types rest (and_second (is_within n e) _ w)
        (and_second (is_unhidden texts e) _ u) in
        ap (λ o. o >>= λ t. all_types P here (row_of texts rest) >>= λ ts. Some (t ∷ ts)) ee
        ∙ ap (λ p. type_of ctx e >>= λ t. p >>= λ ts. Some (t ∷ ts)) er

-- The types that the code finds of the parts of a term are those of the parts of its text.

module _ (P : Program) (here : Instance) (texts : Texts) (n : Counts) (ctx : Context)
    (fits : Fits P here texts n ctx) where
  abbrev Places : List FoundTypes → List Expr → Type 0
  Places ts es = ts ≡ map (data_types P here) es

  one_more : (t : Term) (ts : List FoundTypes) (es : List Expr) → is_within n t ≡ true →
      is_unhidden texts t ≡ true → Places ts es →
      Places (results ctx t ∷ ts) (expr_of texts t ∷ es)
  one_more t ts es w u h =
      ap₂ (λ (o : FoundTypes) (l : List FoundTypes). o ∷ l)
      (sym (term_results P here texts n ctx fits t w u)) h

  two_placed : (ts ts' : List FoundTypes) (es es' : List Expr) → Places ts es → Places ts' es' →
      Places (ts ++ ts') (es ++ es')
  two_placed ts ts' es es' h g =
      ap₂ (λ l m. l ++ m) h g ∙ sym (map-append (data_types P here) es es')

  -- the found types of a term are those of the parts of its text, and below of two operands
  abbrev HasPlaces : Term → Type 0
  HasPlaces t =
      is_within n t ≡ true → is_unhidden texts t ≡ true →
      Places (placed_types ctx t) (parts (expr_of texts t))

  both_placed : (a b : Term) → (is_within n a && is_within n b) ≡ true →
      (is_unhidden texts a && is_unhidden texts b) ≡ true → HasPlaces a → HasPlaces b →
      Places (placed_types ctx a ++ placed_types ctx b)
      (parts (expr_of texts a) ++ parts (expr_of texts b))
  both_placed a b w u h g =
      two_placed _ _ _
      _ (h (and_first _ _ w) (and_first _ _ u)) (g (and_second _ _ w) (and_second _ _ u))

  value_alone : (s : Static) → parts (named_value s) ≡ named_value s ∷ []
  value_alone (tree.Named x) = refl
  value_alone (tree.Whole m) = refl
  value_alone (tree.Negated s) = refl
  value_alone (tree.Combined op s t) = refl
  value_alone (tree.Grouped s) = refl

  mutual
    unfolding placed_types

    pub types_placed : (t : Term) → is_within n t ≡ true → is_unhidden texts t ≡ true →
        placed_types ctx t ≡ map (data_types P here) (parts (expr_of texts t))
    types_placed (Literal m) w u = one_more (Literal m) [] [] w u refl
    types_placed (Truth b) w u = one_more (Truth b) [] [] w u refl
    types_placed (Variable x) w u = one_more (Variable x) [] [] w u refl
    types_placed (Value i) w u =
        one_more _ [] [] w u refl
        ∙ ap (map (data_types P here)) (sym (value_alone _))
    types_placed (Group' p e) w u = types_placed e w u
    types_placed (Unary' op p a) w u = one_more _ _ _ w u (types_placed a w u)
    types_placed (Binary' op p a q b) w u =
        one_more _ _ _ w u (both_placed a b w u
        (λ w u. types_placed a w u) (λ w u. types_placed b w u))
    types_placed (If' p c q a r b) w u =
        let wab = and_second _ _ w in
        let uab = and_second _ _ u in
        one_more _
        _ _ w u (two_placed _ _ _ _ (types_placed c (and_first _ _ w) (and_first _ _ u))
        (both_placed a b wab uab (λ w u. types_placed a w u) (λ w u. types_placed b w u)))
    types_placed (Arrow' p a q b) w u =
        one_more _ _ _ w u (both_placed a b w u
        (λ w u. types_placed a w u) (λ w u. types_placed b w u))
    types_placed (Fby' p a q b) w u =
        one_more _ _ _ w u (both_placed a b w u
        (λ w u. types_placed a w u) (λ w u. types_placed b w u))
    types_placed (Pre' p e) w u = one_more _ _ _ w u (types_placed e w u)
    types_placed (Current' p e) w u = one_more _ _ _ w u (types_placed e w u)
    types_placed (When' p e x sign) w u = one_more _ _ _ w u (types_placed e (and_second _ _ w) u)
    types_placed (Replicate' p e i) w u = one_more _ _ _ w u (types_placed e (and_second _ _ w) u)
    types_placed (Index' p e i) w u = one_more _ _ _ w u (types_placed e (and_second _ _ w) u)
    types_placed (Slice' p e i j) w u =
        one_more _ _ _ w u (types_placed e (and_second _ _ (and_second _ _ w)) u)
    types_placed (Join' p a q b) w u =
        one_more _ _ _ w u (both_placed a b w u
        (λ w u. types_placed a w u) (λ w u. types_placed b w u))
    types_placed (Array' arity all) w u = one_more _ _ _ w u (row_types_placed all w u)
    types_placed (AtMostOne' arity all) w u = one_more _ _ _ w u (row_types_placed all w u)
    types_placed (Nor' arity all) w u = one_more _ _ _ w u (row_types_placed all w u)
    types_placed (Call' c arity all) w u =
        one_more _ _ _ w u (row_types_placed all (and_second _ _ w) u)
    types_placed (IterateNode' it c arity all) w u =
        one_more _ _ _ w u (row_types_placed all (and_second _ _ w) u)
    types_placed (IterateSymbol' it op i arity all) w u =
        one_more _ _ _ w u (row_types_placed all (and_second _ _ w) u)

    pub row_types_placed : {m : Count} (row : Row_of-Term m) → are_within n row ≡ true →
        are_unhidden texts row ≡ true →
        placed_row_types ctx row ≡ map (data_types P here) (parts_in (row_of texts row))
    row_types_placed end_of-Term w u = refl
    row_types_placed (more_of-Term e rest) w u =
        two_placed _ _ _
        _ (types_placed e (and_first _ _ w) (and_first _ _ u))
        (row_types_placed rest (and_second _ _ w) (and_second _ _ u))

  -- ## Statements

  statement_placed : (s : ResolvedStatement) → is_statement_within n s ≡ true →
      is_statement_unhidden texts s ≡ true →
      statement_types ctx s
      ≡ map (data_types P here) (parts (right_side (statement_of texts s)))
  statement_placed (statement.Equation lefts e) w u = types_placed e (and_second _ _ w) u
  statement_placed (statement.Assertion e) w u = types_placed e w u

  -- the found types of the statements of a node are those of the parts of their texts
  pub statements_typed : (ss : List ResolvedStatement) →
      list_all (is_statement_within n) ss ≡ true →
      list_all (is_statement_unhidden texts) ss ≡ true →
      flat_map (statement_types ctx) ss
      ≡ map (data_types P here) (flat_map (λ s. parts (right_side s))
      (map (statement_of texts) ss))
  statements_typed [] w u = refl
  statements_typed (s ∷ ss) w u =
      two_placed _ _
      _
      _ (statement_placed s (and_first _ _ w) (and_first _ _ u)) (statements_typed ss
      (and_second _ _ w) (and_second _ _ u))
