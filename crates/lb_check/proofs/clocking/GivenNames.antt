-- The names of the variables that a call gives for those of its callee.
use Rattle.lb_check.proofs.Words
use Words.{Bool, ClockSet, Context, Counts, Declaration, Declared, Expr, Given, Group', HasClocks}
use Words.{IsResolved, List, Name, None, OneClock, Option, ResolvedNode, Sampling, Some, Static}
use Words.{Term, Texts, Value, VariableId, [], among, and-true, and_first, and_second, ap}
use Words.{are_distinct, are_given_variables, arith, as_variable, bytes_eq, bytes_eq-Decides}
use Words.{clock_sets, cond, counts_of, declaration_of, distinct_last, either_or, expr_of, exprs_of}
use Words.{false, get_first, get_later, given_at, given_inputs, given_outputs, holds, infer_clock}
use Words.{is_given_variable, is_no_variable, is_some, is_unhidden, is_variable, is_variable_at}
use Words.{is_within, item_at, length, length-append, list_all, listed, map, map-append, name_at}
use Words.{name_in, named, named_value, nat_lt, nat_tests, node_of, not, not-true, operands_of}
use Words.{option_map, or_first, or_second, refl, slice_get, slice_get_within, static_at}
use Words.{statics_of, subst, suc, sym, take, texts_of, true, variable_names, variable_of}
use Words.{variables, waits_below, zero, zip2, ℕ, ◌&&◌, ◌++◌, ◌+◌, ◌<◌, ◌||◌, ◌∙◌, ◌∷◌, ◌≡◌, ◌≤◌}
use Rattle.lb_check.proofs.clocking.ClockDepths.{among_first, first_names, get_name, parameters_are}
use Rattle.lb_check.proofs.clocking.{ClockDepths.zip_all, ClockTests.among_at}
use Rattle.lb_check.proofs.{clocking.OuterClocks.place_name, lists.Members.distinct_first}
use Rattle.lb_check.{proofs.lists.Members.{not_among, unequal}, specs.CallClocks.is_given}
use Rattle.lb_static.specs.declared.resolved.Term.{Variable}
use Rattle.lb_syntax.specs.Tree as tree

-- The arguments that the code finds to be variables are those of the definition.

-- ## Names

-- whether an expression is a variable of a node with these names
abbrev pub is_own : List Name → Expr → Bool
is_own names e = holds (λ y. among y names) (as_variable e)

module _ (texts : Texts) (n : Counts) (as_many : n.variables ≡ length texts.variables) where
  own_value : (s : Static) → is_no_variable texts.variables s ≡ true →
      is_own texts.variables (named_value s) ≡ false
  own_value (tree.Named x) e = not-true (among x texts.variables) e
  own_value s e = refl

  own_variable : (x : VariableId) → is_variable n x ≡ true →
      is_own texts.variables (tree.Variable (name_at texts.variables x)) ≡ true
  own_variable x w =
      let lt : x.0 < length texts.variables = grind (arith, nat_tests) in
      let z = item_at texts.variables x.0 lt in
      ap (λ o. among (either_or o []) texts.variables) z.1 ∙ among_at texts.variables x.0 z.0 z.1

  -- a term is a variable of the node exactly where the code finds that it is a variable
  pub own_term : (t : Term) → is_within n t ≡ true → is_unhidden texts t ≡ true →
      is_own texts.variables (expr_of texts t) ≡ is_some (variable_of t)
  unfolding variable_of
  own_term (Variable x) w u = own_variable x w
  own_term (Value i) w u = own_value (static_at texts.statics i) u
  own_term (Group' p e) w u = own_term e w u
  own_term _ w u = refl

-- ## The variable that is given for an input

pub skipped : (o : Option Name) (c x : Name) (rest : Given) → bytes_eq c x ≡ false
    → named (λ g. g.0) x (listed (λ y. (c, y) ∷ []) o ++ rest) ≡ named (λ g. g.0) x rest
skipped None c x rest other = refl
skipped (Some y) c x rest other = rw other refl

pub none_given : (x : Name) (ds : List Declaration) (es : tree.Exprs) →
    among x (map (λ d. d.name) ds) ≡ false → named (λ g. g.0) x (given_inputs ds es) ≡ None
none_given x [] es a = refl
none_given x (c ∷ ds) tree.Nil a = refl
none_given x (c ∷ ds) (tree.Cons e es) a =
    skipped (as_variable e) c.name x (given_inputs ds es)
    (unequal x c.name (or_first (bytes_eq x c.name) _ a))
    ∙ none_given x ds es (or_second (bytes_eq x c.name) _ a)

first_given : (names : List Name) (o : Option Name) (c x : Name) (rest : Given) →
    bytes_eq c x ≡ true → named (λ g. g.0) x rest ≡ None
    → holds (λ g. among g.1 names)
    (named (λ g. g.0) x (listed (λ y. (c, y) ∷ []) o ++ rest)) ≡ holds (λ y. among y names) o
first_given names None c x rest here no_more = ap (holds (λ g. among g.1 names)) no_more
first_given names (Some y) c x rest here no_more = rw here refl

module _ (texts : Texts) (n : Counts) (as_many : n.variables ≡ length texts.variables) where
  given_declaration_at : (ds : List Declaration) (es : List Term) (y : ℕ) (d : Declaration) →
      are_distinct (map (λ d. d.name) ds) ≡ true → slice_get ds y ≡ Some d
      → list_all (is_within n) es ≡ true → list_all (is_unhidden texts) es ≡ true
      → holds (λ g. among g.1 texts.variables)
      (named (λ g. g.0) d.name (given_inputs ds (exprs_of texts es))) ≡ is_variable_at es y
  given_declaration_at [] es y d u e w v = absurd cc
  given_declaration_at (c ∷ ds) [] y d u e w v = refl
  given_declaration_at (c ∷ ds) (t ∷ es) zero d u e w v =
      let same : c ≡ d = cc in
      let a = not-true _ (and_first _ _ u) in
      let here : bytes_eq c.name d.name ≡ true =
      (bytes_eq-Decides c.name d.name).1 (ap (λ z. z.name) same) in
      let gone : among d.name (map (λ d. d.name) ds) ≡ false =
      subst (λ z. among z.name (map (λ d. d.name) ds) ≡ false) same a in
      first_given texts.variables (as_variable (expr_of texts t)) c.name d.name
      (given_inputs ds (exprs_of texts es)) here (none_given d.name ds (exprs_of texts es) gone)
      ∙ own_term texts n as_many t (and_first _ _ w) (and_first _ _ v)
  given_declaration_at (c ∷ ds) (t ∷ es) (suc y) d u e w v =
      let a = not-true _ (and_first _ _ u) in
      let other = not_among c.name (map (λ d. d.name) ds) y d.name a (get_name ds y d e) in
      ap (holds (λ g. among g.1 texts.variables))
      (skipped (as_variable (expr_of texts t)) c.name d.name
      (given_inputs ds (exprs_of texts es)) other)
      ∙ given_declaration_at ds es y d (and_second _ _ u) e (and_second _ _ w) (and_second _ _ v)

-- ## Parameters that wait for an input

module _ (here callee : ResolvedNode) (nodes : List Name) (ec : IsResolved nodes callee)
    (distinct : are_distinct (variable_names (node_of callee)) ≡ true)
    (as_many : length here.variables.items ≡ length (variable_names (node_of here)))
    (es : List Term) (w : list_all (is_within (counts_of here)) es ≡ true)
    (u : list_all (is_unhidden (texts_of here)) es ≡ true) where
  abbrev given : Given
  given = given_inputs (node_of callee).inputs (exprs_of (texts_of here) es)

  abbrev names : List Name
  names = variable_names (node_of callee)

  abbrev others : List Declaration
  others = (node_of callee).outputs ++ (node_of callee).locals

  input_names : take (length (node_of callee).inputs) names ≡ map (λ d. d.name)
      (node_of callee).inputs
  input_names = first_names (node_of callee).inputs others

  inputs_distinct : are_distinct (map (λ d. d.name) (node_of callee).inputs) ≡ true
  inputs_distinct =
      distinct_first (map (λ d. d.name) (node_of callee).inputs) (map (λ d. d.name) others)
      (subst (λ l. are_distinct l ≡ true)
      (map-append (λ d. d.name) (node_of callee).inputs others) distinct)

  -- the clock variable of a parameter is given a variable exactly where its argument is one
  input_given : (y : VariableId) → y.0 < length (node_of callee).inputs
      → holds (λ g. among g.1 (variable_names (node_of here)))
      (named (λ g. g.0) (name_at names y) given) ≡ is_variable_at es y.0
  input_given y lt =
      let d = item_at (node_of callee).inputs y.0 lt in
      let whole = get_first (node_of callee).inputs others y.0 d.0 d.1 in
      let name : name_at names y ≡ d.0.name =
      ap (λ o. either_or o []) (get_name (variables (node_of callee)) y.0 d.0 whole) in
      ap (λ x. holds (λ g. among g.1 (variable_names (node_of here))) (named (λ g. g.0) x given))
      name
      ∙ given_declaration_at (texts_of here) (counts_of here) as_many
      (node_of callee).inputs es y.0 d.0 inputs_distinct d.1 w u

  given_by : (y : VariableId) (b : Bool) → nat_lt y.0 (length (node_of callee).inputs) ≡ b →
      among (name_at names y) (map (λ i. i.name) (node_of callee).inputs) ≡ b
      → (not (among (name_at names y) (map (λ i. i.name) (node_of callee).inputs))
      || holds (λ g. among g.1 (variable_names (node_of here)))
      (named (λ g. g.0) (name_at names y) given))
      ≡ (not (nat_lt y.0 (length (node_of callee).inputs)) || is_variable_at es y.0)
  given_by y false is e = rw (is, e) refl
  given_by y true is e =
      let lt : y.0 < length (node_of callee).inputs = grind (arith, nat_tests) in
      rw (is, e) (input_given y lt)

  given_one : (x : Name) (v : Declared) (o : Option Sampling) → v.clock ≡ o →
      waits_below (length names) v ≡ true
      → is_given_variable (node_of here) (node_of callee) given
      (declaration_of names (statics_of callee) x v) ≡ is_given
      (length (node_of callee).inputs) es v
  given_one x v None is b = rw is refl
  given_one x v (Some s) is b =
      let y = s.variable in
      let below : nat_lt y.0 (length names) ≡ true = rw is at b in
      let less : y.0 < length names = grind (arith, nat_tests) in
      let z = item_at names y.0 less in
      let found : among (name_at names y) (map (λ i. i.name) (node_of callee).inputs) ≡ nat_lt y.0
      (length (node_of callee).inputs) =
      ap (λ o. among (either_or o []) (map (λ i. i.name) (node_of callee).inputs)) z.1
      ∙ ap (among z.0) (sym input_names)
      ∙ among_first names (length (node_of callee).inputs) y.0 z.0 distinct z.1 in
      rw is
      (ap (λ b. b && true) (given_by y (nat_lt y.0 (length (node_of callee).inputs)) refl found)
      ∙ and-true _)

  given_list : (xs : List Name) (vs : List Declared) → length xs ≡ length vs →
      list_all (waits_below (length names)) vs ≡ true
      → list_all (is_given_variable (node_of here) (node_of callee) given)
      (zip2 (declaration_of names (statics_of callee)) xs vs)
      ≡ list_all (is_given (length (node_of callee).inputs) es) vs
  given_list xs vs len b =
      zip_all (declaration_of names (statics_of callee))
      (is_given_variable (node_of here) (node_of callee) given)
      (is_given (length (node_of callee).inputs) es) (waits_below (length names))
      (λ x v w. given_one x v v.clock refl w) xs vs len b

  -- the rule on all parameters holds exactly where the code finds it
  pub all_given : are_given_variables (node_of here) (node_of callee) (exprs_of (texts_of here) es)
      ≡ list_all (is_given callee.inputs es)
      (take (callee.inputs + callee.outputs) callee.variables.items)
  all_given =
      let are = parameters_are nodes callee ec distinct in
      ap (list_all (is_given_variable (node_of here) (node_of callee) given)) are.0
      ∙ given_list _ _ are.1 are.2
      ∙ ap (λ m. list_all (is_given m es)
      (take (callee.inputs + callee.outputs) callee.variables.items)) (sym ec.inputs)

-- The variables given for those of a callee have the names of the caller's variables.

-- ## Operands that are variables

-- the text of an operand that is a variable is the name of the variable
pub variable_as : (texts : Texts) (t : Term) (y : VariableId) → variable_of t ≡ Some y →
    as_variable (expr_of texts t) ≡ Some (name_at texts.variables y)
unfolding variable_of
variable_as texts (Variable x) y e = let same : x ≡ y = cc in
    ap (λ z. Some (name_at texts.variables z)) same
variable_as texts (Group' p e) y h = variable_as texts e y h
variable_as texts _ y e = absurd cc

pub variable_within : (n : Counts) (t : Term) (y : VariableId) → variable_of t ≡ Some y →
    is_within n t ≡ true → is_variable n y ≡ true
unfolding variable_of
variable_within n (Variable x) y e w = let same : x ≡ y = cc in
    subst (λ z. is_variable n z ≡ true) same w
variable_within n (Group' p e) y h w = variable_within n e y h w
variable_within n _ y e w = absurd cc

-- an operand that is a variable stands on the clock of the variable alone
pub variable_stands : (ctx : Context) (t : Term) (y : VariableId) → variable_of t ≡ Some y →
    infer_clock ctx t ≡ OneClock (ctx.variable y)
unfolding variable_of infer_clock
variable_stands ctx (Variable x) y e =
    let same : x ≡ y = cc in ap (λ z. OneClock (ctx.variable z)) same
variable_stands ctx (Group' p e) y h = variable_stands ctx e y h
variable_stands ctx _ y e = absurd cc

pub operand_at : (ctx : Context) (es : List Term) (i : ℕ) (y : VariableId) →
    given_at (operands_of ctx es) i ≡ Some y
    → (t : Term) × (slice_get es i ≡ Some t) × (variable_of t ≡ Some y)
operand_at ctx [] i y e = absurd cc
operand_at ctx (t ∷ es) zero y e = (t, refl, e)
operand_at ctx (t ∷ es) (suc i) y e = operand_at ctx es i y e

pub clock_set_at : (ctx : Context) (es : List Term) (i : ℕ) (t : Term) → slice_get es i ≡ Some t →
    slice_get (clock_sets (operands_of ctx es)) i ≡ Some (infer_clock ctx t)
clock_set_at ctx [] i t e = absurd cc
clock_set_at ctx (u ∷ es) zero t e =
    let same : u ≡ t = cc in ap (λ z. Some (infer_clock ctx z)) same
clock_set_at ctx (u ∷ es) (suc i) t e = clock_set_at ctx es i t e

pub term_at : (ctx : Context) (es : List Term) (i : ℕ) (s : ClockSet) →
    slice_get (clock_sets (operands_of ctx es)) i ≡ Some s
    → (t : Term) × (slice_get es i ≡ Some t) × (infer_clock ctx t ≡ s)
term_at ctx [] i s e = absurd cc
term_at ctx (u ∷ es) zero s e = (u, refl, cc)
term_at ctx (u ∷ es) (suc i) s e = term_at ctx es i s e

-- ## The variable that is found by a name

abbrev pub found : Given → Name → Option Name
found given x = option_map (λ g. g.1) (named (λ g. g.0) x given)

found_first : (p : Name × Name) (given : Given) (x : Name) → bytes_eq p.0 x ≡ true →
    found (p ∷ given) x ≡ Some p.1
found_first p given x e = rw e refl

found_next : (p : Name × Name) (given : Given) (x : Name) → bytes_eq p.0 x ≡ false →
    found (p ∷ given) x ≡ found given x
found_next p given x e = rw e refl

pub found_before : (given rest : Given) (x n : Name) → found given x ≡ Some n →
    found (given ++ rest) x ≡ Some n
found_before [] rest x n e = absurd cc
found_before (p ∷ given) rest x n e = by (bytes_eq p.0 x) refl (found_before given rest x n)
  where
    by : (b : Bool) → bytes_eq p.0 x ≡ b →
        (found given x ≡ Some n → found (given ++ rest) x ≡ Some n) →
        found (p ∷ (given ++ rest)) x ≡ Some n
    by true is next = found_first p (given ++ rest) x is ∙ sym (found_first p given x is) ∙ e
    by false is next = found_next p (given ++ rest) x is ∙ next (sym (found_next p given x is) ∙ e)

-- a name that is not among the first pairs is found among the others
pub given_after : (given rest : Given) (x : Name) → named (λ g. g.0) x given ≡ None →
    named (λ g. g.0) x (given ++ rest) ≡ named (λ g. g.0) x rest
given_after [] rest x e = refl
given_after (g ∷ given) rest x e = by (bytes_eq g.0 x) (given_after given rest x) e
  where
    by : (b : Bool) →
        (named (λ g. g.0) x given ≡ None →
        named (λ g. g.0) x (given ++ rest) ≡ named (λ g. g.0) x rest) →
        cond b (Some g) (named (λ g. g.0) x given) ≡ None →
        cond b (Some g) (named (λ g. g.0) x (given ++ rest)) ≡ named (λ g. g.0) x rest
    by true later e = absurd cc
    by false later e = later e

-- ## Inputs and outputs

given_first : (c : Declaration) (o : Option Name) (rest : Given) (x n : Name) →
    bytes_eq c.name x ≡ true → o ≡ Some n
    → found (listed (λ y. (c.name, y) ∷ []) o ++ rest) x ≡ Some n
given_first c None rest x n same e = absurd cc
given_first c (Some m) rest x n same e = found_first (c.name, m) rest x same ∙ e

named_input : (texts : Texts) (ds : List Declaration) (es : List Term) (i : ℕ) (d : Declaration)
    (t : Term) (y : VariableId) → are_distinct (map (λ d. d.name) ds) ≡ true
    → slice_get ds i ≡ Some d → slice_get es i ≡ Some t → variable_of t ≡ Some y →
    found (given_inputs ds (exprs_of texts es)) d.name ≡ Some (name_at texts.variables y)
named_input texts [] es i d t y u p q e = absurd cc
named_input texts (c ∷ ds) [] i d t y u p q e = absurd cc
named_input texts (c ∷ ds) (a ∷ es) zero d t y u p q e =
    let same : c ≡ d = cc in
    let term : t ≡ a = cc in
    let here : bytes_eq c.name d.name ≡ true =
    (bytes_eq-Decides c.name d.name).1 (ap (λ z. z.name) same) in
    given_first c (as_variable (expr_of texts a)) (given_inputs ds (exprs_of texts es)) d.name
    (name_at texts.variables y) here
    (variable_as texts a y (subst (λ z. variable_of z ≡ Some y) term e))
named_input texts (c ∷ ds) (a ∷ es) (suc i) d t y u p q e =
    let out = not-true _ (and_first _ _ u) in
    let other = not_among c.name (map (λ d. d.name) ds) i d.name out (get_name ds i d p) in
    ap (option_map (λ g. g.1)) (skipped (as_variable (expr_of texts a)) c.name d.name
    (given_inputs ds (exprs_of texts es)) other)
    ∙ named_input texts ds es i d t y (and_second _ _ u) p q e

named_output : (ds : List Declaration) (xs : List Name) (j : ℕ) (d : Declaration) (x : Name) →
    are_distinct (map (λ d. d.name) ds) ≡ true
    → slice_get ds j ≡ Some d → slice_get xs j ≡ Some x →
    found (given_outputs ds xs) d.name ≡ Some x
named_output [] xs j d x u p q = absurd cc
named_output (c ∷ ds) [] j d x u p q = absurd cc
named_output (c ∷ ds) (z ∷ xs) zero d x u p q =
    let same : c ≡ d = cc in
    let here : bytes_eq c.name d.name ≡ true =
    (bytes_eq-Decides c.name d.name).1 (ap (λ z. z.name) same) in
    found_first (c.name, z) (given_outputs ds xs) d.name here ∙ q
named_output (c ∷ ds) (z ∷ xs) (suc j) d x u p q =
    let out = not-true _ (and_first _ _ u) in
    let other = not_among c.name (map (λ d. d.name) ds) j d.name out (get_name ds j d p) in
    found_next (c.name, z) (given_outputs ds xs) d.name other
    ∙ named_output ds xs j d x (and_second _ _ u) p q

-- ## Places of a callee

module _ (callee : ResolvedNode) (hc : HasClocks callee) where
  name_here : (i : ℕ) (d : Declaration) → slice_get (variables (node_of callee)) i ≡ Some d →
      d.name ≡ place_name callee i
  name_here i d e = sym (ap (λ o. either_or o []) (get_name (variables (node_of callee)) i d e))

  pub input_at : (i : ℕ) (d : Declaration) → slice_get (node_of callee).inputs i ≡ Some d →
      (d.name ≡ place_name callee i) × (i < callee.inputs)
  input_at i d e =
      let lt = slice_get_within (node_of callee).inputs i d e in (
        name_here i d (get_first (node_of callee).inputs _ i d e),
        subst (λ m. i < m) (sym hc.resolved.inputs) lt,
      )

  output_there : (j : ℕ) (d : Declaration) → slice_get (node_of callee).outputs j ≡ Some d →
      slice_get (variables (node_of callee)) (callee.inputs + j) ≡ Some d
  output_there j d e =
      ap (λ m. slice_get (variables (node_of callee)) (m + j)) hc.resolved.inputs
      ∙ get_later (node_of callee).inputs ((node_of callee).outputs ++ (node_of callee).locals) j
      ∙ get_first (node_of callee).outputs (node_of callee).locals j d e

  pub output_at : (j : ℕ) (d : Declaration) → slice_get (node_of callee).outputs j ≡ Some d →
      (d.name ≡ place_name callee (callee.inputs + j)) × (j < callee.outputs)
  output_at j d e =
      let lt = slice_get_within (node_of callee).outputs j d e in (
        name_here (callee.inputs + j) d (output_there j d e),
        subst (λ m. j < m) (sym hc.resolved.outputs) lt,
      )

  pub input_held : (i : ℕ) → i < callee.inputs →
      (d : Declaration) × (slice_get (node_of callee).inputs i ≡ Some d)
  input_held i lt = item_at (node_of callee).inputs i (subst (λ m. i < m) hc.resolved.inputs lt)

  pub output_held : (j : ℕ) → j < callee.outputs →
      (d : Declaration) × (slice_get (node_of callee).outputs j ≡ Some d)
  output_held j lt = item_at (node_of callee).outputs j (subst (λ m. j < m) hc.resolved.outputs lt)

  -- there are no more inputs and outputs than variables
  pub all_variables : callee.inputs + callee.outputs ≤ length callee.variables.items
  all_variables =
      let a = length-append (node_of callee).inputs
      ((node_of callee).outputs ++ (node_of callee).locals) in
      let b = length-append (node_of callee).outputs (node_of callee).locals in
      omega (arith, a, b, hc.resolved.as_many, hc.resolved.inputs, hc.resolved.outputs)

  -- each input and each output has a variable
  pub variable_held : (i : ℕ) → i < callee.inputs + callee.outputs →
      (v : Declared) × (slice_get callee.variables.items i ≡ Some v)
  variable_held i lt = let few = all_variables in item_at callee.variables.items i (omega arith)

  names_split : are_distinct (map (λ d. d.name) (node_of callee).inputs
      ++ (map (λ d. d.name) (node_of callee).outputs ++ map (λ d. d.name) (node_of callee).locals))
      ≡ true
  names_split =
      subst (λ l. are_distinct l ≡ true)
      (map-append (λ d. d.name) (node_of callee).inputs
      ((node_of callee).outputs ++ (node_of callee).locals)
      ∙ ap (λ l. map (λ d. d.name) (node_of callee).inputs ++ l)
      (map-append (λ d. d.name) (node_of callee).outputs (node_of callee).locals))
      hc.distinct

  -- an output has the name of no input
  not_input : (j : ℕ) (d : Declaration) → slice_get (node_of callee).outputs j ≡ Some d →
      among d.name (map (λ d. d.name) (node_of callee).inputs) ≡ false
  not_input j d e =
      let place = callee.inputs + j in
      let here = get_name (variables (node_of callee)) place d (output_there j d e) in
      let k = length (node_of callee).inputs in
      let past : nat_lt place k ≡ false = let same = hc.resolved.inputs in
      grind (arith, nat_tests) in
      ap (among d.name)
      (sym (first_names (node_of callee).inputs
      ((node_of callee).outputs ++ (node_of callee).locals)))
      ∙ among_first (variable_names (node_of callee)) k place d.name hc.distinct here ∙ past

  -- the variable given for an input is found by the name of the input
  pub given_in : (here : ResolvedNode) (ctx : Context) (es : List Term) (i : ℕ) (y : VariableId) →
      i < callee.inputs → given_at (operands_of ctx es) i ≡ Some y
      → found (given_inputs (node_of callee).inputs (exprs_of (texts_of here) es))
      (place_name callee i) ≡ Some (name_in here y)
  given_in here ctx es i y lt e =
      let d = input_held i lt in
      let t = operand_at ctx es i y e in
      ap (found (given_inputs (node_of callee).inputs (exprs_of (texts_of here) es)))
      (sym (input_at i d.0 d.1).0)
      ∙ named_input (texts_of here)
      (node_of callee).inputs es i d.0 t.0 y (distinct_first (map (λ d. d.name)
      (node_of callee).inputs) _ names_split) d.1 t.1 t.2

  -- the variable given for an output is found by the name of the output
  pub given_out : (es : tree.Exprs) (xs : List Name) (j : ℕ) (x : Name) → j < callee.outputs →
      slice_get xs j ≡ Some x
      → found (given_inputs (node_of callee).inputs es ++ given_outputs (node_of callee).outputs xs)
      (place_name callee (callee.inputs + j)) ≡ Some x
  given_out es xs j x lt e =
      let d = output_held j lt in
      let given = given_inputs (node_of callee).inputs es in
      let more = given_outputs (node_of callee).outputs xs in
      ap (found (given ++ more)) (sym (output_at j d.0 d.1).0)
      ∙ ap (option_map (λ g. g.1)) (given_after given more d.0.name
      (none_given d.0.name (node_of callee).inputs es (not_input j d.0 d.1)))
      ∙ named_output (node_of callee).outputs xs j d.0 x (distinct_first (map (λ d. d.name)
      (node_of callee).outputs) _ (distinct_last (map (λ d. d.name) (node_of callee).inputs) _
      names_split)) d.1 e
