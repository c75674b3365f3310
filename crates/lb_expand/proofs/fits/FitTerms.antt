-- The equations of an expression fit; its elements are on its clock and of the kind of its type.
use Rattle.lb_expand.proofs.Words
use Words.{ApplyBinary, ApplyUnary, Array, ArrayIterator, Arrow, AtMostOne, Binary, BinaryOperator}
use Words.{Boolean, Call, Cons, Constant, Current, DataType, Declaration, Emitted, EmittedAll}
use Words.{Every, Expr, Exprs, Fby, Fill, FirstThen, FlatClock, FlatEquation, Group, If, IfSome}
use Words.{Index, Instance, Int, Integer, Iterate, Join, Kind, Latest, Layout, List, Literal, Map}
use Words.{Name, Nil, Node_named, None, Nor, Occurrence, On, Option, Pre, Previous, Program, Red}
use Words.{Replicate, Sample, Scalar, Slice, Some, State, Symbol, Truth, Truth_kind, Unary}
use Words.{Variable, When, Where, [], add, all_some, all_types, among, and_first, and_second}
use Words.{any_in, ap, are_types, arith, array_of, binary_type, bytes_eq, bytes_eq-Decides}
use Words.{call_clocks, call_count, clock_or, clock_same, common_type, constant_type, data_types}
use Words.{declared_clock, either_or, emit, emit_all, emit_each, emit_name, emit_symbol, false}
use Words.{find_in, first_of_all, first_value, flat_clock, found_name, from_one, from_truths}
use Words.{heads_same, implied, in_map, index_type, inl, inr, int, is_arithmetic, is_clock}
use Words.{is_logical, is_type, iterator_types, join_type, joined, joins, list_type, map}
use Words.{name_data_type, name_value, named, node_named, not, number, occurrences}
use Words.{occurrences_each, occurrences_in, operator_types, option_map, or_fault, pos, refl}
use Words.{same_Some, singly, slice_type, static_count, subst, subst₂, sym, true, truly, truth}
use Words.{unary_type, variable_names, variable_type, variables, where_signed, where_true, ℕ, ℤ}
use Words.{◌&&◌, ◌++◌, ◌+◌, ◌||◌, ◌∙◌, ◌∷◌, ◌≡◌, ◌⊎◌}
use Rattle.lb_check.specs.Clocks.{Clock, clock_of}
use Rattle.lb_expand.proofs.emission.EmissionSteps.{at_most_one_step, nor_step, symbol_step}
use Rattle.lb_expand.proofs.fits.FitCalls.{AllOn, AreArguments, call_fit, call_found, iterator_fit}
use Rattle.lb_expand.proofs.fits.{FitCalls.iterator_found, FitWords.{AllFit, AllSorted, AreOn}}
use Rattle.lb_expand.proofs.fits.FitWords.{AreVariablesOn, Earlier, Fit, Gives, Grown, IsFit, IsOn}
use Rattle.lb_expand.proofs.fits.FitWords.{IsSet, IsVariableOn, Sorts, add_fit, at_most_one_fit}
use Rattle.lb_expand.proofs.fits.FitWords.{binary_sorted, boolean_gives, choice_fit}
use Rattle.lb_expand.proofs.fits.FitWords.{earlier, first_then_sorted, keep_fit}
use Rattle.lb_expand.proofs.fits.FitWords.{latest_sorted, nor_fit, not_grown, one_fit}
use Rattle.lb_expand.proofs.fits.FitWords.{previous_sorted, symbol_fit, then_fit, then_grown}
use Rattle.lb_expand.proofs.fits.{FitWords.{two_fit, unary_sorted}, KindFacts.{AllOf, array_kind}}
use Rattle.lb_expand.proofs.fits.KindFacts.{arrays_alike, binary_kinds, common_kinds, index_kind}
use Rattle.lb_expand.proofs.fits.KindFacts.{join_kinds, kinds_alike, list_kinds, slice_kind}
use Rattle.lb_expand.proofs.fits.KindFacts.{type_kind, unary_kinds, variable_kind}
use Rattle.lb_expand.proofs.{solutions.Emission.joins_equations, widths.TypeFacts.{Symbolic, alone}}
use Rattle.lb_expand.proofs.widths.TypeFacts.{bound, constant, each, found_in, from_true, one}
use Rattle.lb_expand.proofs.widths.TypeFacts.{symbolic, two}
use Rattle.lb_flat.proofs.lists.Lists.{Every-append, Every-copies, Every-drop, Every-first}
use Rattle.lb_flat.proofs.lists.Lists.{Every-joined, Every-second, Every-take}
use Rattle.lb_flat.{proofs.runs.Fitting.nil_of, specs.Fitting.{IsOf, binary_kind}}

arithmetic_kind :
    (op : BinaryOperator) → is_arithmetic op ≡ true → binary_kind op Int Int ≡ Some Int
arithmetic_kind op e = grind arith

no_arithmetic : (op : BinaryOperator) → is_logical op ≡ true → is_arithmetic op ≡ false
no_arithmetic op e = grind arith

-- an operator that is iterated gives the kind of its operands
symbol_kind :
    (op : BinaryOperator) (types : List DataType × List DataType) (y : Symbolic op types) →
    (is_arithmetic op ≡ false → binary_kind op Truth_kind Truth_kind ≡ Some Truth_kind) →
    binary_kind op y.data_type.kind y.data_type.kind ≡ Some y.data_type.kind
symbol_kind op types y w = by y.of
  where
    by : ((is_arithmetic op ≡ true) × (y.data_type ≡ int))
        ⊎ ((is_logical op ≡ true) × (y.data_type ≡ truth)) →
        binary_kind op y.data_type.kind y.data_type.kind ≡ Some y.data_type.kind
    by (inl (a, e)) = rw e (arithmetic_kind op a)
    by (inr (l, e)) = rw e (w (no_arithmetic op l))

-- a name by which a variable is found is among the names of the variables
found_among :
    (ds : List Declaration) (x : Name) (d : Declaration) →
    named (λ d. d.name) x ds ≡ Some d → among x (map (λ d. d.name) ds) ≡ true
found_among ds x d e =
    any_in (bytes_eq x) (map (λ d. d.name) ds) d.name
    (in_map (λ d. d.name) ds d (find_in (λ (d : Declaration). bytes_eq d.name x) ds d e))
    ((bytes_eq-Decides x d.name).1 (sym (found_name x ds d e)))

module _ (S : Sorts) (Y : Layout) (P : Program) (here : Instance)
    (variables_on : AreVariablesOn S Y P here) where
  -- the flat clock of a clock of the instance
  abbrev pub flat : Clock → FlatClock
  flat k = flat_clock Y here.path k

  -- the equations of an expression with these types fit, and where it has one result, its elements
  -- are on its clock and of the kind of its type
  pub record TermFits (s : State) (r : Emitted) (k : Clock) (ts : List DataType) : Type 0 where
    pub grown : Grown S s r.state
    pub found : (t : DataType) → ts ≡ t ∷ [] → AreOn S (flat k) t.kind r.found

  -- the equations of expressions with one result each fit, and their elements are on one clock
  pub record AllFitOn (s : State) (r : EmittedAll) (k : Clock) (ts : List DataType) : Type 0 where
    pub grown : Grown S s r.state
    pub found : AllOn S Y P here k ts r.found

  -- the equations of expressions fit, and their elements are on the clocks `ks`, each on its own
  pub record EachFits (s : State) (r : EmittedAll) (ks : List Clock) (ts : List DataType) :
      Type 0 where
    pub grown : Grown S s r.state
    pub found : AreArguments S Y P here ks ts r.found

  one_type :
      {s : State} {r : Emitted} {k : Clock} {u : DataType} {ts : List DataType} → Fit S s r (flat k)
      u.kind → ts ≡ u ∷ [] → TermFits s r k ts
  one_type {u = u} f all =
      record { grown = f.grown; found = λ t e. rw (← (heads_same u t [] [] (sym all ∙ e))) f.found }

  -- an expression with one result of kind `c` fits on its clock and kind
  fit_of :
      {s : State} {r : Emitted} {k : Clock} {u : DataType} {c : Kind} → u.kind ≡ c →
      (AllSorted S r.state.equations → TermFits s r k (u ∷ [])) →
      AllSorted S r.state.equations → Fit S s r (flat k) c
  fit_of {r = r} {k = k} {u = u} e part h =
      let f = part h in
      record { grown = f.grown; found = subst (λ b. AreOn S (flat k) b r.found) e (f.found u refl) }

  -- ## Names and constants

  constant_fits :
      (k : Clock) (s : State) (v : Scalar) (u : DataType) (ts : List DataType) →
      Gives S (flat k) u.kind (Constant v) → ts ≡ u ∷ [] →
      AllSorted S (add (flat k) s (Constant v ∷ [])).state.equations →
      TermFits s (add (flat k) s (Constant v ∷ [])) k ts
  constant_fits k s v u ts g all h = one_type (add_fit S _ (g, tt) h) all

  named_gives :
      (k : FlatClock) (o : Option ℤ) → IsOf Int (or_fault o) →
      Gives S k Int (Constant (or_fault o))
  named_gives k None h = record { clocks = tt; kinds = refl; kind = refl }
  named_gives k (Some z) h = record { clocks = tt; kinds = h; kind = refl }

  name_fits :
      (k : Clock) (s : State) (x : Name) (o : Option Declaration) (ts : List DataType) →
      named (λ d. d.name) x (variables here.node) ≡ o →
      (named (λ d. d.name) x (variables here.node) ≡ None →
      IsOf Int (or_fault (name_value P here x))) →
      (not (among x (variable_names here.node)) || is_clock k (declared_clock here.node x)) ≡ true →
      singly (either_or (option_map (variable_type P here) o)
      (constant_type (name_value P here x))) ≡ Some ts →
      AllSorted S (emit_name Y P here k s x o).state.equations →
      TermFits s (emit_name Y P here k s x o) k ts
  name_fits k s x None ts is w c e h =
      constant_fits k s (or_fault (name_value P here x)) int ts
      (named_gives (flat k) (name_value P here x) (w is))
      (constant (name_value P here x) ts e).all h
  name_fits k s x (Some d) ts is w c e h =
      let a = alone (variable_type P here d) ts e in
      let own = subst (λ o. IfSome o (IsVariableOn S Y P here)) is
      (found_in (IsVariableOn S Y P here) (λ d. bytes_eq d.name x) (variables here.node)
      variables_on) in
      let name = found_name x (variables here.node) d is in
      let clock : k ≡ declared_clock here.node x =
      clock_same k (declared_clock here.node x)
      (implied (among x (variable_names here.node)) _ c (found_among (variables here.node) x d is))
      in
      let same : declared_clock here.node d.name ≡ k =
      ap (declared_clock here.node) name ∙ sym clock in
      one_type
      (record {
        grown = not_grown S h;
        found = subst₂ (λ l b. AreOn S l b (Y.places here.path d.name)) (ap flat same)
            (sym (variable_kind P here d a.data_type a.is)) own.elements;
      }) a.all

  -- ## Results that are picked, joined and given by calls

  joins_fit :
      (s t : State) (qs : List FlatEquation) (is : List ℕ) (k : Clock) (ts : List DataType) →
      Grown S s t → AllFit S qs →
      ((t : DataType) → ts ≡ t ∷ [] → AreOn S (flat k) t.kind is) →
      TermFits s (joins t qs is) k ts
  unfolding joins
  joins_fit s t qs is k ts g new found = record {
    grown = record {
      before = g.before;
      equations = g.equations;
      copies = λ f. Every-append (IsFit S) t.copies qs (g.copies f) new;
    };
    found = found;
  }

  each_alike :
      (k : Clock) (c : Kind) (ts : List DataType) (iss : List (List ℕ)) → AllOf c ts →
      AllOn S Y P here k ts iss → Every (AreOn S (flat k) c) iss
  each_alike k c [] [] a g = tt
  each_alike k c (t ∷ ts) (is ∷ iss) a g = (rw (← a.0) g.0, each_alike k c ts iss a.1 g.1)
  each_alike k c _ _ a g = absurd g

  joined_on :
      (k : Clock) (c : Kind) (ts : List DataType) (iss : List (List ℕ)) → AllOf c ts →
      AllOn S Y P here k ts iss → AreOn S (flat k) c (joined iss)
  joined_on k c ts iss a g = Every-joined (IsOn S (flat k) c) iss (each_alike k c ts iss a g)

  no_arguments : (ks : List Clock) (ts : List DataType) → AreArguments S Y P here ks ts []
  no_arguments [] ts = tt
  no_arguments (k ∷ ks) [] = tt
  no_arguments (k ∷ ks) (t ∷ ts) = tt

  -- an iterated symbol over operands of its type
  symbol_fits :
      (k : Clock) (op : BinaryOperator) (u : DataType) →
      binary_kind op u.kind u.kind ≡ Some u.kind → (n : ℕ) (it : ArrayIterator)
      (args ts : List DataType) (s : State) (r : EmittedAll) →
      iterator_types it n (u ∷ (u ∷ [])) (u ∷ []) args ≡ Some ts →
      AllSorted S (emit_symbol (flat k) op r.state it r.found).state.equations →
      (AllSorted S r.state.equations → AllFitOn s r k args) →
      TermFits s (emit_symbol (flat k) op r.state it r.found) k ts
  symbol_fits k op u takes n it args ts s r e h part =
      let g = part (symbol_step (Earlier S) (earlier S) (flat k) op r.state it r.found h) in
      let f = symbol_fit S (flat k) u.kind op takes r.state it r.found
      (each_alike k u.kind args r.found (arguments_alike it args e) g.found) h in
      record {
        grown = then_grown S g.grown f.grown;
        found = λ t one.
            subst (λ b. AreOn S (flat k) b (emit_symbol (flat k) op r.state it r.found).found)
            (result_kind it args t (e ∙ ap Some one)) f.found;
      }
    where
      arguments_alike :
          (it : ArrayIterator) (args : List DataType) →
          iterator_types it n (u ∷ (u ∷ [])) (u ∷ []) args ≡ Some ts → AllOf u.kind args
      arguments_alike Map args e =
          let wanted = bound (all_some (map (array_of n) (u ∷ (u ∷ [])))) _ ts e in
          let b = bound (where_true (are_types wanted.value args) (u ∷ [])) _ ts wanted.gives in
          arrays_alike n u.kind (u ∷ (u ∷ [])) wanted.value args (refl, (refl, tt)) wanted.is
          (truly (are_types wanted.value args) (u ∷ []) b.value b.is).holds
      arguments_alike Red [] e = cc
      arguments_alike Red (i ∷ args) e =
          let wanted = bound (all_some (map (array_of n) (u ∷ []))) _ ts e in
          let both = is_type u i && are_types wanted.value args in
          let t = truly (is_type u u && both) (u ∷ []) ts wanted.gives in
          let inner = and_second (is_type u u) both t.holds in (
            sym (type_kind u i (and_first (is_type u i) (are_types wanted.value args) inner)),
            arrays_alike n u.kind (u ∷ []) wanted.value args (refl, tt) wanted.is
                (and_second (is_type u i) (are_types wanted.value args) inner),
          )
      arguments_alike Fill args e = cc

      result_kind :
          (it : ArrayIterator) (args : List DataType) (t : DataType) →
          iterator_types it n (u ∷ (u ∷ [])) (u ∷ []) args ≡ Some (t ∷ []) → u.kind ≡ t.kind
      result_kind Map args t e =
          let wanted = bound (all_some (map (array_of n) (u ∷ (u ∷ [])))) _ (t ∷ []) e in
          let b = bound (where_true (are_types wanted.value args) (u ∷ [])) _ (t ∷ [])
          wanted.gives in
          let gives = subst (λ us. all_some (map (array_of n) us) ≡ Some (t ∷ []))
          (sym (truly (are_types wanted.value args) (u ∷ []) b.value b.is).same) b.gives in
          let first = each (array_of n u) [] (t ∷ []) gives in
          array_kind n u first.first first.is
          ∙ ap (λ (v : DataType). v.kind) (sym (heads_same t first.first [] first.rest first.all))
      result_kind Red [] t e = cc
      result_kind Red (i ∷ args) t e =
          let wanted = bound (all_some (map (array_of n) (u ∷ []))) _ (t ∷ []) e in
          let h = truly _ (u ∷ []) (t ∷ []) wanted.gives in
          ap (λ (v : DataType). v.kind) (heads_same u t [] [] h.same)
      result_kind Fill args t e = cc

  -- ## Expressions

  abbrev pub AllSet : List Occurrence → Type 0
  AllSet os = Every (IsSet S Y P here) os

  fore : (os os' : List Occurrence) → AllSet (os ++ os') → AllSet os
  fore os os' w = Every-first (IsSet S Y P here) os os' w

  aft : (os os' : List Occurrence) → AllSet (os ++ os') → AllSet os'
  aft os os' w = Every-second (IsSet S Y P here) os os' w

  -- the occurrences of an expression, by a shorter name
  abbrev parts : Clock → ℕ → Expr → List Occurrence
  parts k n e = occurrences P here.node k n e

  mutual
    unfolding emit

    pub fits_term :
        (k : Clock) (n : ℕ) (s : State) (e : Expr) (ts : List DataType) →
        data_types P here e ≡ Some ts → AllSet (occurrences P here.node k n e) →
        AllSorted S (emit Y P here k n s e).state.equations →
        TermFits s (emit Y P here k n s e) k ts
    fits_term k n s (Literal m) ts e w h =
        constant_fits k s (Integer (pos m)) int ts
        (record { clocks = tt; kinds = w.0.at_it; kind = refl })
        (constant (Some (pos m)) ts e).all h
    fits_term k n s (Truth b) ts e w h =
        constant_fits k s (Boolean b) truth ts (boolean_gives S (flat k) b)
        (sym (same_Some _ _ e)) h
    fits_term k n s (Variable x) ts e w h = name_fits k s x _ ts refl w.0.at_it w.0.clocked e h
    fits_term k n s (Group a) ts e w h = fits_term k n s a ts e w h
    fits_term k n s (Unary op a) ts e w h =
        let i = one (data_types P here a) (unary_type op) ts e in
        one_type (one_fit S (ApplyUnary op)
        (unary_sorted S _ _ _ op (unary_kinds op i.data_type _ i.gives))
        (fit_of refl (fits_term k n s a _ i.is w.1)) h) i.all
    fits_term k n s (Binary op a b) ts e w h =
        let m = n + call_count a in
        let i = two (data_types P here a) (data_types P here b) (binary_type op) ts e in
        one_type
        (two_fit S (ApplyBinary op)
        (binary_sorted S _ _ _ _ op (binary_kinds op i.first i.second _ i.gives))
        (fit_of refl (fits_term k n s a _ i.is_first (fore _ _ w.1)))
        (fit_of refl (fits_term k m _ b _ i.is_second (aft _ _ w.1))) h) i.all
    fits_term k n s (If c a b) ts e w h =
        let na = n + call_count c in let nb = na + call_count a in
        let branches = aft (parts k n c) _ w.1 in
        let t = bound (from_truths (from_one (data_types P here c) Some)) _ ts e in
        let truths = from_true (from_one (data_types P here c) Some) t.value t.is in
        let z = one (data_types P here c) Some truths.data_types truths.is in
        let i = two (data_types P here a) (data_types P here b) common_type ts t.gives in
        let same = common_kinds i.first i.second i.result i.gives in
        one_type (choice_fit S (fit_of refl (fits_term k n s c _ z.is (fore _ _ w.1)))
        (fit_of same.first (fits_term k na _ a _ i.is_first (fore _ _ branches)))
        (fit_of same.second (fits_term k nb _ b _ i.is_second (aft _ _ branches))) h) i.all
    fits_term k n s (Arrow a b) ts e w h =
        let m = n + call_count a in
        let i = two (data_types P here a) (data_types P here b) common_type ts e in
        let same = common_kinds i.first i.second i.result i.gives in
        one_type
        (two_fit S (FirstThen false) (first_then_sorted S _ i.result.kind)
        (fit_of same.first (fits_term k n s a _ i.is_first (fore _ _ w.1)))
        (fit_of same.second (fits_term k m _ b _ i.is_second (aft _ _ w.1))) h) i.all
    fits_term k n s (Fby a b) ts e w h =
        let m = n + call_count a in
        let i = two (data_types P here a) (data_types P here b) common_type ts e in
        let c = i.result.kind in
        let same = common_kinds i.first i.second i.result i.gives in
        one_type
        (two_fit S (FirstThen false) (first_then_sorted S _ c)
        (fit_of same.first (fits_term k n s a _ i.is_first (fore _ _ w.1)))
        (λ g. one_fit S (Previous first_value)
        (previous_sorted S _ (flat k) c first_value (nil_of c))
        (keep_fit S (fit_of same.second (fits_term k m _ b _ i.is_second (aft _ _ w.1)))) g) h)
        i.all
    fits_term k n s (Pre a) ts e w h =
        let i = one (data_types P here a) Some ts e in
        let c = i.result.kind in
        one_type
        (one_fit S (Previous first_value) (previous_sorted S _ (flat k) c first_value (nil_of c))
        (keep_fit S
        (fit_of (ap (λ (t : DataType). t.kind) (same_Some _ _ i.gives))
        (fits_term k n s a _ i.is w.1))) h) i.all
    fits_term k n s (Current a) ts e w h =
        let own = clock_or (clock_of P here.node a) in
        let i = one (data_types P here a) Some ts e in
        let c = i.result.kind in
        one_type
        (one_fit S (Latest first_value) (latest_sorted S _ (flat own) c first_value (nil_of c))
        (keep_fit S
        (fit_of (ap (λ (t : DataType). t.kind) (same_Some _ _ i.gives))
        (fits_term own n s a _ i.is w.1))) h) i.all
    fits_term k n s (When a x sign) ts e w h =
        let own = declared_clock here.node x in
        let t = bound (from_truths (singly (name_data_type P here x))) _ ts e in
        let i = one (data_types P here a) Some ts t.gives in
        let c = i.result.kind in
        let clock : k ≡ On own x sign = clock_same k (On own x sign) w.0.clocked in
        let at_it = w.0.at_it in
        let sampled : flat (On own x sign) ≡ Where (flat own) at_it.0 sign =
        ap (where_signed (flat own) sign) at_it.2 in
        one_type
        (subst (λ l. Fit S s (emit Y P here k n s (When a x sign)) (flat l) c) (sym clock)
        (one_fit S Sample
        (λ x p. subst (λ l. Gives S l c (Sample x)) (sym sampled)
        (record {
          clocks = (at_it.0, sign, ap (λ l. Where l at_it.0 sign) (sym p.0));
          kinds = p.1;
          kind = p.1;
        }))
        (fit_of (ap (λ (t : DataType). t.kind) (same_Some _ _ i.gives))
        (fits_term own n s a _ i.is w.1)) h)) i.all
    fits_term k n s (Replicate a m) ts e w h =
        let c = bound (static_count P here m) _ ts e in
        let i = one (data_types P here a) (array_of c.value) ts c.gives in
        let x = fit_of (array_kind c.value i.data_type i.result i.gives)
        (fits_term k n s a _ i.is w.1) h in
        one_type (record { grown = x.grown; found = Every-copies _ (number P here m) _ x.found })
        i.all
    fits_term k n s (Index a j) ts e w h =
        let c = bound (static_count P here j) _ ts e in
        let i = one (data_types P here a) (index_type c.value) ts c.gives in
        let x = fit_of (index_kind c.value i.data_type i.result i.gives)
        (fits_term k n s a _ i.is w.1) h in
        one_type (record { grown = x.grown; found = Every-take _ _ _ (Every-drop _ _ _ x.found) })
        i.all
    fits_term k n s (Slice a j l) ts e w h =
        let c = bound (static_count P here j) _ ts e in
        let d = bound (static_count P here l) _ ts c.gives in
        let i = one (data_types P here a) (slice_type c.value d.value) ts d.gives in
        let x = fit_of (slice_kind c.value d.value i.data_type i.result i.gives)
        (fits_term k n s a _ i.is w.1) h in
        one_type (record { grown = x.grown; found = Every-take _ _ _ (Every-drop _ _ _ x.found) })
        i.all
    fits_term k n s (Join a b) ts e w h =
        let m = n + call_count a in
        let i = two (data_types P here a) (data_types P here b) join_type ts e in
        let same = join_kinds i.first i.second i.result i.gives in
        let y = fit_of same.second (fits_term k m _ b _ i.is_second (aft _ _ w.1)) h in
        let x = fit_of same.first (fits_term k n s a _ i.is_first (fore _ _ w.1)) y.grown.before in
        one_type
        (record
        { grown = then_grown S x.grown y.grown; found = Every-append _ _ _ x.found y.found }) i.all
    fits_term k n s (Array es) ts e w h =
        let b = bound (all_types P here es) _ ts e in
        let a = alone (list_type b.value) ts b.gives in
        let r = fits_all k n s es b.value b.is w.1 h in
        one_type (record {
          grown = r.grown;
          found = joined_on k a.data_type.kind b.value _ (list_kinds b.value a.data_type a.is)
              r.found;
        }) a.all
    fits_term k n s (AtMostOne es) ts e w h =
        let t = from_true (all_types P here es) ts e in
        let r = fits_all k n s es t.data_types t.is w.1
        (at_most_one_step (Earlier S) (earlier S) (flat k) _ _ h) in
        one_type
        (then_fit S r.grown
        (at_most_one_fit S (flat k) _ _
        (joined_on k Truth_kind t.data_types _
        (kinds_alike truth t.data_types Truth_kind t.truths refl) r.found) h)) t.all
    fits_term k n s (Nor es) ts e w h =
        let t = from_true (all_types P here es) ts e in
        let r = fits_all k n s es t.data_types t.is w.1
        (nor_step (Earlier S) (earlier S) (flat k) _ _ h) in
        one_type
        (then_fit S r.grown
        (nor_fit S (flat k) _ _
        (joined_on k Truth_kind t.data_types _
        (kinds_alike truth t.data_types Truth_kind t.truths refl) r.found) h)) t.all
    fits_term k n s (Call f statics es) ts e w h =
        let o = bound (operator_types P here (Node_named f statics)) _ ts e in
        let a = bound (all_types P here es) _ ts o.gives in
        let t = truly (are_types o.value.0 a.value) o.value.1 ts a.gives in
        let at_it = w.0.at_it in
        let ks = call_clocks k (node_named P f) es in
        let r = emit_each Y P here ks (n + 1) s es in
        let g = fits_each ks (n + 1) s es a.value a.is w.1
        (subst (AllSorted S) (joins_equations r.state _ _) h) in
        joins_fit s r.state _ _ k ts g.grown
        (call_fit S Y P here f statics o.value n o.is k es a.value r.found t.holds at_it.0 at_it.1
        (λ callee is. subst (λ o. AreArguments S Y P here (call_clocks k o es) a.value r.found) is
        g.found))
        (λ u one. call_found S Y P here f statics o.value n o.is k es u (t.same ∙ one) at_it.0
        at_it.1)
    fits_term k n s (Iterate it (Node_named f statics) m es) ts e w h =
        let c = bound (static_count P here m) _ ts e in
        let o = bound (operator_types P here (Node_named f statics)) _ ts c.gives in
        let a = bound (all_types P here es) _ ts o.gives in
        let at_it = w.0.at_it in
        let r = emit_all Y P here k (n + 1) s es in
        let g = fits_all k (n + 1) s es a.value a.is w.1
        (subst (AllSorted S) (joins_equations r.state _ _) h) in
        joins_fit s r.state _ _ k ts g.grown
        (iterator_fit S Y P here f statics o.value n o.is k (number P here m) at_it.1 it c.value
        a.value ts r.found a.gives g.found)
        (λ u one. iterator_found S Y P here f statics o.value n o.is k (number P here m) at_it.1 it
        c.value a.value ts u a.gives one at_it.0)
    fits_term k n s (Iterate it (Symbol op) m es) ts e w h =
        let c = bound (static_count P here m) _ ts e in
        let o = bound (operator_types P here (Symbol op)) _ ts c.gives in
        let a = bound (all_types P here es) _ ts o.gives in
        let y = symbolic op o.value o.is in
        symbol_fits k op y.data_type (symbol_kind op o.value y w.0.at_it) c.value it a.value ts s _
        (ap (λ (t : List DataType × List DataType). iterator_types it c.value t.0 t.1 a.value)
        (sym y.are) ∙ a.gives) h
        (λ g. fits_all k n s es a.value a.is w.1 g)

    -- expressions on one clock
    pub fits_all :
        (k : Clock) (n : ℕ) (s : State) (es : Exprs) (ts : List DataType) →
        all_types P here es ≡ Some ts → AllSet (occurrences_in P here.node k n es) →
        AllSorted S (emit_all Y P here k n s es).state.equations →
        AllFitOn s (emit_all Y P here k n s es) k ts
    fits_all k n s Nil ts e w h = record {
      grown = not_grown S h;
      found = subst (λ us. AllOn S Y P here k us []) (same_Some _ _ e) tt;
    }
    fits_all k n s (Cons e es) ts is w h =
        let i = first_of_all P here e es ts is in
        let r = fits_all k (n + call_count e) _ es i.rest i.others (aft _ _ w) h in
        let x = fits_term k n s e (i.first ∷ []) i.is (fore _ _ w) r.grown.before in
        record {
          grown = then_grown S x.grown r.grown;
          found = subst (λ us. AllOn S Y P here k us (emit_all Y P here k n s (Cons e es)).found)
              (sym i.all) (x.found i.first refl, r.found);
        }

    -- expressions each on a clock of its own
    pub fits_each :
        (ks : List Clock) (n : ℕ) (s : State) (es : Exprs) (ts : List DataType) →
        all_types P here es ≡ Some ts → AllSet (occurrences_each P here.node ks n es) →
        AllSorted S (emit_each Y P here ks n s es).state.equations →
        EachFits s (emit_each Y P here ks n s es) ks ts
    fits_each ks n s Nil ts e w h = record { grown = not_grown S h; found = no_arguments ks ts }
    fits_each [] n s (Cons e es) ts is w h = record { grown = not_grown S h; found = tt }
    fits_each (k ∷ ks) n s (Cons e es) ts is w h =
        let i = first_of_all P here e es ts is in
        let r = fits_each ks (n + call_count e) _ es i.rest i.others (aft _ _ w) h in
        let x = fits_term k n s e (i.first ∷ []) i.is (fore _ _ w) r.grown.before in
        record {
          grown = then_grown S x.grown r.grown;
          found = subst
              (λ us. AreArguments S Y P here (k ∷ ks) us
              (emit_each Y P here (k ∷ ks) n s (Cons e es)).found) (sym i.all)
              (x.found i.first refl, r.found);
        }
