-- The copies of the left variables of an equation fit.
use Rattle.lb_expand.proofs.Words
use Words.{Array, ArrayIterator, Arrow, AtMostOne, Binary, Bool, Call, Child, Current, DataType}
use Words.{Declaration, Every, Expr, Fby, Fill, Group, If, IfSome, Index, Instance, Iterate, Join}
use Words.{Layout, List, Literal, Map, Name, Node, Node_named, Nor, Pre, Program, Red, Replicate}
use Words.{Slice, Some, State, Static, Symbol, Target, Truth, Unary, Variable, When, [], all_some}
use Words.{all_types, and_first, and_second, ap, append-nil, are_on_results, are_types, arith}
use Words.{array_of, binary_type, bytes_eq, clock_same, common_type, copied, data_types}
use Words.{declared_clock, either_or, element_count, emit, false, flat_clock, flat_map, found_name}
use Words.{from_one, from_truths, gathered, heads_same, index_type, int, is_clock, is_site, is_type}
use Words.{iterated, iterator_types, join_type, joined, left_clocks, length, length-map, list_all}
use Words.{list_type, listed, map, name_data_type, named, node_named, number, occurrences}
use Words.{operator_types, outputs_of, pos, range_with_len, refl, same_Some, singly, slice_type}
use Words.{static_count, subst, sym, tails_same, targets, true, truly, truth, type_of_name}
use Words.{unary_type, ungrouped, variable_type, variables, where_true, width, zip, ℕ, ◌*◌, ◌++◌}
use Words.{◌+◌, ◌-◌, ◌<◌, ◌∙◌, ◌∷◌, ◌≡◌}
use Rattle.{lb_check.specs.Clocks.Clock, lb_expand.proofs.fits.FitCalls.{as_clock, as_kind}}
use Rattle.lb_expand.proofs.fits.FitCalls.{copied_fit, iterator_found, output_on, outputs_at}
use Rattle.lb_expand.proofs.fits.{FitCalls.outputs_in, FitTerms.TermFits, FitWords.AllFit}
use Rattle.lb_expand.proofs.fits.FitWords.{AreCallLeftsOn, AreLeftsOn, AreOn, AreVariablesOn}
use Rattle.lb_expand.proofs.fits.FitWords.{IsCalleeOn, IsFit, IsIteratorOn, IsSet, IsVariableOn}
use Rattle.lb_expand.proofs.fits.{FitWords.Sorts, KindFacts.{array_kind, type_kind, variable_kind}}
use Rattle.lb_expand.proofs.{numbering.ReceivedInputs.copied_append, reads.LinkSymbols.joins_found}
use Rattle.lb_expand.proofs.widths.TypeFacts.{Each, Filled, alone, array_count, bound, constant}
use Rattle.lb_expand.proofs.widths.TypeFacts.{each, fill_of, found_in, from_true, length-range, one}
use Rattle.lb_expand.proofs.widths.TypeFacts.{red_of, same_count, symbolic, two, types_first}
use Rattle.lb_expand.proofs.widths.{TypeFacts.{types_left, types_missing, width_of}, Widths.called}
use Rattle.{lb_expand.proofs.widths.Widths.placed, lb_flat.proofs.lists.Lists.Every-append}
use Rattle.lb_flat.proofs.lists.Lists.{Every-map}

-- The left variables of an equation are copies that fit, also where its right side is a call or an
-- iterated node with several results.

pub no_site : false ≡ true → ⊥
no_site e = cc

is_a_site : true ≡ false → ⊥
is_a_site e = cc

-- ## Expressions that are no calls have one result

abbrev pub IsOneOf : List DataType → Type 0
IsOneOf ts = (t : DataType) × (ts ≡ t ∷ [])

-- an iterated symbol has one result
symbol_one :
    (n : ℕ) (it : ArrayIterator) (u : DataType) (ins args ts : List DataType) →
    iterator_types it n ins (u ∷ []) args ≡ Some ts → IsOneOf ts
symbol_one n Map u ins args ts e =
    let wanted = bound (all_some (map (array_of n) ins)) _ ts e in
    let b = bound (where_true (are_types wanted.value args) (u ∷ [])) _ ts wanted.gives in
    let h = truly (are_types wanted.value args) (u ∷ []) b.value b.is in
    let gives = subst (λ us. all_some (map (array_of n) us) ≡ Some ts) (sym h.same) b.gives in
    let first = each (array_of n u) [] ts gives in
    let none : [] ≡ first.rest = same_Some _ _ first.others in
    (first.first, first.all ∙ ap (λ us. first.first ∷ us) (sym none))
symbol_one n Red u (a ∷ ins) (i ∷ args) ts e =
    let h = truly _ (u ∷ []) ts (bound (all_some (map (array_of n) ins)) _ ts e).gives in
    (u, sym h.same)
symbol_one n Red u _ _ ts e = cc
symbol_one n Fill u [] args ts e = cc
symbol_one n Fill u (a ∷ []) args ts e = cc
symbol_one n Fill u (a ∷ (b ∷ ins)) args ts e = cc

module _ (P : Program) (here : Instance) where
  pub one_result :
      (e : Expr) (ts : List DataType) → is_site (ungrouped e) ≡ false →
      data_types P here e ≡ Some ts → IsOneOf ts
  one_result (Literal m) ts s e = (int, (constant (Some (pos m)) ts e).all)
  one_result (Truth b) ts s e = (truth, sym (same_Some _ _ e))
  one_result (Variable x) ts s e =
      let a = alone (name_data_type P here x) ts e in (a.data_type, a.all)
  one_result (Group a) ts s e = one_result a ts s e
  one_result (Unary op a) ts s e =
      let i = one (data_types P here a) (unary_type op) ts e in (i.result, i.all)
  one_result (Binary op a b) ts s e =
      let i = two (data_types P here a) (data_types P here b) (binary_type op) ts e in
      (i.result, i.all)
  one_result (If c a b) ts s e =
      let t = bound (from_truths (from_one (data_types P here c) Some)) _ ts e in
      let i = two (data_types P here a) (data_types P here b) common_type ts t.gives in
      (i.result, i.all)
  one_result (Arrow a b) ts s e =
      let i = two (data_types P here a) (data_types P here b) common_type ts e in
      (i.result, i.all)
  one_result (Fby a b) ts s e =
      let i = two (data_types P here a) (data_types P here b) common_type ts e in
      (i.result, i.all)
  one_result (Pre a) ts s e = let i = one (data_types P here a) Some ts e in (i.result, i.all)
  one_result (Current a) ts s e = let i = one (data_types P here a) Some ts e in (i.result, i.all)
  one_result (When a x sign) ts s e =
      let t = bound (from_truths (singly (name_data_type P here x))) _ ts e in
      let i = one (data_types P here a) Some ts t.gives in (i.result, i.all)
  one_result (Replicate a m) ts s e =
      let c = bound (static_count P here m) _ ts e in
      let i = one (data_types P here a) (array_of c.value) ts c.gives in (i.result, i.all)
  one_result (Index a j) ts s e =
      let c = bound (static_count P here j) _ ts e in
      let i = one (data_types P here a) (index_type c.value) ts c.gives in (i.result, i.all)
  one_result (Slice a j l) ts s e =
      let c = bound (static_count P here j) _ ts e in
      let d = bound (static_count P here l) _ ts c.gives in
      let i = one (data_types P here a) (slice_type c.value d.value) ts d.gives in
      (i.result, i.all)
  one_result (Join a b) ts s e =
      let i = two (data_types P here a) (data_types P here b) join_type ts e in (i.result, i.all)
  one_result (Array es) ts s e =
      let b = bound (all_types P here es) _ ts e in
      let a = alone (list_type b.value) ts b.gives in (a.data_type, a.all)
  one_result (AtMostOne es) ts s e = (truth, (from_true (all_types P here es) ts e).all)
  one_result (Nor es) ts s e = let t = from_true (all_types P here es) ts e in (truth, t.all)
  one_result (Call f statics es) ts s e = absurd (is_a_site s)
  one_result (Iterate it (Node_named f statics) m es) ts s e = absurd (is_a_site s)
  one_result (Iterate it (Symbol op) m es) ts s e =
      let c = bound (static_count P here m) _ ts e in
      let o = bound (operator_types P here (Symbol op)) _ ts c.gives in
      let a = bound (all_types P here es) _ ts o.gives in
      let y = symbolic op o.value o.is in
      let outs = ap (λ (t : List DataType × List DataType). t.1) y.are in
      symbol_one c.value it y.data_type o.value.0 a.value ts
      (ap (λ us. iterator_types it c.value o.value.0 us a.value) (sym outs) ∙ a.gives)

-- ## Lists of pieces

pub joined_pieces :
    {A B : Type 0} (f : B → List A) (bs : List B) → flat_map f bs ≡ joined (map f bs)
joined_pieces f [] = refl
joined_pieces f (b ∷ bs) = ap (λ xs. f b ++ xs) (joined_pieces f bs)

-- the static count `n` of an iterator is the number of its instances
number_is :
    (P : Program) (here : Instance) (m : Static) (n : ℕ) → static_count P here m ≡ Some n →
    number P here m ≡ n
number_is P here m n e = ap (λ o. either_or o 0) e

-- each left variable is on the clock of the right side
lefts_on :
    (here : Node) (k : Clock) (xs : List Name) →
    list_all (is_clock k) (left_clocks here xs) ≡ true →
    Every (λ x. k ≡ declared_clock here x) xs
lefts_on here k [] e = tt
lefts_on here k (x ∷ xs) e = (
  clock_same k (declared_clock here x)
      (and_first (is_clock k (declared_clock here x))
      (list_all (is_clock k) (left_clocks here xs)) e),
  lefts_on here k xs
      (and_second (is_clock k (declared_clock here x))
      (list_all (is_clock k) (left_clocks here xs)) e),
)

no_call_on :
    (P : Program) (here : Node) (k : Clock) (xs : List Name) (e : Expr) → is_site e ≡ false →
    are_on_results P here k xs e ≡ true → list_all (is_clock k) (left_clocks here xs) ≡ true
no_call_on P here k xs (Call f statics es) s h = absurd (is_a_site s)
no_call_on P here k xs e s h = h

module _ (S : Sorts) (Y : Layout) (P : Program) (here : Instance)
    (variables_on : AreVariablesOn S Y P here) where
  abbrev pub left_targets : List Name → List Target
  left_targets lefts = flat_map (targets Y here.node here.path) lefts

  -- ## Left variables

  -- a left variable of a type
  record IsLeft (x : Name) (t : DataType) : Type 0 where
    wide : length (Y.places here.path x) ≡ element_count t
    elements :
        AreOn S (flat_clock Y here.path (declared_clock here.node x)) t.kind
        (Y.places here.path x)

  left : (x : Name) (t : DataType) → type_of_name P here x ≡ Some t → IsLeft x t
  left x t e =
      let b = bound (named (λ d. d.name) x (variables here.node)) _ t e in
      let name = found_name x (variables here.node) b.value b.is in
      let own = subst (λ o. IfSome o (IsVariableOn S Y P here)) b.is
      (found_in (IsVariableOn S Y P here) (λ d. bytes_eq d.name x) (variables here.node)
      variables_on) in
      record {
        wide = ap (λ y. length (Y.places here.path y)) (sym name) ∙ own.wide
            ∙ width_of P here b.value t b.gives;
        elements =
            subst (λ y. AreOn S (flat_clock Y here.path (declared_clock here.node y)) t.kind
            (Y.places here.path y)) name
            (as_kind S Y P _ b.value.kind t.kind _ (sym (variable_kind P here b.value t b.gives))
            own.elements);
      }

  -- results of types for left variables, each on the clock of its variable
  abbrev pub AreResults : List Name → List DataType → List (List ℕ) → Type 0
  AreResults [] [] [] = Unit {0}
  AreResults (x ∷ xs) (t ∷ ts) (is ∷ iss) =
      (length is ≡ element_count t)
      × AreOn S (flat_clock Y here.path (declared_clock here.node x)) t.kind is
      × AreResults xs ts iss
  AreResults _ _ _ = ⊥

  -- left variables that have the types of results are copies of them
  pub results_fit :
      (lefts : List Name) (us ts : List DataType) (iss : List (List ℕ)) →
      all_some (map (type_of_name P here) lefts) ≡ Some us → are_types ts us ≡ true →
      AreResults lefts ts iss → AllFit S (copied (left_targets lefts) (joined iss))
  results_fit [] us ts iss e same r = tt
  results_fit (x ∷ xs) us [] iss e same r = absurd r
  results_fit (x ∷ xs) us (t ∷ ts) [] e same r = absurd r
  results_fit (x ∷ xs) us (t ∷ ts) (is ∷ iss) e same r =
      let h = each (type_of_name P here x) (map (type_of_name P here) xs) us e in
      let fit = types_first refl h.all same in
      let own = left x h.first h.is in
      let k = flat_clock Y here.path (declared_clock here.node x) in
      let ps = targets Y here.node here.path x in
      let long : length ps ≡ length is =
      length-map (Y.places here.path x) (λ i. record { place = i; clock = k }) ∙ own.wide
      ∙ sym (same_count t h.first fit.0) ∙ sym r.0 in
      subst (AllFit S) (sym (copied_append ps (left_targets xs) is (joined iss) long))
      (Every-append (IsFit S) (copied ps is) (copied (left_targets xs) (joined iss))
      (copied_fit S Y P k t.kind (Y.places here.path x) is
      (as_kind S Y P k h.first.kind t.kind _ (sym (type_kind t h.first fit.0)) own.elements) r.1)
      (results_fit xs h.rest ts iss h.others fit.1 r.2))

  -- one left variable and its one result, which may be of any width
  pub result_fit :
      (lefts : List Name) (us : List DataType) (t : DataType) (k : Clock) (is : List ℕ) →
      all_some (map (type_of_name P here) lefts) ≡ Some us → are_types (t ∷ []) us ≡ true →
      Every (λ x. k ≡ declared_clock here.node x) lefts →
      AreOn S (flat_clock Y here.path k) t.kind is → AllFit S (copied (left_targets lefts) is)
  result_fit [] us t k is e same c r = tt
  result_fit (x ∷ []) us t k is e same c r =
      let h = each (type_of_name P here x) [] us e in
      let fit = types_first {us = []} refl h.all same in
      subst (λ ts. AllFit S (copied ts is)) (sym (append-nil _))
      (copied_fit S Y P (flat_clock Y here.path (declared_clock here.node x)) t.kind
      (Y.places here.path x) is
      (as_kind S Y P _ h.first.kind t.kind _ (sym (type_kind t h.first fit.0))
      (left x h.first h.is).elements)
      (subst (λ l. AreOn S (flat_clock Y here.path l) t.kind is) c.0 r))
  result_fit (x ∷ (y ∷ xs)) us t k is e same c r =
      let o = type_of_name P here y in let os = map (type_of_name P here) xs in
      let h = each (type_of_name P here x) (o ∷ os) us e in
      let fit = types_first {us = []} refl h.all same in
      types_missing refl (each o os h.rest h.others).all fit.1

  -- ## The results of a call

  each_result :
      (c : Instance) (ds : List Declaration) (ts us : List DataType) (lefts : List Name) →
      all_some (map (variable_type P c) ds) ≡ Some ts →
      all_some (map (type_of_name P here) lefts) ≡ Some us → are_types ts us ≡ true →
      Every (IsVariableOn S Y P c) ds →
      Every (λ u.
      flat_clock Y c.path (declared_clock c.node u.0.name)
      ≡ flat_clock Y here.path (declared_clock here.node u.1)) (zip ds lefts) →
      AreResults lefts ts (map (λ d. Y.places c.path d.name) ds)
  each_result c [] ts us [] o e same v k = subst (λ vs. AreResults [] vs []) (same_Some _ _ o) tt
  each_result c [] ts us (x ∷ xs) o e same v k =
      types_missing (sym (same_Some _ _ o))
      (each (type_of_name P here x) (map (type_of_name P here) xs) us e).all same
  each_result c (d ∷ ds) ts us [] o e same v k =
      types_left (each (variable_type P c d) (map (variable_type P c) ds) ts o).all
      (sym (same_Some _ _ e)) same
  each_result c (d ∷ ds) ts us (x ∷ xs) o e same v k =
      let h = each (variable_type P c d) (map (variable_type P c) ds) ts o in
      let g = each (type_of_name P here x) (map (type_of_name P here) xs) us e in
      let fit = types_first h.all g.all same in
      subst (λ vs. AreResults (x ∷ xs) vs (map (λ d. Y.places c.path d.name) (d ∷ ds)))
      (sym h.all) (
        v.0.wide ∙ width_of P c d h.first h.is,
        as_clock S Y P _ _ h.first.kind _ k.0
            (as_kind S Y P _ d.kind h.first.kind _ (sym (variable_kind P c d h.first h.is))
            v.0.elements),
        each_result c ds h.rest g.rest xs h.others g.others fit.1 v.1 k.1,
      )

  module _ (f : Name) (statics : List Static) (types : List DataType × List DataType) (n : ℕ)
      (is_operator : operator_types P here (Node_named f statics) ≡ Some types)
      (lefts : List Name) (us : List DataType)
      (typed : all_some (map (type_of_name P here) lefts) ≡ Some us) where
    pub call_results :
        are_types types.1 us ≡ true → IsCalleeOn S Y P here n f statics 0 →
        ((callee : Node) → node_named P f ≡ Some callee → AreLeftsOn S Y P here n lefts callee) →
        AllFit S
        (copied (left_targets lefts)
        (flat_map (λ o. Y.places (Child here.path n 0) o.name) (outputs_of P here f)))
    call_results same w clocks =
        let c = called P here f statics types is_operator in
        let p = placed P here f statics c.callee c.is in
        let at : Instance = record c.callee { path = Child here.path n 0 } in
        let node = c.callee.node in
        let places : Declaration → List ℕ = λ d. Y.places (Child here.path n 0) d.name in
        subst (λ o. AllFit S (copied (left_targets lefts)
        (flat_map places (listed (λ (e : Node). e.outputs) o)))) (sym p.node)
        (subst (λ is. AllFit S (copied (left_targets lefts) is))
        (sym (joined_pieces places node.outputs))
        (results_fit lefts us types.1 (map places node.outputs) typed same
        (each_result at node.outputs types.1 us lefts c.outputs typed same
        (outputs_in S Y P here f statics types n is_operator at (w at (p.at n 0)))
        (clocks node p.node))))

    -- ## The results of an iterator

    pub each_array :
        (c : Instance) (k : Clock) (m : ℕ) (g : Declaration → List ℕ) (ds : List Declaration)
        (outs ts us : List DataType) (lefts : List Name) →
        all_some (map (variable_type P c) ds) ≡ Some outs →
        all_some (map (array_of m) outs) ≡ Some ts →
        all_some (map (type_of_name P here) lefts) ≡ Some us → are_types ts us ≡ true →
        Every (λ d.
        (length (g d) ≡ m * width P c d) × AreOn S (flat_clock Y here.path k) d.kind (g d)) ds →
        Every (λ x. k ≡ declared_clock here.node x) lefts → AreResults lefts ts (map g ds)
    each_array c k m g [] outs ts us [] o a e same v w =
        let none = subst (λ vs. all_some (map (array_of m) vs) ≡ Some ts) (sym (same_Some _ _ o)) a
        in
        subst (λ vs. AreResults [] vs []) (same_Some _ _ none) tt
    each_array c k m g [] outs ts us (x ∷ xs) o a e same v w =
        let none = subst (λ vs. all_some (map (array_of m) vs) ≡ Some ts) (sym (same_Some _ _ o)) a
        in
        types_missing (sym (same_Some _ _ none))
        (each (type_of_name P here x) (map (type_of_name P here) xs) us e).all same
    each_array c k m g (d ∷ ds) outs ts us [] o a e same v w =
        let h = each (variable_type P c d) (map (variable_type P c) ds) outs o in
        let arrays = subst (λ vs. all_some (map (array_of m) vs) ≡ Some ts) h.all a in
        types_left (each (array_of m h.first) (map (array_of m) h.rest) ts arrays).all
        (sym (same_Some _ _ e)) same
    each_array c k m g (d ∷ ds) outs ts us (x ∷ xs) o a e same v w =
        let h = each (variable_type P c d) (map (variable_type P c) ds) outs o in
        let b = each (array_of m h.first) (map (array_of m) h.rest) ts
        (subst (λ vs. all_some (map (array_of m) vs) ≡ Some ts) h.all a) in
        let l = each (type_of_name P here x) (map (type_of_name P here) xs) us e in
        let fit = types_first b.all l.all same in
        let kind = sym (variable_kind P c d h.first h.is) ∙ array_kind m h.first b.first b.is in
        subst (λ vs. AreResults (x ∷ xs) vs (map g (d ∷ ds))) (sym b.all) (
          v.0.0 ∙ ap (λ q. m * q) (width_of P c d h.first h.is)
              ∙ sym (array_count m h.first b.first b.is),
          as_clock S Y P _ _ b.first.kind _ (ap (flat_clock Y here.path) w.0)
              (as_kind S Y P _ d.kind b.first.kind _ kind v.0.1),
          each_array c k m g ds h.rest b.rest l.rest xs h.others b.others l.others fit.1 v.1 w.1,
        )

    module _ (k : Clock) (m : ℕ) (positive : 0 < m)
        (w : (i : ℕ) → i < m → IsCalleeOn S Y P here n f statics i
        × ((callee : Node) → node_named P f ≡ Some callee → IsIteratorOn S Y P here k n i callee))
      where
        abbrev outputs : ℕ → Name → List ℕ
        outputs i x = Y.places (Child here.path n i) x

        abbrev pub by_instance : Declaration → List ℕ
        by_instance d = flat_map (λ i. outputs i d.name) (range_with_len 0 m)

        -- the instance whose types were taken, which stands at no index of its own
        abbrev pub the_callee : Instance
        the_callee = (called P here f statics types is_operator).callee

        pub wide_at :
            (i : ℕ) → i < m →
            Every (λ d. length (outputs i d.name) ≡ width P the_callee d) the_callee.node.outputs
        wide_at i lt =
            let c = called P here f statics types is_operator in
            let p = placed P here f statics c.callee c.is in
            let at : Instance = record c.callee { path = Child here.path n i } in
            Every-map (IsVariableOn S Y P at) _ (λ d v. v.wide) c.callee.node.outputs
            (outputs_in S Y P here f statics types n is_operator at ((w i lt).0 at (p.at n i)))

        pub on_at :
            (i : ℕ) → i < m →
            Every (λ d. AreOn S (flat_clock Y here.path k) d.kind (outputs i d.name))
            the_callee.node.outputs
        on_at i lt =
            let c = called P here f statics types is_operator in
            let p = placed P here f statics c.callee c.is in
            outputs_at S Y P here f statics types n is_operator k m w c.callee p.node i lt

        pub pieces :
            (ds : List Declaration) →
            ((i : ℕ) → i < m →
            Every (λ d. length (outputs i d.name) ≡ width P the_callee d) ds) →
            ((i : ℕ) → i < m →
            Every (λ d. AreOn S (flat_clock Y here.path k) d.kind (outputs i d.name)) ds) →
            Every (λ d.
            (length (by_instance d) ≡ m * width P the_callee d)
            × AreOn S (flat_clock Y here.path k) d.kind (by_instance d)) ds
        pieces [] h g = tt
        pieces (d ∷ ds) h g = (
          (
            length-range (λ i. outputs i d.name) (width P the_callee d) 0 m (λ i lt.
                let at : 0 + i ≡ i = omega arith in
                ap (λ j. length (outputs j d.name)) at ∙ (h i lt).0),
            output_on S Y P here f statics types n is_operator k m w d (λ i lt. (g i lt).0),
          ),
          pieces ds (λ i lt. (h i lt).1) (λ i lt. (g i lt).1),
        )

        -- the results of `map`
        pub map_results :
            (ds : List Declaration) (outs ts : List DataType) →
            all_some (map (variable_type P the_callee) ds) ≡ Some outs →
            all_some (map (array_of m) outs) ≡ Some ts → are_types ts us ≡ true →
            ((i : ℕ) → i < m →
            Every (λ d. length (outputs i d.name) ≡ width P the_callee d) ds) →
            ((i : ℕ) → i < m →
            Every (λ d. AreOn S (flat_clock Y here.path k) d.kind (outputs i d.name)) ds) →
            Every (λ x. k ≡ declared_clock here.node x) lefts →
            AllFit S (copied (left_targets lefts) (gathered outputs m ds))
        map_results ds outs ts o a same h g on =
            subst (λ is. AllFit S (copied (left_targets lefts) is))
            (sym (joined_pieces by_instance ds))
            (results_fit lefts us ts (map by_instance ds) typed same
            (each_array the_callee k m by_instance ds outs ts us lefts o a typed same
            (pieces ds h g) on))

        -- the results of `fill`
        fill_results :
            (ds : List Declaration) (outs ts : List DataType) → Filled m outs ts →
            all_some (map (variable_type P the_callee) ds) ≡ Some outs → are_types ts us ≡ true →
            ((i : ℕ) → i < m → Every (λ d. length (outputs i d.name) ≡ width P the_callee d) ds) →
            ((i : ℕ) → i < m →
            Every (λ d. AreOn S (flat_clock Y here.path k) d.kind (outputs i d.name)) ds) →
            Every (λ x. k ≡ declared_clock here.node x) lefts →
            AllFit S
            (copied (left_targets lefts) (iterated outputs m Fill ds))
        fill_results [] outs ts z o same h g on =
            let none : [] ≡ z.out ∷ z.others = same_Some _ _ o ∙ z.outs_is in
            absurd cc
        fill_results (d ∷ ds) outs ts z o same h g on = by lefts us typed on all
          where
            last : ℕ
            last = m - 1

            le : last < m
            le = omega (arith, positive)

            first : Each (variable_type P the_callee d) (map (variable_type P the_callee) ds)
                (z.out ∷ z.others)
            first = each (variable_type P the_callee d) (map (variable_type P the_callee) ds)
                (z.out ∷ z.others)
                (o ∙ ap Some z.outs_is)

            out_is : z.out ≡ first.first
            out_is = heads_same _ _ _ _ first.all

            all : are_types (z.out ∷ z.arrays) us ≡ true
            all = subst (λ vs. are_types vs us ≡ true) z.ts_is same

            by :
                (xs : List Name) (ls : List DataType) →
                all_some (map (type_of_name P here) xs) ≡ Some ls →
                Every (λ x. k ≡ declared_clock here.node x) xs →
                are_types (z.out ∷ z.arrays) ls ≡ true →
                AllFit S
                (copied (left_targets xs) (iterated outputs m Fill (d ∷ ds)))
            by [] ls e on same = tt
            by (x ∷ xs) ls e on same =
                let b = each (type_of_name P here x) (map (type_of_name P here) xs) ls e in
                let both = subst (λ vs. are_types (z.out ∷ z.arrays) vs ≡ true) b.all same in
                let kind = sym (variable_kind P the_callee d first.first first.is)
                ∙ ap (λ (t : DataType). t.kind) (sym out_is) in
                subst (λ is. AllFit S (copied (left_targets (x ∷ xs))
                (outputs last d.name ++ is))) (sym (joined_pieces by_instance ds))
                (results_fit (x ∷ xs) ls (z.out ∷ z.arrays)
                (outputs last d.name ∷ map by_instance ds) e same (
                  (h last le).0 ∙ width_of P the_callee d first.first first.is
                      ∙ ap element_count (sym out_is),
                  as_clock S Y P _ _ z.out.kind _ (ap (flat_clock Y here.path) on.0)
                      (as_kind S Y P _ d.kind z.out.kind _ kind (g last le).0),
                  each_array the_callee k m by_instance ds z.others z.arrays b.rest xs
                      (first.others ∙ ap Some (sym (tails_same _ _ _ _ first.all))) z.gives b.others
                      (and_second (is_type z.out b.first) (are_types z.arrays b.rest) both)
                      (pieces ds (λ i lt. (h i lt).1) (λ i lt. (g i lt).1)) on.1,
                ))

        -- the left variables of an iterated node
        iterator_results :
            (it : ArrayIterator) (args ts : List DataType) →
            iterator_types it m types.0 types.1 args ≡ Some ts → are_types ts us ≡ true →
            Every (λ x. k ≡ declared_clock here.node x) lefts →
            AllFit S
            (copied (left_targets lefts)
            (iterated outputs m it (outputs_of P here f)))
        iterator_results Red args ts e same on =
            let r = red_of m types.0 types.1 args ts e in
            result_fit lefts us r.out k _ typed
            (subst (λ vs. are_types vs us ≡ true) r.ts_is same) on
            (iterator_found S Y P here f statics types n is_operator k m w Red m args ts r.out e
            r.ts_is positive)
        iterator_results Map args ts e same on =
            let c = called P here f statics types is_operator in
            let named = (placed P here f statics c.callee c.is).node in
            let wanted = bound (all_some (map (array_of m) types.0)) _ ts e in
            let b = bound (where_true (are_types wanted.value args) types.1) _ ts wanted.gives in
            let h = truly (are_types wanted.value args) types.1 b.value b.is in
            subst (λ o. AllFit S (copied (left_targets lefts)
            (iterated outputs m Map (listed (λ (e : Node). e.outputs) o)))) (sym named)
            (map_results c.callee.node.outputs b.value ts (c.outputs ∙ ap Some h.same) b.gives same
            wide_at
            on_at
            on)
        iterator_results Fill args ts e same on =
            let c = called P here f statics types is_operator in
            let named = (placed P here f statics c.callee c.is).node in
            subst
            (λ o. AllFit S
            (copied (left_targets lefts)
            (iterated outputs m Fill (listed (λ (e : Node). e.outputs) o)))) (sym named)
            (fill_results c.callee.node.outputs types.1 ts (fill_of m types.0 types.1 args ts e)
            c.outputs same wide_at on_at on)

  module _ (lefts : List Name) (us : List DataType)
      (typed : all_some (map (type_of_name P here) lefts) ≡ Some us) (k : Clock) (n : ℕ)
      (s : State) where
    -- the results of a call or an iterated node
    site_results :
        (e : Expr) (ts : List DataType) → is_site (ungrouped e) ≡ true →
        data_types P here e ≡ Some ts → are_types ts us ≡ true →
        Every (IsSet S Y P here) (occurrences P here.node k n e) →
        are_on_results P here.node k lefts (ungrouped e) ≡ true →
        AreCallLeftsOn S Y P here n lefts e →
        AllFit S
        (copied (left_targets lefts) (emit Y P here k n s e).found)
    unfolding emit
    site_results (Group a) ts is e same w on calls = site_results a ts is e same w on calls
    site_results (Call f statics es) ts is e same w on calls =
        let o = bound (operator_types P here (Node_named f statics)) _ ts e in
        let a = bound (all_types P here es) _ ts o.gives in
        let t = truly (are_types o.value.0 a.value) o.value.1 ts a.gives in
        subst (λ is. AllFit S (copied (left_targets lefts) is)) (sym (joins_found _ _ _))
        (call_results f statics o.value n o.is lefts us typed
        (subst (λ vs. are_types vs us ≡ true) (sym t.same) same) w.0.at_it.0
        (λ callee named. calls f statics es callee refl named))
    site_results (Iterate it (Node_named f statics) m es) ts is e same w on calls =
        let c = bound (static_count P here m) _ ts e in
        let o = bound (operator_types P here (Node_named f statics)) _ ts c.gives in
        let a = bound (all_types P here es) _ ts o.gives in
        subst (λ is. AllFit S (copied (left_targets lefts) is)) (sym (joins_found _ _ _))
        (iterator_results f statics o.value n o.is lefts us typed k (number P here m) w.0.at_it.0
        w.0.at_it.1 it a.value ts
        (ap (λ count. iterator_types it count o.value.0 o.value.1 a.value)
        (number_is P here m c.value c.is) ∙ a.gives) same (lefts_on here.node k lefts on))
    site_results e ts is h same w on calls = absurd (no_site is)

    -- the copies of an equation, where the equations of its right side fit
    pub equation_fit :
        (e : Expr) (ts : List DataType) → data_types P here e ≡ Some ts →
        are_types ts us ≡ true → Every (IsSet S Y P here) (occurrences P here.node k n e) →
        are_on_results P here.node k lefts (ungrouped e) ≡ true →
        AreCallLeftsOn S Y P here n lefts e →
        TermFits S Y P here variables_on s (emit Y P here k n s e) k ts →
        AllFit S
        (copied (left_targets lefts) (emit Y P here k n s e).found)
    equation_fit e ts is same w on calls r = by (is_site (ungrouped e)) refl
      where
        by :
            (b : Bool) → is_site (ungrouped e) ≡ b →
            AllFit S
            (copied (left_targets lefts) (emit Y P here k n s e).found)
        by true site = site_results e ts site is same w on calls
        by false site =
            let t = one_result P here e ts site is in
            result_fit lefts us t.0 k _ typed (subst (λ vs. are_types vs us ≡ true) t.1 same)
            (lefts_on here.node k lefts (no_call_on P here.node k lefts (ungrouped e) site on))
            (r.found t.0 t.1)
