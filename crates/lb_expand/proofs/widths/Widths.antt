-- An expression has as many streams as its types have elements, and so has every part of it.
use Rattle.lb_expand.proofs.Words
use Words.{Array, ArrayIterator, Arrow, AtMostOne, Binary, BinaryOperator, Call, Child, Cons}
use Words.{Current, DataType, Declaration, Every, Expr, Exprs, Fby, Fill, Group, History, If}
use Words.{IfSome, Index, Instance, Iterate, Join, List, Literal, Map, Name, Nil, Node, Node_named}
use Words.{None, Nor, Occurrence, Option, Pre, Program, Red, Replicate, Slice, Some, Static, Stream}
use Words.{Symbol, Truth, Unary, Variable, When, [], all_some, all_streams, all_types, and_first}
use Words.{and_second, ap, ap₂, are_types, arith, array_of, binary_type, bytes_eq, call_clocks}
use Words.{call_count, call_site, callee_of, common_type, constant_type, constantly, data_type}
use Words.{data_types, declared_clock, drop, either_or, element_count, first_of_all, flat_map}
use Words.{from_one, from_truths, gathered, heads_same, index_type, inl, inr, int, is_arithmetic}
use Words.{is_logical, is_type, iterated, iterator_types, join_type, joined, last_of, length}
use Words.{length-append, length-both, length-map, list_all, list_type, listed, map, name_data_type}
use Words.{name_value, node_named, number, occurrences, occurrences_each, occurrences_in, only}
use Words.{operator_types, option_map, or_fault, outputs_of, part_count, pos, presence, product}
use Words.{refl, same_Some, singly, slice_type, static_count, streams, suc, sym, symbols}
use Words.{tails_same, take, true, truly, truth, unary_type, variable_type, variables, where_true}
use Words.{width, ℕ, ◌*◌, ◌++◌, ◌+◌, ◌-◌, ◌<◌, ◌>>=◌, ◌∙◌, ◌∷◌, ◌≡◌, ◌≤◌, ◌⊎◌}
use Rattle.lb_check.specs.{Clocks.Clock, Types.{is_equality, map_types}}
use Rattle.lb_expand.proofs.widths.TypeFacts.{One, Symbolic, alike, alone, array_count}
use Rattle.lb_expand.proofs.widths.TypeFacts.{arrays_count, binary_by, bound, constant, each}
use Rattle.lb_expand.proofs.widths.TypeFacts.{elements_in, fed_by_types, fill_of, found_in}
use Rattle.lb_expand.proofs.widths.TypeFacts.{from_true, gathered_wide, indexed, joined_count}
use Rattle.lb_expand.proofs.widths.TypeFacts.{last_wide, length-choices, length-copies}
use Rattle.lb_expand.proofs.widths.TypeFacts.{length-index, length-part, one, outputs_wide, red_of}
use Rattle.lb_expand.proofs.widths.TypeFacts.{same_count, sliced, symbolic, truth_is, two}
use Rattle.lb_expand.proofs.widths.TypeFacts.{unary_count, width_of}
use Rattle.lb_flat.proofs.lists.Lists.{Every-append, Every-first, Every-second}
pub use Rattle.lb_check.proofs.typing.OperandTypes.{Called, Placed, called, placed}

-- An expression has as many streams as its types have scalar elements.

module _ (P : Program) (H : History) (here : Instance) where
  -- the variables of an instance are as wide as their types
  abbrev pub AreVariablesWide : Instance → Type 0
  AreVariablesWide c =
      Every (λ d. length (H.columns c.path d.name) ≡ width P c d) (variables c.node)

  abbrev pub IsCalleeWide : ℕ → Name → List Static → ℕ → Type 0
  IsCalleeWide n f statics i =
      (c : Instance) → callee_of P here (call_site f statics) n i ≡ Some c → AreVariablesWide c

  -- the variables of the instances of a call are wide too; an iterator has at least one instance
  abbrev pub IsWideAt : ℕ → Expr → Type 0
  IsWideAt n (Call f statics es) = IsCalleeWide n f statics 0
  IsWideAt n (Iterate it (Node_named f statics) m es) =
      (0 < number P here m)
      × ((i : ℕ) → i < number P here m → IsCalleeWide n f statics i)
  IsWideAt n e = Unit {0}

  abbrev pub IsOccurrenceWide : Occurrence → Type 0
  IsOccurrenceWide o = IsWideAt o.calls_before o.expr

  abbrev AllWide : List Occurrence → Type 0
  AllWide os = Every IsOccurrenceWide os

  fore : (os os' : List Occurrence) → AllWide (os ++ os') → AllWide os
  fore os os' w = Every-first IsOccurrenceWide os os' w

  aft : (os os' : List Occurrence) → AllWide (os ++ os') → AllWide os'
  aft os os' w = Every-second IsOccurrenceWide os os' w

  -- the outputs of instance `i` of call `n` are as wide as their types
  pub outputs_at :
      (f : Name) (statics : List Static) (c : Instance) → Placed P here f statics c → (n i : ℕ) →
      IsCalleeWide n f statics i →
      Every (λ d. length (H.columns (Child here.path n i) d.name) ≡ width P c d) c.node.outputs
  outputs_at f statics c p n i w =
      let all = w (record c { path = Child here.path n i }) (p.at n i) in
      Every-first _ c.node.outputs c.node.locals
      (Every-second _ c.node.inputs (c.node.outputs ++ c.node.locals) all)

  outputs_are :
      (f : Name) (o : Option Node) → node_named P f ≡ o →
      outputs_of P here f ≡ listed (λ n. n.outputs) o
  outputs_are f o e = ap (listed (λ n. n.outputs)) e

  call_wide :
      (n : ℕ) (f : Name) (statics : List Static) (types : List DataType × List DataType) →
      operator_types P here (Node_named f statics) ≡ Some types → IsCalleeWide n f statics 0 →
      length (flat_map (λ o. H.columns (Child here.path n 0) o.name) (outputs_of P here f))
      ≡ elements_in types.1
  call_wide n f statics types e w =
      let c = called P here f statics types e in
      let p = placed P here f statics c.callee c.is in
      let output = λ (o : Declaration). H.columns (Child here.path n 0) o.name in
      ap (λ ds. length (flat_map output ds)) (outputs_are f (Some c.callee.node) p.node)
      ∙ outputs_wide P c.callee output c.callee.node.outputs types.1
      (outputs_at f statics c.callee p n 0 w) c.outputs

  -- ## Names

  names_wide :
      AreVariablesWide here → (k : Clock) (x : Name) (o : Option Declaration) →
      IfSome o (λ d. length (H.columns here.path d.name) ≡ width P here d) → (ts : List DataType) →
      singly (either_or (option_map (variable_type P here) o)
      (constant_type (name_value P here x))) ≡ Some ts →
      length (either_or (option_map (λ d. H.columns here.path d.name) o)
      (constantly (or_fault (name_value P here x)) (presence H here.path k) ∷ []))
      ≡ elements_in ts
  names_wide all k x None w ts e = sym (ap elements_in (constant (name_value P here x) ts e).all)
  names_wide all k x (Some d) w ts e =
      let a = alone (variable_type P here d) ts e in
      let known : width P here d ≡ element_count a.data_type = width_of P here d a.data_type a.is in
      omega (arith, w, known) ∙ sym (ap elements_in a.all)

  -- ## Arrays

  type_is : (e : Expr) (t : DataType) → data_types P here e ≡ Some (t ∷ []) → data_type P here e ≡ t
  type_is e t h = ap (λ o. either_or (o >>= only) int) h

  sizes_product : (t : DataType) (ns : List ℕ) → t.sizes ≡ ns → element_count t ≡ product ns
  sizes_product t ns e = ap product e

  pub number_is : (s : Static) (n : ℕ) → static_count P here s ≡ Some n → number P here s ≡ n
  number_is s n h = ap (λ o. either_or o 0) h

  part_is :
      (e : Expr) (t : DataType) (n : ℕ) (ns : List ℕ) → data_types P here e ≡ Some (t ∷ []) →
      t.sizes ≡ n ∷ ns → part_count P here e ≡ product ns
  part_is e t n ns h sizes = cc (type_is e t h)

  just_one : (n : ℕ) (t : DataType) (ts : List DataType) → n ≡ element_count t → ts ≡ t ∷ [] →
      n ≡ elements_in ts
  just_one n t ts e h = let zero_more : element_count t ≡ element_count t + 0 = omega arith in
      e ∙ zero_more ∙ sym (ap elements_in h)

  pub only_one : (n : ℕ) (t : DataType) → n ≡ elements_in (t ∷ []) → n ≡ element_count t
  only_one n t e = omega (arith, e)

  -- operands as wide as their types are together as wide as all their types
  joined_wide :
      (xsss : List (List Stream)) (ts : List DataType) →
      map length xsss ≡ map element_count ts → length (joined xsss) ≡ elements_in ts
  joined_wide [] [] e = refl
  joined_wide (xss ∷ xsss) (t ∷ ts) e =
      let rest = joined_wide xsss ts (tails_same _ _ _ _ e) in
      let first = heads_same _ _ _ _ e in
      omega (arith, length-append xss (joined xsss), first, rest)
  joined_wide _ _ e = cc

  all_alike :
      (t : DataType) (ts : List DataType) → list_all (is_type t) ts ≡ true →
      elements_in ts ≡ length ts * element_count t
  all_alike t [] e = omega arith
  all_alike t (u ∷ ts) e =
      let same = same_count t u (and_first (is_type t u) (list_all (is_type t) ts) e) in
      let rest = all_alike t ts (and_second (is_type t u) (list_all (is_type t) ts) e) in
      omega (arith, same, rest)

  list_count :
      (ts : List DataType) (r : DataType) → list_type ts ≡ Some r →
      elements_in ts ≡ element_count r
  list_count [] r e = cc
  list_count (t ∷ ts) r e =
      let b = bound (where_true (list_all (is_type t) ts) t) _ r e in
      let h = truly (list_all (is_type t) ts) t b.value b.is in
      let rest = all_alike t ts h.holds in
      let all = array_count (suc (length ts)) b.value r b.gives in
      let same : element_count t ≡ element_count b.value = ap element_count h.same in
      omega (arith, rest, all, ap (λ c. length ts * c) same, same)

  -- ## Iterated nodes

  map_of :
      (n : ℕ) (ins outs args ts : List DataType) → map_types n ins outs args ≡ Some ts →
      elements_in ts ≡ n * elements_in outs
  map_of n ins outs args ts e =
      let w = bound (all_some (map (array_of n) ins)) _ ts e in
      let b = bound (where_true (are_types w.value args) outs) _ ts w.gives in
      let h = truly (are_types w.value args) outs b.value b.is in
      arrays_count n b.value ts b.gives ∙ sym (ap (λ us. n * elements_in us) h.same)

  -- the outputs of an iterated node are as wide as the types that the iterator gives
  iterated_by :
      (c : Instance) (outputs : ℕ → Name → List Stream) (n : ℕ) → 0 < n →
      (it : ArrayIterator) (ds : List Declaration) (ins outs args ts : List DataType) →
      ((i : ℕ) → i < n → Every (λ d. length (outputs i d.name) ≡ width P c d) ds) →
      all_some (map (variable_type P c) ds) ≡ Some outs →
      iterator_types it n ins outs args ≡ Some ts →
      length (iterated outputs n it ds) ≡ elements_in ts
  iterated_by c outputs n positive Map ds ins outs args ts w o e =
      gathered_wide P c outputs n ds outs w o ∙ sym (map_of n ins outs args ts e)
  iterated_by c outputs n positive Red ds ins outs args ts w o e =
      let r = red_of n ins outs args ts e in
      just_one _ r.out ts
      (last_wide P c outputs n positive ds r.out [] w (o ∙ ap Some r.outs_is)) r.ts_is
  iterated_by c outputs n positive Fill [] ins outs args ts w o e =
      let f = fill_of n ins outs args ts e in
      let same : [] ≡ outs = same_Some _ _ o in
      let none : [] ≡ f.out ∷ f.others = same ∙ f.outs_is in
      absurd cc
  iterated_by c outputs n positive Fill (d ∷ ds) ins outs args ts w o e =
      let f = fill_of n ins outs args ts e in
      let all = o ∙ ap Some f.outs_is in
      let h = each (variable_type P c d) (map (variable_type P c) ds) (f.out ∷ f.others) all in
      let same : f.others ≡ h.rest = tails_same _ _ _ _ h.all in
      let rest = gathered_wide P c outputs n ds f.others (λ i lt. (w i lt).1)
      (h.others ∙ ap Some (sym same)) in
      omega (
        arith,
        length-append (last_of outputs n (d ∷ ds)) (gathered outputs n ds),
        last_wide P c outputs n positive (d ∷ ds) f.out f.others w all,
        rest,
        arrays_count n f.others f.arrays f.gives,
      ) ∙ sym (ap elements_in f.ts_is)

  iterate_wide :
      (n : ℕ) (it : ArrayIterator) (f : Name) (statics : List Static) (m : ℕ)
      (types : List DataType × List DataType) (args ts : List DataType) → 0 < m →
      operator_types P here (Node_named f statics) ≡ Some types →
      ((i : ℕ) → i < m → IsCalleeWide n f statics i) →
      iterator_types it m types.0 types.1 args ≡ Some ts →
      length (iterated (λ i x. H.columns (Child here.path n i) x) m it (outputs_of P here f))
      ≡ elements_in ts
  iterate_wide n it f statics m types args ts positive o w e =
      let c = called P here f statics types o in
      let p = placed P here f statics c.callee c.is in
      let outputs = λ (i : ℕ) (x : Name). H.columns (Child here.path n i) x in
      ap (λ ds. length (iterated outputs m it ds)) (outputs_are f (Some c.callee.node) p.node)
      ∙ iterated_by c.callee outputs m positive it c.callee.node.outputs types.0 types.1 args ts
      (λ i lt. outputs_at f statics c.callee p n i (w i lt)) c.outputs e

  -- ## Iterated symbols

  -- the type of an iterated symbol has one scalar element
  symbol_scalar :
      (op : BinaryOperator) (types : List DataType × List DataType) (y : Symbolic op types) →
      element_count y.data_type ≡ 1
  symbol_scalar op types y = by y.of
    where
      by : ((is_arithmetic op ≡ true) × (y.data_type ≡ int))
          ⊎ ((is_logical op ≡ true) × (y.data_type ≡ truth)) → element_count y.data_type ≡ 1
      by (inl (a, e)) = ap element_count e
      by (inr (l, e)) = ap element_count e

  -- a symbol over two arrays of width `n` has width `n`
  zipped :
      (op : BinaryOperator) (n : ℕ) (xsss : List (List Stream)) →
      map length xsss ≡ n ∷ (n ∷ []) → length (symbols Map op xsss) ≡ n
  zipped op n (xs ∷ (ys ∷ [])) e =
      length-both _ n xs ys (heads_same _ _ _ _ e) (heads_same _ _ _ _ (tails_same _ _ _ _ e))
  zipped op n _ e = cc

  -- a symbol that reduces an array from an initial value has width 1
  folded :
      (op : BinaryOperator) (n : ℕ) (xsss : List (List Stream)) →
      map length xsss ≡ 1 ∷ (n ∷ []) → length (symbols Red op xsss) ≡ 1
  folded op n ((x ∷ []) ∷ (ys ∷ [])) e = refl
  folded op n ((x ∷ (y ∷ xs)) ∷ xsss) e = absurd (omega (arith, heads_same _ _ _ _ e))
  folded op n _ e = cc

  symbol_wide :
      (op : BinaryOperator) (n : ℕ) (k : DataType) → element_count k ≡ 1 → (it : ArrayIterator)
      (args ts : List DataType) (xsss : List (List Stream)) →
      map length xsss ≡ map element_count args →
      iterator_types it n (k ∷ (k ∷ [])) (k ∷ []) args ≡ Some ts →
      length (symbols it op xsss) ≡ elements_in ts
  symbol_wide op n k scalar Map args ts xsss h e =
      let fed = fed_by_types Map n (k ∷ (k ∷ [])) (k ∷ []) args ts e in
      let one : n * element_count k ≡ n = omega (arith, ap (λ c. n * c) scalar) in
      zipped op n xsss (h ∙ fed ∙ ap₂ (λ a c. a ∷ (c ∷ [])) one one)
      ∙ omega (arith, map_of n (k ∷ (k ∷ [])) (k ∷ []) args ts e, scalar, ap (λ c. n * c) scalar)
  symbol_wide op n k scalar Fill args ts xsss h e = cc
  symbol_wide op n k scalar Red [] ts xsss h e = cc
  symbol_wide op n k scalar Red (i ∷ args) ts xsss h e =
      let fed = fed_by_types Red n (k ∷ (k ∷ [])) (k ∷ []) (i ∷ args) ts e in
      let r = red_of n (k ∷ (k ∷ [])) (k ∷ []) (i ∷ args) ts e in
      folded op (n * element_count k) xsss
      (h ∙ ap₂ (λ a rest. a ∷ rest) (fed.0 ∙ scalar) fed.1)
      ∙ sym (ap elements_in (r.ts_is ∙ sym r.outs_is) ∙ omega (arith, scalar))

  -- ## Expressions

  slice_numbers :
      (xs : List Stream) (p q i c j d : ℕ) → p ≡ q → i ≡ c → j ≡ d →
      length (take (p * (suc j - i)) (drop (p * i) xs))
      ≡ length (take (q * (suc d - c)) (drop (q * c) xs))
  slice_numbers xs p q i c j d e g h = cc

  -- an element or a part of an array is as wide as its type
  index_wide :
      (a : Expr) (s : Static) (ts : List DataType) (c : ℕ) (xs : List Stream) →
      static_count P here s ≡ Some c → (i : One (data_types P here a) (index_type c) ts) →
      length xs ≡ element_count i.data_type →
      length (take (part_count P here a) (drop (part_count P here a * number P here s) xs))
      ≡ elements_in ts
  index_wide a s ts c xs is_c i e =
      let x = indexed c _ _ i.gives in
      let all = e ∙ sizes_product i.data_type _ x.sizes in
      just_one _ _ ts (ap₂ (λ p j. length (take p (drop (p * j) xs)))
      (part_is a _ _ _ i.is x.sizes) (number_is s c is_c) ∙ length-index _ c _ xs all x.within)
      i.all

  slice_wide :
      (a : Expr) (s t : Static) (ts : List DataType) (c d : ℕ) (xs : List Stream) →
      static_count P here s ≡ Some c → static_count P here t ≡ Some d →
      (i : One (data_types P here a) (slice_type c d) ts) → length xs ≡ element_count i.data_type →
      length
      (take (part_count P here a * (suc (number P here t) - number P here s))
      (drop (part_count P here a * number P here s) xs))
      ≡ elements_in ts
  slice_wide a s t ts c d xs is_c is_d i e =
      let x = sliced c d _ _ i.gives in
      let all = e ∙ sizes_product i.data_type _ x.sizes in
      let fits : c + (suc d - c) ≤ x.count = omega (arith, x.ordered, x.within) in
      just_one _ _ ts (slice_numbers xs _ _ _ c _ d (part_is a _ _ _ i.is x.sizes)
      (number_is s c is_c) (number_is t d is_d) ∙ length-part _ c _ _ xs all fits ∙ omega arith
      ∙ sym x.result) i.all

  module _ (variables_wide : AreVariablesWide here) where
    mutual
      pub wide :
          (k : Clock) (n : ℕ) (e : Expr) (ts : List DataType) → data_types P here e ≡ Some ts →
          AllWide (occurrences P here.node k n e) →
          length (streams P H here k n e) ≡ elements_in ts
      wide k n (Literal m) ts e w = sym (ap elements_in (constant (Some (pos m)) ts e).all)
      wide k n (Truth b) ts e w = ap elements_in (same_Some _ _ e)
      wide k n (Variable x) ts e w =
          names_wide variables_wide k x _
          (found_in _ (λ d. bytes_eq d.name x) (variables here.node) variables_wide) ts e
      wide k n (Group a) ts e w = wide k n a ts e w
      wide k n (Unary op a) ts e w =
          let i = one (data_types P here a) (unary_type op) ts e in
          just_one _ i.result ts
          (length-map (streams P H here k n a) _
          ∙ only_one _ i.data_type (wide k n a (i.data_type ∷ []) i.is w.1)
          ∙ unary_count op i.data_type i.result i.gives) i.all
      wide k n (Binary op a b) ts e w =
          let m = n + call_count a in
          let i = two (data_types P here a) (data_types P here b) (binary_type op) ts e in
          let s = binary_by i.first i.second i.result (is_arithmetic op) (is_logical op)
          (is_equality op) i.gives in
          just_one _ i.result ts
          (length-both _ 1 (streams P H here k n a) (streams P H here k m b)
          (only_one _ i.first (wide k n a _ i.is_first (fore _ _ w.1)) ∙ s.first)
          (only_one _ i.second (wide k m b _ i.is_second (aft _ _ w.1)) ∙ s.second) ∙ sym s.result)
          i.all
      wide k n (If c a b) ts e w =
          let na = n + call_count c in let nb = na + call_count a in
          let oc = occurrences P here.node k n c in
          let oa = occurrences P here.node k na a in
          let ob = occurrences P here.node k nb b in
          let branches = aft oc (oa ++ ob) w.1 in
          let t = bound (from_truths (from_one (data_types P here c) Some)) _ ts e in
          let truths = from_true (from_one (data_types P here c) Some) t.value t.is in
          let z = one (data_types P here c) Some truths.data_types truths.is in
          let i = two (data_types P here a) (data_types P here b) common_type ts t.gives in
          let same = alike i.first i.second i.result i.gives in
          let condition : is_type truth z.data_type ≡ true =
          and_first (is_type truth z.data_type) true
          (ap (λ us. list_all (is_type truth) us)
          (sym (z.all ∙ ap (λ u. u ∷ []) (sym (same_Some _ _ z.gives)))) ∙ truths.truths) in
          just_one _ i.result ts
          (length-choices (streams P H here k n c) (streams P H here k na a)
          (streams P H here k nb b) (element_count i.result)
          (only_one _ z.data_type (wide k n c _ z.is (fore oc (oa ++ ob) w.1))
          ∙ truth_is z.data_type condition)
          (only_one _ i.first (wide k na a _ i.is_first (fore oa ob branches)) ∙ same.first)
          (only_one _ i.second (wide k nb b _ i.is_second (aft oa ob branches))
          ∙ same.second)) i.all
      wide k n (Arrow a b) ts e w =
          let m = n + call_count a in
          let i = two (data_types P here a) (data_types P here b) common_type ts e in
          let same = alike i.first i.second i.result i.gives in
          just_one _ i.result ts
          (length-both _ (element_count i.result) (streams P H here k n a) (streams P H here k m b)
          (only_one _ i.first (wide k n a _ i.is_first (fore _ _ w.1)) ∙ same.first)
          (only_one _ i.second (wide k m b _ i.is_second (aft _ _ w.1)) ∙ same.second)) i.all
      wide k n (Fby a b) ts e w =
          let m = n + call_count a in
          let i = two (data_types P here a) (data_types P here b) common_type ts e in
          let same = alike i.first i.second i.result i.gives in
          just_one _ i.result ts
          (length-both _ (element_count i.result) (streams P H here k n a) _
          (only_one _ i.first (wide k n a _ i.is_first (fore _ _ w.1)) ∙ same.first)
          (length-map (streams P H here k m b) _
          ∙ only_one _ i.second (wide k m b _ i.is_second (aft _ _ w.1)) ∙ same.second)) i.all
      wide k n (Pre a) ts e w =
          let i = one (data_types P here a) Some ts e in
          just_one _ i.result ts
          (length-map (streams P H here k n a) _
          ∙ only_one _ i.data_type (wide k n a (i.data_type ∷ []) i.is w.1)
          ∙ ap element_count (same_Some _ _ i.gives)) i.all
      wide k n (When a x sign) ts e w =
          let i = one (data_types P here a) Some ts
          (bound (from_truths (singly (name_data_type P here x))) _ ts e).gives in
          just_one _ i.result ts
          (length-map (streams P H here (declared_clock here.node x) n a) _
          ∙ only_one _ i.data_type
          (wide (declared_clock here.node x) n a (i.data_type ∷ []) i.is w.1)
          ∙ ap element_count (same_Some _ _ i.gives)) i.all
      wide k n (Current a) ts e w =
          let i = one (data_types P here a) Some ts e in
          just_one _ i.result ts
          (length-map (streams P H here _ n a) _
          ∙ only_one _ i.data_type (wide _ n a (i.data_type ∷ []) i.is w.1)
          ∙ ap element_count (same_Some _ _ i.gives)) i.all
      wide k n (Replicate a m) ts e w =
          let c = bound (static_count P here m) _ ts e in
          let i = one (data_types P here a) (array_of c.value) ts c.gives in
          just_one _ i.result ts
          (length-copies (number P here m) (streams P H here k n a)
          ∙ ap₂ (λ p q. p * q) (number_is m c.value c.is)
          (only_one _ i.data_type (wide k n a (i.data_type ∷ []) i.is w.1))
          ∙ sym (array_count c.value i.data_type i.result i.gives)) i.all
      wide k n (Index a s) ts e w =
          let c = bound (static_count P here s) _ ts e in
          let i = one (data_types P here a) (index_type c.value) ts c.gives in
          index_wide a s ts c.value (streams P H here k n a) c.is i
          (only_one _ i.data_type (wide k n a (i.data_type ∷ []) i.is w.1))
      wide k n (Slice a s t) ts e w =
          let c = bound (static_count P here s) _ ts e in
          let d = bound (static_count P here t) _ ts c.gives in
          let i = one (data_types P here a) (slice_type c.value d.value) ts d.gives in
          slice_wide a s t ts c.value d.value (streams P H here k n a) c.is d.is i
          (only_one _ i.data_type (wide k n a (i.data_type ∷ []) i.is w.1))
      wide k n (Join a b) ts e w =
          let m = n + call_count a in
          let i = two (data_types P here a) (data_types P here b) join_type ts e in
          just_one _ i.result ts
          (length-append (streams P H here k n a) (streams P H here k m b)
          ∙ ap₂ (λ p q. p + q) (only_one _ i.first (wide k n a _ i.is_first (fore _ _ w.1)))
          (only_one _ i.second (wide k m b _ i.is_second (aft _ _ w.1)))
          ∙ joined_count i.first i.second i.result i.gives) i.all
      wide k n (Array es) ts e w =
          let b = bound (all_types P here es) _ ts e in
          let a = alone (list_type b.value) ts b.gives in
          just_one _ a.data_type ts
          (joined_wide (all_streams P H here k n es) b.value
          (all_wide k n es b.value b.is w.1)
          ∙ list_count b.value a.data_type a.is) a.all
      wide k n (AtMostOne es) ts e w =
          let t = from_true (all_types P here es) ts e in sym (ap elements_in t.all)
      wide k n (Nor es) ts e w = sym (ap elements_in (from_true (all_types P here es) ts e).all)
      wide k n (Call f statics es) ts e w =
          let o = bound (operator_types P here (Node_named f statics)) _ ts e in
          let a = bound (all_types P here es) _ ts o.gives in
          let t = truly (are_types o.value.0 a.value) o.value.1 ts a.gives in
          call_wide n f statics o.value o.is w.0 ∙ ap elements_in t.same
      wide k n (Iterate it (Node_named f statics) m es) ts e w =
          let c = bound (static_count P here m) _ ts e in
          let o = bound (operator_types P here (Node_named f statics)) _ ts c.gives in
          let a = bound (all_types P here es) _ ts o.gives in
          let same = number_is m c.value c.is in
          iterate_wide n it f statics (number P here m) o.value a.value ts w.0.0 o.is w.0.1
          (ap (λ count. iterator_types it count o.value.0 o.value.1 a.value) same ∙ a.gives)
      wide k n (Iterate it (Symbol op) m es) ts e w =
          let c = bound (static_count P here m) _ ts e in
          let o = bound (operator_types P here (Symbol op)) _ ts c.gives in
          let a = bound (all_types P here es) _ ts o.gives in
          let y = symbolic op o.value o.is in
          symbol_wide op c.value y.data_type (symbol_scalar op o.value y) it a.value ts
          (all_streams P H here k n es) (all_wide k n es a.value a.is w.1)
          (ap (λ (t : List DataType × List DataType). iterator_types it c.value t.0 t.1 a.value)
          (sym y.are) ∙ a.gives)

      pub all_wide :
          (k : Clock) (n : ℕ) (es : Exprs) (ts : List DataType) → all_types P here es ≡ Some ts →
          AllWide (occurrences_in P here.node k n es) →
          map length (all_streams P H here k n es) ≡ map element_count ts
      all_wide k n Nil ts e w = ap (map element_count) (same_Some _ _ e)
      all_wide k n (Cons e es) ts h w =
          let i = first_of_all P here e es ts h in
          ap₂ (λ x xs. x ∷ xs) (only_one _ i.first (wide k n e (i.first ∷ []) i.is (fore _ _ w)))
          (all_wide k (n + call_count e) es i.rest i.others (aft _ _ w))
          ∙ sym (ap (map element_count) i.all)

-- What holds of all occurrences of an expression holds of all parts of each of them.

module _ (P : Program) (here : Node) (Q : Occurrence → Type 0) where
  abbrev AllHave : List Occurrence → Type 0
  AllHave os = Every Q os

  -- the property holds of all parts of an occurrence
  abbrev pub PartsHave : Occurrence → Type 0
  PartsHave o = AllHave (occurrences P here o.clock o.calls_before o.expr)

  -- and so it does for all of these occurrences
  abbrev AllPartsHave : List Occurrence → Type 0
  AllPartsHave os = Every PartsHave os

  -- what holds of the parts of each occurrence of two lists holds of those of both together
  two_nested :
      (os os' : List Occurrence) → (AllHave os → AllPartsHave os) →
      (AllHave os' → AllPartsHave os') → AllHave (os ++ os') → AllPartsHave (os ++ os')
  two_nested os os' f g h =
      Every-append PartsHave os os' (f (Every-first Q os os' h)) (g (Every-second Q os os' h))

  mutual
    -- what holds of all occurrences of an expression holds of all parts of each of them
    nested : (k : Clock) (n : ℕ) (e : Expr) → AllHave (occurrences P here k n e) →
        AllPartsHave (occurrences P here k n e)
    nested k n (Literal m) h = (h, tt)
    nested k n (Truth b) h = (h, tt)
    nested k n (Variable x) h = (h, tt)
    nested k n (Group a) h = nested k n a h
    nested k n (Unary op a) h = (h, nested k n a h.1)
    nested k n (Binary op a b) h = (h, two_nested _ _ (nested k n a) (nested k _ b) h.1)
    nested k n (If c a b) h =
        (h, two_nested _ _ (nested k n c) (two_nested _ _ (nested k _ a) (nested k _ b)) h.1)
    nested k n (Arrow a b) h = (h, two_nested _ _ (nested k n a) (nested k _ b) h.1)
    nested k n (Fby a b) h = (h, two_nested _ _ (nested k n a) (nested k _ b) h.1)
    nested k n (Pre a) h = (h, nested k n a h.1)
    nested k n (Current a) h = (h, nested _ n a h.1)
    nested k n (When a x sign) h = (h, nested _ n a h.1)
    nested k n (Replicate a m) h = (h, nested k n a h.1)
    nested k n (Index a i) h = (h, nested k n a h.1)
    nested k n (Slice a i j) h = (h, nested k n a h.1)
    nested k n (Join a b) h = (h, two_nested _ _ (nested k n a) (nested k _ b) h.1)
    nested k n (Array es) h = (h, nested_in k n es h.1)
    nested k n (AtMostOne es) h = (h, nested_in k n es h.1)
    nested k n (Nor es) h = (h, nested_in k n es h.1)
    nested k n (Call f statics es) h =
        (h, nested_each (call_clocks k (node_named P f) es) (n + 1) es h.1)
    nested k n (Iterate it (Node_named f statics) m es) h = (h, nested_in k (n + 1) es h.1)
    nested k n (Iterate it (Symbol op) m es) h = (h, nested_in k n es h.1)

    nested_in : (k : Clock) (n : ℕ) (es : Exprs) → AllHave (occurrences_in P here k n es) →
        AllPartsHave (occurrences_in P here k n es)
    nested_in k n Nil h = tt
    nested_in k n (Cons e es) h = two_nested _ _ (nested k n e) (nested_in k _ es) h

    nested_each :
        (ks : List Clock) (n : ℕ) (es : Exprs) → AllHave (occurrences_each P here ks n es) →
        AllPartsHave (occurrences_each P here ks n es)
    nested_each ks n Nil h = tt
    nested_each [] n (Cons e es) h = tt
    nested_each (k ∷ ks) n (Cons e es) h = two_nested _ _ (nested k n e) (nested_each ks _ es) h

  -- and so it is for the occurrences of several expressions
  pub nested_all :
      (rs : List Occurrence) →
      AllHave (flat_map (λ r. occurrences P here r.clock r.calls_before r.expr) rs) →
      AllPartsHave (flat_map (λ r. occurrences P here r.clock r.calls_before r.expr) rs)
  nested_all [] h = tt
  nested_all (r ∷ rs) h = two_nested _ _ (nested r.clock r.calls_before r.expr) (nested_all rs) h

-- an occurrence has types, and what is called in it is as wide as its types
pub record IsTypedAt (P : Program) (H : History) (here : Instance) (o : Occurrence) : Type 0 where
  pub types : List DataType
  pub are : data_types P here o.expr ≡ Some types
  pub parts : PartsHave P here.node (IsOccurrenceWide P H here) o
