-- In an accepted program no size is 0, so each variable and each part has an element.
use Rattle.lb_check.proofs.Words
use Words.{Array, ArrayIterator, Arrow, AtMostOne, Binary, BinaryOperator, Call, Child, Cons}
use Words.{Current, DataType, Declaration, Every, Expr, Exprs, Fby, Fill, Group, HasTypes, If, In}
use Words.{Index, Instance, Iterate, Join, List, Map, Name, Nil, NodeTypes, Node_named, None, Nor}
use Words.{Option, Pre, Program, Red, Replicate, Site, Slice, Some, Statement, Static, Symbol}
use Words.{Unary, UnaryOperator, When, [], all_in, all_some, all_types, and_first, ap, arith}
use Words.{array_of, binary_type, bytes_eq, check_refusal, common_type, constant_type, data_types}
use Words.{either_or, element_count, expression_size, flat_map, found_in, from_one, from_truths}
use Words.{from_two, holds, in_at, index_type, inl, inr, instance_count, instances, int, is_between}
use Words.{is_int, is_small, is_type, iterator_types, join_type, length, list_all, list_type, map}
use Words.{map_in, min, name_data_type, name_value, named, nat_le, nat_tests, node_occurrences}
use Words.{node_parts, node_sizes, only, operator_types, option_map, part_count, parts, parts_in}
use Words.{parts_of, pos, product, refl, reverse, right_side, same_Some, singly, size, slice_get}
use Words.{slice_type, static_count, static_refusal, subst, suc, sum_by, sum_by-cons, sym, tail_of}
use Words.{total, true, truth, unary_type, variable_type, variables, where_true, width, zero, ℕ}
use Words.{◌&&◌, ◌*◌, ◌++◌, ◌+◌, ◌<◌, ◌>>=◌, ◌∙◌, ◌∷◌, ◌≡◌, ◌≤◌}
use Rattle.lb_check.proofs.{definitions.BrokenRules.instantiation_kept, lists.Members.Every-append}
use Rattle.lb_check.proofs.lists.Members.{Every-at, Every-from, Every-reverse, in_first, in_second}
use Rattle.lb_check.proofs.{lists.Members.to_pieces, programs.AcceptedRules.{typed, valued}}
use Rattle.lb_check.proofs.programs.{InstancePaths.find_in, OccurrenceParts.node_occurrence_parts}
use Rattle.lb_check.proofs.programs.{OccurrenceSites.own_site, SameHistories.IsEntered}
use Rattle.lb_check.proofs.programs.{SameHistories.all_entered, SiteOccurrences.instance_there}
use Rattle.lb_check.proofs.typing.OperandTypes.{alone, bound, called, first_of, first_of_all}
use Rattle.lb_check.proofs.typing.OperandTypes.{from_true, one, placed, truly, two}
use Rattle.{lb_check.specs.Types.element_of, lb_static.specs.Parts.{declared_sizes, own_sizes}}
use Rattle.{lb_syntax.specs.Tree.{Literal, Truth, Variable}, std.proofs.Math.Nat.suc-mul}

-- In an accepted program each variable has an element, since no size is 0.

pub positive_times : (n m : ℕ) → 0 < n → 0 < m → 0 < n * m
positive_times zero m p q = absurd (omega arith)
positive_times (suc n) m p q = let e = suc-mul n m in omega (arith, q, e)

module _ (P : Program) (here : Instance) where
  -- a size has a value, which is not 0
  abbrev IsPositive : Static → Type 0
  IsPositive s = is_between P here 1 4096 s ≡ true

  sizes_positive :
      (ss : List Static) → Every IsPositive ss →
      0 < either_or (option_map product (all_some (map (static_count P here) ss))) 0
  sizes_positive [] h = omega arith
  sizes_positive (s ∷ ss) h = grind (arith, nat_tests, positive_times, sizes_positive ss h.1, h.0)

  width_of :
      (d : Declaration) (o : Option (List ℕ)) → 0 < either_or (option_map product o) 0 →
      0 < either_or (option_map element_count
      (option_map (λ ns. record { kind = d.kind; sizes = ns }) o)) 0
  width_of d None q = q
  width_of d (Some ns) q = q

module _ (P : Program) (accepted : static_refusal P ≡ None) where
  -- each variable has an element
  pub width_positive :
      (here : Instance) → In here (instances P) → (d : Declaration) →
      In d (variables here.node) → 0 < width P here d
  width_positive here i d j =
      let entered = Every-at (IsEntered P) (instances P) here
      (all_entered P 0 (instances P) (instantiation_kept P accepted)) i in
      let others = flat_map own_sizes (node_parts here.node) in
      let sizes = Every-from (IsPositive P here) d.sizes (λ s k.
      all_in (is_between P here 1 4096) (node_sizes here.node) s entered.1
      (in_first s (declared_sizes here.node) others
      (to_pieces (λ (c : Declaration). c.sizes) s d (variables here.node) j k))) in
      width_of P here d (all_some (map (static_count P here) (reverse d.sizes)))
      (sizes_positive P here (reverse d.sizes) (Every-reverse (IsPositive P here) d.sizes sizes))

-- In an accepted program no length of the type of an expression is 0.

-- ## Types without a length that is 0

abbrev pub IsWide : DataType → Type 0
IsWide t = Every (λ n. 0 < n) t.sizes

abbrev pub AreWide : List DataType → Type 0
AreWide ts = Every IsWide ts

one_wide : (ts : List DataType) (t : DataType) → ts ≡ t ∷ [] → IsWide t → AreWide ts
one_wide ts t e w = subst AreWide (sym e) (w, tt)

product_wide : (ns : List ℕ) → 0 < product ns → Every (λ n. 0 < n) ns
product_wide [] lt = tt
product_wide (n ∷ ns) lt = (left n (product ns) lt, product_wide ns (right n (product ns) lt))
  where
    left : (n m : ℕ) → 0 < n * m → 0 < n
    left zero m lt = absurd (omega (arith, lt))
    left (suc n) m lt = omega arith

    right : (n m : ℕ) → 0 < n * m → 0 < m
    right n zero lt = let e : n * 0 ≡ 0 = grind arith in absurd (omega (arith, lt, e))
    right n (suc m) lt = omega arith

-- ## Operators

unary_wide : (op : UnaryOperator) (t u : DataType) → unary_type op t ≡ Some u → IsWide u
unary_wide op t u e = grind arith

binary_wide : (op : BinaryOperator) (s t u : DataType) → binary_type op s t ≡ Some u → IsWide u
binary_wide op s t u e = grind arith

common_wide : (s t u : DataType) → common_type s t ≡ Some u → IsWide t → IsWide u
common_wide s t u e w = subst IsWide (truly _ t u e).same w

-- ## Arrays

array_wide : (n : ℕ) (t u : DataType) → array_of n t ≡ Some u → IsWide t → IsWide u
array_wide n t u e w =
    let i = truly (nat_le 1 n && nat_le n 4096) _ u e in
    subst IsWide i.same
    (grind (arith, nat_tests, and_first (nat_le 1 n) (nat_le n 4096) i.holds), w)

element_wide : (t : DataType) (a : ℕ × DataType) → element_of t ≡ Some a → IsWide t → IsWide a.1
element_wide t a e w = grind arith

index_wide : (i : ℕ) (t u : DataType) → index_type i t ≡ Some u → IsWide t → IsWide u
index_wide i t u e w = grind (arith, element_wide t)

slice_wide : (i j : ℕ) (t u : DataType) → slice_type i j t ≡ Some u → IsWide t → IsWide u
slice_wide i j t u e w = grind (arith, element_wide t, array_wide)

join_wide : (s t u : DataType) → join_type s t ≡ Some u → IsWide t → IsWide u
join_wide s t u e w = grind (arith, element_wide t, array_wide, common_wide)

list_wide : (ts : List DataType) (u : DataType) → list_type ts ≡ Some u → AreWide ts → IsWide u
list_wide [] u e w = absurd cc
list_wide (t ∷ ts) u e w =
    let same = list_all (is_type t) ts in
    let n = suc (length ts) in
    let a = bound (where_true same t) (array_of n) u e in
    array_wide n a.value u a.gives (subst IsWide (truly same t a.value a.is).same w.0)

-- ## Lists of types

all_wide :
    {A : Type 0} (f : A → Option DataType) (xs : List A) (ts : List DataType) →
    ((x : A) → In x xs → (t : DataType) → f x ≡ Some t → IsWide t) →
    all_some (map f xs) ≡ Some ts → AreWide ts
all_wide f [] ts wide e = subst AreWide (same_Some [] ts e) tt
all_wide f (x ∷ xs) ts wide e =
    let i = first_of (f x) (map f xs) ts e in
    subst AreWide (sym i.all)
    (wide x (inl refl) i.first i.is, all_wide f xs i.rest (λ y on. wide y (inr on)) i.others)

arrays_wide : (n : ℕ) (us ts : List DataType) → all_some (map (array_of n) us) ≡ Some ts →
    AreWide us → AreWide ts
arrays_wide n us ts e w =
    all_wide (array_of n) us ts
    (λ u on t is. array_wide n u t is (Every-at IsWide us u w on)) e

iterator_wide :
    (it : ArrayIterator) (n : ℕ) (ins outs args ts : List DataType) →
    iterator_types it n ins outs args ≡ Some ts → AreWide outs → AreWide ts
iterator_wide Map n ins outs args ts e w =
    let a = bound (all_some (map (array_of n) ins)) _ ts e in
    let b = bound (where_true _ outs) (λ outs. all_some (map (array_of n) outs)) ts a.gives in
    arrays_wide n b.value ts b.gives (subst AreWide (truly _ outs b.value b.is).same w)
iterator_wide Red n (a ∷ ins) (u ∷ []) (i ∷ args) ts e w =
    let b = bound (all_some (map (array_of n) ins)) _ ts e in
    subst AreWide (truly _ (u ∷ []) ts b.gives).same w
iterator_wide Fill n (a ∷ []) (u ∷ (v ∷ us)) (i ∷ []) ts e w =
    let b = bound (all_some (map (array_of n) (v ∷ us))) _ ts e in
    subst AreWide (truly _ (u ∷ b.value) ts b.gives).same
    (w.0, arrays_wide n (v ∷ us) b.value b.is w.1)
iterator_wide _ n _ _ _ ts e w = absurd cc

-- ## The expressions of an instance

module _ (P : Program) (accepted : static_refusal P ≡ None) where
  variable_wide :
      (i : Instance) → In i (instances P) → (d : Declaration) → In d (variables i.node) →
      (t : DataType) → variable_type P i d ≡ Some t → IsWide t
  variable_wide i on d there t e =
      product_wide t.sizes
      (subst (λ (o : Option DataType). 0 < either_or (option_map element_count o) 0) e
      (width_positive P accepted i on d there))

  module _ (checked : check_refusal P ≡ None) (here : Instance)
      (stands : In here (instances P)) where
    symbol_wide : (op : BinaryOperator) (types : List DataType × List DataType) →
        operator_types P here (Symbol op) ≡ Some types → AreWide types.1
    symbol_wide op types e = grind arith

    name_wide : (x : Name) (t : DataType) → name_data_type P here x ≡ Some t → IsWide t
    name_wide x t e = by (named (λ d. d.name) x (variables here.node)) refl e
      where
        by : (o : Option Declaration) → named (λ d. d.name) x (variables here.node) ≡ o →
            either_or (option_map (variable_type P here) o) (constant_type (name_value P here x))
            ≡ Some t → IsWide t
        by None is e = subst IsWide (truly (holds is_int (name_value P here x)) int t e).same tt
        by (Some d) is e =
            variable_wide here stands d
            (find_in (λ d. bytes_eq d.name x) (variables here.node) d is) t e

    -- the types of the outputs of a callee have no length 0
    outputs_wide :
        (x : Expr) (f : Name) (statics : List Static) (count : Option Static)
        (types : List DataType × List DataType) → In x (node_parts here.node) →
        own_site x ≡ Some (record { callee = f; arguments = statics; count = count }) →
        0 < either_or (instance_count P here count) 0 →
        operator_types P here (Node_named f statics) ≡ Some types → AreWide types.1
    outputs_wide x f statics count types on site lt e =
        let s : Site = record { callee = f; arguments = statics; count = count } in
        let c = called P here f statics types e in
        let q = placed P here f statics c.callee c.is in
        let o = map_in (λ o. o.expr) (node_occurrences P here.node) x
        (subst (λ es. In x es) (sym (node_occurrence_parts P here (typed P checked here stands)))
        on) in
        let there = instance_there P accepted checked here stands o.0 s c.callee.node 0 o.1
        (ap own_site o.2 ∙ site) q.node lt in
        let moved : Instance =
        record (c.callee) { path = Child here.path o.0.calls_before 0 } in
        let same = same_Some there.instance moved (sym there.is ∙ q.at o.0.calls_before 0) in
        let known = subst (λ (z : Instance). In z (instances P)) same there.stands in
        all_wide (variable_type P c.callee) c.callee.node.outputs types.1
        (λ d i t g. variable_wide moved known d
        (in_second d c.callee.node.inputs (c.callee.node.outputs ++ c.callee.node.locals)
        (in_first d c.callee.node.outputs c.callee.node.locals i)) t g)
        c.outputs

    counted : (x : Expr) (m : Static) → In x (node_parts here.node) → In m (own_sizes x) →
        0 < either_or (static_count P here m) 0
    counted x m on own =
        let range = all_in (is_between P here 1 4096) (node_sizes here.node) m
        (and_first _ _ (valued P accepted here stands).in_range)
        (in_second m (declared_sizes here.node) (flat_map own_sizes (node_parts here.node))
        (to_pieces own_sizes m x (node_parts here.node) on own)) in
        grind (arith, nat_tests, range)

    -- all parts of an expression stand in the node
    abbrev Stands : List Expr → Type 0
    Stands es = (x : Expr) → In x es → In x (node_parts here.node)

    -- the types of an expression have no length 0
    abbrev pub HasWide : Expr → Type 0
    HasWide e = (ts : List DataType) → data_types P here e ≡ Some ts → AreWide ts

    -- the type of the operand is that of the result
    same_wide : (a : Expr) → HasWide a → (ts : List DataType) →
        from_one (data_types P here a) Some ≡ Some ts → AreWide ts
    same_wide a wide ts e =
        let i = one (data_types P here a) Some ts e in
        let w = wide (i.data_type ∷ []) i.is in
        one_wide ts i.result i.all (subst IsWide (same_Some i.data_type i.result i.gives) w.0)

    -- the operands and the result have one type
    later_wide : (a b : Expr) → HasWide b → (ts : List DataType) →
        from_two (data_types P here a) (data_types P here b) common_type ≡ Some ts → AreWide ts
    later_wide a b wide ts e =
        let i = two (data_types P here a) (data_types P here b) common_type ts e in
        let w = wide (i.second ∷ []) i.is_second in
        one_wide ts i.result i.all (common_wide i.first i.second i.result i.gives w.0)

    mutual
      positive :
          (e : Expr) → Stands (parts e) → (ts : List DataType) → data_types P here e ≡ Some ts →
          AreWide ts
      positive (Literal m) on ts e =
          let a = alone (constant_type (Some (pos m))) ts e in
          one_wide ts a.data_type a.all (subst IsWide (truly (holds is_int (Some (pos m))) int
          a.data_type a.is).same tt)
      positive (Truth b) on ts e = subst AreWide (same_Some (truth ∷ []) ts e) (tt, tt)
      positive (Variable x) on ts e =
          let a = alone (name_data_type P here x) ts e in
          one_wide ts a.data_type a.all (name_wide x a.data_type a.is)
      positive (Group a) on ts e = positive a on ts e
      positive (Unary op a) on ts e =
          let i = one (data_types P here a) (unary_type op) ts e in
          one_wide ts i.result i.all (unary_wide op i.data_type i.result i.gives)
      positive (Binary op a b) on ts e =
          let i = two (data_types P here a) (data_types P here b) (binary_type op) ts e in
          one_wide ts i.result i.all (binary_wide op i.first i.second i.result i.gives)
      positive (If c a b) on ts e =
          let t = bound (from_truths (from_one (data_types P here c) Some)) _ ts e in
          later_wide a b (λ us f. positive b
          (λ x l. on x (inr (in_second x (parts c) (parts a ++ parts b)
          (in_second x (parts a) (parts b) l)))) us f) ts t.gives
      positive (Arrow a b) on ts e =
          later_wide a b
          (λ us f. positive b (λ x l. on x (inr (in_second x (parts a) (parts b) l))) us f) ts e
      positive (Fby a b) on ts e =
          later_wide a b
          (λ us f. positive b (λ x l. on x (inr (in_second x (parts a) (parts b) l))) us f) ts e
      positive (Pre a) on ts e = same_wide a (λ us f. positive a (λ x l. on x (inr l)) us f) ts e
      positive (Current a) on ts e =
          same_wide a (λ us f. positive a (λ x l. on x (inr l)) us f) ts e
      positive (When a y sign) on ts e =
          let t = bound (from_truths (singly (name_data_type P here y))) _ ts e in
          same_wide a (λ us f. positive a (λ x l. on x (inr l)) us f) ts t.gives
      positive (Replicate a m) on ts e =
          let c = bound (static_count P here m) _ ts e in
          let i = one (data_types P here a) (array_of c.value) ts c.gives in
          let w = positive a (λ x l. on x (inr l)) (i.data_type ∷ []) i.is in
          one_wide ts i.result i.all (array_wide c.value i.data_type i.result i.gives w.0)
      positive (Index a m) on ts e =
          let c = bound (static_count P here m) _ ts e in
          let i = one (data_types P here a) (index_type c.value) ts c.gives in
          let w = positive a (λ x l. on x (inr l)) (i.data_type ∷ []) i.is in
          one_wide ts i.result i.all (index_wide c.value i.data_type i.result i.gives w.0)
      positive (Slice a m l) on ts e =
          let c = bound (static_count P here m) _ ts e in
          let d = bound (static_count P here l) _ ts c.gives in
          let i = one (data_types P here a) (slice_type c.value d.value) ts d.gives in
          let w = positive a (λ x k. on x (inr k)) (i.data_type ∷ []) i.is in
          one_wide ts i.result i.all
          (slice_wide c.value d.value i.data_type i.result i.gives w.0)
      positive (Join a b) on ts e =
          let i = two (data_types P here a) (data_types P here b) join_type ts e in
          let w = positive b (λ x l. on x (inr (in_second x (parts a) (parts b) l)))
          (i.second ∷ []) i.is_second in
          one_wide ts i.result i.all (join_wide i.first i.second i.result i.gives w.0)
      positive (Array es) on ts e =
          let b = bound (all_types P here es) _ ts e in
          let a = alone (list_type b.value) ts b.gives in
          one_wide ts a.data_type a.all (list_wide b.value a.data_type a.is
          (all_positive es (λ x l. on x (inr l)) b.value b.is))
      positive (AtMostOne es) on ts e =
          one_wide ts truth (from_true (all_types P here es) ts e).all tt
      positive (Nor es) on ts e = one_wide ts truth (from_true (all_types P here es) ts e).all tt
      positive (Call f statics es) on ts e =
          let t = bound (operator_types P here (Node_named f statics)) _ ts e in
          let a = bound (all_types P here es) _ ts t.gives in
          subst AreWide (truly _ t.value.1 ts a.gives).same
          (outputs_wide (Call f statics es) f statics None t.value
          (on (Call f statics es) (inl refl)) refl (omega arith) t.is)
      positive (Iterate it (Node_named f statics) m es) on ts e =
          let x = Iterate it (Node_named f statics) m es in
          let c = bound (static_count P here m) _ ts e in
          let t = bound (operator_types P here (Node_named f statics)) _ ts c.gives in
          let a = bound (all_types P here es) _ ts t.gives in
          iterator_wide it c.value t.value.0 t.value.1 a.value ts a.gives
          (outputs_wide x f statics (Some m) t.value (on x (inl refl)) refl
          (counted x m (on x (inl refl)) (inl refl)) t.is)
      positive (Iterate it (Symbol op) m es) on ts e =
          let c = bound (static_count P here m) _ ts e in
          let t = bound (operator_types P here (Symbol op)) _ ts c.gives in
          let a = bound (all_types P here es) _ ts t.gives in
          iterator_wide it c.value t.value.0 t.value.1 a.value ts a.gives
          (symbol_wide op t.value t.is)

      all_positive :
          (es : Exprs) → Stands (parts_in es) → (ts : List DataType) →
          all_types P here es ≡ Some ts → AreWide ts
      all_positive Nil on ts e = subst AreWide (same_Some [] ts e) tt
      all_positive (Cons a es) on ts e =
          let i = first_of_all P here a es ts e in
          let w = positive a (λ x l. on x (in_first x (parts a) (parts_in es) l))
          (i.first ∷ []) i.is in
          subst AreWide (sym i.all) (
            w.0,
            all_positive es (λ x l. on x (in_second x (parts a) (parts_in es) l)) i.rest
                i.others,
          )

    -- of two lists of parts, one after the other
    two_wide : (xs ys : List Expr) → Stands (xs ++ ys) → (Stands xs → Every HasWide xs) →
        (Stands ys → Every HasWide ys) → Every HasWide (xs ++ ys)
    two_wide xs ys on h g =
        Every-append HasWide xs ys (h (λ x l. on x (in_first x xs ys l)))
        (g (λ x l. on x (in_second x xs ys l)))

    mutual
      each_wide : (e : Expr) → Stands (parts e) → Every HasWide (parts e)
      each_wide (Literal m) on = (positive (Literal m) on, tt)
      each_wide (Truth b) on = (positive (Truth b) on, tt)
      each_wide (Variable x) on = (positive (Variable x) on, tt)
      each_wide (Group a) on = each_wide a on
      each_wide (Unary op a) on = (positive (Unary op a) on, each_wide a (λ x l. on x (inr l)))
      each_wide (Binary op a b) on = (
        positive (Binary op a b) on,
        two_wide (parts a) (parts b) (λ x l. on x (inr l)) (λ h. each_wide a h)
            (λ h. each_wide b h),
      )
      each_wide (If c a b) on = (
        positive (If c a b) on,
        two_wide (parts c) (parts a ++ parts b) (λ x l. on x (inr l)) (λ h. each_wide c h)
            (λ h. two_wide (parts a) (parts b) h (λ h. each_wide a h) (λ h. each_wide b h)),
      )
      each_wide (Arrow a b) on = (
        positive (Arrow a b) on,
        two_wide (parts a) (parts b) (λ x l. on x (inr l)) (λ h. each_wide a h)
            (λ h. each_wide b h),
      )
      each_wide (Fby a b) on = (
        positive (Fby a b) on,
        two_wide (parts a) (parts b) (λ x l. on x (inr l)) (λ h. each_wide a h)
            (λ h. each_wide b h),
      )
      each_wide (Pre a) on = (positive (Pre a) on, each_wide a (λ x l. on x (inr l)))
      each_wide (Current a) on = (positive (Current a) on, each_wide a (λ x l. on x (inr l)))
      each_wide (When a y sign) on =
          (positive (When a y sign) on, each_wide a (λ x l. on x (inr l)))
      each_wide (Replicate a m) on =
          (positive (Replicate a m) on, each_wide a (λ x l. on x (inr l)))
      each_wide (Index a m) on = (positive (Index a m) on, each_wide a (λ x l. on x (inr l)))
      each_wide (Slice a m l) on = (positive (Slice a m l) on, each_wide a (λ x k. on x (inr k)))
      each_wide (Join a b) on = (
        positive (Join a b) on,
        two_wide (parts a) (parts b) (λ x l. on x (inr l)) (λ h. each_wide a h)
            (λ h. each_wide b h),
      )
      each_wide (Array es) on = (positive (Array es) on, row_wide es (λ x l. on x (inr l)))
      each_wide (AtMostOne es) on = (positive (AtMostOne es) on, row_wide es (λ x l. on x (inr l)))
      each_wide (Nor es) on = (positive (Nor es) on, row_wide es (λ x l. on x (inr l)))
      each_wide (Call f statics es) on =
          (positive (Call f statics es) on, row_wide es (λ x l. on x (inr l)))
      each_wide (Iterate it (Node_named f statics) m es) on =
          (positive (Iterate it (Node_named f statics) m es) on, row_wide es (λ x l. on x (inr l)))
      each_wide (Iterate it (Symbol op) m es) on =
          (positive (Iterate it (Symbol op) m es) on, row_wide es (λ x l. on x (inr l)))

      row_wide : (es : Exprs) → Stands (parts_in es) → Every HasWide (parts_in es)
      row_wide Nil on = tt
      row_wide (Cons a es) on =
          two_wide (parts a) (parts_in es) on (λ h. each_wide a h) (λ h. row_wide es h)

    statements_wide :
        (ss : List Statement) → ((s : Statement) → In s ss → In s here.node.body) →
        Every HasWide (flat_map (λ s. parts (right_side s)) ss)
    statements_wide [] all = tt
    statements_wide (s ∷ ss) all =
        Every-append HasWide (parts (right_side s)) (flat_map (λ s. parts (right_side s)) ss)
        (each_wide (right_side s)
        (λ x l. to_pieces (λ s. parts (right_side s)) x s here.node.body (all s (inl refl)) l))
        (statements_wide ss (λ z l. all z (inr l)))

    -- ## Small programs

    in_sum : {A : Type 0} (f : A → ℕ) (xs : List A) (x : A) → In x xs → f x ≤ sum_by f xs
    in_sum f [] x on = absurd on
    in_sum f (y ∷ xs) x (inl is) =
        let s = sum_by-cons f y xs in let same = ap f is in omega (arith, s, same)
    in_sum f (y ∷ xs) x (inr on) =
        let s = sum_by-cons f y xs in let rest = in_sum f xs x on in omega (arith, s, rest)

    -- an expression of a small program has at most 65,536 scalar elements
    size_small : is_small P ≡ true → (e : Expr) → In e (node_parts here.node) →
        expression_size P here e ≤ 65536
    size_small small e on =
        let one = in_sum _ _ e on in
        let whole = in_sum _ _ here stands in
        by (size P) (sum_by (width P here) (variables here.node))
        (sum_by (expression_size P here) (node_parts here.node)) (expression_size P here e) small
        whole one
      where
        by : (n v u k : ℕ) → nat_le n 65536 ≡ true → v + u ≤ n → k ≤ u → k ≤ 65536
        by n v u k is whole one =
            let le : n ≤ 65536 = grind (arith, nat_tests) in omega (arith, le, whole, one)

    part_within : (ns : List ℕ) → Every (λ n. 0 < n) ns → product (tail_of ns) ≤ product ns
    part_within [] w = omega arith
    part_within (n ∷ ns) w = by n (product ns) w.0
      where
        by : (n m : ℕ) → 0 < n → m ≤ n * m
        by zero m lt = absurd (omega (arith, lt))
        by (suc n) m lt = let e = suc-mul n m in omega (arith, e)

    -- the scalar elements of each element of an array are at most 65,536 in a small program
    pub part_small :
        is_small P ≡ true → (e : Expr) → In e (node_parts here.node) →
        part_count P here e ≤ 65536
    part_small small e on =
        by (data_types P here e) (Every-at HasWide (node_parts here.node) e (statements_wide
        here.node.body (λ s l. l)) on)
        (size_small small e on)
      where
        by : (o : Option (List DataType)) →
            ((ts : List DataType) → o ≡ Some ts → AreWide ts) → total (either_or o []) ≤ 65536 →
            product (tail_of (either_or (o >>= only) int).sizes) ≤ 65536
        by None wide le = omega arith
        by (Some []) wide le = omega arith
        by (Some (t ∷ [])) wide le =
            let w = wide (t ∷ []) refl in
            let part = part_within t.sizes w.0 in
            let s = sum_by-cons element_count t [] in
            omega (arith, le, part, s)
        by (Some (t ∷ (u ∷ ts))) wide le = omega arith

-- In a small program the number of scalar elements in each element of an array is exactly the one
-- that a checked program lends.

module _ (P : Program) (accepted : static_refusal P ≡ None) (checked : check_refusal P ≡ None)
    (small : is_small P ≡ true) (here : Instance) (stands : In here (instances P))
    (f : NodeTypes) (has : HasTypes P here f) where
  exactly : (n k : ℕ) → n ≡ min k 65537 → k ≤ 65536 → n ≡ k
  exactly n k e le = omega (arith, e, le)

  -- in a small program `parts_of` is the number of scalar elements in each element of an array
  pub parts_lent : (i : ℕ) (e : Expr) → slice_get (node_parts here.node) i ≡ Some e →
      parts_of (found_in f) i ≡ part_count P here e
  parts_lent i e at =
      exactly (parts_of (found_in f) i) (part_count P here e) (has.parts i e at)
      (part_small P accepted checked here stands small e (in_at (node_parts here.node) i e at))
