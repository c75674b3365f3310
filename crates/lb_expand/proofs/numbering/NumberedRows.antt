-- The numbers that counting the rows of the table gives.
use Rattle.lb_expand.proofs.Words
use Words.{AreApart, Declaration, Declared, Every, Every-at, Every-from, In, Instance, IsReached}
use Words.{IsResolved, IsSpecialized, IsTable, List, Name, None, Path, Program, Reached}
use Words.{ResolvedNode, Some, Specialization, Static, Table, VariableId, [], ap, append-nil, ap₂}
use Words.{are_distinct, arith, bytes_eq, count_at, counts_of, declaration_of, declared_is}
use Words.{declared_width, either_or, element_count, elements, false, first_of_row, flat_map}
use Words.{flat_map-append, found_from, get_mapped, get_name, get_or, get_or_from_slice_get, in_at}
use Words.{instance_elements, instance_of, instances, instances_apart, is_path, is_variable}
use Words.{item_at, length, length-append, length-map, length_elements, listed, ltb-true, map}
use Words.{name_in, node_of, numbers_from, option_map, range_with_len, refl, row_numbers, same_Some}
use Words.{same_instance, same_path, slice_get, slice_get_within, source_names, static_refusal}
use Words.{static_value, subst, suc, sum_by-append, sum_by-cons, sum_of, sym, take, take_more, true}
use Words.{values_at, variable_names, variables, variables_before, variables_distinct, width}
use Words.{widths_in, zero, zip2, ℕ, ℤ, ◌++◌, ◌+◌, ◌-◌, ◌<◌, ◌∙◌, ◌∷◌, ◌≡◌, ◌≤◌}
use Rattle.lb_check.proofs.programs.{InstancePaths.{IsAt, all_at}, Numbers.distinct_rest}
use Rattle.lb_check.proofs.programs.Numbers.{found_first, found_later, numbers_at, numbers_first}
use Rattle.lb_check.proofs.{programs.Numbers.{numbers_later, others}, typing.FittedTypes.node_at}
use Rattle.lb_check.{proofs.typing.PositiveTypes.width_positive, specs.Elements.numbers_of}
use Rattle.lb_expand.proofs.numbering.RowInstances.{IsRow, row_shown, rows_many}
use Rattle.std.proofs.lemmas.Bool.{false_from_ne_true}
use Rattle.lb_static.specs.declared.table.Instance as row

-- The numbers that counting the rows of the table gives are the numbers of elements.

-- ## Sums

pub sum_cons : (n : ℕ) (ns : List ℕ) → sum_of (n ∷ ns) ≡ n + sum_of ns
sum_cons n ns = sum_by-cons (λ k. k) n ns

pub sum_append : (ns ms : List ℕ) → sum_of (ns ++ ms) ≡ sum_of ns + sum_of ms
sum_append ns ms = sum_by-append (λ k. k) ns ms

-- ## Widths

module _ (P : Program) (here : Instance) where
  declared_widths :
      (all : List Name) (statics : List Static) (values : List ℤ) →
      map Some values ≡ map (static_value P here) statics → (names : List Name)
      (vs : List Declared) → length vs ≡ length (zip2 (declaration_of all statics) names vs) →
      map (declared_width values) vs
      ≡ map (width P here) (zip2 (declaration_of all statics) names vs)
  declared_widths all statics values valued [] [] long = refl
  declared_widths all statics values valued [] (v ∷ vs) long = absurd (omega (arith, long))
  declared_widths all statics values valued (x ∷ names) [] long = refl
  declared_widths all statics values valued (x ∷ names) (v ∷ vs) long =
      ap₂ (λ n ns. n ∷ ns)
      (ap (λ o. either_or (option_map element_count o) 0)
      (sym (declared_is P here statics values valued all x v)))
      (declared_widths all statics values valued names vs (omega (arith, long)))

  -- the elements of an instance are as many as its variables are wide
  pub elements_wide :
      (ds : List Declaration) →
      length (flat_map (elements P here) ds) ≡ sum_of (map (width P here) ds)
  elements_wide [] = refl
  elements_wide (d ∷ ds) =
      length-append (elements P here d) (flat_map (elements P here) ds)
      ∙ (ap₂ (λ m n. m + n) (length_elements P here d) (elements_wide ds)
      ∙ sym (sum_cons (width P here d) (map (width P here) ds)))

  numbered_at :
      (m : ℕ) (ds : List Declaration) → are_distinct (map (λ d. d.name) ds) ≡ true →
      (x : ℕ) (d : Declaration) → slice_get ds x ≡ Some d →
      numbers_from P here m ds d.name
      ≡ range_with_len (m + sum_of (take x (map (width P here) ds))) (width P here d)
  numbered_at m [] apart x d e = absurd cc
  numbered_at m (c ∷ ds) apart zero d e =
      let same : c ≡ d = same_Some c d e in
      let start : m ≡ m + 0 = omega arith in
      subst (λ z. numbers_from P here m (c ∷ ds) z.name ≡ range_with_len (m + 0) (width P here z))
      same
      (numbers_first P here m c ds ∙ ap (λ n. range_with_len n (width P here c)) start)
  numbered_at m (c ∷ ds) apart (suc x) d e =
      let w = width P here c in
      let ws = take x (map (width P here) ds) in
      let differs = Every-at (λ (z : Declaration). bytes_eq c.name z.name ≡ false) ds d
      (others P here c ds apart) (in_at ds x d e) in
      let start : (m + w) + sum_of ws ≡ m + sum_of (w ∷ ws) =
      let more = sum_cons w ws in omega (arith, more) in
      numbers_later P here m c ds d.name differs
      ∙ (numbered_at (m + w) ds (distinct_rest P here c ds apart) x d e
      ∙ ap (λ n. range_with_len n (width P here d)) start)

-- ## Where an instance starts

module _ (P : Program) where
  found_place :
      (n : ℕ) (is : List Instance) (k : ℕ) (here : Instance) → Every (IsAt P) is → AreApart is →
      slice_get is k ≡ Some here →
      found_from P n is here.path
      ≡ Some (n + length (flat_map (instance_elements P) (take k is)), here)
  found_place n [] k here at apart e = absurd cc
  found_place n (c ∷ is) zero here at apart e =
      let same : c ≡ here = same_Some c here e in
      let start : n ≡ n + 0 = omega arith in
      subst (λ z. found_from P n (c ∷ is) z.path ≡ Some (n + 0, z)) same
      (found_first P n c is ∙ ap (λ m. Some (m, c)) start)
  found_place n (c ∷ is) (suc k) here at apart e =
      let own = instance_elements P c in
      let rest = flat_map (instance_elements P) (take k is) in
      let start : (n + length own) + length rest ≡ n + length (own ++ rest) =
      let more = length-append own rest in omega (arith, more) in
      found_later P n c is here.path differs
      ∙ (found_place (n + length own) is k here at.1 apart.1 e
      ∙ ap (λ m. Some (m, here)) start)
    where
      differs : is_path c.path here.path ≡ false
      differs =
          false_from_ne_true (is_path c.path here.path) (λ p.
          let path = same_path c.path here.path p in
          let there = in_at is k here e in
          let equal = same_instance P c here at.0 (Every-at (IsAt P) is here at.1 there) path in
          apart.0 (subst (λ z. In z is) (sym equal) there))

  -- the first `k` rows have as many elements as the first `k` instances
  counted_rows :
      (f : row.Instance → List ℕ) (rows : List row.Instance) (is : List Instance) →
      length rows ≡ length is →
      ((j : ℕ) (i : row.Instance) (here : Instance) → slice_get rows j ≡ Some i →
      slice_get is j ≡ Some here → sum_of (f i) ≡ length (instance_elements P here)) →
      (k : ℕ) →
      sum_of (flat_map f (take k rows)) ≡ length (flat_map (instance_elements P) (take k is))
  counted_rows f rows is long same zero = refl
  counted_rows f [] [] long same (suc k) = refl
  counted_rows f [] (c ∷ is) long same (suc k) = absurd (omega (arith, long))
  counted_rows f (i ∷ rows) [] long same (suc k) = absurd (omega (arith, long))
  counted_rows f (i ∷ rows) (c ∷ is) long same (suc k) =
      sum_append (f i) (flat_map f (take k rows))
      ∙ (ap₂ (λ m n. m + n) (same 0 i c refl refl)
      (counted_rows f rows is (omega (arith, long))
      (λ j l here p q. same (suc j) l here p q) k)
      ∙ sym (length-append (instance_elements P c)
      (flat_map (instance_elements P) (take k is))))

-- ## Rows

module _ (P : Program) (r : Reached) (t : Table) (reached : IsReached P r)
    (table : IsTable P r t) where
  -- the widths of a specialization are the widths of its instance, at any path
  specialized_widths :
      (p : Path) (s : Specialization) (n : ResolvedNode) → IsSpecialized P r t s →
      slice_get r.nodes.items s.node.0 ≡ Some n →
      map (declared_width s.statics.items) n.variables.items
      ≡ map (width P (instance_of p (node_of n) s.values.items)) (variables (node_of n))
  specialized_widths p s n sp at =
      let m = node_at P r t reached table s sp in
      let resolved = subst (IsResolved (source_names P)) (same_Some m.0 n (sym m.1 ∙ at)) m.2 in
      rw (← resolved.declared) (declared_widths P (instance_of p (node_of n) s.values.items) _ _ _
      (values_at P r t reached table s sp n p at) _ _
      (resolved.as_many ∙ ap length (sym resolved.declared)))

  -- the widths of a row are the widths of the variables of its instance
  pub row_widths_are :
      (k : ℕ) (i : row.Instance) (here : Instance) → IsRow P r t table k i here →
      widths_in r t i ≡ map (width P here) (variables here.node)
  row_widths_are k i here is =
      let s = is.specialization in
      cc (specialized_widths here.path s is.node (table.specialized i.specialization.0 s
      is.specialized).0 is.resolved)

  -- a row has as many variables as its instance, with the same names
  pub row_variables :
      (k : ℕ) (i : row.Instance) (here : Instance) (is : IsRow P r t table k i here) →
      (length is.node.variables.items ≡ length (variables here.node))
      × (variable_names (node_of is.node) ≡ variable_names here.node)
  row_variables k i here is =
      let sp = table.specialized i.specialization.0 is.specialization is.specialized in
      let m = node_at P r t reached table is.specialization sp.0 in
      let resolved = subst (IsResolved (source_names P))
      (same_Some m.0 is.node (sym m.1 ∙ is.resolved)) m.2 in
      let same = ap (λ (c : Instance). c.node) is.same in (
        resolved.as_many ∙ ap (λ n. length (variables n)) (sym same),
        ap variable_names (sym same),
      )

  -- as many elements stand before a row as before its instance
  pub first_is :
      (k : ℕ) →
      first_of_row r t k ≡ length (flat_map (instance_elements P) (take k (instances P)))
  first_is k =
      counted_rows P (widths_in r t) _ _ (rows_many P r t table)
      (λ j i here e f. one j i here e f) k
    where
      one : (j : ℕ) (i : row.Instance) (here : Instance) →
          slice_get t.instances.items j ≡ Some i → slice_get (instances P) j ≡ Some here →
          sum_of (widths_in r t i) ≡ length (instance_elements P here)
      one j i here e f =
          let shown = row_shown P r t table j i e in
          let same = same_Some shown.0 here (sym shown.1.instance_is ∙ f) in
          let is = subst (IsRow P r t table j i) same shown.1 in
          cc (row_widths_are j i here is, elements_wide P here (variables here.node))

  module _ (accepted : static_refusal P ≡ None) where
    -- the numbers that are counted for variable `x` of a row are the numbers of its elements
    pub row_numbers_of :
        (k : ℕ) (i : row.Instance) (here : Instance) → IsRow P r t table k i here →
        (x : VariableId) (d : Declaration) → slice_get (variables here.node) x.0 ≡ Some d →
        row_numbers r t k x ≡ numbers_of P here.path d.name
    row_numbers_of k i here is x d e =
        let ws = map (width P here) (variables here.node) in
        let wide = ap (listed (widths_in r t)) is.row_is ∙ row_widths_are k i here is in
        let start = length (flat_map (instance_elements P) (take k (instances P))) in
        let zero_first : 0 + start ≡ start = omega arith in
        let found : found_from P 0 (instances P) here.path ≡ Some (start, here) =
        found_place P 0 (instances P) k here (all_at P) (instances_apart P) is.instance_is
        ∙ ap (λ m. Some (m, here)) zero_first in
        let apart = Every-at (λ (c : Instance). are_distinct (variable_names c.node) ≡ true)
        (instances P) here (variables_distinct P accepted)
        (in_at (instances P) k here is.instance_is) in
        let own = numbers_at P start here d.name found
        ∙ numbered_at P here start (variables here.node) apart x.0 d e in
        let last : get_or ws x.0 0 ≡ width P here d =
        get_or_from_slice_get ws x.0 (width P here d) 0
        (get_mapped (width P here) (variables here.node) x.0 d e) in
        ap₂ range_with_len
        (ap₂ (λ m n. m + n) (first_is k) (ap (λ vs. sum_of (take x.0 vs)) wide))
        (ap (λ vs. get_or vs x.0 0) wide ∙ last)
        ∙ sym own

    -- number `x` of a resolved node is a variable of the instance, with its name
    pub record IsVariable (here : Instance) (m : ResolvedNode) (x : VariableId) : Type 0 where
      pub declaration : Declaration
      pub stands : slice_get (variables here.node) x.0 ≡ Some declaration
      pub named : name_in m x ≡ declaration.name

    -- each number of a variable of a resolved node has its variable
    pub variable_there :
        (here : Instance) (m : ResolvedNode) (x : VariableId) →
        length m.variables.items ≡ length (variables (node_of m)) → here.node ≡ node_of m →
        is_variable (counts_of m) x ≡ true → IsVariable here m x
    variable_there here m x many same within =
        let long = many ∙ ap (λ n. length (variables n)) (sym same) in
        let lower = ltb-true x.0 (length m.variables.items) within in
        let d = item_at (variables here.node) x.0 (omega (arith, long, lower)) in
        record {
          declaration = d.0;
          stands = d.1;
          named = cc (get_name (variables here.node) x.0 d.0 d.1);
        }

    -- the numbers counted for a variable are those of its elements, where `m` resolves the node
    pub row_numbers_are :
        (k : ℕ) (i : row.Instance) (here : Instance) → IsRow P r t table k i here →
        (m : ResolvedNode) → length m.variables.items ≡ length (variables (node_of m)) →
        here.node ≡ node_of m → (x : VariableId) → is_variable (counts_of m) x ≡ true →
        row_numbers r t k x ≡ numbers_of P here.path (name_in m x)
    row_numbers_are k i here is m many same x within =
        let v = variable_there here m x many same within in
        cc (row_numbers_of k i here is x v.declaration v.stands, v.named)

    -- the numbers that are counted for a variable of the row's own node are those of its elements
    pub own_numbers_are :
        (k : ℕ) (i : row.Instance) (here : Instance) (is : IsRow P r t table k i here) →
        (x : VariableId) → is_variable (counts_of is.node) x ≡ true →
        row_numbers r t k x ≡ numbers_of P here.path (name_in is.node x)
    own_numbers_are k i here is x within =
        let v = row_variables k i here is in
        let same = ap (λ (c : Instance). c.node) is.same in
        row_numbers_are k i here is is.node
        (v.0 ∙ ap (λ n. length (variables n)) same) same x within

-- The number of variables before a row, as a layout holds it: it grows by the variables of each
-- row's instance, and is at most the number of elements.

-- ## Lists of pieces

module _ {A : Type 0} (f : A → List ℕ) where
  -- the pieces of the first k + 1 items are longer by the piece of item k
  pub piece_long :
      (xs : List A) (k : ℕ) (x : A) → slice_get xs k ≡ Some x →
      length (flat_map f (take (k + 1) xs)) ≡ length (flat_map f (take k xs)) + length (f x)
  piece_long xs k x at =
      let done = flat_map f (take k xs) in
      let same : get_or xs k x ≡ x = get_or_from_slice_get xs k x x at in
      ap (λ l. length (flat_map f l)) (take_more xs k x (slice_get_within xs k x at))
      ∙ ap length (flat_map-append f (take k xs) (get_or xs k x ∷ []))
      ∙ ap (λ y. length (done ++ (f y ++ []))) same
      ∙ ap (λ l. length (done ++ l)) (append-nil (f x))
      ∙ length-append done (f x)

  -- if no piece is longer than its sum, the first k pieces are no longer than the whole sum
  pub pieces_narrow :
      (xs : List A) →
      ((j : ℕ) (x : A) → slice_get xs j ≡ Some x → length (f x) ≤ sum_of (f x)) → (k : ℕ) →
      length (flat_map f (take k xs)) ≤ sum_of (flat_map f xs)
  pieces_narrow xs narrow zero = omega arith
  pieces_narrow [] narrow (suc k) = omega arith
  pieces_narrow (x ∷ xs) narrow (suc k) =
      let rest = pieces_narrow xs (λ j y e. narrow (suc j) y e) k in
      let first = narrow 0 x refl in
      let long = length-append (f x) (flat_map f (take k xs)) in
      let sums = sum_by-append (λ n. n) (f x) (flat_map f xs) in
      omega (arith, rest, first, long, sums)

some_wide :
    (w : Declaration → ℕ) (ds : List Declaration) → Every (λ d. 0 < w d) ds →
    length (map w ds) ≤ sum_of (map w ds)
some_wide w [] h = omega arith
some_wide w (d ∷ ds) h =
    let rest = some_wide w ds h.1 in
    let first = h.0 in
    let sums = sum_by-cons (λ n. n) (w d) (map w ds) in
    omega (arith, rest, first, sums)

-- ## Rows

module _ (P : Program) (r : Reached) (t : Table) (reached : IsReached P r)
    (table : IsTable P r t) (accepted : static_refusal P ≡ None) where
  -- a row has as many variables as its instance
  pub row_long :
      (k : ℕ) (i : row.Instance) (here : Instance) → IsRow P r t table k i here →
      length (widths_in r t i) ≡ length (variables here.node)
  row_long k i here is =
      ap length (row_widths_are P r t reached table k i here is)
      ∙ length-map (variables here.node) (width P here)

  pub row_narrow :
      (k : ℕ) (i : row.Instance) → slice_get t.instances.items k ≡ Some i →
      length (widths_in r t i) ≤ sum_of (widths_in r t i)
  row_narrow k i at =
      let s = row_shown P r t table k i at in
      let here = s.0 in
      let stands = in_at (instances P) k here s.1.instance_is in
      let some = Every-from (λ d. 0 < width P here d) (variables here.node)
      (λ d on. width_positive P accepted here stands d on) in
      rw (row_widths_are P r t reached table k i here s.1) (some_wide (width P here) (variables
      here.node) some)

  module _ (held_variables : List ℕ)
      (kept : (j : ℕ) → j ≤ length t.instances.items →
      get_or held_variables j 0 ≡ variables_before r t j) where
    -- the variables before row k + 1 are those before row k and those of row k
    pub next_before :
        (k : ℕ) (i : row.Instance) (here : Instance) → IsRow P r t table k i here →
        get_or held_variables (k + 1) 0
        ≡ get_or held_variables k 0 + length (variables here.node)
    next_before k i here is =
        let within = slice_get_within t.instances.items k i is.row_is in
        let next = kept (k + 1) (omega (arith, within)) in
        let own = kept k (omega (arith, within)) in
        let piece = piece_long (widths_in r t) t.instances.items k i is.row_is in
        let long = row_long k i here is in
        omega (arith, next, own, piece, long)

    -- the number of variables held for a row is that of its instance
    pub row_count :
        (k : ℕ) (i : row.Instance) (here : Instance) → IsRow P r t table k i here →
        count_at held_variables k ≡ length (variables here.node)
    row_count k i here is = let next = next_before k i here is in omega (arith, next)

    pub count_next :
        (k : ℕ) → k < length t.instances.items →
        get_or held_variables (k + 1) 0
        ≡ get_or held_variables k 0 + count_at held_variables k
    count_next k lt =
        let i = item_at t.instances.items k lt in
        let s = row_shown P r t table k i.0 i.1 in
        let next = next_before k i.0 s.0 s.1 in
        let own = row_count k i.0 s.0 s.1 in
        omega (arith, next, own)

    -- no more variables stand before an earlier row than before a later one
    pub before_later :
        (j k : ℕ) → j ≤ k → k ≤ length t.instances.items →
        get_or held_variables j 0 ≤ get_or held_variables k 0
    before_later j k le within = by (k - j) k (omega (arith, le)) within
      where
        by : (d k : ℕ) → j + d ≡ k → k ≤ length t.instances.items →
            get_or held_variables j 0 ≤ get_or held_variables k 0
        by zero k e within =
            let same : j ≡ k = omega (arith, e) in
            subst (λ m. get_or held_variables j 0 ≤ get_or held_variables m 0) same (omega arith)
        by (suc d) k e within =
            let up = by d (j + d) refl (omega (arith, e, within)) in
            let next = count_next (j + d) (omega (arith, e, within)) in
            let same : (j + d) + 1 ≡ k = omega (arith, e) in
            rw (← same) (omega (arith, up, next))
