-- Each element of the expansion of an accepted program has exactly one equation.
use Rattle.lb_expand.proofs.Words
use Words.{Assertion, Bool, DataType, Declaration, Equation, Every, Every-all, Every-append}
use Words.{Every-at, Every-both, Every-first, Every-from, Every-map, Every-second, FlatEquation}
use Words.{History, IfSome, In, Instance, IsEntered, IsGiven, Layout, List, Name, Node, None}
use Words.{Observer, Option, Path, Program, Root, Some, State, Statement, Target, [], all_entered}
use Words.{all_some, among, and_first, and_second, any_in, ap, ap₂, are_distinct, arith}
use Words.{before_instances, bound, bytes_eq, bytes_eq-Decides, check_refusal, children}
use Words.{clock_reads, column, columns_at, cond, count_by, data_types, declared_clock}
use Words.{emit_instances, eqb-true, equation_reads, expanded, false, find_in, flat_clock, flat_map}
use Words.{found_name, from_inputs, given_inputs, history_of, holds, in_either, in_map, inl, inr}
use Words.{instance_at, instances, instantiation_kept, is_root, is_statement_typed, is_typed, keeps}
use Words.{kept, layout, left_names, length, length-map, level, list_all, listed, map, map-append}
use Words.{map_in, named, nat_eq, not, observed, observed_places, path_is, program_elements}
use Words.{range_with_len, reads, refl, second_none, statements_typed, static_refusal, subst, suc}
use Words.{sum_by-cons, sym, targets, true, type_of_name, unless, variable_names, variables}
use Words.{variables_distinct, width, zero, ℕ, ◌++◌, ◌+◌, ◌<◌, ◌∙◌, ◌∷◌, ◌≡◌, ◌≤◌, ◌⊎◌}
use Rattle.lb_check.proofs.lists.Members.{Every-piece, Every-tested, flat_same}
use Rattle.lb_check.proofs.programs.{AcceptedElements.numbers_walk, SameHistories.deeper}
use Rattle.lb_check.specs.{ClockRules.is_clocked, DefinitionRules.{defines_once, definition_count}}
use Rattle.{lb_check.specs.DefinitionRules.is_defined, lb_expand.proofs.copies.GivenCalls.IsReady}
use Rattle.lb_expand.proofs.copies.GivenCalls.{element_numbers, given-append, given_in, in_inputs}
use Rattle.lb_expand.proofs.copies.GivenCalls.{in_instance, in_names, instances_added}
use Rattle.lb_expand.proofs.copies.GivenCalls.{received_gives, target_places}
use Rattle.lb_expand.proofs.lists.Lists.{in_named, is_name, map-pieces, named_in, of_times}
use Rattle.lb_expand.proofs.lists.Lists.{once_apart, range_high, range_low, range_once, same_sums}
use Rattle.lb_expand.proofs.lists.Lists.{times, times_of, total, total-append, total-map}
use Rattle.lb_expand.proofs.lists.Lists.{total-pieces, total-plus, total-same}
use Rattle.lb_expand.proofs.numbering.NumberedPlaces.{columns_wide, is_laid_out, places_width}
use Rattle.lb_expand.proofs.solutions.{Closing.Closed, Filling.Fresh, Placing.AreAsWide}
use Rattle.lb_expand.proofs.solutions.{Solving.start_closed, Watching.all_places}
use Rattle.lb_expand.proofs.widths.{PlacedCalls.body_wide, PropertyOutput.rooted}
use Rattle.lb_expand.proofs.widths.SoundInstances.{calls_wide, occurrences_at}
use Rattle.lb_expand.{proofs.widths.TypeFacts.{both_there, each}, specs.Emit.input_targets}
use Rattle.{lb_static.specs.Instances.instances_from, lb_syntax.specs.Refusals.{E10, E11, E9}}

-- Every instance is a start or is called by exactly one instance. So the sum over all instances is
-- the sum over the starts, plus the sum over the instances that each instance calls.

module _ (P : Program) where
  abbrev Low : Instance → Type 0
  Low c = level P c.path ≤ 64

  -- if all instances are low, n levels find the same instances as n + 1 levels
  enough : (n : ℕ) (here : Instance) → level P here.path + n ≡ 65 →
      Every Low (instances_from P (suc n) here) →
      instances_from P (suc n) here ≡ instances_from P n here
  enough zero here e h = let top = h.0 in absurd (omega (arith, e, top))
  enough (suc n) here e h =
      let each = Every-piece Low (instances_from P (suc n)) (children P here) h.1 in
      ap (λ cs. here ∷ cs)
      (flat_same (instances_from P (suc n)) (instances_from P n) (children P here)
      (Every-map _ _ (λ c z. enough n c (below (level P here.path) (level P c.path) e z.0) z.1)
      (children P here) (Every-both _ _ (children P here) (deeper P here) each)))
    where
      below : (l m : ℕ) → l + suc n ≡ 65 → m ≡ suc l → m + n ≡ 65
      below l m e is = omega (arith, e, is)

  module _ (f : Instance → ℕ) where
    abbrev of_children : Instance → ℕ
    of_children c = total f (children P c)

    deeper_sums : (n : ℕ) (cs : List Instance) →
        Every (λ c. total f (instances_from P (suc n) c)
        ≡ f c + total of_children (instances_from P n c)) cs →
        total f (flat_map (instances_from P (suc n)) cs)
        ≡ total f cs + total of_children (flat_map (instances_from P n) cs)
    deeper_sums n cs h =
        total-pieces f (instances_from P (suc n)) cs
        ∙ (total-same (λ c. total f (instances_from P (suc n) c))
        (λ c. f c + total of_children (instances_from P n c)) cs h
        ∙ (total-plus f (λ c. total of_children (instances_from P n c)) cs
        ∙ ap (λ m. total f cs + m)
        (sym (total-pieces of_children (instances_from P n) cs))))

    no_sum : (cs : List Instance) → total f (flat_map (instances_from P 0) cs) ≡ 0
    no_sum [] = refl
    no_sum (c ∷ cs) = no_sum cs

    from_sum : (n : ℕ) (here : Instance) →
        total f (instances_from P (suc n) here)
        ≡ f here + total of_children (instances_from P n here)
    from_sum zero here = ap (λ m. f here + m) (no_sum (children P here))
    from_sum (suc n) here =
        ap (λ m. f here + m)
        (deeper_sums n (children P here) (Every-all _ (from_sum n) (children P here)))

    regrouped : (a b : ℕ) → a + b ≡ (a + 0) + b
    regrouped a b = omega arith

    crossed : (a b c d : ℕ) → (a + b) + (c + d) ≡ a + (c + (b + d))
    crossed a b c d = omega arith

    start_sum :
        (o : Option Instance) → ((c : Instance) → o ≡ Some c → level P c.path ≡ 1) →
        Every Low (listed (instances_from P 65) o) →
        total f (listed (instances_from P 65) o)
        ≡ total f (listed (λ c. c ∷ []) o) + total of_children (listed (instances_from P 65) o)
    start_sum None top h = refl
    start_sum (Some c) top h =
        (from_sum 64 c ∙ ap (λ cs. f c + total of_children cs) (sym (enough 64 c (deep (top c refl))
        h)))
        ∙ regrouped (f c) (total of_children (instances_from P 65 c))
      where
        deep : level P c.path ≡ 1 → level P c.path + 64 ≡ 65
        deep e = omega (arith, e)

    -- the sum over all instances
    pub instances_sum :
        Every Low (instances P) →
        total f (instances P)
        ≡ total f (listed (λ c. c ∷ []) (instance_at P Root))
        + (total f (listed (λ c. c ∷ []) (instance_at P Observer))
        + total of_children (instances P))
    instances_sum h =
        let of_root = listed (instances_from P 65) (instance_at P Root) in
        let of_observer = listed (instances_from P 65) (instance_at P Observer) in
        let root = start_sum (instance_at P Root)
        (λ c e. ap (level P) (path_is P Root c e)) (Every-first Low of_root of_observer h) in
        let observer = start_sum (instance_at P Observer)
        (λ c e. ap (level P) (path_is P Observer c e)) (Every-second Low of_root of_observer h) in
        total-append f of_root of_observer
        ∙ (ap₂ (λ a b. a + b) root observer
        ∙ (crossed (total f (listed (λ c. c ∷ []) (instance_at P Root)))
        (total of_children of_root) (total f (listed (λ c. c ∷ []) (instance_at P Observer)))
        (total of_children of_observer)
        ∙ ap (λ m. total f (listed (λ c. c ∷ []) (instance_at P Root))
        + (total f (listed (λ c. c ∷ []) (instance_at P Observer)) + m))
        (sym (total-append of_children of_root of_observer))))

-- In a node that defines each output and local once, and no input, the left variables are its
-- outputs and locals, each once.

-- ## The count of a name in a list

count_is : (x : Name) (ys : List Name) → count_by (bytes_eq x) ys ≡ total (is_name x) ys
count_is x [] = refl
count_is x (y ∷ ys) =
    sum_by-cons (λ z. cond (bytes_eq x z) 1 0) y ys ∙ ap (λ a. is_name x y + a) (count_is x ys)

none_of : (n : ℕ) → (1 ≤ n → ⊥) → n ≡ 0
none_of zero f = refl
none_of (suc n) f = absurd (f (omega arith))

absent : (x : Name) (ys : List Name) → (In x ys → ⊥) → total (is_name x) ys ≡ 0
absent x ys f = none_of (total (is_name x) ys) (λ le. f (named_in x ys le))

not_both : (b : Bool) → not b ≡ true → b ≡ true → ⊥
not_both true p q = absurd cc
not_both false p q = absurd cc

-- a name stands at most once in a list of distinct names
distinct_once : (x : Name) (ys : List Name) → are_distinct ys ≡ true → total (is_name x) ys ≤ 1
distinct_once x [] e = omega arith
distinct_once x (y ∷ ys) e = by (bytes_eq x y) refl (distinct_once x ys (and_second _ _ e))
  where
    by : (b : Bool) → bytes_eq x y ≡ b → total (is_name x) ys ≤ 1 →
        cond b 1 0 + total (is_name x) ys ≤ 1
    by true is le =
        let same = (bytes_eq-Decides x y).0 is in
        let none = absent x ys (λ i.
        not_both (among y ys) (and_first (not (among y ys)) _ e)
        (any_in (bytes_eq y) ys x i ((bytes_eq-Decides y x).1 (sym same)))) in
        omega (arith, none)
    by false is le = omega (arith, le)

-- ## Left variables

module _ (P : Program) (here : Instance) where
  known : (x : Name) (t : DataType) → type_of_name P here x ≡ Some t →
      In x (variable_names here.node)
  known x t e =
      let ds = variables here.node in
      let b = bound (named (λ d. d.name) x ds) _ t e in
      subst (λ y. In y (variable_names here.node)) (found_name x ds b.value b.is)
      (in_map (λ d. d.name) ds b.value (find_in (λ d. bytes_eq d.name x) ds b.value b.is))

  all_known : (xs : List Name) (ts : List DataType) →
      all_some (map (type_of_name P here) xs) ≡ Some ts → (x : Name) → In x xs →
      In x (variable_names here.node)
  all_known [] ts e x i = absurd i
  all_known (y ∷ xs) ts e x (inl same) =
      let h = each (type_of_name P here y) (map (type_of_name P here) xs) ts e in
      subst (λ z. In z (variable_names here.node)) same (known y h.first h.is)
  all_known (y ∷ xs) ts e x (inr i) =
      let h = each (type_of_name P here y) (map (type_of_name P here) xs) ts e in
      all_known xs h.rest h.others x i

  -- the left variables of typed statements are variables
  pub lefts_known :
      (body : List Statement) → list_all (is_statement_typed P here) body ≡ true → (x : Name) →
      In x (flat_map left_names body) → In x (variable_names here.node)
  lefts_known [] e x i = absurd i
  lefts_known (Assertion a ∷ rest) e x i =
      lefts_known rest (and_second (is_statement_typed P here (Assertion a)) _ e) x i
  lefts_known (Equation lefts a ∷ rest) e x i =
      by (in_either x lefts (flat_map left_names rest) i)
      (lefts_known rest (and_second (is_statement_typed P here (Equation lefts a)) _ e) x)
    where
      by : In x lefts ⊎ In x (flat_map left_names rest) →
          (In x (flat_map left_names rest) → In x (variable_names here.node)) →
          In x (variable_names here.node)
      by (inl j) later =
          let t = both_there P (data_types P here a) (all_some (map (type_of_name P here) lefts))
          (and_first (is_statement_typed P here (Equation lefts a)) _ e) in
          all_known lefts t.left t.is_left x j
      by (inr j) later = later j

module _ (n : Node) (distinct : are_distinct (variable_names n) ≡ true)
    (once : defines_once n ≡ true)
    (variable : (x : Name) → In x (flat_map left_names n.body) → In x (variable_names n)) where
  abbrev lefts : List Name
  lefts = flat_map left_names n.body

  abbrev ins : List Name
  ins = map (λ d. d.name) n.inputs

  abbrev inner : List Name
  inner = map (λ d. d.name) (n.outputs ++ n.locals)

  split : (x : Name) →
      total (is_name x) (variable_names n) ≡ total (is_name x) ins + total (is_name x) inner
  split x =
      ap (total (is_name x)) (map-append (λ d. d.name) n.inputs (n.outputs ++ n.locals))
      ∙ total-append (is_name x) ins inner

  defined : (x : Name) (m : ℕ) (ds : List Declaration) →
      list_all (λ d. nat_eq (definition_count n d.name) m) ds ≡ true →
      In x (map (λ d. d.name) ds) → total (is_name x) lefts ≡ m
  defined x m ds all i =
      let d = map_in (λ d. d.name) ds x i in
      let test = Every-at (λ d. nat_eq (definition_count n d.name) m ≡ true) ds d.0
      (Every-tested (λ d. nat_eq (definition_count n d.name) m) ds all) d.1 in
      let count = eqb-true (definition_count n d.0.name) m test in
      subst (λ y. total (is_name y) lefts ≡ m) d.2 (sym (count_is d.0.name lefts) ∙ count)

  -- the left variables are the outputs and locals, each once
  pub lefts_same : (x : Name) → total (is_name x) lefts ≡ total (is_name x) inner
  lefts_same x = by (total (is_name x) inner) refl
    where
      by : (m : ℕ) → total (is_name x) inner ≡ m → total (is_name x) lefts ≡ m
      by zero e = none_of (total (is_name x) lefts) (λ le.
          let there = in_named x (variable_names n) (variable x (named_in x lefts le)) in
          let parts = split x in
          let input = named_in x ins (omega (arith, there, parts, e)) in
          let none = defined x 0 n.inputs
          (and_second (list_all (λ d. nat_eq (definition_count n d.name) 1) (n.outputs ++ n.locals))
          _ once) input in
          absurd (omega (arith, none, le)))
      by (suc m) e =
          let one = defined x 1 (n.outputs ++ n.locals)
          (and_first (list_all (λ d. nat_eq (definition_count n d.name) 1) (n.outputs ++ n.locals))
          _ once) (named_in x inner (omega (arith, e))) in
          omega (arith, one, distinct_once x (variable_names n) distinct, split x, e)

-- Each element of the expansion of an accepted program whose rules hold has exactly one equation,
-- and the equation of a temporary reads only lower elements.

-- ## Temporaries

fresh_numbers :
    (n : ℕ) (qs : List FlatEquation) → Fresh n qs →
    element_numbers qs ≡ range_with_len n (length qs)
fresh_numbers n [] h = refl
fresh_numbers n (q ∷ qs) h =
    let next : suc n ≡ n + 1 = omega arith in
    ap₂ (λ i is. i ∷ is) h.0.element
    (fresh_numbers (suc n) qs h.1 ∙ ap (λ m. range_with_len m (length qs)) next)

-- the equation of a temporary reads only elements below its own
abbrev ReadsLower : ℕ → FlatEquation → Type 0
ReadsLower V q = V ≤ q.element → Every (λ i. i < q.element) (equation_reads q)

fresh_lower : (V n : ℕ) (qs : List FlatEquation) → Fresh n qs → Every (ReadsLower V) qs
fresh_lower V n [] h = tt
fresh_lower V n (q ∷ qs) h = (
  λ le.
      let below = λ (i : ℕ). i < n in
      let of_clock = Every-first below (clock_reads q.clock)
      (reads q.operation ++ keeps q.operation) h.0.names_below in
      let others = Every-second below (clock_reads q.clock)
      (reads q.operation ++ keeps q.operation) h.0.names_below in
      let of_reads = Every-first below (reads q.operation) (keeps q.operation) others in
      subst (λ m. Every (λ i. i < m) (equation_reads q)) (sym h.0.element)
      (Every-append below (reads q.operation) (clock_reads q.clock) of_reads of_clock),
  fresh_lower V (suc n) qs h.1,
)

-- a number stands `n` times, which is at most once, and once where it is below `all`
record IsOnce (i all n : ℕ) : Type 0 where
  most : n ≤ 1
  least : i < all → 1 ≤ n

-- two ranges, one after the other, give a number at most once, and each number in them once
once_each :
    (i count others n : ℕ) →
    n ≡ times i (range_with_len 0 count) + times i (range_with_len count others) →
    IsOnce i (count + others) n
once_each i count others n e = record {
  most = grind (arith, e, range_once, range_low, range_high);
  least = λ lt. grind (arith, e, lt, range_once);
}

-- ## Targets

input_places :
    (j : ℕ) (ts : List Target) → element_numbers (from_inputs j ts) ≡ map (λ t. t.place) ts
input_places j [] = refl
input_places j (t ∷ ts) = ap (λ is. t.place ∷ is) (input_places (suc j) ts)

each_count :
    {A B C : Type 0} (f : A → List B) (g : A → List C) →
    ((a : A) → length (f a) ≡ length (g a)) → (xs : List A) →
    map length (map f xs) ≡ map length (map g xs)
each_count f g e [] = refl
each_count f g e (x ∷ xs) = ap₂ (λ a b. a ∷ b) (e x) (each_count f g e xs)

-- ## Variables of an instance

module _ (Y : Layout) (i : ℕ) (here : Instance) where
  abbrev inner_declarations : List Declaration
  inner_declarations = here.node.outputs ++ here.node.locals

  abbrev inner_names : List Name
  inner_names = map (λ d. d.name) inner_declarations

  abbrev one : ℕ → ℕ
  one j = cond (nat_eq i j) 1 0

  abbrev in_variables : ℕ
  in_variables = times i (flat_map (λ d. Y.places here.path d.name) (variables here.node))

  names_are : (xs : List Name) →
      in_names Y i here xs ≡ total (λ x. total one (Y.places here.path x)) xs
  names_are xs = total-pieces one (Y.places here.path) xs

  -- the elements of variables are the elements of inputs and of the other variables
  variables_are : in_variables ≡ in_inputs Y i here + in_names Y i here inner_names
  variables_are =
      let own = λ (d : Declaration). Y.places here.path d.name in
      let inputs = here.node.inputs in
      total-pieces one own (inputs ++ inner_declarations)
      ∙ (total-append (λ d. total one (own d)) inputs inner_declarations
      ∙ ap₂ (λ a b. a + b) (sym (total-pieces one own inputs))
      (sym (total-map (λ x. total one (Y.places here.path x)) (λ d. d.name) inner_declarations)
      ∙ sym (names_are inner_names)))

  -- the elements of left variables are the elements of the variables that are no inputs
  lefts_are :
      are_distinct (variable_names here.node) ≡ true → defines_once here.node ≡ true →
      ((x : Name) → In x (flat_map left_names here.node.body) → In x (variable_names here.node)) →
      in_names Y i here (flat_map left_names here.node.body) ≡ in_names Y i here inner_names
  lefts_are distinct once known =
      let lefts = flat_map left_names here.node.body in
      names_are lefts
      ∙ (same_sums lefts inner_names (lefts_same here.node distinct once known)
      (λ x. total one (Y.places here.path x))
      ∙ sym (names_are inner_names))

-- ## Accepted programs whose rules hold

module _ (P : Program) (accepted : static_refusal P ≡ None) (checked : check_refusal P ≡ None)
    (observer_wide :
    IfSome (instance_at P Root) (λ root. IfSome (instance_at P Observer) (λ observer.
    AreAsWide (history_of (layout P) [] []) Observer observer.node.inputs
    (columns_at (history_of (layout P) [] []) Root (root.node.inputs ++ root.node.outputs))))) where
  abbrev Y : Layout
  Y = layout P

  abbrev count : ℕ
  count = length (program_elements P)

  abbrev H : History
  H = history_of (layout P) [] []

  same : (p : Path) (x : Name) → length (Y.places p x) ≡ length (H.columns p x)
  same p x = sym (length-map (Y.places p x) (column [] []))

  wide :
      (here : Instance) → In here (instances P) →
      Every (λ d. length (H.columns here.path d.name) ≡ width P here d) (variables here.node)
  wide here j =
      columns_wide (layout P) [] [] here.path (width P here) (variables here.node)
      (places_width P accepted here j)

  all_defined : Every (λ here. is_defined P here.node ≡ true) (instances P)
  all_defined =
      let clocks = second_none (unless (list_all (is_typed P) (instances P)) E9) _ checked in
      let rest = second_none
      (unless (list_all (λ here. is_clocked P here.node) (instances P)) E10) _ clocks in
      Every-tested (λ here. is_defined P here.node) (instances P)
      (kept (list_all (λ here. is_defined P here.node) (instances P)) E11 rest)

  low : Every (λ c. level P c.path ≤ 64) (instances P)
  low = Every-map (IsEntered P) _ (λ c h. h.0) (instances P)
      (all_entered P 0 (instances P) (instantiation_kept P accepted))

  module _ (i : ℕ) where
    ready : Every (IsReady Y P H same i) (instances P)
    ready =
        Every-from (IsReady Y P H same i) (instances P) (λ here j.
        let of_calls = calls_wide P accepted H wide here j in
        let typed = statements_typed P checked here j in
        record {
          variables = wide here j;
          wide = body_wide P H here (wide here j) 0 here.node.body typed of_calls;
          typed = occurrences_at P accepted checked H here j of_calls;
        })

    -- ## Sums over instances

    abbrev of_calls : Instance → ℕ
    of_calls here = total (in_inputs Y i) (children P here)

    abbrev of_inner : Instance → ℕ
    of_inner here = in_names Y i here (inner_names Y i here)

    instance_is : (here : Instance) → In here (instances P) →
        in_instance Y P i here ≡ of_calls here + of_inner here
    instance_is here j =
        ap (λ m. of_calls here + m)
        (lefts_are Y i here
        (Every-at (λ c. are_distinct (variable_names c.node) ≡ true) (instances P) here
        (variables_distinct P accepted) j)
        (and_first (defines_once here.node) _
        (Every-at (λ here. is_defined P here.node ≡ true) (instances P) here all_defined j))
        (lefts_known P here here.node.body (statements_typed P checked here j)))

    abbrev starts : Option Instance → ℕ
    starts o = total (in_inputs Y i) (listed (λ c. c ∷ []) o)

    sums_regrouped : (a b c d : ℕ) → (a + (b + c)) + d ≡ a + (b + (c + d))
    sums_regrouped a b c d = omega arith

    -- all elements of variables: the inputs of the starts, and what each instance gives
    places_are :
        times i (all_places Y P)
        ≡ starts (instance_at P Root)
        + (starts (instance_at P Observer) + total (in_instance Y P i) (instances P))
    places_are =
        let all = instances P in
        let own = λ (here : Instance).
        flat_map (λ d. Y.places here.path d.name) (variables here.node) in
        total-pieces (λ j. cond (nat_eq i j) 1 0) own all
        ∙ (total-same (λ here. in_variables Y i here)
        (λ here. in_inputs Y i here + of_inner here) all
        (Every-all _ (λ here. variables_are Y i here) all)
        ∙ (total-plus (in_inputs Y i) of_inner all
        ∙ (ap (λ m. m + total of_inner all) (instances_sum P (in_inputs Y i) low)
        ∙ (sums_regrouped (starts (instance_at P Root)) (starts (instance_at P Observer))
        (total of_calls all) (total of_inner all)
        ∙ ap (λ m. starts (instance_at P Root) + (starts (instance_at P Observer) + m))
        (sym (total-plus of_calls of_inner all)
        ∙ sym (total-same (in_instance Y P i) (λ here. of_calls here + of_inner here) all
        (Every-from _ all instance_is)))))))

    -- ## The starts

    root_given :
        (o : Option Instance) → instance_at P Root ≡ o → given_in i (given_inputs Y o) ≡ starts o
    root_given None e = refl
    root_given (Some root) e =
        let ds = root.node.inputs in
        let places : map (λ t. t.place) (input_targets Y root)
        ≡ flat_map (λ d. Y.places Root d.name) ds =
        sym
        (map-pieces (λ (t : Target). t.place) (λ (d : Declaration). targets Y root.node Root d.name)
        (λ d. Y.places Root d.name)
        (λ d. target_places (flat_clock Y Root (declared_clock root.node d.name))
        (Y.places Root d.name)) ds) in
        ap (times i)
        (input_places 0 (input_targets Y root) ∙ places
        ∙ ap (λ p. flat_map (λ d. Y.places p d.name) ds) (sym (path_is P Root root e)))
        ∙ omega arith

    observer_given :
        (o p : Option Instance) → instance_at P Observer ≡ p → holds (is_root P) o ≡ true →
        IfSome o (λ root. IfSome p (λ observer.
        AreAsWide H Observer observer.node.inputs
        (columns_at H Root (root.node.inputs ++ root.node.outputs)))) →
        given_in i (observed Y o p) ≡ starts p
    observer_given None p e keeps w = absurd cc
    observer_given (Some root) None e keeps w = refl
    observer_given (Some root) (Some observer) e keeps w =
        let ds = root.node.inputs ++ root.node.outputs in
        let given = received_gives Y H same observer.node Observer observer.node.inputs
        (observed_places Y root) (columns_at H Root ds) w
        (each_count (λ (d : Declaration). Y.places Root d.name)
        (λ (d : Declaration). H.columns Root d.name) (λ d. same Root d.name) ds) in
        ap (times i)
        (given
        ∙ ap (λ p. flat_map (λ d. Y.places p d.name) observer.node.inputs)
        (sym (path_is P Observer observer e))) ∙ omega arith

  -- ## All equations

  abbrev final : State
  final = emit_instances Y P (before_instances count) (instances P)

  abbrev of_root : List FlatEquation
  of_root = given_inputs Y (instance_at P Root)

  abbrev of_observer : List FlatEquation
  of_observer = observed Y (instance_at P Root) (instance_at P Observer)

  abbrev firsts : ℕ → ℕ
  firsts i = given_in i of_root + (given_in i of_observer + given_in i final.copies)

  -- the inputs and the copies give each element of a variable once
  firsts_are : (i : ℕ) → firsts i ≡ times i (range_with_len 0 count)
  firsts_are i =
      let copied : given_in i final.copies ≡ total (in_instance Y P i) (instances P) =
      omega (
        arith,
        instances_added Y P H same i (before_instances count) (instances P) (ready i),
      ) in
      ap₂ (λ a b. a + b) (root_given i (instance_at P Root) refl)
      (ap₂ (λ a b. a + b)
      (observer_given i (instance_at P Root) (instance_at P Observer) refl
      (rooted P accepted) observer_wide)
      copied)
      ∙ (sym (places_are i) ∙ ap (times i) (numbers_walk P accepted))

  closed : Closed count final
  closed = start_closed count Y P (is_laid_out P accepted)

  abbrev Q : List FlatEquation
  Q = (expanded Y P count).equations

  abbrev furthers : ℕ
  furthers = length final.equations

  sums_crossed : (a b c d : ℕ) → a + (b + (c + d)) ≡ (a + (b + c)) + d
  sums_crossed a b c d = omega arith

  -- the equations give the first elements and the temporaries
  equations_are :
      (i : ℕ) → times i (element_numbers Q)
      ≡ times i (range_with_len 0 count) + times i (range_with_len count furthers)
  equations_are i =
      given-append i of_root (of_observer ++ (final.copies ++ final.equations))
      ∙ (ap (λ m. given_in i of_root + m)
      (given-append i of_observer (final.copies ++ final.equations)
      ∙ ap (λ m. given_in i of_observer + m) (given-append i final.copies final.equations))
      ∙ (sums_crossed (given_in i of_root) (given_in i of_observer) (given_in i final.copies)
      (given_in i final.equations)
      ∙ ap₂ (λ a b. a + b) (firsts_are i)
      (ap (times i) (fresh_numbers count final.equations closed.fresh))))

  at_most_once : (i : ℕ) → times i (element_numbers Q) ≤ 1
  at_most_once i = (once_each i count furthers _ (equations_are i)).most

  -- equations that give only first elements give no temporary, so `ReadsLower` holds of them
  of_first :
      (qs : List FlatEquation) → ((i : ℕ) → given_in i qs ≤ firsts i) → Every (ReadsLower count) qs
  of_first qs among =
      Every-from (ReadsLower count) qs (λ q j le.
      let there = times_of q.element (element_numbers qs)
      (in_map (λ (q : FlatEquation). q.element) qs q j) in
      let part = among q.element in
      let all = firsts_are q.element in
      let none = range_high 0 count q.element (omega (arith, le)) in
      absurd (omega (arith, there, part, all, none)))

  -- each element has exactly one equation, and a temporary reads lower ones alone
  pub given_whole : IsGiven (expanded (layout P) P (length (program_elements P)))
  given_whole = record {
    each = λ i lt.
        of_times i (element_numbers Q) ((once_each i count furthers _ (equations_are i)).least
        (omega (arith, lt, closed.next)));
    once = once_apart (element_numbers Q) at_most_once;
    lower =
        Every-append (ReadsLower count) of_root (of_observer ++ (final.copies ++ final.equations))
        (of_first of_root (λ i. omega arith))
        (Every-append (ReadsLower count) of_observer (final.copies ++ final.equations)
        (of_first of_observer (λ i. omega arith))
        (Every-append (ReadsLower count) final.copies final.equations
        (of_first final.copies (λ i. omega arith))
        (fresh_lower count count final.equations closed.fresh)));
  }
