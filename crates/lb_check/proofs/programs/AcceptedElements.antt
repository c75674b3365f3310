-- The scalar elements of an accepted program: their numbers, values and kinds; the inputs are
-- first.
use Rattle.lb_check.proofs.Words
use Words.{◌≡◌, ℕ, ◌<◌, None, Some, length, flat_map, slice_get, range_with_len, slice_get_within}
use Words.{Every, In, Name, variables, width, Program, Instance, Path, instances, static_refusal}
use Words.{in_at, place_in, program_elements, numbers_of, Element, not, bytes_eq, length-replicate}
use Words.{bytes_eq-Decides, same_Some, not-true, Declaration, get_first, get_later, mapped_from}
use Words.{item_at, and_first, and_second, are_distinct, among, any_in, instance_elements, elements}
use Words.{Kind, take, flat_map-append, append_assoc, map-append, take-append_seam, listed, Root}
use Words.{Observer, children, instance_at, instances_from, ◌⊎◌, inl, inr, zero, suc, ◌+◌, true}
use Words.{false, List, [], ◌∷◌, ◌++◌, map, replicate, refl, sym, ap, ap₂, ◌∙◌, subst, arith}
use Words.{length-append}
use Rattle.lb_static.specs.DataTypes.{scalar_elements, input_kinds}
use Rattle.lb_static.{specs.Signature.kinds_of, proofs.ElementNames.length-element_names}
use Rattle.lb_check.{specs.Elements.element_kinds, proofs.lists.ListPairs.cons_same}
use Rattle.lb_check.proofs.lists.Members.{Every-from, Every-at, AreApart, apart_single, Every-all}
use Rattle.lb_check.proofs.lists.Members.{Every-map, Every-first}
use Rattle.lb_check.proofs.programs.InstancePaths.{variables_distinct, at_path, same_instance}
use Rattle.lb_check.proofs.programs.{InstancePaths.path_is, Numbers.numbers_walk as walk}
use Rattle.lb_check.proofs.programs.Numbers.{numbers_width as widths, number_is as is_number}
use Rattle.lb_check.proofs.programs.Numbers.{number_of as of, length_elements, range_get}

-- The numbers of the scalar elements of an accepted program.

module _ (P : Program) (accepted : static_refusal P ≡ None) where
  -- the numbers of all variables, in the order of instantiation, are those from 0 on
  pub numbers_walk :
      flat_map (λ here. flat_map (λ d. numbers_of P here.path d.name) (variables here.node))
      (instances P)
      ≡ range_with_len 0 (length (program_elements P))
  numbers_walk = walk P (variables_distinct P accepted)

  -- each variable of an instance has as many numbers as it is wide
  pub numbers_width :
      (here : Instance) → In here (instances P) →
      Every (λ d. length (numbers_of P here.path d.name) ≡ width P here d) (variables here.node)
  numbers_width here i = widths P (variables_distinct P accepted) here i

  -- the number of an element is its place among all elements
  pub number_is :
      (i : ℕ) (x : Element) → slice_get (program_elements P) i ≡ Some x →
      slice_get (numbers_of P x.path x.variable) x.index ≡ Some i
  number_is i x e = is_number P (variables_distinct P accepted) i x e

  -- an element that has a number stands at that place among all elements
  pub number_of :
      (p : Path) (x : Name) (k i : ℕ) → slice_get (numbers_of P p x) k ≡ Some i →
      slice_get (program_elements P) i ≡ Some (record { path = p; variable = x; index = k })
  number_of p x k i e = of P (variables_distinct P accepted) p x k i e

  -- an element has one of the numbers of its variable
  pub number_in :
      (i : ℕ) (x : Element) → slice_get (program_elements P) i ≡ Some x →
      In i (numbers_of P x.path x.variable)
  number_in i x e = in_at (numbers_of P x.path x.variable) x.index i (number_is i x e)

  -- each number is below the count of all elements
  pub numbers_below :
      (p : Path) (x : Name) → Every (λ i. i < length (program_elements P)) (numbers_of P p x)
  numbers_below p x =
      Every-from (λ i. i < length (program_elements P)) (numbers_of P p x) (λ i j.
      let k = place_in (numbers_of P p x) i j in
      slice_get_within (program_elements P) i (record { path = p; variable = x; index = k.0 })
      (number_of p x k.0 i k.1))

-- The values of variables, element by element: there is one for each element, and at the number of
-- an element stands the value of its variable.

-- ## Lists of pieces of one length

-- an item of two lists is an item of one of them
get_either : {A : Type 0} (xs ys : List A) (i : ℕ) (x : A) → slice_get (xs ++ ys) i ≡ Some x →
    (slice_get xs i ≡ Some x) ⊎ ((k : ℕ) × (i ≡ length xs + k) × (slice_get ys k ≡ Some x))
get_either [] ys i x e = let same : i ≡ 0 + i = omega arith in inr (i, same, e)
get_either (y ∷ xs) ys zero x e = inl e
get_either (y ∷ xs) ys (suc i) x e = grind (arith, get_either xs ys i x e)

module _ {A B C : Type 0} (f : A → List B) (g : A → List C) where
  pub pieces_count :
      (xs : List A) → Every (λ x. length (f x) ≡ length (g x)) xs →
      length (flat_map f xs) ≡ length (flat_map g xs)
  pieces_count [] h = refl
  pieces_count (x ∷ xs) h =
      length-append (f x) (flat_map f xs)
      ∙ (ap₂ (λ m n. m + n) h.0 (pieces_count xs h.1) ∙ sym (length-append (g x) (flat_map g xs)))

  -- the piece in which `b` stands, and the item beside it in the other list
  pub record IsBeside (b : B) (i : ℕ) (xs : List A) : Type 0 where
    pub source : A
    pub is_in : In source xs
    pub place : ℕ
    pub holds : slice_get (f source) place ≡ Some b
    pub beside : slice_get (flat_map g xs) i ≡ slice_get (g source) place

  pub beside :
      (b : B) (i : ℕ) (xs : List A) → Every (λ x. length (f x) ≡ length (g x)) xs →
      slice_get (flat_map f xs) i ≡ Some b → IsBeside b i xs
  beside b i [] h e = absurd cc
  beside b i (x ∷ xs) h e = by (get_either (f x) (flat_map f xs) i b e) (λ j. beside b j xs h.1)
    where
      here : slice_get (f x) i ≡ Some b → IsBeside b i (x ∷ xs)
      here at =
          let within = slice_get_within (f x) i b at in
          let long = h.0 in
          let other = item_at (g x) i (omega (arith, within, long)) in
          record {
            source = x;
            is_in = inl refl;
            place = i;
            holds = at;
            beside = get_first (g x) (flat_map g xs) i other.0 other.1 ∙ sym other.1;
          }

      by :
          (slice_get (f x) i ≡ Some b)
          ⊎ ((k : ℕ) × (i ≡ length (f x) + k) × (slice_get (flat_map f xs) k ≡ Some b)) →
          ((j : ℕ) → slice_get (flat_map f xs) j ≡ Some b → IsBeside b j xs) →
          IsBeside b i (x ∷ xs)
      by (inl at) again = here at
      by (inr at) again =
          let p = again at.0 at.2 in
          let place = at.1 ∙ ap (λ m. m + at.0) h.0 in
          record {
            source = p.source;
            is_in = inr p.is_in;
            place = p.place;
            holds = p.holds;
            beside = ap (slice_get (g x ++ flat_map g xs)) place
                ∙ (get_later (g x) (flat_map g xs) at.0 ∙ p.beside);
          }

get_replicate : {A : Type 0} (n : ℕ) (x : A) (i : ℕ) → i < n → slice_get (replicate n x) i ≡ Some x
get_replicate zero x i lt = absurd (omega arith)
get_replicate (suc n) x zero lt = refl
get_replicate (suc n) x (suc i) lt = get_replicate n x i (omega arith)

-- ## Distinct names

distinct_apart : (xs : List Name) → are_distinct xs ≡ true → AreApart xs
distinct_apart [] e = tt
distinct_apart (x ∷ xs) e = (
  λ i. twice (any_in (bytes_eq x) xs x i ((bytes_eq-Decides x x).1 refl)),
  distinct_apart xs (and_second (not (among x xs)) _ e),
)
  where
    once : among x xs ≡ false
    once = not-true (among x xs) (and_first (not (among x xs)) _ e)

    twice : among x xs ≡ true → ⊥
    twice again = absurd cc

pub same_declaration :
    (ds : List Declaration) (c d : Declaration) → are_distinct (map (λ d. d.name) ds) ≡ true →
    In c ds → In d ds → c.name ≡ d.name → c ≡ d
same_declaration ds c d e i j same =
    apart_single (λ (d : Declaration). d.name) ds c d
    (distinct_apart (map (λ d. d.name) ds) e) i j same

-- ## The values of variables

module _ (P : Program) {A : Type 0} (of : Instance → Declaration → A) where
  -- the values of the elements of some variables of an instance
  abbrev pub values_in : Instance → List Declaration → List A
  values_in here ds = flat_map (λ d. replicate (width P here d) (of here d)) ds

  abbrev instance_values : Instance → List A
  instance_values here = values_in here (variables here.node)

  -- the values of the elements of a program
  abbrev pub element_values : List A
  element_values = flat_map instance_values (instances P)

  variable_count :
      (here : Instance) (d : Declaration) →
      length (elements P here d) ≡ length (replicate (width P here d) (of here d))
  variable_count here d =
      length_elements P here d ∙ sym (length-replicate (width P here d) (of here d))

  instance_count :
      (here : Instance) → length (instance_elements P here) ≡ length (instance_values here)
  instance_count here =
      pieces_count (elements P here) (λ d. replicate (width P here d) (of here d))
      (variables here.node)
      (Every-all _ (variable_count here) (variables here.node))

  -- there are as many values as elements
  pub length_values : length element_values ≡ length (program_elements P)
  unfolding program_elements
  length_values =
      sym (pieces_count (instance_elements P) instance_values (instances P)
      (Every-all _ instance_count (instances P)))

  -- an element is one of a variable of an instance, and beside it stands the value of the variable
  pub record HasValue (i : ℕ) (x : Element) : Type 0 where
    pub here : Instance
    pub is_in : In here (instances P)
    pub variable : Declaration
    pub declared : In variable (variables here.node)
    pub path : x.path ≡ here.path
    pub name : x.variable ≡ variable.name
    pub below : x.index < width P here variable
    pub value : slice_get element_values i ≡ Some (of here variable)

  -- element `x` is element `i` of a variable
  record IsElement (here : Instance) (d : Declaration) (i : ℕ) (x : Element) : Type 0 where
    path : x.path ≡ here.path
    name : x.variable ≡ d.name
    index : x.index ≡ i
    below : i < width P here d

  element_at :
      (here : Instance) (d : Declaration) (i : ℕ) (x : Element) →
      slice_get (elements P here d) i ≡ Some x → IsElement here d i x
  element_at here d i x e =
      let w = width P here d in
      let m = mapped_from (λ k. record { path = here.path; variable = d.name; index = k })
      (range_with_len 0 w) i x e in
      let long = length_elements P here d in
      let within = slice_get_within (elements P here d) i x e in
      let below : i < w = omega (arith, long, within) in
      let number : 0 + i ≡ m.0 = same_Some (0 + i) m.0 (sym (range_get 0 w i below) ∙ m.1) in
      record {
        path = sym (ap (λ (z : Element). z.path) m.2);
        name = sym (ap (λ (z : Element). z.variable) m.2);
        index = let same = ap (λ (z : Element). z.index) m.2 in omega (arith, same, number);
        below = below;
      }

  -- at the place of an element stands the value of its variable
  pub value_of_element :
      (i : ℕ) (x : Element) → slice_get (program_elements P) i ≡ Some x → HasValue i x
  unfolding program_elements
  value_of_element i x e =
      let among_all = beside (instance_elements P) instance_values x i (instances P)
      (Every-all _ instance_count (instances P)) e in
      let here = among_all.source in
      let among_own = beside (elements P here) (λ d. replicate (width P here d) (of here d)) x
      among_all.place (variables here.node)
      (Every-all _ (variable_count here) (variables here.node)) among_all.holds in
      let d = among_own.source in
      let at = element_at here d among_own.place x among_own.holds in
      record {
        here = here;
        is_in = among_all.is_in;
        variable = d;
        declared = among_own.is_in;
        path = at.path;
        name = at.name;
        below = let index = at.index in let lower = at.below in omega (arith, index, lower);
        value = among_all.beside
            ∙ (among_own.beside
            ∙ get_replicate (width P here d) (of here d) among_own.place at.below);
      }

  module _ (accepted : static_refusal P ≡ None) where
    -- at each number of a variable stands its value
    pub values_at_numbers :
        (here : Instance) → In here (instances P) → (d : Declaration) →
        In d (variables here.node) →
        Every (λ i. slice_get element_values i ≡ Some (of here d)) (numbers_of P here.path d.name)
    values_at_numbers here i d j =
        Every-from _ (numbers_of P here.path d.name) (λ n k. of_number n k)
      where
        of_number : (n : ℕ) → In n (numbers_of P here.path d.name) →
            slice_get element_values n ≡ Some (of here d)
        of_number n k =
            let at = place_in (numbers_of P here.path d.name) n k in
            let is = number_of P accepted here.path d.name at.0 n at.1 in
            let h = value_of_element n
            (record { path = here.path; variable = d.name; index = at.0 }) is in
            let one = same_instance P h.here here (at_path P h.here h.is_in) (at_path P here i)
            (sym h.path) in
            let own = subst (λ (c : Instance). In h.variable (variables c.node)) one h.declared in
            let names = Every-at _ (instances P) here (variables_distinct P accepted) i in
            let same = same_declaration (variables here.node) h.variable d names own j
            (sym h.name) in
            h.value ∙ ap₂ (λ c z. Some (of c z)) one same

-- The kinds of scalar elements: there are as many as elements, and the kind at the number of an
-- element is that of its variable.

-- the kinds of the elements of some variables of an instance
abbrev pub kinds_in : Program → Instance → List Declaration → List Kind
kinds_in P here ds = flat_map (λ d. replicate (width P here d) d.kind) ds

module _ (P : Program) where
  -- there are as many kinds as elements
  pub length_kinds : length (element_kinds P) ≡ length (program_elements P)
  unfolding element_kinds
  length_kinds = length_values P (λ here d. d.kind)

  -- the kind at each number of a variable is the kind of the variable
  pub kinds_at_numbers :
      static_refusal P ≡ None → (here : Instance) → In here (instances P) →
      (d : Declaration) → In d (variables here.node) →
      Every (λ i. slice_get (element_kinds P) i ≡ Some d.kind) (numbers_of P here.path d.name)
  unfolding element_kinds
  kinds_at_numbers accepted here i d j = values_at_numbers P (λ c z. z.kind) accepted here i d j

-- The first elements of an accepted program are its scalar inputs, in the order of the signature.

-- ## Lists

-- the first part of numbers in order is in order
range_first : (a n : ℕ) (xs ys : List ℕ) → xs ++ ys ≡ range_with_len a n →
    xs ≡ range_with_len a (length xs)
range_first a n [] ys e = refl
range_first a zero (x ∷ xs) ys e = absurd cc
range_first a (suc n) (x ∷ xs) ys e =
    let both = cons_same x a (xs ++ ys) (range_with_len (a + 1) n) e in
    ap₂ (λ y zs. y ∷ zs) both.0 (range_first (a + 1) n xs ys both.1)

-- ## Kinds of inputs

kinds_all : (k : Kind) (xs : List Name) → kinds_of (map (λ x. (x, k)) xs) ≡ replicate (length xs) k
kinds_all k [] = refl
kinds_all k (x ∷ xs) = ap (λ ks. k ∷ ks) (kinds_all k xs)

module _ (P : Program) (here : Instance) where
  variable_kinds : (d : Declaration) →
      kinds_of (scalar_elements P here d) ≡ replicate (width P here d) d.kind
  variable_kinds d = grind (arith, kinds_all d.kind, length-element_names d.name)

  variables_kinds : (ds : List Declaration) →
      kinds_of (flat_map (scalar_elements P here) ds) ≡ kinds_in P here ds
  variables_kinds [] = refl
  variables_kinds (d ∷ ds) =
      map-append (λ e. e.1) (scalar_elements P here d) (flat_map (scalar_elements P here) ds)
      ∙ ap₂ (λ xs ys. xs ++ ys) (variable_kinds d) (variables_kinds ds)

-- ## The node under test comes first

module _ (P : Program) (root : Instance) (there : instance_at P Root ≡ Some root) where
  pub root_first : (rest : List Instance) × (instances P ≡ root ∷ rest)
  root_first = (
    flat_map (instances_from P 64) (children P root)
        ++ listed (instances_from P 65) (instance_at P Observer),
    ap (λ o. listed (instances_from P 65) o
        ++ listed (instances_from P 65) (instance_at P Observer)) there,
  )

  -- the kinds of the scalar inputs are those of the elements of the inputs
  pub input_kinds_are : input_kinds P ≡ kinds_in P root root.node.inputs
  input_kinds_are =
      ap (λ o. kinds_of (listed (λ r. flat_map (scalar_elements P r) r.node.inputs) o)) there
      ∙ variables_kinds P root root.node.inputs

  -- the kinds of the scalar inputs come first among all kinds
  pub input_kinds_first : (rest : List Kind) × (element_kinds P ≡ input_kinds P ++ rest)
  unfolding element_kinds
  input_kinds_first =
      let inner = root.node.outputs ++ root.node.locals in
      let others = kinds_in P root inner in
      let later = flat_map (λ here. kinds_in P here (variables here.node)) root_first.0 in (
        others ++ later,
        ap (flat_map (λ here. kinds_in P here (variables here.node))) root_first.1
            ∙ (ap (λ ks. ks ++ later)
            (flat_map-append (λ d. replicate (width P root d) d.kind) root.node.inputs inner)
            ∙ (append_assoc (kinds_in P root root.node.inputs) others later
            ∙ ap (λ ks. ks ++ (others ++ later)) (sym input_kinds_are))),
      )

  pub input_kinds_taken : take (length (input_kinds P)) (element_kinds P) ≡ input_kinds P
  input_kinds_taken =
      ap (take (length (input_kinds P))) input_kinds_first.1
      ∙ take-append_seam (input_kinds P) input_kinds_first.0

  module _ (accepted : static_refusal P ≡ None) where
    abbrev numbers_for : Instance → List Declaration → List ℕ
    numbers_for here ds = flat_map (λ d. numbers_of P here.path d.name) ds

    input_count : length (numbers_for root root.node.inputs) ≡ length (input_kinds P)
    input_count =
        let is_in = subst (In root) (sym root_first.1) (inl refl) in
        let inner = root.node.outputs ++ root.node.locals in
        let wide = Every-first _ root.node.inputs inner (numbers_width P accepted root is_in) in
        pieces_count (λ d. numbers_of P root.path d.name) (λ d. replicate (width P root d) d.kind)
        root.node.inputs
        (Every-map _ _ (λ d e. e ∙ sym (length-replicate (width P root d) d.kind))
        root.node.inputs wide)
        ∙ ap length (sym input_kinds_are)

    -- the numbers of the inputs are the first ones, as many as there are scalar inputs
    pub input_numbers :
        flat_map (λ d. numbers_of P Root d.name) root.node.inputs
        ≡ range_with_len 0 (length (input_kinds P))
    input_numbers =
        let inner = root.node.outputs ++ root.node.locals in
        let inputs = numbers_for root root.node.inputs in
        let others = numbers_for root inner in
        let later = flat_map (λ here. numbers_for here (variables here.node)) root_first.0 in
        let walk = ap (flat_map (λ here. numbers_for here (variables here.node))) root_first.1 in
        let parts = ap (λ is. is ++ later)
        (flat_map-append (λ d. numbers_of P root.path d.name) root.node.inputs inner) in
        let whole = sym (append_assoc inputs others later) ∙ (sym parts
        ∙ (sym walk ∙ numbers_walk P accepted)) in
        let first = range_first 0 (length (program_elements P)) inputs (others ++ later) whole in
        let path = path_is P Root root there in
        sym (ap (λ p. flat_map (λ d. numbers_of P p d.name) root.node.inputs) path)
        ∙ (first ∙ ap (range_with_len 0) input_count)
