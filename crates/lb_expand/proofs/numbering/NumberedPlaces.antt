-- The layout of an accepted program by numbers: places, elements and widths.
use Rattle.lb_expand.proofs.Words
use Words.{Always_whole, Base, Bool, DataType, Declaration, Element, Every, Every-at, Every-from}
use Words.{Expr, FlatClock, History, In, Inputs, Instance, Kind, Layout, List, Name, None, On}
use Words.{Option, Path, Program, Some, State, Stream, Where_whole, WholeClock, [], ap}
use Words.{are_distinct, arith, before_instances, bytes_eq, bytes_eq-Decides, clock_reads, column}
use Words.{cond, data_types, declared_clock, element_kinds, element_values, elements}
use Words.{elements_named, emit, expanded, false, find, find_in, flat_clock, found_from}
use Words.{found_passes, get_or, history_of, in_instances, inl, inr, instances, instantiation_kept}
use Words.{kinds_at_numbers, layout, length, length-map, length-range_with_len, length_elements}
use Words.{listed, mapped_from, named, number_of, numbered_clock, numbers_below, numbers_from}
use Words.{occurrences, program_elements, property_path, property_places, range_with_len, refl}
use Words.{runs_on, same_Some, serving, signs_of, slice_get, slice_get_within, static_refusal, suc}
use Words.{sym, true, values_at_numbers, variable_names, variables, variables_distinct}
use Words.{where_signed, whole_clock, width, ℕ, ◌++◌, ◌+◌, ◌<◌, ◌∙◌, ◌∷◌, ◌≡◌, ◌≤◌}
use Rattle.lb_check.proofs.programs.AcceptedElements.{numbers_walk, numbers_width, same_declaration}
use Rattle.lb_check.proofs.programs.Numbers.{found_at, numbers_some, range_get}
use Rattle.lb_check.specs.{Clocks.Clock, Elements.numbers_of}
use Rattle.lb_expand.proofs.{reads.LinkWords.Pairs, solutions.{Closing.Below, Solving.IsLaidOut}}
use Rattle.lb_expand.proofs.solutions.Solving.{IsPlacing, IsVariablePlaced, all_closed}
use Rattle.lb_expand.proofs.{solutions.Watching.IsInOrder, widths.FoundWidths.as_many}
use Rattle.lb_expand.proofs.widths.PropertyOutput.{output_width, property_of}
use Rattle.lb_expand.proofs.widths.{TypeFacts.elements_in, Widths.AreVariablesWide}
use Rattle.lb_expand.proofs.widths.Widths.{IsOccurrenceWide, wide}
use Rattle.lb_flat.proofs.lists.Lists.{Every-first, Every-map, Every-second}

-- The layout of an accepted program by numbers: the elements of variables are the first ones, in
-- the order of instantiation, each variable has as many as it is wide, and clocks name no others.

-- ## Widths of the columns of a history

-- variables have as many columns as places
pub columns_wide :
    (Y : Layout) (X : Inputs) (F : List Stream) (p : Path) (w : Declaration → ℕ)
    (ds : List Declaration) → Every (λ d. length (Y.places p d.name) ≡ w d) ds →
    Every (λ d. length ((history_of Y X F).columns p d.name) ≡ w d) ds
columns_wide Y X F p w [] h = tt
columns_wide Y X F p w (d ∷ ds) h =
    (length-map (Y.places p d.name) (column X F) ∙ h.0, columns_wide Y X F p w ds h.1)

-- ## Where there is an instance, and where not

module _ (P : Program) where
  abbrev served : Path → Name → ℕ × Instance → List ℕ
  served p x s = let y = serving P p x in numbers_of P y.0 y.1

  pub places_nowhere :
      (p : Path) (x : Name) → found_from P 0 (instances P) p ≡ None →
      (layout P).places p x ≡ []
  places_nowhere p x e = ap (listed (λ s. numbers_from P s.1 s.0 (variables s.1.node) x)) e

  pub signs_nowhere :
      (p : Path) (x : Name) → found_from P 0 (instances P) p ≡ None → signs_of P p x ≡ []
  signs_nowhere p x e = ap (listed (served p x)) e

  -- the signs of an instance are the numbers of the variable that serves
  pub signs_are :
      (here : Instance) → In here (instances P) → (x : Name) →
      signs_of P here.path x
      ≡ numbers_of P (serving P here.path x).0 (serving P here.path x).1
  signs_are here i x = let found = found_at P here i in ap (listed (served here.path x)) found.1

  -- the flat clocks of an instance are the clocks of the whole program, with numbers for elements
  pub flat_is :
      (here : Instance) → In here (instances P) → (k : Clock) →
      flat_clock (layout P) here.path k
      ≡ numbered_clock P (whole_clock P here.path (runs_on P here.path) k)
  flat_is here i Base = refl
  flat_is here i (On k x sign) = cc (flat_is here i k, signs_are here i x)

-- ## Elements of accepted programs

signed_below :
    (V : ℕ) (k : FlatClock) (sign : Bool) (is : List ℕ) → Below V (clock_reads k) → Below V is →
    Below V (clock_reads (where_signed k sign is))
signed_below V k sign [] h g = h
signed_below V k sign (i ∷ is) h g = (g.0, h)

listed_below :
    {A : Type 0} (V : ℕ) (is : List ℕ) (o : Option A) → Below V is →
    Below V (listed (λ a. is) o)
listed_below V is None h = tt
listed_below V is (Some a) h = h

module _ (P : Program) (accepted : static_refusal P ≡ None) where
  abbrev count : ℕ
  count = length (program_elements P)

  -- each variable has as many elements as it is wide
  pub places_width :
      (here : Instance) → In here (instances P) →
      Every (λ d. length ((layout P).places here.path d.name) ≡ width P here d)
      (variables here.node)
  places_width here i = numbers_width P accepted here i

  -- the elements that a clock reads are elements of variables
  pub numbered_below : (k : WholeClock) → Below count (clock_reads (numbered_clock P k))
  numbered_below Always_whole = tt
  numbered_below (Where_whole k p x sign) =
      signed_below count (numbered_clock P k) sign (numbers_of P p x) (numbered_below k)
      (numbers_below P accepted p x)

  pub clocks_below : (p : Path) (k : Clock) → Below count (clock_reads (flat_clock (layout P) p k))
  clocks_below p Base = numbered_below (runs_on P p)
  clocks_below p (On k x sign) =
      signed_below count (flat_clock (layout P) p k) sign (signs_of P p x) (clocks_below p k)
      (listed_below count (numbers_of P (serving P p x).0 (serving P p x).1) (found_from P 0
      (instances P) p) (numbers_below P accepted (serving P p x).0 (serving P p x).1))

  -- the elements of variables and of clocks are the first ones
  pub is_laid_out : IsLaidOut (length (program_elements P)) (layout P)
  is_laid_out = record { places = numbers_below P accepted; clocks = clocks_below }

-- The layout of an accepted program by numbers gives each variable elements on its clock and of its
-- kind, the property one element, and the node under test the inputs of the signature.

-- the flat clock of a variable of an instance
abbrev pub clock_on : Program → Instance → Declaration → FlatClock
clock_on P here d = flat_clock (layout P) here.path (declared_clock here.node d.name)

-- the flat clock of each element of the program
abbrev pub element_clocks : Program → List FlatClock
element_clocks P = element_values P (clock_on P)

only_one : (is : List ℕ) → length is ≡ 1 → is ≡ get_or is 0 0 ∷ []
only_one [] e = absurd (omega arith)
only_one (i ∷ []) e = refl
only_one (i ∷ j ∷ is) e = absurd (omega arith)

module _ (P : Program) (accepted : static_refusal P ≡ None) where
  abbrev element_total : ℕ
  element_total = length (program_elements P)

  -- ## Variables

  -- the elements of variables are elements of the flat program
  pub count_within : element_total ≤ (expanded (layout P) P element_total).size
  count_within =
      let closed = all_closed element_total (layout P) P (is_laid_out P accepted) (before_instances element_total)
      (instances P) (record { fresh = tt; next = omega arith }) in
      let next = closed.next in
      omega (arith, next)

  -- `K` and `N` give each element of a variable its clock and its kind, among `size` elements
  module _ (K : ℕ → FlatClock) (N : ℕ → Kind) (size : ℕ) (large : element_total ≤ size)
      (clocks : (i : ℕ) (k : FlatClock) → slice_get (element_clocks P) i ≡ Some k → K i ≡ k)
      (kinds : (i : ℕ) (l : Kind) → slice_get (element_kinds P) i ≡ Some l → N i ≡ l) where
    variable_placed :
        (here : Instance) → In here (instances P) → (d : Declaration) →
        In d (variables here.node) → IsVariablePlaced (layout P) P K N size here d
    variable_placed here i d j =
        let own = numbers_of P here.path d.name in
        let below = numbers_below P accepted here.path d.name in
        let on = values_at_numbers P (clock_on P) accepted here i d j in
        let of = kinds_at_numbers P accepted here i d j in
        record {
          width = Every-at (λ c. length (numbers_of P here.path c.name) ≡ width P here c)
              (variables here.node) d (places_width P accepted here i) j;
          elements = Every-from _ own (λ n k. record {
            within = let lower = Every-at (λ m. m < element_total) own n below k in
                omega (arith, lower, large);
            clock = clocks n (clock_on P here d)
                (Every-at (λ m. slice_get (element_clocks P) m ≡ Some (clock_on P here d)) own n on
                k);
            is_of = kinds n d.kind
                (Every-at (λ m. slice_get (element_kinds P) m ≡ Some d.kind) own n of k);
          });
        }

    -- each variable has as many elements as its type, on its clock and of its kind
    pub is_placing : IsPlacing (layout P) P (length (program_elements P)) K N size
    is_placing = record {
      laid = is_laid_out P accepted;
      root = refl;
      observer = refl;
      variables = Every-from _ (instances P)
          (λ here i. Every-from _ (variables here.node) (λ d j. variable_placed here i d j));
    }

  -- ## The property

  property_one : length (property_places (layout P) P) ≡ 1
  property_one =
      let p = property_of P accepted in
      let outputs = p.here.node.outputs in
      let locals = p.here.node.locals in
      let is_in = in_instances P (instantiation_kept P accepted) (property_path P.observer) p.here
      p.stands in
      let wide = Every-first _ outputs locals
      (Every-second _ p.here.node.inputs (outputs ++ locals)
      (places_width P accepted p.here is_in)) in
      cc (output_width P p.here outputs (λ d. numbers_of P p.here.path d.name) p.is_truth wide)

  -- the elements of variables are the first ones, and the property has one
  pub is_in_order : IsInOrder (layout P) P (length (program_elements P))
  is_in_order = record {
    variables = numbers_walk P accepted;
    property = only_one (property_places (layout P) P) property_one;
  }
  -- ## Inputs

-- The elements of a variable of an instance of an accepted program stand, in order, at its numbers
-- among all elements.

-- ## Lists

-- two lists of one length whose items are related place by place are related as lists
pub pairs-at :
    {A B : Type 0} (R : A → B → Type 0) (xs : List A) (ys : List B) → length xs ≡ length ys →
    ((k : ℕ) (x : A) (y : B) → slice_get xs k ≡ Some x → slice_get ys k ≡ Some y → R x y) →
    Pairs R xs ys
pairs-at R [] [] e f = tt
pairs-at R [] (y ∷ ys) e f = absurd (omega arith)
pairs-at R (x ∷ xs) [] e f = absurd (omega arith)
pairs-at R (x ∷ xs) (y ∷ ys) e f =
    (f 0 x y refl refl, pairs-at R xs ys (omega arith) (λ k. f (suc k)))

-- where a search finds nothing, no item passes its test
none_passes : {A : Type 0} (test : A → Bool) (xs : List A) (x : A) → find test xs ≡ None →
    In x xs → test x ≡ true → ⊥
none_passes test [] x e i is = i
none_passes test (y ∷ xs) x e i is = by (test y) refl e i (none_passes test xs x)
  where
    by : (b : Bool) → test y ≡ b → cond b (Some y) (find test xs) ≡ None → In x (y ∷ xs) →
        (find test xs ≡ None → In x xs → test x ≡ true → ⊥) → ⊥
    by true passes none j again = absurd cc
    by false passes none (inl same) again =
        let both : true ≡ false = sym is ∙ (ap test (sym same) ∙ passes) in absurd cc
    by false passes none (inr j) again = again none j is

module _ (P : Program) (c : Instance) where
  -- the element at place `k` of a variable has index `k`
  element_at :
      (d : Declaration) (k : ℕ) (y : Element) → slice_get (elements P c d) k ≡ Some y →
      y ≡ record { path = c.path; variable = d.name; index = k }
  element_at d k y e =
      let f = λ (i : ℕ). let z : Element =
      record { path = c.path; variable = d.name; index = i } in z in
      let m = mapped_from f (range_with_len 0 (width P c d)) k y e in
      let count = length-range_with_len 0 (width P c d) in
      let within = slice_get_within (range_with_len 0 (width P c d)) k m.0 m.1 in
      let index : 0 + k ≡ m.0 =
      same_Some (0 + k) m.0 (sym (range_get 0 (width P c d) k (omega (arith, within, count))) ∙ m.1)
      in
      let start : k ≡ 0 + k = omega arith in
      sym m.2 ∙ ap f (sym (start ∙ index))

module _ (P : Program) (accepted : static_refusal P ≡ None) where
  -- the elements of a name have its numbers
  pub elements_numbered :
      (c : Instance) → In c (instances P) → (x : Name) →
      Pairs (λ i y. slice_get (program_elements P) i ≡ Some y) (numbers_of P c.path x)
      (elements_named P c x)
  elements_numbered c j x = by (named (λ d. d.name) x (variables c.node)) refl
    where
      nothing :
          find (λ (d : Declaration). bytes_eq d.name x) (variables c.node) ≡ None →
          (is : List ℕ) → numbers_of P c.path x ≡ is →
          Pairs (λ i y. slice_get (program_elements P) i ≡ Some y) is []
      nothing none [] e = tt
      nothing none (i ∷ is) e =
          let at = found_at P c j in
          let own : numbers_from P c at.0 (variables c.node) x ≡ i ∷ is =
          sym (ap (listed (λ s. numbers_from P s.1 s.0 (variables s.1.node) x)) at.1) ∙ e in
          let first : slice_get (numbers_from P c at.0 (variables c.node) x) 0 ≡ Some i =
          ap (λ ns. slice_get ns 0) own in
          let d = numbers_some P c at.0 (variables c.node) x 0 i first in
          none_passes (λ (d : Declaration). bytes_eq d.name x) (variables c.node) d.0 none d.1
          ((bytes_eq-Decides d.0.name x).1 d.2)

      by :
          (o : Option Declaration) → named (λ d. d.name) x (variables c.node) ≡ o →
          Pairs (λ i y. slice_get (program_elements P) i ≡ Some y) (numbers_of P c.path x)
          (listed (elements P c) o)
      by None e = nothing e (numbers_of P c.path x) refl
      by (Some d) e =
          let is_in = find_in (λ (d : Declaration). bytes_eq d.name x) (variables c.node) d e in
          let name = (bytes_eq-Decides d.name x).0
          (found_passes (λ (d : Declaration). bytes_eq d.name x) (variables c.node) d e) in
          let wide = Every-at (λ d. length (numbers_of P c.path d.name) ≡ width P c d)
          (variables c.node) d (numbers_width P accepted c j) is_in in
          let count : length (numbers_of P c.path x) ≡ length (elements P c d) =
          ap (λ y. length (numbers_of P c.path y)) (sym name)
          ∙ (wide ∙ sym (length_elements P c d)) in
          pairs-at (λ i y. slice_get (program_elements P) i ≡ Some y) (numbers_of P c.path x)
          (elements P c d) count
          (λ k i y p q.
          number_of P accepted c.path x k i p
          ∙ ap (λ z. Some z)
          (ap (λ n. let z : Element = record { path = c.path; variable = n; index = k } in z)
          (sym name)
          ∙ sym (element_at P c d k y q)))

  -- the elements of a variable have its numbers
  pub elements_declared :
      (c : Instance) → In c (instances P) →
      Every (λ d. Pairs (λ i y. slice_get (program_elements P) i ≡ Some y)
      (numbers_of P c.path d.name) (elements P c d)) (variables c.node)
  elements_declared c j =
      Every-from _ (variables c.node) (λ d i.
      by d i (named (λ d. d.name) d.name (variables c.node)) refl)
    where
      by :
          (d : Declaration) → In d (variables c.node) → (o : Option Declaration) →
          named (λ d. d.name) d.name (variables c.node) ≡ o →
          Pairs (λ i y. slice_get (program_elements P) i ≡ Some y) (numbers_of P c.path d.name)
          (elements P c d)
      by d i None e =
          absurd (none_passes (λ (b : Declaration). bytes_eq b.name d.name) (variables c.node) d e i
          ((bytes_eq-Decides d.name d.name).1 refl))
      by d i (Some b) e =
          let test = λ (b : Declaration). bytes_eq b.name d.name in
          let is_in = find_in test (variables c.node) b e in
          let name = (bytes_eq-Decides b.name d.name).0
          (found_passes test (variables c.node) b e) in
          let distinct = Every-at (λ c. are_distinct (variable_names c.node) ≡ true) (instances P) c
          (variables_distinct P accepted) j in
          let same = same_declaration (variables c.node) b d distinct is_in i name in
          let named_so : elements_named P c d.name ≡ elements P c d =
          ap (listed (elements P c)) e ∙ ap (elements P c) same in
          rw (← named_so) (elements_numbered c j d.name)

-- In the layout by numbers, the variables and the expressions of an accepted program are as wide as
-- their types, in the history of any streams.

module _ (P : Program) (accepted : static_refusal P ≡ None) (X : Inputs) (F : List Stream) where
  abbrev H : History
  H = history_of (layout P) X F

  same : (p : Path) (x : Name) → length ((layout P).places p x) ≡ length (H.columns p x)
  same p x = sym (length-map ((layout P).places p x) (column X F))

  -- a variable has as many streams as its type has scalar elements
  pub variables_wide :
      Every (λ here. AreVariablesWide P (history_of (layout P) X F) here here) (instances P)
  variables_wide =
      Every-from (λ here. AreVariablesWide P H here here) (instances P)
      (λ here i.
      Every-map (λ d. length ((layout P).places here.path d.name) ≡ width P here d)
      (λ d. length (H.columns here.path d.name) ≡ width P here d)
      (λ d w. sym (same here.path d.name) ∙ w) (variables here.node)
      (places_width P accepted here i))

  -- the elements found of an expression are as many as its types have scalar elements
  pub found_wide :
      (here : Instance) → In here (instances P) → (k : Clock) (n : ℕ) (s : State) (e : Expr)
      (ts : List DataType) → data_types P here e ≡ Some ts →
      Every (IsOccurrenceWide P (history_of (layout P) X F) here)
      (occurrences P here.node k n e) →
      length (emit (layout P) P here k n s e).found ≡ elements_in ts
  found_wide here i k n s e ts typed w =
      as_many (layout P) P H here same k n s e
      ∙ wide P H here
      (Every-at (λ here. AreVariablesWide P H here here) (instances P) here variables_wide i)
      k n e ts typed w
