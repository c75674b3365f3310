-- The elements that the clocks of an instance and of its occurrences read.
use Rattle.lb_expand.proofs.Words
use Words.{◌≡◌, inl, inr, ℕ, Bool, Some, None, List, [], ◌∷◌, refl, ap, sym, ◌∙◌, subst, slice_get}
use Words.{same_Some, Every, In, Name, Program, Instance, Path, instances, static_refusal}
use Words.{check_refusal, program_elements, Element, WholeClock, waits_for, whole_clock, runs_on}
use Words.{number_of, at_path, IsOver, IsVariable, FlatClock, flat_clock, where_signed}
use Words.{numbered_clock, layout, clock_reads, range_with_len, bytes_eq, bytes_eq-Decides}
use Words.{ArrayIterator, Map, Red, Fill, tail_of, listed, Static, Node_named, Symbol, Expr}
use Words.{Variable, Group, Current, When, Call, Iterate, Exprs, Declaration, Node, implied}
use Words.{and_first, and_second, all_in, variables, Child, Site, call_site, node_named, among}
use Words.{variable_names, named, in_map, any_in, found_passes, are_declared_clocks, is_clock}
use Words.{is_occurrence_clocked, On, clock_or, declared_clock, elements, Occurrence, at}
use Words.{occurrences, node_occurrences, History, number, outputs_of, gathered, last_of, iterated}
use Words.{clocked, in_first, in_second, Every-at, Every-from, IsInstanceOf, instance_there}
use Words.{clock_same, Every-append, Every-first, find_in, callee_node, occurrence_fits, history_of}
use Words.{Layout, zero, suc, ◌+◌, ◌-◌, ◌<◌, ◌≤◌, true, Option, ◌++◌, flat_map, ap₂, arith}
use Rattle.lb_check.specs.{ClockRules.is_on_clock, Clocks.{Clock, clock_of}, Elements.numbers_of}
use Rattle.lb_check.specs.Needs.{Always, Where, clock_elements}
use Rattle.lb_check.proofs.programs.OccurrenceParts.{OperandHas, operands_have}
use Rattle.lb_check.proofs.programs.{SameHistories.callee_path, ServedVariables.IsNumbered}
use Rattle.lb_check.proofs.programs.ServedVariables.{whole_numbered, runs_numbered}
use Rattle.lb_check.proofs.programs.TypedOccurrences.{IsTypedOver, occurrences_fit}
use Rattle.lb_check.proofs.typing.OperandTypes.{one_output, placed}
use Rattle.lb_expand.proofs.clock_tables.ClockTable.{CalleeClocks, ClocksAt, callee_clocks}
use Rattle.lb_expand.proofs.copies.CopiedProgram.{same, IsClockKnown, AreClocksKnown, positive}
use Rattle.lb_expand.proofs.numbering.NumberedPlaces.{flat_is, elements_numbered}
use Rattle.lb_expand.proofs.reads.{LinkTerms.{IsAwaited, IsRunning}, LinkWords.Pairs}

-- A clock of an instance reads the first elements of the variables that it waits for, one by one.

-- the numbers are those of the elements, one by one
abbrev pub AreNumbers : Program → List ℕ → List Element → Type 0
AreNumbers P [] [] = Unit {0}
AreNumbers P (i ∷ is) (x ∷ xs) = (slice_get (program_elements P) i ≡ Some x) × AreNumbers P is xs
AreNumbers P is xs = ⊥

-- each of the elements `xs` has a number in `is`
pub numbers_named :
    (P : Program) (is : List ℕ) (xs : List Element) → AreNumbers P is xs →
    Every (λ x. (i : ℕ) × In i is × (slice_get (program_elements P) i ≡ Some x)) xs
numbers_named P [] [] h = tt
numbers_named P [] (x ∷ xs) h = absurd h
numbers_named P (i ∷ is) [] h = absurd h
numbers_named P (i ∷ is) (x ∷ xs) h = (
  (i, inl refl, h.0),
  later xs (numbers_named P is xs h.1),
)
  where
    later : (ys : List Element) →
        Every (λ x. (i : ℕ) × In i is × (slice_get (program_elements P) i ≡ Some x)) ys →
        Every (λ x. (j : ℕ) × In j (i ∷ is) × (slice_get (program_elements P) j ≡ Some x)) ys
    later [] g = tt
    later (y ∷ ys) g = ((g.0.0, inr g.0.1, g.0.2), later ys g.1)

pub named_numbers :
    (P : Program) (is : List ℕ) (xs : List Element) → AreNumbers P is xs →
    Every (λ i. (x : Element) × In x xs × (slice_get (program_elements P) i ≡ Some x)) is
named_numbers P [] [] h = tt
named_numbers P [] (x ∷ xs) h = absurd h
named_numbers P (i ∷ is) [] h = absurd h
named_numbers P (i ∷ is) (x ∷ xs) h = (
  (x, inl refl, h.0),
  later is (named_numbers P is xs h.1),
)
  where
    later : (js : List ℕ) →
        Every (λ i. (y : Element) × In y xs × (slice_get (program_elements P) i ≡ Some y)) js →
        Every (λ i. (y : Element) × In y (x ∷ xs) × (slice_get (program_elements P) i ≡ Some y)) js
    later [] g = tt
    later (j ∷ js) g = ((g.0.0, inr g.0.1, g.0.2), later js g.1)

module _ (P : Program) (accepted : static_refusal P ≡ None) where
  -- the numbers of a clock at the instants at which the first of some elements has a sign
  first_read :
      (k : FlatClock) (sign : Bool) (is : List ℕ) (p : Path) (x : Name) (xs : List Element) →
      (i : ℕ) → slice_get is 0 ≡ Some i →
      slice_get (program_elements P) i ≡ Some (record { path = p; variable = x; index = 0 }) →
      AreNumbers P (clock_reads k) xs →
      AreNumbers P (clock_reads (where_signed k sign is))
      (record { path = p; variable = x; index = 0 } ∷ xs)
  first_read k sign [] p x xs i e is h = absurd cc
  first_read k sign (j ∷ js) p x xs i e is h =
      (ap (slice_get (program_elements P)) (same_Some j i e) ∙ is, h)

  -- a clock of the whole program reads the numbers of its elements, one by one
  pub numbered_reads :
      (w : WholeClock) → IsNumbered P accepted w →
      AreNumbers P (clock_reads (numbered_clock P w)) (clock_elements w)
  numbered_reads Always h = tt
  numbered_reads (Where k p x sign) h =
      first_read (numbered_clock P k) sign (numbers_of P p x) p x (clock_elements k) h.1.0 h.1.1
      (number_of P accepted p x 0 h.1.0 h.1.1) (numbered_reads k h.0)

  module _ (checked : check_refusal P ≡ None) (here : Instance) (stands : In here (instances P))
    where
      -- a clock over the variables of an instance reads the first elements of what it waits for
      pub clock_numbers :
          (k : Clock) → IsOver (IsVariable here.node) k →
          AreNumbers P (clock_reads (flat_clock (layout P) here.path k)) (waits_for P here k)
      clock_numbers k over =
          let at = at_path P here stands in
          rw (flat_is P here stands k) (numbered_reads (whole_clock P here.path (runs_on P
          here.path) k) (whole_numbered P accepted checked here.path here at (runs_on P here.path)
          (runs_numbered P accepted checked here.path here at) k over))

      -- each element that a clock waits for has a number that the flat clock reads
      pub waits_read :
          (k : Clock) → IsOver (IsVariable here.node) k →
          Every (λ x.
          (i : ℕ) × In i (clock_reads (flat_clock (layout P) here.path k))
          × (slice_get (program_elements P) i ≡ Some x)) (waits_for P here k)
      waits_read k over =
          numbers_named P (clock_reads (flat_clock (layout P) here.path k)) (waits_for P here k)
          (clock_numbers k over)

      -- each number that the flat clock reads is that of an element that the clock waits for
      pub reads_wait :
          (k : Clock) → IsOver (IsVariable here.node) k →
          Every (λ i.
          (x : Element) × In x (waits_for P here k)
          × (slice_get (program_elements P) i ≡ Some x))
          (clock_reads (flat_clock (layout P) here.path k))
      reads_wait k over =
          named_numbers P (clock_reads (flat_clock (layout P) here.path k)) (waits_for P here k)
          (clock_numbers k over)

-- The clocks of the occurrences in the text of an instance of an accepted program, from the clocks
-- of what it calls and the numbers that clocks read.

no_numbers :
    {A B : Type 0} (R : A → B → Type 0) (Q : A → Type 0) (xs : List A) → Pairs R xs [] → Every Q xs
no_numbers R Q [] h = tt
no_numbers R Q (x ∷ xs) h = absurd h

-- ## What iterated nodes give, item by item

module _ {A : Type 0} (Q : A → Type 0) (f : ℕ → Name → List A) (n : ℕ) where
  each_range :
      (a m : ℕ) (x : Name) → a + m ≤ n → ((i : ℕ) → i < n → Every Q (f i x)) →
      Every Q (flat_map (λ i. f i x) (range_with_len a m))
  each_range a zero x le h = tt
  each_range a (suc m) x le h =
      Every-append Q (f a x) (flat_map (λ i. f i x) (range_with_len (a + 1) m))
      (h a (omega (arith, le))) (each_range (a + 1) m x (omega (arith, le)) h)

  abbrev AllOf : List Declaration → Type 0
  AllOf outs = Every (λ o. (i : ℕ) → i < n → Every Q (f i o.name)) outs

  each_gathered : (outs : List Declaration) → AllOf outs → Every Q (gathered f n outs)
  each_gathered [] h = tt
  each_gathered (o ∷ outs) h =
      Every-append Q (flat_map (λ i. f i o.name) (range_with_len 0 n)) (gathered f n outs)
      (each_range 0 n o.name (omega arith) h.0) (each_gathered outs h.1)

  each_last : 0 < n → (outs : List Declaration) → AllOf outs → Every Q (last_of f n outs)
  each_last some [] h = tt
  each_last some (o ∷ outs) h = h.0 (n - 1) (omega (arith, some))

  each_tail : (outs : List Declaration) → AllOf outs → AllOf (tail_of outs)
  each_tail [] h = tt
  each_tail (o ∷ outs) h = h.1

  each_iterated :
      0 < n → (it : ArrayIterator) (outs : List Declaration) → AllOf outs →
      Every Q (iterated f n it outs)
  each_iterated some Map outs h = each_gathered outs h
  each_iterated some Red outs h = each_last some outs h
  each_iterated some Fill outs h =
      Every-append Q (last_of f n outs) (gathered f n (tail_of outs)) (each_last some outs h)
      (each_gathered (tail_of outs) (each_tail outs h))

-- where all its occurrences are typed over `V`, the clock of an expression is over `V`
first_over :
    (P : Program) (here : Instance) (V : Name → Type 0) (k : Clock) (n : ℕ) (e : Expr) →
    Every (IsTypedOver P here V) (occurrences P here.node k n e) → IsOver V k
first_over P here V k n (Group a) h = first_over P here V k n a h
first_over P here V k n (Iterate it (Node_named f statics) m es) h = h.0.over
first_over P here V k n (Iterate it (Symbol op) m es) h = h.0.over
first_over P here V k n e h = h.0.over

module _ (P : Program) (accepted : static_refusal P ≡ None) (checked : check_refusal P ≡ None)
    (Under : ℕ → ℕ → Type 0) (Left : ℕ → Type 0) (here : Instance)
    (variable_runs : (c : Instance) → In c (instances P) →
    Every (λ d. Every (λ i. (t : ℕ) → Under t i →
    Every (Under t) (clock_reads (flat_clock (layout P) c.path (declared_clock c.node d.name))))
    (numbers_of P c.path d.name)) (variables c.node))
    (stands : In here (instances P)) where
  abbrev Y : Layout
  Y = layout P

  abbrev H : History
  H = history_of (layout P) [] []

  abbrev IsAt : Element → ℕ → Type 0
  IsAt y i = slice_get (program_elements P) i ≡ Some y

  abbrev os : List Occurrence
  os = node_occurrences P here.node

  abbrev flat : Clock → FlatClock
  flat k = flat_clock (layout P) here.path k

  abbrev IsRunAt : FlatClock → ℕ → Type 0
  IsRunAt k i = (t : ℕ) → Under t i → Every (Under t) (clock_reads k)

  -- ## Variables and outputs

  -- the elements of a variable run on its own clock
  own_runs :
      (c : Instance) → In c (instances P) → (d : Declaration) → In d (variables c.node) →
      (k : FlatClock) → flat_clock (layout P) c.path (declared_clock c.node d.name) ≡ k →
      Every (IsRunAt k) (numbers_of P c.path d.name)
  own_runs c j d i k e =
      rw (← e) (Every-at (λ d. Every (IsRunAt (flat_clock (layout P) c.path
      (declared_clock c.node d.name))) (numbers_of P c.path d.name)) (variables c.node) d
      (variable_runs c j) i)

  -- the elements of an output of an instance of a call run on its clock
  output_runs :
      (s : Site) (n index : ℕ) (callee : Node) → IsInstanceOf P here s n index callee →
      (d : Declaration) → In d callee.outputs → (k : FlatClock) →
      flat_clock (layout P) (Child here.path n index) (declared_clock callee d.name) ≡ k →
      Every (IsRunAt k) (numbers_of P (Child here.path n index) d.name)
  output_runs s n index callee there d on k e =
      let is_in : In d (variables callee) =
      in_second d callee.inputs (callee.outputs ++ callee.locals)
      (in_first d callee.outputs callee.locals on) in
      rw (← there.path) (own_runs _ there.stands d (rw there.node is_in) k (ap₂ (λ (p : Path) (m :
      Node). flat_clock (layout P) p (declared_clock m d.name)) there.path there.node ∙ e))

  variable_run :
      (k : Clock) (x : Name) → is_on_clock P here.node k (Variable x) ≡ true →
      (o : Option Declaration) → named (λ d. d.name) x (variables here.node) ≡ o →
      Every (IsRunAt (flat k)) (numbers_of P here.path x)
  variable_run k x rule None e =
      no_numbers (λ i y. IsAt y i) (IsRunAt (flat k)) (numbers_of P here.path x)
      (subst (λ o. Pairs (λ i y. IsAt y i) (numbers_of P here.path x)
      (listed (elements P here) o)) e
      (elements_numbered P accepted here stands x))
  variable_run k x rule (Some d) e =
      let test = λ (b : Declaration). bytes_eq b.name x in
      let is_in = find_in test (variables here.node) d e in
      let name : d.name ≡ x =
      (bytes_eq-Decides d.name x).0 (found_passes test (variables here.node) d e) in
      let own = in_map (λ (d : Declaration). d.name) (variables here.node) d is_in in
      let known : among x (variable_names here.node) ≡ true =
      any_in (bytes_eq x) (variable_names here.node) x
      (subst (λ y. In y (variable_names here.node)) name own) ((bytes_eq-Decides x x).1 refl) in
      let clock : k ≡ declared_clock here.node x =
      clock_same k (declared_clock here.node x)
      (implied (among x (variable_names here.node))
      (is_clock k (declared_clock here.node x)) rule known) in
      subst (λ y. Every (IsRunAt (flat k)) (numbers_of P here.path y)) name
      (own_runs here stands d is_in (flat k)
      (ap (λ y. flat (declared_clock here.node y)) name ∙ ap flat (sym clock)))

  -- ## Occurrences

  lawful : (o : Occurrence) → In o os → is_occurrence_clocked P here.node o ≡ true
  lawful o i =
      all_in (is_occurrence_clocked P here.node) os o
      (and_first _ _ (and_second (are_declared_clocks here.node) _
      (clocked P checked here stands))) i

  -- the numbers that a clock reads are the numbers of what it waits for
  awaited :
      (k : Clock) → IsOver (IsVariable here.node) k →
      IsAwaited Y P H (λ p x. same P accepted checked Under Left p x) IsAt Under Left here k
  awaited k over = record {
    each = waits_read P accepted checked here stands k over;
    back = reads_wait P accepted checked here stands k over;
  }

  operand_over :
      (k : Clock) (n : ℕ) (a : Expr) → In (at k n (Current a)) os →
      IsOver (IsVariable here.node) (clock_or (clock_of P here.node a))
  operand_over k n a i =
      let fits = IsTypedOver P here (IsVariable here.node) in
      let operand : Every fits (occurrences P here.node (clock_or (clock_of P here.node a)) n a) =
      Every-at (OperandHas P here.node fits) os (at k n (Current a))
      (operands_have P here.node fits (occurrences_fit P accepted checked here stands)) i in
      first_over P here (IsVariable here.node) (clock_or (clock_of P here.node a)) n a operand

  -- the outputs of all instances of an iterator run on its clock
  iterated_all :
      (k : Clock) (n : ℕ) (it : ArrayIterator) (f : Name) (statics : List Static) (m : Static)
      (es : Exprs) → In (at k n (Iterate it (Node_named f statics) m es)) os →
      (o : Option Node) → node_named P f ≡ o →
      AllOf (IsRunAt (flat k)) (λ index x. numbers_of P (Child here.path n index) x)
      (number P here m) (listed (λ (c : Node). c.outputs) o)
  iterated_all k n it f statics m es i None e = tt
  iterated_all k n it f statics m es i (Some callee) e =
      let o = at k n (Iterate it (Node_named f statics) m es) in
      let s : Site = record { callee = f; arguments = statics; count = Some m } in
      let clocks : ClocksAt (layout P) P here k n (Iterate it (Node_named f statics) m es) =
      Every-at (CalleeClocks (layout P) P here) os o
      (callee_clocks P accepted checked here stands) i in
      Every-from (λ o. (index : ℕ) → index < number P here m → Every (IsRunAt (flat k))
      (numbers_of P (Child here.path n index) o.name)) callee.outputs (λ d on index lt.
      output_runs _ n index _ (instance_there P accepted checked here stands o s callee index i
      refl e lt) d on _ (Every-at (λ d. flat_clock (layout P) (Child here.path n index)
      (declared_clock callee d.name) ≡ flat k) (callee.inputs ++ callee.outputs) d
      (clocks callee e index lt) (in_second d callee.inputs callee.outputs on)))

  known_at :
      (k : Clock) (n : ℕ) (e : Expr) → In (at k n e) os →
      IsClockKnown P accepted checked Under Left here k n e
  known_at k n (When a x sign) i =
      let o = at k n (When a x sign) in
      let own = On (declared_clock here.node x) x sign in
      awaited _ (subst (IsOver (IsVariable here.node)) (clock_same k own (lawful _ i))
      (occurrence_fits P accepted checked here stands o i).over)
  known_at k n (Current a) i = awaited _ (operand_over k n a i)
  known_at k n (Call f statics es) i = λ c e.
      let clocks : ClocksAt (layout P) P here k n (Call f statics es) =
      Every-at (CalleeClocks (layout P) P here) os (at k n (Call f statics es))
      (callee_clocks P accepted checked here stands) i in
      rw (callee_path P here (call_site f statics) n 0 c e) (clocks c.node
      (callee_node P here (call_site f statics) n 0 c e)).inputs
  known_at k n (Iterate it (Node_named f statics) m es) i = λ index lt c e.
      let clocks : ClocksAt (layout P) P here k n (Iterate it (Node_named f statics) m es) =
      Every-at (CalleeClocks (layout P) P here) os
      (at k n (Iterate it (Node_named f statics) m es))
      (callee_clocks P accepted checked here stands) i in
      rw (callee_path P here (call_site f statics) n index c e) (Every-first (λ d.
      flat_clock (layout P) (Child here.path n index) (declared_clock c.node d.name) ≡ flat k)
      c.node.inputs c.node.outputs (clocks c.node
      (callee_node P here (call_site f statics) n index c e) index lt))
  known_at k n (Iterate it (Symbol op) m es) i = tt
  known_at k n e i = tt

  run_at :
      (k : Clock) (n : ℕ) (e : Expr) → In (at k n e) os →
      IsRunning Y P H (λ p x. same P accepted checked Under Left p x) IsAt Under Left here k n e
  run_at k n (Variable x) i =
      variable_run k x (lawful (at k n (Variable x)) i)
      (named (λ d. d.name) x (variables here.node))
      refl
  run_at k n (When a x sign) i =
      clock_same k (On (declared_clock here.node x) x sign) (lawful (at k n (When a x sign)) i)
  run_at k n (Call f statics es) i = λ t e.
      let o = at k n (Call f statics es) in
      let clocks : ClocksAt (layout P) P here k n (Call f statics es) =
      Every-at (CalleeClocks (layout P) P here) os o
      (callee_clocks P accepted checked here stands) i in
      let single = one_output P here f statics es t e in
      let callee = single.callee.node in
      let d = single.output in
      let known = (placed P here f statics single.callee single.is).node in
      let there = instance_there P accepted checked here stands o (call_site f statics) callee 0 i
      refl known (omega arith) in
      let own : Every (IsRunAt (flat k)) (numbers_of P (Child here.path n 0) d.name) =
      output_runs (call_site f statics) n 0 callee there d
      (subst (λ ds. In d ds) (sym single.one) (inl refl)) (flat k)
      ((clocks callee known).result d single.one) in
      let outs : outputs_of P here f ≡ d ∷ [] =
      ap (λ o. listed (λ (c : Node). c.outputs) o) known ∙ single.one in
      subst (λ ds. Every (IsRunAt (flat k))
      (flat_map (λ o. numbers_of P (Child here.path n 0) o.name) ds)) (sym outs)
      (Every-append (IsRunAt (flat k)) (numbers_of P (Child here.path n 0) d.name) [] own tt)
  run_at k n (Iterate it (Node_named f statics) m es) i =
      each_iterated (IsRunAt (flat k)) (λ index x. numbers_of P (Child here.path n index) x)
      (number P here m) (positive P accepted checked Under Left here stands k n it f statics m es i)
      it
      (outputs_of P here f)
      (iterated_all k n it f statics m es i (node_named P f) refl)
  run_at k n (Iterate it (Symbol op) m es) i = tt
  run_at k n e i = tt

  -- ## All occurrences

  -- what has to be known of the clocks of the occurrences of an instance, where what reaches its
  -- variables reaches their clocks
  pub clocks_known :
      AreClocksKnown P accepted checked Under Left here (node_occurrences P here.node)
  clocks_known =
      Every-from (λ o.
      IsClockKnown P accepted checked Under Left here o.clock o.calls_before o.expr
      × IsRunning Y P H (λ p x. same P accepted checked Under Left p x) IsAt Under Left here o.clock
      o.calls_before o.expr) os
      (λ o i. (
        known_at o.clock o.calls_before o.expr i,
        run_at o.clock o.calls_before o.expr i,
      ))
