-- In the layout by numbers, what an element needs it reads.
use Rattle.lb_expand.proofs.Words
use Words.{Chain, Declaration, Definition, Element, Every, Every-at, Every-from, FlatClock}
use Words.{FlatEquation, FlatProgram, HasReads, IfSome, In, Instance, IsGiven, IsVariable, Layout}
use Words.{Leads, List, Needs, NeedsAt, None, Observer, Program, Root, Some, State, [], ap, arith}
use Words.{before_instances, call_definitions, check_refusal, clock_definitions, clock_reads}
use Words.{columns_at, declared_clock, declared_over, definitions_at, elements, emit_instances}
use Words.{equation_definitions, equation_reads, expanded, flat_map, given_inputs, history_of}
use Words.{in_either, in_first, in_second, inl, input_kinds, inr, instance_at, instances, layout}
use Words.{length, map_in, more_reads, node_occurrences, numbers_below, observed}
use Words.{observer_definitions, of_pieces, one_read, own_variables, program_elements, reads, refl}
use Words.{slice_get, slice_get_within, statements, static_refusal, subst, sym, to_pieces}
use Words.{variables, waits_for, ℕ, ◌++◌, ◌<◌, ◌∙◌, ◌∷◌, ◌≡◌, ◌⊎◌}
use Rattle.lb_check.specs.Elements.{numbers_of}
use Rattle.lb_expand.proofs.clock_tables.KnownClocks.{clocks_known, waits_read}
use Rattle.lb_expand.proofs.copies.{CopiedCalls.IsDefinedBy, CopiedProgram.AreClocksKnown}
use Rattle.lb_expand.proofs.copies.CopiedProgram.{copies_defined, made, same}
use Rattle.lb_expand.proofs.{copies.GivenProgram.given_whole, fits.FitWords.{IsOn, IsVariableOn}}
use Rattle.lb_expand.proofs.{lists.Lists.{SomeOf, in_some}, numbering.NumberedFits.AreScalars}
use Rattle.lb_expand.proofs.numbering.NumberedFits.{program_fits, program_sorts, variables_on}
use Rattle.lb_expand.proofs.numbering.NumberedPlaces.{elements_declared, is_laid_out}
use Rattle.lb_expand.proofs.reads.LinkWords.{AllMeet, Meets, Pairs, either}
use Rattle.lb_expand.proofs.reads.NeedsOfCopies.{AreDeclaredOn, AreRunAt, IsRunAt, clock_at}
use Rattle.lb_expand.proofs.{reads.NeedsOfCopies.needs_by_copies, solutions.Placing.AreAsWide}
use Rattle.lb_expand.proofs.{solutions.Solving.start_closed, widths.SoundPrograms.observer_wide_in}
use Rattle.lb_flat.{proofs.lists.Lists.{Every-map, Every-second}, specs.Fitting.ClockFits}

-- What an element of an accepted program needs, its number reads: by its copy, or by its clock. So
-- an element that reaches itself by needs reaches itself by reads.

-- a chain grows by an element `e` that the equation of its end reads
pub chain_on :
    (f : FlatProgram) (q : FlatEquation) (e : ℕ) → In q f.equations →
    In e (equation_reads q) → (t : ℕ) → Chain f q.element t → Chain f e t
chain_on f q e is read _ (one_read r stands own) =
    more_reads r q.element stands own (one_read q is read)
chain_on f q e is read _ (more_reads r m stands own rest) =
    more_reads r m stands own (chain_on f q e is read m rest)

-- each item of the second of two paired lists has a partner in the first
pub pairs_second :
    {A B : Type 0} (R : A → B → Type 0) (xs : List A) (ys : List B) → Pairs R xs ys → (y : B) →
    In y ys → (x : A) × In x xs × R x y
pairs_second R (x ∷ xs) (z ∷ ys) h y (inl e) = (x, inl refl, subst (R x) e h.0)
pairs_second R (x ∷ xs) (z ∷ ys) h y (inr i) =
    let r = pairs_second R xs ys h.1 y i in (r.0, inr r.1, r.2)
pairs_second R [] [] h y i = absurd i
pairs_second R _ _ h y i = absurd h

-- element `y` of a variable has number `i`
abbrev IsAt : Program → Element → ℕ → Type 0
IsAt P y i = slice_get (program_elements P) i ≡ Some y

-- the clock of a variable reads the element `y` of a variable
abbrev IsReadBy : Program → Instance → Declaration → Element → Type 0
IsReadBy P c d y = (i : ℕ) × In i (clock_reads (clock_at P c d)) × IsAt P y i

-- the clock of each variable of an instance reads the elements that it waits for
abbrev AreAwaited : Program → Instance → Type 0
AreAwaited P c =
    Every (λ d. Every (IsReadBy P c d) (waits_for P c (declared_clock c.node d.name)))
    (variables c.node)

module _ (P : Program) (accepted : static_refusal P ≡ None) (checked : check_refusal P ≡ None)
    (observer_wide :
    IfSome (instance_at P Root) (λ root. IfSome (instance_at P Observer) (λ observer.
    AreAsWide (history_of (layout P) [] []) Observer observer.node.inputs
    (columns_at (history_of (layout P) [] []) Root (root.node.inputs ++ root.node.outputs)))))
    (clocks : (Under : ℕ → ℕ → Type 0) (Left : ℕ → Type 0) (here : Instance) →
    ((c : Instance) → In c (instances P) → AreRunAt P Under c) → In here (instances P) →
    AreClocksKnown P accepted checked Under Left here (node_occurrences P here.node))
    (given : IsGiven (expanded (layout P) P (length (program_elements P))))
    (K : ℕ → FlatClock)
    (own : Every (λ q. K q.element ≡ q.clock)
    (expanded (layout P) P (length (program_elements P))).equations)
    (declared : (c : Instance) → In c (instances P) → AreDeclaredOn P K c)
    (awaited : (c : Instance) → In c (instances P) → AreAwaited P c) where
  abbrev Y : Layout
  Y = layout P

  abbrev count : ℕ
  count = length (program_elements P)

  abbrev f : FlatProgram
  f = expanded (layout P) P (length (program_elements P))

  abbrev final : State
  final = emit_instances Y P (before_instances count) (instances P)

  -- `t` is `e`, or `e` reaches `t` along reads
  abbrev Under : ℕ → ℕ → Type 0
  Under t e = (t ≡ e) ⊎ Chain f e t

  abbrev Left : ℕ → Type 0
  Left e = ⊥

  meets : (q : FlatEquation) → In q f.equations → Meets (IsAt P) Under Left q
  meets q is = record {
    there = λ t u. Every-from (Under t) (equation_reads q) (λ e i. by t e i u);
    back = λ g. absurd g;
  }
    where
      by : (t e : ℕ) → In e (equation_reads q) → Under t q.element → Under t e
      by t e i (inl here) = inr (subst (Chain f e) (sym here) (one_read q is i))
      by t e i (inr chain) = inr (chain_on f q e is i t chain)

  -- each element of a variable has an equation
  own_reads : (i : ℕ) → i < count → (q : FlatEquation) × In q f.equations × (q.element ≡ i)
  own_reads i lt =
      map_in (λ (q : FlatEquation). q.element) f.equations i
      (given.each i
      (omega (arith, lt, (start_closed count Y P (is_laid_out P accepted)).next)))

  variable_runs : (c : Instance) → In c (instances P) → AreRunAt P Under c
  variable_runs c j =
      Every-from (λ d. Every (IsRunAt P Under c d) (numbers_of P c.path d.name)) (variables c.node)
      (λ d i.
      let all = Every-at (λ d. Every (λ i. K i ≡ clock_at P c d) (numbers_of P c.path d.name))
      (variables c.node) d (declared c j) i in
      Every-from (IsRunAt P Under c d) (numbers_of P c.path d.name) (λ m at t u.
      let q = own_reads m (below c.path d m at) in
      let clock : q.0.clock ≡ clock_at P c d =
      sym (Every-at (λ q. K q.element ≡ q.clock) f.equations q.0 own q.1)
      ∙ (ap K q.2 ∙ Every-at (λ i. K i ≡ clock_at P c d) (numbers_of P c.path d.name) m all at) in
      let seen = (meets q.0 q.1).there t (subst (Under t) (sym q.2) u) in
      subst (λ k. Every (Under t) (clock_reads k)) clock
      (Every-second (Under t) (reads q.0.operation) (clock_reads q.0.clock) seen)))
    where
      below : (p : _) (d : Declaration) (m : ℕ) → In m (numbers_of P p d.name) → m < count
      below p d m at = Every-at (λ i. i < count) (numbers_of P p d.name) m
          (numbers_below P accepted p d.name) at

  further_met : AllMeet (IsAt P) Under Left final.equations
  further_met =
      Every-from (Meets (IsAt P) Under Left) final.equations (λ q i.
      meets q
      (in_second q (given_inputs Y (instance_at P Root)) _
      (in_second q (observed Y (instance_at P Root) (instance_at P Observer)) _
      (in_second q final.copies final.equations i))))

  copies_in : (q : FlatEquation) →
      In q (observed Y (instance_at P Root) (instance_at P Observer) ++ final.copies) →
      In q f.equations
  copies_in q i =
      in_second q (given_inputs Y (instance_at P Root)) _
      (either (λ j. in_first q (observed Y (instance_at P Root) (instance_at P Observer)) _ j)
      (λ j. in_second q (observed Y (instance_at P Root) (instance_at P Observer)) _
      (in_first q final.copies final.equations j)) (in_either q _ _ i))

  -- ## Needs by statements, calls and the observer

  abbrev Defined : FlatEquation → Definition → Type 0
  Defined q d =
      IsDefinedBy Y P (history_of (layout P) [] [])
      (λ p x. same P accepted checked Under Left p x) (IsAt P) Under Left q d

  abbrev every_copy : List FlatEquation
  every_copy = observed Y (instance_at P Root) (instance_at P Observer) ++ final.copies

  abbrev made_all : List Definition
  made_all =
      made P accepted checked observer_wide Under Left
      (λ here. clocks Under Left here variable_runs)

  by_copy : (d : Definition) (y : Element) → In d made_all → In y d.needed →
      HasReads P f d.element y
  by_copy d y stands names =
      let whole = copies_defined P accepted checked observer_wide Under Left
      (λ here. clocks Under Left here variable_runs) further_met in
      let some = Every-at (λ d. SomeOf (λ q. Defined q d) every_copy) made_all d whole.second
      stands in
      let q = in_some (λ q. Defined q d) every_copy some in
      let by : Defined q.0 d = q.2 in
      let copied : In by.operand (equation_reads q.0) =
      subst (λ o. In by.operand (reads o ++ clock_reads q.0.clock)) (sym by.copies) (inl refl) in
      let there = Every-at (λ y. (m : ℕ) × IsAt P y m × Under by.operand m) d.needed y
      (by.link.there by.operand (inl refl)) names in
      record {
        one = q.0.element;
        other = there.0;
        is_one = by.is_at;
        is_other = there.1;
        chain = reached q.0 (copies_in q.0 q.1) by.operand copied there.0 there.2;
      }
    where
      reached :
          (q : FlatEquation) → In q f.equations → (k : ℕ) → In k (equation_reads q) → (j : ℕ) →
          Under k j → Chain f j q.element
      reached q is k own_read j (inl here) =
          one_read q is (subst (λ e. In e (equation_reads q)) here own_read)
      reached q is k own_read j (inr chain) = more_reads q k is own_read chain

  -- ## Needs by a clock

  by_clock :
      (c : Instance) → In c (instances P) → (v : Declaration) → In v (variables c.node) →
      (x y : Element) → In x (elements P c v) →
      In y (waits_for P c (declared_clock c.node v.name)) → HasReads P f x y
  by_clock c k v of x y among names =
      let n = pairs_second (λ i y. IsAt P y i) (numbers_of P c.path v.name) (elements P c v)
      (Every-at (λ d. Pairs (λ i y. IsAt P y i) (numbers_of P c.path d.name) (elements P c d))
      (variables c.node) v (elements_declared P accepted c k) of) x among in
      let clock = Every-at (λ i. K i ≡ clock_at P c v) (numbers_of P c.path v.name) n.0
      (Every-at (λ d. Every (λ i. K i ≡ clock_at P c d) (numbers_of P c.path d.name))
      (variables c.node) v (declared c k) of) n.1 in
      let waited = Every-at (IsReadBy P c v) (waits_for P c (declared_clock c.node v.name)) y
      (Every-at (λ d. Every (IsReadBy P c d) (waits_for P c (declared_clock c.node d.name)))
      (variables c.node) v (awaited c k) of) names in
      let q = own_reads n.0 (slice_get_within (program_elements P) n.0 x n.2) in
      let own_clock : clock_at P c v ≡ q.0.clock = sym clock
      ∙ (sym (ap K q.2) ∙ Every-at (λ q. K q.element ≡ q.clock) f.equations q.0 own q.1) in
      let read : In waited.0 (clock_reads q.0.clock) = subst (λ l. In waited.0 (clock_reads l))
      own_clock waited.1 in
      record {
        one = n.0;
        other = waited.0;
        is_one = n.2;
        is_other = waited.2;
        chain = subst (Chain f waited.0) q.2
            (one_read q.0 q.1
            (in_second waited.0 (reads q.0.operation) (clock_reads q.0.clock) read));
      }

  -- ## All needs

  -- the definitions by statements and calls of an instance
  abbrev eqs : Instance → List Definition
  eqs c = flat_map (λ s. equation_definitions P c s.0 s.1) (statements P c.node)

  abbrev calls : Instance → List Definition
  calls c = flat_map (λ o. call_definitions P c o.calls_before o.expr) (node_occurrences P c.node)

  abbrev of_clocks : Instance → List Definition
  of_clocks c = flat_map (clock_definitions P c) (variables c.node)

  abbrev made_at : Instance → List Definition
  made_at c = eqs c ++ calls c

  abbrev of_observer : List Definition
  of_observer = observer_definitions P (instance_at P Root) (instance_at P Observer)

  clock_read :
      (d : Definition) (y : Element) (c : Instance) → In c (instances P) → In d (of_clocks c) →
      In y d.needed → HasReads P f d.element y
  clock_read d y c k stands names =
      let p = of_pieces (clock_definitions P c) d (variables c.node) stands in
      let v = p.source in
      let needed = waits_for P c (declared_clock c.node v.name) in
      let m = map_in (λ (x : Element). let z : Definition =
      record { element = x; needed = needed } in z) (elements P c v) d p.holds in
      subst (λ (z : Definition). HasReads P f z.element y) m.2
      (by_clock c k v p.is_in m.0 y m.1
      (subst (λ (z : Definition). In y z.needed) (sym m.2) names))

  instance_read :
      (d : Definition) (y : Element) (c : Instance) → In c (instances P) →
      In d (definitions_at P c) → In y d.needed → HasReads P f d.element y
  instance_read d y c k stands names =
      either (λ h. copied (in_first d (eqs c) (calls c) h))
      (λ h. either (λ h. copied (in_second d (eqs c) (calls c) h)) (λ h. clock_read d y c k h names)
      (in_either d (calls c) (of_clocks c) h)) (in_either d (eqs c) (calls c ++ of_clocks c) stands)
    where
      copied : In d (made_at c) → HasReads P f d.element y
      copied h =
          by_copy d y
          (in_first d (flat_map made_at (instances P)) of_observer
          (to_pieces made_at d c (instances P) k h)) names

  -- where an element needs another, its number reads the number of the other
  pub needs_read : (x y : Element) → Needs P x y → HasReads P f x y
  needs_read x y n =
      subst (λ x. HasReads P f x y) n.is_of
      (either (λ h.
      let p = of_pieces (definitions_at P) n.by (instances P) h in
      instance_read n.by y p.source p.is_in p.holds n.names)
      (λ h. by_copy n.by y (in_second n.by (flat_map made_at (instances P)) of_observer h) n.names)
      (in_either n.by (flat_map (definitions_at P) (instances P)) of_observer n.stands))

-- In the layout by numbers, the reads of the elements of an accepted program are their needs: each
-- element is given once, a read from variable to variable is a need, a need is a chain of reads, a
-- program with an order is causal, and a cycle of reads is a certificate.

module _ (P : Program) (accepted : static_refusal P ≡ None) (checked : check_refusal P ≡ None)
  where
    -- each element has exactly one equation, and a temporary reads lower ones alone
    pub given_once : IsGiven (expanded (layout P) P (length (program_elements P)))
    given_once = given_whole P accepted checked (observer_wide_in P accepted [] [])

    -- the clock of a variable reads the elements that it waits for
    awaited : (c : Instance) → In c (instances P) → AreAwaited P c
    awaited c j =
        Every-from (λ d. Every (IsReadBy P c d) (waits_for P c (declared_clock c.node d.name)))
        (variables c.node) (λ d i.
        waits_read P accepted checked c j (declared_clock c.node d.name)
        (declared_over (IsVariable c.node) c.node (own_variables c.node) d.name))

    -- the elements of variables are on the clocks of their declarations
    declared : (c : Instance) → In c (instances P) → AreDeclaredOn P (program_sorts P).clock_of c
    declared c j =
        Every-map (IsVariableOn (program_sorts P) (layout P) P c)
        (λ d. Every (λ i. (program_sorts P).clock_of i ≡ clock_at P c d)
        (numbers_of P c.path d.name))
        (λ d on. Every-map (IsOn (program_sorts P) (clock_at P c d) d.kind)
        (λ i. (program_sorts P).clock_of i ≡ clock_at P c d) (λ i h. h.0)
        (numbers_of P c.path d.name) on.elements) (variables c.node) (variables_on P accepted c j)

    module _ (scalars : AreScalars P) where
      -- each equation is on the clock of its element
      own :
          Every (λ q. (program_sorts P).clock_of q.element ≡ q.clock)
          (expanded (layout P) P (length (program_elements P))).equations
      own =
          Every-map (ClockFits (length (input_kinds P)) (program_sorts P).clock_of)
          (λ q. (program_sorts P).clock_of q.element ≡ q.clock) (λ q fits. fits.own)
          (expanded (layout P) P (length (program_elements P))).equations
          (program_fits P accepted checked scalars).clocks

      -- an element of a variable needs each one that it reads by way of temporaries
      pub needs_are :
          (i j : ℕ) → i < length (program_elements P) → j < length (program_elements P) →
          Leads (expanded (layout P) P (length (program_elements P))) j i → NeedsAt P i j
      needs_are = needs_by_copies P accepted checked (program_sorts P).clock_of own declared

      -- the number of an element reads the numbers of all elements that the element needs
      pub needs_reads :
          (x y : Element) → Needs P x y →
          HasReads P (expanded (layout P) P (length (program_elements P))) x y
      needs_reads =
          needs_read P accepted checked (observer_wide_in P accepted [] [])
          (λ Under Left here runs j. clocks_known P accepted checked Under Left here runs j)
          given_once
          (program_sorts P).clock_of own declared awaited
