-- Tables of equations that grow, and the element that is next.
use Rattle.lb_flat.proofs.Words
use Words.{◌≡◌, ℕ, zero, suc, ◌<◌, ◌≤◌, Bool, true, false, Option, Some, None, List, length, get_or, All}
use Words.{refl, sym, subst, ◌∙◌, arith, slice_get-get_or, Every, In, ClockId}
use Words.{ElementId, FlatEquation, is_done, IsLeft, IsStuckAt, awaited, numbers_of, program_of}
use Words.{Leads, reads_it, clock_reads, reads, equation_reads, clock_within}
use Words.{equation_of, operation_of, AreClocks, IsClock, IsWithin, ◌+◌, [], ◌∷◌, ◌++◌, map}
use Words.{replicate, set, take, ap, inl, inr, ⊎_elim, length-set, cases_eq, get_or-set_same}
use Words.{get_or-set_other, take_more, AreApart, in_first, IsGiven, AreOrdered, AreScheduled}
use Words.{IsTableOf, flat_equations, Clock}
use Rattle.lb_flat.specs.{Ordering.IsTable, Programs.IsInRange, declared.equation.Equation.Equation}
use Rattle.lb_flat.{specs.declared.program.FlatProgram.FlatProgram, proofs.lists.Lists.Every-append}
use Rattle.lb_flat.proofs.{lists.Lists.Every-in, ordering.Ordering.{some_left, Every-of_All}}
use Rattle.lb_flat.proofs.ordering.Ordering.{In-All, In-get_or, In-map, In-last, In-cases, All-In}
use Rattle.lb_flat.proofs.ordering.Ordering.{from_map}

-- An element that is left leads to another element that is left.

-- ## What an equation reads

-- a clock of a table for `size` elements reads only elements below `size`
module _ (size : ℕ) (clocks : List Clock) (table : AreClocks size clocks) where
  clock_below :
      (n : ℕ) (k : Option ClockId) → IsClock clocks k →
      Every (λ i. i < size) (clock_reads (clock_within n clocks k))
  clock_below zero None is = tt
  clock_below (suc n) None is = tt
  clock_below zero (Some id) is = tt
  clock_below (suc n) (Some id) is =
      let d : Clock = record { element = record { 0 = 0 }; sign = true; parent = None } in
      let lt : id.0 < length clocks = is id refl in
      let w = table id.0 d lt in
      rw (slice_get-get_or clocks id.0 d lt) (w.element, clock_below n _ w.parent)

  reads_below :
      (q : Equation) → IsWithin size clocks q →
      Every (λ i. i < size) (equation_reads (equation_of clocks q))
  reads_below q w =
      Every-append (λ i. i < size) (reads (operation_of q.operation)) _
      (Every-of_All (λ i. i < size) (reads (operation_of q.operation)) w.operands)
      (clock_below (length clocks) q.clock w.clock)

-- where the numbers of all `ids` are below `n`, so is the number of each one
pub number_below :
    (n : ℕ) (ids : List ElementId) (i : ℕ) (d : ElementId) → All (λ j. j < n) (numbers_of ids) →
    i < length ids → (get_or ids i d).0 < n
number_below n ids i d h lt =
    In-All (λ j. j < n) (get_or ids i d).0 (numbers_of ids) h
    (In-map (λ (a : ElementId). a.0) (get_or ids i d) ids (In-get_or ids i d lt))

-- ## One step

module _ (p : FlatProgram) (table : List (Option Equation)) (done : List Bool)
    (s : IsStuckAt p table done) (from : ℕ) (l : IsLeft p done from) where
  module _ (q : Equation) (at : get_or table from None ≡ Some q) where
    is_within : IsWithin p.size p.clocks.items q
    is_within =
        In-All (IsWithin p.size p.clocks.items) q p.equations.items s.in_range.equations
        (s.table.listed from q at)

    pub marks_within : IsWithin (length done) p.clocks.items q
    marks_within =
        subst (λ n. IsWithin n p.clocks.items q) (sym (s.marks ∙ s.table.entries)) is_within

    module _ (a : ℕ) (found : awaited p.clocks.items done q ≡ Some a) where
      abbrev x : FlatEquation
      x = equation_of p.clocks.items q

      is_read : In a (equation_reads x) × (is_done done a ≡ false)
      is_read = some_left done (equation_reads x) a found

      pub left : IsLeft p done a
      left = record {
        is_element =
            Every-in (λ i. i < p.size) a (equation_reads x)
            (reads_below p.size p.clocks.items s.in_range.clocks q is_within) is_read.0;
        is_left = is_read.1;
      }

      stands : In x (program_of p).equations
      stands = In-map (equation_of p.clocks.items) q p.equations.items (s.table.listed from q at)

      pub leads : Leads (program_of p) a from
      leads = subst (Leads (program_of p) a) (s.table.own from q at) (reads_it x stands is_read.0)

      pub lower : p.variables ≤ from → a < from
      lower high =
          let own : q.element.0 ≡ from = s.table.own from q at in
          let below =
          Every-in (λ (q : FlatEquation). p.variables ≤ q.element →
          Every (λ i. i < q.element) (equation_reads q)) x (program_of p).equations s.given.lower
          stands (omega arith) in
          let lt : a < q.element.0 =
          Every-in (λ i. i < q.element.0) a (equation_reads x) below is_read.0 in
          omega arith

-- A table of equations that grows by an equation, and the order that is found with it.

-- ## Equations of different elements

abbrev pub elements_of : List Equation → List ℕ
elements_of qs = map (λ q. q.element.0) qs

flat_elements :
    (clocks : List Clock) (qs : List Equation) →
    map (λ q. q.element) (flat_equations clocks qs) ≡ elements_of qs
flat_elements clocks [] = refl
flat_elements clocks (q ∷ qs) = ap (λ is. q.element.0 ∷ is) (flat_elements clocks qs)

-- the equations of a program give different elements
pub elements_apart :
    (p : FlatProgram) → IsGiven (program_of p) → AreApart (elements_of p.equations.items)
elements_apart p given = subst AreApart (flat_elements _ _) given.once

-- no equation before place `i` gives the element of the equation at `i`
pub new_element :
    (qs : List Equation) (i : ℕ) (d : Equation) (p : Equation) → AreApart (elements_of qs) →
    i < length qs → In p (take i qs) → p.element.0 ≡ (get_or qs i d).element.0 → ⊥
new_element [] i d p h lt is same = absurd (omega arith)
new_element (q ∷ qs) zero d p h lt is same = is
new_element (q ∷ qs) (suc i) d p h lt (inl e) same =
    h.0 (subst (λ n. In n (elements_of qs))
    (sym same ∙ ap (λ (x : Equation). x.element.0) (sym e))
    (In-map (λ (x : Equation). x.element.0) (get_or qs i d) qs (In-get_or qs i d (omega arith))))
new_element (q ∷ qs) (suc i) d p h lt (inr is) same = new_element qs i d p h.1 (omega arith) is same

-- ## Tables

none_in : (n e : ℕ) → get_or (replicate {A = Option Equation} n None) e None ≡ None
none_in (suc n) (suc e) = none_in n e
none_in _ _ = refl

pub empty_table :
    (table : List (Option Equation)) → table ≡ replicate (length table) None →
    IsTableOf (length table) [] table
empty_table table empty =
    let none = λ (e : ℕ). ap (λ t. get_or t e None) empty ∙ none_in (length table) e in
    record {
      entries = refl;
      listed = λ e q h. absurd (cc (none e));
      own = λ e q h. absurd (cc (none e));
      each = λ q i. absurd i;
    }

-- a table with one equation more
module _ (size : ℕ) (qs : List Equation) (table : List (Option Equation)) (q : Equation)
    (t : IsTableOf size qs table)
    (new : (p : Equation) → In p qs → p.element.0 ≡ q.element.0 → ⊥)
    (lt : q.element.0 < length table) where
  abbrev more : List (Option Equation)
  more = set table q.element.0 (Some q)

  here : get_or more q.element.0 None ≡ Some q
  here = get_or-set_same table q.element.0 (Some q) None lt

  elsewhere : (e : ℕ) → (e ≡ q.element.0 → ⊥) → get_or more e None ≡ get_or table e None
  elsewhere e other = get_or-set_other table q.element.0 e (Some q) None other

  at : (e : ℕ) (p : Equation) → e ≡ q.element.0 → get_or more e None ≡ Some p → q ≡ p
  at e p same h = cc here

  new_entry : IsTableOf size (qs ++ q ∷ []) more
  new_entry = record {
    entries = length-set table q.element.0 (Some q) ∙ t.entries;
    listed = λ e p h.
        ⊎_elim (λ (same : e ≡ q.element.0). rw (← (at e p same h)) (In-last q qs))
        (λ (other : e ≡ q.element.0 → ⊥). in_first p qs (q ∷ [])
        (t.listed e p (sym (elsewhere e other) ∙ h))) (cases_eq e q.element.0);
    own = λ e p h.
        ⊎_elim
        (λ (same : e ≡ q.element.0). ap (λ x. x.element.0) (sym (at e p same h)) ∙ sym same)
        (λ (other : e ≡ q.element.0 → ⊥). t.own e p (sym (elsewhere e other) ∙ h))
        (cases_eq e q.element.0);
    each = λ p i.
        ⊎_elim (λ (earlier : In p qs). elsewhere _ (new p earlier) ∙ t.each p earlier)
        (λ (last : q ≡ p). rw (← last) here) (In-cases p q qs i);
  }

-- the table of the first `i + 1` equations is the table of the first `i`, with the next one entered
pub enters :
    (size : ℕ) (all : List Equation) (table : List (Option Equation)) (i : ℕ) (d : Equation) →
    i < length all → IsTableOf size (take i all) table → AreApart (elements_of all) →
    All (λ q. q.element.0 < size) all →
    IsTableOf size (take (i + 1) all)
    (set table (get_or all i d).element.0 (Some (get_or all i d)))
enters size all table i d lt t apart within =
    let q = get_or all i d in
    subst (λ qs. IsTableOf size qs (set table q.element.0 (Some q))) (sym (take_more all i d lt))
    (new_entry size (take i all) table q t
    (λ p is same. new_element all i d p apart lt is same)
    (omega (arith, within i d lt, t.entries)))

-- ## The order

module _ (p : FlatProgram) (table : List (Option Equation))
    (t : IsTableOf p.size p.equations.items table) (range : IsInRange p) where
  pub is_table : IsTable p.clocks.items table
  is_table = record {
    table_clocks = rw t.entries range.clocks;
    own = t.own;
    within = λ e q h.
        rw t.entries (In-All (IsWithin p.size p.clocks.items) q _ range.equations
        (t.listed e q h));
  }

  module _ (out : List Equation) (scheduled : AreScheduled p.clocks.items table out) where
    listed : (q : Equation) → In q out → In q p.equations.items
    listed q i = t.listed q.element.0 q (scheduled.entries q i)

    holds : (q : Equation) → In q p.equations.items → In q out
    holds q i =
        let w = In-All (IsWithin p.size p.clocks.items) q p.equations.items range.equations i in
        scheduled.holds q.element.0 q (omega (arith, w.element, t.entries)) (t.each q i)

    -- equations of one list that are also in another stay so as flat equations
    moved :
        (qs rs : List Equation) → ((q : Equation) → In q qs → In q rs) → (x : FlatEquation) →
        In x (flat_equations p.clocks.items qs) → In x (flat_equations p.clocks.items rs)
    moved qs rs f x i =
        let s = from_map (equation_of p.clocks.items) x qs i in
        rw (← s.is) (In-map (equation_of p.clocks.items) _ rs (f s.source s.is_in))

    pub are_ordered : AreOrdered p out
    are_ordered = record {
      within =
          All-In (IsWithin p.size p.clocks.items) out (λ q i. In-All
          (IsWithin p.size p.clocks.items) q _ range.equations (listed q i));
      ordering = record {
        there = moved _ out holds;
        back = moved out _ listed;
      };
      in_order = rw (← t.entries) scheduled.in_order;
    }
