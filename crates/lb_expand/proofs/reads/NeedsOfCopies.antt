-- What an element reads by way of temporaries, it needs.
use Rattle.lb_expand.proofs.Words
use Words.{◌≡◌, ◌⊎◌, inl, inr, ℕ, ◌<◌, ◌≤◌, Some, length, refl, subst, sym, arith, slice_get}
use Words.{slice_get_within, In, Program, program_elements, Element, Definition, definitions}
use Words.{FlatEquation, IsGiven, FlatProgram, Leads, reads_it, by_way, NeedsAt, equation_reads}
use Words.{suc, Option, None, List, [], ◌∷◌, ◌++◌, flat_map, ap, ◌∙◌, range_with_len, Every}
use Words.{Declaration, item_at, variables, width, Instance, Root, Observer, instance_at, instances}
use Words.{static_refusal, in_at, in_map, map_in, check_refusal, declared_clock, instance_elements}
use Words.{elements, definitions_at, observer_definitions, equation_definitions, call_definitions}
use Words.{clock_definitions, waits_for, statements, node_occurrences, in_first, in_second}
use Words.{in_either, Every-at, Every-from, of_pieces, to_pieces, declared_over, IsVariable}
use Words.{own_variables, FlatClock, history_of, Layout, flat_clock, layout, clock_reads, reads}
use Words.{State, Target, from_inputs, given_inputs, observed, before_instances, emit_instances}
use Words.{expanded}
use Rattle.lb_check.{specs.Elements.numbers_of, proofs.lists.Members.apart_single}
use Rattle.{lb_check.proofs.programs.AcceptedElements.number_in, lb_expand.specs.Emit.input_targets}
use Rattle.lb_expand.proofs.clock_tables.KnownClocks.{reads_wait, clocks_known}
use Rattle.lb_expand.proofs.copies.CopiedCalls.{IsDefinedBy}
use Rattle.lb_expand.proofs.copies.CopiedProgram.{made, copies_defined, made_in, same}
use Rattle.lb_expand.proofs.copies.{CopiedProgram.AreClocksKnown, GivenProgram.given_whole}
use Rattle.lb_expand.proofs.lists.Lists.{SomeOf, some_of_in, in_some, some_split}
use Rattle.lb_expand.proofs.numbering.NumberedPlaces.{is_laid_out}
use Rattle.lb_expand.proofs.{reads.LinkWords.{AllMeet, Meets, either}, solutions.Filling.Fresh}
use Rattle.lb_expand.proofs.{solutions.Solving.start_closed, widths.SoundPrograms.observer_wide_in}

-- Where an element of a variable reads another by way of temporaries, it needs that element.

-- `Q` holds of the number of an element
abbrev pub HasNumber : Program → (ℕ → Type 0) → Element → Type 0
HasNumber P Q x = (i : ℕ) × (slice_get (program_elements P) i ≡ Some x) × Q i

-- the element with number `i` has a definition that needs an element of which `Q` holds
pub record IsNeeding (P : Program) (Q : ℕ → Type 0) (i : ℕ) : Type 0 where
  pub definition : Definition
  pub stands : In definition (definitions P)
  pub is_at : slice_get (program_elements P) i ≡ Some definition.element
  pub needed : SomeOf (HasNumber P Q) definition.needed

-- a temporary that is left reads an element that is left
abbrev pub PassesOn : FlatProgram → (ℕ → Type 0) → Type 0
PassesOn f Left =
    (q : FlatEquation) → In q f.equations → f.variables ≤ q.element → Left q.element →
    SomeOf Left (equation_reads q)

-- an element of a variable that reads an element that is left also needs one
abbrev pub ReadsNeeds : Program → FlatProgram → (ℕ → Type 0) → Type 0
ReadsNeeds P f Left =
    (q : FlatEquation) → In q f.equations → q.element < f.variables →
    SomeOf Left (equation_reads q) → IsNeeding P Left q.element

module _ (P : Program) (f : FlatProgram) (given : IsGiven f)
    (count : f.variables ≡ length (program_elements P))
    (reading : (Left : ℕ → Type 0) → PassesOn f Left → ReadsNeeds P f Left) (j : ℕ)
    (is_variable : j < f.variables) where
  -- `j` itself, or a temporary to which `j` leads
  abbrev Left : ℕ → Type 0
  Left e = (e ≡ j) ⊎ ((f.variables ≤ e) × Leads f j e)

  record IsFirstRead (i : ℕ) : Type 0 where
    equation : FlatEquation
    stands : In equation f.equations
    is_of : equation.element ≡ i
    reads : SomeOf Left (equation_reads equation)

  first_read : (i : ℕ) → Leads f j i → IsFirstRead i
  first_read _ (reads_it q is reads) = record {
    equation = q;
    stands = is;
    is_of = refl;
    reads = some_of_in Left (equation_reads q) j reads (inl refl);
  }
  first_read _ (by_way q e is reads high rest) = record {
    equation = q;
    stands = is;
    is_of = refl;
    reads = some_of_in Left (equation_reads q) e reads (inr (high, rest));
  }

  passes_on : PassesOn f Left
  passes_on q is high (inl e) = absurd (omega (arith, e))
  passes_on q is high (inr h) =
      let r = first_read q.element h.1 in
      let same : r.equation ≡ q =
      apart_single (λ (q : FlatEquation). q.element) f.equations r.equation q given.once r.stands
      is r.is_of in
      subst (λ (q : FlatEquation). SomeOf Left (equation_reads q)) same r.reads

  -- the only element of a variable that is `Left` is `j`
  is_one : (i : ℕ) → i < length (program_elements P) → Left i → i ≡ j
  is_one i lt (inl e) = e
  is_one i lt (inr h) = let high = h.0 in absurd (omega (arith, count))

  -- what leads from a variable's element to another is a need
  pub needs_of : (i : ℕ) → i < f.variables → Leads f j i → NeedsAt P i j
  needs_of i lt leads =
      let r = first_read i leads in
      let low : r.equation.element < f.variables = subst (λ k. k < f.variables) (sym r.is_of) lt in
      let n = reading Left passes_on r.equation r.stands low r.reads in
      let y = in_some (HasNumber P Left) n.definition.needed n.needed in
      let number = y.2.0 in
      let same : number ≡ j =
      is_one number (slice_get_within (program_elements P) number y.0 y.2.1) y.2.2 in
      record {
        one = n.definition.element;
        other = y.0;
        is_one = subst (λ k. slice_get (program_elements P) k ≡ Some n.definition.element) r.is_of
            n.is_at;
        is_other = subst (λ k. slice_get (program_elements P) k ≡ Some y.0) same y.2.1;
        needs = record {
          by = n.definition;
          stands = n.stands;
          is_of = refl;
          names = y.1;
        };
      }

-- Where an element of a variable of an accepted program reads another, by way of temporaries,
-- it needs that element: by the definition that its copy is, or by the clock of its variable.

-- equations of the elements from `n` on give no element below `n`
fresh_high :
    (n : ℕ) (qs : List FlatEquation) → Fresh n qs → (q : FlatEquation) → In q qs → n ≤ q.element
fresh_high n [] h q i = absurd i
fresh_high n (p ∷ qs) h q (inl e) =
    let own : n ≡ q.element = sym h.0.element ∙ ap (λ (r : FlatEquation). r.element) e in
    omega (arith, own)
fresh_high n (p ∷ qs) h q (inr i) = omega (arith, fresh_high (suc n) qs h.1 q i)

-- the operations of inputs read no elements
inputs_read : (j : ℕ) (ts : List Target) → Every (λ q. reads q.operation ≡ []) (from_inputs j ts)
inputs_read j [] = tt
inputs_read j (t ∷ ts) = (refl, inputs_read (suc j) ts)

given_read :
    (Y : Layout) (root : Option Instance) →
    Every (λ q. reads q.operation ≡ []) (given_inputs Y root)
given_read Y None = tt
given_read Y (Some root) = inputs_read 0 (input_targets Y root)

-- the element with number `i` is an element of a variable of an instance
record IsElementOf (P : Program) (i : ℕ) : Type 0 where
  instance : Instance
  stands : In instance (instances P)
  declaration : Declaration
  declares : In declaration (variables instance.node)
  element : Element
  is_at : slice_get (program_elements P) i ≡ Some element
  among : In element (elements P instance declaration)
  numbered : In i (numbers_of P instance.path declaration.name)

element_in :
    (P : Program) (x : Element) → In x (program_elements P) →
    In x (flat_map (instance_elements P) (instances P))
unfolding program_elements
element_in P x i = i

element_of :
    (P : Program) → static_refusal P ≡ None → (i : ℕ) → i < length (program_elements P) →
    IsElementOf P i
element_of P accepted i lt =
    let x = item_at (program_elements P) i lt in
    let here = of_pieces (instance_elements P) x.0 (instances P)
    (element_in P x.0 (in_at (program_elements P) i x.0 x.1)) in
    let c = here.source in
    let own = of_pieces (elements P c) x.0 (variables c.node) here.holds in
    let d = own.source in
    let at = map_in (λ (k : ℕ). let y : Element =
    record { path = c.path; variable = d.name; index = k } in y) (range_with_len 0 (width P c d))
    x.0 own.holds in
    record {
      instance = c;
      stands = here.is_in;
      declaration = d;
      declares = own.is_in;
      element = x.0;
      is_at = x.1;
      among = own.holds;
      numbered =
          subst (λ (y : Element). In i (numbers_of P y.path y.variable)) (sym at.2)
          (number_in P accepted i x.0 x.1);
    }

-- the flat clock of a variable of an instance
abbrev pub clock_at : Program → Instance → Declaration → FlatClock
clock_at P c d = flat_clock (layout P) c.path (declared_clock c.node d.name)

-- the elements of the variables of an instance are on the clocks of their declarations
abbrev pub AreDeclaredOn : Program → (ℕ → FlatClock) → Instance → Type 0
AreDeclaredOn P K c =
    Every (λ d. Every (λ i. K i ≡ clock_at P c d) (numbers_of P c.path d.name)) (variables c.node)

-- where `Under t` holds of an element of a variable, it holds of all that the clock of this reads
abbrev pub IsRunAt : Program → (ℕ → ℕ → Type 0) → Instance → Declaration → ℕ → Type 0
IsRunAt P Under c d i = (t : ℕ) → Under t i → Every (Under t) (clock_reads (clock_at P c d))

-- and so it is for all elements of the variables of an instance
abbrev pub AreRunAt : Program → (ℕ → ℕ → Type 0) → Instance → Type 0
AreRunAt P Under c =
    Every (λ d. Every (IsRunAt P Under c d) (numbers_of P c.path d.name)) (variables c.node)

module _ (P : Program) (accepted : static_refusal P ≡ None) (checked : check_refusal P ≡ None)
    (K : ℕ → FlatClock)
    (own : Every (λ q. K q.element ≡ q.clock)
    (expanded (layout P) P (length (program_elements P))).equations)
    (declared : (c : Instance) → In c (instances P) → AreDeclaredOn P K c) where
  abbrev Y : Layout
  Y = layout P

  abbrev count : ℕ
  count = length (program_elements P)

  abbrev f : FlatProgram
  f = expanded (layout P) P (length (program_elements P))

  abbrev final : State
  final = emit_instances Y P (before_instances count) (instances P)

  abbrev IsAt : Element → ℕ → Type 0
  IsAt y i = slice_get (program_elements P) i ≡ Some y

  -- ## Needs by a clock

  clock_stands :
      (c : Instance) → In c (instances P) → (d : Declaration) → In d (variables c.node) →
      (x : Element) → In x (elements P c d) →
      In (let z : Definition =
      record { element = x; needed = waits_for P c (declared_clock c.node d.name) } in z)
      (definitions P)
  clock_stands c i d j x k =
      let needed = waits_for P c (declared_clock c.node d.name) in
      let z : Definition = record { element = x; needed = needed } in
      let eqs = flat_map (λ s. equation_definitions P c s.0 s.1) (statements P c.node) in
      let calls =
      flat_map (λ o. call_definitions P c o.calls_before o.expr) (node_occurrences P c.node) in
      let clocks = flat_map (clock_definitions P c) (variables c.node) in
      let one : In z (clock_definitions P c d) =
      in_map (λ (x : Element). let z : Definition = record { element = x; needed = needed } in z)
      (elements P c d) x k in
      in_first z (flat_map (definitions_at P) (instances P))
      (observer_definitions P (instance_at P Root) (instance_at P Observer))
      (to_pieces (definitions_at P) z c (instances P) i
      (in_second z eqs (calls ++ clocks)
      (in_second z calls clocks
      (to_pieces (clock_definitions P c) z d (variables c.node) j one))))

  -- an element of a variable whose clock reads an element that is `Left` needs such an element
  by_clock :
      (Left : ℕ → Type 0) (q : FlatEquation) → In q f.equations → q.element < count →
      SomeOf Left (clock_reads q.clock) → IsNeeding P Left q.element
  by_clock Left q is low some =
      let e = element_of P accepted q.element low in
      let c = e.instance in
      let d = e.declaration in
      let k = declared_clock c.node d.name in
      let clock : q.clock ≡ flat_clock (layout P) c.path k =
      sym (Every-at (λ q. K q.element ≡ q.clock) f.equations q own is)
      ∙ Every-at (λ i. K i ≡ clock_at P c d) (numbers_of P c.path d.name) q.element
      (Every-at (λ d. Every (λ i. K i ≡ clock_at P c d) (numbers_of P c.path d.name))
      (variables c.node) d (declared c e.stands) e.declares) e.numbered in
      let read = in_some Left (clock_reads q.clock) some in
      let back = Every-at (λ i.
      (x : Element) × In x (waits_for P c k) × (slice_get (program_elements P) i ≡ Some x))
      (clock_reads (flat_clock (layout P) c.path k)) read.0
      (reads_wait P accepted checked c e.stands k
      (declared_over (IsVariable c.node) c.node (own_variables c.node) d.name))
      (subst (λ k. In read.0 (clock_reads k)) clock read.1) in
      record {
        definition = record { element = e.element; needed = waits_for P c k };
        stands = clock_stands c e.stands d e.declares e.element e.among;
        is_at = e.is_at;
        needed =
            some_of_in (HasNumber P Left) (waits_for P c k) back.0 back.1 (read.0, back.2, read.2);
      }

  -- ## Needs by copies

  module _ (Left : ℕ → Type 0) (passes : PassesOn f Left) where
    abbrev Under : ℕ → ℕ → Type 0
    Under t i = ⊥

    further_high : (q : FlatEquation) → In q final.equations → count ≤ q.element
    further_high q i =
        fresh_high count final.equations (start_closed count Y P (is_laid_out P accepted)).fresh q i

    met : AllMeet IsAt Under Left final.equations
    met =
        Every-from (Meets IsAt Under Left) final.equations (λ q i. record {
          there = λ t u. absurd u;
          back = λ g. passes q (in_second q (given_inputs Y (instance_at P Root)) _ (in_second q
              (observed Y (instance_at P Root) (instance_at P Observer)) _ (in_second q final.copies
              final.equations i))) (further_high q i) g;
        })

    runs : (c : Instance) → In c (instances P) → AreRunAt P Under c
    runs c j =
        Every-from (λ d. Every (IsRunAt P Under c d) (numbers_of P c.path d.name))
        (variables c.node)
        (λ d i. Every-from (IsRunAt P Under c d) (numbers_of P c.path d.name)
        (λ m at t u. absurd u))

    known : (here : Instance) → In here (instances P) →
        AreClocksKnown P accepted checked Under Left here (node_occurrences P here.node)
    known here j = clocks_known P accepted checked Under Left here runs j

    abbrev Defined : FlatEquation → Definition → Type 0
    Defined q d =
        IsDefinedBy Y P (history_of (layout P) [] [])
        (λ p x. same P accepted checked Under Left p x) IsAt Under Left q d

    abbrev made_all : List Definition
    made_all = made P accepted checked (observer_wide_in P accepted [] []) Under Left known

    abbrev every_copy : List FlatEquation
    every_copy = observed Y (instance_at P Root) (instance_at P Observer) ++ final.copies

    -- an element whose copy is a definition and reads an element that is `Left` needs one
    defined_needs :
        (q : FlatEquation) (d : Definition) → In d made_all → Defined q d → In q f.equations →
        q.element < count → SomeOf Left (equation_reads q) → IsNeeding P Left q.element
    defined_needs q d stands by is low some =
        either
        (λ h. either (λ g. either linked (λ g. by_clock Left q is low g) (by.link.back g))
        (λ n. absurd n) (subst (λ o. SomeOf Left (reads o)) by.copies h))
        (λ g. by_clock Left q is low g)
        (some_split Left (reads q.operation) (clock_reads q.clock) some)
      where
        linked : SomeOf (HasNumber P Left) d.needed → IsNeeding P Left q.element
        linked h =
            record {
              definition = d;
              stands = made_in P accepted checked (observer_wide_in P accepted [] []) Under Left
                  known d stands;
              is_at = by.is_at;
              needed = h;
            }

    copied :
        (q : FlatEquation) → In q every_copy → In q f.equations → q.element < count →
        SomeOf Left (equation_reads q) → IsNeeding P Left q.element
    copied q i is low some =
        let whole =
        copies_defined P accepted checked (observer_wide_in P accepted [] []) Under Left known met in
        let d = in_some (λ d. Defined q d) made_all
        (Every-at (λ q. SomeOf (λ d. Defined q d) made_all) every_copy q whole.first i) in
        defined_needs q d.0 d.1 d.2 is low some

    -- an element of a variable that reads an element that is `Left` needs one
    reading : ReadsNeeds P f Left
    reading q is low some =
        either given
        (λ i. either of_observer (λ i. either of_copies of_temporaries (in_either q _ _ i))
        (in_either q _ _ i)) (in_either q inputs _ is)
      where
        inputs : List FlatEquation
        inputs = given_inputs Y (instance_at P Root)

        seen : List FlatEquation
        seen = observed Y (instance_at P Root) (instance_at P Observer)

        given : In q inputs → IsNeeding P Left q.element
        given i =
            either
            (λ h. absurd
            (subst (SomeOf Left)
            (Every-at (λ q. reads q.operation ≡ []) inputs q (given_read Y (instance_at P Root)) i)
            h)) (λ h. by_clock Left q is low h)
            (some_split Left (reads q.operation) (clock_reads q.clock) some)

        of_observer : In q seen → IsNeeding P Left q.element
        of_observer i = copied q (in_first q seen final.copies i) is low some

        -- an equation among the copies gives an element that needs what is left
        of_copies : In q final.copies → IsNeeding P Left q.element
        of_copies i = copied q (in_second q seen final.copies i) is low some

        -- and none of the equations of temporaries gives an element of a variable
        of_temporaries : In q final.equations → IsNeeding P Left q.element
        of_temporaries i = let high = further_high q i in absurd (omega (arith, high, low))

  -- where element `j` leads to element `i` of a variable, `i` needs `j`
  pub needs_by_copies :
      (i j : ℕ) → i < length (program_elements P) → j < length (program_elements P) →
      Leads (expanded (layout P) P (length (program_elements P))) j i → NeedsAt P i j
  needs_by_copies i j lt is_variable leads =
      needs_of P f (given_whole P accepted checked (observer_wide_in P accepted [] [])) refl reading j
      is_variable i lt leads
