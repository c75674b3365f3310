-- The elements that a program reads are marked, and the inputs among them are loaded.
use Rattle.std.proofs.Common.{◌≡◌, ◌+◌, ◌++◌, ◌∷◌, ◌<◌, ◌≤◌, ℕ, zero, suc, Bool, true, false}
use Rattle.std.proofs.Common.{List, [], Option, Some, None, get_or, set, length, refl, sym, ap, ◌∙◌}
use Rattle.std.proofs.Common.{◌⊎◌, subst, arith, inl, inr, ⊎_elim, length-set}
use Rattle.std.proofs.lemmas.Bool.{cases_eq, cases_lt}
use Rattle.std.proofs.lemmas.List.{get_or-set_same, get_or-set_other}
use Rattle.std.proofs.lemmas.Option.{get_or_from_slice_get, slice_get_within}
use Rattle.std.specs.Prelude.{slice_get}
use Rattle.std.specs.List.{All}
use Rattle.lb_syntax.specs.Lists.{Every}
use Rattle.lb_syntax.specs.declared.tree.Kind.{Kind}
use Rattle.lb_syntax.specs.declared.tree.Kind.TheVariants.{Int as Int_kind, Bool as Bool_kind}
use Rattle.lb_check.proofs.lists.Members.{Every-append, Every-map}
use Rattle.lb_flat.specs.Flat.{FlatEquation, Operation, Input, Constant, Copy, ApplyUnary}
use Rattle.lb_flat.specs.Flat.{ApplyBinary, Choose, FirstThen, Previous, Latest, Sample}
use Rattle.lb_flat.specs.Programs.{flat_equations, numbers_of, program_of}
use Rattle.lb_flat.specs.Run.{clock_reads, keeps, reads}
use Rattle.lb_flat.specs.Values.{clock_from, clock_within, equation_of, operation_of}
use Rattle.lb_flat.specs.declared.equation.Clock.{Clock}
use Rattle.lb_flat.specs.declared.equation.ClockId.{ClockId}
use Rattle.lb_flat.specs.declared.equation.Equation.{Equation}
use Rattle.lb_flat.specs.declared.program.FlatProgram.{FlatProgram}
use Rattle.lb_sim.specs.Homes.{word_in}
use Rattle.lb_sim.specs.InputRows.{number_columns, places_of}
use Rattle.lb_sim.specs.ReadInputs.{AreMarkedToo, FindsOperands, IsClockMarked, IsInputPlace}
use Rattle.lb_sim.specs.ReadInputs.{IsLoadedFor, LoadsReads, LoadsStill, MarksReads}
use Rattle.lb_sim.specs.declared.place.Value.{Value}

-- ## Marks

abbrev IsMarked : List Bool → ℕ → Type 0
IsMarked marks e = get_or marks e false ≡ true

pub none_marked : (marks : List Bool) → AreMarkedToo marks marks []
none_marked marks = record { as_long = refl; still = λ e h. h; marked = tt }

pub one_marked :
    (old marks : List Bool) (done : List ℕ) (e : ℕ) → e < length marks →
    AreMarkedToo old marks done → AreMarkedToo old (set marks e true) (done ++ e ∷ [])
one_marked old marks done e lt h = record {
  as_long = length-set marks e true ∙ h.as_long;
  still = λ a is. still a (h.still a is);
  marked =
      Every-append (IsMarked (set marks e true)) done (e ∷ [])
      (Every-map (IsMarked marks) (IsMarked (set marks e true)) still done h.marked)
      (get_or-set_same marks e true false lt, tt);
}
  where
    still : (a : ℕ) → get_or marks a false ≡ true → get_or (set marks e true) a false ≡ true
    still a is =
        ⊎_elim
        (λ (same : a ≡ e).
        subst (λ k. get_or (set marks e true) k false ≡ true) (sym same)
        (get_or-set_same marks e true false lt))
        (λ (other : a ≡ e → ⊥). get_or-set_other marks e a true false other ∙ is)
        (cases_eq a e)

pub marked_still :
    (old new : List Bool) (done es : List ℕ) → AreMarkedToo old new done →
    Every (λ e. get_or old e false ≡ true) es → Every (λ e. get_or new e false ≡ true) es
marked_still old new done es h m = Every-map (IsMarked old) (IsMarked new) h.still es m

-- a property of the items before place `n` and of item `n` holds of all items before `n + 1`
below_next :
    {A : Type 0} (xs : List A) (n : ℕ) (x : A) (P : A → Type 0) → get_or xs n x ≡ x → P x →
    ((i : ℕ) (y : A) → i < n → slice_get xs i ≡ Some y → P y) →
    (i : ℕ) (y : A) → i < n + 1 → slice_get xs i ≡ Some y → P y
below_next {A} xs n x P at here before i y lt e =
    by (cases_lt i n)
  where
    by : (i < n) ⊎ (n ≤ i) → P y
    by (inl below) = before i y below e
    by (inr past) =
        let same : i ≡ n = omega (arith, lt, past) in
        let found : get_or xs n x ≡ y =
        ap (λ k. get_or xs k x) (sym same) ∙ get_or_from_slice_get xs i y x e in
        subst P (sym at ∙ found) here

module _ (p : FlatProgram) where
  -- the first `n` clocks, or the first `n` equations, have their marks
  pub record MarksClocks (marks : List Bool) (n : ℕ) : Type 0 where
    pub as_long : length marks ≡ p.size
    pub clocks :
        (i : ℕ) (t : Clock) → i < n → slice_get p.clocks.items i ≡ Some t →
        IsClockMarked p.clocks.items marks t.parent

  pub record MarksOperands (marks : List Bool) (n : ℕ) : Type 0 where
    pub before : MarksClocks marks (length p.clocks.items)
    pub ticks :
        (i : ℕ) (q : Equation) → i < n → slice_get p.equations.items i ≡ Some q →
        IsClockMarked p.clocks.items marks q.clock
    pub operands :
        (i : ℕ) (q : Equation) → i < n → slice_get p.equations.items i ≡ Some q →
        FindsOperands (λ e. get_or marks e false) (operation_of q.operation)

  pub clocks_still :
      (old new : List Bool) (es : List ℕ) (n : ℕ) → AreMarkedToo old new es →
      MarksClocks old n → MarksClocks new n
  clocks_still old new es n m h = record {
    as_long = m.as_long ∙ h.as_long;
    clocks = λ i t lt e j s is at. m.still s.element.0 (h.clocks i t lt e j s is at);
  }

  pub clocks_next :
      (old new : List Bool) (n : ℕ) (t : Clock) → get_or p.clocks.items n t ≡ t →
      AreMarkedToo old new [] → IsClockMarked p.clocks.items new t.parent → MarksClocks old n →
      MarksClocks new (n + 1)
  clocks_next old new n t at m here h = record {
    as_long = m.as_long ∙ h.as_long;
    clocks =
        below_next p.clocks.items n t
        (λ (s : Clock). IsClockMarked p.clocks.items new s.parent) at here
        (clocks_still old new [] n m h).clocks;
  }

  pub operands_still :
      (old new : List Bool) (es : List ℕ) (n : ℕ) → AreMarkedToo old new es →
      MarksOperands old n → MarksOperands new n
  operands_still old new es n m h = record {
    before = clocks_still old new es (length p.clocks.items) m h.before;
    ticks = λ i q lt e j s is at. m.still s.element.0 (h.ticks i q lt e j s is at);
    operands = λ i q lt e. marked_still old new es _ m (h.operands i q lt e);
  }

  pub operands_next :
      (first old new : List Bool) (n : ℕ) (q : Equation) → get_or p.equations.items n q ≡ q →
      AreMarkedToo first old [] → IsClockMarked p.clocks.items old q.clock →
      AreMarkedToo old new (reads (operation_of q.operation) ++ keeps (operation_of q.operation)) →
      MarksOperands first n → MarksOperands new (n + 1)
  operands_next first old new n q at m' tick m given =
      let h = operands_still first old [] n m' given in
      record {
        before = clocks_still old new _ (length p.clocks.items) m h.before;
        ticks =
            below_next p.equations.items n q
            (λ (r : Equation). IsClockMarked p.clocks.items new r.clock) at
            (λ j s is e. m.still s.element.0 (tick j s is e))
            (operands_still old new _ n m h).ticks;
        operands =
            below_next p.equations.items n q
            (λ (r : Equation). FindsOperands (λ e. get_or new e false) (operation_of r.operation))
            at m.marked (λ i r lt e. marked_still old new _ _ m (h.operands i r lt e));
      }

  -- all elements that a program reads are marked, where those at which a truth is wanted are
  pub reads_marked :
      (a b d e : List Bool) (xs ys : List ℕ) (n : ℕ) → MarksOperands a n →
      length p.equations.items ≤ n → AreMarkedToo a b xs → AreMarkedToo b d ys →
      AreMarkedToo d e (p.property.0 ∷ []) → xs ≡ numbers_of p.clock_elements.items →
      ys ≡ numbers_of p.asserted.items → MarksReads p e
  reads_marked a b d e xs ys n h all m m' m'' is_clocks is_asserted =
      let marked =
      operands_still d e _ n m'' (operands_still b d ys n m' (operands_still a b xs n m h)) in
      record {
        as_long = marked.before.as_long;
        clocks = λ i t at. marked.before.clocks i t (slice_get_within p.clocks.items i t at) at;
        ticks = λ i q at.
            let lt = slice_get_within p.equations.items i q at in
            marked.ticks i q (omega (arith, lt, all)) at;
        operands = λ i q at.
            let lt = slice_get_within p.equations.items i q at in
            marked.operands i q (omega (arith, lt, all)) at;
        truths =
            subst
            (λ l. Every (IsMarked e) (l ++ (numbers_of p.asserted.items ++ p.property.0 ∷ [])))
            is_clocks
            (subst (λ l. Every (IsMarked e) (xs ++ (l ++ p.property.0 ∷ []))) is_asserted
            (Every-append (IsMarked e) xs (ys ++ p.property.0 ∷ [])
            (marked_still d e _ xs m'' (marked_still b d ys xs m' m.marked))
            (Every-append (IsMarked e) ys (p.property.0 ∷ []) (marked_still d e _ ys m'' m'.marked)
            m''.marked)));
      }

-- ## Clocks and equations of the flat program

finds_within :
    (marks : List Bool) (clocks : List Clock) →
    ((i : ℕ) (t : Clock) → slice_get clocks i ≡ Some t → IsClockMarked clocks marks t.parent) →
    (n : ℕ) (k : Option ClockId) → IsClockMarked clocks marks k →
    Every (λ e. get_or marks e false ≡ true) (clock_reads (clock_within n clocks k))
finds_within marks clocks h n None here = tt
finds_within marks clocks h zero (Some i) here = tt
finds_within marks clocks h (suc n) (Some i) here =
    by (finds_within marks clocks h n) (slice_get clocks i.0) refl
  where
    by :
        ((k : Option ClockId) → IsClockMarked clocks marks k →
        Every (λ e. get_or marks e false ≡ true) (clock_reads (clock_within n clocks k))) →
        (t : Option Clock) → slice_get clocks i.0 ≡ t →
        Every (λ e. get_or marks e false ≡ true)
        (clock_reads (clock_from (clock_within n clocks) t))
    by above None e = tt
    by above (Some t) e = (here i t refl e, above t.parent (h i.0 t e))

every_flat :
    (P : FlatEquation → Type 0) (clocks : List Clock) (qs : List Equation) →
    ((i : ℕ) (q : Equation) → slice_get qs i ≡ Some q → P (equation_of clocks q)) →
    Every P (flat_equations clocks qs)
every_flat P clocks [] h = tt
every_flat P clocks (q ∷ qs) h =
    (h 0 q refl, every_flat P clocks qs (λ i r e. h (suc i) r e))

-- ## Inputs

loaded_still :
    (read : Bool) (inputs : List Value) (old new : List ℕ) (old_truths new_truths : Bool)
    (o : Operation) → LoadsStill old new old_truths new_truths →
    IsLoadedFor read inputs old old_truths o → IsLoadedFor read inputs new new_truths o
loaded_still read inputs old new t t' (Input j) s h = λ e v at. s v (h e v at)
loaded_still read inputs old new t t' (Constant v) s h = h
loaded_still read inputs old new t t' (Copy a) s h = h
loaded_still read inputs old new t t' (ApplyUnary op a) s h = h
loaded_still read inputs old new t t' (ApplyBinary op a b) s h = h
loaded_still read inputs old new t t' (Choose c a b) s h = h
loaded_still read inputs old new t t' (FirstThen started a b) s h = h
loaded_still read inputs old new t t' (Previous v a) s h = h
loaded_still read inputs old new t t' (Latest v a) s h = h
loaded_still read inputs old new t t' (Sample a) s h = h

module _ (p : FlatProgram) (inputs : List Value) (marks : List Bool) where
  -- the inputs of the first `n` equations are loaded, where they are read
  pub record LoadsBelow (numbers : List ℕ) (truths : Bool) (n : ℕ) : Type 0 where
    pub within : All (λ w. w < length (number_columns 0 p.inputs.items)) numbers
    pub loads :
        (i : ℕ) (q : Equation) → i < n → slice_get p.equations.items i ≡ Some q →
        IsLoadedFor (get_or marks q.element.0 false) inputs numbers truths
        (operation_of q.operation)

  pub loads_next :
      (old new : List ℕ) (t t' : Bool) (n : ℕ) (q : Equation) →
      get_or p.equations.items n q ≡ q → LoadsStill old new t t' →
      All (λ w. w < length (number_columns 0 p.inputs.items)) new →
      IsLoadedFor (get_or marks q.element.0 false) inputs new t' (operation_of q.operation) →
      LoadsBelow old t n → LoadsBelow new t' (n + 1)
  loads_next old new t t' n q at still within here h = record {
    within = within;
    loads =
        below_next p.equations.items n q
        (λ (r : Equation).
        IsLoadedFor (get_or marks r.element.0 false) inputs new t' (operation_of r.operation)) at
        here
        (λ i r lt e.
        loaded_still (get_or marks r.element.0 false) inputs old new t t'
        (operation_of r.operation) still (h.loads i r lt e));
  }

  pub loads_all :
      (numbers : List ℕ) (truths : Bool) (n : ℕ) → MarksReads p marks →
      LoadsBelow numbers truths n →
      ((i : ℕ) (q : Equation) → slice_get p.equations.items i ≡ Some q → i < n) →
      LoadsReads (program_of p) inputs numbers truths
  loads_all numbers truths n m h all = record {
    read = λ e. get_or marks e false;
    finds = record {
      operands =
          every_flat (λ q. FindsOperands (λ e. get_or marks e false) q.operation) p.clocks.items
          p.equations.items m.operands;
      clocks =
          every_flat
          (λ q. Every (λ e. get_or marks e false ≡ true) (clock_reads q.clock)) p.clocks.items
          p.equations.items
          (λ i q e.
          finds_within marks p.clocks.items m.clocks (length p.clocks.items) q.clock
          (m.ticks i q e));
      truths = m.truths;
    };
    loads =
        every_flat
        (λ q. IsLoadedFor (get_or marks q.element false) inputs numbers truths q.operation)
        p.clocks.items p.equations.items (λ i q e. h.loads i q (all i q e) e);
  }

-- ## Places of inputs

pub input_places :
    (p w : ℕ) (kinds : List Kind) (k : ℕ) (d : Value) → 0 < w →
    k < length (places_of p w kinds) → IsInputPlace (get_or (places_of p w kinds) k d)
input_places p w [] k d there lt = absurd (omega (arith, lt))
input_places p w (Bool_kind ∷ kinds) zero d there lt = tt
input_places p w (Bool_kind ∷ kinds) (suc k) d there lt =
    input_places (suc p) w kinds k d there (omega (arith, lt))
input_places p w (Int_kind ∷ kinds) zero d there lt = there
input_places p w (Int_kind ∷ kinds) (suc k) d there lt =
    input_places p (suc w) kinds k d (omega arith) (omega (arith, lt))

pub input_words :
    (j p w : ℕ) (kinds : List Kind) (k : ℕ) (d : Value) → 0 < w →
    k < length (places_of p w kinds) →
    word_in (get_or (places_of p w kinds) k d) < w + length (number_columns j kinds)
input_words j p w [] k d there lt = absurd (omega (arith, lt))
input_words j p w (Bool_kind ∷ kinds) zero d there lt = omega (arith, there)
input_words j p w (Bool_kind ∷ kinds) (suc k) d there lt =
    input_words (suc j) (suc p) w kinds k d there (omega (arith, lt))
input_words j p w (Int_kind ∷ kinds) zero d there lt = omega arith
input_words j p w (Int_kind ∷ kinds) (suc k) d there lt =
    let h = input_words (suc j) p (suc w) kinds k d (omega arith) (omega (arith, lt)) in
    omega (arith, h)
