-- The loop over the equations of a program: the code of each, the place of its element, and the
-- planes of clocks.
use Rattle.std.proofs.Common.{◌≡◌, ◌≢◌, ◌<◌, ◌≤◌, ◌+◌, ℕ, Option, Some, None, List, [], ◌∷◌, set}
use Rattle.std.proofs.Common.{length, get_or, replicate, All, sym, ap, ◌∙◌, subst, inl, inr, ⊎_elim}
use Rattle.std.proofs.Common.{arith, false, true, refl}
use Rattle.std.proofs.lemmas.List.{get_or-map, get_or-set_same, get_or-set_other, length-map}
use Rattle.std.proofs.lemmas.List.{length-replicate, get_or_default}
use Rattle.std.proofs.lemmas.List.Elements.{All-set, All-replicate}
use Rattle.lb_syntax.specs.Lists.{Every, In}
use Rattle.lb_syntax.specs.declared.tree.Kind.{Kind}
use Rattle.lb_syntax.specs.declared.tree.Kind.TheVariants.{Int}
use Rattle.lb_flat.specs.Fitting.{OperandKinds, KindFits}
use Rattle.lb_flat.specs.Flat.{FlatEquation}
use Rattle.lb_flat.specs.TemporaryKinds.{kind_among}
use Rattle.lb_flat.specs.InOrder.{is_in_order}
use Rattle.lb_flat.specs.Programs.{flat_equations, program_of, IsInRange}
use Rattle.lb_flat.specs.Run.{IsNext, reads, clock_reads}
use Rattle.lb_flat.specs.Values.{clock_of, equation_of, operation_of}
use Rattle.lb_flat.specs.Within.{IsWithin}
use Rattle.lb_flat.specs.declared.equation.ClockId.{ClockId}
use Rattle.lb_flat.specs.declared.equation.Equation.{Equation}
use Rattle.lb_flat.specs.declared.program.FlatProgram.{FlatProgram}
use Rattle.lb_flat.proofs.lists.Lists.{Every-first, Every-in, Every-second}
use Rattle.lb_flat.proofs.{ordering.Ordering.ready_of, runs.Evaluating.every_at}
use Rattle.lb_machine.specs.Correct.{IsGrown}
use Rattle.lb_machine.specs.Listed.{listed}
use Rattle.lb_machine.specs.Meaning.{Lane, HasRun}
use Rattle.lb_machine.specs.declared.code.Code.{Code}
use Rattle.lb_machine.specs.declared.instruction.PlaneId.{PlaneId}
use Rattle.lb_sim.specs.Allotted.{IsAllotted, HasKindsIn, HasConstant, HasAllConstants}
use Rattle.lb_sim.specs.Compiled.{given_at}
use Rattle.lb_sim.specs.Emitted.{IsHeld, IsEmitted, AreKnown, IsKnownAfter, IsReadBy}
use Rattle.lb_sim.specs.Holdings.{IsIn, IsPlaceIn}
use Rattle.lb_sim.specs.Showing.{kind_of}
use Rattle.lb_sim.specs.States.{no_holding, no_place, holding_of, kept_at, IsShownBy}
use Rattle.lb_sim.specs.declared.place.Holding.{Holding}
use Rattle.lb_sim.specs.declared.place.Place.{Place}
use Rattle.lb_sim.specs.declared.place.Value.{Value}
use Rattle.lb_sim.proofs.Compiling as compiling
use Rattle.lb_sim.proofs.Compiling.{IsCompiling}
use Rattle.lb_sim.proofs.Emitting.{now_stays, apart_from}
use Rattle.lb_sim.proofs.Growth.{grown_none, grown_then, place_grown}
use Rattle.lb_sim.proofs.KnownClocks.{none_at_first}

-- ## Lists

every_in : (P Q : ℕ → Type 0) (is : List ℕ) → ((i : ℕ) → P i → Q i) → Every P is → Every Q is
every_in P Q [] f h = tt
every_in P Q (i ∷ is) f h = (f i h.0, every_in P Q is f h.1)

every_read : (P : ℕ → Type 0) (is js : List ℕ) → ((i : ℕ) → In i is → In i js) → Every P js →
    Every P is
every_read P [] js f h = tt
every_read P (i ∷ is) js f h =
    (Every-in P i js h (f i (inl refl)), every_read P is js (λ a r. f a (inr r)) h)

every_of_both : {A : Type 0} (P Q R : A → Type 0) (xs : List A) →
    ((x : A) → P x → Q x → R x) → Every P xs → Every Q xs → Every R xs
every_of_both P Q R [] f h g = tt
every_of_both P Q R (x ∷ xs) f h g = (f x h.0 g.0, every_of_both P Q R xs f h.1 g.1)

-- ## The loop

-- an equation whose kinds fit, in a lane that holds its constant
abbrev pub IsWanted : FlatProgram → List Holding → Lane → FlatEquation → Type 0
IsWanted P constants s q =
    KindFits P.inputs.items (kind_among P.kinds.items) q
    × HasConstant s q.operation (kept_at constants q.element)

-- the first `i` equations have their places
pub record IsPlacing (P : FlatProgram) (before code : Code) (inputs : List Value)
    (constants kept : List Holding) (places : List Place) (planes : List (Option PlaneId))
    (i : ℕ) : Type 0 where
  pub done : List ℕ
  pub grown : IsGrown before code
  pub within : All (IsPlaceIn code) places
  pub kinds :
      (e : ℕ) → In e done → kind_of (holding_of places e) ≡ kind_among P.kinds.items e
  pub all_known : length planes ≡ length P.clocks.items
  pub known : AreKnown code places P.clocks.items planes
  pub known_done :
      (k : ClockId) (p : PlaneId) → get_or planes k.0 None ≡ Some p →
      Every (λ e. In e done) (clock_reads (clock_of P.clocks.items (Some k)))
  pub so_far :
      IsCompiling (IsWanted P constants) P.size (program_of P).equations code inputs places kept
      done i

-- the place of nothing is a place of the code
pub no_place_in : (code : Code) → IsPlaceIn code no_place
no_place_in code = record {
  holding = record {
    value = omega (arith, code.constants, code.more_planes);
    nil = omega (arith, code.constants, code.more_planes);
    bad = omega (arith, code.constants, code.more_planes);
  };
  present = omega (arith, code.constants, code.more_planes);
}

-- at first no equation has its place
pub placing_first :
    (P : FlatProgram) (code : Code) (inputs : List Value) (constants kept : List Holding)
    (nowhere : Place) (n : ℕ) (places : List Place) (known : List (Option PlaneId)) →
    IsPlaceIn code nowhere → n ≡ length P.clocks.items → places ≡ replicate P.size nowhere →
    known ≡ replicate n None →
    is_in_order (replicate P.size false) (flat_equations P.clocks.items P.equations.items)
    ≡ true →
    IsPlacing P code code inputs constants kept places known 0
placing_first P code inputs constants kept nowhere n places known inside count is_places is_known
    order =
    let unknown : (k : ℕ) (p : PlaneId) → get_or known k None ≡ Some p → ⊥ = λ k p e.
    none_at_first n k p (ap (λ xs. get_or xs k None) (sym is_known) ∙ e) in
    record {
      done = [];
      grown = grown_none code;
      within =
          subst (All (IsPlaceIn code)) (sym is_places)
          (All-replicate (IsPlaceIn code) P.size nowhere inside);
      kinds = λ e r. absurd r;
      all_known = ap length is_known ∙ length-replicate n None ∙ count;
      known = λ k p e. absurd (unknown k.0 p e);
      known_done = λ k p e. absurd (unknown k.0 p e);
      so_far = record {
        ready = ready_of P.size (program_of P).equations order;
        as_long = ap length is_places ∙ length-replicate P.size nowhere;
        emitted = λ s r. tt;
      };
    }

module _ (P : FlatProgram) (before code : Code) (inputs : List Value)
    (constants kept : List Holding) (places : List Place) (known : List (Option PlaneId)) (i : ℕ)
    (h : IsPlacing P before code inputs constants kept places known i)
    (range : IsInRange P) where
  -- at the end all equations have their places
  pub places_long : length places ≡ P.size
  places_long = h.so_far.as_long

  module _ (le : length P.equations.items ≤ i) where
    all_equations : length (program_of P).equations ≤ i
    all_equations =
        subst (λ n. n ≤ i) (sym (length-map P.equations.items (equation_of P.clocks.items))) le

    pub kinds_at_end :
        (e : ℕ) → e < P.size → kind_of (holding_of places e) ≡ kind_among P.kinds.items e
    kinds_at_end e lt =
        h.kinds e
        (compiling.all_done (IsWanted P constants) P.size (program_of P).equations code inputs
        places kept h.done i h.so_far all_equations e lt)

    pub shown_at_end :
        Every (KindFits P.inputs.items (kind_among P.kinds.items)) (program_of P).equations →
        (s : Lane) → HasRun (listed code.instructions) s →
        HasAllConstants s constants (program_of P).equations →
        Every (IsShownBy (given_at s inputs) s places kept) (program_of P).equations
    shown_at_end fits s r c =
        compiling.ends (IsWanted P constants) P.size (program_of P).equations code inputs places
        kept h.done i h.so_far all_equations s r
        (every_of_both (KindFits P.inputs.items (kind_among P.kinds.items))
        (λ q. HasConstant s q.operation (kept_at constants q.element)) (IsWanted P constants s)
        (program_of P).equations (λ q a b. (a, b)) fits c)

  -- the holding of an element in a table with a holding for each element
  held_in : (e : ℕ) → e < P.size → (table : List Holding) → length table ≡ P.size →
      (d : Holding) → get_or table e d ≡ kept_at table e
  held_in e lt table long d =
      get_or_default table e d no_holding (subst (λ n. e < n) (sym long) lt)

  module _ (d x : Equation) (here : get_or P.equations.items i d ≡ x)
      (lt : i < length P.equations.items) where
    abbrev q : FlatEquation
    q = equation_of P.clocks.items x

    more : i < length (program_of P).equations
    more = subst (λ n. i < n) (sym (length-map P.equations.items (equation_of P.clocks.items))) lt

    is_q : get_or (program_of P).equations i q ≡ q
    is_q =
        get_or-map (equation_of P.clocks.items) P.equations.items i d q lt
        ∙ ap (equation_of P.clocks.items) here

    next : IsNext P.size h.done q
    next =
        compiling.next_is (IsWanted P constants) P.size (program_of P).equations code inputs places
        kept h.done i h.so_far q q is_q more

    -- the next equation is one of the program
    within_next : IsWithin P.size P.clocks.items x
    within_next = subst (IsWithin P.size P.clocks.items) here (range.equations i d lt)

    element_there : x.element.0 < length places
    element_there = subst (λ n. x.element.0 < n) (sym places_long) within_next.element

    module _ (code₁ code₂ : Code) (plane : PlaneId) (known' : List (Option PlaneId))
        (c m g : Holding) (kind : Kind) (g₁ : IsGrown code code₁)
        (g₂ : IsGrown code₁ code₂)
        (clock : IsKnownAfter code₁ places P.clocks.items x.clock known known' plane)
        (as_many : length known' ≡ length known)
        (kind_there : kind ≡ get_or P.kinds.items x.element.0 kind) (inside : IsIn code₂ g)
        (of_kind : kind_of g ≡ kind)
        (made : IsEmitted code₂ places inputs (get_or constants x.element.0 c)
        (get_or kept x.element.0 m) (operation_of x.operation) kind g)
        (allotted : IsAllotted (program_of P) before inputs constants kept) where
      abbrev e : ℕ
      e = x.element.0

      abbrev p : Place
      p = record { holding = g; present = plane }

      abbrev after : List Place
      after = set places e p

      abbrev constant : Holding
      constant = get_or constants e c

      abbrev memory : Holding
      memory = get_or kept e m

      is_constant : constant ≡ kept_at constants e
      is_constant = held_in e within_next.element constants allotted.all_constants c

      is_memory : memory ≡ kept_at kept e
      is_memory = held_in e within_next.element kept allotted.all_kept m

      is_kind : kind ≡ kind_among P.kinds.items e
      is_kind =
          kind_there
          ∙ get_or_default P.kinds.items e kind Int
          (subst (λ n. e < n) (sym range.kinds) within_next.element)

      new : In e h.done → ⊥
      new = next.is_new

      grown_by : IsGrown code code₂
      grown_by = grown_then code code₁ code₂ g₁ g₂

      there : get_or after e no_place ≡ p
      there = get_or-set_same places e p no_place element_there

      other : (a : ℕ) → a ≢ e → get_or after a no_place ≡ get_or places a no_place
      other a ne = get_or-set_other places e a p no_place ne

      all_kinds : (a : ℕ) → In a (e ∷ h.done) →
          kind_of (holding_of after a) ≡ kind_among P.kinds.items a
      all_kinds a (inl same) =
          subst (λ k. kind_of (holding_of after k) ≡ kind_among P.kinds.items k) same
          (ap (λ (x : Place). kind_of x.holding) there ∙ of_kind ∙ is_kind)
      all_kinds a (inr r) =
          let apart : a ≢ e = λ s. new (subst (λ k. In k h.done) s r) in
          ap (λ (x : Place). kind_of x.holding) (other a apart) ∙ h.kinds a r

      -- the elements that known clocks read are done
      clock_done :
          (k : ClockId) (y : PlaneId) → get_or known' k.0 None ≡ Some y →
          Every (λ a. In a h.done) (clock_reads (clock_of P.clocks.items (Some k)))
      clock_done k y is =
          ⊎_elim (λ (old : get_or known k.0 None ≡ Some y). h.known_done k y old)
          (λ (read : IsReadBy P.clocks.items x.clock (Some k)).
          every_read (λ a. In a h.done) (clock_reads (clock_of P.clocks.items (Some k)))
          (clock_reads q.clock) read
          (Every-second (λ a. In a h.done) (reads q.operation) (clock_reads q.clock)
          next.reads_done))
          (clock.newly k y is)

      all_known' : AreKnown code₂ after P.clocks.items known'
      all_known' k y is =
          let plane_is = clock.known k y is in
          record {
            within = omega (arith, plane_is.within, g₂.planes);
            means = λ s r.
                plane_is.means s (g₂.runs s r)
                ∙ sym (now_stays [] s places e p (clock_of P.clocks.items (Some k))
                (apart_from e h.done (clock_reads (clock_of P.clocks.items (Some k))) new
                (clock_done k y is)));
          }

      -- the elements that the operation reads have their kinds
      read_kinds :
          Every (λ a. kind_of (holding_of places a) ≡ kind_among P.kinds.items a)
          (reads q.operation)
      read_kinds =
          every_in (λ a. In a h.done)
          (λ a. kind_of (holding_of places a) ≡ kind_among P.kinds.items a) (reads q.operation)
          h.kinds
          (Every-first (λ a. In a h.done) (reads q.operation) (clock_reads q.clock)
          next.reads_done)

      has_kinds : HasKindsIn P.kinds.items constants kept q
      has_kinds =
          subst (HasKindsIn P.kinds.items constants kept) is_q
          (every_at (HasKindsIn P.kinds.items constants kept) (program_of P).equations i q
          allotted.kinds more)

      made_here :
          IsEmitted code₂ places inputs (kept_at constants e) (kept_at kept e) q.operation
          (kind_among P.kinds.items e) g
      made_here =
          subst
          (λ c. IsEmitted code₂ places inputs c (kept_at kept e) q.operation
          (kind_among P.kinds.items e) g) is_constant
          (subst
          (λ m. IsEmitted code₂ places inputs constant m q.operation
          (kind_among P.kinds.items e) g) is_memory
          (subst (λ k. IsEmitted code₂ places inputs constant memory q.operation k g) is_kind
          made))

      held : KindFits P.inputs.items (kind_among P.kinds.items) q →
          IsHeld code₂ places inputs (kept_at constants e) (kept_at kept e) q.operation
          (kind_among P.kinds.items e) g
      held fit =
          made_here (kind_among P.kinds.items)
          (subst
          (λ ks. OperandKinds ks (kind_among P.kinds.items) (kind_among P.kinds.items e)
          q.operation) (sym allotted.input_kinds) fit)
          read_kinds has_kinds

      -- one more equation has its place
      pub placing_next :
          IsPlacing P before code₂ inputs constants kept after known' (i + 1)
      placing_next = record {
        done = e ∷ h.done;
        grown = grown_then before code code₂ h.grown grown_by;
        within =
            All-set (IsPlaceIn code₂) places e p (record {
              holding = inside;
              present = omega (arith, clock.plane.within, g₂.planes);
            }) (λ j y below. place_grown code code₂ _ grown_by (h.within j y below));
        kinds = all_kinds;
        all_known = as_many ∙ h.all_known;
        known = all_known';
        known_done = λ k y is.
            every_in (λ a. In a h.done) (λ a. In a (e ∷ h.done))
            (clock_reads (clock_of P.clocks.items (Some k))) (λ a r. inr r) (clock_done k y is);
        so_far =
            compiling.goes_on (IsWanted P constants) P.size (program_of P).equations code inputs
            places kept h.done i h.so_far q q is_q more code₂ p grown_by
            (λ s r w. (clock.plane.means s (g₂.runs s r), (held w.0).shows s r w.1));
      }
