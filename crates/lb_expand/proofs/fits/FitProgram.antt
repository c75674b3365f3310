-- The equations of instances, of inputs and of the whole flat program fit.
use Rattle.lb_expand.proofs.Words
use Words.{Always, Assertion, Base, DataType, Declaration, Emitted, Equation, Every, FlatClock}
use Words.{FlatEquation, Instance, Kind, Layout, List, None, Observer, Option, Path, Program, Root}
use Words.{Some, State, Statement, Target, [], all_some, and_first, and_second, ap, are_types}
use Words.{arith, assert, before_instances, call_count, data_types, declared_clock, emit, emit_body}
use Words.{emit_instances, expanded, fits_observer, flat_clock, flat_map, from_inputs, given_inputs}
use Words.{input_types, instance_at, instances, is_statement_typed, joins, length, length-map}
use Words.{length-replicate, list_all, map, observed, received, refl, replicate, right_sides}
use Words.{slice_get, slice_get_within, statement_clock, subst, suc, sym, targets, true, truth}
use Words.{type_of_name, variable_type, width, zero, zip, ℕ, ◌++◌, ◌+◌, ◌∙◌, ◌∷◌, ◌≡◌}
use Rattle.lb_expand.proofs.fits.FitCalls.{AreGiven, as_kind, received_fit}
use Rattle.lb_expand.proofs.fits.{FitStatements.equation_fit, FitTerms.fits_term, FitWords.AllFit}
use Rattle.lb_expand.proofs.fits.FitWords.{AllSorted, AreOn, AreVariablesOn, Grown, IsFit}
use Rattle.lb_expand.proofs.fits.FitWords.{IsInstanceSet, IsOn, IsSet, IsStatementSet, IsVariableOn}
use Rattle.lb_expand.proofs.fits.FitWords.{Sorts, all_fitting, not_grown, then_grown}
use Rattle.lb_expand.proofs.fits.KindFacts.{type_kind, variable_kind}
use Rattle.lb_expand.proofs.solutions.{Emission.joins_equations, Solving.assert_equations}
use Rattle.lb_expand.proofs.{solutions.Solving.occurrences_of, widths.TypeFacts.{both_there, each}}
use Rattle.{lb_expand.proofs.widths.TypeFacts.types_first, lb_flat.proofs.lists.Lists.Every-append}
use Rattle.lb_flat.proofs.lists.Lists.{Every-first, Every-map, Every-second}
use Rattle.lb_flat.specs.Fitting.{IsFitting}

-- The equations of instances and of inputs fit; the observer is given what it takes.

module _ (S : Sorts) where
  joins_grown :
      (s t : State) (qs : List FlatEquation) (is : List ℕ) → Grown S s t → AllFit S qs →
      Grown S s (joins t qs is).state
  unfolding joins
  joins_grown s t qs is g new = record {
    before = g.before;
    equations = g.equations;
    copies = λ f. Every-append (IsFit S) t.copies qs (g.copies f) new;
  }

  assert_grown : (s : State) (x : Emitted) → Grown S s x.state → Grown S s (assert x)
  unfolding assert
  assert_grown s x g = record { before = g.before; equations = g.equations; copies = g.copies }

module _ (S : Sorts) (Y : Layout) (P : Program) where
  -- ## Instances

  module _ (here : Instance) (variables_on : AreVariablesOn S Y P here) where
    -- the statements of an instance
    body_grown :
        (n : ℕ) (s : State) (body : List Statement) →
        list_all (is_statement_typed P here) body ≡ true →
        Every (IsSet S Y P here) (occurrences_of P here.node (right_sides P here.node n body)) →
        Every (λ s. IsStatementSet S Y P here s.0 s.1)
        (zip body (right_sides P here.node n body)) →
        AllSorted S (emit_body Y P here n s body).equations →
        Grown S s (emit_body Y P here n s body)
    unfolding emit_body
    body_grown n s [] typed w c h = not_grown S h
    body_grown n s (Equation lefts e ∷ rest) typed w c h =
        let k = statement_clock P here.node (Equation lefts e) in
        let x = emit Y P here k n s e in
        let first = is_statement_typed P here (Equation lefts e) in
        let others = list_all (is_statement_typed P here) rest in
        let b = both_there P (data_types P here e) (all_some (map (type_of_name P here) lefts))
        (and_first first others typed) in
        let own = Every-first (IsSet S Y P here) _ _ w in
        let r = body_grown (n + call_count e) _ rest (and_second first others typed)
        (Every-second (IsSet S Y P here) _ _ w) c.1 h in
        let a = fits_term S Y P here variables_on k n s e b.right b.is_right own
        (subst (AllSorted S) (joins_equations x.state _ []) r.before) in
        let new = equation_fit S Y P here variables_on lefts b.left b.is_left k n s e b.right
        b.is_right b.same own c.0.clocked c.0.calls a in
        then_grown S (joins_grown S s x.state _ [] a.grown new) r
    body_grown n s (Assertion e ∷ rest) typed w c h =
        let first = is_statement_typed P here (Assertion e) in
        let others = list_all (is_statement_typed P here) rest in
        let b = both_there P (data_types P here e) (Some (truth ∷ []))
        (and_first first others typed) in
        let r = body_grown (n + call_count e) (assert _) rest (and_second first others typed)
        (Every-second (IsSet S Y P here) _ _ w) c.1 h in
        let a = fits_term S Y P here variables_on _ n s e b.right b.is_right
        (Every-first (IsSet S Y P here) _ _ w)
        (subst (AllSorted S) (assert_equations _) r.before) in
        then_grown S (assert_grown S s _ a.grown) r

  -- the equations of instances
  pub all_grown :
      (s : State) (is : List Instance) → Every (IsInstanceSet S Y P) is →
      AllSorted S (emit_instances Y P s is).equations → Grown S s (emit_instances Y P s is)
  unfolding emit_instances
  all_grown s [] w h = not_grown S h
  all_grown s (here ∷ rest) w h =
      let t = emit_body Y P here 0 s here.node.body in
      let r = all_grown t rest w.1 h in
      then_grown S
      (body_grown here w.0.variables_on 0 s here.node.body w.0.typed w.0.all_set w.0.bodies_set
      r.before) r

  -- ## Inputs

  -- elements on the base clock of the program, of these kinds
  abbrev pub AreInputs : List Target → List Kind → Type 0
  AreInputs [] cs = Unit {0}
  AreInputs (t ∷ ts) [] = ⊥
  AreInputs (t ∷ ts) (c ∷ cs) = (t.clock ≡ Always) × IsOn S t.clock c t.place × AreInputs ts cs

  pub inputs_fit :
      (j : ℕ) (ts : List Target) (cs : List Kind) → AreInputs ts cs →
      ((i : ℕ) (c : Kind) → slice_get cs i ≡ Some c → slice_get S.inputs (j + i) ≡ Some c) →
      AllFit S (from_inputs j ts)
  inputs_fit j [] cs a at = tt
  inputs_fit j (t ∷ ts) [] a at = absurd a
  inputs_fit j (t ∷ ts) (c ∷ cs) a at =
      let first : j + 0 ≡ j = omega arith in
      let own : slice_get S.inputs j ≡ Some c =
      subst (λ i. slice_get S.inputs i ≡ Some c) first (at 0 c refl) in
      let later : (i : ℕ) (d : Kind) → slice_get cs i ≡ Some d →
      slice_get S.inputs (suc j + i) ≡ Some d = λ i d e.
      let next : j + suc i ≡ suc j + i = omega arith in
      subst (λ l. slice_get S.inputs l ≡ Some d) next (at (suc i) d e) in (
        record {
          clocks = record { own = a.1.0; operands = (a.0, slice_get_within S.inputs j c own) };
          kinds = own ∙ ap Some (sym a.1.1);
        },
        inputs_fit (suc j) ts cs a.2 later,
      )

  inputs_append :
      (ts us : List Target) (cs ds : List Kind) → length ts ≡ length cs → AreInputs ts cs →
      AreInputs us ds → AreInputs (ts ++ us) (cs ++ ds)
  inputs_append [] us [] ds e a b = b
  inputs_append (t ∷ ts) us (c ∷ cs) ds e a b =
      (a.0, a.1, inputs_append ts us cs ds (omega (arith, e)) a.2 b)
  inputs_append _ us _ ds e a b = absurd (omega (arith, e))

  variable_inputs :
      (k : FlatClock) (c : Kind) (is : List ℕ) (n : ℕ) → k ≡ Always → length is ≡ n →
      AreOn S k c is → AreInputs (map (λ i. record { place = i; clock = k }) is) (replicate n c)
  variable_inputs k c [] n e long h = tt
  variable_inputs k c (i ∷ is) zero e long h = absurd (omega (arith, long))
  variable_inputs k c (i ∷ is) (suc n) e long h =
      (e, h.0, variable_inputs k c is n e (omega (arith, long)) h.1)

  -- the variables of an instance that starts are on the base clock of the program
  abbrev pub AreOnBase : Instance → List Declaration → Type 0
  AreOnBase start ds =
      Every (λ d. flat_clock Y start.path (declared_clock start.node d.name) ≡ Always) ds

  abbrev pub kinds_of : Instance → List Declaration → List Kind
  kinds_of start ds = flat_map (λ d. replicate (width P start d) d.kind) ds

  pub declared_inputs :
      (start : Instance) (ds : List Declaration) → Every (IsVariableOn S Y P start) ds →
      AreOnBase start ds →
      AreInputs (flat_map (λ d. targets Y start.node start.path d.name) ds) (kinds_of start ds)
  declared_inputs start [] v b = tt
  declared_inputs start (d ∷ ds) v b =
      let k = flat_clock Y start.path (declared_clock start.node d.name) in
      let is = Y.places start.path d.name in
      inputs_append (targets Y start.node start.path d.name)
      (flat_map (λ d. targets Y start.node start.path d.name) ds)
      (replicate (width P start d) d.kind) (kinds_of start ds)
      (length-map is (λ i. record { place = i; clock = k }) ∙ v.0.wide
      ∙ sym (length-replicate (width P start d) d.kind))
      (variable_inputs k d.kind is (width P start d) b.0 v.0.wide v.0.elements)
      (declared_inputs start ds v.1 b.1)

  -- ## The observer

  pub observed_given :
      (root observer : Instance) (ds es : List Declaration) (us vs : List DataType) →
      all_some (map (variable_type P observer) ds) ≡ Some us →
      all_some (map (variable_type P root) es) ≡ Some vs → are_types us vs ≡ true →
      Every (IsVariableOn S Y P root) es → AreOnBase root es → Y.runs root.path ≡ Always →
      AreGiven S Y P root (λ d. Base) ds (map (λ d. Y.places root.path d.name) es)
  observed_given root observer [] es us vs o p same v b runs = tt
  observed_given root observer (d ∷ ds) [] us vs o p same v b runs = tt
  observed_given root observer (d ∷ ds) (e ∷ es) us vs o p same v b runs =
      let h = each (variable_type P observer d) (map (variable_type P observer) ds) us o in
      let g = each (variable_type P root e) (map (variable_type P root) es) vs p in
      let fit = types_first h.all g.all same in
      let kind = sym (variable_kind P root e g.first g.is) ∙ sym (type_kind h.first g.first fit.0)
      ∙ variable_kind P observer d h.first h.is in (
        subst (λ k. AreOn S k d.kind (Y.places root.path e.name)) (b.0 ∙ sym runs)
            (as_kind S Y P _ e.kind d.kind _ kind v.0.elements),
        observed_given root observer ds es h.rest g.rest h.others g.others fit.1 v.1 b.1 runs,
      )

-- The clocks and the kinds of the whole flat program fit.

module _ (S : Sorts) (Y : Layout) (P : Program) where
  -- an instance that starts has its places, and its inputs and outputs are on the base clock
  pub record IsStartSet (p : Path) (start : Instance) : Type 0 where
    pub path : start.path ≡ p
    pub variables_on : AreVariablesOn S Y P start
    pub on_base : AreOnBase S Y P start (start.node.inputs ++ start.node.outputs)

  -- conditions on a program whose variables have the first `count` elements
  pub record IsProgramSet (count : ℕ) : Type 0 where
    pub instances_set : Every (IsInstanceSet S Y P) (instances P)
    -- the temporaries have the clocks and the kinds of their equations
    pub further : AllSorted S (emit_instances Y P (before_instances count) (instances P)).equations
    pub root_runs : Y.runs Root ≡ Always
    pub root_set : (root : Instance) → instance_at P Root ≡ Some root → IsStartSet Root root
    pub observer_set :
        (root observer : Instance) → instance_at P Root ≡ Some root →
        instance_at P Observer ≡ Some observer →
        IsStartSet Observer observer × (fits_observer P root observer ≡ true)
    -- the inputs have the kinds of the variables of the node under test
    pub signature :
        (root : Instance) → instance_at P Root ≡ Some root → (i : ℕ) (c : Kind) →
        slice_get (kinds_of S Y P root root.node.inputs) i ≡ Some c →
        slice_get S.inputs i ≡ Some c

  module _ (count : ℕ) (set : IsProgramSet count) where
    inputs_of :
        (start : Instance) → AreVariablesOn S Y P start →
        Every (IsVariableOn S Y P start) start.node.inputs
    inputs_of start v = Every-first _ start.node.inputs (start.node.outputs ++ start.node.locals) v

    given_fit : (o : Option Instance) → instance_at P Root ≡ o → AllFit S (given_inputs Y o)
    given_fit None e = tt
    given_fit (Some root) e =
        let start = set.root_set root e in
        let ds = root.node.inputs in
        rw (← start.path) (inputs_fit S Y P 0 _ _ (declared_inputs S Y P root _
        (inputs_of root start.variables_on) (Every-first _ ds root.node.outputs start.on_base))
        (λ i c at.
        let same : i ≡ 0 + i = omega arith in
        subst (λ j. slice_get S.inputs j ≡ Some c) same (set.signature root e i c at)))

    observed_fit :
        (o q : Option Instance) → instance_at P Root ≡ o → instance_at P Observer ≡ q →
        AllFit S (observed Y o q)
    observed_fit None q e g = tt
    observed_fit (Some root) None e g = tt
    observed_fit (Some root) (Some observer) e g =
        let start = set.root_set root e in
        let seen = set.observer_set root observer e g in
        let node = observer.node in
        let es = root.node.inputs ++ root.node.outputs in
        let b = both_there P (input_types P observer) (all_some (map (variable_type P root) es))
        seen.1 in
        let runs : Y.runs root.path ≡ Always =
        subst (λ p. Y.runs p ≡ Always) (sym start.path) set.root_runs in
        let outer = Every-append (IsVariableOn S Y P root) root.node.inputs root.node.outputs
        (inputs_of root start.variables_on) (outputs_of root start.variables_on) in
        let own : Every (λ d.
        flat_clock Y observer.path (declared_clock node d.name) ≡ flat_clock Y root.path Base)
        node.inputs = Every-map _ _ (λ d h. h ∙ sym runs) node.inputs
        (Every-first _ node.inputs node.outputs seen.0.on_base) in
        subst (λ p. AllFit S (received Y node Observer node.inputs
        (map (λ (d : Declaration). Y.places p d.name) es))) start.path
        (subst (λ p. AllFit S (received Y node p node.inputs
        (map (λ (d : Declaration). Y.places root.path d.name) es))) seen.0.path
        (received_fit S Y P root observer (λ d. Base) node.inputs _
        (inputs_of observer seen.0.variables_on) own
        (observed_given S Y P root observer node.inputs es b.right b.left b.is_right b.is_left
        b.same outer start.on_base runs)))
      where
        outputs_of :
            (start : Instance) → AreVariablesOn S Y P start →
            Every (IsVariableOn S Y P start) start.node.outputs
        outputs_of start v =
            Every-first _ start.node.outputs start.node.locals
            (Every-second _ start.node.inputs (start.node.outputs ++ start.node.locals) v)

    -- all equations of the flat program
    pub whole_fits : IsFitting S.inputs S.clock_of S.kind_of (expanded Y P count).equations
    whole_fits =
        let s = emit_instances Y P (before_instances count) (instances P) in
        let g = all_grown S Y P _ _ set.instances_set set.further in
        let given = given_inputs Y (instance_at P Root) in
        let seen = observed Y (instance_at P Root) (instance_at P Observer) in
        all_fitting S _ (Every-append (IsFit S) given (seen ++ (s.copies ++ s.equations))
        (given_fit _ refl) (Every-append (IsFit S) seen (s.copies ++ s.equations)
        (observed_fit _ _ refl refl) (Every-append (IsFit S) s.copies s.equations (g.copies tt)
        (g.equations tt))))
