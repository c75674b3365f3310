-- Streams that solve the flat program stand for a history, and the flat program for its program.
use Rattle.lb_expand.proofs.Words
use Words.{And, ApplyBinary, AreSame, Declaration, Every, Fits, FlatClock, FlatEquation}
use Words.{FlatProgram, HasAllMemories, History, Holds, In, Inputs, Instance, IsCellFit}
use Words.{IsFlatSolution, IsWatched, Kind, Layout, List, Name, None, Observer, Operation, Or, Path}
use Words.{Program, Root, Solves, SolvesAt, State, Stream, [], ap, ap₂, arith, before_instances}
use Words.{cases_lt, check_refusal, column, emit_instances, expanded, fits, flat_clock}
use Words.{get_or-eq_default, given_inputs, history_of, inl, input_kinds, inr, instance_at}
use Words.{instances, instants, length, length-map, map, node_occurrences, observed, refl}
use Words.{replicate, static_refusal, subst, sym, true, variable_presence, variables, width, ℕ}
use Words.{◌++◌, ◌<◌, ◌∙◌, ◌∷◌, ◌≡◌, ◌≤◌}
use Rattle.lb_expand.proofs.{lists.Counting.IsTruth, solutions.FlatHistories.{all_gathered, same}}
use Rattle.lb_expand.proofs.solutions.{FlatHistories.{solved_flat, streams_for}, KeptMemories.Stay}
use Rattle.lb_expand.proofs.solutions.{KeptMemories.{memories_are, second_stays}, Placing.Agrees}
use Rattle.lb_expand.proofs.solutions.Placing.{AllMet, HasTruths, IsMet, columns, presence_flat}
use Rattle.lb_expand.proofs.solutions.Solving.{IsElement, IsPlacing, IsProgramSound, IsSolvedAt}
use Rattle.lb_expand.proofs.solutions.Solving.{IsVariablePlaced, absent_truths, fits_truths}
use Rattle.lb_expand.proofs.solutions.Solving.{from_flat, second_of_and, second_of_or}
use Rattle.lb_expand.proofs.solutions.Watching.{IsInOrder, is_watched}
use Rattle.lb_expand.proofs.widths.{SoundInstances.RunsAt, SoundPrograms.program_sound}
use Rattle.lb_flat.proofs.lists.Lists.{Every-both, Every-map, Every-second}
use Rattle.lb_flat.specs.Fitting.{ClockFits, IsFitting, KindFits, OperandKinds}
use Rattle.lb_syntax.specs.declared.tree.Kind.TheVariants.{Bool as Truth}

-- Streams that solve the flat program of a program, with presence and kinds, stand for a history
-- that solves the program.

-- ## Elements

module _ (wanted : List Kind) (K : ℕ → FlatClock) (N : ℕ → Kind) (f : FlatProgram)
    (each : (i : ℕ) → i < f.size → In i (map (λ q. q.element) f.equations))
    (fit : IsFitting wanted K N f.equations) (X : Inputs) (F : List Stream)
    (s : IsFlatSolution wanted N f X F) where
  abbrev ElementFits : ℕ → Type 0
  ElementFits i = fits (N i) (instants X F (K i)) (column X F i) ≡ true

  -- each element is present exactly on its clock, with scalars of its kind
  pub element_fits : (i : ℕ) → i < f.size → ElementFits i
  element_fits i lt = by f.equations (each i lt) fit.clocks s.cells
    where
      by : (Q : List FlatEquation) → In i (map (λ q. q.element) Q) →
          Every (ClockFits (length wanted) K) Q → Every (IsCellFit N X F) Q → ElementFits i
      by [] h c g = absurd h
      by (q ∷ Q) (inl e) c g =
          subst ElementFits e
          (subst (λ k. fits (N q.element) (instants X F k) (column X F q.element) ≡ true)
          (sym c.0.own) g.0)
      by (q ∷ Q) (inr h) c g = by Q h c.1 g.1

  truths_at : (i : ℕ) → N i ≡ Truth → Every IsTruth (column X F i)
  truths_at i e =
      elim (cases_lt i f.size) [
        | inl lt ↦
            fits_truths (instants X F (K i)) (column X F i)
            (subst (λ k. fits k (instants X F (K i)) (column X F i) ≡ true) e (element_fits i lt))
        | inr le ↦
            let past : length F ≤ i = omega (arith, s.equations.elements) in
            subst (Every IsTruth) (sym (get_or-eq_default F (replicate (length X) None) past))
            (absent_truths (length X))
      ]

  has_truths : (kind : Kind) (o : Operation) → OperandKinds wanted N kind o → HasTruths X F o
  has_truths kind (ApplyBinary Or a b) g = truths_at b (second_of_or (N a) (N b) kind g)
  has_truths kind (ApplyBinary And a b) g = truths_at b (second_of_and (N a) (N b) kind g)
  has_truths kind o g = tt

  -- the equations hold, and their operands are truth values where they have to be
  pub all_met : AllMet X F f.equations
  all_met =
      Every-map _ (IsMet X F) (λ q z. (z.0, has_truths (N q.element) q.operation z.1)) f.equations
      (Every-both (Holds X F) (KindFits wanted N) f.equations s.equations.equations fit.kinds)

-- ## Histories

module _ (P : Program) (Y : Layout) (count : ℕ) (K : ℕ → FlatClock) (N : ℕ → Kind)
    (each : (i : ℕ) → i < (expanded Y P count).size →
    In i (map (λ q. q.element) (expanded Y P count).equations))
    (fit : IsFitting (input_kinds P) K N (expanded Y P count).equations)
    (placing : IsPlacing Y P count K N (expanded Y P count).size)
    (X : Inputs) (F : List Stream)
    (s : IsFlatSolution (input_kinds P) N (expanded Y P count) X F) where
  -- the equations hold
  pub met : AllMet X F (expanded Y P count).equations
  met = all_met (input_kinds P) K N (expanded Y P count) each fit X F s

  abbrev further : State
  further = emit_instances Y P (before_instances count) (instances P)

  -- the equations of the temporaries hold too
  pub further_met : AllMet X F further.equations
  further_met =
      let given = given_inputs Y (instance_at P Root) in
      let seen = observed Y (instance_at P Root) (instance_at P Observer) in
      Every-second (IsMet X F) further.copies further.equations
      (Every-second (IsMet X F) seen (further.copies ++ further.equations)
      (Every-second (IsMet X F) given (seen ++ (further.copies ++ further.equations)) met))

  module _ (signs : (p : Path) (x : Name) →
      columns X F (Y.places p x) ≡ columns X F (Y.signs p x)) where
    pub agrees : Agrees Y X (history_of Y X F) F
    agrees = record { columns = λ p x. refl; signs = signs; ticks = λ p. refl }

    elements_fit :
        (k : FlatClock) (kind : Kind) (is : List ℕ) →
        Every (IsElement K N (expanded Y P count).size k kind) is →
        Every (λ xs. fits kind (instants X F k) xs ≡ true) (columns X F is)
    elements_fit k kind [] h = tt
    elements_fit k kind (i ∷ is) h = (
      ap₂ (λ m c. fits m (instants X F c) (column X F i)) (sym h.0.is_of) (sym h.0.clock)
          ∙ element_fits (input_kinds P) K N (expanded Y P count) each fit X F s i h.0.within,
      elements_fit k kind is h.1,
    )

    variable_fits :
        (here : Instance) (d : Declaration) →
        IsVariablePlaced Y P K N (expanded Y P count).size here d →
        Fits P (history_of Y X F) here d
    variable_fits here d h =
        record {
          width = length-map (Y.places here.path d.name) (column X F) ∙ h.width;
          cells = subst
              (λ bs. Every (λ xs. fits d.kind bs xs ≡ true)
              (columns X F (Y.places here.path d.name)))
              (sym (presence_flat Y X (history_of Y X F) F agrees here.path _))
              (elements_fit (flat_clock Y here.path _) d.kind (Y.places here.path d.name)
              h.elements);
        }

    -- the history that the streams stand for solves the program
    pub solution_solves : IsProgramSound Y P (history_of Y X F) → Solves P X (history_of Y X F)
    solution_solves ok =
        let H = history_of Y X F in
        let tied = from_flat count Y placing.laid P X H F s.equations.as_long agrees ok met in
        record {
          rows = s.rows;
          root_runs = ap (instants X F) placing.root;
          observer_runs = ap (instants X F) placing.observer;
          inputs = tied.inputs;
          observed = tied.observed;
          instances =
              Every-map _ (SolvesAt P H)
              (λ here z. record {
                variables =
                    Every-map (IsVariablePlaced Y P K N (expanded Y P count).size here)
                    (Fits P H here) (variable_fits here) (variables here.node) z.0;
                equations = z.1.equations;
                calls = z.1.calls;
              }) (instances P)
              (Every-both (λ here. Every
              (IsVariablePlaced Y P K N (expanded Y P count).size here) (variables here.node))
              (IsSolvedAt P H) (instances P) placing.variables tied.instances);
        }

-- The flat program of an accepted program stands for it, where its clocks and kinds fit, the layout
-- gives variables their elements, and each element has an equation.

-- a flat program stands for a program: its solutions and the histories that solve the program give
-- each other; what decides a verdict is watched; and all memories are in the flat program
pub record StandsFor (P : Program) (Y : Layout) (kinds : ℕ → Kind) (f : FlatProgram) :
    Type 0 where
  pub solves :
      (X : Inputs) (F : List Stream) → IsFlatSolution (input_kinds P) kinds f X F →
      Solves P X (history_of Y X F)
  pub solved :
      (X : Inputs) (H : History) → Solves P X H →
      (F : List Stream) × IsFlatSolution (input_kinds P) kinds f X F
      × AreSame P (history_of Y X F) H
  pub watched :
      (X : Inputs) (F : List Stream) → IsFlatSolution (input_kinds P) kinds f X F → (t : ℕ) →
      t < length X → IsWatched P f X F (history_of Y X F) t
  pub memories : HasAllMemories P Y kinds f

module _ (P : Program) (elaborated : static_refusal P ≡ None) (checked : check_refusal P ≡ None)
    (Y : Layout) (count : ℕ) (K : ℕ → FlatClock) (N : ℕ → Kind)
    (each : (i : ℕ) → i < (expanded Y P count).size →
    In i (map (λ q. q.element) (expanded Y P count).equations))
    (fit : IsFitting (input_kinds P) K N (expanded Y P count).equations)
    (placing : IsPlacing Y P count K N (expanded Y P count).size)
    (order : IsInOrder Y P count)
    -- what is called runs on the clock of the call
    (runs : (H : History) →
    Every (λ here. Every (RunsAt Y P H here) (node_occurrences P here.node)) (instances P))
    -- a variable that serves for another in a clock has its streams
    (signs : (X : Inputs) (F : List Stream) →
    IsFlatSolution (input_kinds P) N (expanded Y P count) X F → (p : Path) (x : Name) →
    columns X F (Y.places p x) ≡ columns X F (Y.signs p x))
    -- and so it is in the streams that are filled in from a history that solves the program, on
    -- whose clocks all instances run
    (long : (X : Inputs) (H : History) → Solves P X H →
    Every (λ here.
    Every (λ d. length (variable_presence H here d) ≡ length X) (variables here.node))
    (instances P))
    (ticks : (X : Inputs) (H : History) (h : Solves P X H) →
    Every (λ here.
    instants X
    (all_gathered P Y count K N (expanded Y P count).size placing order.variables X H h)
    (Y.runs here.path)
    ≡ H.ticks here.path) (instances P))
    (served : (X : Inputs) (H : History) (h : Solves P X H) → (p : Path) (x : Name) →
    columns X
    (all_gathered P Y count K N (expanded Y P count).size placing order.variables X H h)
    (Y.places p x)
    ≡ columns X
    (all_gathered P Y count K N (expanded Y P count).size placing order.variables X H h)
    (Y.signs p x)) where
  placed :
      Every (λ here. Every (λ d. length (Y.places here.path d.name) ≡ width P here d)
      (variables here.node)) (instances P)
  placed =
      Every-map (λ here. Every (IsVariablePlaced Y P K N (expanded Y P count).size here)
      (variables here.node))
      (λ here. Every (λ d. length (Y.places here.path d.name) ≡ width P here d)
      (variables here.node))
      (λ here h. Every-map (IsVariablePlaced Y P K N (expanded Y P count).size here)
      (λ d. length (Y.places here.path d.name) ≡ width P here d) (λ d v. v.width)
      (variables here.node) h) (instances P) placing.variables

  sound : (X : Inputs) (F : List Stream) → IsProgramSound Y P (history_of Y X F)
  sound X F = program_sound P elaborated checked Y placed runs X F

  abbrev further_state : State
  further_state = emit_instances Y P (before_instances count) (instances P)

  further_there : Stay further_state.equations (expanded Y P count).equations
  further_there q i =
      let given = given_inputs Y (instance_at P Root) in
      let seen = observed Y (instance_at P Root) (instance_at P Observer) in
      second_stays given (seen ++ (further_state.copies ++ further_state.equations)) q
      (second_stays seen (further_state.copies ++ further_state.equations) q
      (second_stays further_state.copies further_state.equations q i))

  -- the flat program stands for the program
  pub stands_for : StandsFor P Y N (expanded Y P count)
  stands_for = record {
    solves = λ X F s.
        solution_solves P Y count K N each fit placing X F s (signs X F s) (sound X F);
    solved = λ X H h. (
      streams_for P elaborated checked Y count K N fit placing order.variables
          sound X H h,
      solved_flat P elaborated checked Y count K N fit placing order.variables
          sound X H h (long X H h) (ticks X H h) (served X H h),
      same P elaborated checked Y count K N fit placing order.variables sound X H h (long X H h)
          (ticks X H h) (served X H h),
    );
    watched = λ X F s t lt.
        is_watched Y P count X F s.equations.as_long (agrees P Y count K N each fit placing X F s
        (signs X F s)) (sound X F).instances (further_met P Y count K N each fit placing X F s)
        order t;
    memories =
        memories_are P elaborated checked Y placed runs count N (expanded Y P count)
        further_there signs
        (λ X F s. further_met P Y count K N each fit placing X F s);
  }
