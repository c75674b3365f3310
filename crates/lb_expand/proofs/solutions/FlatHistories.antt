-- Every history that solves an accepted program comes from streams that solve its flat program.
use Rattle.lb_expand.proofs.Words
use Words.{AgreeAt, AreLong, AreSame, Bool, Declaration, Every, Fits, FlatClock, FlatEquation}
use Words.{FlatSolves, History, Inputs, Instance, IsFlatSolution, Kind, Layout, List, Name, None}
use Words.{Observer, Path, Program, Root, Solves, SolvesAt, State, Stream, [], ap, ap₂, arith}
use Words.{before_instances, check_refusal, column, declared_clock, emit_instances, expanded, fits}
use Words.{flat_clock, flat_map, given_inputs, history_of, input_kinds, instance_at, instances}
use Words.{instants, length, length-map, length-range_with_len, observed, pieces_count}
use Words.{range_with_len, refl, solves_same, static_refusal, subst, suc, sym, true}
use Words.{variable_columns, variable_presence, variables, zero, ℕ, ◌++◌, ◌+◌, ◌<◌, ◌∙◌, ◌∷◌, ◌≡◌}
use Rattle.lb_check.proofs.{lists.ListPairs.cons_same, programs.SolutionStreams.fits_length}
use Rattle.lb_expand.proofs.{copies.CopiedElements.expanded_within, lists.Lists.map-pieces}
use Rattle.lb_expand.proofs.solutions.{Closing.{Below, Closed}, FilledFits.{ElementOf, fits_of}}
use Rattle.lb_expand.proofs.solutions.{FilledFits.{fresh_fits, fresh_truths}, Filling.filled_keeps}
use Rattle.lb_expand.proofs.solutions.{Filling.filled_solves, Placing.{Agrees, HasTruths, columns}}
use Rattle.lb_expand.proofs.solutions.{Placing.presence_flat, Solving.{IsElement, IsPlacing}}
use Rattle.lb_expand.proofs.solutions.Solving.{IsProgramSound, IsSolvedAt, IsTied, IsVariablePlaced}
use Rattle.lb_expand.proofs.solutions.Solving.{all_streams_of, start_closed, to_flat}
use Rattle.{lb_expand.proofs.solutions.Watching.all_places, lb_flat.proofs.lists.Lists.Every-both}
use Rattle.lb_flat.proofs.lists.Lists.{Every-map, Every-of_pieces, Every-range, Every-second}
use Rattle.lb_flat.{proofs.solutions.StandingRuns.cells_fit, specs.Fitting.{ClockFits, IsFitting}}
use Rattle.lb_flat.specs.Fitting.{KindFits}

-- The streams of a program's variables in the order of instantiation, from a history that solves
-- the program, and the streams that the further equations fill in from them.

-- ## Pieces

-- two joined lists that are the same part by part
pub record Halves {A : Type 0} (xs ys us vs : List A) : Type 0 where
  pub first : xs ≡ ys
  pub second : us ≡ vs

pub halves :
    {A : Type 0} (xs ys us vs : List A) → length xs ≡ length ys → xs ++ us ≡ ys ++ vs →
    Halves xs ys us vs
halves [] [] us vs n e = record { first = refl; second = e }
halves [] (y ∷ ys) us vs n e = absurd (omega (arith, n))
halves (x ∷ xs) [] us vs n e = absurd (omega (arith, n))
halves (x ∷ xs) (y ∷ ys) us vs n e =
    let both = cons_same x y (xs ++ us) (ys ++ vs) e in
    let r = halves xs ys us vs (omega (arith, n)) both.1 in
    record {
      first = ap₂ (λ z zs. z ∷ zs) both.0 r.first;
      second = r.second;
    }

-- where `f` and `g` give pieces of equal lengths, and the same joined list, the pieces are the same
pub pieces_same :
    {A B : Type 0} (f g : A → List B) (items : List A) →
    Every (λ a. length (f a) ≡ length (g a)) items → flat_map f items ≡ flat_map g items →
    Every (λ a. f a ≡ g a) items
pieces_same f g [] n e = tt
pieces_same f g (a ∷ items) n e =
    let r = halves (f a) (g a) (flat_map f items) (flat_map g items) n.0 e in
    (r.first, pieces_same f g items n.1 r.second)

-- ## Columns

module _ (X : Inputs) where
  columns_after :
      (xs : Stream) (F : List Stream) (a n : ℕ) →
      columns X (xs ∷ F) (range_with_len (suc a) n) ≡ columns X F (range_with_len a n)
  columns_after xs F a zero = refl
  columns_after xs F a (suc n) =
      let e : suc a + 1 ≡ suc (a + 1) = omega arith in
      cc (columns_after xs F (a + 1) n)

  -- the columns of all elements are the streams
  pub all_columns : (F : List Stream) → columns X F (range_with_len 0 (length F)) ≡ F
  all_columns [] = refl
  all_columns (xs ∷ F) =
      let e : 0 + 1 ≡ suc 0 = omega arith in
      cc (columns_after xs F 0 (length F), all_columns F)

  pub columns_same :
      (F G : List Stream) (n : ℕ) → ((i : ℕ) → i < n → column X F i ≡ column X G i) →
      (is : List ℕ) → Below n is → columns X F is ≡ columns X G is
  columns_same F G n same [] h = refl
  columns_same F G n same (i ∷ is) h = cc (same i h.0, columns_same F G n same is h.1)

-- ## The streams of all variables

-- the streams of all variables, in the order of instantiation
abbrev pub gathered_streams : Program → History → List Stream
gathered_streams P H = flat_map (variable_columns H) (instances P)

module _ (P : Program) (Y : Layout) (count : ℕ) (K : ℕ → FlatClock) (N : ℕ → Kind) (size : ℕ)
    (placing : IsPlacing Y P count K N size)
    (instance_order : all_places Y P ≡ range_with_len 0 count)
    (X : Inputs) (H : History) (s : Solves P X H) where
  abbrev F : List Stream
  F = gathered_streams P H

  abbrev IsLong : Stream → Type 0
  IsLong xs = length xs ≡ length X

  abbrev pub Placed : Instance → Declaration → Type 0
  Placed here d = IsVariablePlaced Y P K N size here d

  -- a variable has the streams of its elements
  abbrev pub HasColumns : List Stream → Instance → Declaration → Type 0
  HasColumns G here d = columns X G (Y.places here.path d.name) ≡ H.columns here.path d.name

  -- ## Widths

  width_same :
      (G : List Stream) (here : Instance) (ds : List Declaration) → Every (Placed here) ds →
      Every (Fits P H here) ds →
      Every (λ d. length (columns X G (Y.places here.path d.name))
      ≡ length (H.columns here.path d.name)) ds
  width_same G here [] p f = tt
  width_same G here (d ∷ ds) p f = (
    length-map (Y.places here.path d.name) (column X G) ∙ p.0.width ∙ sym f.0.width,
    width_same G here ds p.1 f.1,
  )

  abbrev of_instance : List Stream → Instance → List Stream
  of_instance G here = flat_map (λ d. columns X G (Y.places here.path d.name)) (variables here.node)

  -- what is known of the variables and of the solution of each instance
  known_of :
      Every (λ here. Every (Placed here) (variables here.node) × SolvesAt P H here) (instances P)
  known_of =
      Every-both (λ here. Every (Placed here) (variables here.node)) (SolvesAt P H) (instances P)
      placing.variables s.instances

  widths_same :
      (G : List Stream) →
      Every (λ here. length (of_instance G here) ≡ length (variable_columns H here)) (instances P)
  widths_same G =
      Every-map _ (λ here. length (of_instance G here) ≡ length (variable_columns H here))
      (λ here z. pieces_count (λ d. columns X G (Y.places here.path d.name))
      (λ d. H.columns here.path d.name) (variables here.node)
      (width_same G here (variables here.node) z.0 z.1.variables)) (instances P) known_of

  places_flat :
      (G : List Stream) →
      flat_map (of_instance G) (instances P) ≡ columns X G (all_places Y P)
  places_flat G =
      map-pieces (column X G)
      (λ here. flat_map (λ d. Y.places here.path d.name) (variables here.node)) (of_instance G)
      (λ here. map-pieces (column X G) (λ d. Y.places here.path d.name)
      (λ d. columns X G (Y.places here.path d.name)) (λ d. refl) (variables here.node))
      (instances P)

  -- there is one stream for each element of a variable
  pub gathered_count : length F ≡ count
  gathered_count =
      sym (pieces_count (of_instance F) (variable_columns H) (instances P)
      (widths_same F))
      ∙ ap length (places_flat F) ∙ length-map (all_places Y P) (column X F)
      ∙ ap length instance_order ∙ length-range_with_len 0 count

  -- ## Columns of variables

  gathered_flat : flat_map (of_instance F) (instances P) ≡ F
  gathered_flat =
      places_flat F ∙ ap (columns X F) instance_order
      ∙ ap (λ n. columns X F (range_with_len 0 n)) (sym gathered_count) ∙ all_columns X F

  gathered_columns : Every (λ here. Every (HasColumns F here) (variables here.node)) (instances P)
  gathered_columns =
      Every-map _ (λ here. Every (HasColumns F here) (variables here.node))
      (λ here z. pieces_same (λ d. columns X F (Y.places here.path d.name))
      (λ d. H.columns here.path d.name) (variables here.node)
      (width_same F here (variables here.node) z.1.0 z.1.1.variables) z.0) (instances P)
      (Every-both (λ here. of_instance F here ≡ variable_columns H here) _ (instances P)
      (pieces_same (of_instance F) (variable_columns H) (instances P) (widths_same F)
      gathered_flat) known_of)

  -- ## Lengths

  abbrev IsPresent : Instance → Declaration → Type 0
  IsPresent here d = length (variable_presence H here d) ≡ length X

  cells_long :
      (kind : Kind) (bs : List Bool) (xss : List Stream) → length bs ≡ length X →
      Every (λ xs. fits kind bs xs ≡ true) xss → AreLong X xss
  cells_long kind bs [] e h = tt
  cells_long kind bs (xs ∷ xss) e h = (fits_length kind bs xs h.0 ∙ e, cells_long kind bs xss e h.1)

  -- where the clocks of variables have the instants of the trace, so have their streams
  pub gathered_long :
      Every (λ here. Every (IsPresent here) (variables here.node)) (instances P) → AreLong X F
  gathered_long p =
      Every-of_pieces IsLong (variable_columns H) (instances P)
      (Every-map _ (λ here. AreLong X (variable_columns H here))
      (λ here z. Every-of_pieces IsLong (λ d. H.columns here.path d.name) (variables here.node)
      (Every-map _ (λ d. AreLong X (H.columns here.path d.name))
      (λ d w. cells_long d.kind (variable_presence H here d) (H.columns here.path d.name) w.0
      w.1.cells) (variables here.node)
      (Every-both (IsPresent here) (Fits P H here) (variables here.node) z.0 z.1.variables)))
      (instances P)
      (Every-both (λ here. Every (IsPresent here) (variables here.node)) (SolvesAt P H)
      (instances P) p s.instances))

  -- ## The streams of all elements

  abbrev pub all_gathered : List Stream
  all_gathered = all_streams_of count Y placing.laid P X F

  abbrev further : State
  further = emit_instances Y P (before_instances count) (instances P)

  closed : Closed count further
  closed = start_closed count Y P placing.laid

  -- each variable has the streams of its elements
  pub filled_columns :
      Every (λ here. Every (HasColumns all_gathered here) (variables here.node)) (instances P)
  filled_columns =
      Every-map (λ here. Every (HasColumns F here) (variables here.node))
      (λ here. Every (HasColumns all_gathered here) (variables here.node))
      (λ here h. Every-map (HasColumns F here) (HasColumns all_gathered here)
      (λ d e. columns_same X all_gathered F count
      (λ i lt. filled_keeps X F further.equations i (omega (arith, gathered_count)))
      (Y.places here.path d.name) (placing.laid.places here.path d.name) ∙ e)
      (variables here.node) h) (instances P) gathered_columns

  -- ## Truth values

  abbrev IsOfKind : ℕ → Type 0
  IsOfKind i = ElementOf (input_kinds P) N X s.rows all_gathered i

  elements_of :
      (k : FlatClock) (kind : Kind) (bs : List Bool) (is : List ℕ) →
      Every (IsElement K N size k kind) is →
      Every (λ xs. fits kind bs xs ≡ true) (columns X all_gathered is) → Every IsOfKind is
  elements_of k kind bs [] h f = tt
  elements_of k kind bs (i ∷ is) h f = (
    rw h.0.is_of (fits_of kind bs _ f.0),
    elements_of k kind bs is h.1 f.1,
  )

  instance_elements :
      Every (λ here.
      Every IsOfKind (flat_map (λ d. Y.places here.path d.name) (variables here.node)))
      (instances P)
  instance_elements =
      Every-map _ (λ here.
      Every IsOfKind (flat_map (λ d. Y.places here.path d.name) (variables here.node)))
      (λ here z. Every-of_pieces IsOfKind (λ d. Y.places here.path d.name) (variables here.node)
      (Every-map _ (λ d. Every IsOfKind (Y.places here.path d.name))
      (λ d w. elements_of _ d.kind (variable_presence H here d) (Y.places here.path d.name)
      w.0.elements (subst (Every (λ xs. fits d.kind (variable_presence H here d) xs ≡ true))
      (sym w.1.0) w.1.1.cells)) (variables here.node)
      (Every-both (Placed here) _ (variables here.node) z.1.0
      (Every-both (HasColumns all_gathered here) (Fits P H here) (variables here.node) z.0
      z.1.1.variables)))) (instances P)
      (Every-both (λ here. Every (HasColumns all_gathered here) (variables here.node)) _
      (instances P) filled_columns known_of)

  below_count : (i : ℕ) → i < count → IsOfKind i
  below_count i lt =
      subst IsOfKind (omega arith)
      (Every-range IsOfKind 0 count i (subst (Every IsOfKind) instance_order
      (Every-of_pieces IsOfKind (λ here. flat_map (λ d. Y.places here.path d.name)
      (variables here.node)) (instances P) instance_elements)) lt)

  -- in these streams, the operands that have to be truth values are truth values
  pub gathered_truths :
      Every (KindFits (input_kinds P) N) further.equations →
      Every (λ q. HasTruths X all_gathered q.operation) further.equations
  gathered_truths kinds =
      fresh_truths (input_kinds P) N X s.rows all_gathered count further.equations closed.fresh
      (filled_solves X F count further.equations gathered_count closed.fresh) kinds below_count

-- Every history that solves an accepted program comes from streams that solve its flat program,
-- with presence and kinds.

module _ (P : Program) (elaborated : static_refusal P ≡ None) (checked : check_refusal P ≡ None)
    (Y : Layout) (count : ℕ) (K : ℕ → FlatClock) (N : ℕ → Kind)
    (fit : IsFitting (input_kinds P) K N (expanded Y P count).equations)
    (placing : IsPlacing Y P count K N (expanded Y P count).size)
    (order : all_places Y P ≡ range_with_len 0 count)
    (sound : (X : Inputs) (F : List Stream) → IsProgramSound Y P (history_of Y X F)) where
  abbrev size : ℕ
  size = (expanded Y P count).size

  abbrev further_state : State
  further_state = emit_instances Y P (before_instances count) (instances P)

  further_closed : Closed count further_state
  further_closed = start_closed count Y P placing.laid

  -- what holds of all equations holds of the equations of the temporaries
  of_further :
      (Q : FlatEquation → Type 0) → Every Q (expanded Y P count).equations →
      Every Q further_state.equations
  of_further Q h =
      let given = given_inputs Y (instance_at P Root) in
      let seen = observed Y (instance_at P Root) (instance_at P Observer) in
      Every-second Q further_state.copies further_state.equations
      (Every-second Q seen (further_state.copies ++ further_state.equations)
      (Every-second Q given (seen ++ (further_state.copies ++ further_state.equations)) h))

  module _ (X : Inputs) (H : History) (h : Solves P X H) where
    -- the streams of all elements
    abbrev pub streams_for : List Stream
    streams_for = all_gathered P Y count K N size placing order X H h

    -- the history that these streams stand for
    abbrev pub history_for : History
    history_for = history_of Y X streams_for

    module _ (long : Every (λ here.
        Every (λ d. length (variable_presence H here d) ≡ length X) (variables here.node))
        (instances P))
        (ticks : Every (λ here. instants X streams_for (Y.runs here.path) ≡ H.ticks here.path)
        (instances P))
        (signs : (p : Path) (x : Name) →
        columns X streams_for (Y.places p x) ≡ columns X streams_for (Y.signs p x)) where
      pub same : AreSame P history_for H
      same =
          Every-map _ (AgreeAt history_for H)
          (λ here z. record { ticks = z.0; columns = z.1 }) (instances P)
          (Every-both (λ here. instants X streams_for (Y.runs here.path) ≡ H.ticks here.path)
          (λ here. Every (λ d. history_for.columns here.path d.name ≡ H.columns here.path d.name)
          (variables here.node)) (instances P) ticks
          (filled_columns P Y count K N size placing order X H h))

      turned : AreSame P H history_for
      turned =
          Every-map (AgreeAt history_for H) (AgreeAt H history_for)
          (λ here a. record {
            ticks = sym a.ticks;
            columns =
                Every-map
                (λ d. history_for.columns here.path d.name ≡ H.columns here.path d.name)
                (λ d. H.columns here.path d.name ≡ history_for.columns here.path d.name)
                (λ d e. sym e) (variables here.node) a.columns;
          }) (instances P) same

      own : Solves P X history_for
      own =
          solves_same P elaborated checked X H history_for turned
          (ap (instants X streams_for) placing.root) (ap (instants X streams_for) placing.observer)
          h

      tied : IsTied P X history_for
      tied = record {
        inputs = own.inputs;
        observed = own.observed;
        instances =
            Every-map (SolvesAt P history_for) (IsSolvedAt P history_for)
            (λ here s. record { equations = s.equations; calls = s.calls }) (instances P)
            own.instances;
      }

      agrees : Agrees Y X history_for streams_for
      agrees = record { columns = λ p x. refl; signs = signs; ticks = λ p. refl }

      flat : FlatSolves size (expanded Y P count).equations X streams_for
      flat =
          to_flat count Y placing.laid P X history_for (gathered_streams P H)
          (gathered_count P Y count K N size placing order X H h)
          (gathered_long P Y count K N size placing order X H h long)
          (gathered_truths P Y count K N size placing order X H h
          (of_further (KindFits (input_kinds P) N) fit.kinds))
          agrees (sound X streams_for) tied

      -- ## Presence and kinds

      abbrev IsFit : ℕ → Type 0
      IsFit i = fits (N i) (instants X streams_for (K i)) (column X streams_for i) ≡ true

      elements_fit :
          (k : FlatClock) (kind : Kind) (is : List ℕ) → Every (IsElement K N size k kind) is →
          Every (λ xs. fits kind (instants X streams_for k) xs ≡ true)
          (columns X streams_for is) →
          Every IsFit is
      elements_fit k kind [] e f = tt
      elements_fit k kind (i ∷ is) e f = (
        ap₂ (λ m c. fits m (instants X streams_for c) (column X streams_for i)) e.0.is_of e.0.clock
            ∙ f.0,
        elements_fit k kind is e.1 f.1,
      )

      variable_fit :
          (here : Instance) (d : Declaration) → IsVariablePlaced Y P K N size here d →
          Fits P history_for here d → Every IsFit (Y.places here.path d.name)
      variable_fit here d p f =
          let k = declared_clock here.node d.name in
          elements_fit (flat_clock Y here.path k) d.kind (Y.places here.path d.name) p.elements
          (subst (λ bs. Every (λ xs. fits d.kind bs xs ≡ true)
          (columns X streams_for (Y.places here.path d.name)))
          (presence_flat Y X history_for streams_for agrees here.path k) f.cells)

      abbrev own_places : Instance → List ℕ
      own_places here = flat_map (λ d. Y.places here.path d.name) (variables here.node)

      instance_fit :
          (here : Instance) → Every (IsVariablePlaced Y P K N size here) (variables here.node) →
          SolvesAt P history_for here → Every IsFit (own_places here)
      instance_fit here p s =
          Every-of_pieces IsFit (λ d. Y.places here.path d.name) (variables here.node)
          (Every-map _ (λ d. Every IsFit (Y.places here.path d.name))
          (λ d z. variable_fit here d z.0 z.1) (variables here.node)
          (Every-both (IsVariablePlaced Y P K N size here) (Fits P history_for here)
          (variables here.node) p s.variables))

      all_fit : Every IsFit (all_places Y P)
      all_fit =
          Every-of_pieces IsFit own_places (instances P)
          (Every-map _ (λ here. Every IsFit (own_places here))
          (λ here z. instance_fit here z.0 z.1) (instances P)
          (Every-both (λ here. Every (IsVariablePlaced Y P K N size here) (variables here.node))
          (SolvesAt P history_for) (instances P) placing.variables own.instances))

      below_fit : (i : ℕ) → i < count → IsFit i
      below_fit i lt =
          subst IsFit (omega arith)
          (Every-range IsFit 0 count i (subst (Every IsFit) order all_fit) lt)

      each_fit : (i : ℕ) → i < size → IsFit i
      each_fit i lt =
          fresh_fits (input_kinds P) K N X h.rows streams_for flat.as_long count further_state.equations
          further_closed.fresh
          (filled_solves X (gathered_streams P H) count further_state.equations
          (gathered_count P Y count K N size placing order X H h) further_closed.fresh)
          (of_further (ClockFits (length (input_kinds P)) K) fit.clocks)
          (of_further (KindFits (input_kinds P) N) fit.kinds) below_fit i
          (omega (arith, lt, further_closed.next))

      -- a history that solves the program comes from streams that solve the flat program
      pub solved_flat : IsFlatSolution (input_kinds P) N (expanded Y P count) X streams_for
      solved_flat = record {
        rows = h.rows;
        equations = flat;
        cells =
            cells_fit (input_kinds P) K N size X streams_for (expanded Y P count).equations
            (expanded_within count Y P placing.laid) fit.clocks each_fit;
      }
