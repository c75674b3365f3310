-- A program for which a flat program in order stands: its solutions, runs and verdicts.
use Rattle.lb_flat.proofs.Words
use Words.{AgreeAt, AreApart, AreSame, Arrow, Chain, Current, E4, E7, E8, Every, Every-from, Expr}
use Words.{Fby, FlatClock, FlatEquation, FlatProgram, FlatSolves, HasAllMemories, HasMemories}
use Words.{HasReads, History, Holds, IfSome, In, Inputs, Instance, IsCellFit, IsExpansionOf}
use Words.{IsFlatOf, IsFlatSolution, IsGiven, IsOrderOf, IsOrderingOf, IsRecording, IsTrace}
use Words.{IsWatched, KeepsFlag, KeepsOperand, Kind, Layout, Leads, List, None, Observer}
use Words.{Occurrence, Operation, Option, Passed, Pre, Program, Ready, Recording, Root, Solves}
use Words.{Some, Stream, Verdict, [], ap, arith, by_way, check_refusal, column, equation_reads}
use Words.{fits, flat_verdict, get_or, get_or-map-range_with_len, has_no_parameters, history_of}
use Words.{holds, inl, input_kinds, inputs_of, instance_at, instances, instantiation_refusal}
use Words.{instants, is_root, is_row, is_well_founded, keeps_names, kept, kind_among, layout}
use Words.{length, length-map-range_with_len, map, more_reads, node_occurrences, one_read, path_is}
use Words.{program_of, reads_it, refl, replicate, run, second_none, signature, solves_same}
use Words.{static_refusal, streams_of, subst, sym, take, true, unless, ℕ, ◌++◌, ◌<◌, ◌↔◌, ◌∙◌, ◌∷◌}
use Words.{◌≡◌, ◌≤◌}
use Rattle.lb_check.{proofs.programs.SameHistories.{only_verdict, starts_agree}, specs.Clocks.Clock}
use Rattle.lb_check.specs.{Solutions.HasOneHistory, Verdicts.{HasVerdict, IsOnlyVerdict}}
use Rattle.lb_flat.proofs.{lists.Lists.{Every-both, Every-in, Every-map}, ordering.Ordering.In-map}
use Rattle.lb_flat.proofs.ordering.{Ordering.{IsFrom, from_map, ready_of}, ReadCycles.new_later}
use Rattle.lb_flat.proofs.runs.{Fitting.solution_fits, Judging.{flat_ends, instances_prefix}}
use Rattle.lb_flat.proofs.runs.{Judging.streams_taken, RecordedInputs.trace_given, Running.exists}
use Rattle.lb_flat.{proofs.runs.Running.unique, specs.{Correct.IsVerdictOf, Fitting.ClockFits}}
use Rattle.lb_flat.specs.{Fitting.{IsFitting, KindFits}, FlatPrograms.IsStreamed}
use Rattle.lb_flat.specs.{Prefixes.{IsDetermined, IsPrefix}, PreparedPrograms.prepared_props}
use Rattle.lb_flat.specs.{RightVerdicts.{right_verdict, right_verdicts}, Standing.StandsForProgram}
use Rattle.{lb_flat.specs.declared.flat.Ordered.Ordered, std.proofs.Math.Logic.{∥∥₁_elim, ∥∥₁_map}}

-- A flat program put in order has the same solutions, watched elements and memories.

-- what holds of all equations of a list holds of all in another order
pub Every-ordered :
    (P : FlatEquation → Type 0) (Q Q' : List FlatEquation) →
    ((q : FlatEquation) → In q Q → In q Q') → Every P Q' → Every P Q
Every-ordered P Q Q' there h = Every-from P Q (λ q i. Every-in P q Q' h (there q i))

-- where clocks and kinds fit, they fit in every order of the equations
pub fitting_ordered :
    (inputs : List Kind) (K : ℕ → FlatClock) (N : ℕ → Kind) (Q Q' : List FlatEquation) →
    IsOrderingOf Q Q' → IsFitting inputs K N Q → IsFitting inputs K N Q'
fitting_ordered inputs K N Q Q' o fit = record {
  clocks = Every-ordered (ClockFits (length inputs) K) Q' Q o.back fit.clocks;
  kinds = Every-ordered (KindFits inputs N) Q' Q o.back fit.kinds;
}

-- a flat program with its equations in another order
abbrev pub in_order : FlatProgram → List FlatEquation → FlatProgram
in_order f Q = record f { equations = Q }

module _ (wanted : List Kind) (kinds : ℕ → Kind) where
  -- a solution of a flat program is a solution of it in order
  pub solution_there :
      (f : FlatProgram) (Q : List FlatEquation) → IsOrderingOf f.equations Q →
      (X : Inputs) (F : List Stream) → IsFlatSolution wanted kinds f X F →
      IsFlatSolution wanted kinds (in_order f Q) X F
  solution_there f Q o X F s = record {
    rows = s.rows;
    equations = record {
      elements = s.equations.elements;
      as_long = s.equations.as_long;
      equations = Every-ordered (Holds X F) Q f.equations o.back s.equations.equations;
    };
    cells = Every-ordered (IsCellFit kinds X F) Q f.equations o.back s.cells;
  }

  -- a solution of the flat program in order is a solution of the flat program
  pub solution_back :
      (f : FlatProgram) (Q : List FlatEquation) → IsOrderingOf f.equations Q →
      (X : Inputs) (F : List Stream) → IsFlatSolution wanted kinds (in_order f Q) X F →
      IsFlatSolution wanted kinds f X F
  solution_back f Q o X F s =
      solution_there (in_order f Q) f.equations (record { there = o.back; back = o.there }) X F s

-- what is watched does not depend on the order of the equations
pub watched_there :
    (P : Program) (f : FlatProgram) (Q : List FlatEquation) (X : Inputs) (F : List Stream)
    (H : History) (t : ℕ) → IsWatched P f X F H t → IsWatched P (in_order f Q) X F H t
watched_there P f Q X F H t w = record {
  fault = w.fault;
  undefined = w.undefined;
  failed = w.failed;
  violated = w.violated;
}

-- ## Memories

module _ (P : Program) (Y : Layout) (kinds : ℕ → Kind) (f : FlatProgram) (Q : List FlatEquation)
    (o : IsOrderingOf f.equations Q) where
  abbrev g : FlatProgram
  g = in_order f Q

  among : (qs : List FlatEquation) → Every (λ q. In q f.equations) qs → Every (λ q. In q Q) qs
  among qs h = Every-map (λ q. In q f.equations) (λ q. In q Q) o.there qs h

  operand_there :
      (here : Instance) (k : Clock) (a : Occurrence) (make : ℕ → Operation) →
      KeepsOperand P Y kinds f here k a make → KeepsOperand P Y kinds g here k a make
  operand_there here k a make h = record {
    places = h.places;
    operands = h.operands;
    as_many = h.as_many;
    equations = among _ h.equations;
    streams = λ X F s. h.streams X F (solution_back (input_kinds P) kinds f Q o X F s);
  }

  flag_there :
      (here : Instance) (k : Clock) (a : Occurrence) →
      KeepsFlag P Y kinds f here k a → KeepsFlag P Y kinds g here k a
  flag_there here k a h = record {
    places = h.places;
    firsts = h.firsts;
    thens = h.thens;
    as_many = h.as_many;
    both = h.both;
    equations = among _ h.equations;
    streams = λ X F s. h.streams X F (solution_back (input_kinds P) kinds f Q o X F s);
  }

  memories_there :
      (here : Instance) (k : Clock) (n : ℕ) (e : Expr) → HasMemories P Y kinds f here k n e →
      HasMemories P Y kinds g here k n e
  memories_there here k n (Pre a) h = operand_there here k _ _ h
  memories_there here k n (Current a) h = operand_there here k _ _ h
  memories_there here k n (Arrow a b) h = flag_there here k _ h
  memories_there here k n (Fby a b) h = (operand_there here k _ _ h.0, flag_there here k _ h.1)
  memories_there here k n e h = tt

  -- the memories of all operators are in the flat program in order too
  pub all_memories_there : HasAllMemories P Y kinds f → HasAllMemories P Y kinds g
  all_memories_there h =
      Every-map _ (λ here.
      Every (λ o. HasMemories P Y kinds g here o.clock o.calls_before o.expr)
      (node_occurrences P here.node))
      (λ here all.
      Every-map (λ o. HasMemories P Y kinds f here o.clock o.calls_before o.expr)
      (λ o. HasMemories P Y kinds g here o.clock o.calls_before o.expr)
      (λ o m. memories_there here o.clock o.calls_before o.expr m)
      (node_occurrences P here.node) all)
      (instances P) h

-- The run of a flat program in order computes its one solution, with presence and kinds; this
-- decides what a program that it stands for does on a trace.

-- equations in order give only elements below `size`
pub ready_within : (size : ℕ) (done : List ℕ) (Q : List FlatEquation) → Ready size done Q →
    Every (λ q. q.element < size) Q
ready_within size done [] ready = tt
ready_within size done (q ∷ Q) ready =
    (ready.0.is_element, ready_within size (q.element ∷ done) Q ready.1)

-- ## The one solution

-- where all elements fit their clocks and kinds, so do the cells of equations whose clocks fit
pub cells_fit :
    (inputs : List Kind) (K : ℕ → FlatClock) (N : ℕ → Kind) (size : ℕ) (X : Inputs)
    (F : List Stream) (Q : List FlatEquation) → Every (λ q. q.element < size) Q →
    Every (ClockFits (length inputs) K) Q →
    ((i : ℕ) → i < size → fits (N i) (instants X F (K i)) (column X F i) ≡ true) →
    Every (IsCellFit N X F) Q
cells_fit inputs K N size X F Q within clocks all =
    Every-map _ (IsCellFit N X F) (λ q h. rw (← h.1.own) (all q.element h.0)) Q (Every-both
    (λ q. q.element < size) (ClockFits (length inputs) K) Q within clocks)

module _ (wanted : List Kind) (kinds : ℕ → Kind) (f : FlatProgram)
    (ready : Ready f.size [] f.equations) (K : ℕ → FlatClock)
    (fit : IsFitting wanted K kinds f.equations) (X : Inputs) where
  -- streams that satisfy the equations have presence and kinds
  pub solution_of : (F : List Stream) → Every (λ row. is_row wanted row ≡ true) X →
      FlatSolves f.size f.equations X F → IsFlatSolution wanted kinds f X F
  solution_of F rows s = record {
    rows = rows;
    equations = s;
    cells =
        cells_fit wanted K kinds f.size X F f.equations
        (ready_within f.size [] f.equations ready) fit.clocks
        (solution_fits wanted K kinds f.size X f.equations F ready s rows fit);
  }

  -- the streams of the run are a solution
  pub run_solves : Every (λ row. is_row wanted row ≡ true) X →
      IsFlatSolution wanted kinds f X (streams_of f.size (run f.size f.equations X))
  run_solves rows = solution_of _ rows (exists f.size X f.equations ready)

-- A history that agrees with a solution of an accepted program is a solution too, where an observer
-- would run at every instant.

-- the node under test is there and passes `is_root`, where the static rules hold
pub root_kept : (P : Program) → static_refusal P ≡ None →
    holds (is_root P) (instance_at P Root) ≡ true
root_kept P e =
    let calls = second_none (unless (keeps_names P) E4) _ e in
    let parameters = second_none (unless (is_well_founded P) E7) _ calls in
    let inside = second_none (unless (has_no_parameters P) E8) _ parameters in
    kept (holds (is_root P) (instance_at P Root)) E8
    (second_none (instantiation_refusal P 0 (instances P)) _ inside)

-- an accepted program has a node under test
root_there : (P : Program) (o : Option Instance) → holds (is_root P) o ≡ true →
    (c : Instance) × (o ≡ Some c)
root_there P None e = absurd cc
root_there P (Some c) e = (c, refl)

-- the node under test runs at the same instants in two histories that agree
root_alike : (P : Program) → static_refusal P ≡ None → (H G : History) → AreSame P H G →
    H.ticks Root ≡ G.ticks Root
root_alike P elaborated H G same =
    let c = root_there P (instance_at P Root) (root_kept P elaborated) in
    let agree = subst (λ o. IfSome o (AgreeAt H G)) c.1 (starts_agree P H G same).0 in
    subst (λ p. H.ticks p ≡ G.ticks p) (path_is P Root c.0 c.1) agree.ticks

-- a history in which an observer would run at every instant is a solution, if it agrees with one
pub same_solves :
    (P : Program) → static_refusal P ≡ None → check_refusal P ≡ None → (X : Inputs)
    (H G : History) → AreSame P H G → G.ticks Observer ≡ replicate (length X) true →
    Solves P X H → Solves P X G
same_solves P elaborated checked X H G same observer_runs h =
    solves_same P elaborated checked X H G same
    (sym (root_alike P elaborated H G same) ∙ h.root_runs) observer_runs h

-- A program for which a flat program stands: the histories that solve it and its verdicts. Nothing
-- of this depends on the order of the equations.

module _ (P : Program) (f : FlatProgram) (s : IsFlatOf P f) where
  -- ## Other orders

  -- a flat program stands for the program in every order of its equations
  pub flat_ordered :
      (Q : List FlatEquation) → IsOrderingOf f.equations Q →
      IsFlatOf P (in_order f Q)
  flat_ordered Q o = record {
    accepted = s.accepted;
    checked = s.checked;
    signature = s.signature;
    variables = s.variables;
    as_many = s.as_many;
    variable_kinds = s.variable_kinds;
    fitting = (
      s.fitting.0,
      fitting_ordered f.inputs s.fitting.0 (kind_among f.kinds) f.equations Q o s.fitting.1,
    );
    solves = λ X F g. s.solves X F (solution_back f.inputs (kind_among f.kinds) f Q o X F g);
    solved = λ X H h.
        let r = s.solved X H h in
        (r.0, solution_there f.inputs (kind_among f.kinds) f Q o X r.0 r.1, r.2);
    watched = λ X F g t lt.
        watched_there P f Q X F (history_of (layout P) X F) t
        (s.watched X F (solution_back f.inputs (kind_among f.kinds) f Q o X F g) t lt);
    memories = all_memories_there P (layout P) (kind_among f.kinds) f Q o s.memories;
  }

  -- the flat program that `order` makes stands for the program too
  pub flat_in_order : (g : FlatProgram) → IsOrderOf f g → IsFlatOf P g
  flat_in_order g o = subst (λ h. IsFlatOf P h) (sym o.same) (flat_ordered g.equations o.ordering)

  -- ## Histories

  -- exactly the histories that come from solutions of the flat program solve the program
  pub solves_streamed : (X : Inputs) (H : History) → Solves P X H ↔ IsStreamed P f X H
  solves_streamed X H = (
    λ h.
        let r = s.solved X H h in
        record { observer_runs = h.observer_runs; streams = r.0; solution = r.1; same = r.2 },
    λ z.
        same_solves P s.accepted s.checked X (history_of (layout P) X z.streams) H z.same
        z.observer_runs (s.solves X z.streams z.solution),
  )

  -- ## Runs

  module _ (ready : Ready f.size [] f.equations) where
    abbrev streams_on : Inputs → List Stream
    streams_on X = streams_of f.size (run f.size f.equations X)

    -- each solution is what the run computes
    is_run :
        (X : Inputs) (F : List Stream) → IsFlatSolution f.inputs (kind_among f.kinds) f X F →
        F ≡ streams_on X
    is_run X F g = unique f.size X f.equations F ready g.equations

    module _ (X : Inputs) (trace : IsTrace P X) where
      own : IsFlatSolution f.inputs (kind_among f.kinds) f X (streams_on X)
      own =
          run_solves f.inputs (kind_among f.kinds) f ready s.fitting.0 s.fitting.1 X
          (subst (λ kinds. Every (λ row. is_row kinds row ≡ true) X) (sym s.signature) trace)

      -- the verdict of a run is that of the program
      pub standing_verdict : HasVerdict P X (flat_verdict f X)
      standing_verdict = (
        history_of (layout P) X (streams_on X),
        s.solves X (streams_on X) own,
        flat_ends P f X (streams_on X) (history_of (layout P) X (streams_on X)) ready
            own.equations (s.watched X (streams_on X) own),
      )

      -- the program has exactly one history
      standing_alone : HasOneHistory P X
      standing_alone = record {
        history = history_of (layout P) X (streams_on X);
        solves = s.solves X (streams_on X) own;
        only = λ H h.
            let g = s.solved X H h in
            subst (λ F. AreSame P (history_of (layout P) X F) H) (is_run X g.0 g.1) g.2;
      }

    -- what happens up to an instant does not depend on what comes after it
    standing_prefix :
        (X Z : Inputs) (H H' : History) → Solves P (X ++ Z) H → Solves P X H' →
        IsPrefix P H' H (length X)
    standing_prefix X Z H H' whole part =
        let r = s.solved (X ++ Z) H whole in
        let p = s.solved X H' part in
        let same =
        is_run X p.0 p.1 ∙ streams_taken Z f.size f.equations X ready
        ∙ sym (ap (map (take (length X))) (is_run (X ++ Z) r.0 r.1)) in
        instances_prefix Z X (layout P) r.0 p.0 same H' H (instances P) p.2 r.2

    -- inputs determine the history, instant by instant
    pub standing_determined : IsDetermined P
    standing_determined = record { one = standing_alone; prefix = standing_prefix }

    -- the verdict of a recorded trace is the only one
    pub standing_recorded :
        (r : Recording) (k : ℕ) → signature P ≡ r.signature → IsRecording r →
        k < length r.traces → (v : Verdict) → v ≡ flat_verdict f (inputs_of r k) →
        IsOnlyVerdict P (inputs_of r k) v
    standing_recorded r k same lawful below v e =
        let trace = trace_given P r k same lawful below in
        only_verdict P s.accepted s.checked (inputs_of r k) (standing_alone (inputs_of r k) trace)
        v (subst (HasVerdict P (inputs_of r k)) (sym e) (standing_verdict (inputs_of r k) trace))

-- A flat program that is put in order is an expansion of the same programs as before.

-- the element of an equation
abbrev element : FlatEquation → ℕ
element q = q.element

-- equations in order give no element twice
given_apart :
    (size : ℕ) (done : List ℕ) (Q : List FlatEquation) → Ready size done Q →
    AreApart (map element Q)
given_apart size done [] ready = tt
given_apart size done (q ∷ Q) ready = (
  λ again.
      let from : IsFrom element q.element Q = from_map element q.element Q again in
      new_later size (q.element ∷ done) Q ready.1 from.source from.is_in (inl (sym from.is)),
  given_apart size (q.element ∷ done) Q ready.1,
)

module _ (f : FlatProgram) (Q : List FlatEquation) (o : IsOrderingOf f.equations Q) where
  -- each element still has exactly one equation
  given_in_order : Ready f.size [] Q → IsGiven f → IsGiven (in_order f Q)
  given_in_order ready given = record {
    each = λ i lt.
        let from : IsFrom element i f.equations =
        from_map element i f.equations (given.each i lt) in
        subst (λ j. In j (map element Q)) from.is
        (In-map element from.source Q (o.there from.source from.is_in));
    once = given_apart f.size [] Q ready;
    lower = Every-ordered
        (λ q. f.variables ≤ q.element → Every (λ i. i < q.element) (equation_reads q)) Q f.equations
        o.back given.lower;
  }

  -- an element leads to another in order only where it did before
  leads_back : (j i : ℕ) → Leads (in_order f Q) j i → Leads f j i
  leads_back j _ (reads_it q is own) = reads_it q (o.back q is) own
  leads_back j _ (by_way q e is own further rest) =
      by_way q e (o.back q is) own further (leads_back j e rest)

  chain_there : (j i : ℕ) → Chain f j i → Chain (in_order f Q) j i
  chain_there j _ (one_read q is own) = one_read q (o.there q is) own
  chain_there j _ (more_reads q e is own rest) =
      more_reads q e (o.there q is) own (chain_there j e rest)

  -- a flat program is an expansion of a program in every order of its equations
  pub expansion_ordered :
      (P : Program) → Ready f.size [] Q → IsExpansionOf P f → IsExpansionOf P (in_order f Q)
  expansion_ordered P ready e = record {
    flat = flat_ordered P f e.flat Q o;
    given = given_in_order ready e.given;
    needs = λ i j below also leads. e.needs i j below also (leads_back j i leads);
    reads = λ x y needs.
        let r : HasReads P f x y = e.reads x y needs in
        record {
          one = r.one;
          other = r.other;
          is_one = r.is_one;
          is_other = r.is_other;
          chain = chain_there r.other r.one r.chain;
        };
  }

-- `order` keeps that a flat program is an expansion of a program
pub expansion_in_order :
    (P : Program) (f g : FlatProgram) → IsOrderOf f g → IsExpansionOf P f → IsExpansionOf P g
expansion_in_order P f g o e =
    subst (λ h. IsExpansionOf P h) (sym o.same)
    (expansion_ordered f g.equations o.ordering P
    (subst (λ n. Ready n [] g.equations) (ap (λ (h : FlatProgram). h.size) o.same) o.ready) e)

-- The right verdict of a trace is its verdict, and no other is.

-- any two proofs that two verdicts are the same are equal
pub verdicts_prop : (v w : Verdict) → IsProp (v ≡ w)
verdicts_prop v w = Prim.hlevel prepared_props

-- ## That a flat program stands for a program

pub stands_for : (P : Program) (f : FlatProgram) → IsFlatOf P f → StandsForProgram f
stands_for P f flat = ∣ (P, flat) ∣₁

-- where a flat program stands for a program, so does the flat program in order
pub stands_in_order : (f g : FlatProgram) → IsOrderOf f g → StandsForProgram f → StandsForProgram g
stands_in_order f g order stands = ∥∥₁_map stands (λ s. (s.0, flat_in_order s.0 f s.1 g order))

-- the equations of an ordered program can be computed one after the other
pub ordered_ready : (o : Ordered) → Ready o.program.size [] (program_of o.program).equations
ordered_ready o = ready_of o.program.size (program_of o.program).equations o.in_order

-- ## Verdicts

-- a verdict that is right if clocks and kinds fit is right if the flat program stands for a program
pub right_where_fitting :
    (f : FlatProgram) (r : Recording) (k : ℕ) (v : Verdict) →
    ((K : ℕ → FlatClock) → IsFitting f.inputs K (kind_among f.kinds) f.equations →
    v ≡ right_verdict f r k) →
    StandsForProgram f → v ≡ right_verdict f r k
right_where_fitting f r k v is stands =
    ∥∥₁_elim stands (verdicts_prop v (right_verdict f r k))
    (λ s. is s.1.fitting.0 s.1.fitting.1)

-- the right verdict of a trace is its verdict
pub right_is_verdict :
    (f : FlatProgram) (r : Recording) (k : ℕ) → Ready f.size [] f.equations → IsRecording r →
    k < length r.traces → IsVerdictOf f r k (right_verdict f r k)
right_is_verdict f r k ready lawful below = record {
  only_verdict = λ P flat same.
      standing_recorded P f flat ready r k same lawful below (right_verdict f r k) refl;
  has_one_history = λ P flat same.
      let determined = standing_determined P f flat ready in
      determined.one (inputs_of r k) (trace_given P r k same lawful below);
  is_right = λ stands kinds. refl;
}

-- ## Lists of them

pub length-right_verdicts :
    (f : FlatProgram) (r : Recording) → length (right_verdicts f r) ≡ length r.traces
length-right_verdicts f r = length-map-range_with_len (right_verdict f r) 0 (length r.traces)

pub right_verdict_at :
    (f : FlatProgram) (r : Recording) (k : ℕ) → k < length r.traces →
    get_or (right_verdicts f r) k Passed ≡ right_verdict f r k
right_verdict_at f r k below =
    get_or-map-range_with_len (right_verdict f r) 0 (length r.traces) k k Passed below
    (omega arith)

-- item `k` of the right verdicts is the verdict of trace `k`
pub right_verdicts_are :
    (f : FlatProgram) (r : Recording) → Ready f.size [] f.equations → IsRecording r →
    (k : ℕ) → k < length r.traces → IsVerdictOf f r k (get_or (right_verdicts f r) k Passed)
right_verdicts_are f r ready lawful k below =
    subst (IsVerdictOf f r k) (sym (right_verdict_at f r k below))
    (right_is_verdict f r k ready lawful below)
