-- A lane that holds the verdict and the state of the flat program stands for its trace in the
-- program's own terms.
use Rattle.std.proofs.Common.{◌≡◌, ℕ, ◌+◌, Bool, true, List, [], ◌∷◌, length, sym, subst}
use Rattle.lb_syntax.specs.Lists.{Every}
use Rattle.lb_syntax.specs.Tree.{Expr, Literal, Truth, Variable, Group, Unary, Binary, If, Arrow}
use Rattle.lb_syntax.specs.Tree.{Fby, Pre, Current, When, Replicate, Index, Slice, Join, Array}
use Rattle.lb_syntax.specs.Tree.{AtMostOne, Nor, Call, Iterate}
use Rattle.lb_static.specs.Instances.{Program, Instance, instances}
use Rattle.lb_static.specs.DataTypes.{input_kinds}
use Rattle.lb_check.specs.Clocks.{Clock, clock_of, clock_or}
use Rattle.lb_check.specs.Occurrences.{Occurrence, at, call_count, node_occurrences}
use Rattle.lb_check.specs.Scalars.{Scalar, Nil, Stream}
use Rattle.lb_check.specs.Solutions.{Inputs, HasOneHistory}
use Rattle.lb_check.specs.Streams.{History}
use Rattle.lb_check.specs.Verdicts.{HasVerdict}
use Rattle.lb_check.specs.declared.verdict.Verdict.{Verdict}
use Rattle.lb_check.proofs.programs.SameHistories.{only_verdict}
use Rattle.lb_flat.specs.Fitting.{IsFitting}
use Rattle.lb_flat.specs.Flat.{Previous, Latest}
use Rattle.lb_flat.specs.FlatPrograms.{IsFlatOf}
use Rattle.lb_flat.specs.FlatSolutions.{IsFlatSolution}
use Rattle.lb_flat.specs.Flattening.{history_of, IsTrace}
use Rattle.lb_flat.specs.TemporaryKinds.{kind_among}
use Rattle.lb_flat.specs.Judging.{FlatProgram, flat_verdict}
use Rattle.lb_flat.specs.Layouts.{flat_clock}
use Rattle.lb_flat.specs.MemoryPlaces.{HasMemories}
use Rattle.lb_flat.specs.NumberedLayouts.{layout}
use Rattle.lb_flat.specs.Run.{Ready, run, streams_of}
use Rattle.lb_flat.proofs.solutions.StandingRuns.{run_solves, standing_verdict, standing_determined}
use Rattle.lb_machine.specs.Meaning.{Lane}
use Rattle.lb_sim.specs.Promise.{HoldsMemories, HoldsEach, HoldsAll, HoldsHistory, StandsFor}
use Rattle.lb_sim.specs.Showing.{scalar_at}
use Rattle.lb_sim.specs.States.{kept_at, flag_at, IsStateAfter}
use Rattle.lb_sim.specs.declared.place.Holding.{Holding}
use Rattle.lb_sim.proofs.KeptPlaces.{previous_held, latest_held, operand_held, flag_operand_held}

module _ (P : Program) (f : FlatProgram) (flat : IsFlatOf P f) (ready : Ready f.size [] f.equations)
    (kept : List Holding) (s : Lane) (X : Inputs) (trace : IsTrace P X)
    (state : IsStateAfter f kept s X) where
  abbrev own : List Stream
  own = streams_of f.size (run f.size f.equations X)

  own_fitting :
      IsFitting (input_kinds P) flat.fitting.0 (kind_among f.kinds) f.equations
  own_fitting =
      subst (λ l. IsFitting l flat.fitting.0 (kind_among f.kinds) f.equations) flat.signature
      flat.fitting.1

  pub solution : IsFlatSolution (input_kinds P) (kind_among f.kinds) f X own
  solution =
      run_solves (input_kinds P) (kind_among f.kinds) f ready flat.fitting.0 own_fitting X trace

  abbrev memory : ℕ → Scalar
  memory e = scalar_at s (kept_at kept e)

  abbrev flag : ℕ → Bool
  flag e = flag_at s (kept_at kept e)

  abbrev H : History
  H = history_of (layout P) X own

  abbrev Here : Instance → Clock → ℕ → Expr → Type 0
  Here here k n e =
      (h : HasMemories P (layout P) (kind_among f.kinds) f here k n e) →
      HoldsMemories P (layout P) (kind_among f.kinds) f memory flag H here k n e h

  -- the memories of an operator are those of the history
  pub memories_held : (here : Instance) (k : Clock) (n : ℕ) (e : Expr) → Here here k n e
  memories_held here k n (Pre a) h =
      operand_held f kept s X state P (layout P) (kind_among f.kinds) solution here k (at k n a)
      (Previous Nil) (previous_held f kept s X state (flat_clock (layout P) here.path k)) h
  memories_held here k n (Current a) h =
      operand_held f kept s X state P (layout P) (kind_among f.kinds) solution here k
      (at (clock_or (clock_of P here.node a)) n a) (Latest Nil)
      (latest_held f kept s X state (flat_clock (layout P) here.path k)) h
  memories_held here k n (Arrow a b) h =
      flag_operand_held f kept s X state P (layout P) (kind_among f.kinds) solution here k
      (at k n a) h
  memories_held here k n (Fby a b) h = (
    operand_held f kept s X state P (layout P) (kind_among f.kinds) solution here k
        (at k (n + call_count a) b) (Previous Nil)
        (previous_held f kept s X state (flat_clock (layout P) here.path k)) h.0,
    flag_operand_held f kept s X state P (layout P) (kind_among f.kinds) solution here k
        (at k n a) h.1,
  )
  memories_held here k n (Literal m) h = tt
  memories_held here k n (Truth b) h = tt
  memories_held here k n (Variable x) h = tt
  memories_held here k n (Group a) h = tt
  memories_held here k n (Unary op a) h = tt
  memories_held here k n (Binary op a b) h = tt
  memories_held here k n (If c a b) h = tt
  memories_held here k n (When a x sign) h = tt
  memories_held here k n (Replicate a m) h = tt
  memories_held here k n (Index a i) h = tt
  memories_held here k n (Slice a i j) h = tt
  memories_held here k n (Join a b) h = tt
  memories_held here k n (Array es) h = tt
  memories_held here k n (AtMostOne es) h = tt
  memories_held here k n (Nor es) h = tt
  memories_held here k n (Call g statics es) h = tt
  memories_held here k n (Iterate it node m es) h = tt

  each_held :
      (here : Instance) (os : List Occurrence)
      (h : Every (λ o.
      HasMemories P (layout P) (kind_among f.kinds) f here o.clock o.calls_before o.expr) os) →
      HoldsEach P (layout P) (kind_among f.kinds) f memory flag H here os h
  each_held here [] h = tt
  each_held here (o ∷ os) h =
      (memories_held here o.clock o.calls_before o.expr h.0, each_held here os h.1)

  all_held :
      (is : List Instance)
      (h : Every (λ here.
      Every (λ o.
      HasMemories P (layout P) (kind_among f.kinds) f here o.clock o.calls_before o.expr)
      (node_occurrences P here.node)) is) →
      HoldsAll P (layout P) (kind_among f.kinds) f memory flag H is h
  all_held [] h = tt
  all_held (here ∷ is) h =
      (each_held here (node_occurrences P here.node) h.0, all_held is h.1)

  -- the memories are those of the history of the run
  pub history_held :
      HoldsHistory P (layout P) (kind_among f.kinds) f flat.memories memory flag X
  history_held = record {
    history = H;
    solves =
        flat.solves X own
        (subst (λ l. IsFlatSolution l (kind_among f.kinds) f X own) (sym flat.signature) solution);
    memories = all_held (instances P) flat.memories;
  }

-- the lane stands for the trace
pub stands_for :
    (P : Program) (f : FlatProgram) (flat : IsFlatOf P f) → Ready f.size [] f.equations →
    (kept : List Holding) (s : Lane) (X : Inputs) → IsTrace P X → (verdict : Verdict) →
    (active : Bool) → (steps : ℕ) → verdict ≡ flat_verdict f X →
    (active ≡ true → length X ≡ steps) → (active ≡ true → IsStateAfter f kept s X) →
    StandsFor P (layout P) (kind_among f.kinds) f flat.memories verdict active steps
    (λ e. scalar_at s (kept_at kept e)) (λ e. flag_at s (kept_at kept e)) X
stands_for P f flat ready kept s X trace verdict active steps is long state =
    let one : HasOneHistory P X = (standing_determined P f flat ready).one X trace in
    record {
      verdict_is =
          only_verdict P flat.accepted flat.checked X one verdict
          (subst (HasVerdict P X) (sym is) (standing_verdict P f flat ready X trace));
      one_history = one;
      as_long = long;
      memories = λ on. history_held P f flat ready kept s X trace (state on);
    }
