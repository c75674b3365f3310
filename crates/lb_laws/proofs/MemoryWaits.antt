-- A memory of an active lane does not change where its clock does not tick.
use Rattle.std.proofs.Common.{◌≡◌, ℕ, zero, suc, ◌+◌, Bool, true, false, Some, None, List, [], ◌∷◌}
use Rattle.std.proofs.Common.{◌++◌, length, map, get_or, refl, ap, ap₂, sym, subst, ◌∙◌, arith}
use Rattle.lb_syntax.specs.Lists.{Every, In, zip2}
use Rattle.lb_syntax.specs.Tree.{Name, Expr, Literal, Truth, Variable, Group, Unary, Binary, If}
use Rattle.lb_syntax.specs.Tree.{Arrow, Fby, Pre, Current, When, Replicate, Index, Slice, Join}
use Rattle.lb_syntax.specs.Tree.{Array, AtMostOne, Nor, Call, Iterate}
use Rattle.lb_static.specs.DataTypes.{DataType, input_kinds}
use Rattle.lb_static.specs.Instances.{Program, Instance, node_sites, instances, sites}
use Rattle.lb_check.specs.ClockRules.{are_declared_clocks}
use Rattle.lb_check.specs.Clocks.{Clock, clock_of, clock_or}
use Rattle.lb_check.specs.Occurrences.{Occurrence, at, call_count, node_occurrences, occurrences}
use Rattle.lb_check.specs.Scalars.{Scalar, Nil, Stream}
use Rattle.lb_check.specs.Solutions.{Inputs, Solves}
use Rattle.lb_check.specs.Streams.{History, presence, streams}
use Rattle.lb_check.specs.Types.{data_types, common_type}
use Rattle.lb_check.proofs.clocking.NamedClocks.{OfCalled, Sited, sited_first, sited_second}
use Rattle.lb_check.proofs.{lists.Members.{Every-at, Every-from}, programs.AcceptedRules.clocked}
use Rattle.lb_check.proofs.programs.AcceptedRules.{typed, all_declared, calls_have}
use Rattle.lb_check.proofs.programs.OccurrenceParts.{OperandsHave, OperandHas, operands_have}
use Rattle.lb_check.proofs.programs.StandingParts.{Stands, node_stands}
use Rattle.lb_check.proofs.programs.TypedOccurrences.{IsVariable, own_variables}
use Rattle.lb_check.proofs.typing.OperandTypes.{one, two}
use Rattle.lb_flat.specs.Flat.{FlatClock, Operation, FirstThen, Previous, Latest, FlatEquation}
use Rattle.lb_flat.specs.Flat.{column}
use Rattle.lb_flat.specs.FlatPrograms.{IsFlatOf}
use Rattle.lb_flat.specs.FlatSolutions.{IsFlatSolution}
use Rattle.lb_flat.specs.Fitting.{IsFitting}
use Rattle.lb_flat.specs.Flattening.{history_of, IsTrace}
use Rattle.lb_flat.specs.TemporaryKinds.{kind_among}
use Rattle.lb_flat.specs.Judging.{FlatProgram}
use Rattle.lb_flat.specs.Layouts.{flat_clock}
use Rattle.lb_flat.specs.MemoryPlaces.{KeepsOperand, KeepsFlag, HasMemories, equations_at}
use Rattle.lb_flat.specs.MemoryPlaces.{after_rows, cells_in}
use Rattle.lb_flat.specs.NumberedLayouts.{layout}
use Rattle.lb_flat.specs.Run.{Ready, Row, advanced, cell, row_of, run, streams_of}
use Rattle.lb_flat.proofs.solutions.StandingRuns.{run_solves}
use Rattle.lb_lanes.specs.Planes.{on}
use Rattle.lb_sim.specs.BatchLaws.{IsKept, next_cell}
use Rattle.lb_sim.specs.BatchRuns.{flag_in, flat_of, lane_in, memory_at}
use Rattle.lb_sim.specs.Correct.{Stands as LaneStands}
use Rattle.lb_sim.specs.declared.batch_run.BatchRun.{BatchRun}
use Rattle.lb_sim.proofs.LanePrograms.{program_ready}
use Rattle.lb_sim.proofs.RunMemories.{run_appended, run_cells}
use Rattle.lb_sim.proofs.Waiting.{program_keeps}
use Rattle.lb_laws.specs.MemoryWaits.{OperandWaits, FlagWaits, MemoriesWait, EachWaits, AllWait}
use Rattle.lb_laws.specs.MemoryWaits.{WaitsForClocks}
use Rattle.lb_laws.specs.Ticks.{IsOff, IsAbsent, AreAbsent}
use Rattle.lb_laws.proofs.AbsentStreams.{absent}

-- ## The row of the last instant

run_length : (size : ℕ) (Q : List FlatEquation) (X : Inputs) → length (run size Q X) ≡ length X
run_length size Q [] = refl
run_length size Q (given ∷ X) = ap suc (run_length size (map (advanced (row_of size Q given)) Q) X)

last_cell :
    (rows : List Row) (row : Row) (a n : ℕ) → length rows ≡ n →
    get_or (cells_in (rows ++ row ∷ []) a) n None ≡ cell row a
last_cell [] row a zero e = refl
last_cell [] row a (suc n) e = absurd cc
last_cell (r ∷ rows) row a zero e = absurd cc
last_cell (r ∷ rows) row a (suc n) e = last_cell rows row a n (omega (arith, e))

absent_places :
    (t : ℕ) (X : Inputs) (F : List Stream) (is : List ℕ) → AreAbsent t (map (column X F) is) →
    Every (λ a. IsAbsent t (column X F a)) is
absent_places t X F [] h = tt
absent_places t X F (i ∷ is) h = (h.0, absent_places t X F is h.1)

-- ## Memories of a flat program

module _ (f : FlatProgram) (X : Inputs) (given : List Scalar) (memory later : ℕ → Scalar)
    (flag later_flag : ℕ → Bool)
    (kept : Every (λ q. IsKept (next_cell f X given) (later q.element ≡ memory q.element)
    (later_flag q.element ≡ flag q.element) q.operation) f.equations) where
  abbrev longer : Inputs
  longer = X ++ given ∷ []

  abbrev own : List Stream
  own = streams_of f.size (run f.size f.equations longer)

  abbrev Kept : FlatEquation → Type 0
  Kept q =
      IsKept (next_cell f X given) (later q.element ≡ memory q.element)
      (later_flag q.element ≡ flag q.element) q.operation

  kept_at : (q : FlatEquation) → In q f.equations → Kept q
  kept_at q i = Every-at Kept f.equations q kept i

  -- an element has no value in the last row if its stream has none there
  next_absent : (a : ℕ) → IsAbsent (length X) (column longer own a) → next_cell f X given a ≡ None
  next_absent a h =
      let Q = f.equations in
      let rows = run f.size Q X in
      let row = row_of f.size (after_rows Q rows) given in
      let here : get_or (column longer own a) (length X) None ≡ cell row a =
      ap (λ xs. get_or xs (length X) None)
      (run_cells f.size longer Q a
      ∙ ap (λ rs. cells_in rs a) (run_appended f.size X (given ∷ []) Q))
      ∙ last_cell rows row a (length X) (run_length f.size Q X) in
      sym here ∙ h

  places_wait :
      (o : ℕ → Operation) →
      ((a : ℕ) (m g : Type 0) → IsKept (next_cell f X given) m g (o a) →
      next_cell f X given a ≡ None → m) →
      (k : FlatClock) (places operands : List ℕ) → length places ≡ length operands →
      Every (λ q. In q f.equations) (equations_at k places (map o operands)) →
      Every (λ a. IsAbsent (length X) (column longer own a)) operands →
      map later places ≡ map memory places
  places_wait o by k [] operands e stand none = refl
  places_wait o by k (p ∷ places) [] e stand none = absurd cc
  places_wait o by k (p ∷ places) (a ∷ operands) e stand none =
      let q : FlatEquation = record { element = p; clock = k; operation = o a } in
      ap₂ (λ v vs. v ∷ vs)
      (by a (later p ≡ memory p) (later_flag p ≡ flag p) (kept_at q stand.0)
      (next_absent a none.0))
      (places_wait o by k places operands (omega (arith, e)) stand.1 none.1)

  flags_wait :
      (k : FlatClock) (places firsts thens : List ℕ) → length places ≡ length firsts →
      length thens ≡ length firsts →
      Every (λ q. In q f.equations)
      (equations_at k places (zip2 (FirstThen false) firsts thens)) →
      Every (λ a. IsAbsent (length X) (column longer own a)) firsts →
      map later_flag places ≡ map flag places
  flags_wait k [] firsts thens e d stand none = refl
  flags_wait k (p ∷ places) [] thens e d stand none = absurd cc
  flags_wait k (p ∷ places) (a ∷ firsts) [] e d stand none = absurd cc
  flags_wait k (p ∷ places) (a ∷ firsts) (b ∷ thens) e d stand none =
      let q : FlatEquation = record { element = p; clock = k; operation = FirstThen false a b } in
      ap₂ (λ v vs. v ∷ vs) (kept_at q stand.0 (next_absent a none.0))
      (flags_wait k places firsts thens (omega (arith, e)) (omega (arith, d)) stand.1 none.1)

  -- ## Memories of a program

  module _ (P : Program) (flat : IsFlatOf P f) (ready : Ready f.size [] f.equations)
      (trace : IsTrace P longer) where
    own_fitting : IsFitting (input_kinds P) flat.fitting.0 (kind_among f.kinds) f.equations
    own_fitting =
        subst (λ l. IsFitting l flat.fitting.0 (kind_among f.kinds) f.equations) flat.signature
        flat.fitting.1

    solution : IsFlatSolution (input_kinds P) (kind_among f.kinds) f longer own
    solution =
        run_solves (input_kinds P) (kind_among f.kinds) f ready flat.fitting.0 own_fitting longer
        trace

    abbrev H : History
    H = history_of (layout P) longer own

    solves : Solves P longer H
    solves =
        flat.solves longer own
        (subst (λ l. IsFlatSolution l (kind_among f.kinds) f longer own) (sym flat.signature)
        solution)

    abbrev t : ℕ
    t = length X

    module _ (here : Instance) (stands : In here (instances P)) where
      abbrev IsCalled : Instance → Type 0
      IsCalled c = In c (instances P)

      abbrev IsHere : Occurrence → Type 0
      IsHere o = In o (node_occurrences P here.node)

      abbrev Own : Name → Type 0
      Own x = IsVariable here.node x

      declared : (c : Instance) → IsCalled c → are_declared_clocks c.node ≡ true
      declared c i =
          Every-at (λ here. are_declared_clocks here.node ≡ true) (instances P) c
          (all_declared P flat.checked) i

      abbrev Standing : Occurrence → Type 0
      Standing o = Stands P here Own (own_variables here.node) IsCalled declared o

      abbrev Absent : Clock → ℕ → Expr → Type 0
      Absent k n e = IsOff t (presence H here.path k) → AreAbsent t (streams P H here k n e)

      operand_waits :
          (k : Clock) (a : Occurrence) (o : ℕ → Operation) →
          ((c : ℕ) (m g : Type 0) → IsKept (next_cell f X given) m g (o c) →
          next_cell f X given c ≡ None → m) →
          (h : KeepsOperand P (layout P) (kind_among f.kinds) f here k a o) →
          Absent a.clock a.calls_before a.expr →
          OperandWaits P (layout P) (kind_among f.kinds) f H t memory later flag later_flag here k a
          o h
      operand_waits k a o by h none = λ off.
          places_wait o by (flat_clock (layout P) here.path k) h.places h.operands h.as_many
          h.equations
          (absent_places t longer own h.operands
          (subst (λ xss. AreAbsent t xss) (sym (h.streams longer own solution)) (none off)))

      flag_waits :
          (k : Clock) (a : Occurrence)
          (h : KeepsFlag P (layout P) (kind_among f.kinds) f here k a) →
          Absent a.clock a.calls_before a.expr →
          FlagWaits P (layout P) (kind_among f.kinds) f H t memory later flag later_flag here k a h
      flag_waits k a h none = λ off.
          flags_wait (flat_clock (layout P) here.path k) h.places h.firsts h.thens h.as_many h.both
          h.equations
          (absent_places t longer own h.firsts
          (subst (λ xss. AreAbsent t xss) (sym (h.streams longer own solution)) (none off)))

      absent_here :
          (k : Clock) (n : ℕ) (e : Expr) (d : DataType) → data_types P here e ≡ Some (d ∷ []) →
          Every IsHere (occurrences P here.node k n e) →
          Sited (OfCalled P here IsCalled) n (sites e) →
          Absent k n e
      absent_here k n e d is all sited off =
          absent P flat.accepted flat.checked longer H solves own (λ c i x v. refl) t here stands k
          n e d is all sited off

      previous_waits :
          (c : ℕ) (m g : Type 0) → IsKept (next_cell f X given) m g (Previous Nil c) →
          next_cell f X given c ≡ None → m
      previous_waits c m g h none = h none

      latest_waits :
          (c : ℕ) (m g : Type 0) → IsKept (next_cell f X given) m g (Latest Nil c) →
          next_cell f X given c ≡ None → m
      latest_waits c m g h none = h none

      memories_wait :
          (k : Clock) (n : ℕ) (e : Expr) → OperandsHave P here.node IsHere k n e →
          Standing (at k n e) →
          (h : HasMemories P (layout P) (kind_among f.kinds) f here k n e) →
          MemoriesWait P (layout P) (kind_among f.kinds) f H t memory later flag later_flag here k n
          e h
      memories_wait k n (Pre a) have stand h =
          let i = one (data_types P here a) Some stand.types stand.typed in
          operand_waits k (at k n a) (Previous Nil) previous_waits h
          (absent_here k n a i.data_type i.is have stand.sited)
      memories_wait k n (Current a) have stand h =
          let i = one (data_types P here a) Some stand.types stand.typed in
          let there = clock_or (clock_of P here.node a) in
          operand_waits k (at there n a) (Latest Nil) latest_waits h
          (absent_here there n a i.data_type i.is have stand.sited)
      memories_wait k n (Arrow a b) have stand h =
          let i = two (data_types P here a) (data_types P here b) common_type stand.types
          stand.typed in
          flag_waits k (at k n a) h
          (absent_here k n a i.first i.is_first have
          (sited_first (OfCalled P here IsCalled) n (sites a) (sites b) stand.sited))
      memories_wait k n (Fby a b) have stand h =
          let i = two (data_types P here a) (data_types P here b) common_type stand.types
          stand.typed in (
            operand_waits k (at k (n + call_count a) b) (Previous Nil) previous_waits h.0
                (absent_here k (n + call_count a) b i.second i.is_second have.1
                (sited_second (OfCalled P here IsCalled) n (sites a) (sites b) stand.sited)),
            flag_waits k (at k n a) h.1
                (absent_here k n a i.first i.is_first have.0
                (sited_first (OfCalled P here IsCalled) n (sites a) (sites b) stand.sited)),
          )
      memories_wait k n (Literal m) have stand h = tt
      memories_wait k n (Truth b) have stand h = tt
      memories_wait k n (Variable x) have stand h = tt
      memories_wait k n (Group a) have stand h = tt
      memories_wait k n (Unary op a) have stand h = tt
      memories_wait k n (Binary op a b) have stand h = tt
      memories_wait k n (If c a b) have stand h = tt
      memories_wait k n (When a x sign) have stand h = tt
      memories_wait k n (Replicate a m) have stand h = tt
      memories_wait k n (Index a i) have stand h = tt
      memories_wait k n (Slice a i j) have stand h = tt
      memories_wait k n (Join a b) have stand h = tt
      memories_wait k n (Array es) have stand h = tt
      memories_wait k n (AtMostOne es) have stand h = tt
      memories_wait k n (Nor es) have stand h = tt
      memories_wait k n (Call g statics es) have stand h = tt
      memories_wait k n (Iterate it node m es) have stand h = tt

      each_waits :
          (os : List Occurrence) → Every (OperandHas P here.node IsHere) os → Every Standing os →
          (h : Every (λ o.
          HasMemories P (layout P) (kind_among f.kinds) f here o.clock o.calls_before o.expr) os) →
          EachWaits P (layout P) (kind_among f.kinds) f H t memory later flag later_flag here os h
      each_waits [] have stand h = tt
      each_waits (o ∷ os) have stand h = (
        memories_wait o.clock o.calls_before o.expr have.0 stand.0 h.0,
        each_waits os have.1 stand.1 h.1,
      )

      here_waits :
          (h : Every (λ o.
          HasMemories P (layout P) (kind_among f.kinds) f here o.clock o.calls_before o.expr)
          (node_occurrences P here.node)) →
          EachWaits P (layout P) (kind_among f.kinds) f H t memory later flag later_flag here
          (node_occurrences P here.node) h
      here_waits h =
          let all = node_occurrences P here.node in
          let have = operands_have P here.node IsHere (Every-from IsHere all (λ o i. i)) in
          let sited = Every-at
          (λ here. Sited (OfCalled P here IsCalled) 0 (node_sites here.node)) (instances P) here
          (calls_have P flat.accepted IsCalled (Every-from IsCalled (instances P) (λ c i. i)))
          stands in
          let stand = (node_stands P here Own (own_variables here.node) IsCalled declared
          (typed P flat.checked here stands) (clocked P flat.checked here stands) sited).0 in
          each_waits all have stand h

    all_wait :
        (is : List Instance) → Every (λ here. In here (instances P)) is →
        (h : Every (λ here.
        Every (λ o.
        HasMemories P (layout P) (kind_among f.kinds) f here o.clock o.calls_before o.expr)
        (node_occurrences P here.node)) is) →
        AllWait P (layout P) (kind_among f.kinds) f H t memory later flag later_flag is h
    all_wait [] on h = tt
    all_wait (here ∷ is) on h = (here_waits here on.0 h.0, all_wait is on.1 h.1)

-- ## The lanes of a run

pub waits_for_clocks :
    (P : Program) (r s : BatchRun) → s.program.now ≡ r.program.now →
    (flat : IsFlatOf P (flat_of r)) → (i : ℕ) (X : Inputs) (given : List Scalar) →
    IsTrace P (X ++ given ∷ []) → LaneStands r i X → LaneStands s i (X ++ given ∷ []) →
    on r.active.0 i ≡ true → on s.active.0 i ≡ true → WaitsForClocks P r s flat i X given
waits_for_clocks P r s same flat i X given trace was is on_r on_s =
    let kept = program_keeps r.program.now s.program.now same (lane_in r i) (lane_in s i) X given
    (was.state on_r) (is.state on_s) in
    let ready = program_ready r.program.now in
    record {
      history =
          H (flat_of r) X given (memory_at r i) (memory_at s i) (flag_in r i) (flag_in s i) kept P
          flat ready trace;
      solves =
          solves (flat_of r) X given (memory_at r i) (memory_at s i) (flag_in r i) (flag_in s i)
          kept P flat ready trace;
      wait =
          all_wait (flat_of r) X given (memory_at r i) (memory_at s i) (flag_in r i) (flag_in s i)
          kept P flat ready trace (instances P)
          (Every-from (λ (here : Instance). In here (instances P)) (instances P) (λ c j. j))
          flat.memories;
    }
