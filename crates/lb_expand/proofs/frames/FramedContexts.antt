-- The reads of a frame, and the context of the row to which it goes.
use Rattle.lb_expand.proofs.Words
use Words.{◌≡◌, ℕ, zero, suc, ◌+◌, ◌-◌, ◌<◌, ◌≤◌, Bool, true, false, Some, None, List, [], length}
use Words.{get_or, refl, ap, sym, ◌∙◌, arith, nat_le, if◌then◌else◌, range_with_len}
use Words.{length-range_with_len, slice_get_past, le-leb, held_below, numbers_between, clock_from}
use Words.{clock_within, clock_of, ClockId, Option, slice_get, ◌>>=◌, either_or, ResolvedNode}
use Words.{Specialization, Checking, HasRows, found_row, ℤ, subst, nat_lt, length-map, not-true}
use Words.{holds, Named, Whole, Node, is_int, DataType, variable_type, variables, Program, Instance}
use Words.{name_value, static_refusal, IsTable, among, variable_names, IsReached, counts_of}
use Words.{node_of, statics_of, is_no_variable, is_static, named_value, static_at, named, Reached}
use Words.{StaticId, Table, Integer, or_fault, constant_type, data_types, singly, held_at, unfound}
use Words.{Vec, Global, Expr, input_kinds, elaborated_program, instances, specialized_at}
use Words.{node_parts, texts_of, in_at, element_kinds, IsChecked, part_count, is_small, NodeTypes}
use Words.{specialized_instance, expanded, whole, layout, row_context, called_row, child_row}
use Words.{IsLayoutOf, all_clocks, all_runs, sources_of, Children, Clocks, option_map}
use Words.{frame_contexts, held_value, read_clocks, row_read}
use Rattle.{std.proofs.lemmas.Bool.lt-leb, lb_check.specs.PlacedTypes.{found_in, parts_of}}
use Rattle.lb_check.proofs.typing.{FoundTypes.{none_read, types_read}, PositiveTypes.parts_lent}
use Rattle.lb_expand.specs.{RowFrames.{is_row, found_types}, declared.layout.Layout.Layout}
use Rattle.lb_expand.proofs.{emission.EmittedTable.IsRowContext, frames.FramedRows.declared_read}
use Rattle.lb_expand.proofs.frames.FramedRows.{frame_is, input_read, sampled_read, term_read}
use Rattle.lb_expand.proofs.frames.{FramedRows.value_read, RowContexts.value_are}
use Rattle.lb_expand.proofs.{frames.TermPlaces.with_values, numbering.RowInstances.IsRow}
use Rattle.lb_expand.proofs.numbering.TableProgram.{value_named, program_is, row_context_is}
use Rattle.lb_expand.proofs.widths.TypeFacts.{constant}
use Rattle.lb_flat.specs.declared.equation.Clock as table
use Rattle.lb_static.specs.declared.table.Instance as row

-- The reads of a frame: a clock past the end of the table is the base clock, and elements are read
-- only where all of them stand below the count.

-- a clock past the end of the table is the base clock
pub past_clock :
    (clocks : List table.Clock) (i : ClockId) → length clocks ≤ i.0 →
    clock_of clocks None ≡ clock_of clocks (Some i)
past_clock clocks i le = by (length clocks)
  where
    by : (n : ℕ) → clock_within n clocks None ≡ clock_within n clocks (Some i)
    by zero = refl
    by (suc n) = sym (ap (clock_from (clock_within n clocks)) (slice_get_past clocks i.0 le))

first_is : (start w : ℕ) → 0 < w → get_or (range_with_len start w) 0 0 ≡ start
first_is start zero lt = absurd (omega (arith, lt))
first_is start (suc w) lt = refl

-- elements that all stand below the count are read
pub held_before :
    (ns : List ℕ) (start end count : ℕ) → numbers_between start end ≡ ns → start < end →
    end ≤ count → range_with_len start (end - start) ≡ held_below count ns
held_before ns start end count is lt le =
    let own = range_with_len start (end - start) in
    let long = length-range_with_len start (end - start) in
    let first = first_is start (end - start) (omega (arith, lt)) in
    let test : nat_le (get_or own 0 0 + length own) count ≡ true =
    le-leb (get_or own 0 0 + length own) count (omega (arith, long, first, lt, le)) in
    sym (ap (λ b. if b then own else []) test) ∙ ap (held_below count) is

-- elements that do not all stand below the count are not read
pub held_past :
    (ns : List ℕ) (start end count : ℕ) → numbers_between start end ≡ ns → start < end →
    count < end → [] ≡ held_below count ns
held_past ns start end count is lt past =
    let own = range_with_len start (end - start) in
    let long = length-range_with_len start (end - start) in
    let first = first_is start (end - start) (omega (arith, lt)) in
    let test : nat_le (get_or own 0 0 + length own) count ≡ false =
    lt-leb (get_or own 0 0 + length own) count (omega (arith, long, first, lt, past)) in
    sym (ap (λ b. if b then own else []) test) ∙ ap (held_below count) is

-- an empty range of elements is read as no elements
pub held_none :
    (ns : List ℕ) (start end count : ℕ) → numbers_between start end ≡ ns → end ≤ start →
    [] ≡ held_below count ns
held_none ns start end count is le =
    let none : end - start ≡ 0 = omega (arith, le) in
    cc (by (nat_le (0 + 0) count))
  where
    nothing : List ℕ
    nothing = []

    by : (b : Bool) → (if b then nothing else []) ≡ nothing
    by true = refl
    by false = refl

pub ruleset held = (held_before, held_past, held_none)

-- A frame that goes to a row reads what stands for the numbers of the row, and it can go to the
-- same rows as before.

-- ## Rows that are there

-- the look-up of a row that is there gives its specialization and its node
pub row_there : (c : Checking) (j : ℕ) → is_row c j ≡ true →
    (u : Specialization × ResolvedNode) × (found_row c j ≡ Some u)
row_there c j there = by (found_row c j) refl there
  where
    by : (o : Option (Specialization × ResolvedNode)) → found_row c j ≡ o →
        either_or (option_map (λ (found : Specialization × ResolvedNode). true) o) false ≡ true →
        (u : Specialization × ResolvedNode) × (found_row c j ≡ Some u)
    by None e h = absurd cc
    by (Some u) e h = (u, e)

-- the look-up of a row that is there does not give `None`
pub row_not_there : (c : Checking) (j : ℕ) → is_row c j ≡ true → found_row c j ≡ None → ⊥
row_not_there c j there none =
    let u = row_there c j there in no u.0 (sym none ∙ u.1)
  where
    no : (u : Specialization × ResolvedNode) → None ≡ Some u → ⊥
    no u e = cc

-- each row with a node is there
pub rows_there : (c : Checking) → HasRows c.elab.reached c.elab.table (is_row c)
rows_there c j i at n found =
    cc (by (slice_get c.elab.table.specializations.items i.specialization.0) found)
  where
    is_some : Option (Specialization × ResolvedNode) → Bool
    is_some o = either_or (option_map (λ (u : Specialization × ResolvedNode). true) o) false

    of : Specialization → Option (Specialization × ResolvedNode)
    of s =
        option_map {U = Specialization × ResolvedNode} (λ n. (s, n))
        (slice_get c.elab.reached.nodes.items s.node.0)

    by : (o : Option Specialization) →
        (o >>= λ s. slice_get c.elab.reached.nodes.items s.node.0) ≡ Some n →
        is_some (o >>= of) ≡ true
    by None e = absurd cc
    by (Some s) e = cc

-- The static value of a row that stands for an operand is an `int`, where the operand has types.

-- the value is there and is an `int`
record IsInt (o : Option ℤ) : Type 0 where
  number : ℤ
  is : o ≡ Some number
  within : is_int number ≡ true

int_there : (o : Option ℤ) → holds is_int o ≡ true → IsInt o
int_there None e = absurd cc
int_there (Some z) e = record { number = z; is = refl; within = e }

same_value : (o : Option ℤ) (z : ℤ) → or_fault o ≡ Integer z → o ≡ Some z
same_value None z e = absurd cc
same_value (Some w) z e = cc

module _ (P : Program) (r : Reached) (t : Table) (reached : IsReached P r)
    (table : IsTable P r t) (accepted : static_refusal P ≡ None) (k : ℕ) (i : row.Instance)
    (here : Instance) (is : IsRow P r t table k i here) where
  -- a static expression that stands for an operand with types has a value, and that is an `int`
  pub operand_int :
      (j : StaticId) → is_static (counts_of is.node) j ≡ true →
      is_no_variable (variable_names (node_of is.node)) (static_at (statics_of is.node) j)
      ≡ true →
      (ts : List DataType) →
      data_types P here (named_value (static_at (statics_of is.node) j)) ≡ Some ts →
      (z : ℤ) × (slice_get is.specialization.statics.items j.0 ≡ Some z) × (is_int z ≡ true)
  operand_int j w u ts e =
      let names = variable_names (node_of is.node) in
      let z = value_named names (static_at (statics_of is.node) j) u in
      let long : nat_lt j.0 (length (statics_of is.node)) ≡ true =
      subst (λ k. nat_lt j.0 k ≡ true) (sym (length-map is.node.statics.items _)) w in
      let y = held_at (statics_of is.node) j.0 long in
      let at : slice_get (statics_of is.node) j.0 ≡ Some (Named z.0) =
      y.1 ∙ ap Some (sym (ap (λ o. either_or o (Whole 0)) y.1) ∙ z.1) in
      let other : among z.0 names ≡ false = not-true _ (sym (ap (is_no_variable names) z.1) ∙ u) in
      let node : here.node ≡ node_of is.node = ap (λ (c : Instance). c.node) is.same in
      let none : named (λ d. d.name) z.0 (variables here.node) ≡ None =
      ap (λ (m : Node). named (λ d. d.name) z.0 (variables m)) node
      ∙ unfound z.0 (variables (node_of is.node)) other in
      let typed : singly (constant_type (name_value P here z.0)) ≡ Some ts =
      sym (ap (λ o. singly (either_or (option_map (variable_type P here) o)
      (constant_type (name_value P here z.0)))) none)
      ∙ sym (ap (λ s. data_types P here (named_value s)) z.1) ∙ e in
      let own = int_there (name_value P here z.0)
      (constant (name_value P here z.0) ts typed).within in
      let value = value_are P r t reached table accepted k i here is j.0 z.0 at in (
        own.number,
        same_value (slice_get is.specialization.statics.items j.0) own.number
            (value ∙ ap or_fault own.is),
        own.within,
      )

-- What the frame of a row of a checked program reads is what the instance of the row gives its
-- numbers; so what is emitted with such frames is the flat program of the program.

module _ (c : Checking) (lawful : IsChecked c) (l : Layout) (all : Children) (k : Clocks)
    (laid : IsLayoutOf c.elab.reached c.elab.table l)
    (kept : (j n i : ℕ) → called_row all.rows j n i ≡ child_row c.elab.table j n i)
    (filled : k.table.items ≡ all_clocks (sources_of c l))
    (runs : k.runs.items ≡ all_runs (sources_of c l))
    (small : is_small (elaborated_program c.elab) ≡ true) where
  abbrev P : Program
  P = elaborated_program c.elab

  module _ (j : ℕ) (i : row.Instance) (here : Instance)
      (is : IsRow (elaborated_program c.elab) c.elab.reached c.elab.table
      lawful.elaborated.table j i here) where
    -- ## Parts of terms

    -- the types of the terms of the row, as they are lent
    abbrev lent : Option NodeTypes
    lent =
        c.types >>= λ (found : Vec NodeTypes Global).
        slice_get found.items i.specialization.0

    abbrev parts_from : ℕ → Option NodeTypes → ℕ
    parts_from m o = either_or (option_map (λ types. parts_of (found_in types) m) o) 0

    types_of_row : found_types c j ≡ lent
    types_of_row = cc

    -- the instance of the row's specialization at the path of the row is `here`
    specialized_here : specialized_at c.elab.reached here.path is.specialization ≡ Some here
    specialized_here =
        cc (specialized_instance P c.elab.reached c.elab.table lawful.elaborated.reached
        lawful.elaborated.table is.specialization is.node here.path is.resolved)

    -- the number of scalar elements of each element of the array that a term is
    parts_read :
        (m : ℕ) (e : Expr) → slice_get (node_parts here.node) m ≡ Some e →
        (read_clocks (row_read c l all k j is.node is.specialization)).parts m
        ≡ part_count (elaborated_program c.elab) here e
    parts_read m e at = ap (parts_from m) types_of_row ∙ by lent refl
      where
        by : (o : Option NodeTypes) → lent ≡ o →
            parts_from m o ≡ part_count (elaborated_program c.elab) here e
        by None none =
            let large = none_read P c.elab.reached c.elab.table lawful.elaborated.reached
            lawful.elaborated.table i.specialization.0 is.specialization is.specialized c.types
            lawful.types none in
            absurd (never (sym small ∙ large))
          where
            never : true ≡ false → ⊥
            never e = cc
        by (Some f) found =
            parts_lent P lawful.elaborated.accepted lawful.accepted small here
            (in_at (instances (elaborated_program c.elab)) j here is.instance_is) f
            (types_read P c.elab.reached c.elab.table lawful.elaborated.reached
            lawful.elaborated.table i.specialization.0 is.specialization is.specialized c.types
            lawful.types here.path here specialized_here f found) m e at

    -- ## Rows

    -- what the frame of a row gives its numbers is what the instance of the row gives them
    pub framed_row :
        IsRowContext (elaborated_program c.elab) c.elab.reached c.elab.table
        lawful.elaborated.table j i here is (frame_contexts c l all k j)
    framed_row =
        let r = c.elab.reached in
        let t = c.elab.table in
        let accepted = lawful.elaborated.accepted in
        let reached = lawful.elaborated.reached in
        let table = lawful.elaborated.table in
        let own = read_clocks (row_read c l all k j is.node is.specialization) in
        let base = row_context_is P accepted lawful.accepted r t reached table j i here is own
        (record {
          declared = declared_read c lawful l all k laid kept filled runs j i here is;
          sampled = sampled_read c lawful l all k laid kept filled runs j i here is;
          clock = term_read c lawful l all k laid kept filled runs j i here is;
          parts = λ m e at n ns sizes some. parts_read m e at;
          input = input_read c lawful l all k laid kept filled runs j i here is;
        }) in
        let statics = is.specialization.statics.items in
        subst (IsRowContext P r t table j i here is)
        (sym (frame_is c lawful l all k laid kept filled runs j i here is))
        (record {
          context = with_values (layout P) P here (texts_of is.node) (counts_of is.node)
              (row_context r t own j is.node is.specialization) (held_value statics) base.context
              (λ x w u ts e.
              let v = operand_int P r t reached table accepted j i here is x w u ts e in
              value_read statics x.0 v.0 v.1 v.2);
          terms = record { clock = base.terms.clock; parts = base.terms.parts };
        })

  -- with the frames of all rows the flat program of the program is emitted
  pub framed_program :
      (count : ℕ) →
      whole c.elab.reached c.elab.table (frame_contexts c l all k)
      (input_kinds (elaborated_program c.elab)) (element_kinds (elaborated_program c.elab)) count
      ≡ expanded (layout (elaborated_program c.elab)) (elaborated_program c.elab) count
  framed_program count =
      program_is (elaborated_program c.elab) lawful.elaborated.accepted lawful.accepted
      c.elab.reached c.elab.table lawful.elaborated.reached lawful.elaborated.table
      (frame_contexts c l all k) framed_row count
