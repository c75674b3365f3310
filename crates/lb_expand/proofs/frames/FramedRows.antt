-- What a frame reads of a row of a checked program, its clocks among it.
use Rattle.lb_expand.proofs.Words
use Words.{Bool, Checking, Child, Children, ClockId, Clocks, HasClocks, In, Instance, IsChecked}
use Words.{IsClockTable, IsLayoutOf, IsReached, IsResolved, List, None, Occurrence, Option, Program}
use Words.{Reached, ResolvedNode, Site, Some, Specialization, Table, VariableId, [], all_at}
use Words.{all_clocks, all_runs, ap, ap₂, arith, called_row, callee_in, child_numbers, child_row}
use Words.{clock_id, clock_in, clock_of, count_of, counts_of, declared_clock, declared_in}
use Words.{declared_within, elaborated_program, false, first_of_row, flat_clock, flat_map}
use Words.{frame_contexts, get_mapped, get_or, get_or_from_slice_get, held_below, held_value}
use Words.{if◌then◌else◌, in_at, instance_there, instances, is_clock_within, is_int, is_variable}
use Words.{keeps_names, layout, le-leb, length, length-append, length-range_with_len, listed}
use Words.{lt-ltb, mapped_from, name_in, names_kept, nat_le, node_named, node_occurrences, node_of}
use Words.{node_sites, option_map, parameters_of, path_before, path_place, path_runs, place_in}
use Words.{range_with_len, read_clocks, refl, row_context, row_numbers, row_read, same_Some}
use Words.{site_occurs, slice_get, source_names, sources_of, subst, suc, sum_by-append, sum_by-cons}
use Words.{sum_of, sym, take, true, value_at, variables, widths_in, zero, ℕ, ℤ, ◌++◌, ◌+◌, ◌<◌}
use Words.{◌>>=◌, ◌∙◌, ◌∷◌, ◌≡◌, ◌≤◌}
use Rattle.lb_check.proofs.clocking.{ClockTests.declared_is, WholeClocks.resolved_at}
use Rattle.lb_check.specs.declared.own_clock.Clock.{Clock, TheVariants.{Base, On}}
use Rattle.lb_expand.proofs.clock_tables.FilledClocks.{filled_table, node_found, own_clocks}
use Rattle.lb_expand.proofs.{clock_tables.FilledClocks.row_clock, frames.RowContexts.callee_is}
use Rattle.lb_expand.proofs.numbering.{NumberedRows.row_variables, RowChildren.child_found}
use Rattle.lb_expand.{proofs.numbering.RowInstances.{IsRow, row_of}, specs.RowFrames.Read}
use Rattle.lb_expand.specs.RowFrames.{found_terms, held_callee, input_id, read_clock, read_context}
use Rattle.lb_expand.specs.{RowFrames.{read_id, read_numbers}, Rows.row_widths}
use Rattle.{lb_expand.specs.declared.layout.Layout.Layout, lb_static.specs.ReachedNodes.id_at}
use Rattle.lb_static.specs.declared.{reachable.NodeId.NodeId, resolved.CallSite.CallSite}
use mathlib.Core.Path.{fun_ext}
use Rattle.lb_static.specs.declared.table.Instance as row
use Rattle.lb_flat.specs.declared.equation.Clock as table
use Rattle.lb_check.specs.Clocks as tree

-- The clocks that are filled from a checked program and a layout of its rows are the program's.

module _ (c : Checking) (lawful : IsChecked c) (l : Layout)
    (laid : IsLayoutOf c.elab.reached c.elab.table l) where
  -- a table and rows that are filled in this way are the clock table of the program
  pub clocks_filled :
      (clocks : List table.Clock) (runs : List (Option ClockId)) →
      clocks ≡ all_clocks (sources_of c l) → runs ≡ all_runs (sources_of c l) →
      IsClockTable (elaborated_program c.elab) clocks
      (path_place (elaborated_program c.elab) l.variables.items)
      (path_runs (elaborated_program c.elab) runs)
      (path_before (elaborated_program c.elab) l.variables.items)
  clocks_filled clocks runs e f =
      let P = elaborated_program c.elab in
      let small = subst (λ n. n ≤ 65536) laid.count laid.few in
      subst (λ ks. IsClockTable P ks (path_place P l.variables.items) (path_runs P runs)
      (path_before P l.variables.items)) (sym e)
      (subst (λ rs. IsClockTable P (all_clocks (sources_of c l)) (path_place P l.variables.items)
      (path_runs P rs) (path_before P l.variables.items)) (sym f)
      (filled_table P c.elab.reached c.elab.table lawful.elaborated.reached lawful.elaborated.table
      lawful.elaborated.accepted lawful.accepted c.clocks.items lawful.clocks l.variables.items
      l.starts.items laid.numbers laid.variables small))

  -- each clock of a row is found at its place
  pub clock_filled :
      (clocks : List table.Clock) (runs : List (Option ClockId)) →
      clocks ≡ all_clocks (sources_of c l) → runs ≡ all_runs (sources_of c l) →
      (k : ℕ) (i : row.Instance) (here : Instance)
      (is : IsRow (elaborated_program c.elab) c.elab.reached c.elab.table lawful.elaborated.table k
      i here) (own : Clock) → is_clock_within is.node own ≡ true →
      clock_of clocks (clock_id l.variables.items runs k own)
      ≡ flat_clock (layout (elaborated_program c.elab)) here.path (clock_in is.node own)
  clock_filled clocks runs e f k i here is own w =
      let P = elaborated_program c.elab in
      let small = subst (λ n. n ≤ 65536) laid.count laid.few in
      ap₂ (λ ks rs. clock_of ks (clock_id l.variables.items rs k own)) e f
      ∙ row_clock P c.elab.reached c.elab.table lawful.elaborated.reached lawful.elaborated.table
      lawful.elaborated.accepted lawful.accepted c.clocks.items lawful.clocks l.variables.items
      l.starts.items laid.numbers laid.variables small k i here is own w

-- What a frame reads of a row of a checked program is what the numbers in the row's text stand for.

-- ## Numbers of elements

pub past_end : (ws : List ℕ) (x : ℕ) → length ws ≤ x → get_or ws x 0 ≡ 0
past_end [] x le = refl
past_end (w ∷ ws) zero le = absurd (omega (arith, le))
past_end (w ∷ ws) (suc x) le = past_end ws x (omega (arith, le))

own_sum : (ws : List ℕ) (x : ℕ) → sum_of (take x ws) + get_or ws x 0 ≤ sum_of ws
own_sum [] zero = omega arith
own_sum [] (suc x) = omega arith
own_sum (w ∷ ws) zero = let all = sum_by-cons (λ n. n) w ws in omega (arith, all)
own_sum (w ∷ ws) (suc x) =
    let rest = own_sum ws x in
    let all = sum_by-cons (λ n. n) w ws in
    let first = sum_by-cons (λ n. n) w (take x ws) in
    omega (arith, rest, all, first)

-- the sum of the pieces before piece `j`, and of piece `j`, is at most the sum of all pieces
before_sum :
    {A : Type 0} (f : A → List ℕ) (xs : List A) (j : ℕ) →
    sum_of (flat_map f (take j xs)) + sum_of (listed f (slice_get xs j)) ≤ sum_of (flat_map f xs)
before_sum f [] zero = omega arith
before_sum f [] (suc j) = omega arith
before_sum f (x ∷ xs) zero =
    let all = sum_by-append (λ n. n) (f x) (flat_map f xs) in omega (arith, all)
before_sum f (x ∷ xs) (suc j) =
    let rest = before_sum f xs j in
    let all = sum_by-append (λ n. n) (f x) (flat_map f xs) in
    let first = sum_by-append (λ n. n) (f x) (flat_map f (take j xs)) in
    omega (arith, rest, all, first)

-- a range of numbers that all stand below `count` is kept by `held_below`
range_below :
    (count start w : ℕ) → (0 < w → start + w ≤ count) →
    held_below count (range_with_len start w) ≡ range_with_len start w
range_below count start zero h = by (nat_le (0 + 0) count)
  where
    none : List ℕ
    none = []

    by : (b : Bool) → (if b then none else []) ≡ none
    by true = refl
    by false = refl
range_below count start (suc w) h =
    let long : length (range_with_len start (suc w)) ≡ suc w =
    length-range_with_len start (suc w) in
    let low = h (omega arith) in
    let test : nat_le (start + length (range_with_len start (suc w))) count ≡ true =
    le-leb (start + length (range_with_len start (suc w))) count (omega (arith, long, low)) in
    ap (λ b. if b then range_with_len start (suc w) else []) test

module _ (r : Reached) (t : Table) (l : Layout) (laid : IsLayoutOf r t l) where
  -- the numbers of the elements of a variable of a row are all below the count
  numbers_below :
      (j x : ℕ) →
      held_below l.count (row_numbers r t j (record { 0 = x }))
      ≡ row_numbers r t j (record { 0 = x })
  numbers_below j x =
      let ws = row_widths r t j in
      let own = own_sum ws x in
      let all = before_sum (widths_in r t) t.instances.items j in
      let total = laid.count in
      range_below l.count (first_of_row r t j + sum_of (take x ws)) (get_or ws x 0)
      (λ some. omega (arith, own, all, total))

-- a static value that is an `int` is read as it is
pub value_read :
    (statics : List ℤ) (i : ℕ) (z : ℤ) → slice_get statics i ≡ Some z → is_int z ≡ true →
    held_value statics i ≡ value_at statics i
value_read statics i z at int = cc

-- ## Callees

module _ (P : Program) (r : Reached) (names : keeps_names P ≡ true) (reached : IsReached P r) where
  held_all : (k : ℕ) (m : ResolvedNode) → slice_get r.nodes.items k ≡ Some m →
      held_callee m ≡ Some (parameters_of m)
  held_all k m at =
      let own = resolved_at P r names reached k m at in
      let n = node_of m in
      let ins = own.inputs in
      let outs = own.outputs in
      let many = own.as_many in
      let first = length-append n.inputs (n.outputs ++ n.locals) in
      let later = length-append n.outputs n.locals in
      let test : nat_le (m.inputs + m.outputs) (length m.variables.items) ≡ true =
      le-leb (m.inputs + m.outputs) (length m.variables.items)
      (omega (arith, ins, outs, many, first, later)) in
      ap (λ b. if b then Some (parameters_of m) else None) test

  found_callee :
      (o : Option NodeId) →
      ((o >>= λ id. slice_get r.nodes.items id.0) >>= held_callee)
      ≡ option_map parameters_of (o >>= λ id. slice_get r.nodes.items id.0)
  found_callee None = refl
  found_callee (Some id) = by (slice_get r.nodes.items id.0) refl
    where
      by : (o : Option ResolvedNode) → slice_get r.nodes.items id.0 ≡ o →
          (o >>= held_callee) ≡ option_map parameters_of o
      by None e = refl
      by (Some m) e = held_all id.0 m e

  -- what a frame reads of a callee is the callee
  pub callee_read :
      (n : ResolvedNode) (c : ℕ) →
      (callee_in r n (record { 0 = c }) >>= held_callee)
      ≡ option_map parameters_of (callee_in r n (record { 0 = c }))
  callee_read n c = by (slice_get n.calls.items c)
    where
      by : (o : Option CallSite) →
          ((o >>= λ site. id_at r site.callee >>= λ id. slice_get r.nodes.items id.0)
          >>= held_callee)
          ≡ option_map parameters_of
          (o >>= λ site. id_at r site.callee >>= λ id. slice_get r.nodes.items id.0)
      by None = refl
      by (Some site) = found_callee (id_at r site.callee)

-- ## Frames

module _ (c : Checking) (lawful : IsChecked c) (l : Layout) (all : Children) (k : Clocks)
    (laid : IsLayoutOf c.elab.reached c.elab.table l)
    (kept : (j n i : ℕ) → called_row all.rows j n i ≡ child_row c.elab.table j n i)
    (filled : k.table.items ≡ all_clocks (sources_of c l))
    (runs : k.runs.items ≡ all_runs (sources_of c l)) where
  abbrev P : Program
  P = elaborated_program c.elab

  abbrev r : Reached
  r = c.elab.reached

  abbrev t : Table
  t = c.elab.table

  -- the reading of a row of this node
  abbrev pub own_read : ℕ → ResolvedNode → Specialization → Read
  own_read = row_read c l all k

  -- the reading stands for the numbers of the row; a static value that is no `int` is a fault
  pub read_is :
      (j : ℕ) (n : ResolvedNode) (s : Specialization) →
      read_context (own_read j n s)
      ≡ record (row_context r t (read_clocks (own_read j n s)) j n s) {
        value = held_value s.statics.items;
      }
  read_is j n s = λ i. record (row_context r t (read_clocks (own_read j n s)) j n s) {
    places = fun_ext (λ x. ap (held_below l.count) (laid.numbers j x) ∙ numbers_below r t l laid j
        x) i;
    value = held_value s.statics.items;
    callee =
        fun_ext (λ m. callee_read P r (names_kept P lawful.elaborated.accepted)
        lawful.elaborated.reached n m) i;
    child = fun_ext (λ m. fun_ext (λ e. fun_ext (λ x. children_are m e x))) i;
  }
    where
      children_are : (m e x : ℕ) →
          listed (λ q. read_numbers (own_read j n s) q x) (called_row all.rows j m e)
          ≡ child_numbers c.elab.reached c.elab.table j m e (record { 0 = x })
      children_are m e x = cc (kept j m e, by (child_row c.elab.table j m e))
        where
          by : (o : Option ℕ) →
              listed (λ q. read_numbers (own_read j n s) q x) o
              ≡ listed (λ q. row_numbers c.elab.reached c.elab.table q (record { 0 = x })) o
          by None = refl
          by (Some q) = (ap (held_below l.count) (laid.numbers q x) ∙ numbers_below _ _ l laid q x)

  module _ (j : ℕ) (i : row.Instance) (here : Instance)
      (is : IsRow (elaborated_program c.elab) c.elab.reached c.elab.table
      lawful.elaborated.table j i here) where
    -- what a frame of the row reads stands for the numbers of the row
    pub frame_is :
        frame_contexts c l all k j
        ≡ record (row_context c.elab.reached c.elab.table
        (read_clocks (own_read j is.node is.specialization)) j is.node is.specialization) {
          value = held_value is.specialization.statics.items;
        }
    frame_is = cc (read_is j is.node is.specialization)

    there : In here (instances P)
    there = in_at (instances P) j here is.instance_is

    -- a clock that is read of the row is the flat clock of its instance
    clock_read :
        (own_clock : Clock) → is_clock_within is.node own_clock ≡ true →
        read_clock (own_read j is.node is.specialization)
        (read_id (own_read j is.node is.specialization) j own_clock)
        ≡ flat_clock (layout (elaborated_program c.elab)) here.path (clock_in is.node own_clock)
    clock_read own_clock w = clock_filled c lawful l laid _ _ filled runs j i here is _ w

    has_clocks : HasClocks is.node
    has_clocks =
        own_clocks P r t lawful.elaborated.reached _ lawful.elaborated.accepted lawful.accepted _
        lawful.clocks _ _ laid.numbers laid.variables (rw (← laid.count) laid.few) j i here is

    same_node : here.node ≡ node_of is.node
    same_node = ap (λ (z : Instance). z.node) is.same

    own_declared :
        (x : VariableId) → is_variable (counts_of is.node) x ≡ true →
        clock_in is.node (declared_in is.node x) ≡ declared_clock here.node (name_in is.node x)
    own_declared x w = cc (declared_is is.node has_clocks x w)

    -- the clock that is read of a variable
    pub declared_read :
        (x : VariableId) → is_variable (counts_of is.node) x ≡ true →
        (read_clocks (own_read j is.node is.specialization)).declared x.0
        ≡ flat_clock (layout (elaborated_program c.elab)) here.path
        (declared_clock here.node (name_in is.node x))
    declared_read x w =
        clock_read (declared_in is.node x) (declared_within is.node has_clocks x w)
        ∙ ap (flat_clock (layout P) here.path) (own_declared x w)

    -- the clock that is read of the instants at which a variable has a sign
    pub sampled_read :
        (x : VariableId) (sign : Bool) → is_variable (counts_of is.node) x ≡ true →
        (read_clocks (own_read j is.node is.specialization)).sampled x.0 sign
        ≡ flat_clock (layout (elaborated_program c.elab)) here.path
        (tree.On (declared_clock here.node (name_in is.node x)) (name_in is.node x) sign)
    sampled_read x sign w = cc (clock_read (On x sign) w)

    -- the clock that is read of a term
    pub term_read :
        (m : ℕ) (o : Occurrence) →
        slice_get (node_occurrences (elaborated_program c.elab) here.node) m ≡ Some o →
        (read_clocks (own_read j is.node is.specialization)).clock m
        ≡ flat_clock (layout (elaborated_program c.elab)) here.path o.clock
    term_read m o at =
        let f = lawful.clocks.clocks i.specialization.0 is.specialization is.node is.specialized
        is.resolved in
        let terms = f.0.terms.items in
        let held : found_terms c is.specialization ≡ f.0.terms.items = cc (f.1) in
        let occurs = ap (λ n. slice_get (node_occurrences P n) m) (sym same_node) ∙ at in
        let clock = ap (λ (ks : List tree.Clock). slice_get ks m) (sym f.2)
        ∙ get_mapped (λ (o : Occurrence). o.clock) (node_occurrences P (node_of is.node)) m o
        occurs in
        let found = mapped_from (clock_in is.node) terms m o.clock clock in
        let within = all_at (is_clock_within is.node) terms m found.0 f.4 found.1 in
        let same : get_or (found_terms c is.specialization) m Base ≡ found.0 =
        cc (get_or_from_slice_get terms m found.0 Base found.1) in
        cc (clock_read found.0 within, found.2)

    -- the clock that is read of an input of what is called
    pub input_read :
        (m e : ℕ) (site : Site) (callee : ResolvedNode) →
        slice_get (node_sites here.node) m ≡ Some site →
        e < count_of (elaborated_program c.elab) here site →
        callee_in c.elab.reached is.node (record { 0 = m }) ≡ Some callee → (x : VariableId) →
        x.0 < callee.inputs →
        (read_clocks (own_read j is.node is.specialization)).input m e x.0
        ≡ flat_clock (layout (elaborated_program c.elab)) (Child here.path m e)
        (declared_clock (node_of callee) (name_in callee x))
    input_read m e site callee at lt found x low =
        let table = lawful.elaborated.table in
        let accepted = lawful.elaborated.accepted in
        let called = callee_is P r t lawful.elaborated.reached _ accepted j i here is m site at in
        let own_callee = same_Some called.callee callee (sym called.found ∙ found) in
        let named : node_named P site.callee ≡ Some (node_of callee) = cc (called.named) in
        let o = site_occurs P lawful.accepted here there m site at in
        let inst = instance_there P accepted lawful.accepted here there o.occurrence site
        (node_of callee) e o.stands o.site named lt in
        let path = inst.path ∙ ap (λ n. Child here.path n e) o.number in
        let q = place_in (instances P) inst.instance inst.stands in
        let w = row_of P r t table _ _ q.1 in
        let place = kept j m e ∙ child_found P r t _ j m e _ i here _ is q.1 path in
        of q.0 w.0 inst.instance w.1 path inst.node place (rw (← own_callee) called.resolved)
      where
        of :
            (q : ℕ) (z : row.Instance) (inner : Instance)
            (there : IsRow (elaborated_program c.elab) c.elab.reached c.elab.table
            lawful.elaborated.table q z inner) → inner.path ≡ Child here.path m e →
            inner.node ≡ node_of callee → called_row all.rows j m e ≡ Some q →
            IsResolved (source_names (elaborated_program c.elab)) callee →
            read_clock (own_read j is.node is.specialization)
            (input_id (own_read j is.node is.specialization) m e x.0)
            ≡ flat_clock (layout (elaborated_program c.elab)) (Child here.path m e)
            (declared_clock (node_of callee) (name_in callee x))
        of q z inner there path node place resolved =
            let n = there.node in
            let tree_is : node_of n ≡ node_of callee = cc (there.same) in
            let ins = resolved.inputs in
            let first = length-append (node_of callee).inputs
            ((node_of callee).outputs ++ (node_of callee).locals) in
            let many = (row_variables P r t lawful.elaborated.reached _ _ z inner there).0 in
            let same_count : length (variables inner.node) ≡ length (variables (node_of callee)) =
            cc in
            let w : is_variable (counts_of n) x ≡ true =
            lt-ltb x.0 (length n.variables.items) (omega (
              arith,
              low,
              ins,
              first,
              many,
              same_count,
            )) in
            let hc = own_clocks P r t lawful.elaborated.reached _ lawful.elaborated.accepted
            lawful.accepted _ lawful.clocks _ _ laid.numbers laid.variables
            (rw (← laid.count) laid.few) _ z inner there in
            let node_here = node_found P r t lawful.elaborated.reached _
            lawful.elaborated.accepted lawful.accepted _ lawful.clocks _ _ laid.numbers
            laid.variables (rw (← laid.count) laid.few) _ z inner there in
            let id : input_id (own_read j is.node is.specialization) m e x.0 ≡ clock_id
            l.variables.items k.runs.items q (declared_in n x) = cc (there.row_is) in
            cc (
              clock_filled c lawful l laid k.table.items k.runs.items filled runs q z inner
                  there (declared_in n x) (declared_within n hc x w),
              declared_is n hc x w,
            )
