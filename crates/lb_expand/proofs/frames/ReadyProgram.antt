-- The rows and starts of a small checked program can be emitted from a frame.
use Rattle.lb_expand.proofs.Words
use Words.{AreWhole, Bool, Checking, Children, Clock, Clocks, Context, Declaration, Err, Every}
use Words.{Every-all, Every-append, Every-first, FlatProgram, ForSome, Global, HasFoundClocks}
use Words.{HasRows, IfOk, In, Instance, IsBounded, IsChecked, IsCounted, IsExpansionOf, IsLayoutOf}
use Words.{IsReached, IsReady, IsTable, Kind, Layout, List, Node, NodeClocks, None, Option}
use Words.{PlacedState, Program, Reached, ResolvedStatement, Result, Root, Some, Table, Target, Vec}
use Words.{[], all_clocks, all_runs, ap, ap₂, arith, bodies, body_in, called_row, check_refusal}
use Words.{child_row, clock_in, declared_clock, elaborated_program, element_kinds, element_total}
use Words.{elements, expanded, flat_clock, flat_map, flat_map-append, found_row, frame_contexts}
use Words.{in_at, in_instances, inl, input_kinds, inr, instance_at, instance_elements}
use Words.{instance_size, instances, instantiation_kept, is_small, item_at, kinds_of, layout}
use Words.{leb-true, length, length-append, length-map, length-range_with_len, length_elements}
use Words.{length_kinds, listed, node_occurrences, node_of, node_sites, parameter_targets}
use Words.{program_elements, program_of, property_path, range_with_len, refl, same_Some}
use Words.{scalar_elements, signature, size, slice_get, sources_of, start_in, start_of}
use Words.{static_refusal, subst, suc, sum_by, sum_by-append, sum_by-cons, sym, table_kinds}
use Words.{targets, true, whole, width, ℕ, ◌*◌, ◌++◌, ◌+◌, ◌<◌, ◌^◌, ◌∙◌, ◌∷◌, ◌≡◌, ◌≤◌}
use Rattle.lb_expand.proofs.emission.{EmittedTable.{IsRowContext, row_is}, EmittedWhole.inputs_are}
use Rattle.lb_expand.proofs.emission.EmittedWhole.{inputs_at, node_found, not_started, start_path}
use Rattle.lb_expand.proofs.{emission.EmittedWhole.started, frames.FramedContexts.framed_program}
use Rattle.lb_expand.proofs.frames.FramedContexts.{framed_row, row_not_there, rows_there}
use Rattle.lb_expand.proofs.frames.RowContexts.{own_resolved}
use Rattle.lb_expand.proofs.numbering.{AcceptedExpansion.expansion_of, NumberedPlaces.places_width}
use Rattle.lb_expand.proofs.numbering.RowInstances.{IsRow, row_of, row_shown, table_kinds_are}
use Rattle.lb_expand.proofs.numbering.TableProgram.{has, literals_small}
use Rattle.lb_expand.proofs.widths.PropertyOutput.{output_width, property_of}
use Rattle.lb_expand.proofs.widths.SoundPrograms.{scalars_count, small_few}
use Rattle.lb_expand.proofs.widths.TableSizes.{element_total_is, in_sum}
use Rattle.lb_expand.specs.RowFrames.{IsFrameOf, contexts_of, is_row, is_row_of, read_of}
use Rattle.lb_expand.specs.declared.layout.Layout.{Layout as StoredLayout}
use Rattle.{lb_expand.specs.declared.row_frame.RowFrame.RowFrame, std.proofs.Common.Ok}
use Rattle.std.specs.Option.{MatchOption}
use Rattle.lb_static.specs.declared.table.Instance as row
use Rattle.lb_flat.specs.declared.program.FlatProgram as code

-- The rows of the table of a checked program can be emitted: the places of the terms and calls of
-- their statements can be counted.

-- ## Lists of the code

-- a list of the code has fewer than 2^63 items
pub kept_few : {A : Type 0} (v : Vec A Global) → length v.items < 2 ^ 63
kept_few v = omega (arith, v.ok.0, v.ok.1, v.small)

-- ## The statements of rows

module _ (P : Program) (r : Reached) (t : Table) (reached : IsReached P r)
    (table : IsTable P r t) (accepted : static_refusal P ≡ None) (cs : ℕ → Context)
    (Q : Context × List ResolvedStatement → Type 0)
    (each : (k : ℕ) (i : row.Instance) (here : Instance) (is : IsRow P r t table k i here) →
    Q (cs k, is.node.body.items)) where
  one_body :
      (k : ℕ) (i : row.Instance) (here : Instance) → IsRow P r t table k i here →
      Every Q (body_in r t cs k i)
  one_body k i here is =
      rw (node_found P r t reached table accepted k i here is) (each k i here is, tt)

  bodies_from :
      (j : ℕ) (rows : List row.Instance) →
      ((k : ℕ) (i : row.Instance) → slice_get rows k ≡ Some i →
      (here : Instance) × IsRow P r t table (j + k) i here) →
      Every Q (bodies r t cs j rows)
  unfolding bodies
  bodies_from j [] shown = tt
  bodies_from j (i ∷ rows) shown =
      let start : j + 0 ≡ j = omega arith in
      let at = shown 0 i refl in
      let own = subst (λ k. IsRow P r t table k i at.0) start at.1 in
      Every-append Q (body_in r t cs j i) (bodies r t cs (suc j) rows) (one_body j i at.0 own)
      (bodies_from (suc j) rows (λ k l e.
      let next : j + suc k ≡ suc j + k = omega arith in
      let there = shown (suc k) l e in
      (there.0, subst (λ m. IsRow P r t table m l there.0) next there.1)))

  -- a property of the statements of each instance is one of all statements that are emitted
  pub bodies_every : Every Q (bodies r t cs 0 t.instances.items)
  bodies_every =
      bodies_from 0 t.instances.items (λ k i e.
      let zero_k : k ≡ 0 + k = omega arith in
      let there = row_shown P r t table k i e in
      (there.0, subst (λ m. IsRow P r t table m i there.0) zero_k there.1))

module _ (P : Program) (accepted : static_refusal P ≡ None) (checked : check_refusal P ≡ None)
    (r : Reached) (t : Table) (reached : IsReached P r) (table : IsTable P r t)
    (found : List NodeClocks) (clocks : HasFoundClocks P r t found) (cs : ℕ → Context)
    (contexts : (k : ℕ) (i : row.Instance) (here : Instance) (is : IsRow P r t table k i here) →
    IsRowContext P r t table k i here is (cs k)) where
  module _ (k : ℕ) (i : row.Instance) (here : Instance) (is : IsRow P r t table k i here) where
    node_is : here.node ≡ node_of is.node
    node_is = ap (λ (c : Instance). c.node) is.same

    -- the terms of a row are as many as the clocks that are found for its node
    terms_few : length (node_occurrences P here.node) < 2 ^ 63
    terms_few =
        let f = clocks.clocks i.specialization.0 is.specialization is.node is.specialized
        is.resolved in
        let many : length (node_occurrences P here.node) ≡ length f.0.terms.items =
        ap (λ (n : Node). length (node_occurrences P n)) node_is
        ∙ (sym (length-map (node_occurrences P (node_of is.node)) (λ o. o.clock))
        ∙ (ap length f.2 ∙ length-map f.0.terms.items (clock_in is.node))) in
        subst (λ n. n < 2 ^ 63) (sym many) (kept_few f.0.terms)

    -- the calls of a row are as many as the calls of its node
    calls_few : length (node_sites here.node) < 2 ^ 63
    calls_few =
        let own = own_resolved P r t reached table accepted k i here is in
        let many : length (node_sites here.node) ≡ length is.node.calls.items =
        ap (λ (n : Node). length (node_sites n)) node_is
        ∙ (sym (ap length own.calls) ∙ length-map is.node.calls.items _) in
        subst (λ n. n < 2 ^ 63) (sym many) (kept_few is.node.calls)

    counted : IsCounted (cs k, is.node.body.items)
    counted s =
        let at = ap (λ (x : PlacedState). x.place)
        (row_is P accepted checked (literals_small P accepted checked) r t reached table k i here
        is (cs k) (contexts k i here is) s) in
        let terms = terms_few in
        let calls = calls_few in
        rw at (record { terms = omega (arith, terms); calls = omega (arith, calls) })

-- The starts of a small program can be entered and counted: the elements of its inputs, its inputs
-- and outputs, and all elements of the program. There is at least one element.

-- ## Inputs

-- the inputs of an instance have as many targets as elements
inputs_long :
    (Y : Layout) (P : Program) (here : Instance) (n : Node) (ds : List Declaration) →
    Every (λ d. length (Y.places here.path d.name) ≡ width P here d) ds →
    length (inputs_at Y n here.path ds) ≡ sum_by (width P here) ds
inputs_long Y P here n [] h = refl
inputs_long Y P here n (d ∷ ds) h =
    let k = flat_clock Y here.path (declared_clock n d.name) in
    let one = length-map (Y.places here.path d.name) (λ (i : ℕ).
    let t : Target = record { place = i; clock = k } in t) in
    length-append (targets Y n here.path d.name) (inputs_at Y n here.path ds)
    ∙ (ap₂ (λ a b. a + b) (one ∙ h.0) (inputs_long Y P here n ds h.1)
    ∙ sym (sum_by-cons (width P here) d ds))

-- the inputs of an instance of a small program have at most 65,536 elements
inputs_few :
    (P : Program) (here : Instance) → In here (instances P) → is_small P ≡ true →
    sum_by (width P here) here.node.inputs ≤ 65536
inputs_few P here there small =
    let part = sum_by-append (width P here) here.node.inputs
    (here.node.outputs ++ here.node.locals) in
    let own = in_sum (instance_size P) (instances P) here there in
    let all = leb-true (size P) 65536 small in
    omega (arith, part, own, all)

-- declarations have as many scalars as elements
scalars_long :
    (P : Program) (here : Instance) (ds : List Declaration) →
    length (flat_map (scalar_elements P here) ds) ≡ sum_by (width P here) ds
scalars_long P here [] = refl
scalars_long P here (d ∷ ds) =
    length-append (scalar_elements P here d) (flat_map (scalar_elements P here) ds)
    ∙ (ap₂ (λ a b. a + b) (scalars_count P here d) (scalars_long P here ds)
    ∙ sym (sum_by-cons (width P here) d ds))

pub signature_few :
    (P : Program) → static_refusal P ≡ None → is_small P ≡ true → length (input_kinds P) ≤ 65536
signature_few P accepted small =
    let long = length-map (signature P) (λ e. e.1) in
    let few = by (instance_at P Root) refl in
    omega (arith, long, few)
  where
    by : (o : Option Instance) → instance_at P Root ≡ o →
        length (listed (λ root. flat_map (scalar_elements P root) root.node.inputs) o) ≤ 65536
    by None is = omega arith
    by (Some root) is =
        let there = in_instances P (instantiation_kept P accepted) Root root is in
        let long = scalars_long P root root.node.inputs in
        let few = inputs_few P root there small in
        omega (arith, long, few)

-- ## Rows that start

module _ (P : Program) (accepted : static_refusal P ≡ None) (checked : check_refusal P ≡ None)
    (r : Reached) (t : Table) (reached : IsReached P r) (table : IsTable P r t)
    (small : is_small P ≡ true) (cs : ℕ → Context)
    (contexts : (k : ℕ) (i : row.Instance) (here : Instance) (is : IsRow P r t table k i here) →
    IsRowContext P r t table k i here is (cs k)) where
  module _ (k : ℕ) (i : row.Instance) (here : Instance) (is : IsRow P r t table k i here) where
    inputs_counted : length (parameter_targets (cs k) is.node.inputs) < 2 ^ 32
    inputs_counted =
        let there = in_at (instances P) k here is.instance_is in
        let same = inputs_are P r t reached table accepted cs
        (has P accepted checked r t reached table cs contexts) k i here is in
        let wide = Every-first
        (λ (d : Declaration). length ((layout P).places here.path d.name) ≡ width P here d)
        here.node.inputs (here.node.outputs ++ here.node.locals)
        (places_width P accepted here there) in
        let long : length (parameter_targets (cs k) is.node.inputs) ≡ sum_by (width P here)
        here.node.inputs = cc (inputs_long (layout P) P here here.node here.node.inputs wide) in
        let few = inputs_few P here there small in
        rw long (omega (arith, few))

    all_counted : is.node.inputs + is.node.outputs < 2 ^ 64
    all_counted =
        let own = own_resolved P r t reached table accepted k i here is in
        let n = node_of is.node in
        let long = length-append n.inputs (n.outputs ++ n.locals) in
        let later = length-append n.outputs n.locals in
        let few = kept_few is.node.variables in
        omega (arith, own.inputs, own.outputs, own.as_many, long, later, few)

  module _ (is_row : ℕ → Bool) (rows : HasRows r t is_row) where
    -- each row that starts is ready
    pub start_ready : (b : Bool) → ForSome (start_in r t b) (IsReady cs is_row)
    start_ready b s e = by (instance_at P (start_path b)) refl
      where
        by : (o : Option Instance) → instance_at P (start_path b) ≡ o → IsReady cs is_row s
        by None h =
            let nowhere : None ≡ Some s = sym (not_started P r t reached table accepted b h) ∙ e in
            absurd cc
        by (Some here) h =
            let st = started P r t reached table accepted b here h in
            let found = node_found P r t reached table accepted st.number st.line here st.at in
            let same : start_of st.number st.at.node ≡ s =
            same_Some (start_of st.number st.at.node) s (sym st.found ∙ e) in
            rw (← same) (record {
              there = rows st.number st.line st.at.row_is st.at.node found;
              inputs_counted = inputs_counted st.number st.line here st.at;
              all_counted = all_counted st.number st.line here st.at;
            })

  -- the program that is emitted has at most 327,680 elements
  pub whole_few :
      ((count : ℕ) →
      whole r t cs (input_kinds P) (element_kinds P) count ≡ expanded (layout P) P count) →
      (inputs kinds : List Kind) (count : ℕ) → count ≡ element_total r t →
      (whole r t cs inputs kinds count).size ≤ 327680
  whole_few is inputs kinds count many =
      let all = many ∙ element_total_is P r t reached table in
      let same : (whole r t cs inputs kinds count).size
      ≡ (expanded (layout P) P (length (program_elements P))).size = cc
      (is (length (program_elements P))) in
      let few = small_few P accepted checked small in
      rw same (within (expanded (layout P) P (length (program_elements P))).size few)
    where
      within : (n : ℕ) → n ≤ 5 * 65536 → n ≤ 327680
      within n le = omega (arith, le)

-- ## Elements

-- one piece of a `flat_map` is no longer than all pieces together
piece_within :
    {A B : Type 0} (f : A → List B) (xs : List A) (x : A) → In x xs →
    length (f x) ≤ length (flat_map f xs)
piece_within f [] x i = absurd i
piece_within f (y ∷ xs) x (inl e) =
    let own = ap (λ y. length (f y)) e in
    let all = length-append (f y) (flat_map f xs) in
    omega (arith, own, all)
piece_within f (y ∷ xs) x (inr i) =
    let rest = piece_within f xs x i in
    let all = length-append (f y) (flat_map f xs) in
    omega (arith, rest, all)

-- the outputs of an instance have no more elements than the instance
outputs_within :
    (P : Program) (here : Instance) →
    length (flat_map (elements P here) here.node.outputs) ≤ length (instance_elements P here)
outputs_within P here =
    let f = elements P here in
    let ins = here.node.inputs in
    let outs = here.node.outputs in
    let locals = here.node.locals in
    let one = ap length (flat_map-append f ins (outs ++ locals)) in
    let two = length-append (flat_map f ins) (flat_map f (outs ++ locals)) in
    let three = ap length (flat_map-append f outs locals) in
    let four = length-append (flat_map f outs) (flat_map f locals) in
    omega (arith, one, two, three, four)

-- the numbers from 0, one for each element of a variable
abbrev numbered : Program → Instance → Declaration → List ℕ
numbered P here d = range_with_len 0 (width P here d)

numbered_long :
    (P : Program) (here : Instance) (ds : List Declaration) →
    length (flat_map (numbered P here) ds) ≡ length (flat_map (elements P here) ds)
numbered_long P here [] = refl
numbered_long P here (d ∷ ds) =
    let own = length-range_with_len 0 (width P here d) ∙ sym (length_elements P here d) in
    length-append (numbered P here d) (flat_map (numbered P here) ds)
    ∙ (ap₂ (λ a b. a + b) own (numbered_long P here ds)
    ∙ sym (length-append (elements P here d) (flat_map (elements P here) ds)))

module _ (P : Program) (accepted : static_refusal P ≡ None) where
  elements_some : 0 < length (flat_map (instance_elements P) (instances P))
  elements_some =
      let p = property_of P accepted in
      let there = in_instances P (instantiation_kept P accepted) (property_path P.observer) p.here
      p.stands in
      let outs = p.here.node.outputs in
      let f = numbered P p.here in
      let one = output_width P p.here outs f p.is_truth
      (Every-all (λ d. length (f d) ≡ width P p.here d)
      (λ d. length-range_with_len 0 (width P p.here d)) outs) in
      let many = numbered_long P p.here outs in
      let own = outputs_within P p.here in
      let all = piece_within (instance_elements P) (instances P) p.here there in
      omega (arith, one, many, own, all)

  -- the property of an accepted program is an element
  pub program_some : 0 < length (program_elements P)
  unfolding program_elements
  program_some = elements_some

  instances_some : 0 < length (instances P)
  instances_some = by (instances P) elements_some
    where
      by : (is : List Instance) → 0 < length (flat_map (instance_elements P) is) → 0 < length is
      by [] lt = absurd (omega (arith, lt))
      by (c ∷ is) lt = omega arith

  module _ (r : Reached) (t : Table) (reached : IsReached P r) (table : IsTable P r t) where
    -- the first row has its node
    pub first_found : (is_row : ℕ → Bool) → HasRows r t is_row → is_row 0 ≡ true
    first_found is_row rows =
        let first = item_at (instances P) 0 instances_some in
        let line = row_of P r t table 0 first.0 first.1 in
        rows 0 line.0 line.1.row_is line.1.node
        (node_found P r t reached table accepted 0 line.0 first.0 line.1)

-- The rows of a checked program that is small can be emitted from a frame of one of them, and what
-- is emitted is the expansion of the program.

-- the parts that a flat program is emitted from
pub record Emittable : Type 0 where
  pub reached : Reached
  pub table : Table
  pub contexts : ℕ → Context
  pub rows : ℕ → Bool
  pub inputs : List Kind
  pub kinds : List Kind
  pub count : ℕ

-- the flat program that is emitted from `s`
abbrev pub emitted : Emittable → FlatProgram
emitted s = whole s.reached s.table s.contexts s.inputs s.kinds s.count

-- the conditions of the code that emits the program
pub record CanEmit (s : Emittable) : Type 0 where
  pub kinds : length s.kinds ≡ s.count
  pub positive : 0 < s.count
  pub elements : (emitted s).size ≤ 327680
  pub inputs : length s.inputs ≤ 65536
  pub places : Every IsCounted (bodies s.reached s.table s.contexts 0 s.table.instances.items)
  pub there : HasRows s.reached s.table s.rows
  pub start :
      (observer : Bool) →
      ForSome (start_in s.reached s.table observer) (IsReady s.contexts s.rows)

-- all elements of the program have numbers below 2^32
pub numbers_small : (s : Emittable) → CanEmit s → (emitted s).size < 2 ^ 32
numbers_small s can = omega (arith, can.elements)

-- a program that is emitted with these clocks is bounded: it has few elements, inputs and clocks
pub emits_bounded :
    (s : Emittable) → CanEmit s → (clocks : List Clock) → AreWhole clocks →
    length clocks ≤ 131072 → (p : code.FlatProgram) → program_of p ≡ emitted s →
    p.clocks.items ≡ clocks → IsBounded p
emits_bounded s can clocks whole few p e same = record {
  elements = subst (λ (f : FlatProgram). f.size ≤ 327680) (sym e) can.elements;
  inputs = subst (λ (f : FlatProgram). length f.inputs ≤ 65536) (sym e) can.inputs;
  clocks = subst AreWhole (sym same) whole;
  clock_count = subst (λ (l : List Clock). length l ≤ 131072) (sym same) few;
}

-- the parts `s` come from a checked program, its layout, contexts and rows
pub record IsEmittable (c : Checking) (l : StoredLayout) (cs : ℕ → Context) (own_row : ℕ → Bool)
    (s : Emittable) : Type 0 where
  pub reached : s.reached ≡ c.elab.reached
  pub table : s.table ≡ c.elab.table
  pub contexts : s.contexts ≡ cs
  pub rows : s.rows ≡ own_row
  pub inputs : s.inputs ≡ kinds_of c.elab.signature
  pub kinds : s.kinds ≡ table_kinds c.elab.reached c.elab.table
  pub count : s.count ≡ l.count

module _ (c : Checking) (lawful : IsChecked c) (l : StoredLayout)
    (laid : IsLayoutOf c.elab.reached c.elab.table l)
    (small : is_small (elaborated_program c.elab) ≡ true) (cs : ℕ → Context)
    (contexts : (k : ℕ) (i : row.Instance) (here : Instance)
    (is : IsRow (elaborated_program c.elab) c.elab.reached c.elab.table lawful.elaborated.table k i
    here) →
    IsRowContext (elaborated_program c.elab) c.elab.reached c.elab.table lawful.elaborated.table
    k i here is (cs k))
    (own_row : ℕ → Bool) (rows : HasRows c.elab.reached c.elab.table own_row)
    (framed : (count : ℕ) →
    whole c.elab.reached c.elab.table cs (input_kinds (elaborated_program c.elab))
    (element_kinds (elaborated_program c.elab)) count
    ≡ expanded (layout (elaborated_program c.elab)) (elaborated_program c.elab) count) where
  -- the parts that come from the program itself
  abbrev own : Emittable
  own = record {
    reached = c.elab.reached;
    table = c.elab.table;
    contexts = cs;
    rows = own_row;
    inputs = kinds_of c.elab.signature;
    kinds = table_kinds c.elab.reached c.elab.table;
    count = l.count;
  }

  own_emit : CanEmit own
  own_emit =
      let P = elaborated_program c.elab in
      let r = c.elab.reached in
      let t = c.elab.table in
      let accepted = lawful.elaborated.accepted in
      let reached = lawful.elaborated.reached in
      let table = lawful.elaborated.table in
      record {
        kinds =
            ap (λ (ks : List Kind). length ks) (table_kinds_are P r t reached table accepted)
            ∙ length_kinds P ∙ sym (element_total_is P r t reached table) ∙ sym laid.count;
        positive =
            rw (laid.count, element_total_is P r t reached table) (program_some P accepted);
        elements = whole_few P accepted lawful.accepted r t reached table small cs contexts framed
            (kinds_of c.elab.signature) (table_kinds r t) l.count laid.count;
        inputs = rw (← lawful.elaborated.inputs) (signature_few P accepted small);
        places = bodies_every P r t reached table accepted cs IsCounted (counted P accepted
            lawful.accepted r t reached table c.clocks.items lawful.clocks cs contexts);
        there = rows;
        start = start_ready P accepted lawful.accepted r t reached table small cs contexts own_row
            rows;
      }

  module _ (s : Emittable) (are : IsEmittable c l cs own_row s) where
    same : own ≡ s
    same = sym (λ i. record {
      reached = are.reached i;
      table = are.table i;
      contexts = are.contexts i;
      rows = are.rows i;
      inputs = are.inputs i;
      kinds = are.kinds i;
      count = are.count i;
    })

    -- the code can emit it
    pub can_emit : CanEmit s
    can_emit = subst CanEmit same own_emit

    -- the program that is emitted from `s` is the expansion
    pub emits_expansion :
        (p : FlatProgram) → p ≡ emitted s → IsExpansionOf (elaborated_program c.elab) p
    emits_expansion p e =
        let P = elaborated_program c.elab in
        let r = c.elab.reached in
        let t = c.elab.table in
        let accepted = lawful.elaborated.accepted in
        let reached = lawful.elaborated.reached in
        let table = lawful.elaborated.table in
        let inputs : kinds_of c.elab.signature ≡ input_kinds P =
        ap kinds_of (sym lawful.elaborated.inputs) in
        let kinds = table_kinds_are P r t reached table accepted in
        let count : l.count ≡ length (program_elements P) =
        laid.count ∙ element_total_is P r t reached table in
        let numbered : emitted own
        ≡ whole r t cs (input_kinds P) (element_kinds P) (length (program_elements P)) =
        (λ i. whole r t cs (inputs i) (kinds i) (count i)) in
        expansion_of P accepted lawful.accepted p
        (e ∙ (ap emitted (sym same) ∙ (numbered ∙ framed (length (program_elements P)))))

-- ## Frames of rows

module _ (c : Checking) (lawful : IsChecked c) (l : StoredLayout) (all : Children) (k : Clocks)
    (laid : IsLayoutOf c.elab.reached c.elab.table l)
    (kept : (j n i : ℕ) → called_row all.rows j n i ≡ child_row c.elab.table j n i)
    (filled : k.table.items ≡ all_clocks (sources_of c l))
    (runs : k.runs.items ≡ all_runs (sources_of c l))
    (small : is_small (elaborated_program c.elab) ≡ true) where
  -- the first row is there
  pub first_there : found_row c 0 ≡ None → ⊥
  first_there none =
      let P = elaborated_program c.elab in
      let there = first_found P lawful.elaborated.accepted c.elab.reached c.elab.table
      lawful.elaborated.reached lawful.elaborated.table (is_row c) (rows_there c) in
      row_not_there c 0 there none

  module _ (s : Emittable) (are : IsEmittable c l (frame_contexts c l all k) (is_row c) s) where
    -- with the frames of rows the code can emit the program
    pub framed_emit : CanEmit s
    framed_emit =
        can_emit c lawful l laid small (frame_contexts c l all k)
        (framed_row c lawful l all k laid kept filled runs small) (is_row c) (rows_there c)
        (framed_program c lawful l all k laid kept filled runs small) s are

    -- the program that is emitted with these frames is the expansion
    pub framed_expansion :
        (p : FlatProgram) → p ≡ emitted s → IsExpansionOf (elaborated_program c.elab) p
    framed_expansion p e =
        emits_expansion c lawful l laid small (frame_contexts c l all k)
        (framed_row c lawful l all k laid kept filled runs small) (is_row c) (rows_there c)
        (framed_program c lawful l all k laid kept filled runs small) s are p e

-- the frame of row `j` makes a program emittable: its reads give the contexts of all rows
pub frame_emittable :
    (c : Checking) (l : StoredLayout) (all : Children) (k : Clocks) (j : ℕ) (f : RowFrame) →
    IsFrameOf c l all k j (read_of f) → (r : Reached) → r ≡ c.elab.reached → (t : Table) →
    t ≡ c.elab.table → (inputs : List Kind) → inputs ≡ kinds_of c.elab.signature →
    (kinds : List Kind) → kinds ≡ table_kinds c.elab.reached c.elab.table → (count : ℕ) →
    count ≡ l.count →
    IsEmittable c l (frame_contexts c l all k) (is_row c)
    (record {
      reached = r;
      table = t;
      contexts = contexts_of f;
      rows = is_row_of f;
      inputs = inputs;
      kinds = kinds;
      count = count;
    })
frame_emittable c l all k j f at r er t et inputs ei kinds ek count en = record {
  reached = er;
  table = et;
  contexts = λ i. frame_contexts (at.checked i) (at.layout i) (at.children i) (at.clocks i);
  rows = ap is_row at.checked;
  inputs = ei;
  kinds = ek;
  count = en;
}

-- two statements on a result give a third one
pub both_ok :
    {X E : Type 0} (r : Result X E) (P Q R : X → Type 0) → ((x : X) → P x → Q x → R x) →
    IfOk r P → IfOk r Q → IfOk r R
both_ok (Ok x) P Q R f p q = f x p q
both_ok (Err e) P Q R f p q = tt

-- where `o` is never `Some`, a match on it gives the statement for `None`
pub no_frame :
    {A : Type 0} (o : Option A) (Q : Type 0) (R : A → Type 0) → MatchOption o Q R →
    ((x : A) → o ≡ Some x → ⊥) → Q
no_frame None Q R h not = h
no_frame (Some x) Q R h not = absurd (not x refl)
