-- A variable that serves for another in a clock has its streams.
use Rattle.lb_expand.proofs.Words
use Words.{AreEqual, Base, Bool, Call, Child, Cons, DataType, Declaration, Equation, Every}
use Words.{Every-at, Every-first, Every-second, Expr, Exprs, Fits, FlatClock, FlatEquation, Group}
use Words.{History, Holds, In, Inputs, Instance, IsCallJoined, IsIteratorJoined, IsJoined, IsOver}
use Words.{IsVariable, Iterate, Layout, List, Name, Nil, Node, Node_named, None, Observer}
use Words.{Occurrence, On, Option, Path, Program, Receives, Root, Site, Solves, SolvesAt, Some}
use Words.{Statement, Static, Stream, Symbol, Target, Variable, [], all_some, all_streams, ap, ap₂}
use Words.{are_types, argument_clocks, argument_streams, arith, as_variable, at, at_path}
use Words.{base_clock, bound, bytes_eq, bytes_eq-Decides, call_clocks, call_copies, call_count}
use Words.{call_of_site, call_site, called, callee_node, callee_of, check_refusal, column, cond}
use Words.{copied, data_types, declared_clock, either_or, emit, emit_each, false, find_in}
use Words.{flat_clock, flat_map, found_from, found_in, found_name, found_some, given_outputs}
use Words.{in_instances, inl, inr, instance_at, instance_count, instances, instantiation_kept}
use Words.{instants, iterator_inputs, layout, length, listed, map, named, node_named}
use Words.{node_occurrences, number, occurrence_fits, outer, outputs_of, own_right, own_site}
use Words.{path_is, presence, received, refl, same_Some, signed, site_clock, site_occurs}
use Words.{statements, static_refusal, streams, subst, sym, targets, true, type_of_name, ungrouped}
use Words.{variable_type, variables, where_signed, width, ℕ, ◌++◌, ◌+◌, ◌<◌, ◌>>=◌, ◌∙◌, ◌∷◌, ◌≡◌}
use Rattle.lb_check.proofs.{lists.Members.Every-range, programs.ServedVariables.IsCallOf}
use Rattle.lb_check.proofs.programs.ServedVariables.{IsRightOf, left_variable, output_value}
use Rattle.lb_check.proofs.programs.ServedVariables.{serving_same, site_over, zip_first}
use Rattle.lb_check.proofs.programs.TypedOccurrences.{call_typed, left_types, named_there}
use Rattle.lb_check.{proofs.programs.TypedOccurrences.ungrouped_types, specs.Clocks.Clock}
use Rattle.lb_check.specs.{Clocks.given_inputs, Solutions.IsJoinedAt}
use Rattle.lb_expand.proofs.{clock_tables.ClockTable.instance_runs, copies.CallCopies.HasCopies}
use Rattle.lb_expand.proofs.copies.CallCopies.{IsArgument, IsCopied, IsLeftCopied, IsResult, Within}
use Rattle.lb_expand.proofs.copies.CallCopies.{argument_copied, call_found, grouped_found}
use Rattle.lb_expand.proofs.copies.CallCopies.{result_copied}
use Rattle.lb_expand.proofs.numbering.NumberedPlaces.{places_nowhere, places_width, signs_are}
use Rattle.lb_expand.proofs.numbering.{NumberedPlaces.signs_nowhere, ReceivedInputs.target_count}
use Rattle.lb_expand.proofs.solutions.{FlatHistories.halves, Placing.{columns, targeted}}
use Rattle.lb_expand.proofs.widths.TypeFacts.{each, same_count, types_first, width_of}
use Rattle.lb_flat.proofs.lists.Lists.{map-maps}

-- In a history that solves an accepted program, a variable that serves for another in a clock has
-- the streams of the other, and each instance runs on its clock. So do streams of flat elements
-- that agree with the variables.

-- what is nothing is no value
none_is : {A B : Type 0} (x : A) → None ≡ Some x → B
none_is x e = absurd cc

-- a name for which a variable is given is the name of an input
input_named : (ds : List Declaration) (es : Exprs) (x : Name) (g : Name × Name) →
    found_in (given_inputs ds es) x ≡ Some g → In x (map (λ d. d.name) ds)
input_named [] es x g e = absurd cc
input_named (d ∷ ds) Nil x g e = absurd cc
input_named (d ∷ ds) (Cons a es) x g e = by (as_variable a) (input_named ds es x g) e
  where
    named_by : (y : Name) (b : Bool) → bytes_eq d.name x ≡ b →
        (found_in (given_inputs ds es) x ≡ Some g → In x (map (λ d. d.name) ds)) →
        cond b (Some (d.name, y)) (found_in (given_inputs ds es) x) ≡ Some g →
        In x (map (λ d. d.name) (d ∷ ds))
    named_by y true is later h = inl ((bytes_eq-Decides d.name x).0 is)
    named_by y false is later h = inr (later h)

    by : (o : Option Name) →
        (found_in (given_inputs ds es) x ≡ Some g → In x (map (λ d. d.name) ds)) →
        found_in (listed (λ y. (d.name, y) ∷ []) o ++ given_inputs ds es) x ≡ Some g →
        In x (map (λ d. d.name) (d ∷ ds))
    by None later h = inr (later h)
    by (Some y) later h = named_by y (bytes_eq d.name x) refl later h

output_named : (ds : List Declaration) (xs : List Name) (x : Name) (g : Name × Name) →
    found_in (given_outputs ds xs) x ≡ Some g → In x (map (λ d. d.name) ds)
output_named [] xs x g e = absurd cc
output_named (d ∷ ds) [] x g e = absurd cc
output_named (d ∷ ds) (y ∷ xs) x g e =
    by (bytes_eq d.name x) refl (output_named ds xs x g) e
  where
    by : (b : Bool) → bytes_eq d.name x ≡ b →
        (found_in (given_outputs ds xs) x ≡ Some g → In x (map (λ d. d.name) ds)) →
        cond b (Some (d.name, y)) (found_in (given_outputs ds xs) x) ≡ Some g →
        In x (map (λ d. d.name) (d ∷ ds))
    by true is later h = inl ((bytes_eq-Decides d.name x).0 is)
    by false is later h = inr (later h)

names_first : (x : Name) (ds es : List Declaration) → In x (map (λ d. d.name) ds) →
    In x (map (λ d. d.name) (ds ++ es))
names_first x [] es i = absurd i
names_first x (d ∷ ds) es (inl e) = inl e
names_first x (d ∷ ds) es (inr i) = inr (names_first x ds es i)

names_second : (x : Name) (ds es : List Declaration) → In x (map (λ d. d.name) es) →
    In x (map (λ d. d.name) (ds ++ es))
names_second x [] es i = i
names_second x (d ∷ ds) es i = inr (names_second x ds es i)

-- ## The streams of variables and calls

module _ (P : Program) (H : History) (here : Instance) where
  variable_streams :
      (k : Clock) (n : ℕ) (e : Expr) (x : Name) (v : Declaration) → as_variable e ≡ Some x →
      named (λ d. d.name) x (variables here.node) ≡ Some v →
      streams P H here k n e ≡ H.columns here.path x
  variable_streams k n (Variable z) x v e is = cc (found_name x (variables here.node) v is)
  variable_streams k n (Group a) x v e is = variable_streams k n a x v e is
  variable_streams k n _ x v e is = none_is x e

  grouped_streams : (k : Clock) (n : ℕ) (e : Expr) →
      streams P H here k n e ≡ streams P H here k n (ungrouped e)
  grouped_streams k n (Group a) = grouped_streams k n a
  grouped_streams k n _ = refl

  -- the name that is given stands for the first input, or for a further one
  first_received :
      (k : Clock) (n : ℕ) (p : Path) (d : Declaration) (ds : List Declaration) (a : Expr)
      (es : Exprs) (x : Name) (g : Name × Name) (v : Declaration) →
      named (λ d. d.name) g.1 (variables here.node) ≡ Some v →
      H.columns p d.name ≡ streams P H here k n a →
      (found_in (given_inputs ds es) x ≡ Some g → H.columns p x ≡ H.columns here.path g.1) →
      found_in (given_inputs (d ∷ ds) (Cons a es)) x ≡ Some g →
      H.columns p x ≡ H.columns here.path g.1
  first_received k n p d ds a es x g v is own later found = by (as_variable a) refl found
    where
      by_name : (y : Name) → as_variable a ≡ Some y → (b : Bool) → bytes_eq d.name x ≡ b →
          cond b (Some (d.name, y)) (found_in (given_inputs ds es) x) ≡ Some g →
          H.columns p x ≡ H.columns here.path g.1
      by_name y var true name e =
          let same = same_Some (d.name, y) g e in
          let value = ap (λ (u : Name × Name). u.1) same in
          ap (H.columns p) (sym ((bytes_eq-Decides d.name x).0 name)) ∙ own
          ∙ variable_streams k n a g.1 v (var ∙ ap (λ z. Some z) value) is
      by_name y var false name e = later e

      by : (o : Option Name) → as_variable a ≡ o →
          found_in (listed (λ y. (d.name, y) ∷ []) o ++ given_inputs ds es) x ≡ Some g →
          H.columns p x ≡ H.columns here.path g.1
      by None var e = later e
      by (Some y) var e = by_name y var (bytes_eq d.name x) refl e

  -- an input has the streams of a variable that is given for it
  received_same :
      (f : Declaration → Clock) (n : ℕ) (p : Path) (ds : List Declaration) (es : Exprs)
      (x : Name) (g : Name × Name) (v : Declaration) →
      named (λ d. d.name) g.1 (variables here.node) ≡ Some v →
      Receives H p ds (argument_streams P H here (map f ds) n es) →
      found_in (given_inputs ds es) x ≡ Some g → H.columns p x ≡ H.columns here.path g.1
  received_same f n p [] es x g v is r found = none_is g found
  received_same f n p (d ∷ ds) Nil x g v is r found = none_is g found
  received_same f n p (d ∷ ds) (Cons a es) x g v is r found =
      first_received (f d) n p d ds a es x g v is r.0
      (λ later. received_same f (n + call_count a) p ds es x g v is r.1 later) found

  -- an output has the streams of its left variable
  results_same :
      (c : Instance) (ds : List Declaration) (xs : List Name) (outs lefts : List DataType) →
      Every (λ d. length (H.columns c.path d.name) ≡ width P c d) ds →
      ((v : Declaration) (x : Name) →
      named (λ d. d.name) x (variables here.node) ≡ Some v →
      length (H.columns here.path x) ≡ width P here v) →
      all_some (map (variable_type P c) ds) ≡ Some outs →
      all_some (map (type_of_name P here) xs) ≡ Some lefts → are_types outs lefts ≡ true →
      flat_map (H.columns here.path) xs ≡ flat_map (λ o. H.columns c.path o.name) ds →
      (x : Name) (g : Name × Name) → found_in (given_outputs ds xs) x ≡ Some g →
      H.columns c.path x ≡ H.columns here.path g.1
  results_same c [] xs outs lefts wide own p q e same x g found = none_is g found
  results_same c (d ∷ ds) [] outs lefts wide own p q e same x g found = none_is g found
  results_same c (d ∷ ds) (y ∷ xs) outs lefts wide own p q e same x g found =
      let h = each _ _ outs p in
      let i = each _ _ lefts q in
      let types = types_first h.all i.all e in
      let v = bound (named (λ d. d.name) y (variables here.node)) (variable_type P here) i.first
      i.is in
      let ys = H.columns here.path y in
      let zs = H.columns c.path d.name in
      let long : length ys ≡ length zs =
      own v.value y v.is ∙ width_of P here v.value i.first v.gives
      ∙ sym (same_count h.first i.first types.0) ∙ sym (width_of P c d h.first h.is)
      ∙ sym wide.0 in
      by (bytes_eq d.name x) refl (halves _ _ _ _ long same).first (λ later. results_same c ds xs
      h.rest i.rest wide.1 own h.others i.others types.1
      (halves _ _ _ _ long same).second x g later) found
    where
      by : (b : Bool) → bytes_eq d.name x ≡ b →
          H.columns here.path y ≡ H.columns c.path d.name →
          (found_in (given_outputs ds xs) x ≡ Some g →
          H.columns c.path x ≡ H.columns here.path g.1) →
          cond b (Some (d.name, y)) (found_in (given_outputs ds xs) x) ≡ Some g →
          H.columns c.path x ≡ H.columns here.path g.1
      by true name first later e =
          let value = ap (λ (u : Name × Name). u.1) (same_Some (d.name, y) g e) in
          ap (H.columns c.path) (sym ((bytes_eq-Decides d.name x).0 name)) ∙ sym first
          ∙ ap (H.columns here.path) value
      by false name first later e = later e

-- ## A history that solves a program

module _ (P : Program) (accepted : static_refusal P ≡ None) (checked : check_refusal P ≡ None)
    (X : Inputs) (H : History) (solves : Solves P X H) where
  module _ (here : Instance) (stands : In here (instances P)) where
    solved : SolvesAt P H here
    solved = Every-at (SolvesAt P H) (instances P) here solves.instances stands

    own_width :
        (v : Declaration) (x : Name) → named (λ d. d.name) x (variables here.node) ≡ Some v →
        length (H.columns here.path x) ≡ width P here v
    own_width v x e =
        let i = find_in (λ (d : Declaration). bytes_eq d.name x) (variables here.node) v e in
        rw (← (found_name x (variables here.node) v e)) (Every-at (Fits P H here)
        (variables here.node) v solved.variables i).width

  output_widths :
      (c : Instance) → In c (instances P) → (ds : List Declaration) → Every (Fits P H c) ds →
      Every (λ d. length (H.columns c.path d.name) ≡ width P c d) ds
  output_widths c stands [] h = tt
  output_widths c stands (d ∷ ds) h = (h.0.width, output_widths c stands ds h.1)

  of_argument :
      (here : Instance) (k : Clock) (n : ℕ) (f : Name) (statics : List Static) (es : Exprs)
      (c : Instance) → IsCallOf P here k n f statics es c → (x : Name) (g : Name × Name) →
      found_in (given_inputs c.node.inputs es) x ≡ Some g → IsVariable here.node g.1 →
      H.columns c.path x ≡ H.columns here.path g.1
  of_argument here k n f statics es c call x g found variable =
      let t = call_typed P accepted checked here call.stands k n f statics es call.occurs c
      call.gives
      in
      let v = named_there g.1 (variables here.node) variable in
      let joined = Every-at (IsJoined P H here) (node_occurrences P here.node)
      (at k n (Call f statics es)) (solved here call.stands).calls call.occurs in
      let call_joined = subst (λ z. IsCallJoined P H here k n es z) t.node joined in
      cc (received_same P H here (λ d. outer (base_clock k c.node) (given_inputs c.node.inputs es)
      (declared_clock c.node d.name)) (n + 1) (Child here.path n 0) c.node.inputs es x g v.0 v.1
      call_joined.1 found)

  of_result :
      (here : Instance) (k : Clock) (n : ℕ) (f : Name) (statics : List Static) (es : Exprs)
      (c : Instance) → IsCallOf P here k n f statics es c → (lefts : List Name) →
      IsRightOf P here n f statics es lefts → (x : Name) (g : Name × Name) →
      found_in (given_outputs c.node.outputs lefts) x ≡ Some g →
      H.columns c.path x ≡ H.columns here.path g.1
  of_result here k n f statics es c call lefts r x g found =
      let t = call_typed P accepted checked here call.stands k n f statics es call.occurs c
      call.gives
      in
      let q = r.occurrence in
      let equal = Every-at (λ (s : Statement × Occurrence). AreEqual P H here s.0 s.1)
      (statements P here.node) (Equation lefts r.right, q) (solved here call.stands).equations
      r.stands in
      let own_expr = own_right P here.node (Equation lefts r.right, q) r.stands in
      let results : flat_map (H.columns here.path) lefts
      ≡ flat_map (λ o. H.columns c.path o.name) c.node.outputs =
      equal
      ∙ ap (streams P H here q.clock q.calls_before) own_expr.expr
      ∙ grouped_streams P H here q.clock q.calls_before r.right
      ∙ ap (streams P H here q.clock q.calls_before) r.is
      ∙ ap (λ m. flat_map (λ o. H.columns (Child here.path m 0) o.name) (outputs_of P here f))
      r.number
      ∙ ap (λ z. flat_map (λ o. H.columns (Child here.path n 0) o.name)
      (listed (λ (m : Node). m.outputs) z)) t.node
      ∙ ap (λ z. flat_map (λ o. H.columns z o.name) c.node.outputs) (sym t.path) in
      let of_right : data_types P here r.right ≡ Some t.outs =
      sym (ungrouped_types P here r.right) ∙ ap (data_types P here) r.is ∙ t.result in
      let types = left_types P accepted checked here call.stands lefts r.right t.outs
      (zip_first here.node.body _ (Equation lefts r.right, q) r.stands) of_right in
      let fits = (solved c call.callee_stands).variables in
      let outputs_fit = Every-first (Fits P H c) c.node.outputs c.node.locals
      (Every-second (Fits P H c) c.node.inputs (c.node.outputs ++ c.node.locals) fits) in
      results_same P H here c c.node.outputs lefts t.outs types.0
      (output_widths c call.callee_stands c.node.outputs outputs_fit) (own_width here call.stands)
      t.outputs types.1 types.2 results x g found

  -- ## Streams of flat elements

  module _ (F : List Stream)
      (same : (here : Instance) → In here (instances P) → (x : Name) → IsVariable here.node x →
      columns X F ((layout P).places here.path x) ≡ H.columns here.path x) where
    argument_places :
        (here : Instance) (k : Clock) (n : ℕ) (f : Name) (statics : List Static) (es : Exprs)
        (c : Instance) → IsCallOf P here k n f statics es c → (x : Name) (g : Name × Name) →
        found_in (given_inputs c.node.inputs es) x ≡ Some g → IsVariable here.node g.1 →
        columns X F ((layout P).places c.path x) ≡ columns X F ((layout P).places here.path g.1)
    argument_places here k n f statics es c call x g found variable =
        same c call.callee_stands x (names_first x c.node.inputs (c.node.outputs ++ c.node.locals)
        (input_named _ es x g found))
        ∙ of_argument here k n f _ es c call x g found variable ∙ sym
        (same here call.stands g.1 variable)

    result_places :
        (here : Instance) (k : Clock) (n : ℕ) (f : Name) (statics : List Static) (es : Exprs)
        (c : Instance) → IsCallOf P here k n f statics es c → (lefts : List Name) →
        IsRightOf P here n f statics es lefts → (x : Name) (g : Name × Name) →
        found_in (given_outputs c.node.outputs lefts) x ≡ Some g →
        columns X F ((layout P).places c.path x) ≡ columns X F ((layout P).places here.path g.1)
    result_places here k n f statics es c call lefts r x g found =
        let left = output_value _ lefts x g found in
        let variable = left_variable P accepted checked here call.stands _ g.1 (zip_first
        here.node.body _ (Equation lefts r.right, r.occurrence) r.stands) left in
        same c call.callee_stands x (names_second x _ _ (names_first x _ _ (output_named _ lefts x g
        found)))
        ∙ of_result here k n f _ es c call lefts r x g found ∙ sym
        (same here call.stands g.1 variable)

    -- a variable that serves for another in a clock has the streams of the other
    pub signs_history :
        (p : Path) (x : Name) →
        columns X F ((layout P).places p x) ≡ columns X F ((layout P).signs p x)
    signs_history p x = by (found_from P 0 (instances P) p) refl
      where
        by : (o : Option (ℕ × Instance)) → found_from P 0 (instances P) p ≡ o →
            columns X F ((layout P).places p x) ≡ columns X F ((layout P).signs p x)
        by None e =
            cc (places_nowhere P p x e, signs_nowhere P p x e)
        by (Some s) e =
            let c = found_some P 0 (instances P) p s.0 s.1 e in
            ap (λ q. columns X F ((layout P).places q x)) (sym c.1)
            ∙ serving_same P accepted checked (λ q y. columns X F ((layout P).places q y))
            argument_places result_places s.1.path s.1 (at_path P s.1 c.0) x
            ∙ sym (ap (columns X F) (signs_are P s.1 c.0 x))
            ∙ ap (λ q. columns X F ((layout P).signs q x)) c.1

    -- ## Where instances run

    -- a clock over the variables of an instance has the instants of its flat clock
    pub clock_instants :
        (here : Instance) → In here (instances P) →
        H.ticks here.path ≡ instants X F ((layout P).runs here.path) → (k : Clock) →
        IsOver (IsVariable here.node) k →
        presence H here.path k ≡ instants X F (flat_clock (layout P) here.path k)
    clock_instants here stands runs Base over = runs
    clock_instants here stands runs (On k x sign) over =
        ap₂ (λ bs xss. signed bs sign xss) (clock_instants here stands runs k over.0)
        (sym (same here stands x over.1) ∙ signs_history here.path x)
        ∙ signed_at (flat_clock (layout P) here.path k) sign ((layout P).signs here.path x)
      where
        signed_at : (c : FlatClock) (sign : Bool) (is : List ℕ) →
            signed (instants X F c) sign (columns X F is) ≡ instants X F (where_signed c sign is)
        signed_at c sign [] = refl
        signed_at c sign (i ∷ is) = refl

    -- the instances of a call run on its clock
    joined_runs :
        (here : Instance) (k : Clock) (n index : ℕ) (e : Expr) (s : Site) (count : ℕ)
        (c : Instance) → own_site e ≡ Some s → instance_count P here s.count ≡ Some count →
        index < count → callee_of P here s n index ≡ Some c → IsJoinedAt P H here k n e →
        H.ticks (Child here.path n index) ≡ presence H here.path (site_clock P k e)
    joined_runs here k n index (Call f statics es) s count c is counts lower gives joined =
        let site = same_Some (call_site f statics) s is in
        let one : Some 1 ≡ Some count =
        ap (λ (t : Site). instance_count P here t.count) site ∙ counts in
        let single = same_Some 1 count one in
        let first : index ≡ 0 = omega (arith, lower, single) in
        let node : node_named P f ≡ Some c.node =
        ap (λ (t : Site). node_named P t.callee) site ∙ callee_node P here s n index c gives in
        let call_joined = subst (λ z. IsCallJoined P H here k n es z) node joined in
        ap (λ i. H.ticks (Child here.path n i)) first ∙ call_joined.0
        ∙ ap (presence H here.path)
        (sym (ap (λ z. either_or (z >>= λ m. Some (base_clock k m)) k) node))
    joined_runs here k n index (Iterate it (Node_named f statics) m es) s count c is counts lower
        gives joined =
        let site = same_Some _ s is in
        let node : node_named P f ≡ Some c.node =
        ap (λ (t : Site). node_named P t.callee) site ∙ callee_node P here s n index c gives in
        let many : number P here m ≡ count =
        ap (λ (z : Option ℕ). either_or z 0)
        (ap (λ (t : Site). instance_count P here t.count) site ∙ counts) in
        let all = subst (λ z. IsIteratorJoined P H here k n it (number P here m) es z) node
        joined in
        let each_joined = subst (λ z. IsIteratorJoined P H here k n it z es (Some c.node)) many
        all in
        let at_index : 0 + index ≡ index = omega arith in
        ap (λ i. H.ticks (Child here.path n i)) (sym at_index)
        ∙ (Every-range (λ i.
        (H.ticks (Child here.path n i) ≡ presence H here.path k)
        × Receives H (Child here.path n i) c.node.inputs
        (iterator_inputs (λ j y. H.columns (Child here.path n j) y) count it c.node.outputs
        (all_streams P H here k (n + 1) es) i)) 0 count index each_joined lower).0
    joined_runs here k n index (Iterate it (Symbol op) m es) s count c is counts lower gives
        joined = none_is s is
    joined_runs here k n index _ s count c is counts lower gives joined = none_is s is

    -- each instance runs on its flat clock
    pub runs_history :
        (p : Path) (c : Instance) → instance_at P p ≡ Some c →
        H.ticks p ≡ instants X F ((layout P).runs p)
    runs_history Root c at = solves.root_runs
    runs_history Observer c at = solves.observer_runs
    runs_history (Child p call index) c at =
        let k = called P p call index c at in
        let here = k.caller in
        let up = in_instances P (instantiation_kept P accepted) p here k.above in
        let above = path_is P p here k.above in
        let o = site_occurs P checked here up call k.site k.stands in
        let e = o.occurrence.expr in
        let clock = site_clock P o.occurrence.clock e in
        let joined = Every-at (IsJoined P H here) (node_occurrences P here.node) o.occurrence
        (solved here up).calls o.stands in
        let own = subst (λ q. H.ticks q ≡ instants X F ((layout P).runs q)) (sym above)
        (runs_history p here k.above) in
        let fits = occurrence_fits P accepted checked here up o.occurrence o.stands in
        let over = site_over P accepted checked (IsVariable here.node) o.occurrence.clock e
        fits.over
        in
        let ticks = joined_runs here o.occurrence.clock call index e k.site k.count c o.site
        k.counts
        k.lower k.gives
        (subst (λ n. IsJoinedAt P H here o.occurrence.clock n e) o.number joined) in
        let site_is = call_of_site e k.site o.site in
        let runs = instance_runs P accepted checked here up o.occurrence o.stands site_is index
        clock
        refl in
        ap (λ q. H.ticks (Child q call index)) (sym above) ∙ ticks
        ∙ clock_instants here up own clock over
        ∙ ap (instants X F) (sym runs)
        ∙ ap₂ (λ q n. instants X F ((layout P).runs (Child q n index))) above o.number

-- Where the emitted copies hold, a variable that serves for another in a clock has the streams of
-- the other.

module _ (P : Program) (accepted : static_refusal P ≡ None) (checked : check_refusal P ≡ None)
    (X : Inputs) (F : List Stream) (cs : List FlatEquation)
    (holds : (q : FlatEquation) → In q cs → Holds X F q)
    (there : Every (HasCopies (layout P) P cs) (instances P)) where
  abbrev Y : Layout
  Y = layout P

  -- copies have the streams of what they copy
  copied_columns :
      (ts : List Target) (js : List ℕ) → length ts ≡ length js → Within Y P cs (copied ts js) →
      targeted X F ts ≡ columns X F js
  copied_columns [] [] e h = refl
  copied_columns [] (j ∷ js) e h = absurd (omega (arith, e))
  copied_columns (t ∷ ts) [] e h = absurd (omega (arith, e))
  copied_columns (t ∷ ts) (j ∷ js) e h =
      ap₂ (λ x xs. x ∷ xs) (holds _ h.0) (copied_columns ts js (omega (arith, e)) h.1)

  target_columns :
      (n : Node) (p : Path) (x : Name) →
      targeted X F (targets Y n p x) ≡ columns X F (Y.places p x)
  target_columns n p x =
      map-maps (λ (t : Target). column X F t.place)
      (λ i. record { place = i; clock = flat_clock Y p (declared_clock n x) }) (Y.places p x)

  module _ (here : Instance) (stands : In here (instances P)) where
    copies : HasCopies Y P cs here
    copies = Every-at (HasCopies Y P cs) (instances P) here there stands

    -- a variable has as many elements as it is wide
    own_count :
        (v : Declaration) (x : Name) → named (λ d. d.name) x (variables here.node) ≡ Some v →
        length (Y.places here.path x) ≡ width P here v
    own_count v x e =
        let i = find_in (λ (d : Declaration). bytes_eq d.name x) (variables here.node) v e in
        let wide = Every-at (λ d. length (Y.places here.path d.name) ≡ width P here d)
        (variables here.node) v (places_width P accepted here stands) i in
        rw (← (found_name x (variables here.node) v e)) wide

    module _ (c : Instance) (c_stands : In c (instances P)) where
      abbrev IsCounted : Declaration → Type 0
      IsCounted d = length (Y.places c.path d.name) ≡ width P c d

      output_counts : Every IsCounted c.node.outputs
      output_counts =
          Every-first IsCounted c.node.outputs c.node.locals
          (Every-second IsCounted c.node.inputs (c.node.outputs ++ c.node.locals)
          (places_width P accepted c c_stands))

      -- an input has the streams of a variable that is copied to it
      argument_same :
          (x y : Name) (v : Declaration) → named (λ d. d.name) y (variables here.node) ≡ Some v →
          IsArgument Y P here c cs c.node.inputs x v y →
          columns X F (Y.places c.path x) ≡ columns X F (Y.places here.path y)
      argument_same x y v is h =
          let wide = Every-at IsCounted c.node.inputs h.input (Every-first IsCounted c.node.inputs
          (c.node.outputs ++ c.node.locals) (places_width P accepted c c_stands)) h.among in
          let count : length (Y.places c.path x) ≡ length (Y.places here.path y) =
          ap (λ z. length (Y.places c.path z)) (sym h.name) ∙ wide ∙ h.wide
          ∙ sym (own_count v y is) in
          sym (target_columns c.node c.path x)
          ∙ copied_columns (targets Y c.node c.path x) (Y.places here.path y)
          (target_count Y c.node c.path x ∙ count) h.copies

      -- an output has the streams of its left variable
      result_same :
          (x y : Name) → IsResult Y P here c cs c.node.outputs x y →
          columns X F (Y.places c.path x) ≡ columns X F (Y.places here.path y)
      result_same x y h =
          let wide = Every-at IsCounted c.node.outputs h.output output_counts h.among in
          let count : length (Y.places c.path x) ≡ length (Y.places here.path y) =
          ap (λ z. length (Y.places c.path z)) (sym h.name) ∙ wide ∙ h.wide
          ∙ sym (own_count h.left y h.is_left) in
          sym (copied_columns (targets Y here.node here.path y) (Y.places c.path x)
          (target_count Y here.node here.path y ∙ sym count) h.copies)
          ∙ target_columns here.node here.path y

  streams_of_argument :
      (here : Instance) (k : Clock) (n : ℕ) (f : Name) (statics : List Static) (es : Exprs)
      (c : Instance) → IsCallOf P here k n f statics es c → (x : Name) (g : Name × Name) →
      found_in (given_inputs c.node.inputs es) x ≡ Some g → IsVariable here.node g.1 →
      columns X F (Y.places c.path x) ≡ columns X F (Y.places here.path g.1)
  streams_of_argument here k n f statics es c call x g found variable =
      let t = call_typed P accepted checked here call.stands k n f statics es call.occurs c
      call.gives
      in
      let v = named_there g.1 (variables here.node) variable in
      let own = Every-at (IsCopied Y P cs here) (node_occurrences P here.node)
      (at k n (Call f statics es)) (copies here call.stands).calls call.occurs in
      let received_in : Within Y P cs
      (received Y c.node (Child here.path n 0) c.node.inputs
      (emit_each Y P here (argument_clocks k c.node es) (n + 1) own.0 es).found) =
      subst (λ z. Within Y P cs (call_copies Y (Child here.path n 0) z
      (emit_each Y P here (call_clocks k z es) (n + 1) own.0 es).found)) t.node own.1 in
      argument_same here call.stands c call.callee_stands x g.1 v.0 v.1
      (argument_copied Y P here c cs
      (λ d. outer (base_clock k c.node) (given_inputs c.node.inputs es)
      (declared_clock c.node d.name)) c.node.inputs es (n + 1) own.0 t.ins t.args t.inputs
      t.arguments t.same x g found v.0 v.1
      (subst (λ q. Within Y P cs
      (received Y c.node q c.node.inputs
      (emit_each Y P here (argument_clocks k c.node es) (n + 1) own.0 es).found)) (sym t.path)
      received_in))

  streams_of_result :
      (here : Instance) (k : Clock) (n : ℕ) (f : Name) (statics : List Static) (es : Exprs)
      (c : Instance) → IsCallOf P here k n f statics es c → (lefts : List Name) →
      IsRightOf P here n f statics es lefts → (x : Name) (g : Name × Name) →
      found_in (given_outputs c.node.outputs lefts) x ≡ Some g →
      columns X F (Y.places c.path x) ≡ columns X F (Y.places here.path g.1)
  streams_of_result here k n f statics es c call lefts r x g found =
      let t = call_typed P accepted checked here call.stands k n f statics es call.occurs c
      call.gives
      in
      let q = r.occurrence in
      let own = Every-at (IsLeftCopied Y P cs here) (statements P here.node)
      (Equation lefts r.right, q) (copies here call.stands).lefts r.stands in
      let found_is : (emit Y P here q.clock q.calls_before own.0 r.right).found
      ≡ flat_map (λ o. Y.places c.path o.name) c.node.outputs =
      grouped_found Y P here q.clock q.calls_before own.0 r.right
      ∙ ap (λ z. (emit Y P here q.clock q.calls_before own.0 z).found) r.is
      ∙ call_found Y P here q.clock q.calls_before own.0 f statics es
      ∙ ap (λ m. flat_map (λ o. Y.places (Child here.path m 0) o.name) (outputs_of P here f))
      r.number
      ∙ ap (λ z. flat_map (λ o. Y.places (Child here.path n 0) o.name)
      (listed (λ (m : Node). m.outputs) z)) t.node
      ∙ ap (λ z. flat_map (λ o. Y.places z o.name) c.node.outputs) (sym t.path) in
      let of_right : data_types P here r.right ≡ Some t.outs =
      sym (ungrouped_types P here r.right) ∙ ap (data_types P here) r.is ∙ t.result in
      let types = left_types P accepted checked here call.stands lefts r.right t.outs
      (zip_first here.node.body _ (Equation lefts r.right, q) r.stands) of_right in
      result_same here call.stands c call.callee_stands x g.1 (result_copied Y P here c cs
      c.node.outputs lefts t.outs types.0 (output_counts here call.stands c call.callee_stands)
      (own_count here call.stands) t.outputs types.1 types.2 x g found (rw (← found_is) own.1))

  -- a variable that serves for another in a clock has the streams of the other
  pub signs_flat :
      (p : Path) (x : Name) →
      columns X F ((layout P).places p x) ≡ columns X F ((layout P).signs p x)
  signs_flat p x = by (found_from P 0 (instances P) p) refl
    where
      by : (o : Option (ℕ × Instance)) → found_from P 0 (instances P) p ≡ o →
          columns X F ((layout P).places p x) ≡ columns X F ((layout P).signs p x)
      by None e =
          ap (columns X F) (places_nowhere P p x e) ∙ sym (ap (columns X F) (signs_nowhere P p x e))
      by (Some s) e =
          let c = found_some P 0 (instances P) p s.0 s.1 e in
          ap (λ q. columns X F ((layout P).places q x)) (sym c.1)
          ∙ serving_same P accepted checked (λ q y. columns X F ((layout P).places q y)) streams_of_argument
          streams_of_result s.1.path s.1 (at_path P s.1 c.0) x
          ∙ sym (ap (columns X F) (signs_are P s.1 c.0 x))
          ∙ ap (λ q. columns X F ((layout P).signs q x)) c.1
