-- The widths of equations, of the inputs of calls, and of the operands that expansion finds for
-- them.
use Rattle.lb_expand.proofs.Words
use Words.{found_name, list_all, bytes_eq, Every, all_some, Name, Expr, Exprs, Nil, Cons}
use Words.{Declaration, Statement, Equation, Assertion, and_first, and_second, named, Program}
use Words.{Instance, Path, DataType, variables, width, variable_type, element_count, are_same}
use Words.{data_types, all_types, type_of_name, is_statement_typed, at, call_count, occurrences}
use Words.{occurrences_each, statement_clock, right_sides, Stream, History, argument_streams}
use Words.{first_of_all, zero, suc, ◌*◌, ◌/◌, ◌<◌, ◌&&◌, ◌++◌, take, drop, length-map}
use Words.{mul-div_cancel_left, same_Some, ArrayIterator, Map, Red, Fill, part, Static, Node_named}
use Words.{Call, Iterate, Node, heads_same, tails_same, Child, static_count, node_named, is_type}
use Words.{are_types, array_of, operator_types, iterator_types, argument_clocks, occurrences_in}
use Words.{all_streams, number, accumulated, iterator_inputs, truly, call_clocks, State, emit_all}
use Words.{emit_each, Layout, ◌≡◌, ℕ, ◌+◌, ◌≤◌, true, Option, Some, None, IfSome, List, [], ◌∷◌}
use Words.{map, length, flat_map, zip, refl, sym, ap, ap₂, ◌∙◌, subst, arith, length-append}
use Rattle.lb_check.{specs.Clocks.Clock, proofs.programs.OccurrenceParts.as_many_clocks}
use Rattle.lb_flat.proofs.lists.Lists.{Every-first, Every-second}
use Rattle.lb_expand.proofs.numbering.ReceivedInputs.{widths, AreFed, HasAccumulator}
use Rattle.lb_expand.proofs.solutions.{Placing.AreAsWide, Solving.{IsWide, occurrences_of}}
use Rattle.lb_expand.proofs.widths.FoundWidths.{all_as_many, each_as_many}
use Rattle.lb_expand.proofs.widths.TypeFacts.{elements_in, bound, are_counts, found_in, each}
use Rattle.lb_expand.proofs.widths.TypeFacts.{width_of, same_count, length-index}
use Rattle.lb_expand.proofs.widths.Widths.{AreVariablesWide, IsOccurrenceWide, only_one, wide}
use Rattle.lb_expand.proofs.widths.Widths.{called, Placed, placed, IsCalleeWide, number_is}
use Rattle.lb_expand.proofs.widths.Widths.{all_wide, outputs_at}
pub use Rattle.lb_expand.proofs.widths.TypeFacts.{fed_by_types}

-- In an instance that is typed, the left variables of each equation are as wide as its right side,
-- and the inputs of a call as its arguments.

-- ## Names

counts_same :
    (ss ts : List DataType) → map element_count ss ≡ map element_count ts →
    elements_in ss ≡ elements_in ts
counts_same [] [] e = refl
counts_same (s ∷ ss) (t ∷ ts) e =
    ap₂ (λ a b. a + b) (heads_same _ _ _ _ e) (counts_same ss ts (tails_same _ _ _ _ e))
counts_same _ _ e = cc

module _ (P : Program) (H : History) (here : Instance)
    (variables_wide : AreVariablesWide P H here here) where
  -- ## Left variables

  declared_wide :
      (x : Name) (t : DataType) → type_of_name P here x ≡ Some t →
      length (H.columns here.path x) ≡ element_count t
  declared_wide x t e =
      let b = bound (named (λ d. d.name) x (variables here.node)) _ t e in
      let known = subst (λ o. IfSome o (λ d.
      length (H.columns here.path d.name) ≡ width P here d)) b.is
      (found_in _ (λ d. bytes_eq d.name x) (variables here.node) variables_wide) in
      ap (λ y. length (H.columns here.path y))
      (sym (found_name x (variables here.node) b.value b.is))
      ∙ known ∙ width_of P here b.value t b.gives

  lefts_wide :
      (lefts : List Name) (ts : List DataType) →
      all_some (map (type_of_name P here) lefts) ≡ Some ts →
      length (flat_map (H.columns here.path) lefts) ≡ elements_in ts
  lefts_wide [] ts e = let none : [] ≡ ts = cc in ap elements_in none
  lefts_wide (x ∷ lefts) ts e =
      let h = each (type_of_name P here x) (map (type_of_name P here) lefts) ts e in
      omega (
        arith,
        length-append (H.columns here.path x) (flat_map (H.columns here.path) lefts),
        declared_wide x h.first h.is,
        lefts_wide lefts h.rest h.others,
      ) ∙ sym (ap elements_in h.all)

  -- ## Statements

  pub record Typed (e : Expr) (o : Option (List DataType)) : Type 0 where
    pub right : List DataType
    pub left : List DataType
    pub is_right : data_types P here e ≡ Some right
    pub is_left : o ≡ Some left
    pub same : elements_in right ≡ elements_in left

  pub typed_same :
      (e : Expr) (o p : Option (List DataType)) → data_types P here e ≡ p → are_same P p o ≡ true →
      Typed e o
  typed_same e (Some us) (Some ts) q h = record {
    right = ts;
    left = us;
    is_right = q;
    is_left = refl;
    same = counts_same ts us (are_counts ts us h);
  }
  typed_same e (Some us) None q h = cc
  typed_same e None None q h = cc
  typed_same e None (Some ts) q h = cc

  statement_wide :
      (k : Clock) (n : ℕ) (lefts : List Name) (e : Expr) →
      is_statement_typed P here (Equation lefts e) ≡ true →
      Every (IsOccurrenceWide P H here) (occurrences P here.node k n e) →
      IsWide P H here (Equation lefts e) (at k n e)
  statement_wide k n lefts e typed w =
      let t = typed_same e (all_some (map (type_of_name P here) lefts)) (data_types P here e) refl
      typed in
      lefts_wide lefts t.left t.is_left ∙ sym t.same
      ∙ sym (wide P H here variables_wide k n e t.right t.is_right w)

  -- the left variables of each equation are as wide as its right side
  pub body_wide :
      (n : ℕ) (body : List Statement) → list_all (is_statement_typed P here) body ≡ true →
      Every (IsOccurrenceWide P H here)
      (occurrences_of P here.node (right_sides P here.node n body)) →
      Every (λ s. IsWide P H here s.0 s.1) (zip body (right_sides P here.node n body))
  body_wide n [] typed w = tt
  body_wide n (Equation lefts e ∷ rest) typed w =
      let first = is_statement_typed P here (Equation lefts e) in
      let others = list_all (is_statement_typed P here) rest in (
        statement_wide _ n lefts e (and_first first others typed)
            (Every-first (IsOccurrenceWide P H here) _ _ w),
        body_wide (n + call_count e) rest (and_second first others typed)
            (Every-second (IsOccurrenceWide P H here) _ _ w),
      )
  body_wide n (Assertion e ∷ rest) typed w =
      let k = statement_clock P here.node (Assertion e) in (
        tt,
        body_wide (n + call_count e) rest
            (and_second (is_statement_typed P here (Assertion e))
            (list_all (is_statement_typed P here) rest) typed)
            (Every-second (IsOccurrenceWide P H here) _ _ w),
      )

  -- ## Arguments

  -- arguments that each stand on a clock of their own are as wide as their types
  pub arguments_wide :
      (ks : List Clock) (n : ℕ) (es : Exprs) (ts : List DataType) →
      all_types P here es ≡ Some ts → length ts ≤ length ks →
      Every (IsOccurrenceWide P H here) (occurrences_each P here.node ks n es) →
      map length (argument_streams P H here ks n es) ≡ map element_count ts
  arguments_wide ks n Nil ts h le w = let none : [] ≡ ts = cc in ap (map element_count) none
  arguments_wide [] n (Cons e es) ts h le w =
      let i = first_of_all P here e es ts h in
      absurd (omega (arith, le, ap length i.all))
  arguments_wide (k ∷ ks) n (Cons e es) ts h le w =
      let i = first_of_all P here e es ts h in
      ap₂ (λ x xs. x ∷ xs)
      (only_one P H here _ i.first
      (wide P H here variables_wide k n e (i.first ∷ []) i.is
      (Every-first (IsOccurrenceWide P H here) _ _ w)))
      (arguments_wide ks (n + call_count e) es i.rest i.others (omega (arith, le, ap length i.all))
      (Every-second (IsOccurrenceWide P H here) _ _ w)) ∙ sym (ap (map element_count) i.all)

-- the inputs of a node receive streams as wide as the types of its inputs
pub inputs_as_wide :
    (P : Program) (H : History) (c : Instance) (p : Path) (ds : List Declaration)
    (us : List DataType) (xsss : List (List Stream)) →
    Every (λ d. length (H.columns p d.name) ≡ width P c d) ds →
    all_some (map (variable_type P c) ds) ≡ Some us →
    map length xsss ≡ map element_count us → AreAsWide H p ds xsss
inputs_as_wide P H c p [] us [] w o e = tt
inputs_as_wide P H c p [] us (xs ∷ xsss) w o e =
    let none : [] ≡ us = cc in
    let lengths : length xs ∷ map length xsss ≡ [] = e ∙ ap (map element_count) (sym none) in
    absurd cc
inputs_as_wide P H c p (d ∷ ds) us [] w o e =
    let h = each (variable_type P c d) (map (variable_type P c) ds) us o in
    let lengths : [] ≡ element_count h.first ∷ map element_count h.rest =
    e ∙ ap (map element_count) h.all in
    absurd cc
inputs_as_wide P H c p (d ∷ ds) us (xs ∷ xsss) w o e =
    let h = each (variable_type P c d) (map (variable_type P c) ds) us o in
    let lengths = e ∙ ap (map element_count) h.all in (
      w.0 ∙ width_of P c d h.first h.is ∙ sym (heads_same _ _ _ _ lengths),
      inputs_as_wide P H c p ds h.rest xsss w.1 h.others (tails_same _ _ _ _ lengths),
    )

-- In a typed expression, the inputs of what is called are as wide as what they receive.

pub lengths_same :
    (ss ts : List DataType) → map element_count ss ≡ map element_count ts → length ss ≡ length ts
lengths_same ss ts e = cc (length-map ss element_count, length-map ts element_count)

-- the accumulator behind instance `j` is as wide as the type of the first output
first_output :
    (P : Program) (c : Instance) (outputs : ℕ → Name → List Stream) (n j : ℕ) → j < n →
    (ds : List Declaration) (u : DataType) (us : List DataType) (init : List Stream) →
    ((i : ℕ) → i < n → Every (λ d. length (outputs i d.name) ≡ width P c d) ds) →
    all_some (map (variable_type P c) ds) ≡ Some (u ∷ us) →
    length (accumulated outputs ds init (suc j)) ≡ element_count u
first_output P c outputs n j lt [] u us init w o = cc
first_output P c outputs n j lt (d ∷ ds) u us init w o =
    let h = each (variable_type P c d) (map (variable_type P c) ds) (u ∷ us) o in
    (w j lt).0 ∙ width_of P c d h.first h.is ∙ ap element_count (sym (heads_same _ _ _ _ h.all))

-- the accumulator that instance `i` receives is as wide as the type of the first output
accumulator_wide :
    (P : Program) (c : Instance) (outputs : ℕ → Name → List Stream) (n i : ℕ) → i < n →
    (ds : List Declaration) (u : DataType) (us : List DataType) (init : List Stream) →
    length init ≡ element_count u →
    ((i : ℕ) → i < n → Every (λ d. length (outputs i d.name) ≡ width P c d) ds) →
    all_some (map (variable_type P c) ds) ≡ Some (u ∷ us) →
    length (accumulated outputs ds init i) ≡ element_count u
accumulator_wide P c outputs n zero lt [] u us init e w o = e
accumulator_wide P c outputs n zero lt (d ∷ ds) u us init e w o = e
accumulator_wide P c outputs n (suc j) lt ds u us init e w o =
    first_output P c outputs n j (omega arith) ds u us init w o

-- part `i` of an array of `n` parts of `w` streams each has `w` streams
part_wide :
    (n i : ℕ) → i < n → (w : ℕ) (xs : List Stream) → length xs ≡ n * w →
    length (part n i xs) ≡ w
part_wide n i lt w xs e =
    let each_part : length xs / n ≡ w =
    ap (λ l. l / n) e ∙ mul-div_cancel_left w (omega (arith, lt)) in
    ap (λ q. length (take q (drop (q * i) xs))) each_part ∙ length-index w i n xs e lt

-- the parts of arrays of `n` parts each are as wide as these parts
parts_wide :
    (n i : ℕ) → i < n → (ws : List ℕ) (xsss : List (List Stream)) →
    map length xsss ≡ map (λ w. n * w) ws → map length (map (part n i) xsss) ≡ ws
parts_wide n i lt [] [] e = refl
parts_wide n i lt (w ∷ ws) (ys ∷ yss) e =
    ap₂ (λ a as'. a ∷ as') (part_wide n i lt w ys (heads_same _ _ _ _ e))
    (parts_wide n i lt ws yss (tails_same _ _ _ _ e))
parts_wide n i lt _ _ e = cc

-- ## Calls

module _ (P : Program) (H : History) (here : Instance)
    (variables_wide : AreVariablesWide P H here here) where
  -- the inputs of instance `i` of call `n` are as wide as their types
  pub inputs_at :
      (f : Name) (statics : List Static) (c : Instance) → Placed P here f statics c → (n i : ℕ) →
      IsCalleeWide P H here n f statics i →
      Every (λ d. length (H.columns (Child here.path n i) d.name) ≡ width P c d) c.node.inputs
  inputs_at f statics c p n i w =
      let all = w (record c { path = Child here.path n i }) (p.at n i) in
      Every-first _ c.node.inputs (c.node.outputs ++ c.node.locals) all

  pub call_as_wide :
      (k : Clock) (n : ℕ) (f : Name) (statics : List Static) (es : Exprs) (ts : List DataType) →
      data_types P here (Call f statics es) ≡ Some ts → IsCalleeWide P H here n f statics 0 →
      (callee : Node) → node_named P f ≡ Some callee →
      Every (IsOccurrenceWide P H here)
      (occurrences_each P here.node (argument_clocks k callee es) (n + 1) es) →
      AreAsWide H (Child here.path n 0) callee.inputs
      (argument_streams P H here (argument_clocks k callee es) (n + 1) es)
  call_as_wide k n f statics es ts e w callee named parts =
      let o = bound (operator_types P here (Node_named f statics)) _ ts e in
      let a = bound (all_types P here es) _ ts o.gives in
      let t = truly (are_types o.value.0 a.value) o.value.1 ts a.gives in
      let c = called P here f statics o.value o.is in
      let p = placed P here f statics c.callee c.is in
      let same : callee ≡ c.callee.node = same_Some _ _ (sym named ∙ p.node) in
      let counts = are_counts o.value.0 a.value t.holds in
      let ks = argument_clocks k callee es in
      let clocks : length ks ≡ length a.value =
      sym (ap (λ o. length (call_clocks k o es)) named)
      ∙ as_many_clocks P here k f statics es ts a.value o.value o.is t.holds in
      let widths = arguments_wide P H here variables_wide ks (n + 1) es a.value a.is
      (omega (arith, clocks)) parts in
      subst (λ (m : Node). AreAsWide H (Child here.path n 0) m.inputs
      (argument_streams P H here ks (n + 1) es)) (sym same)
      (inputs_as_wide P H c.callee (Child here.path n 0) c.callee.node.inputs o.value.0
      (argument_streams P H here ks (n + 1) es) (inputs_at f statics c.callee p n 0 w) c.inputs
      (widths ∙ sym counts))

  -- ## Iterators

  -- the streams that instance `i` receives have the types of its inputs
  inputs_of_instance :
      (c : Instance) (outputs : ℕ → Name → List Stream) (n i : ℕ) → i < n →
      (it : ArrayIterator) (ds : List Declaration) (ins outs args ts : List DataType)
      (xsss : List (List Stream)) →
      ((j : ℕ) → j < n → Every (λ d. length (outputs j d.name) ≡ width P c d) ds) →
      all_some (map (variable_type P c) ds) ≡ Some outs
      → iterator_types it n ins outs args ≡ Some ts →
      map length xsss ≡ map element_count args →
      map length (iterator_inputs outputs n it ds xsss i) ≡ map element_count ins
  inputs_of_instance c outputs n i lt Map ds ins outs args ts xsss w o e h =
      parts_wide n i lt _ xsss (h ∙ fed_by_types Map n ins outs args ts e)
  inputs_of_instance c outputs n i lt Red ds (a ∷ ins) (u ∷ []) (t ∷ args) ts (x ∷ xsss) w o e h =
      let wanted = bound (all_some (map (array_of n) ins)) _ ts e in
      let fit = truly (is_type a u && _) (u ∷ []) ts wanted.gives in
      let fed = fed_by_types Red n (a ∷ ins) (u ∷ []) (t ∷ args) ts e in
      let first : length x ≡ element_count u =
      heads_same _ _ _ _ h ∙ fed.0 ∙ same_count a u (and_first _ _ fit.holds) in
      cc (
        accumulator_wide P c outputs n i lt ds u [] x first w o,
        parts_wide n i lt _ xsss (tails_same _ _ _ _ h ∙ fed.1),
      )
  inputs_of_instance c outputs n i lt Fill ds (a ∷ []) (u ∷ (v ∷ us))
      (t ∷ []) ts (x ∷ xsss) w o e h =
      let arrays = bound (all_some (map (array_of n) (v ∷ us))) _ ts e in
      let fit = truly (is_type a u && _) (u ∷ arrays.value) ts arrays.gives in
      let fed = fed_by_types Fill n (a ∷ []) (u ∷ (v ∷ us)) (t ∷ []) ts e in
      let first : length x ≡ element_count u =
      heads_same _ _ _ _ h ∙ fed ∙ same_count a u (and_first _ _ fit.holds) in
      cc (accumulator_wide P c outputs n i lt ds u (v ∷ us) x first w o)
  inputs_of_instance c outputs n i lt _ ds _ _ _ ts _ w o e h = cc

  pub iterator_as_wide :
      (k : Clock) (n : ℕ) (it : ArrayIterator) (f : Name) (statics : List Static) (m : Static)
      (es : Exprs) (ts : List DataType) →
      data_types P here (Iterate it (Node_named f statics) m es) ≡ Some ts →
      ((i : ℕ) → i < number P here m → IsCalleeWide P H here n f statics i) →
      (callee : Node) → node_named P f ≡ Some callee →
      Every (IsOccurrenceWide P H here) (occurrences_in P here.node k (n + 1) es) →
      (i : ℕ) → i < number P here m →
      AreAsWide H (Child here.path n i) callee.inputs
      (iterator_inputs (λ i x. H.columns (Child here.path n i) x) (number P here m) it
      callee.outputs (all_streams P H here k (n + 1) es) i)
  iterator_as_wide k n it f statics m es ts e w callee named parts i lt =
      let size = bound (static_count P here m) _ ts e in
      let o = bound (operator_types P here (Node_named f statics)) _ ts size.gives in
      let a = bound (all_types P here es) _ ts o.gives in
      let types = ap (λ count. iterator_types it count o.value.0 o.value.1 a.value)
      (number_is P H here m size.value size.is) ∙ a.gives in
      let c = called P here f statics o.value o.is in
      let p = placed P here f statics c.callee c.is in
      let same : callee ≡ c.callee.node = same_Some _ _ (sym named ∙ p.node) in
      let outputs = λ (i : ℕ) (x : Name). H.columns (Child here.path n i) x in
      let args = all_streams P H here k (n + 1) es in
      let given = inputs_of_instance c.callee outputs (number P here m) i lt it
      c.callee.node.outputs o.value.0 o.value.1 a.value ts args
      (λ j less. outputs_at P H here f statics c.callee p n j (w j less)) c.outputs types
      (all_wide P H here variables_wide k (n + 1) es a.value a.is parts) in
      subst
      (λ (node : Node). AreAsWide H (Child here.path n i) node.inputs
      (iterator_inputs outputs (number P here m) it node.outputs args i)) (sym same)
      (inputs_as_wide P H c.callee (Child here.path n i) c.callee.node.inputs o.value.0
      (iterator_inputs outputs (number P here m) it c.callee.node.outputs args i)
      (inputs_at f statics c.callee p n i (w i lt)) c.inputs given)

-- In an expression with types, the elements that expansion finds for the operands of a call or an
-- iterator are as wide as the inputs that they are for.

no_types : (P : Program) (c : Instance) (t : DataType) (ts : List DataType) →
    all_some (map (variable_type P c) []) ≡ Some (t ∷ ts) → ⊥
no_types P c t ts e = cc

-- an iterator with an accumulator has an output for it
pub accumulator_by_types :
    (P : Program) (c : Instance) (it : ArrayIterator) (m : ℕ) (ds : List Declaration)
    (ins outs args ts : List DataType) → iterator_types it m ins outs args ≡ Some ts →
    all_some (map (variable_type P c) ds) ≡ Some outs → HasAccumulator it ds
accumulator_by_types P c Map m ds ins outs args ts e o = tt
accumulator_by_types P c Red m (d ∷ ds) ins outs args ts e o = tt
accumulator_by_types P c Fill m (d ∷ ds) ins outs args ts e o = tt
accumulator_by_types P c Red m [] (a ∷ ins) (u ∷ us) args ts e o = absurd (no_types P c u us o)
accumulator_by_types P c Fill m [] (a ∷ []) (u ∷ us) args ts e o = absurd (no_types P c u us o)
accumulator_by_types P c _ m _ _ _ args ts e o = cc

module _ (Y : Layout) (P : Program) (H : History) (here : Instance)
    (same : (p : Path) (x : Name) → length (Y.places p x) ≡ length (H.columns p x))
    (variables_wide : AreVariablesWide P H here here) where
  -- the width of each variable is the number of elements of its type
  widths_are :
      (c : Instance) (p : Path) (ds : List Declaration) (us : List DataType) →
      Every (λ d. length (H.columns p d.name) ≡ width P c d) ds →
      all_some (map (variable_type P c) ds) ≡ Some us → widths Y p ds ≡ map element_count us
  widths_are c p [] us w e = ap (map element_count) (same_Some _ _ e)
  widths_are c p (d ∷ ds) us w e =
      let h = each (variable_type P c d) (map (variable_type P c) ds) us e in
      ap₂ (λ n ns. n ∷ ns) (same p d.name ∙ w.0 ∙ width_of P c d h.first h.is)
      (widths_are c p ds h.rest w.1 h.others)
      ∙ sym (ap (map element_count) h.all)

  -- ## Calls

  -- a call with as many clocks as operands, whose operands are as wide as the inputs
  pub record AreCalled (k : Clock) (n : ℕ) (f : Name) (statics : List Static) (es : Exprs)
      (callee : Node) (s : State) : Type 0 where
    pub types : List DataType
    pub typed : all_types P here es ≡ Some types
    pub clocks : length (call_clocks k (node_named P f) es) ≡ length types
    pub wide :
        map length
        (emit_each Y P here (call_clocks k (node_named P f) es) (n + 1) s es).found
        ≡ widths Y (Child here.path n 0) callee.inputs

  pub called_wide :
      (k : Clock) (n : ℕ) (f : Name) (statics : List Static) (es : Exprs) (ts : List DataType) →
      data_types P here (Call f statics es) ≡ Some ts → IsCalleeWide P H here n f statics 0 →
      (callee : Node) → node_named P f ≡ Some callee →
      Every (IsOccurrenceWide P H here)
      (occurrences_each P here.node (call_clocks k (node_named P f) es) (n + 1) es) →
      (s : State) → AreCalled k n f statics es callee s
  called_wide k n f statics es ts e w callee named parts s =
      let o = bound (operator_types P here (Node_named f statics)) _ ts e in
      let a = bound (all_types P here es) _ ts o.gives in
      let t = truly (are_types o.value.0 a.value) o.value.1 ts a.gives in
      let c = called P here f statics o.value o.is in
      let p = placed P here f statics c.callee c.is in
      let one : c.callee.node ≡ callee = same_Some _ _ (sym p.node ∙ named) in
      let clocks = as_many_clocks P here k f statics es ts a.value o.value o.is t.holds in
      record {
        types = a.value;
        typed = a.is;
        clocks = clocks;
        wide = each_as_many Y P H here same _ (n + 1) s es
            ∙ arguments_wide P H here variables_wide _ (n + 1) es a.value a.is
            (omega (arith, clocks)) parts ∙ sym (are_counts o.value.0 a.value t.holds)
            ∙ sym
            (widths_are c.callee (Child here.path n 0) c.callee.node.inputs o.value.0
            (inputs_at P H here variables_wide f statics c.callee p n 0 w) c.inputs)
            ∙ ap (λ (m : Node). widths Y (Child here.path n 0) m.inputs) one;
      }

  -- ## Iterators

  pub record AreIterated (k : Clock) (n : ℕ) (it : ArrayIterator) (m : Static) (es : Exprs)
      (callee : Node) (s : State) : Type 0 where
    pub fed :
        (i : ℕ) → i < number P here m →
        AreFed it (number P here m) (widths Y (Child here.path n i) callee.inputs)
        (map length (emit_all Y P here k (n + 1) s es).found)
    pub accumulator : HasAccumulator it callee.outputs

  pub iterated_wide :
      (k : Clock) (n : ℕ) (it : ArrayIterator) (f : Name) (statics : List Static) (m : Static)
      (es : Exprs) (ts : List DataType) →
      data_types P here (Iterate it (Node_named f statics) m es) ≡ Some ts →
      ((i : ℕ) → i < number P here m → IsCalleeWide P H here n f statics i) →
      (callee : Node) → node_named P f ≡ Some callee →
      Every (IsOccurrenceWide P H here) (occurrences_in P here.node k (n + 1) es) →
      (s : State) → AreIterated k n it m es callee s
  iterated_wide k n it f statics m es ts e w callee named parts s =
      let size = bound (static_count P here m) _ ts e in
      let o = bound (operator_types P here (Node_named f statics)) _ ts size.gives in
      let a = bound (all_types P here es) _ ts o.gives in
      let types =
      ap (λ count. iterator_types it count o.value.0 o.value.1 a.value)
      (number_is P H here m size.value size.is) ∙ a.gives in
      let c = called P here f statics o.value o.is in
      let p = placed P here f statics c.callee c.is in
      let one : c.callee.node ≡ callee = same_Some _ _ (sym p.node ∙ named) in
      let widths_found = all_as_many Y P H here same k (n + 1) s es
      ∙ all_wide P H here variables_wide k (n + 1) es a.value a.is parts in
      let by_types = fed_by_types it (number P here m) o.value.0 o.value.1 a.value ts types in
      record {
        fed = λ i lt.
            let own = widths_are c.callee (Child here.path n i) c.callee.node.inputs o.value.0
            (inputs_at P H here variables_wide f statics c.callee p n i (w i lt)) c.inputs in
            subst (λ (d : Node). AreFed it (number P here m)
            (widths Y (Child here.path n i) d.inputs)
            (map length (emit_all Y P here k (n + 1) s es).found)) one
            (subst (λ ls. AreFed it (number P here m)
            (widths Y (Child here.path n i) c.callee.node.inputs) ls) (sym widths_found)
            (subst (λ ws. AreFed it (number P here m) ws (map element_count a.value)) (sym own)
            by_types));
        accumulator = subst (λ (d : Node). HasAccumulator it d.outputs) one
            (accumulator_by_types P c.callee it (number P here m) c.callee.node.outputs o.value.0
            o.value.1 a.value ts types c.outputs);
      }
