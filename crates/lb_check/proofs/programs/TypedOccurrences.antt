-- The types and clocks of occurrences in the text of an instance of an accepted program.
pub use Rattle.lb_check.proofs.programs.Operands.{HasTypes}
use Rattle.lb_check.proofs.Words
use Words.{Bool, cond, false, inl, inr, ◌≡◌, true, Some, None, List, Every, In, Name, Node}
use Words.{DataType, variables, Program, Instance, node_sites, instances, static_refusal}
use Words.{variable_names, in_map, check_refusal, are_declared_clocks, Occurrence, node_occurrences}
use Words.{data_types, ℕ, Option, [], ◌∷◌, map, refl, ap, sym, ◌∙◌, subst, bytes_eq}
use Words.{bytes_eq-Decides, same_Some, all_some, Static, Node_named, Expr, Group, Call, Exprs}
use Words.{Declaration, Equation, all_in, and_second, are_types, variable_type, Child, call_site}
use Words.{callee_of, node_named, are_same, named, found_passes, Clock, ungrouped, at, type_of_name}
use Words.{is_statement_typed, all_types, operator_types}
use Rattle.lb_check.proofs.{clocking.NamedClocks.{OfCalled, Sited, IsOver}, lists.Members.Every-at}
use Rattle.lb_check.proofs.{lists.Members.{Every-from, Every-map}, programs.AcceptedRules.typed}
use Rattle.lb_check.proofs.programs.AcceptedRules.{clocked, all_declared, calls_have}
use Rattle.lb_check.proofs.{programs.StandingParts.{Stands, node_stands}, typing.OperandTypes.bound}
use Rattle.lb_check.proofs.typing.OperandTypes.{truly, called, placed}

-- In an accepted program each occurrence in the text of an instance has types, and its clock waits
-- for variables of the instance alone.

-- an occurrence has types, and its clock waits only for names of which `V` holds
pub record IsTypedOver (P : Program) (here : Instance) (V : Name → Type 0) (o : Occurrence) :
    Type 0 where
  pub types : List DataType
  pub are : data_types P here o.expr ≡ Some types
  pub over : IsOver V o.clock

-- a variable of a node
abbrev pub IsVariable : Node → Name → Type 0
IsVariable n x = In x (variable_names n)

pub own_variables : (n : Node) → Every (λ d. IsVariable n d.name) (variables n)
own_variables n =
    Every-from (λ d. IsVariable n d.name) (variables n)
    (λ d i. in_map (λ d. d.name) (variables n) d i)

module _ (P : Program) (accepted : static_refusal P ≡ None) (checked : check_refusal P ≡ None)
    (here : Instance) (stands : In here (instances P)) where
  -- the callee keeps the rules of declared clocks
  abbrev Declares : Instance → Type 0
  Declares c = are_declared_clocks c.node ≡ true

  abbrev Own : Name → Type 0
  Own x = IsVariable here.node x

  -- each occurrence in the text of an instance has types, and a clock over its variables
  pub occurrences_fit :
      Every (IsTypedOver P here (IsVariable here.node)) (node_occurrences P here.node)
  occurrences_fit =
      let sited = Every-at (λ here. Sited (OfCalled P here Declares) 0 (node_sites here.node))
      (instances P) here (calls_have P accepted Declares (all_declared P checked)) stands in
      Every-map (Stands P here Own (own_variables here.node) Declares (λ c e. e))
      (IsTypedOver P here Own)
      (λ o h. record { types = h.types; are = h.typed; over = h.over })
      (node_occurrences P here.node)
      (node_stands P here Own (own_variables here.node) Declares (λ c e. e)
      (typed P checked here stands) (clocked P checked here stands) sited).0

  -- one occurrence in the text of an instance has types, and a clock over its variables
  pub occurrence_fits :
      (o : Occurrence) → In o (node_occurrences P here.node) →
      IsTypedOver P here (IsVariable here.node) o
  occurrence_fits o i =
      Every-at (IsTypedOver P here (IsVariable here.node)) (node_occurrences P here.node) o
      occurrences_fit i

-- Each expression in the text of each instance of an accepted program has types.

-- each occurrence of each instance has types
pub occurrences_typed :
    (P : Program) → static_refusal P ≡ None → check_refusal P ≡ None →
    Every (λ here. Every (HasTypes P here) (node_occurrences P here.node)) (instances P)
occurrences_typed P elaborated checked =
    Every-from (λ here. Every (HasTypes P here) (node_occurrences P here.node)) (instances P)
    (λ here i.
    Every-map (IsTypedOver P here (IsVariable here.node)) (HasTypes P here)
    (λ o h. record { types = h.types; typed = h.are }) (node_occurrences P here.node)
    (occurrences_fit P elaborated checked here i))

-- The types of a call in the text of an instance of an accepted program, and of an equation whose
-- whole right side it is.

-- ## Names

-- a name among the names of declarations is found
pub named_there : (x : Name) (ds : List Declaration) → In x (map (λ d. d.name) ds) →
    (d : Declaration) × (named (λ d. d.name) x ds ≡ Some d)
named_there x [] i = absurd i
named_there x (d ∷ ds) i = by (bytes_eq d.name x) refl i (named_there x ds)
  where
    by : (b : Bool) → bytes_eq d.name x ≡ b → In x (map (λ d. d.name) (d ∷ ds)) →
        (In x (map (λ d. d.name) ds) → (e : Declaration) × (named (λ d. d.name) x ds ≡ Some e)) →
        (e : Declaration) × (cond b (Some d) (named (λ d. d.name) x ds) ≡ Some e)
    by true is j later = (d, refl)
    by false is (inl same) later =
        let own = (bytes_eq-Decides d.name x).1 same in
        let both : true ≡ false = sym own ∙ is in
        absurd cc
    by false is (inr j) later = later j

-- a declaration that is found by a name has this name
pub found_name : (x : Name) (ds : List Declaration) (d : Declaration) →
    named (λ d. d.name) x ds ≡ Some d → d.name ≡ x
found_name x ds d e =
    (bytes_eq-Decides d.name x).0
    (found_passes (λ (c : Declaration). bytes_eq c.name x) ds d e)

-- ## Calls

-- the types of a call and of its callee
pub record IsTypedCall (P : Program) (here : Instance) (n : ℕ) (f : Name) (statics : List Static)
    (es : Exprs) (c : Instance) : Type 0 where
  pub ins : List DataType
  pub outs : List DataType
  pub args : List DataType
  pub inputs : all_some (map (variable_type P c) c.node.inputs) ≡ Some ins
  pub outputs : all_some (map (variable_type P c) c.node.outputs) ≡ Some outs
  pub arguments : all_types P here es ≡ Some args
  pub same : are_types ins args ≡ true
  pub result : data_types P here (Call f statics es) ≡ Some outs
  pub path : c.path ≡ Child here.path n 0
  pub node : node_named P f ≡ Some c.node

-- an expression has the same types without its parentheses
pub ungrouped_types : (P : Program) (here : Instance) (e : Expr) →
    data_types P here (ungrouped e) ≡ data_types P here e
ungrouped_types P here (Group a) = ungrouped_types P here a
ungrouped_types P here e = refl

-- types that are compared and the same are there
compared :
    (P : Program) (o p : Option (List DataType)) (ts : List DataType) → o ≡ Some ts →
    are_same P o p ≡ true → (us : List DataType) × (p ≡ Some us) × (are_types ts us ≡ true)
compared P (Some ss) (Some us) ts is e =
    (us, refl, subst (λ xs. are_types xs us ≡ true) (same_Some ss ts is) e)
compared P _ _ ts is e = absurd cc

module _ (P : Program) (accepted : static_refusal P ≡ None) (checked : check_refusal P ≡ None)
    (here : Instance) (stands : In here (instances P)) where
  -- each call has types
  pub call_typed :
      (k : Clock) (n : ℕ) (f : Name) (statics : List Static) (es : Exprs) →
      In (at k n (Call f statics es)) (node_occurrences P here.node) → (c : Instance) →
      callee_of P here (call_site f statics) n 0 ≡ Some c →
      IsTypedCall P here n f statics es c
  call_typed k n f statics es i c gives =
      let fits = occurrence_fits P accepted checked here stands (at k n (Call f statics es)) i in
      let t = bound (operator_types P here (Node_named f statics)) _ fits.types fits.are in
      let a = bound (all_types P here es) _ fits.types t.gives in
      let r = truly (are_types t.value.0 a.value) t.value.1 fits.types a.gives in
      let d = called P here f statics t.value t.is in
      let p = placed P here f statics d.callee d.is in
      let it : record d.callee { path = Child here.path n 0 } ≡ c =
      same_Some _ c (sym (p.at n 0) ∙ gives) in
      record {
        ins = t.value.0;
        outs = t.value.1;
        args = a.value;
        inputs =
            subst (λ (z : Instance).
            all_some (map (variable_type P z) z.node.inputs) ≡ Some t.value.0) it d.inputs;
        outputs =
            subst (λ (z : Instance).
            all_some (map (variable_type P z) z.node.outputs) ≡ Some t.value.1) it d.outputs;
        arguments = a.is;
        same = r.holds;
        result = fits.are ∙ ap (λ ts. Some ts) (sym r.same);
        path = ap (λ (z : Instance). z.path) (sym it);
        node = p.node ∙ ap (λ (z : Instance). Some z.node) it;
      }

  -- the left variables of an equation have the types of its right side
  pub left_types :
      (lefts : List Name) (e : Expr) (ts : List DataType) → In (Equation lefts e) here.node.body →
      data_types P here e ≡ Some ts →
      (us : List DataType)
      × (all_some (map (type_of_name P here) lefts) ≡ Some us) × (are_types ts us ≡ true)
  left_types lefts e ts i is =
      compared P (data_types P here e) (all_some (map (type_of_name P here) lefts)) ts is
      (all_in (is_statement_typed P here) here.node.body (Equation lefts e)
      (and_second _ _ (typed P checked here stands)) i)
