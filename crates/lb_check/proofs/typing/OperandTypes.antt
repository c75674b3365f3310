-- The types of the operands and of the callee of an expression, from the types of its results.
use Rattle.lb_check.proofs.Words
use Words.{arith, list_all, zip, same_Some, ◌>>=◌, all_some, where_true, Name, Static, Node_named}
use Words.{Expr, Exprs, Call, Cons, Declaration, Node, Program, Instance, Child, call_site}
use Words.{callee_of, node_named, static_value, DataType, truth, is_type, are_types, input_types}
use Words.{output_types, variable_type, data_types, all_types, only, singly, from_one, from_two}
use Words.{from_truths, operator_types, ◌≡◌, ℕ, Bool, true, false, ℤ, Option, Some, None}
use Words.{option_map, List, [], ◌∷◌, map, refl, sym, ap, ap₂, ◌∙◌}

-- ## Inversions

pub record Bound {A B : Type 0} (o : Option A) (f : A → Option B) (y : B) : Type 0 where
  pub value : A
  pub is : o ≡ Some value
  pub gives : f value ≡ Some y

pub bound :
    {A B : Type 0} (o : Option A) (f : A → Option B) (y : B) → (o >>= f) ≡ Some y → Bound o f y
bound None f y e = absurd cc
bound (Some x) f y e = record { value = x; is = refl; gives = e }

pub single : (ts : List DataType) (t : DataType) → only ts ≡ Some t → ts ≡ t ∷ []
single (s ∷ []) t e = cc
single _ t e = absurd cc

pub record Single (o : Option DataType) (ts : List DataType) : Type 0 where
  pub data_type : DataType
  pub is : o ≡ Some data_type
  pub all : ts ≡ data_type ∷ []

pub alone : (o : Option DataType) (ts : List DataType) → singly o ≡ Some ts → Single o ts
alone None ts e = absurd cc
alone (Some t) ts e = record { data_type = t; is = refl; all = sym (same_Some _ _ e) }

pub record Truly {A : Type 0} (b : Bool) (x y : A) : Type 0 where
  pub holds : b ≡ true
  pub same : x ≡ y

pub truly : {A : Type 0} (b : Bool) (x y : A) → where_true b x ≡ Some y → Truly b x y
truly true x y e = record { holds = refl; same = same_Some x y e }
truly false x y e = absurd cc

-- a result from one operand with one result
pub record One (operand : Option (List DataType)) (f : DataType → Option DataType)
    (ts : List DataType) :
    Type 0 where
  pub data_type : DataType
  pub result : DataType
  pub is : operand ≡ Some (data_type ∷ [])
  pub gives : f data_type ≡ Some result
  pub all : ts ≡ result ∷ []

pub one :
    (o : Option (List DataType)) (f : DataType → Option DataType) (ts : List DataType) →
    from_one o f ≡ Some ts → One o f ts
one o f ts e =
    let b = bound (o >>= only) _ ts e in
    let a = bound o only b.value b.is in
    let r = alone (f b.value) ts b.gives in
    record {
      data_type = b.value;
      result = r.data_type;
      is = a.is ∙ ap Some (single a.value b.value a.gives);
      gives = r.is;
      all = r.all;
    }

-- a result from two operands with one result each
pub record Two (left right : Option (List DataType)) (f : DataType → DataType → Option DataType)
    (ts : List DataType) : Type 0 where
  pub first : DataType
  pub second : DataType
  pub result : DataType
  pub is_first : left ≡ Some (first ∷ [])
  pub is_second : right ≡ Some (second ∷ [])
  pub gives : f first second ≡ Some result
  pub all : ts ≡ result ∷ []

pub two :
    (o p : Option (List DataType)) (f : DataType → DataType → Option DataType) (ts : List DataType)
    →
    from_two o p f ≡ Some ts → Two o p f ts
two o p f ts e =
    let b = bound (o >>= only) _ ts e in
    let a = bound o only b.value b.is in
    let d = bound (p >>= only) _ ts b.gives in
    let c = bound p only d.value d.is in
    let r = alone (f b.value d.value) ts d.gives in
    record {
      first = b.value;
      second = d.value;
      result = r.data_type;
      is_first = a.is ∙ ap Some (single a.value b.value a.gives);
      is_second = c.is ∙ ap Some (single c.value d.value c.gives);
      gives = r.is;
      all = r.all;
    }

pub record Truths (o : Option (List DataType)) (ts : List DataType) : Type 0 where
  pub data_types : List DataType
  pub is : o ≡ Some data_types
  pub truths : list_all (is_type truth) data_types ≡ true
  pub all : ts ≡ truth ∷ []

pub from_true :
    (o : Option (List DataType)) (ts : List DataType) → from_truths o ≡ Some ts → Truths o ts
from_true o ts e =
    let b = bound o _ ts e in
    let t = truly (list_all (is_type truth) b.value) (truth ∷ []) ts b.gives in
    record { data_types = b.value; is = b.is; truths = t.holds; all = sym t.same }

-- the first of some types that are all there, and the other ones
pub record First (o : Option DataType) (os : List (Option DataType)) (ts : List DataType) : Type 0
  where
    pub first : DataType
    pub rest : List DataType
    pub is : o ≡ Some first
    pub others : all_some os ≡ Some rest
    pub all : ts ≡ first ∷ rest

pub first_of : (o : Option DataType) (os : List (Option DataType)) (ts : List DataType) →
    all_some (o ∷ os) ≡ Some ts → First o os ts
first_of None os ts e = absurd cc
first_of (Some t) os ts e = grind arith

-- ## Callees

-- the instance of a call, and the types of its inputs and outputs
pub record Called (P : Program) (here : Instance) (f : Name) (statics : List Static)
    (types : List DataType × List DataType) : Type 0 where
  pub callee : Instance
  pub is : callee_of P here (call_site f statics) 0 0 ≡ Some callee
  pub inputs : input_types P callee ≡ Some types.0
  pub outputs : output_types P callee ≡ Some types.1

pub called :
    (P : Program) (here : Instance) (f : Name) (statics : List Static)
    (types : List DataType × List DataType) →
    operator_types P here (Node_named f statics) ≡ Some types → Called P here f statics types
called P here f statics types e =
    let c = bound (callee_of P here (call_site f statics) 0 0) _ types e in
    let ins = bound (input_types P c.value) _ types c.gives in
    let outs = bound (output_types P c.value) _ types ins.gives in
    let same : (ins.value, outs.value) ≡ types = same_Some _ _ outs.gives in
    record {
      callee = c.value;
      is = c.is;
      inputs = ins.is ∙ ap (λ (t : List DataType × List DataType). Some t.0) same;
      outputs = outs.is ∙ ap (λ (t : List DataType × List DataType). Some t.1) same;
    }

-- the instance of a call is the same at each number and index, but for its path
pub record Placed (P : Program) (here : Instance) (f : Name) (statics : List Static)
    (c : Instance) : Type 0 where
  pub node : node_named P f ≡ Some c.node
  pub at : (n i : ℕ) →
      callee_of P here (call_site f statics) n i
      ≡ Some (record c { path = Child here.path n i })

pub placed :
    (P : Program) (here : Instance) (f : Name) (statics : List Static) (c : Instance) →
    callee_of P here (call_site f statics) 0 0 ≡ Some c → Placed P here f statics c
placed P here f statics c e =
    let n = bound (node_named P f) _ c e in
    let values = all_some (map (static_value P here) statics) in
    let v = bound values _ c n.gives in
    let same = same_Some _ _ v.gives in
    record {
      node = n.is ∙ ap (λ (d : Instance). Some d.node) same;
      at = λ call index.
          ap₂ (λ (o : Option Node) (vs : Option (List ℤ)).
          o >>= λ node. vs >>= λ values.
          Some (record {
            path = Child here.path call index;
            node = node;
            values = zip node.parameters values;
          })) n.is v.is
          ∙ ap (λ (d : Instance). Some (record d { path = Child here.path call index })) same;
    }

module _ (P : Program) (here : Instance) where
  -- the types of some operands, and the type of the first one
  pub record FirstOfAll (e : Expr) (es : Exprs) (ts : List DataType) : Type 0 where
    pub first : DataType
    pub rest : List DataType
    pub is : data_types P here e ≡ Some (first ∷ [])
    pub others : all_types P here es ≡ Some rest
    pub all : ts ≡ first ∷ rest

  pub first_of_all :
      (e : Expr) (es : Exprs) (ts : List DataType) → all_types P here (Cons e es) ≡ Some ts →
      FirstOfAll e es ts
  first_of_all e es ts h =
      let b = bound (data_types P here e >>= only) _ ts h in
      let a = bound (data_types P here e) only b.value b.is in
      let r = bound (all_types P here es) _ ts b.gives in
      record {
        first = b.value;
        rest = r.value;
        is = a.is ∙ ap Some (single a.value b.value a.gives);
        others = r.is;
        all = sym (same_Some _ _ r.gives);
      }

-- ## One result

one_of :
    {A B : Type 0} (f : A → Option B) (xs : List A) (y : B) →
    all_some (map f xs) ≡ Some (y ∷ []) → (x : A) × (xs ≡ x ∷ [])
one_of f [] y e = absurd cc
one_of f (x ∷ []) y e = (x, refl)
one_of {B = B} f (x ∷ (z ∷ xs)) y e = absurd (by (f x) (f z) (map f xs) e)
  where
    more : (a b : B) (o : Option (List B)) →
        option_map (λ l. a ∷ l) (option_map (λ l. b ∷ l) o) ≡ Some (y ∷ []) → ⊥
    more a b None e = cc
    more a b (Some l) e = cc

    by : (o p : Option B) (rest : List (Option B)) → all_some (o ∷ (p ∷ rest)) ≡ Some (y ∷ []) → ⊥
    by None p rest e = cc
    by (Some a) None rest e = cc
    by (Some a) (Some b) rest e = more a b (all_some rest) e

-- a call with one result calls a node with one output
pub record OneOutput (P : Program) (here : Instance) (f : Name) (statics : List Static) : Type 0
  where
    pub callee : Instance
    pub is : callee_of P here (call_site f statics) 0 0 ≡ Some callee
    pub output : Declaration
    pub one : callee.node.outputs ≡ output ∷ []

pub one_output :
    (P : Program) (here : Instance) (f : Name) (statics : List Static) (es : Exprs) (t : DataType) →
    data_types P here (Call f statics es) ≡ Some (t ∷ []) → OneOutput P here f statics
one_output P here f statics es t e =
    let o = bound (operator_types P here (Node_named f statics)) _ (t ∷ []) e in
    let a = bound (all_types P here es) _ (t ∷ []) o.gives in
    let r = truly (are_types o.value.0 a.value) o.value.1 (t ∷ []) a.gives in
    let c = called P here f statics o.value o.is in
    let d = one_of (variable_type P c.callee) c.callee.node.outputs t
    (c.outputs ∙ ap (λ (ts : List DataType). Some ts) r.same) in
    record { callee = c.callee; is = c.is; output = d.0; one = d.1 }
