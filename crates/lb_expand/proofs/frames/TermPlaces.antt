-- What the numbers in the text of a node stand for, and the places of its terms and calls.
use Rattle.lb_expand.proofs.Words
use Words.{◌≡◌, ◌<◌, ℕ, true, Bool, Some, None, List, length, ◌∙◌, slice_get, either_or, Name}
use Words.{Named, Whole, Declaration, Node, DataType, variables, Program, Instance, Child, Site}
use Words.{name_value, node_named, node_sites, Texts, name_at, static_at, is_variable, is_static}
use Words.{is_no_variable, named_value, named, StaticId, VariableId, On, declared_clock, Scalar}
use Words.{or_fault, number, data_types, count_of, Callee, Context, Layout, flat_clock, suc, ◌+◌}
use Words.{[], ◌∷◌, ◌++◌, refl, ap, ap₂, subst, arith, Every, Occurrence, State, Emitted, Cursor}
use Words.{PlacedEmitted, next_term, next_call, placed, length-append}
use Rattle.lb_static.specs.ResolvedTerms.{Counts}

-- What the numbers in the text of a node stand for is what an instance of the node gives them.

-- call `c` of an instance: its callee, how often it is iterated, and its elements and clocks
pub record IsCallContext (Y : Layout) (P : Program) (here : Instance) (ctx : Context) (c : ℕ)
    (site : Site) : Type 0 where
  pub callee : Node
  pub parameters : Callee
  pub found : ctx.callee c ≡ Some parameters
  pub named : node_named P site.callee ≡ Some callee
  pub inputs : parameters.inputs ≡ length callee.inputs
  pub outputs : parameters.outputs ≡ length callee.outputs
  pub repeats : ctx.repeats c ≡ number P here (either_or site.count (Whole 0))
  pub child :
      (i x : ℕ) (d : Declaration) → slice_get (variables callee) x ≡ Some d →
      ctx.child c i x ≡ Y.places (Child here.path c i) d.name
  pub input :
      (i x : ℕ) (d : Declaration) → i < count_of P here site →
      slice_get callee.inputs x ≡ Some d →
      ctx.input c i x ≡ flat_clock Y (Child here.path c i) (declared_clock callee d.name)

-- a name that is a variable of an instance
pub record IsDeclared (here : Instance) (x : Name) : Type 0 where
  pub declaration : Declaration
  pub found : named (λ d. d.name) x (variables here.node) ≡ Some declaration
  pub name : declaration.name ≡ x

-- static `i` is a name that stands for a value, as an operand
pub record IsValue (P : Program) (here : Instance) (ctx : Context) (texts : Texts) (i : StaticId) :
    Type 0 where
  pub name : Name
  pub is : static_at texts.statics i ≡ Named name
  pub unfound : named (λ d. d.name) name (variables here.node) ≡ None
  pub value : ctx.value i.0 ≡ or_fault (name_value P here name)

-- a context: the numbers of a node with these texts stand for what the instance gives them
pub record IsContext (Y : Layout) (P : Program) (here : Instance) (texts : Texts) (n : Counts)
    (ctx : Context) : Type 0 where
  pub named :
      (x : VariableId) → is_variable n x ≡ true → IsDeclared here (name_at texts.variables x)
  pub places :
      (x : VariableId) → is_variable n x ≡ true →
      ctx.places x.0 ≡ Y.places here.path (name_at texts.variables x)
  pub declared :
      (x : VariableId) → is_variable n x ≡ true →
      ctx.declared x.0
      ≡ flat_clock Y here.path (declared_clock here.node (name_at texts.variables x))
  pub sampled :
      (x : VariableId) (sign : Bool) → is_variable n x ≡ true →
      ctx.sampled x.0 sign
      ≡ flat_clock Y here.path (On (declared_clock here.node (name_at texts.variables x))
      (name_at texts.variables x) sign)
  pub value :
      (i : StaticId) → is_static n i ≡ true →
      is_no_variable texts.variables (static_at texts.statics i) ≡ true →
      (ts : List DataType) →
      data_types P here (named_value (static_at texts.statics i)) ≡ Some ts →
      IsValue P here ctx texts i
  pub count :
      (i : StaticId) → is_static n i ≡ true →
      ctx.count i.0 ≡ number P here (static_at texts.statics i)
  pub call :
      (c : ℕ) (site : Site) → slice_get (node_sites here.node) c ≡ Some site →
      IsCallContext Y P here ctx c site

-- a context stays one with other static values, where they agree on each operand that has types
pub with_values :
    (Y : Layout) (P : Program) (here : Instance) (texts : Texts) (n : Counts) (ctx : Context)
    (value : ℕ → Scalar) → IsContext Y P here texts n ctx →
    ((i : StaticId) → is_static n i ≡ true →
    is_no_variable texts.variables (static_at texts.statics i) ≡ true → (ts : List DataType) →
    data_types P here (named_value (static_at texts.statics i)) ≡ Some ts →
    value i.0 ≡ ctx.value i.0) →
    IsContext Y P here texts n (record ctx { value = value })
with_values Y P here texts n ctx value is same = record {
  named = is.named;
  places = is.places;
  declared = is.declared;
  sampled = is.sampled;
  value = λ i w u ts e.
      let own = is.value i w u ts e in
      record {
        name = own.name;
        is = own.is;
        unfound = own.unfound;
        value = same i w u ts e ∙ own.value;
      };
  count = is.count;
  call = λ c site e.
      let own = is.call c site e in
      record {
        callee = own.callee;
        parameters = own.parameters;
        found = own.found;
        named = own.named;
        inputs = own.inputs;
        outputs = own.outputs;
        repeats = own.repeats;
        child = own.child;
        input = own.input;
      };
}

-- Terms and calls of a node are counted in text order, with the occurrences of the expression that
-- a term stands for.

-- ## What holds along a list, by number

-- `R` holds of each item of a list and its number, from `t` on
abbrev pub Along : {A : Type 0} → (ℕ → A → Type 0) → ℕ → List A → Type 0
Along R t [] = Unit {0}
Along R t (x ∷ xs) = R t x × Along R (suc t) xs

module _ {A : Type 0} (R : ℕ → A → Type 0) where
  pub along_first : (t : ℕ) (xs ys : List A) → Along R t (xs ++ ys) → Along R t xs
  along_first t [] ys h = tt
  along_first t (x ∷ xs) ys h = (h.0, along_first (suc t) xs ys h.1)

  pub along_second : (t : ℕ) (xs ys : List A) → Along R t (xs ++ ys) → Along R (t + length xs) ys
  along_second t [] ys h = let e : t ≡ t + 0 = omega arith in subst (λ t. Along R t ys) e h
  along_second t (x ∷ xs) ys h =
      let e : suc t + length xs ≡ t + suc (length xs) = omega arith in
      subst (λ t. Along R t ys) e (along_second (suc t) xs ys h.1)

  -- `Along R` holds where `R` holds at each place
  pub along_from :
      (t : ℕ) (xs : List A) → ((i : ℕ) (x : A) → slice_get xs i ≡ Some x → R (t + i) x) →
      Along R t xs
  along_from t [] h = tt
  along_from t (x ∷ xs) h = (
    let e : t + 0 ≡ t = omega arith in subst (λ t. R t x) e (h 0 x refl),
    along_from (suc t) xs (λ i y at.
        let e : t + suc i ≡ suc t + i = omega arith in
        subst (λ t. R t y) e (h (suc i) y at)),
  )

  -- what follows from `R` holds of each item
  pub along_every :
      (Q : A → Type 0) → ((t : ℕ) (x : A) → R t x → Q x) → (t : ℕ) (xs : List A) →
      Along R t xs → Every Q xs
  along_every Q f t [] h = tt
  along_every Q f t (x ∷ xs) h = (f t x h.0, along_every Q f (suc t) xs h.1)

-- ## Places

-- the cursor behind the terms `os` and `m` calls
abbrev pub past : Cursor → List Occurrence → ℕ → Cursor
past at os m = record { term = at.term + length os; call = at.call + m }

same_place : (a b c d : ℕ) → a ≡ c → b ≡ d →
    (let p : Cursor = record { term = a; call = b } in
    let q : Cursor = record { term = c; call = d } in p ≡ q)
same_place a b c d e f = ap₂ (λ (a b : ℕ). record { term = a; call = b }) e f

pub past_none : (at : Cursor) → at ≡ past at [] 0
past_none at = same_place _ _ _ _ (omega arith) (omega arith)

pub past_leaf : (at : Cursor) (o : Occurrence) → next_term at ≡ past at (o ∷ []) 0
past_leaf at o = same_place _ _ _ _ (omega arith) (omega arith)

pub past_one : (at : Cursor) (o : Occurrence) (os : List Occurrence) (m : ℕ) →
    past (next_term at) os m ≡ past at (o ∷ os) m
past_one at o os m = same_place _ _ _ _ (omega arith) refl

pub past_call : (at : Cursor) (o : Occurrence) (os : List Occurrence) (m : ℕ) →
    past (next_call at) os m ≡ past at (o ∷ os) (suc m)
past_call at o os m = same_place _ _ _ _ (omega arith) (omega arith)

pub past_both : (at : Cursor) (oa ob : List Occurrence) (sa sb : List Site) →
    past (past at oa (length sa)) ob (length sb) ≡ past at (oa ++ ob) (length (sa ++ sb))
past_both at oa ob sa sb =
    let os = length-append oa ob in
    let ss = length-append sa sb in
    same_place _ _ _ _ (omega (arith, os)) (omega (arith, ss))

-- ## What is emitted for one operand, for two and for three

-- a form with one operand: what `F` makes of what was emitted for the operand
pub with_operand :
    (at : Cursor) (o : Occurrence) (os : List Occurrence) (m : ℕ) (x : PlacedEmitted)
    (y z : Emitted) (F : Emitted → Emitted) → x ≡ placed (past (next_term at) os m) y →
    F y ≡ z → placed x.place (F x.emitted) ≡ placed (past at (o ∷ os) m) z
with_operand at o os m x y z F h e = cc (past_one at o os m)

-- a form with two operands, one emitted after the other
pub then_operand :
    (at : Cursor) (oa ob : List Occurrence) (sa sb : List Site) (x : PlacedEmitted)
    (f : Cursor → State → PlacedEmitted) (u v w : Emitted) (F : Emitted → Emitted → Emitted) →
    x ≡ placed (past at oa (length sa)) u →
    f (past at oa (length sa)) u.state
    ≡ placed (past (past at oa (length sa)) ob (length sb)) v →
    F u v ≡ w →
    (let y = f x.place x.emitted.state in placed y.place (F x.emitted y.emitted))
    ≡ placed (past at (oa ++ ob) (length (sa ++ sb))) w
then_operand at oa ob sa sb x f u v w F h g e =
    ap (λ (x : PlacedEmitted).
    let y = f x.place x.emitted.state in placed y.place (F x.emitted y.emitted)) h
    ∙ ap (λ (y : PlacedEmitted). placed y.place (F u y.emitted)) g
    ∙ ap₂ placed (past_both at oa ob sa sb) e

pub with_operands :
    (at : Cursor) (o : Occurrence) (oa ob : List Occurrence) (sa sb : List Site)
    (x : PlacedEmitted) (f : Cursor → State → PlacedEmitted) (u v w : Emitted)
    (F : Emitted → Emitted → Emitted) → x ≡ placed (past (next_term at) oa (length sa)) u →
    f (past (next_term at) oa (length sa)) u.state
    ≡ placed (past (past (next_term at) oa (length sa)) ob (length sb)) v →
    F u v ≡ w →
    (let y = f x.place x.emitted.state in placed y.place (F x.emitted y.emitted))
    ≡ placed (past at (o ∷ (oa ++ ob)) (length (sa ++ sb))) w
with_operands at o oa ob sa sb x f u v w F h g e =
    then_operand (next_term at) oa ob sa sb x f u v w F h g e
    ∙ ap (λ p. placed p w) (past_one at o (oa ++ ob) (length (sa ++ sb)))

-- a form with a condition and two branches
pub with_branches :
    (at : Cursor) (o : Occurrence) (oc oa ob : List Occurrence) (sc sa sb : List Site)
    (z : PlacedEmitted) (f g : Cursor → State → PlacedEmitted) (t u v w : Emitted)
    (F : Emitted → Emitted → Emitted → Emitted) →
    z ≡ placed (past (next_term at) oc (length sc)) t →
    f (past (next_term at) oc (length sc)) t.state
    ≡ placed (past (past (next_term at) oc (length sc)) oa (length sa)) u →
    g (past (past (next_term at) oc (length sc)) oa (length sa)) u.state
    ≡ placed (past (past (past (next_term at) oc (length sc)) oa (length sa)) ob (length sb)) v →
    F t u v ≡ w →
    (let x = f z.place z.emitted.state in let y = g x.place x.emitted.state in
    placed y.place (F z.emitted x.emitted y.emitted))
    ≡ placed (past at (o ∷ (oc ++ (oa ++ ob))) (length (sc ++ (sa ++ sb)))) w
with_branches at o oc oa ob sc sa sb z f g t u v w F hz hx hy e =
    let from = past (next_term at) oc (length sc) in
    cc (
      then_operand from oa ob sa sb (f from t.state) g u v w (F t) hx hy e,
      past_both (next_term at) oc (oa ++ ob) sc (sa ++ sb),
      past_one at o (oc ++ (oa ++ ob)) (length (sc ++ (sa ++ sb))),
    )
