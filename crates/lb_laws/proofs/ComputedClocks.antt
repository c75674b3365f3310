-- The clock that a part of an expression determines is the clock of the expression, where
-- occurrences keep the rules of clocks.
use Rattle.std.proofs.Common.{◌≡◌, ℕ, ◌+◌, Bool, true, false, cond, Option, Some, None, List, []}
use Rattle.std.proofs.Common.{◌∷◌, ◌++◌, map, length, refl, ap, sym, subst, ◌∙◌}
use Rattle.std.specs.Prelude.{◌&&◌, ◌||◌, not, nat_eq, IfSome, option_map}
use Rattle.std.specs.Str.{bytes_eq}
use Rattle.lb_syntax.specs.Lists.{◌>>=◌, or_else}
use Rattle.lb_syntax.specs.Tree.{Name, Node_named, Symbol, Expr, Literal, Truth, Variable, Group}
use Rattle.lb_syntax.specs.Tree.{Unary, Binary, If, Arrow, Fby, Pre, Current, When, Replicate}
use Rattle.lb_syntax.specs.Tree.{Index, Slice, Join, Array, AtMostOne, Nor, Call, Iterate, Exprs}
use Rattle.lb_syntax.specs.Tree.{Nil, Cons, Declaration, Node}
use Rattle.lb_syntax.proofs.ListPlaces.{nothing_added}
use Rattle.lb_syntax.proofs.SameNames.{name_same, same_name}
use Rattle.lb_syntax.proofs.TruthValues.{and_first, and_second, implied}
use Rattle.lb_static.specs.StaticValues.{named}
use Rattle.lb_static.specs.Instances.{Program, Instance, static_count}
use Rattle.lb_static.specs.DataTypes.{DataType, variables}
use Rattle.lb_static.specs.Parts.{among, variable_names}
use Rattle.lb_check.specs.ClockRules.{is_clock, are_clocks, is_call_clocked, are_given_variables}
use Rattle.lb_check.specs.Clocks.{Clock, On, Given, clock_of, first_clock, each_clock, called_clock}
use Rattle.lb_check.specs.Clocks.{variable_clock, declared_clock, clock_or, parent}
use Rattle.lb_check.specs.Clocks.{above, own_depth, outer, base_clock, base_from_arguments}
use Rattle.lb_check.specs.Clocks.{first_result_clock, given_inputs, given_outputs}
use Rattle.lb_check.specs.Occurrences.{Occurrence, call_count, call_clocks}
use Rattle.lb_check.specs.Types.{data_types, all_types, from_one, from_truths, unary_type}
use Rattle.lb_check.specs.Types.{binary_type, common_type, array_of, index_type, slice_type}
use Rattle.lb_check.specs.Types.{join_type, operator_types}
use Rattle.lb_check.proofs.clocking.{ClockTests.clock_same, NamedClocks.{called_passes, either}}
use Rattle.lb_check.proofs.{clocking.OuterClocks.above_outer, typing.OperandTypes.{bound, one, two}}
use Rattle.lb_check.proofs.typing.OperandTypes.{from_true, first_of_all, placed, one_output}
use Rattle.lb_laws.specs.ClockAssignments.{IsAssigned, AreAssigned, AreAssignedEach}

-- ## Names

-- a name by which a declaration is found is among the names
pub named_among :
    (x : Name) (ds : List Declaration) (v : Declaration) → named (λ d. d.name) x ds ≡ Some v →
    among x (map (λ d. d.name) ds) ≡ true
named_among x [] v e = absurd cc
named_among x (d ∷ ds) v e = by (named_among x ds v) (bytes_eq d.name x) refl e
  where
    here : (b : Bool) → bytes_eq x d.name ≡ true → (bytes_eq x d.name || b) ≡ true
    here b h = ap (λ c. c || b) h

    later : (a b : Bool) → b ≡ true → (a || b) ≡ true
    later true b h = refl
    later false b h = h

    by : (named (λ d. d.name) x ds ≡ Some v → among x (map (λ d. d.name) ds) ≡ true) →
        (b : Bool) → bytes_eq d.name x ≡ b →
        cond b (Some d) (named (λ d. d.name) x ds) ≡ Some v →
        (bytes_eq x d.name || among x (map (λ d. d.name) ds)) ≡ true
    by rest true same h =
        here (among x (map (λ d. d.name) ds))
        (same_name x d.name (sym (name_same d.name x same)))
    by rest false other h =
        later (bytes_eq x d.name) (among x (map (λ d. d.name) ds)) (rest h)

-- a name with a clock is the name of a variable
clocked_among :
    (n : Node) (x : Name) (k : Clock) → variable_clock n x ≡ Some k →
    among x (variable_names n) ≡ true
clocked_among n x k e =
    let found = bound (named (λ d. d.name) x (variables n)) _ k e in
    named_among x (variables n) found.value found.is

-- ## Clocks that agree

-- `k` is the clock, if there is one
abbrev Agrees : Clock → Option Clock → Type 0
Agrees k o = IfSome o (λ c. c ≡ k)

both_agree : (k : Clock) (o p : Option Clock) → Agrees k o → Agrees k p → Agrees k (or_else o p)
both_agree k o p a b = either (λ c. c ≡ k) o p a b

variable_agrees :
    (n : Node) (k : Clock) (x : Name) (o : Option Clock) → variable_clock n x ≡ o →
    (not (among x (variable_names n)) || is_clock k (clock_or o)) ≡ true → Agrees k o
variable_agrees n k x None e h = tt
variable_agrees n k x (Some c) e h =
    sym (clock_same k c
    (implied (among x (variable_names n)) (is_clock k c) h (clocked_among n x c e)))

when_agrees :
    (k : Clock) (x : Name) (sign : Bool) (o : Option Clock) →
    is_clock k (On (clock_or o) x sign) ≡ true → Agrees k (option_map (λ c. On c x sign) o)
when_agrees k x sign None h = tt
when_agrees k x sign (Some c) h = sym (clock_same k (On c x sign) h)

current_agrees :
    (k own : Clock) (x : Name) (sign : Bool) (o : Option Clock) → own ≡ On k x sign →
    Agrees own o → Agrees k (o >>= parent)
current_agrees k own x sign None e h = tt
current_agrees k own x sign (Some c) e h =
    subst (λ z. Agrees k (parent z)) (sym (h ∙ e)) refl

-- the clock on which a callee runs agrees, with one more argument
base_agrees :
    (runs : Clock) (callee : Node) (given : Given) (d : Declaration) (ds : List Declaration)
    (o : Option Clock) (ks : List (Option Clock)) →
    Agrees (outer runs given (declared_clock callee d.name)) o →
    Agrees runs (base_from_arguments callee ds ks) →
    Agrees runs (base_from_arguments callee (d ∷ ds) (o ∷ ks))
base_agrees runs callee given d ds None ks h rest = rest
base_agrees runs callee given d ds (Some k) ks h rest =
    ap (above (own_depth callee d)) h ∙ above_outer runs given (declared_clock callee d.name)

-- the clock of the only result of a call agrees
result_agrees :
    (runs k : Clock) (callee : Node) (given : Given) (outs : List Declaration) (o : Declaration) →
    outs ≡ o ∷ [] →
    (not (nat_eq (length outs) 1)
    || are_clocks (map (λ d. outer runs (given ++ given_outputs outs [])
    (declared_clock callee d.name)) outs) (k ∷ [])) ≡ true →
    first_result_clock runs callee given outs ≡ k
result_agrees runs k callee given outs o is =
    subst
    (λ (os : List Declaration).
    (not (nat_eq (length os) 1)
    || are_clocks (map (λ d. outer runs (given ++ given_outputs os [])
    (declared_clock callee d.name)) os) (k ∷ [])) ≡ true →
    first_result_clock runs callee given os ≡ k)
    (sym is) alone
  where
    alone :
        (is_clock (outer runs (given ++ []) (declared_clock callee o.name)) k && true) ≡ true →
        outer runs given (declared_clock callee o.name) ≡ k
    alone h =
        ap (λ g. outer runs g (declared_clock callee o.name)) (nothing_added given)
        ∙ clock_same (outer runs (given ++ []) (declared_clock callee o.name)) k
        (and_first (is_clock (outer runs (given ++ []) (declared_clock callee o.name)) k) true h)

called_agrees :
    (runs k : Clock) (f : Clock → Clock) (o : Option Clock) → f runs ≡ k → Agrees runs o →
    Agrees k (option_map f o)
called_agrees runs k f None e h = tt
called_agrees runs k f (Some b) e h = ap f h ∙ e

module _ (P : Program) (here : Instance) where
  abbrev Stands : Clock → ℕ → Expr → List Occurrence → Type 0
  Stands k n e os = IsAssigned P here.node k n e os

  mutual
    unfolding IsAssigned AreAssigned AreAssignedEach

    pub agrees :
        (k : Clock) (n : ℕ) (e : Expr) (t : DataType) → data_types P here e ≡ Some (t ∷ []) →
        (os : List Occurrence) → IsAssigned P here.node k n e os →
        Agrees k (clock_of P here.node e)
    agrees k n (Literal m) t e os h = tt
    agrees k n (Truth b) t e os h = tt
    agrees k n (Variable x) t e os h =
        variable_agrees here.node k x (variable_clock here.node x) refl h.0
    agrees k n (Group a) t e os h = agrees k n a t e os h
    agrees k n (Unary op a) t e os h =
        let i = one (data_types P here a) (unary_type op) (t ∷ []) e in
        agrees k n a i.data_type i.is h.0 h.1
    agrees k n (Binary op a b) t e os h =
        let i = two (data_types P here a) (data_types P here b) (binary_type op) (t ∷ []) e in
        both_agree k _ _ (agrees k n a i.first i.is_first h.1.0 h.1.2)
        (agrees k (n + call_count a) b i.second i.is_second h.1.1 h.1.3)
    agrees k n (If c a b) t e os h =
        let c_is = bound (from_truths (from_one (data_types P here c) Some)) _ (t ∷ []) e in
        let truths = from_true (from_one (data_types P here c) Some) c_is.value c_is.is in
        let z = one (data_types P here c) Some truths.data_types truths.is in
        let i = two (data_types P here a) (data_types P here b) common_type (t ∷ []) c_is.gives in
        both_agree k _ _ (agrees k n c z.data_type z.is h.1.0 h.1.2)
        (both_agree k _ _
        (agrees k (n + call_count c) a i.first i.is_first h.1.3.0 h.1.3.2)
        (agrees k (n + call_count c + call_count a) b i.second i.is_second h.1.3.1 h.1.3.3))
    agrees k n (Arrow a b) t e os h =
        let i = two (data_types P here a) (data_types P here b) common_type (t ∷ []) e in
        both_agree k _ _ (agrees k n a i.first i.is_first h.1.0 h.1.2)
        (agrees k (n + call_count a) b i.second i.is_second h.1.1 h.1.3)
    agrees k n (Fby a b) t e os h =
        let i = two (data_types P here a) (data_types P here b) common_type (t ∷ []) e in
        both_agree k _ _ (agrees k n a i.first i.is_first h.1.0 h.1.2)
        (agrees k (n + call_count a) b i.second i.is_second h.1.1 h.1.3)
    agrees k n (Pre a) t e os h =
        let i = one (data_types P here a) Some (t ∷ []) e in
        agrees k n a i.data_type i.is h.0 h.1
    agrees k n (Current a) t e os h =
        let i = one (data_types P here a) Some (t ∷ []) e in
        current_agrees k h.0 h.1.0 h.1.1 (clock_of P here.node a) h.1.2
        (agrees h.0 n a i.data_type i.is h.3.0 h.3.1)
    agrees k n (When a x sign) t e os h =
        when_agrees k x sign (variable_clock here.node x) h.0
    agrees k n (Replicate a m) t e os h =
        let c = bound (static_count P here m) _ (t ∷ []) e in
        let i = one (data_types P here a) (array_of c.value) (t ∷ []) c.gives in
        agrees k n a i.data_type i.is h.0 h.1
    agrees k n (Index a m) t e os h =
        let c = bound (static_count P here m) _ (t ∷ []) e in
        let i = one (data_types P here a) (index_type c.value) (t ∷ []) c.gives in
        agrees k n a i.data_type i.is h.0 h.1
    agrees k n (Slice a m l) t e os h =
        let c = bound (static_count P here m) _ (t ∷ []) e in
        let d = bound (static_count P here l) _ (t ∷ []) c.gives in
        let i = one (data_types P here a) (slice_type c.value d.value) (t ∷ []) d.gives in
        agrees k n a i.data_type i.is h.0 h.1
    agrees k n (Join a b) t e os h =
        let i = two (data_types P here a) (data_types P here b) join_type (t ∷ []) e in
        both_agree k _ _ (agrees k n a i.first i.is_first h.1.0 h.1.2)
        (agrees k (n + call_count a) b i.second i.is_second h.1.1 h.1.3)
    agrees k n (Array es) t e os h =
        let b = bound (all_types P here es) _ (t ∷ []) e in
        first_agrees k n es b.value b.is h.0 h.1
    agrees k n (AtMostOne es) t e os h =
        let b = from_true (all_types P here es) (t ∷ []) e in
        first_agrees k n es b.data_types b.is h.0 h.1
    agrees k n (Nor es) t e os h =
        let b = from_true (all_types P here es) (t ∷ []) e in
        first_agrees k n es b.data_types b.is h.0 h.1
    agrees k n (Call f statics es) t e os h =
        let c = one_output P here f statics es t e in
        let p = placed P here f statics c.callee c.is in
        let callee = c.callee.node in
        let runs = base_clock k callee in
        let given = given_inputs callee.inputs es in
        let o = bound (operator_types P here (Node_named f statics)) _ (t ∷ []) e in
        let a = bound (all_types P here es) _ (t ∷ []) o.gives in
        let call = called_passes P (is_call_clocked here.node k es) f callee h.0 p.node in
        let result = result_agrees runs k callee given callee.outputs c.output c.one
        (and_second (are_given_variables here.node callee es) _ call) in
        let parts = subst (λ o. AreAssignedEach P here.node (call_clocks k o es) (n + 1) es h.1.0)
        p.node h.1.1 in
        subst (λ o. Agrees k (o >>= called_clock es (each_clock P here.node es))) (sym p.node)
        (called_agrees runs k (λ b. first_result_clock b callee given callee.outputs)
        (base_from_arguments callee callee.inputs (each_clock P here.node es)) result
        (bases_agree runs callee given callee.inputs (n + 1) es a.value a.is h.1.0 parts))
    agrees k n (Iterate it (Node_named f statics) m es) t e os h =
        let c = bound (static_count P here m) _ (t ∷ []) e in
        let o = bound (operator_types P here (Node_named f statics)) _ (t ∷ []) c.gives in
        let a = bound (all_types P here es) _ (t ∷ []) o.gives in
        first_agrees k (n + 1) es a.value a.is h.1.0 h.1.1
    agrees k n (Iterate it (Symbol op) m es) t e os h =
        let c = bound (static_count P here m) _ (t ∷ []) e in
        let o = bound (operator_types P here (Symbol op)) _ (t ∷ []) c.gives in
        let a = bound (all_types P here es) _ (t ∷ []) o.gives in
        first_agrees k n es a.value a.is h.0 h.1

    first_agrees :
        (k : Clock) (n : ℕ) (es : Exprs) (ts : List DataType) → all_types P here es ≡ Some ts →
        (os : List Occurrence) → AreAssigned P here.node k n es os →
        Agrees k (first_clock P here.node es)
    first_agrees k n Nil ts e os h = tt
    first_agrees k n (Cons a es) ts e os h =
        let i = first_of_all P here a es ts e in
        both_agree k _ _ (agrees k n a i.first i.is h.0 h.2)
        (first_agrees k (n + call_count a) es i.rest i.others h.1 h.3)

    bases_agree :
        (runs : Clock) (callee : Node) (given : Given) (ds : List Declaration) (n : ℕ)
        (es : Exprs) (ts : List DataType) → all_types P here es ≡ Some ts →
        (os : List Occurrence) →
        AreAssignedEach P here.node
        (map (λ d. outer runs given (declared_clock callee d.name)) ds) n es os →
        Agrees runs (base_from_arguments callee ds (each_clock P here.node es))
    bases_agree runs callee given [] n es ts e os h = tt
    bases_agree runs callee given (d ∷ ds) n Nil ts e os h = tt
    bases_agree runs callee given (d ∷ ds) n (Cons a es) ts e os h =
        let i = first_of_all P here a es ts e in
        base_agrees runs callee given d ds (clock_of P here.node a) (each_clock P here.node es)
        (agrees (outer runs given (declared_clock callee d.name)) n a i.first i.is h.0 h.2)
        (bases_agree runs callee given ds (n + call_count a) es i.rest i.others h.1 h.3)
