-- Names and calls in an expression that are refused.
use Rattle.std.proofs.Common.{◌≡◌, ℕ, ◌∙◌, Bool, true, false, List, [], length, Global, Vec, ap, sym}
use Rattle.std.proofs.Common.{subst}
use Rattle.std.specs.Prelude.{◌&&◌, ◌||◌, not, Box, None, Option, Some}
use Rattle.std.proofs.lemmas.Bool.{and_left, and_right}
use Rattle.std.proofs.lemmas.List.{length-map}
use Rattle.lb_syntax.specs.Tree as tree
use Rattle.lb_syntax.specs.Tree.{Name, Static}
use Rattle.lb_syntax.specs.View.{view, view_static, view_statics}
use Rattle.lb_syntax.specs.declared.tree.ArrayIterator.{ArrayIterator}
use Rattle.lb_syntax.specs.declared.tree.Expr as source
use Rattle.lb_syntax.specs.declared.tree.Operator.{Operator}
use Rattle.lb_syntax.specs.declared.tree.Operator.TheVariants.{Node as Node_operator}
use Rattle.lb_syntax.specs.declared.tree.Static.{Static as Static'}
use Rattle.lb_static.specs.CountedNames.{Calls, Values, counted}
use Rattle.lb_static.specs.Instances.{Program, Site}
use Rattle.lb_static.specs.NameFaults.{IsNameFault, TellsName, is_told}
use Rattle.lb_static.specs.Names.{is_constant, is_known, is_static_name}
use Rattle.lb_static.specs.NodeNames.{takes}
use Rattle.lb_static.specs.NodeProgress.{Progress, call_told, expr_told, grown, is_variable_of}
use Rattle.lb_static.specs.NodeProgress.{program_of, static_told, statics_told}
use Rattle.lb_static.specs.Parts.{among, variable_names}
use Rattle.lb_static.specs.StaticParts.{Part}
use Rattle.lb_static.specs.declared.error.StaticError.{StaticError}
use Rattle.lb_static.proofs.Faults.{fault_within, told_fails}
use Rattle.lb_static.proofs.Growth.{same_two}
use Rattle.lb_static.proofs.Resolutions.{site_for, view_call, view_iterate}
use Rattle.lb_static.proofs.Scopes.{among_append}

-- a name that is no variable, no static parameter and no constant
pub unknown_value : (s : Progress) (x : Name) (e : StaticError) → is_variable_of s x ≡ false
    → is_static_name (program_of s) s.node x ≡ false → TellsName x Values e
    → IsNameFault e (expr_told e s (tree.Variable x))
unknown_value s x e other unknown told =
    told_fails e Values (is_known (program_of s) s.node) x told
    (by (is_variable_of s x) (among x s.node.parameters) (is_constant (program_of s) x)
    (among_append x (variable_names s.node) s.node.parameters) other unknown)
  where
    by : (v p c : Bool) {d : Bool} → d ≡ (v || p) → v ≡ false → (not v && (p || c)) ≡ false
        → (d || c) ≡ false
    by true p c e f h = absurd cc
    by false p c e f h = ap (λ b. b || c) e ∙ h

-- a call of a name that is not that of a node with as many static parameters
pub callee_fault : (s : Progress) (f : StaticError) (P : Program) (x : Name) (args : List Static')
    (count : Option Static) → P ≡ program_of s
    → IsNameFault f (counted (is_told f Calls) (λ y. takes P y (length args)) x)
    → IsNameFault f (call_told f s (site_for x args count))
callee_fault s f P x args count is h =
    let test = λ (Q : Program) (n : ℕ). not (is_told f Calls x) || takes Q x n in
    let same : test P (length args) ≡ test (program_of s) (length (view_statics args)) =
    same_two test _ _ _ _ is (sym (length-map args view_static)) in
    fault_within f _ _ (subst (IsNameFault f) same h)
    (λ e. and_left _ (statics_told f s (view_statics args)) e)

-- a call whose callee or static arguments are refused
pub call_refused : (s : Progress) (f : StaticError) (x : Name) (xs : List Static')
    (args : Vec Static' Global) (es : Vec source.Expr Global)
    → view_statics xs ≡ view_statics args.items
    → IsNameFault f (call_told f s
    (record { callee = x; arguments = view_statics xs; count = None }))
    → IsNameFault f (expr_told f s (view (source.Call x args es)))
call_refused s f x xs args es same h =
    let site : List Static → Site =
    λ l. record { callee = x; arguments = l; count = None } in
    subst (λ e. IsNameFault f (expr_told f s e)) (sym (view_call x args es))
    (fault_within f _ _ (subst (λ l. IsNameFault f (call_told f s (site l))) same h)
    (λ e. and_left (call_told f s (site (view_statics args.items))) _ e))

-- an iterated node whose callee or static arguments are refused
pub node_refused : (s m : Progress) (f : StaticError) (it : ArrayIterator) (o : Box Operator Global)
    (x : Name) (xs : List Static') (args : Vec Static' Global) → o.value ≡ Node_operator x args
    → (n : Static') (es : Vec source.Expr Global) (at : ℕ) (count : Static) (P : List Part)
    → m ≡ grown s P [] → view_statics xs ≡ view_statics args.items → count ≡ view_static n
    → IsNameFault f (call_told f m
    (record { callee = x; arguments = view_statics xs; count = Some count }))
    → IsNameFault f (expr_told f s (view (source.Iterate it o n es at)))
node_refused s m f it o x xs args same n es at count P grew statics size h =
    let site : List Static → Static → Site =
    λ l k. record { callee = x; arguments = l; count = Some k } in
    let first : IsNameFault f (call_told f s (site (view_statics xs) count)) =
    subst (λ k. IsNameFault f (call_told f k (site (view_statics xs) count))) grew h in
    let whole = site (view_statics args.items) (view_static n) in
    let told : IsNameFault f (call_told f s whole) =
    subst (λ k. IsNameFault f (call_told f s (site (view_statics args.items) k))) size
    (subst (λ l. IsNameFault f (call_told f s (site l count))) statics first) in
    subst (λ e. IsNameFault f (expr_told f s e))
    (sym (view_iterate it o (Node_operator x args) same n es at))
    (fault_within f _ _ told (λ e. and_right (static_told f s (view_static n)) _
    (and_left (call_told f s whole) _ e)))
