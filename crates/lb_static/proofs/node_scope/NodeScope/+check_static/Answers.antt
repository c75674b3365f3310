-- A static expression passes if both of its parts do, and a fault of a part is its own.
use Rattle.std.proofs.Common.{◌≡◌, ◌∙◌, ◌++◌, true, subst}
use Rattle.std.specs.List.{list_all}
use Rattle.std.proofs.lemmas.Bool.{and_from, and_left, and_right}
use Rattle.std.proofs.lemmas.List.Folds.{list_all-append}
use Rattle.std.proofs.lemmas.Result.{err_from_is_err_and, on_ok_weaker, IfErr-weaker}
use Rattle.lb_syntax.specs.Tree.{Node, Static}
use Rattle.lb_syntax.specs.View.{view_static}
use Rattle.lb_static.specs.CountedNames.{Statics, counted, every}
use Rattle.lb_static.specs.Instances.{Program}
use Rattle.lb_static.specs.NameFaults.{IsNameFault, is_told}
use Rattle.lb_static.specs.Names.{is_static_name}
use Rattle.lb_static.specs.NodeNames.{node_in, program_in, static_passes, static_passes_where}
use Rattle.lb_static.specs.Parts.{static_names}
use Rattle.lb_static.specs.declared.error.StaticError.{StaticError}
use Rattle.lb_static.proofs.Faults.{fault_within}
use Rattle.lb_static.proofs.node_scope.NodeScope.+check_static.Goals as goal

module _ (P : Program) (n : Node) (a b : Static) where
  both_pass : static_passes P n a ≡ true → static_passes P n b ≡ true
      → list_all (counted (every Statics) (is_static_name P n)) (static_names a ++ static_names b)
      ≡ true
  both_pass e f =
      list_all-append (counted (every Statics) (is_static_name P n)) (static_names a)
      (static_names b)
      ∙ and_from (static_passes P n a) (static_passes P n b) e f

  -- the fault of both parts
  abbrev Fault : StaticError → Type 0
  Fault f = IsNameFault f (list_all (counted (is_told f Statics) (is_static_name P n))
      (static_names a ++ static_names b))

  first_fault : (f : StaticError) → IsNameFault f (static_passes_where (is_told f) P n a) → Fault f
  first_fault f h = fault_within f _ _ h (λ e.
      list_all-append (counted (is_told f Statics) (is_static_name P n)) (static_names a)
      (static_names b)
      ∙ and_left _ (static_passes_where (is_told f) P n b) e)

  second_fault : (f : StaticError) → IsNameFault f (static_passes_where (is_told f) P n b)
      → Fault f
  second_fault f h = fault_within f _ _ h (λ e.
      list_all-append (counted (is_told f Statics) (is_static_name P n)) (static_names a)
      (static_names b)
      ∙ and_right (static_passes_where (is_told f) P n a) _ e)

pub returns-in_ok-check_static-in-Combined-clause-ok :
    goal.returns-in_ok-check_static-in-Combined-clause-ok
returns-in_ok-check_static-in-Combined-clause-ok t c =
    let P = program_in c.args.self.now in
    let n = node_in c.args.self.now in
    let first = subst (λ s. static_passes P n (view_static s) ≡ true) c.deref.ensures
    c.in_ok-check_static-in-Combined.ensures.ok in
    rw c.in-Combined.is (on_ok_weaker c.check_static-in-Combined.result (λ d.
    both_pass P n (view_static c.in-Combined.first.value) (view_static c.in-Combined.second.value)
    first (subst (λ s. static_passes P n (view_static s) ≡ true) c.deref-in-Combined.ensures d))
    c.check_static-in-Combined.ensures.ok)

pub returns-in_ok-check_static-in-Combined-clause-err :
    goal.returns-in_ok-check_static-in-Combined-clause-err
returns-in_ok-check_static-in-Combined-clause-err t c =
    let P = program_in c.args.self.now in
    let n = node_in c.args.self.now in
    let a = view_static c.in-Combined.first.value in
    let b = view_static c.in-Combined.second.value in
    rw c.in-Combined.is (IfErr-weaker c.check_static-in-Combined.result
    (λ f. IsNameFault f (static_passes_where (is_told f) P n
    (view_static c.deref-in-Combined.result.now)))
    (Fault P n a b)
    (λ f h. second_fault P n a b f
    (subst (λ s. IsNameFault f (static_passes_where (is_told f) P n (view_static s)))
    c.deref-in-Combined.ensures h))
    c.check_static-in-Combined.ensures.err)

pub returns-in_err-check_static-in-Combined-clause-err :
    goal.returns-in_err-check_static-in-Combined-clause-err
returns-in_err-check_static-in-Combined-clause-err t c =
    let p = err_from_is_err_and c.from_residual.result c.from_residual.ensures.1 in
    let P = program_in c.args.self.now in
    let n = node_in c.args.self.now in
    let f = c.in_err-check_static-in-Combined.field-0.0 in
    let refused = subst (λ s. IsNameFault f (static_passes_where (is_told f) P n (view_static s)))
    c.deref.ensures c.in_err-check_static-in-Combined.ensures.err in
    rw (p.1, p.2) (rw c.in-Combined.is (first_fault P n (view_static c.in-Combined.first.value)
    (view_static c.in-Combined.second.value) f refused))
