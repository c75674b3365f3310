-- An expression whose parts are resolved is resolved, and a fault of a part is its own.
use Rattle.std.proofs.Common.{◌≡◌, ℕ, ◌+◌, Bool, Ok, refl, Vec, Global, Option, None, Some, List}
use Rattle.std.proofs.Common.{map, take, ap, sym, subst, ◌∙◌, [], ◌∷◌}
use Rattle.std.proofs.lemmas.List.{take_all}
use Rattle.std.proofs.lemmas.Result.{err_from_is_err_and}
use Rattle.std.specs.Prelude.{◌&&◌, Box, Err, IsErrAnd, Result, length, nat_lt}
use Rattle.std.proofs.lemmas.Bool.{and_from as both, and_left as false_first}
use Rattle.std.proofs.lemmas.Bool.{and_right as false_second}
use Rattle.lb_syntax.specs.Tree as tree
use Rattle.lb_syntax.specs.Tree.{Name}
use Rattle.lb_syntax.specs.View.{view, view_operator, view_static, view_statics}
use Rattle.lb_syntax.specs.declared.tree.Expr as source
use Rattle.lb_syntax.specs.declared.tree.Expr.{Expr}
use Rattle.lb_syntax.specs.declared.tree.ArrayIterator.{ArrayIterator}
use Rattle.lb_syntax.specs.declared.tree.Operator.{Operator}
use Rattle.lb_syntax.specs.declared.tree.Static.{Static}
use Rattle.lb_static.specs.NodeProgress.{Progress, texts, grown, after_expr}
use Rattle.lb_static.specs.NodeProgress.{expr_told, exprs_told, static_told}
use Rattle.lb_static.specs.NodeProgress.{program_of, ResolvesCall, ResolvesTerm}
use Rattle.lb_static.specs.ResolvedTerms.{expr_of, name_at, static_at}
use Rattle.lb_static.specs.StaticParts.{Part, Size, Index, SliceStart, SliceEnd, arguments_of}
use Rattle.lb_static.specs.declared.resolved.CallId.{CallId}
use Rattle.lb_static.specs.CountedNames.{Variables, counted}
use Rattle.lb_static.specs.NameFaults.{IsNameFault, is_told}
use Rattle.lb_static.specs.Names.{is_variable}
use Rattle.lb_static.specs.declared.error.StaticError.{StaticError}
use Rattle.lb_static.specs.Nested.{around, before_row, ResolvesNested, ResolvesRow}
use Rattle.lb_static.specs.Parts.{variable_names}
use Rattle.lb_static.specs.declared.resolving_terms.Outer.{Outer}
use Rattle.lb_static.specs.declared.resolving_terms.Outer.TheVariants as outer
use Rattle.lb_static.specs.declared.resolving_terms.Head.{Head}
use Rattle.lb_static.specs.declared.resolving_terms.Head.TheVariants as heads
use Rattle.lb_static.specs.Progressed.{progress}
use Rattle.lb_static.specs.declared.resolved.Term.{Term}
use Rattle.lb_static.proofs.Faults.{fault_within}
use Rattle.lb_static.proofs.Growth.{same_two}
use Rattle.lb_static.proofs.Resolutions.{Done, AllDone, SoFar, site_for, call_done, size_done}
use Rattle.lb_static.proofs.RefusedParts.{call_refused, node_refused}
use Rattle.lb_static.proofs.Resolutions.{none_done, number_done, truth_done}
use Rattle.lb_static.proofs.Resolutions.{sized_call_done, call_term_done, iterate_node_done}
use Rattle.lb_static.proofs.Resolutions.{iterate_symbol_done, fault_after_call, fault_after_node}
use Rattle.lb_static.proofs.Resolutions.{fault_after_symbol, fault_of_item, next_done, two_done}
use Rattle.lb_static.proofs.Resolutions.{three_done, view_iterate, static_done, statics_done}
use Rattle.lb_static.proofs.Resolutions.{array_done, at_most_one_done, nor_done, array_fault}
use Rattle.lb_static.proofs.Resolutions.{at_most_one_fault, nor_fault}
use Rattle.lb_static.proofs.resolving_terms.+resolving.Goals as goal

-- a term for the expression in a box is a term for the expression that the box is known to hold
in_box : (before after : Progress) (e f : Expr) (t : Term) → e ≡ f → Done before after (view e) t
    → Done before after (view f) t
in_box before after e f t same h = subst (λ x. Done before after (view x) t) same h

in_list : (before after : Progress) (es fs : List Expr) (ts : Vec Term Global) → es ≡ fs
    → AllDone before after (map view es) ts → AllDone before after (map view fs) ts
in_list before after es fs ts same h = subst (λ l. AllDone before after (map view l) ts) same h

-- ## Refusals

-- a fault of the first of two parts is a fault of both
first_refused : (f : StaticError) (p q : Bool) → IsNameFault f p → IsNameFault f (p && q)
first_refused f p q h = fault_within f p (p && q) h (false_first p q)

second_refused : (f : StaticError) (p q : Bool) → IsNameFault f q → IsNameFault f (p && q)
second_refused f p q h = fault_within f q (p && q) h (false_second p q)

-- a fault of the expression in a box
box_refused : (s : Progress) (f : StaticError) (e g : Expr) → e ≡ g
    → IsNameFault f (expr_told f s (view e)) → IsNameFault f (expr_told f s (view g))
box_refused s f e g same h = subst (λ x. IsNameFault f (expr_told f s (view x))) same h

-- a fault of an expression that is resolved after another
after_one : (before mid : Progress) (d : tree.Expr) (f : StaticError) (e : tree.Expr)
    → mid ≡ after_expr before d → IsNameFault f (expr_told f mid e)
    → IsNameFault f (expr_told f before e)
after_one before mid d f e is h = subst (λ s. IsNameFault f (expr_told f s e)) is h

after_part : (before mid : Progress) (p : Part) (f : StaticError) (e : tree.Expr)
    → mid ≡ grown before (p ∷ []) [] → IsNameFault f (expr_told f mid e)
    → IsNameFault f (expr_told f before e)
after_part before mid p f e is h = subst (λ s. IsNameFault f (expr_told f s e)) is h

static_after : (before mid : Progress) (p : Part) (f : StaticError) (x : tree.Static)
    → mid ≡ grown before (p ∷ []) [] → IsNameFault f (static_told f mid x)
    → IsNameFault f (static_told f before x)
static_after before mid p f x is h = subst (λ s. IsNameFault f (static_told f s x)) is h

-- a fault of the size of an iteration
sized_refused : (s : Progress) (f : StaticError) (it : ArrayIterator) (o : tree.Operator)
    (n : tree.Static) (es : tree.Exprs)
    → IsNameFault f (static_told f s n) → IsNameFault f (expr_told f s (tree.Iterate it o n es))
sized_refused s f it (tree.Node_named x args) n es h = first_refused f _ _ h
sized_refused s f it (tree.Symbol op) n es h = first_refused f _ _ h

size_refused : (s : Progress) (f : StaticError) (it : ArrayIterator) (o : Box Operator Global)
    (n : Static) (es : Vec Expr Global) (at : ℕ)
    → IsNameFault f (static_told f s (view_static n))
    → IsNameFault f (expr_told f s (view (source.Iterate it o n es at)))
size_refused s f it o n es at h =
    subst (λ e. IsNameFault f (expr_told f s e)) (sym (view_iterate it o o.value refl n es at))
    (sized_refused s f it (view_operator o.value) (view_static n) _ h)

-- an exit with a fault, where the expression is known to be another
exit_refused : (before after : Progress) (e g : Expr) (r : Result Term StaticError)
    (f : StaticError) → e ≡ g → IsErrAnd r (λ y. y ≡ f)
    → IsNameFault f (expr_told f before (view g)) → ResolvesTerm before after (view e) r
exit_refused before after e g r f same gives h =
    let p = err_from_is_err_and r gives in
    rw (p.1, p.2, same) h

-- ## Nested expressions

-- an expression is resolved whose last operand is resolved after its outer part
nested_as : (before mid after : Progress) (F : Outer) (x a : Expr) (whole : tree.Expr)
    (r : Result Term StaticError) → x ≡ a
    → ((b : Box Term Global) → Done mid after (view a) b.value
    → Done before after whole (around F b))
    → ((f : StaticError) → IsNameFault f (expr_told f mid (view a))
    → IsNameFault f (expr_told f before whole))
    → ResolvesNested mid after F (view x) r → ResolvesTerm before after whole r
nested_as before mid after F x a whole (Ok t) same done fault h =
    subst (λ z. Done before after whole z) (sym h.1)
    (done h.0 (in_box mid after x a h.0.value same h.2))
nested_as before mid after F x a whole (Err f) same done fault h =
    fault f (box_refused mid f x a same h)

-- an expression is resolved whose operands are resolved after its head
row_as : (before mid after : Progress) (H : Head) (xs es : List Expr) (whole : tree.Expr)
    (r : Result Term StaticError) → xs ≡ es
    → ((ts : Vec Term Global) → AllDone mid after (map view es) ts
    → Done before after whole (before_row H ts))
    → ((f : StaticError) → IsNameFault f (exprs_told f mid (map view es))
    → IsNameFault f (expr_told f before whole))
    → ResolvesRow mid after H (map view xs) r → ResolvesTerm before after whole r
row_as before mid after H xs es whole (Ok t) same done fault h =
    subst (λ z. Done before after whole z) (sym h.1)
    (done h.0 (in_list mid after xs es h.0 same h.2))
row_as before mid after H xs es whole (Err f) same done fault h =
    fault f (subst (λ l. IsNameFault f (exprs_told f mid (map view l))) same h)

pub term-returns-in_err-first-in-Binary : goal.term-returns-in_err-first-in-Binary
term-returns-in_err-first-in-Binary t c =
    let before = progress c.args.here.now in
    let f = c.in_err-first-in-Binary.field-0.0 in
    let refused = box_refused before f _ c.in-Binary.a.value c.deref-in-Binary.ensures
    c.in_err-first-in-Binary.ensures in
    exit_refused before _ c.args.e.now _ c.from_residual.result f c.in-Binary.is
    c.from_residual.ensures.1
    (first_refused f _ (expr_told f before (view c.in-Binary.b.value)) refused)

pub term-returns-in_err-condition-in-If : goal.term-returns-in_err-condition-in-If
term-returns-in_err-condition-in-If t c =
    let before = progress c.args.here.now in
    let f = c.in_err-condition-in-If.field-0.0 in
    let refused = box_refused before f _ c.in-If.c.value c.deref-in-If.ensures
    c.in_err-condition-in-If.ensures in
    exit_refused before _ c.args.e.now _ c.from_residual-in_err-condition-in-If.result f c.in-If.is
    c.from_residual-in_err-condition-in-If.ensures.1
    (first_refused f _ (expr_told f before (view c.in-If.a.value) && expr_told f before
    (view c.in-If.b.value)) refused)

pub term-returns-in_err-first-in-If : goal.term-returns-in_err-first-in-If
term-returns-in_err-first-in-If t c =
    let before = progress c.args.here.now in
    let f = c.in_err-first-in-If.field-0.0 in
    let mid = progress c.boxed-in-If.new.here in
    let refused = box_refused mid f _ c.in-If.a.value c.deref-in-If-2.ensures
    c.in_err-first-in-If.ensures in
    let earlier = after_one before mid (view c.deref-in-If.result.now) f
    (view c.in-If.a.value) c.in_ok-condition-in-If.ensures.0 refused in
    exit_refused before _ c.args.e.now _ c.from_residual-in_err-first-in-If.result f c.in-If.is
    c.from_residual-in_err-first-in-If.ensures.1
    (second_refused f (expr_told f before (view c.in-If.c.value)) _
    (first_refused f _ (expr_told f before (view c.in-If.b.value)) earlier))

pub term-returns-in_err-first-in-Arrow : goal.term-returns-in_err-first-in-Arrow
term-returns-in_err-first-in-Arrow t c =
    let before = progress c.args.here.now in
    let f = c.in_err-first-in-Arrow.field-0.0 in
    let refused = box_refused before f _ c.in-Arrow.a.value c.deref-in-Arrow.ensures
    c.in_err-first-in-Arrow.ensures in
    exit_refused before _ c.args.e.now _ c.from_residual-in_err-first-in-Arrow.result f
    c.in-Arrow.is c.from_residual-in_err-first-in-Arrow.ensures.1
    (first_refused f _ (expr_told f before (view c.in-Arrow.b.value)) refused)

pub term-returns-in_err-first-in-Fby : goal.term-returns-in_err-first-in-Fby
term-returns-in_err-first-in-Fby t c =
    let before = progress c.args.here.now in
    let f = c.in_err-first-in-Fby.field-0.0 in
    let refused = box_refused before f _ c.in-Fby.a.value c.deref-in-Fby.ensures
    c.in_err-first-in-Fby.ensures in
    exit_refused before _ c.args.e.now _ c.from_residual-in_err-first-in-Fby.result f c.in-Fby.is
    c.from_residual-in_err-first-in-Fby.ensures.1
    (first_refused f _ (expr_told f before (view c.in-Fby.b.value)) refused)

pub term-returns-in_err-clock-in-When : goal.term-returns-in_err-clock-in-When
term-returns-in_err-clock-in-When t c =
    let before = progress c.args.here.now in
    let f = c.in_err-clock-in-When.field-0.0 in
    exit_refused before _ c.args.e.now _ c.from_residual-in_err-clock-in-When.result f c.in-When.is
    c.from_residual-in_err-clock-in-When.ensures.1
    (first_refused f _ (expr_told f before (view c.in-When.a.value))
    c.in_err-clock-in-When.ensures.err)

pub term-returns-in_err-size-in-Replicate : goal.term-returns-in_err-size-in-Replicate
term-returns-in_err-size-in-Replicate t c =
    let before = progress c.args.here.now in
    let f = c.in_err-size-in-Replicate.field-0.0 in
    exit_refused before _ c.args.e.now _ c.from_residual-in_err-size-in-Replicate.result f
    c.in-Replicate.is c.from_residual-in_err-size-in-Replicate.ensures.1
    (first_refused f _ (expr_told f before (view c.in-Replicate.a.value))
    c.in_err-size-in-Replicate.ensures)

pub term-returns-in_err-index-in-Index : goal.term-returns-in_err-index-in-Index
term-returns-in_err-index-in-Index t c =
    let before = progress c.args.here.now in
    let f = c.in_err-index-in-Index.field-0.0 in
    exit_refused before _ c.args.e.now _ c.from_residual-in_err-index-in-Index.result f
    c.in-Index.is c.from_residual-in_err-index-in-Index.ensures.1
    (first_refused f _ (expr_told f before (view c.in-Index.a.value))
    c.in_err-index-in-Index.ensures)

pub term-returns-in_err-start-in-Slice : goal.term-returns-in_err-start-in-Slice
term-returns-in_err-start-in-Slice t c =
    let before = progress c.args.here.now in
    let f = c.in_err-start-in-Slice.field-0.0 in
    exit_refused before _ c.args.e.now _ c.from_residual-in_err-start-in-Slice.result f
    c.in-Slice.is c.from_residual-in_err-start-in-Slice.ensures.1
    (first_refused f _ (static_told f before (view_static c.in-Slice.j) && expr_told f before
    (view c.in-Slice.a.value)) c.in_err-start-in-Slice.ensures)

pub term-returns-in_err-end-in-Slice : goal.term-returns-in_err-end-in-Slice
term-returns-in_err-end-in-Slice t c =
    let before = progress c.args.here.now in
    let f = c.in_err-end-in-Slice.field-0.0 in
    let mid = progress c.one_static-in-Slice.new.here in
    let earlier = static_after before mid (SliceStart, view_static c.in-Slice.i) f
    (view_static c.in-Slice.j) c.in_ok-start-in-Slice.ensures.0 c.in_err-end-in-Slice.ensures in
    exit_refused before _ c.args.e.now _ c.from_residual-in_err-end-in-Slice.result f c.in-Slice.is
    c.from_residual-in_err-end-in-Slice.ensures.1
    (second_refused f (static_told f before (view_static c.in-Slice.i)) _
    (first_refused f _ (expr_told f before (view c.in-Slice.a.value)) earlier))

pub term-returns-in_err-first-in-Join : goal.term-returns-in_err-first-in-Join
term-returns-in_err-first-in-Join t c =
    let before = progress c.args.here.now in
    let f = c.in_err-first-in-Join.field-0.0 in
    let refused = box_refused before f _ c.in-Join.a.value c.deref-in-Join.ensures
    c.in_err-first-in-Join.ensures in
    exit_refused before _ c.args.e.now _ c.from_residual-in_err-first-in-Join.result f c.in-Join.is
    c.from_residual-in_err-first-in-Join.ensures.1
    (first_refused f _ (expr_told f before (view c.in-Join.b.value)) refused)

pub term-returns-in_err-size-in-Iterate : goal.term-returns-in_err-size-in-Iterate
term-returns-in_err-size-in-Iterate t c =
    let before = progress c.args.here.now in
    let f = c.in_err-size-in-Iterate.field-0.0 in
    exit_refused before _ c.args.e.now _ c.from_residual-in_err-size-in-Iterate.result f
    c.in-Iterate.is c.from_residual-in_err-size-in-Iterate.ensures.1
    (size_refused before f c.in-Iterate.iterator c.in-Iterate.operator c.in-Iterate.n
    c.in-Iterate.arguments c.in-Iterate.field-4 c.in_err-size-in-Iterate.ensures)

pub term-returns-in-Group : goal.term-returns-in-Group
term-returns-in-Group t c =
    let before = progress c.args.here.now in
    let after = progress c.nested.new.here in
    let a = c.in-Group.a.value in
    rw c.in-Group.is (nested_as before before after outer.Group _ a
    (tree.Group (view a)) c.nested.result c.deref.ensures
    (λ b d. (d.0, (ap tree.Group d.1.0, d.1.1, d.1.2), d.2)) (λ f h. h) c.nested.ensures)

pub term-returns-in-Unary : goal.term-returns-in-Unary
term-returns-in-Unary t c =
    let before = progress c.args.here.now in
    let after = progress c.nested-in-Unary.new.here in
    let a = c.in-Unary.a.value in
    rw c.in-Unary.is (nested_as before before after (outer.Unary c.in-Unary.op) _ a
    (tree.Unary c.in-Unary.op (view a)) c.nested-in-Unary.result c.deref-in-Unary.ensures
    (λ b d. (d.0, (ap (tree.Unary c.in-Unary.op) d.1.0, d.1.1, d.1.2), d.2))
    (λ f h. h) c.nested-in-Unary.ensures)

pub term-returns-in-Pre : goal.term-returns-in-Pre
term-returns-in-Pre t c =
    let before = progress c.args.here.now in
    let after = progress c.nested-in-Pre.new.here in
    let a = c.in-Pre.a.value in
    rw c.in-Pre.is (nested_as before before after outer.Pre _ a
    (tree.Pre (view a)) c.nested-in-Pre.result c.deref-in-Pre.ensures
    (λ b d. (d.0, (ap tree.Pre d.1.0, d.1.1, d.1.2), d.2)) (λ f h. h) c.nested-in-Pre.ensures)

pub term-returns-in-Current : goal.term-returns-in-Current
term-returns-in-Current t c =
    let before = progress c.args.here.now in
    let after = progress c.nested-in-Current.new.here in
    let a = c.in-Current.a.value in
    rw c.in-Current.is (nested_as before before after outer.Current _ a
    (tree.Current (view a)) c.nested-in-Current.result c.deref-in-Current.ensures
    (λ b d. (d.0, (ap tree.Current d.1.0, d.1.1, d.1.2), d.2))
    (λ f h. h) c.nested-in-Current.ensures)

pub term-returns-in_ok-first-in-Binary : goal.term-returns-in_ok-first-in-Binary
term-returns-in_ok-first-in-Binary t c =
    let before = progress c.args.here.now in
    let mid = progress c.boxed.new.here in
    let after = progress c.nested-in-Binary.new.here in
    let first = c.in_ok-first-in-Binary.first in
    let a = c.in-Binary.a.value in
    let b = c.in-Binary.b.value in
    let d = in_box before mid _ a first.value c.deref-in-Binary.ensures
    c.in_ok-first-in-Binary.ensures in
    rw c.in-Binary.is (nested_as before mid after (outer.Binary c.in-Binary.op first) _ b
    (tree.Binary c.in-Binary.op (view a) (view b)) c.nested-in-Binary.result
    c.deref-in-Binary-2.ensures
    (λ x g. let r = two_done before mid after (view a) (view b) first.value x.value d g in (
      r.0,
      (
        same_two (tree.Binary c.in-Binary.op) _ _ _ _ r.1.0 r.2.0,
        both _ _ r.1.1 r.2.1,
        both _ _ r.1.2 r.2.2,
      ),
      r.3,
    ))
    (λ f h. second_refused f (expr_told f before (view a)) _
    (after_one before mid (view a) f (view b) d.0 h)) c.nested-in-Binary.ensures)

pub term-returns-in_ok-first-in-Arrow : goal.term-returns-in_ok-first-in-Arrow
term-returns-in_ok-first-in-Arrow t c =
    let before = progress c.args.here.now in
    let mid = progress c.boxed-in-Arrow.new.here in
    let after = progress c.nested-in-Arrow.new.here in
    let first = c.in_ok-first-in-Arrow.first in
    let a = c.in-Arrow.a.value in
    let b = c.in-Arrow.b.value in
    let d = in_box before mid _ a first.value c.deref-in-Arrow.ensures
    c.in_ok-first-in-Arrow.ensures in
    rw c.in-Arrow.is (nested_as before mid after (outer.Arrow first) _ b
    (tree.Arrow (view a) (view b)) c.nested-in-Arrow.result c.deref-in-Arrow-2.ensures
    (λ x g. let r = two_done before mid after (view a) (view b) first.value x.value d g in (
      r.0,
      (same_two tree.Arrow _ _ _ _ r.1.0 r.2.0, both _ _ r.1.1 r.2.1, both _ _ r.1.2 r.2.2),
      r.3,
    ))
    (λ f h. second_refused f (expr_told f before (view a)) _
    (after_one before mid (view a) f (view b) d.0 h)) c.nested-in-Arrow.ensures)

pub term-returns-in_ok-first-in-Fby : goal.term-returns-in_ok-first-in-Fby
term-returns-in_ok-first-in-Fby t c =
    let before = progress c.args.here.now in
    let mid = progress c.boxed-in-Fby.new.here in
    let after = progress c.nested-in-Fby.new.here in
    let first = c.in_ok-first-in-Fby.first in
    let a = c.in-Fby.a.value in
    let b = c.in-Fby.b.value in
    let d = in_box before mid _ a first.value c.deref-in-Fby.ensures c.in_ok-first-in-Fby.ensures in
    rw c.in-Fby.is (nested_as before mid after (outer.Fby first) _ b
    (tree.Fby (view a) (view b)) c.nested-in-Fby.result c.deref-in-Fby-2.ensures
    (λ x g. let r = two_done before mid after (view a) (view b) first.value x.value d g in (
      r.0,
      (same_two tree.Fby _ _ _ _ r.1.0 r.2.0, both _ _ r.1.1 r.2.1, both _ _ r.1.2 r.2.2),
      r.3,
    ))
    (λ f h. second_refused f (expr_told f before (view a)) _
    (after_one before mid (view a) f (view b) d.0 h)) c.nested-in-Fby.ensures)

pub term-returns-in_ok-first-in-Join : goal.term-returns-in_ok-first-in-Join
term-returns-in_ok-first-in-Join t c =
    let before = progress c.args.here.now in
    let mid = progress c.boxed-in-Join.new.here in
    let after = progress c.nested-in-Join.new.here in
    let first = c.in_ok-first-in-Join.first in
    let a = c.in-Join.a.value in
    let b = c.in-Join.b.value in
    let d = in_box before mid _ a first.value c.deref-in-Join.ensures c.in_ok-first-in-Join.ensures
    in
    rw c.in-Join.is (nested_as before mid after (outer.Join first) _ b
    (tree.Join (view a) (view b)) c.nested-in-Join.result c.deref-in-Join-2.ensures
    (λ x g. let r = two_done before mid after (view a) (view b) first.value x.value d g in (
      r.0,
      (same_two tree.Join _ _ _ _ r.1.0 r.2.0, both _ _ r.1.1 r.2.1, both _ _ r.1.2 r.2.2),
      r.3,
    ))
    (λ f h. second_refused f (expr_told f before (view a)) _
    (after_one before mid (view a) f (view b) d.0 h)) c.nested-in-Join.ensures)

pub term-returns-in_ok-first-in-If : goal.term-returns-in_ok-first-in-If
term-returns-in_ok-first-in-If t c =
    let before = progress c.args.here.now in
    let mid = progress c.boxed-in-If.new.here in
    let next = progress c.boxed-in-If-2.new.here in
    let after = progress c.nested-in-If.new.here in
    let condition = c.in_ok-condition-in-If.condition in
    let first = c.in_ok-first-in-If.first in
    let test = c.in-If.c.value in
    let a = c.in-If.a.value in
    let b = c.in-If.b.value in
    let d = in_box before mid _ test condition.value c.deref-in-If.ensures
    c.in_ok-condition-in-If.ensures in
    let g = in_box mid next _ a first.value c.deref-in-If-2.ensures c.in_ok-first-in-If.ensures in
    rw c.in-If.is (nested_as before next after (outer.If condition first) _ b
    (tree.If (view test) (view a) (view b)) c.nested-in-If.result c.deref-in-If-3.ensures
    (λ x last.
    let q = two_done mid next after (view a) (view b) first.value x.value g last in
    let r = three_done before mid after (view test) (view a)
    (view b) condition.value first.value x.value d q in (
      r.0,
      (
        ap (λ z. tree.If z (expr_of (texts after) first.value) (expr_of (texts after) x.value))
            r.1.0 ∙ same_two (tree.If (view test)) _ _ _ _ r.2.0 r.3.0,
        both _ _ r.1.1 (both _ _ r.2.1 r.3.1),
        both _ _ r.1.2 (both _ _ r.2.2 r.3.2),
      ),
      r.4,
    ))
    (λ f h. second_refused f (expr_told f before (view test)) _
    (second_refused f (expr_told f before (view a)) _
    (after_one before mid (view test) f (view b) d.0
    (after_one mid next (view a) f (view b) g.0 h))))
    c.nested-in-If.ensures)

pub term-returns-in_ok-clock-in-When : goal.term-returns-in_ok-clock-in-When
term-returns-in_ok-clock-in-When t c =
    let before = progress c.args.here.now in
    let after = progress c.nested-in-When.new.here in
    let clock = c.in_ok-clock-in-When.clock in
    let sign = c.in-When.sign in
    let a = c.in-When.a.value in
    let x = c.in-When.x in
    let found = c.in_ok-clock-in-When.ensures.found in
    let is = c.in_ok-clock-in-When.ensures.is_declared in
    rw c.in-When.is (nested_as before before after (outer.When clock sign) _ a
    (tree.When (view a) x sign) c.nested-in-When.result c.deref-in-When.ensures
    (λ b d.
    let node = ap (λ s. s.node) d.0 in (
      d.0,
      (
        same_two (λ u v. tree.When u v sign) _ _ _ _ d.1.0
            (ap (λ n. name_at (variable_names n) clock) node ∙ found.0),
        both _ _ (ap (λ n. nat_lt clock.0 (length (variable_names n))) node ∙ found.1) d.1.1,
        d.1.2,
      ),
      both _ _ is d.2,
    ))
    (λ f h. second_refused f
    (counted (is_told f Variables) (is_variable (program_of before) before.node) x) _ h)
    c.nested-in-When.ensures)

pub term-returns-in_ok-size-in-Replicate : goal.term-returns-in_ok-size-in-Replicate
term-returns-in_ok-size-in-Replicate t c =
    let before = progress c.args.here.now in
    let mid = progress c.one_static.new.here in
    let after = progress c.nested-in-Replicate.new.here in
    let id = c.in_ok-size-in-Replicate.size in
    let n = view_static c.in-Replicate.n in
    let a = c.in-Replicate.a.value in
    let s = c.in_ok-size-in-Replicate.ensures in
    rw c.in-Replicate.is (nested_as before mid after (outer.Replicate id) _ a
    (tree.Replicate (view a) n) c.nested-in-Replicate.result c.deref-in-Replicate.ensures
    (λ b d. let r = static_done before mid after _ n (view a) id b.value s d in
    (r.0, (same_two tree.Replicate _ _ _ _ r.2.0 r.1.0, both _ _ r.1.1 r.2.1, r.2.2), r.3))
    (λ f h. second_refused f (static_told f before n) _
    (after_part before mid (Size, n) f (view a) s.0 h))
    c.nested-in-Replicate.ensures)

pub term-returns-in_ok-index-in-Index : goal.term-returns-in_ok-index-in-Index
term-returns-in_ok-index-in-Index t c =
    let before = progress c.args.here.now in
    let mid = progress c.one_static-in-Index.new.here in
    let after = progress c.nested-in-Index.new.here in
    let id = c.in_ok-index-in-Index.index in
    let n = view_static c.in-Index.i in
    let a = c.in-Index.a.value in
    let s = c.in_ok-index-in-Index.ensures in
    rw c.in-Index.is (nested_as before mid after (outer.Index id) _ a
    (tree.Index (view a) n) c.nested-in-Index.result c.deref-in-Index.ensures
    (λ b d. let r = static_done before mid after _ n (view a) id b.value s d in
    (r.0, (same_two tree.Index _ _ _ _ r.2.0 r.1.0, both _ _ r.1.1 r.2.1, r.2.2), r.3))
    (λ f h. second_refused f (static_told f before n) _
    (after_part before mid (Index, n) f (view a) s.0 h))
    c.nested-in-Index.ensures)

pub term-returns-in_ok-end-in-Slice : goal.term-returns-in_ok-end-in-Slice
term-returns-in_ok-end-in-Slice t c =
    let before = progress c.args.here.now in
    let mid = progress c.one_static-in-Slice.new.here in
    let next = progress c.one_static-in-Slice-2.new.here in
    let after = progress c.nested-in-Slice.new.here in
    let start = c.in_ok-start-in-Slice.start in
    let end = c.in_ok-end-in-Slice.end in
    let a = c.in-Slice.a.value in
    let i = view_static c.in-Slice.i in
    let j = view_static c.in-Slice.j in
    let s = c.in_ok-start-in-Slice.ensures in
    let p = c.in_ok-end-in-Slice.ensures in
    rw c.in-Slice.is (nested_as before next after (outer.Slice start end) _ a
    (tree.Slice (view a) i j) c.nested-in-Slice.result c.deref-in-Slice.ensures
    (λ b d.
    let q = static_done mid next after (SliceEnd i) j (view a) end b.value p d in
    let r = statics_done before mid after SliceStart (SliceEnd i) i j (view a) start end b.value s q
    in (
      r.0,
      (
        ap (λ z. tree.Slice (expr_of (texts after) b.value) z (static_at (texts after).statics end))
            r.1.0
            ∙ same_two (λ x z. tree.Slice z i x) _ _ _ _ r.2.0 r.3.0,
        both _ _ r.1.1 (both _ _ r.2.1 r.3.1),
        r.3.2,
      ),
      r.4,
    ))
    (λ f h. second_refused f (static_told f before i) _ (second_refused f (static_told f before j) _
    (after_part before mid (SliceStart, i) f (view a) s.0
    (after_part mid next (SliceEnd i, j) f (view a) p.0 h))))
    c.nested-in-Slice.ensures)

pub term-returns-in-Array : goal.term-returns-in-Array
term-returns-in-Array t c =
    let before = progress c.args.here.now in
    let after = progress c.row.new.here in
    let es = c.in-Array.items in
    let at = c.in-Array.field-1 in
    rw c.in-Array.is (row_as before before after heads.Array _ es.items
    (view (source.Array es at)) c.row.result c.deref-in-Array.ensures.value
    (λ ts d. array_done before after es at ts d)
    (λ f h. array_fault before f es at h) c.row.ensures)

pub term-returns-in-AtMostOne : goal.term-returns-in-AtMostOne
term-returns-in-AtMostOne t c =
    let before = progress c.args.here.now in
    let after = progress c.row-in-AtMostOne.new.here in
    let es = c.in-AtMostOne.choices in
    let at = c.in-AtMostOne.field-1 in
    rw c.in-AtMostOne.is (row_as before before after heads.AtMostOne _ es.items
    (view (source.AtMostOne es at)) c.row-in-AtMostOne.result c.deref-in-AtMostOne.ensures.value
    (λ ts d. at_most_one_done before after es at ts d)
    (λ f h. at_most_one_fault before f es at h) c.row-in-AtMostOne.ensures)

pub term-returns-in-Nor : goal.term-returns-in-Nor
term-returns-in-Nor t c =
    let before = progress c.args.here.now in
    let after = progress c.row-in-Nor.new.here in
    let es = c.in-Nor.operands in
    let at = c.in-Nor.field-1 in
    rw c.in-Nor.is (row_as before before after heads.Nor _ es.items
    (view (source.Nor es at)) c.row-in-Nor.result c.deref-in-Nor.ensures.value
    (λ ts d. nor_done before after es at ts d)
    (λ f h. nor_fault before f es at h) c.row-in-Nor.ensures)

-- a call of a name with these static arguments, as it is written
resolved_call : (before mid : Progress) (f : Name) (ss args : List Static)
    (count wanted : Option tree.Static) (id : CallId) → ss ≡ args → count ≡ wanted
    → ResolvesCall before mid (site_for f ss count) (Ok id)
    → ResolvesCall before mid (site_for f args wanted) (Ok id)
resolved_call before mid f ss args count wanted id same told h =
    subst (λ o. ResolvesCall before mid (site_for f args o) (Ok id)) told
    (subst (λ l. ResolvesCall before mid (site_for f l count) (Ok id)) same h)

pub term-returns-in_ok-site-in-Call : goal.term-returns-in_ok-site-in-Call
term-returns-in_ok-site-in-Call t c =
    let before = progress c.args.here.now in
    let mid = progress c.call.new.here in
    let after = progress c.row-in-Call.new.here in
    let f = c.in-Call.callee in
    let args = c.in-Call.statics in
    let es = c.in-Call.arguments in
    let id = c.in_ok-site-in-Call.site in
    let d = resolved_call before mid f _ args.items None None id c.deref-in-Call.ensures.value refl
    c.in_ok-site-in-Call.ensures in
    rw c.in-Call.is (row_as before mid after (heads.Call id) _ es.items
    (view (source.Call f args es)) c.row-in-Call.result c.deref-in-Call-2.ensures.value
    (λ ts g. call_term_done before after es ts f args id
    (call_done before mid after (site_for f args.items None) (map view es.items) id ts d g))
    (λ e h. fault_after_call before mid e f args es (arguments_of (view_statics args.items))
    (site_for f args.items None ∷ []) d.0 h) c.row-in-Call.ensures)

pub term-returns-in_ok-site-in-Node : goal.term-returns-in_ok-site-in-Node
term-returns-in_ok-site-in-Node t c =
    let before = progress c.args.here.now in
    let mid = progress c.one_static-in-Iterate.new.here in
    let next = progress c.call-in-Node.new.here in
    let after = progress c.row-in-Node.new.here in
    let it = c.in-Iterate.iterator in
    let o = c.in-Iterate.operator in
    let f = c.in-Node.callee in
    let args = c.in-Node.statics in
    let n = c.in-Iterate.n in
    let es = c.in-Iterate.arguments in
    let at = c.in-Iterate.field-4 in
    let id = c.in_ok-site-in-Node.site in
    let size = c.in_ok-size-in-Iterate.ensures in
    let x = site_for f args.items (Some (view_static n)) in
    let d = resolved_call mid next f _ args.items _
    (Some (view_static n)) id c.deref-in-Node.ensures.value
    (ap Some size.1.0) c.in_ok-site-in-Node.ensures in
    let same = sym c.as_ref.ensures ∙ c.in-Node.is in
    rw c.in-Iterate.is (row_as before next after
    (heads.IterateNode it id) _ es.items _ c.row-in-Node.result c.deref-in-Node-2.ensures.value
    (λ ts g.
    let q = call_done mid next after x (map view es.items) id ts d g in
    iterate_node_done before after es ts it o f args same n at id
    (sized_call_done before mid after Size (view_static n) x
    (map view es.items) c.in_ok-size-in-Iterate.size id ts.items size q))
    (λ e h. fault_after_node before mid e it o f args same n es at
    ((Size, view_static n) ∷ []) [] size.0
    (subst (λ k. IsNameFault e (exprs_told e k (map view es.items))) d.0 h)) c.row-in-Node.ensures)

pub term-returns-in-Symbol : goal.term-returns-in-Symbol
term-returns-in-Symbol t c =
    let before = progress c.args.here.now in
    let mid = progress c.one_static-in-Iterate.new.here in
    let after = progress c.row-in-Symbol.new.here in
    let it = c.in-Iterate.iterator in
    let o = c.in-Iterate.operator in
    let op = c.in-Symbol.op in
    let n = c.in-Iterate.n in
    let es = c.in-Iterate.arguments in
    let at = c.in-Iterate.field-4 in
    let id = c.in_ok-size-in-Iterate.size in
    let size = c.in_ok-size-in-Iterate.ensures in
    let same = sym c.as_ref.ensures ∙ c.in-Symbol.is in
    rw c.in-Iterate.is
    (row_as before mid after (heads.IterateSymbol it op id) _ es.items _ c.row-in-Symbol.result
    c.deref-in-Symbol.ensures.value
    (λ ts g. iterate_symbol_done before after es ts it o op same n at id
    (size_done before mid after Size (view_static n) (map view es.items) id ts size g))
    (λ e h. fault_after_symbol before mid e it o op same n es at
    ((Size, view_static n) ∷ []) [] size.0 h) c.row-in-Symbol.ensures)

pub nested-returns-in-Group : goal.nested-returns-in-Group
nested-returns-in-Group t c =
    rw c.in-Group.is (c.in_ok-operand.operand, refl, c.in_ok-operand.ensures)

pub nested-returns-in-Unary : goal.nested-returns-in-Unary
nested-returns-in-Unary t c =
    rw c.in-Unary.is (c.in_ok-operand.operand, refl, c.in_ok-operand.ensures)

pub nested-returns-in-Binary : goal.nested-returns-in-Binary
nested-returns-in-Binary t c =
    rw c.in-Binary.is (c.in_ok-operand.operand, refl, c.in_ok-operand.ensures)

pub nested-returns-in-If : goal.nested-returns-in-If
nested-returns-in-If t c =
    rw c.in-If.is (c.in_ok-operand.operand, refl, c.in_ok-operand.ensures)

pub nested-returns-in-Arrow : goal.nested-returns-in-Arrow
nested-returns-in-Arrow t c =
    rw c.in-Arrow.is (c.in_ok-operand.operand, refl, c.in_ok-operand.ensures)

pub nested-returns-in-Fby : goal.nested-returns-in-Fby
nested-returns-in-Fby t c =
    rw c.in-Fby.is (c.in_ok-operand.operand, refl, c.in_ok-operand.ensures)

pub nested-returns-in-Pre : goal.nested-returns-in-Pre
nested-returns-in-Pre t c =
    rw c.in-Pre.is (c.in_ok-operand.operand, refl, c.in_ok-operand.ensures)

pub nested-returns-in-Current : goal.nested-returns-in-Current
nested-returns-in-Current t c =
    rw c.in-Current.is (c.in_ok-operand.operand, refl, c.in_ok-operand.ensures)

pub nested-returns-in-When : goal.nested-returns-in-When
nested-returns-in-When t c =
    rw c.in-When.is (c.in_ok-operand.operand, refl, c.in_ok-operand.ensures)

pub nested-returns-in-Replicate : goal.nested-returns-in-Replicate
nested-returns-in-Replicate t c =
    rw c.in-Replicate.is (c.in_ok-operand.operand, refl, c.in_ok-operand.ensures)

pub nested-returns-in-Index : goal.nested-returns-in-Index
nested-returns-in-Index t c =
    rw c.in-Index.is (c.in_ok-operand.operand, refl, c.in_ok-operand.ensures)

pub nested-returns-in-Slice : goal.nested-returns-in-Slice
nested-returns-in-Slice t c =
    rw c.in-Slice.is (c.in_ok-operand.operand, refl, c.in_ok-operand.ensures)

pub nested-returns-in-Join : goal.nested-returns-in-Join
nested-returns-in-Join t c =
    rw c.in-Join.is (c.in_ok-operand.operand, refl, c.in_ok-operand.ensures)

pub row-returns-in-Array : goal.row-returns-in-Array
row-returns-in-Array t c = rw c.in-Array.is (c.in_ok-all.all, refl, c.in_ok-all.ensures)

pub row-returns-in-AtMostOne : goal.row-returns-in-AtMostOne
row-returns-in-AtMostOne t c = rw c.in-AtMostOne.is (c.in_ok-all.all, refl, c.in_ok-all.ensures)

pub row-returns-in-Nor : goal.row-returns-in-Nor
row-returns-in-Nor t c = rw c.in-Nor.is (c.in_ok-all.all, refl, c.in_ok-all.ensures)

pub row-returns-in-Call : goal.row-returns-in-Call
row-returns-in-Call t c = rw c.in-Call.is (c.in_ok-all.all, refl, c.in_ok-all.ensures)

pub row-returns-in-IterateNode : goal.row-returns-in-IterateNode
row-returns-in-IterateNode t c = rw c.in-IterateNode.is (c.in_ok-all.all, refl, c.in_ok-all.ensures)

pub row-returns-in-IterateSymbol : goal.row-returns-in-IterateSymbol
row-returns-in-IterateSymbol t c = rw c.in-IterateSymbol.is
    (c.in_ok-all.all, refl, c.in_ok-all.ensures)

pub terms-returns-in_err-term : goal.terms-returns-in_err-term
terms-returns-in_err-term t c =
    let p = err_from_is_err_and c.from_residual.result c.from_residual.ensures.1 in
    let here = progress c.loop-e.here in
    rw (p.1, p.2) (fault_of_item (progress c.args.here.now) here c.in_err-term.field-0.0
    c.args.es.now c.loop-e.e-index c.e-item.result c.loop-e-test.true c.e-item.is
    c.loop-e.invariant.0 c.in_err-term.ensures)

pub terms-loop-e-preserved : goal.terms-loop-e-preserved
terms-loop-e-preserved t c =
    let start = progress c.args.here.now in
    let after = progress c.term.new.here in
    let es = c.args.es.now in
    let r = next_done start (progress c.loop-e.here) after c.loop-e.all.items es c.loop-e.e-index
    c.e-item.result c.in_ok-term.field-0 c.loop-e-test.true c.e-item.is
    c.loop-e.invariant c.in_ok-term.ensures in
    subst (λ l. SoFar start after (map view (take (c.loop-e.e-index + 1) es)) l)
    (sym c.in_ok-push.ensures.items) r

pub terms-loop-e-init : goal.terms-loop-e-init
terms-loop-e-init t c =
    none_done (progress c.args.here.now) c.new-all.result.items c.new-all.ensures.items

pub terms-returns : goal.terms-returns
terms-returns t c =
    subst (λ l. SoFar (progress c.args.here.now) (progress c.loop-e.here) (map view l)
    c.loop-e.all.items) (take_all c.loop-e.e-index c.args.es.now c.loop-e-test.false)
    c.loop-e.invariant

pub term-returns-in-Literal : goal.term-returns-in-Literal
term-returns-in-Literal t c =
    rw c.in-Literal.is (number_done (progress c.args.here.now) c.in-Literal.n)

pub term-returns-in-Truth : goal.term-returns-in-Truth
term-returns-in-Truth t c =
    rw c.in-Truth.is (truth_done (progress c.args.here.now) c.in-Truth.b)

pub term-returns-in-Variable : goal.term-returns-in-Variable
term-returns-in-Variable t c = rw c.in-Variable.is c.named.ensures

pub boxed-returns : goal.boxed-returns
boxed-returns t c =
    subst (Done (progress c.args.here.now) (progress c.term.new.here) (view c.args.e.now))
    (sym c.in_ok-new.ensures.ok) c.in_ok-term.ensures

pub term-returns-in_err-site-in-Call : goal.term-returns-in_err-site-in-Call
term-returns-in_err-site-in-Call t c =
    let before = progress c.args.here.now in
    let f = c.in_err-site-in-Call.field-0.0 in
    exit_refused before _ c.args.e.now _ c.from_residual-in_err-site-in-Call.result f c.in-Call.is
    c.from_residual-in_err-site-in-Call.ensures.1
    (call_refused before f c.in-Call.callee c.deref-in-Call.result.now c.in-Call.statics
    c.in-Call.arguments (ap view_statics c.deref-in-Call.ensures.value)
    c.in_err-site-in-Call.ensures)

pub term-returns-in_err-site-in-Node : goal.term-returns-in_err-site-in-Node
term-returns-in_err-site-in-Node t c =
    let before = progress c.args.here.now in
    let mid = progress c.one_static-in-Iterate.new.here in
    let f = c.in_err-site-in-Node.field-0.0 in
    let n = c.in-Iterate.n in
    let size = c.in_ok-size-in-Iterate.ensures in
    exit_refused before _ c.args.e.now _ c.from_residual-in_err-site-in-Node.result f
    c.in-Iterate.is c.from_residual-in_err-site-in-Node.ensures.1
    (node_refused before mid f c.in-Iterate.iterator c.in-Iterate.operator c.in-Node.callee
    c.deref-in-Node.result.now c.in-Node.statics (sym c.as_ref.ensures ∙ c.in-Node.is) n
    c.in-Iterate.arguments c.in-Iterate.field-4
    (static_at (texts mid).statics c.in_ok-size-in-Iterate.size)
    ((Size, view_static n) ∷ []) size.0 (ap view_statics c.deref-in-Node.ensures.value) size.1.0
    c.in_err-site-in-Node.ensures)
