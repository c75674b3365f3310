-- Resolved parts one after another, and whole expressions.
use Rattle.std.proofs.Common.{◌≡◌, ℕ, zero, suc, ◌+◌, ◌<◌, Bool, true, false, List, [], ◌∷◌, ◌++◌}
use Rattle.std.proofs.Common.{length, take, drop, get_or, map, arith, Ok, Err, Vec, Global, refl}
use Rattle.std.proofs.Common.{ap, sym, subst, ◌∙◌, length-append}
use Rattle.std.specs.Prelude.{◌&&◌, ◌||◌, not, nat_le, nat_lt, slice_get, flat_map, cond, Result}
use Rattle.std.specs.Prelude.{Box, IfOk, IfErr, option_map, Option, None, Some}
use Rattle.std.specs.List.{list_all}
use Rattle.std.proofs.lemmas.List.{append-nil, map-append, length-map, take_more, take_all}
use Rattle.std.proofs.lemmas.List.{append_assoc}
use Rattle.std.proofs.Math.Seq.{drop-append_seam}
use Rattle.std.proofs.lemmas.Bool.Decides.{nat_tests}
use mathlib.Core.Former.{Count}
use Rattle.std.proofs.Math.Bool.{and-true}
use Rattle.std.proofs.lemmas.Bool.{and_from, and_left, and_right}
use Rattle.std.proofs.lemmas.List.Folds.{list_all-append}
use Rattle.lb_syntax.specs.Reading.{exprs}
use Rattle.lb_syntax.specs.Lists.{either_or}
use Rattle.lb_syntax.specs.Tree as tree
use Rattle.lb_syntax.specs.Tree.{Name, Static, Expr, Exprs}
use Rattle.lb_syntax.specs.View.{view, view_static, view_statics, view_operator}
use Rattle.lb_syntax.specs.declared.tree.Operator.{Operator}
use Rattle.lb_syntax.specs.declared.tree.Operator.TheVariants.{Node as Node_operator}
use Rattle.lb_syntax.specs.declared.tree.Operator.TheVariants.{Symbol as Symbol_operator}
use Rattle.lb_syntax.specs.declared.tree.Static.{Static as Static'}
use Rattle.lb_syntax.specs.declared.tree.ArrayIterator.{ArrayIterator}
use Rattle.lb_syntax.specs.declared.tree.BinaryOperator.{BinaryOperator}
use Rattle.lb_syntax.specs.declared.tree.Expr as source
use Rattle.lb_syntax.specs.declared.tree.Expr.{Array', AtMostOne', Nor', Call', Iterate'}
use Rattle.lb_syntax.specs.declared.tree.Expr.{Row_of-Expr, end_of-Expr}
use Rattle.lb_syntax.specs.declared.tree.Expr.{items_hidden-the_row-Expr-0}
use Rattle.lb_syntax.proofs.Views.{view_row-items}
use Rattle.std.proofs.lemmas.Option.{slice_get-map, slice_get_within}
use Rattle.lb_syntax.proofs.ListPlaces.{get_last}
use Rattle.lb_static.specs.Instances.{Site, sites, sites_in}
use Rattle.lb_static.specs.NameFaults.{IsNameFault, is_told}
use Rattle.lb_static.specs.NodeNames.{all_pass, IsCallee, IsVariableAt}
use Rattle.lb_static.specs.Names.{is_callable, is_constant, is_static_name}
use Rattle.lb_static.specs.Parts.{among, variable_names}
use Rattle.lb_static.specs.declared.resolved.NodePlace.{NodePlace}
use Rattle.lb_static.specs.NodeProgress.{Progress, texts, counts_in, grown, callees, is_variable_of}
use Rattle.lb_static.specs.NodeProgress.{program_of, after_expr, after_exprs, Stands, StandAll}
use Rattle.lb_static.specs.NodeProgress.{StaticStands, CallStands, ResolvesTerm, ResolvesTerms}
use Rattle.lb_static.specs.NodeProgress.{ResolvesStatic, ResolvesCall, StaticsStand, statics_fit}
use Rattle.lb_static.specs.NodeProgress.{expr_passes, exprs_pass, static_fits, call_fits}
use Rattle.lb_static.specs.NodeProgress.{expr_told, exprs_told, static_told, statics_told}
use Rattle.lb_static.specs.NodeProgress.{call_told}
use Rattle.lb_static.specs.NodeNames.{all_pass_where}
use Rattle.lb_static.specs.ResolvedTerms.{Texts, Counts, expr_of, row_of, static_at, is_within}
use Rattle.lb_static.specs.ResolvedTerms.{are_within, is_no_variable, is_unhidden, are_unhidden}
use Rattle.lb_static.specs.ResolvedTerms.{named_value, iterate_expr, no_site, site_of}
use Rattle.lb_static.specs.ResolvedTerms.{are_statics, is_count_within, is_site_within}
use Rattle.lb_static.specs.PartKeys.{letter_of}
use Rattle.lb_static.specs.SharedParts.{place_of, with_part, with_parts}
use Rattle.lb_static.specs.StaticParts.{Part, Purpose, Argument, Size, Value as Value_role}
use Rattle.lb_static.specs.StaticParts.{parts_of, parts_in, arguments_of}
use Rattle.lb_static.specs.declared.error.StaticError.{StaticError}
use Rattle.lb_static.specs.declared.resolved.CallId.{CallId}
use Rattle.lb_static.specs.declared.resolved.CallSite.{CallSite}
use Rattle.lb_static.specs.declared.resolved.StaticId.{StaticId}
use Rattle.lb_static.specs.declared.resolved.Term as term
use Rattle.lb_static.specs.declared.resolved.Term.{Term, Row_of-Term, end_of-Term, more_of-Term}
use Rattle.lb_static.specs.declared.resolved.Term.{items-the_row-Term, items_hidden-the_row-Term-0}
use Rattle.lb_static.specs.declared.resolved.VariableId.{VariableId}
use Rattle.lb_static.proofs.Faults.{fault_within}
use Rattle.lb_static.proofs.Growth.{count_stays, same_two}
use Rattle.lb_static.proofs.GrownNodes.{grown_nothing, grown_twice, stands_grown}
use Rattle.lb_static.proofs.GrownNodes.{all_stand_grown}
use Rattle.lb_static.proofs.GrownNodes.{static_stands_grown, call_stands_grown, count_within_grown}
use Rattle.lb_static.proofs.Lists.{map_map}
use Rattle.lb_static.proofs.Scopes.{among_append}
use Rattle.lb_static.proofs.SharedParts.{own_kept, place_stands}

-- ## One part after another

abbrev pub Done : (before after : Progress) → Expr → Term → Type 0
Done before after e t = ResolvesTerm before after e (Ok t)

-- two expressions that are resolved one after the other
abbrev pub Two : (before after : Progress) (e f : Expr) (t u : Term) → Type 0
Two before after e f t u =
    (after ≡ grown before (parts_of (is_variable_of before) e ++ parts_of (is_variable_of before) f)
    (sites e ++ sites f))
    × Stands after e t × Stands after f u × ((expr_passes before e && expr_passes before f) ≡ true)

pub two_done : (before mid after : Progress) (e f : Expr) (t u : Term) → Done before mid e t
    → Done mid after f u → Two before after e f t u
two_done before mid after e f t u d g =
    let h : Done (after_expr before e) after f u = subst (λ m. Done m after f u) d.0 g in
    let first : Stands after e t =
    subst (λ m. Stands m e t) (sym g.0)
    (stands_grown mid (parts_of (is_variable_of mid) f) (sites f) e t d.1) in (
      h.0 ∙ grown_twice before (parts_of (is_variable_of before) e)
          (parts_of (is_variable_of before) f) (sites e) (sites f),
      first,
      h.1,
      and_from (expr_passes before e)
          (expr_passes before f) d.2 h.2,
    )

abbrev pub Three : (before after : Progress) (c e f : Expr) (s t u : Term) → Type 0
Three before after c e f s t u =
    (after ≡ grown before
    (parts_of (is_variable_of before) c
    ++ (parts_of (is_variable_of before) e ++ parts_of (is_variable_of before) f))
    (sites c ++ (sites e ++ sites f)))
    × Stands after c s × Stands after e t × Stands after f u
    × ((expr_passes before c && (expr_passes before e && expr_passes before f)) ≡ true)

pub three_done : (before mid after : Progress) (c e f : Expr) (s t u : Term) → Done before mid c s
    → Two mid after e f t u → Three before after c e f s t u
three_done before mid after c e f s t u d g =
    let h : Two (after_expr before c) after e f t u = subst (λ m. Two m after e f t u) d.0 g in
    let first : Stands after c s =
    subst (λ m. Stands m c s) (sym g.0)
    (stands_grown mid (parts_of (is_variable_of mid) e ++ parts_of (is_variable_of mid) f)
    (sites e ++ sites f) c s d.1) in (
      h.0 ∙ grown_twice before (parts_of (is_variable_of before) c)
          (parts_of (is_variable_of before) e ++ parts_of (is_variable_of before) f) (sites c)
          (sites e ++ sites f),
      first,
      h.1,
      h.2,
      and_from (expr_passes before c)
          (expr_passes before e && expr_passes before f) d.2 h.3,
    )

-- a static expression that is resolved, and then an expression
abbrev pub WithStatic : (before after : Progress) (role : Purpose) (x : Static) (e : Expr)
    (id : StaticId) (t : Term) → Type 0
WithStatic before after role x e id t =
    (after ≡ grown before ((role, x) ∷ parts_of (is_variable_of before) e) (sites e))
    × StaticStands after x id × Stands after e t
    × ((static_fits before x && expr_passes before e) ≡ true)

pub static_done : (before mid after : Progress) (role : Purpose) (x : Static) (e : Expr)
    (id : StaticId) (t : Term) → ResolvesStatic before mid role x (Ok id)
    → Done mid after e t → WithStatic before after role x e id t
static_done before mid after role x e id t d g =
    let h : Done (grown before ((role, x) ∷ []) []) after e t =
    subst (λ m. Done m after e t) d.0 g in
    let first : StaticStands after x id = subst (λ m. StaticStands m x id) (sym g.0)
    (static_stands_grown mid (parts_of (is_variable_of mid) e) (sites e) x id d.1) in (
      h.0 ∙ grown_twice before ((role, x) ∷ []) (parts_of (is_variable_of before) e) [] (sites e),
      first,
      h.1,
      and_from (static_fits before x) (expr_passes before e) d.2 h.2,
    )

abbrev pub WithStatics : (before after : Progress) (r q : Purpose) (x y : Static) (e : Expr)
    (i j : StaticId) (t : Term) → Type 0
WithStatics before after r q x y e i j t =
    (after ≡ grown before ((r, x) ∷ ((q, y) ∷ parts_of (is_variable_of before) e)) (sites e))
    × StaticStands after x i × StaticStands after y j × Stands after e t
    × ((static_fits before x && (static_fits before y && expr_passes before e)) ≡ true)

pub statics_done : (before mid after : Progress) (r q : Purpose) (x y : Static) (e : Expr)
    (i j : StaticId) (t : Term) → ResolvesStatic before mid r x (Ok i)
    → WithStatic mid after q y e j t → WithStatics before after r q x y e i j t
statics_done before mid after r q x y e i j t d g =
    let h : WithStatic (grown before ((r, x) ∷ []) []) after q y e j t =
    subst (λ m. WithStatic m after q y e j t) d.0 g in
    let first : StaticStands after x i = subst (λ m. StaticStands m x i) (sym g.0)
    (static_stands_grown mid ((q, y) ∷ parts_of (is_variable_of mid) e) (sites e) x i d.1) in (
      h.0 ∙ grown_twice before ((r, x) ∷ []) ((q, y) ∷ parts_of (is_variable_of before) e) []
          (sites e),
      first,
      h.1,
      h.2,
      and_from (static_fits before x) (static_fits before y && expr_passes before e) d.2 h.3,
    )

-- a list of expressions that is resolved
abbrev pub AllDone : (before after : Progress) → List Expr → Vec Term Global → Type 0
AllDone before after es ts = ResolvesTerms before after es (Ok ts)

abbrev pub WithCall : (before after : Progress) (x : Site) (es : List Expr) (id : CallId)
    (ts : List Term) → Type 0
WithCall before after x es id ts =
    (after ≡ grown before (arguments_of x.arguments
    ++ flat_map (parts_of (is_variable_of before)) es) (x ∷ flat_map sites es))
    × CallStands after x id × StandAll after es ts
    × ((call_fits before x && exprs_pass before es) ≡ true)

pub call_done : (before mid after : Progress) (x : Site) (es : List Expr) (id : CallId)
    (ts : Vec Term Global) → ResolvesCall before mid x (Ok id)
    → AllDone mid after es ts → WithCall before after x es id ts.items
call_done before mid after x es id ts d g =
    let h : AllDone (grown before (arguments_of x.arguments) (x ∷ [])) after es ts =
    subst (λ m. AllDone m after es ts) d.0 g in
    let first : CallStands after x id = subst (λ m. CallStands m x id) (sym g.0)
    (call_stands_grown mid (flat_map (parts_of (is_variable_of mid)) es) (flat_map sites es) x
    id d.1) in (
      h.0 ∙ grown_twice before (arguments_of x.arguments)
          (flat_map (parts_of (is_variable_of before)) es) (x ∷ []) (flat_map sites es),
      first,
      h.1,
      and_from (call_fits before x) (exprs_pass before es) d.2 h.2,
    )

abbrev pub WithSize : (before after : Progress) (role : Purpose) (y : Static) (es : List Expr)
    (i : StaticId) (ts : List Term) → Type 0
WithSize before after role y es i ts =
    (after ≡ grown before ((role, y) ∷ flat_map (parts_of (is_variable_of before)) es)
    (flat_map sites es))
    × StaticStands after y i × StandAll after es ts
    × ((static_fits before y && exprs_pass before es) ≡ true)

pub size_done : (before mid after : Progress) (role : Purpose) (y : Static) (es : List Expr)
    (i : StaticId) (ts : Vec Term Global) → ResolvesStatic before mid role y (Ok i)
    → AllDone mid after es ts → WithSize before after role y es i ts.items
size_done before mid after role y es i ts d g =
    let h : AllDone (grown before ((role, y) ∷ []) []) after es ts =
    subst (λ m. AllDone m after es ts) d.0 g in
    let first : StaticStands after y i = subst (λ m. StaticStands m y i) (sym g.0)
    (static_stands_grown mid (flat_map (parts_of (is_variable_of mid)) es) (flat_map sites es) y
    i d.1) in (
      h.0 ∙ grown_twice before ((role, y) ∷ []) (flat_map (parts_of (is_variable_of before)) es) []
          (flat_map sites es),
      first,
      h.1,
      and_from (static_fits before y) (exprs_pass before es) d.2 h.2,
    )

abbrev pub WithSizedCall : (before after : Progress) (role : Purpose) (y : Static) (x : Site)
    (es : List Expr) (id : CallId) (ts : List Term) → Type 0
WithSizedCall before after role y x es id ts =
    (after ≡ grown before ((role, y)
    ∷ (arguments_of x.arguments ++ flat_map (parts_of (is_variable_of before)) es))
    (x ∷ flat_map sites es))
    × CallStands after x id × StandAll after es ts
    × ((static_fits before y && (call_fits before x && exprs_pass before es)) ≡ true)

pub sized_call_done : (before mid after : Progress) (role : Purpose) (y : Static) (x : Site)
    (es : List Expr) (i : StaticId) (id : CallId) (ts : List Term)
    → ResolvesStatic before mid role y (Ok i) → WithCall mid after x es id ts
    → WithSizedCall before after role y x es id ts
sized_call_done before mid after role y x es i id ts d g =
    let h : WithCall (grown before ((role, y) ∷ []) []) after x es id ts =
    subst (λ m. WithCall m after x es id ts) d.0 g in (
      h.0 ∙ grown_twice before ((role, y) ∷ [])
          (arguments_of x.arguments ++ flat_map (parts_of (is_variable_of before)) es) []
          (x ∷ flat_map sites es),
      h.1,
      h.2,
      and_from (static_fits before y) (call_fits before x && exprs_pass before es) d.2 h.3,
    )

-- ## The expressions of a vector

abbrev source_row : source.Expr → (n : Count) × Row_of-Expr n
source_row (Array' _ row _) = (_, row)
source_row (AtMostOne' _ row _) = (_, row)
source_row (Nor' _ row _) = (_, row)
source_row (Call' _ _ _ row) = (_, row)
source_row (Iterate' _ _ _ _ row _) = (_, row)
source_row _ = (_, end_of-Expr)

pub view_array : (es : Vec source.Expr Global) (at : ℕ)
    → view (source.Array es at) ≡ tree.Array (exprs (map view es.items))
view_array es at =
    let row = source_row (source.Array es at) in
    ap (λ (z : Exprs). tree.Array z)
    (view_row-items row.0 row.1 ∙ ap (λ z. exprs (map view z)) (items_hidden-the_row-Expr-0 es))

pub view_at_most_one : (es : Vec source.Expr Global) (at : ℕ)
    → view (source.AtMostOne es at) ≡ tree.AtMostOne (exprs (map view es.items))
view_at_most_one es at =
    let row = source_row (source.AtMostOne es at) in
    ap (λ (z : Exprs). tree.AtMostOne z)
    (view_row-items row.0 row.1 ∙ ap (λ z. exprs (map view z)) (items_hidden-the_row-Expr-0 es))

pub view_nor : (es : Vec source.Expr Global) (at : ℕ)
    → view (source.Nor es at) ≡ tree.Nor (exprs (map view es.items))
view_nor es at =
    let row = source_row (source.Nor es at) in
    ap (λ (z : Exprs). tree.Nor z)
    (view_row-items row.0 row.1 ∙ ap (λ z. exprs (map view z)) (items_hidden-the_row-Expr-0 es))

pub view_call : (f : Name) (args : Vec Static' Global) (es : Vec source.Expr Global)
    → view (source.Call f args es)
    ≡ tree.Call f (view_statics args.items) (exprs (map view es.items))
view_call f args es =
    let row = source_row (source.Call f args es) in
    ap (λ (z : Exprs). tree.Call f (view_statics args.items) z)
    (view_row-items row.0 row.1 ∙ ap (λ z. exprs (map view z)) (items_hidden-the_row-Expr-0 es))

-- the operator of an iteration that is in a box
pub view_iterate : (it : ArrayIterator) (o : Box Operator Global) (w : Operator) → o.value ≡ w
    → (n : Static') (es : Vec source.Expr Global) (at : ℕ)
    → view (source.Iterate it o n es at)
    ≡ tree.Iterate it (view_operator w) (view_static n) (exprs (map view es.items))
view_iterate it o w same n es at =
    let row = source_row (source.Iterate it o n es at) in
    ap (λ (z : Exprs). tree.Iterate it (view_operator o.value) (view_static n) z)
    (view_row-items row.0 row.1 ∙ ap (λ z. exprs (map view z)) (items_hidden-the_row-Expr-0 es))
    ∙ ap (λ z. tree.Iterate it (view_operator z) (view_static n) (exprs (map view es.items))) same

-- ## The terms of a vector

abbrev term_row : Term → (n : Count) × Row_of-Term n
term_row (term.Array' _ row) = (_, row)
term_row (term.AtMostOne' _ row) = (_, row)
term_row (term.Nor' _ row) = (_, row)
term_row (term.Call' _ _ row) = (_, row)
term_row (term.IterateNode' _ _ _ row) = (_, row)
term_row (term.IterateSymbol' _ _ _ _ row) = (_, row)
term_row _ = (_, end_of-Term)

exprs_row : (t : Texts) (n : _) (row : Row_of-Term n)
    → row_of t row ≡ exprs (map (expr_of t) (items-the_row-Term n row))
exprs_row t n end_of-Term = refl
exprs_row t n (more_of-Term e rest) =
    ap (λ (es : Exprs). tree.Cons (expr_of t e) es) (exprs_row t _ rest)

within_row : (m : Counts) (n : _) (row : Row_of-Term n)
    → are_within m row ≡ list_all (is_within m) (items-the_row-Term n row)
within_row m n end_of-Term = refl
within_row m n (more_of-Term e rest) = ap (λ b. is_within m e && b) (within_row m _ rest)

unhidden_row : (t : Texts) (n : _) (row : Row_of-Term n)
    → are_unhidden t row ≡ list_all (is_unhidden t) (items-the_row-Term n row)
unhidden_row t n end_of-Term = refl
unhidden_row t n (more_of-Term e rest) = ap (λ b. is_unhidden t e && b) (unhidden_row t _ rest)

-- the static expressions of a list of expressions are those of its items
pub parts_exprs : (variable : Name → Bool) (es : List Expr)
    → parts_in variable (exprs es) ≡ flat_map (parts_of variable) es
parts_exprs variable [] = refl
parts_exprs variable (e ∷ es) = ap (λ l. parts_of variable e ++ l) (parts_exprs variable es)

pub sites_exprs : (es : List Expr) → sites_in (exprs es) ≡ flat_map sites es
sites_exprs [] = refl
sites_exprs (e ∷ es) = ap (λ l. sites e ++ l) (sites_exprs es)

pub pass_exprs : (s : Progress) (es : List Expr)
    → all_pass (program_of s) s.node (exprs es) ≡ exprs_pass s es
pass_exprs s [] = refl
pass_exprs s (e ∷ es) = ap (λ b. expr_passes s e && b) (pass_exprs s es)

told_exprs : (f : StaticError) (s : Progress) (es : List Expr)
    → all_pass_where (is_told f) (program_of s) s.node (exprs es) ≡ exprs_told f s es
told_exprs f s [] = refl
told_exprs f s (e ∷ es) = ap (λ b. expr_told f s e && b) (told_exprs f s es)

-- the relation of the operands of a term to a list of expressions
pub record RowStands (s : Progress) (es : List Expr) {n : Count} (row : Row_of-Term n) : Type 0
  where
    pub stands : row_of (texts s) row ≡ exprs es
    pub within : are_within (counts_in (texts s)) row ≡ true
    pub unhidden : are_unhidden (texts s) row ≡ true

row_stands : (s : Progress) (es : List Expr) (ts : Vec Term Global) (n : Count)
    (row : Row_of-Term n) → items-the_row-Term n row ≡ ts.items → StandAll s es ts.items
    → RowStands s es row
row_stands s es ts n row same h = record {
  stands = exprs_row (texts s) n row ∙ ap (λ l. exprs (map (expr_of (texts s)) l)) same
      ∙ ap exprs h.0;
  within = within_row (counts_in (texts s)) n row
      ∙ ap (list_all (is_within (counts_in (texts s)))) same ∙ h.1;
  unhidden = unhidden_row (texts s) n row ∙ ap (list_all (is_unhidden (texts s))) same ∙ h.2;
}

grown_exprs : (before : Progress) (es : List Expr)
    → grown before (parts_in (is_variable_of before) (exprs es)) (sites_in (exprs es))
    ≡ after_exprs before es
grown_exprs before es = same_two (grown before) _ _ _ _ (parts_exprs (is_variable_of before) es)
    (sites_exprs es)

module _ (before after : Progress) (es : Vec source.Expr Global) (at : ℕ) (ts : Vec Term Global)
    (h : AllDone before after (map view es.items) ts) where
  pub array_done : Done before after (view (source.Array es at)) (term.Array ts)
  array_done =
      let row = term_row (term.Array ts) in
      let r = row_stands after (map view es.items) ts row.0 row.1 (items_hidden-the_row-Term-0 ts)
      h.1 in
      subst (λ e. Done before after e (term.Array ts)) (sym (view_array es at)) (
        h.0 ∙ sym (grown_exprs before (map view es.items)),
        (ap tree.Array r.stands, r.within, r.unhidden),
        pass_exprs before (map view es.items) ∙ h.2,
      )

  pub at_most_one_done : Done before after (view (source.AtMostOne es at)) (term.AtMostOne ts)
  at_most_one_done =
      let row = term_row (term.AtMostOne ts) in
      let r = row_stands after (map view es.items) ts row.0 row.1 (items_hidden-the_row-Term-0 ts)
      h.1 in
      subst (λ e. Done before after e (term.AtMostOne ts)) (sym (view_at_most_one es at)) (
        h.0 ∙ sym (grown_exprs before (map view es.items)),
        (ap tree.AtMostOne r.stands, r.within, r.unhidden),
        pass_exprs before (map view es.items)
            ∙ h.2,
      )

  pub nor_done : Done before after (view (source.Nor es at)) (term.Nor ts)
  nor_done =
      let row = term_row (term.Nor ts) in
      let r = row_stands after (map view es.items) ts row.0 row.1 (items_hidden-the_row-Term-0 ts)
      h.1 in
      subst (λ e. Done before after e (term.Nor ts)) (sym (view_nor es at)) (
        h.0 ∙ sym (grown_exprs before (map view es.items)),
        (ap tree.Nor r.stands, r.within, r.unhidden),
        pass_exprs before (map view es.items) ∙ h.2,
      )

-- an expression of a list that is refused: so is the list
module _ (s : Progress) (f : StaticError) (es : Vec source.Expr Global) (at : ℕ)
    (h : IsNameFault f (exprs_told f s (map view es.items))) where
  abbrev Refuses : Expr → Type 0
  Refuses e = IsNameFault f (expr_told f s e)

  pub array_fault : Refuses (view (source.Array es at))
  array_fault = subst Refuses (sym (view_array es at))
      (subst (IsNameFault f) (sym (told_exprs f s (map view es.items))) h)

  pub at_most_one_fault : Refuses (view (source.AtMostOne es at))
  at_most_one_fault = subst Refuses (sym (view_at_most_one es at))
      (subst (IsNameFault f) (sym (told_exprs f s (map view es.items))) h)

  pub nor_fault : Refuses (view (source.Nor es at))
  nor_fault = subst Refuses (sym (view_nor es at))
      (subst (IsNameFault f) (sym (told_exprs f s (map view es.items))) h)

-- ## Calls

abbrev pub site_for : Name → List Static' → Option Static → Site
site_for f args count = record { callee = f; arguments = view_statics args; count = count }

module _ (before after : Progress) (es : Vec source.Expr Global) (ts : Vec Term Global) where
  pub call_term_done : (f : Name) (args : Vec Static' Global) (id : CallId)
      → WithCall before after (site_for f args.items None) (map view es.items) id ts.items
      → Done before after (view (source.Call f args es)) (term.Call id ts)
  call_term_done f args id h =
      let row = term_row (term.Call id ts) in
      let r = row_stands after (map view es.items) ts row.0 row.1 (items_hidden-the_row-Term-0 ts)
      h.2 in
      let statics = view_statics args.items in
      subst (λ e. Done before after e (term.Call id ts)) (sym (view_call f args es)) (
        h.0 ∙ same_two (grown before) _ _ _ _
            (ap (λ l. arguments_of statics ++ l)
            (sym (parts_exprs (is_variable_of before) (map view es.items))))
            (ap (λ l. site_for f args.items None ∷ l) (sym (sites_exprs (map view es.items)))),
        (
          same_two (λ (s : Site) z. tree.Call s.callee s.arguments z) _ _ _ _ h.1.0 r.stands,
          and_from _
              _ h.1.1 r.within,
          r.unhidden,
        ),
        ap (λ b. call_fits before (site_for f args.items None) && b)
            (pass_exprs before (map view es.items)) ∙ h.3,
      )

  pub iterate_node_done : (it : ArrayIterator) (o : Box Operator Global) (f : Name)
      (args : Vec Static' Global) → o.value ≡ Node_operator f args → (n : Static') (at : ℕ)
      (id : CallId)
      → WithSizedCall before after Size (view_static n)
      (site_for f args.items (Some (view_static n))) (map view es.items) id ts.items
      → Done before after (view (source.Iterate it o n es at))
      (term.IterateNode it id ts)
  iterate_node_done it o f args same n at id h =
      let row = term_row (term.IterateNode it id ts) in
      let r = row_stands after (map view es.items) ts row.0 row.1 (items_hidden-the_row-Term-0 ts)
      h.2 in
      let statics = view_statics args.items in
      let here = site_for f args.items (Some (view_static n)) in
      subst (λ e. Done before after e (term.IterateNode it id ts))
      (sym (view_iterate it o (Node_operator f args) same n es at)) (
        h.0 ∙ same_two (grown before) _ _ _ _
            (ap (λ l. (Size, view_static n) ∷ (arguments_of statics ++ l))
            (sym (parts_exprs (is_variable_of before) (map view es.items))))
            (ap (λ l. here ∷ l) (sym (sites_exprs (map view es.items)))),
        (
          same_two (iterate_expr it) _ _ _ _ h.1.0 r.stands,
          and_from _ _ h.1.1 r.within,
          r.unhidden,
        ),
        ap (λ b. static_fits before (view_static n) && (call_fits before here && b))
            (pass_exprs before (map view es.items)) ∙ h.3,
      )

  pub iterate_symbol_done : (it : ArrayIterator) (o : Box Operator Global) (op : BinaryOperator)
      → o.value ≡ Symbol_operator op → (n : Static') (at : ℕ) (id : StaticId)
      → WithSize before after Size (view_static n) (map view es.items) id ts.items
      → Done before after (view (source.Iterate it o n es at))
      (term.IterateSymbol it op id ts)
  iterate_symbol_done it o op same n at id h =
      let row = term_row (term.IterateSymbol it op id ts) in
      let r = row_stands after (map view es.items) ts row.0 row.1 (items_hidden-the_row-Term-0 ts)
      h.2 in
      subst (λ e. Done before after e (term.IterateSymbol it op id ts))
      (sym (view_iterate it o (Symbol_operator op) same n es at)) (
        h.0 ∙ same_two (grown before) _ _ _ _
            (ap (λ l. (Size, view_static n) ∷ l)
            (sym (parts_exprs (is_variable_of before) (map view es.items))))
            (sym (sites_exprs (map view es.items))),
        (
          same_two (tree.Iterate it (tree.Symbol op)) _ _ _ _ h.1.0 r.stands,
          and_from _ _ h.1.1
              r.within,
          r.unhidden,
        ),
        ap (λ b. static_fits before (view_static n) && b) (pass_exprs before (map view es.items))
            ∙ h.3,
      )

-- ## An expression that is refused after other parts

pub fault_after_call : (s m : Progress) (f : StaticError) (x : Name) (args : Vec Static' Global)
    (es : Vec source.Expr Global) (P : List Part) (C : List Site)
    → m ≡ grown s P C → IsNameFault f (exprs_told f m (map view es.items))
    → IsNameFault f (expr_told f s (view (source.Call x args es)))
fault_after_call s m f x args es P C is h =
    let g : IsNameFault f (exprs_told f s (map view es.items)) =
    subst (λ k. IsNameFault f (exprs_told f k (map view es.items))) is h in
    subst (λ e. IsNameFault f (expr_told f s e)) (sym (view_call x args es))
    (fault_within f _ _ g (λ e. and_right (call_told f s (site_for x args.items None)) _
    (told_exprs f s (map view es.items) ∙ e)))

pub fault_after_node : (s m : Progress) (f : StaticError) (it : ArrayIterator)
    (o : Box Operator Global) (x : Name) (args : Vec Static' Global) → o.value ≡ Node_operator x args
    → (n : Static') (es : Vec source.Expr Global) (at : ℕ) (P : List Part) (C : List Site)
    → m ≡ grown s P C
    → IsNameFault f (exprs_told f m (map view es.items))
    → IsNameFault f (expr_told f s (view (source.Iterate it o n es at)))
fault_after_node s m f it o x args same n es at P C is h =
    let g : IsNameFault f (exprs_told f s (map view es.items)) =
    subst (λ k. IsNameFault f (exprs_told f k (map view es.items))) is h in
    subst (λ e. IsNameFault f (expr_told f s e))
    (sym (view_iterate it o (Node_operator x args) same n es at))
    (fault_within f _ _ g (λ e. and_right (static_told f s (view_static n)) _
    (and_right (call_told f s (site_for x args.items (Some (view_static n)))) _
    (told_exprs f s (map view es.items) ∙ e))))

pub fault_after_symbol : (s m : Progress) (f : StaticError) (it : ArrayIterator)
    (o : Box Operator Global) (op : BinaryOperator) → o.value ≡ Symbol_operator op
    → (n : Static') (es : Vec source.Expr Global) (at : ℕ) (P : List Part) (C : List Site)
    → m ≡ grown s P C
    → IsNameFault f (exprs_told f m (map view es.items))
    → IsNameFault f (expr_told f s (view (source.Iterate it o n es at)))
fault_after_symbol s m f it o op same n es at P C is h =
    let g : IsNameFault f (exprs_told f s (map view es.items)) =
    subst (λ k. IsNameFault f (exprs_told f k (map view es.items))) is h in
    subst (λ e. IsNameFault f (expr_told f s e))
    (sym (view_iterate it o (Symbol_operator op) same n es at))
    (fault_within f _ _ g (λ e. and_right (static_told f s (view_static n)) _
    (told_exprs f s (map view es.items) ∙ e)))

-- ## Loops

-- the invariant of a loop over expressions
abbrev pub SoFar : (start here : Progress) → List Expr → List Term → Type 0
SoFar start here es ts =
    (here ≡ after_exprs start es) × StandAll here es ts × (exprs_pass start es ≡ true)

pub none_done : (s : Progress) (ts : List Term) → ts ≡ [] → SoFar s s [] ts
none_done s ts none =
    subst (SoFar s s []) (sym none) (sym (grown_nothing s), (refl, refl, refl), refl)

pub flat_more : {A B : Type 0} (f : A → List B) (xs : List A) (x : A)
    → flat_map f (xs ++ x ∷ []) ≡ flat_map f xs ++ f x
flat_more f [] x = append-nil (f x)
flat_more f (y ∷ xs) x =
    ap (λ l. f y ++ l) (flat_more f xs x) ∙ sym (append_assoc (f y) (flat_map f xs) (f x))

pub one_more_done : (start before after : Progress) (es : List Expr) (ts : List Term) (e : Expr)
    (t : Term) → SoFar start before es ts → Done before after e t
    → SoFar start after (es ++ e ∷ []) (ts ++ t ∷ [])
one_more_done start before after es ts e t d g =
    let h : Done (after_exprs start es) after e t = subst (λ m. Done m after e t) d.0 g in
    let old : StandAll after es ts = subst (λ m. StandAll m es ts) (sym g.0)
    (all_stand_grown before (parts_of (is_variable_of before) e) (sites e) es ts d.1) in
    let v = is_variable_of start in
    let grew : after ≡ grown start (flat_map (parts_of v) es ++ parts_of v e)
    (flat_map sites es ++ sites e) =
    h.0 ∙ grown_twice start (flat_map (parts_of v) es) (parts_of v e) (flat_map sites es)
    (sites e) in (
      grew ∙ same_two (grown start) _ _ _ _ (sym (flat_more (parts_of v) es e))
          (sym (flat_more sites es e)),
      (
        map-append (expr_of (texts after)) ts (t ∷ [])
            ∙ same_two (λ (l : List Expr) x. l ++ x ∷ []) _ _ _ _ old.0 h.1.0,
        list_all-append (is_within (counts_in (texts after))) ts (t ∷ [])
            ∙ and_from _ _ old.1 (and-true (is_within (counts_in (texts after)) t) ∙ h.1.1),
        list_all-append (is_unhidden (texts after)) ts (t ∷ [])
            ∙ and_from _ _ old.2 (and-true (is_unhidden (texts after) t) ∙ h.1.2),
      ),
      list_all-append (expr_passes start) es (e ∷ [])
          ∙ and_from _ _ d.2 (and-true (expr_passes start e) ∙ h.2),
    )

pub next_done : (start before after : Progress) (ts : List Term) (es : List source.Expr) (i : ℕ)
    (e : source.Expr) (t : Term) → i < length es → e ≡ get_or es i e
    → SoFar start before (map view (take i es)) ts → Done before after (view e) t
    → SoFar start after (map view (take (i + 1) es)) (ts ++ t ∷ [])
next_done start before after ts es i e t below is d g =
    let same : map view (take i es) ++ view e ∷ [] ≡ map view (take (i + 1) es) =
    ap (λ x. map view (take i es) ++ view x ∷ []) is
    ∙ sym (map-append view (take i es) (get_or es i e ∷ []))
    ∙ ap (map view) (sym (take_more es i e below)) in
    subst (λ l. SoFar start after l (ts ++ t ∷ [])) same
    (one_more_done start before after (map view (take i es)) ts (view e) t d g)

-- an item that fails makes the whole list fail
pub one_fails : {A B : Type 0} (p : B → Bool) (f : A → B) (xs : List A) (i : ℕ) (x : A)
    → i < length xs → x ≡ get_or xs i x → p (f x) ≡ false → list_all p (map f xs) ≡ false
one_fails p f [] i x below is e = absurd (omega arith)
one_fails p f (y ∷ xs) zero x below is e = and_left (p (f y)) _ (ap (λ z. p (f z)) (sym is) ∙ e)
one_fails p f (y ∷ xs) (suc i) x below is e =
    and_right (p (f y)) _ (one_fails p f xs i x (omega arith) is e)

pub fault_of_item : (start here : Progress) (f : StaticError) (es : List source.Expr) (i : ℕ)
    (e : source.Expr) → i < length es → e ≡ get_or es i e
    → here ≡ after_exprs start (map view (take i es)) → IsNameFault f (expr_told f here (view e))
    → IsNameFault f (exprs_told f start (map view es))
fault_of_item start here f es i e below is at h =
    let g : IsNameFault f (expr_told f start (view e)) =
    subst (λ k. IsNameFault f (expr_told f k (view e))) at h in
    fault_within f _ _ g (one_fails (expr_told f start) view es i e below is)

pub fault_of_static : (start here : Progress) (f : StaticError) (role : Purpose) (xs : List Static')
    (i : ℕ) (x : Static') → i < length xs → x ≡ get_or xs i x
    → here ≡ grown start (map (λ s. (role, s)) (view_statics (take i xs))) []
    → IsNameFault f (static_told f here (view_static x))
    → IsNameFault f (statics_told f start (view_statics xs))
fault_of_static start here f role xs i x below is at h =
    let g : IsNameFault f (static_told f start (view_static x)) =
    subst (λ k. IsNameFault f (static_told f k (view_static x))) at h in
    fault_within f _ _ g (one_fails (static_told f start) view_static xs i x below is)

-- ## Static expressions that stand one after another

map_same : {A : Type 0} (xs : List A) → map (λ x. x) xs ≡ xs
map_same [] = refl
map_same (x ∷ xs) = ap (λ l. x ∷ l) (map_same xs)

pub statics_placed : (start here : Progress) (role : Purpose) (xs : List Static) (first : StaticId)
    (count : ℕ) → letter_of role ≡ None → here ≡ grown start (map (λ x. (role, x)) xs) []
    → first.0 ≡ length start.parts → count ≡ length xs → StaticsStand here xs (first, count)
statics_placed start here role xs first count own is at long =
    subst (λ k. StaticsStand k xs (first, count)) (sym is) placed
  where
    found : List Static
    found = map (λ p. p.1) start.parts

    all : map (λ p. p.1) (with_parts start.parts (map (λ x. (role, x)) xs)) ≡ found ++ xs
    all = ap (map (λ p. p.1)) (own_kept role start.parts xs own)
        ∙ map-append (λ p. p.1) start.parts (map (λ x. (role, x)) xs)
        ∙ ap (λ l. map (λ p. p.1) start.parts ++ l)
        (map_map (λ x. (role, x)) (λ p. p.1) xs ∙ map_same xs)

    placed : StaticsStand (grown start (map (λ x. (role, x)) xs) []) xs (first, count)
    placed =
        let before : first.0 ≡ length found = at ∙ sym (length-map start.parts (λ p. p.1)) in
        let total : length (found ++ xs) ≡ length found + length xs = length-append found xs in
        let within : nat_le (first.0 + count) (length (found ++ xs)) ≡ true =
        grind (arith, nat_tests) in (
          ap (λ l. take count (drop first.0 l)) all
              ∙ ap (λ k. take count (drop k (found ++ xs))) before
              ∙ ap (take count) (drop-append_seam found xs) ∙ ap (λ k. take k xs) long
              ∙ take_all (length xs) xs (omega arith),
          ap (λ l. nat_le (first.0 + count) (length l)) all ∙ within,
        )

-- ## Names and calls

-- the numbers of a call are in range once its static arguments are there
pub site_placed : (before mid : Progress) (P : List Part) (args : List Static)
    (place : StaticId × ℕ) (s : CallSite) → mid ≡ grown before P []
    → StaticsStand mid args place → s.first_argument ≡ place.0 → s.arguments ≡ place.1
    → is_count_within (counts_in (texts before)) s.count ≡ true
    → nat_lt s.callee.0 (length (callees mid)) ≡ true
    → is_site_within (length (callees mid)) (counts_in (texts mid)) s ≡ true
site_placed before mid P args place s is stand first count within callee =
    let statics : are_statics (counts_in (texts mid)) s.first_argument s.arguments ≡ true =
    (λ j. are_statics (counts_in (texts mid)) (first j) (count j)) ∙ stand.1 in
    let counted : is_count_within (counts_in (texts mid)) s.count ≡ true =
    subst (λ m. is_count_within (counts_in (texts m)) s.count ≡ true) (sym is)
    (count_within_grown before P [] s.count within) in
    and_from _ _ callee (and_from _ _ statics counted)

pub call_placed : (s : Progress) (P : List Part) (x : Site) (id : CallId) → id.0 ≡ length s.calls
    → CallStands (grown s P (x ∷ [])) x id
call_placed s P x id e =
    let long : length (s.calls ++ x ∷ []) ≡ length s.calls + 1 = length-append s.calls (x ∷ []) in (
      ap (λ k. either_or (slice_get (s.calls ++ x ∷ []) k) no_site) e
          ∙ ap (λ o. either_or o no_site) (get_last s.calls x),
      grind (arith, nat_tests),
    )

pub static_placed : (s : Progress) (p : Part) (id : StaticId) → id.0 ≡ place_of s.parts p
    → StaticStands (grown s (p ∷ []) []) p.1 id
static_placed s p id e =
    let more = with_part s.parts p in
    let at : slice_get (map (λ q. q.1) more) id.0 ≡ Some p.1 =
    slice_get-map (λ q. q.1) more id.0
    ∙ ap (λ i. option_map (λ q. q.1) (slice_get more i)) e
    ∙ ap (option_map (λ q. q.1)) (place_stands s.parts p) in
    let below = slice_get_within (map (λ q. q.1) more) id.0 p.1 at in
    let within : nat_lt id.0 (length (map (λ q. q.1) more)) ≡ true = grind (arith, nat_tests) in
    (ap (λ o. either_or o (tree.Whole 0)) at, within)

-- the term of a variable in an expression
pub variable_done : (s : Progress) (x : Name) (place : VariableId) → is_variable_of s x ≡ true
    → IsVariableAt s.node x place → Done s s (tree.Variable x) (term.Variable place)
variable_done s x place known at = (
  sym (grown_nothing s)
      ∙ ap (λ b. grown s (cond b [] ((Value_role, tree.Named x) ∷ [])) []) (sym known),
  (ap tree.Variable at.0, at.1, refl),
  ap (λ b. b || is_constant (program_of s) x)
      (among_append x (variable_names s.node) s.node.parameters
      ∙ ap (λ b. b || among x s.node.parameters) known),
)

-- the term of a static parameter or a constant in an expression
pub named_done : (s after : Progress) (x : Name) (id : StaticId) → is_variable_of s x ≡ false
    → is_static_name (program_of s) s.node x ≡ true
    → after ≡ grown s ((Value_role, tree.Named x) ∷ []) [] → StaticStands after (tree.Named x) id
    → Done s after (tree.Variable x) (term.Value id)
named_done s after x id other known is placed =
    let hides : not (among x (variable_names after.node)) ≡ true =
    ap (λ k. not (among x (variable_names k.node))) is ∙ ap not other in (
      is ∙ ap (λ b. grown s (cond b [] ((Value_role, tree.Named x) ∷ [])) []) (sym other),
      (
        ap named_value placed.0,
        placed.1,
        ap (is_no_variable (variable_names after.node)) placed.0
            ∙ hides,
      ),
      by (is_variable_of s x) (among x s.node.parameters) (is_constant (program_of s) x)
          (among_append x (variable_names s.node) s.node.parameters) known,
    )
  where
    by : (v p c : Bool) {d : Bool} → d ≡ (v || p) → (not v && (p || c)) ≡ true → (d || c) ≡ true
    by true p c e h = absurd cc
    by false true c e h = ap (λ b. b || c) e
    by false false c e h = ap (λ b. b || c) e ∙ h

pub number_done : (s : Progress) (n : ℕ) → Done s s (tree.Literal n) (term.Literal n)
number_done s n = (sym (grown_nothing s), (refl, refl, refl), refl)

pub truth_done : (s : Progress) (b : Bool) → Done s s (tree.Truth b) (term.Truth b)
truth_done s b = (sym (grown_nothing s), (refl, refl, refl), refl)

module _ (before after : Progress) (f : Name) (args : List Static) (place : StaticId × ℕ)
    (count : Option StaticId) (callee : NodePlace)
    (called : IsCallee (program_of before) f (length args) callee)
    (counted : is_count_within (counts_in (texts before)) count ≡ true) where
  abbrev after_arguments : Progress
  after_arguments = grown before (arguments_of args) []

  abbrev wanted : Site
  wanted = record {
    callee =
        f;
    arguments = args;
    count = option_map (static_at (texts before).statics) count;
  }

  abbrev made : Progress → Site
  made m = site_of (callees m) (texts m).statics
      (record {
        callee = callee;
        offset = 0;
        first_argument = place.0;
        arguments = place.1;
        count = count;
      })

  made_is : StaticsStand after_arguments args place → made after_arguments ≡ wanted
  made_is h =
      let found = (texts before).statics in
      let all : (texts after_arguments).statics ≡ found ++ map (λ p. p.1) (arguments_of args) =
      ap (map (λ p. p.1)) (own_kept Argument before.parts args refl)
      ∙ map-append (λ p. p.1) before.parts (arguments_of args) in
      let same : option_map (static_at (texts after_arguments).statics) count
      ≡ option_map (static_at found) count =
      ap (λ l. option_map (static_at l) count) all
      ∙ count_stays found (map (λ p. p.1) (arguments_of args)) count (counts_in (texts before)) refl
      counted in
      λ i. record { callee = called.0 i; arguments = h.0 i; count = same i }

  pub call_resolved : (mid : Progress) (r : Result CallId StaticError) → (mid ≡ after_arguments)
      → StaticsStand mid args place → statics_fit before args ≡ true
      → IfOk r (λ id. after ≡ grown mid [] (made mid ∷ [])) → IfOk r (λ id. id.0 ≡ length mid.calls)
      → IfErr r (λ e. IsNameFault e true)
      → ResolvesCall before after wanted r
  call_resolved mid (Ok id) is h fit grew at err =
      let g : after ≡ grown after_arguments [] (made after_arguments ∷ []) =
      subst (λ m. after ≡ grown m [] (made m ∷ [])) is grew in
      let made_so = made_is (subst (λ m. StaticsStand m args place) is h) in
      let here : id.0 ≡ length after_arguments.calls = at ∙ ap (λ m. length m.calls) is in
      let now : after ≡ grown after_arguments [] (wanted ∷ []) =
      g ∙ ap (λ x. grown after_arguments [] (x ∷ [])) made_so in (
        now ∙ grown_twice before (arguments_of args) [] [] (wanted ∷ [])
            ∙ ap (λ l. grown before l (wanted ∷ [])) (append-nil (arguments_of args)),
        subst (λ m. CallStands m wanted id) (sym now)
            (call_placed after_arguments [] wanted id here),
        and_from (is_callable (program_of before) wanted) (statics_fit before args) called.2 fit,
      )
  call_resolved mid (Err e) is h fit grew at err = fault_within e true _ err (λ n. absurd cc)
