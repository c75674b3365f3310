-- A statement whose parts are resolved is resolved.
use Rattle.std.proofs.Common.{◌≡◌, true, Ok, Vec, Global, List, map, ap, sym, subst}
use Rattle.std.specs.List.{list_all}
use Rattle.std.proofs.lemmas.Result.{err_from_is_err_and}
use Rattle.std.proofs.lemmas.Bool.{and_from as both, and_left as false_first}
use Rattle.std.proofs.lemmas.Bool.{and_right as false_second}
use Rattle.lb_syntax.specs.Tree as tree
use Rattle.lb_syntax.specs.Tree.{Name}
use Rattle.lb_syntax.specs.View.{view}
use Rattle.lb_static.specs.CountedNames.{Variables, counted}
use Rattle.lb_static.specs.NameFaults.{IsNameFault, is_told}
use Rattle.lb_static.specs.Names.{is_variable}
use Rattle.lb_static.specs.NodeProgress.{Progress, ResolvesTerm, ResolvesStatement, texts}
use Rattle.lb_static.specs.NodeProgress.{counts_in, program_of, expr_told}
use Rattle.lb_static.specs.Parts.{variable_names}
use Rattle.lb_static.specs.Progressed.{progress}
use Rattle.lb_static.specs.ResolvedTerms.{name_at, is_variable as is_place}
use Rattle.lb_static.specs.declared.resolved.ResolvedStatement.TheVariants as statement
use Rattle.lb_static.specs.declared.resolved.Term.{Term}
use Rattle.lb_static.specs.declared.resolved.VariableId.{VariableId}
use Rattle.lb_static.proofs.Faults.{fault_within}
use Rattle.lb_static.proofs.Growth.{same_two}
use Rattle.lb_static.proofs.resolving_statements.resolve_statement.Goals as goal

-- an equation is resolved by the places of its left side and the term of its right side
equation_done : (before after : Progress) (names lefts : List Name) (e : tree.Expr)
    (places : Vec VariableId Global) (t : Term)
    → names ≡ lefts → map (name_at (variable_names before.node)) places.items ≡ names
    → list_all (is_place (counts_in (texts before))) places.items ≡ true
    → list_all (is_variable (program_of before) before.node) names ≡ true
    → ResolvesTerm before after e (Ok t)
    → ResolvesStatement before after (tree.Equation lefts e) (Ok (statement.Equation places t))
equation_done before after names lefts e places t same named within fit h =
    let left : map (name_at (variable_names before.node)) places.items ≡ lefts =
    subst (λ l. map (name_at (variable_names before.node)) places.items ≡ l) same named in
    let later : map (name_at (variable_names after.node)) places.items ≡ lefts =
    subst (λ s. map (name_at (variable_names s.node)) places.items ≡ lefts) (sym h.0) left in
    let still : list_all (is_place (counts_in (texts after))) places.items ≡ true =
    subst (λ s. list_all (is_place (counts_in (texts s))) places.items ≡ true) (sym h.0)
    within in
    let known : list_all (is_variable (program_of before) before.node) lefts ≡ true =
    subst (λ l. list_all (is_variable (program_of before) before.node) l ≡ true) same fit in (
      h.0,
      (same_two tree.Equation _ _ _ _ later h.1.0, both _ _ still h.1.1, h.1.2),
      both _ _ known
          h.2,
    )

pub returns-in_ok-term-in-Equation : goal.returns-in_ok-term-in-Equation
returns-in_ok-term-in-Equation c =
    let before = progress c.args.here.now in
    let after = progress c.term.new.here in
    let places = c.in_ok-places-in-Equation.places in
    let told = c.in_ok-places-in-Equation.ensures in
    rw c.in-Equation.is (equation_done before after _ c.in-Equation.lefts.items
    (view c.in-Equation.e) places c.in_ok-term-in-Equation.field-0
    c.deref.ensures.value told.named told.within told.fit c.in_ok-term-in-Equation.ensures)

pub returns-in_err-places-in-Equation : goal.returns-in_err-places-in-Equation
returns-in_err-places-in-Equation c =
    let p = err_from_is_err_and c.from_residual.result c.from_residual.ensures.1 in
    let before = progress c.args.here.now in
    let f = c.in_err-places-in-Equation.field-0.0 in
    let refused = subst (λ l. IsNameFault f
    (list_all (counted (is_told f Variables) (is_variable (program_of before) before.node)) l))
    c.deref.ensures.value
    c.in_err-places-in-Equation.ensures.err in
    rw (p.1, p.2) (rw c.in-Equation.is
    (fault_within f _ _ refused (λ e. false_first _ (expr_told f before (view c.in-Equation.e)) e)))

pub returns-in_err-term-in-Equation : goal.returns-in_err-term-in-Equation
returns-in_err-term-in-Equation c =
    let p = err_from_is_err_and c.from_residual-in_err-term-in-Equation.result
    c.from_residual-in_err-term-in-Equation.ensures.1 in
    let before = progress c.args.here.now in
    let f = c.in_err-term-in-Equation.field-0.0 in
    let lefts =
    list_all (counted (is_told f Variables) (is_variable (program_of before) before.node))
    c.in-Equation.lefts.items in
    rw (p.1, p.2) (rw c.in-Equation.is
    (fault_within f _ _ c.in_err-term-in-Equation.ensures (λ e. false_second lefts _ e)))

pub returns-in_ok-term-in-Assertion : goal.returns-in_ok-term-in-Assertion
returns-in_ok-term-in-Assertion c =
    let h = c.in_ok-term-in-Assertion.ensures in
    rw c.in-Assertion.is (h.0, (ap tree.Assertion h.1.0, h.1.1, h.1.2), h.2)

pub returns-in_err-term-in-Assertion : goal.returns-in_err-term-in-Assertion
returns-in_err-term-in-Assertion c =
    let p = err_from_is_err_and c.from_residual-in_err-term-in-Assertion.result
    c.from_residual-in_err-term-in-Assertion.ensures.1 in
    rw (p.1, p.2) (rw c.in-Assertion.is c.in_err-term-in-Assertion.ensures)
