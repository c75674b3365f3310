-- A name that is no variable stands for a static expression.
use Rattle.std.proofs.Common.{◌≡◌, false, true, ap, sym, subst, ◌∙◌}
use Rattle.std.specs.Prelude.{is_some}
use Rattle.lb_static.specs.Names.{is_static_name, is_variable}
use Rattle.lb_static.specs.NodeNames.{IsVariableAt}
use Rattle.lb_static.specs.NodeProgress.{is_variable_of, program_of}
use Rattle.lb_static.specs.Progressed.{progress}
use Rattle.lb_static.proofs.Growth.{same_two}
use Rattle.lb_static.proofs.RefusedParts.{unknown_value}
use Rattle.lb_static.proofs.Resolutions.{named_done, variable_done}
use Rattle.lb_static.proofs.resolving_parts.named.Goals as goal

pub returns : goal.returns
returns c =
    let s = progress c.args.here.now in
    let x = c.args.name.now in
    let other : is_variable_of s x ≡ false =
    same_two (λ P n. is_variable P n x) _ _ _ _ (sym c.node_scope.ensures.source)
    (sym c.node_scope.ensures.node) ∙ sym c.place.ensures.is_declared
    ∙ ap is_some c.in_default.is in
    let known : is_static_name (program_of s) s.node x ≡ true =
    same_two (λ P n. is_static_name P n x) _ _ _ _ (sym c.node_scope-2.ensures.source)
    (sym c.node_scope-2.ensures.node) ∙ sym c.is_static.ensures ∙ c.if-not-is_static.false in
    named_done s (progress c.push_static.new.self) x c.in_ok-push_static.field-0 other known
    c.in_ok-push_static.ensures.after c.in_ok-push_static.ensures.stands

pub returns-then-not-is_static : goal.returns-then-not-is_static
returns-then-not-is_static c =
    let s = progress c.args.here.now in
    let x = c.args.name.now in
    let other : is_variable_of s x ≡ false =
    same_two (λ P n. is_variable P n x) _ _ _ _ (sym c.node_scope.ensures.source)
    (sym c.node_scope.ensures.node) ∙ sym c.place.ensures.is_declared
    ∙ ap is_some c.in_default.is in
    let unknown : is_static_name (program_of s) s.node x ≡ false =
    same_two (λ P n. is_static_name P n x) _ _ _ _ (sym c.node_scope-2.ensures.source)
    (sym c.node_scope-2.ensures.node) ∙ sym c.is_static.ensures ∙ c.if-not-is_static.true in
    unknown_value s x c.unknown_name.result other unknown c.unknown_name.ensures

pub returns-in-Some : goal.returns-in-Some
returns-in-Some c =
    let s = progress c.args.here.now in
    let x = c.args.name.now in
    let known : is_variable_of s x ≡ true =
    same_two (λ P n. is_variable P n x) _ _ _ _ (sym c.node_scope.ensures.source)
    (sym c.node_scope.ensures.node) ∙ sym c.in-Some.ensures.is_declared in
    variable_done s x c.in-Some.place known
    (subst (λ n. IsVariableAt n x c.in-Some.place) c.node_scope.ensures.node
    c.in-Some.ensures.found)
