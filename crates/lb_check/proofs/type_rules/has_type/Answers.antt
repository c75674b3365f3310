use Rattle.lb_check.proofs.Words.{[], all_some, ap, are_equal, are_one, context_in, left_types}
use Rattle.lb_check.proofs.Words.{length-map, map, option_map, singly, sym, view_type, ◌∙◌, ◌∷◌}
use Rattle.lb_check.proofs.typing.{SignatureRows.one_item, TypeRows.{equal_one, only_singly}}
use Rattle.lb_check.proofs.typing.TypeRows.{single_apart}
use Rattle.lb_check.proofs.type_rules.has_type.Goals as goal

pub returns-then-variables-ne1 : goal.returns-then-variables-ne1
returns-then-variables-ne1 c =
    let f = (context_in c.args.env.now).variable in
    let vs = c.args.variables.now in
    single_apart (option_map view_type c.args.given.now) (map f vs)
    (λ e. c.if-variables-ne1.true (sym (length-map vs f) ∙ e))

pub returns : goal.returns
returns c =
    let ctx = context_in c.args.env.now in
    let own = option_map view_type c.args.given.now in
    c.are_one.ensures ∙ (ap (λ p. are_one p (option_map view_type c.in_ok-declared.declared))
    (sym (only_singly own)) ∙ sym (equal_one (singly own) (option_map view_type
    c.in_ok-declared.declared)))
    ∙ ap (λ v. are_equal (singly own) (all_some (v ∷ []))) c.in_ok-declared.ensures
    ∙ ap (λ vs. are_equal (singly own) (left_types ctx vs))
    (sym (one_item c.args.variables.now _ c.if-variables-ne1.false))
