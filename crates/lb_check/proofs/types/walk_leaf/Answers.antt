use Rattle.lb_check.proofs.Words.{[], context_in, kept_in, option_map, refl, view_type, ◌∙◌}
use Rattle.lb_check.proofs.typing.{TypeRows.leaf_result, WalkedTypes.{leaf_is, returns_one}}
use Rattle.lb_check.proofs.types.walk_leaf.Goals as goal

pub returns : goal.returns
returns c =
    let ctx = context_in c.args.env.now in
    let term = c.args.term.now in
    let before = kept_in c.args.parts.now in
    returns_one ctx before before (kept_in c.note_one.new.parts) c.note_one.result term []
    (option_map view_type c.in_ok-own.own) (leaf_result ctx term c.requires)
    (c.in_ok-own.ensures ∙ leaf_is ctx term c.requires) refl
    c.note_one.ensures.same c.note_one.ensures.noted
