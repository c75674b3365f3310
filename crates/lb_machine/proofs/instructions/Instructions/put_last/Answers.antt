use Rattle.std.proofs.Common.{◌∙◌, ◌∷◌, ◌++◌, [], List, ap, rules}
use Rattle.std.proofs.lemmas.List.{with_items_is, places}
use Rattle.lb_machine.specs.Listed.{before_last, unpacked}
use Rattle.lb_machine.specs.declared.instructions.Block.{Block}
use Rattle.lb_machine.proofs.Listing.{no_choices}
use Rattle.lb_machine.proofs.instructions.Instructions.put_last.Goals as goal

pub returns : goal.returns
returns c =
    let before = c.args.self.now in
    let new : List Block = c.put_behind.new.blocks in
    ap (λ bs. unpacked bs before.first before.choices.items)
    (with_items_is before.blocks new (search (rules, places)))
    ∙ ap (unpacked new before.first) (no_choices before.choices.items c.requires.no_choice)
    ∙ c.put_behind.ensures before.first
    ∙ ap (λ bs. before_last bs ++ c.args.i ∷ []) c.as_mut_slice.ensures.value
