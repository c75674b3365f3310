use Rattle.std.proofs.Common.{◌≡◌, [], ◌∷◌, ◌++◌, ◌∙◌, ap, ap₂, Vec, Global}
use Rattle.lb_machine.specs.Listed.{unpacked}
use Rattle.lb_machine.specs.declared.instructions.Block.{Block}
use Rattle.lb_machine.specs.declared.instructions.Choice.{Choice}
use Rattle.lb_machine.proofs.Listing.{block_listed}
use Rattle.lb_machine.proofs.instructions.Instructions.push_last.Goals as goal

pub returns-clause-items : goal.returns-clause-items
returns-clause-items c =
    let before = c.args.self.now in
    let b : Block =
    record { first = before.first; choices = c.replace-choices.result; last = c.args.last } in
    let blocks : c.push_reserved.new.self.items ≡ before.blocks.items ++ b ∷ [] =
    c.push_reserved.ensures.items ∙ ap (λ bs. bs ++ b ∷ []) c.reserve.ensures.items in
    let none : c.replace-choices.new.dest.items ≡ [] =
    ap (λ (v : Vec Choice Global). v.items) c.replace-choices.ensures.after ∙ c.new.ensures.items in
    ap₂ (λ bs cs. unpacked bs before.first cs) blocks none
    ∙ block_listed before.blocks.items b before.first
    ∙ ap (λ (v : Vec Choice Global).
    unpacked before.blocks.items before.first v.items ++ c.args.last ∷ [])
    c.replace-choices.ensures.value
