use Rattle.std.proofs.Common.{◌≡◌, ◌∙◌, ◌<◌, ◌+◌, ◌-◌, ◌∷◌, ◌++◌, [], ℕ, length, get_or, set}
use Rattle.std.proofs.Common.{arith, refl, ap₂, length-set, get_or-set_same}
use Rattle.lb_machine.specs.declared.instructions.Block.{Block}
use Rattle.lb_machine.proofs.Listing.{last_listed, last_set}
use Rattle.lb_machine.proofs.instructions.put_behind.Goals as goal

pub returns : goal.returns
returns c first =
    let blocks = c.args.blocks.now in
    let d : Block = c.index-blocks-at.result in
    let k : ℕ = length blocks - 1 in
    let b : Block = get_or blocks k d in
    let new : Block = record { first = b.first; choices = b.choices; last = c.args.i } in
    let e : length blocks ≡ k + 1 = omega (arith, c.requires) in
    let lt : k < length blocks = omega (arith, e) in
    last_listed (set blocks k new) d first k (length-set blocks k new ∙ e)
    ∙ ap₂ (λ is (x : Block). is ++ x.last ∷ []) (last_set blocks d new k e refl refl)
    (get_or-set_same blocks k new d lt)
