use Rattle.std.proofs.Common.{◌≡◌, ◌∙◌, ◌∷◌, ◌++◌, ◌+◌, ◌-◌, [], ℕ, length, get_or, ap, sym}
use Rattle.std.proofs.Common.{arith, rules}
use Rattle.lb_machine.specs.Listed.{before_last, unpacked}
use Rattle.lb_machine.specs.declared.instruction.Instruction.TheVariants.{Compare}
use Rattle.lb_machine.specs.declared.instruction.PlaneId.{PlaneId}
use Rattle.lb_machine.specs.declared.instructions.Block.{Block}
use Rattle.lb_machine.proofs.Listing.{last_listed, no_choices}
use Rattle.lb_machine.proofs.instructions.Instructions.last_test.Goals as goal

same_plane : (p q : PlaneId) → p.0 ≡ q.0 → p ≡ q
same_plane p q e = ap (λ n. let r : PlaneId = record { 0 = n } in r) e

pub returns-in-Compare : goal.returns-in-Compare
returns-in-Compare c =
    let is = c.args.self.now in
    let blocks = is.blocks.items in
    let d : Block = c.index.result.now in
    let k : ℕ = c.len-count.result - 1 in
    let count : c.len-count.result ≡ length blocks = search rules in
    let choices : c.len.result ≡ length is.choices.items = search rules in
    let none : length is.choices.items ≡ 0 = omega (arith, choices, c.if-len-ne0.false) in
    let e : length blocks ≡ k + 1 = omega (arith, count, c.if-count-eq0.false) in
    let plane : c.in-Compare.out.0 ≡ c.args.passed.0 = omega (arith, c.if-out-passed.true) in
    let last : (get_or blocks k d).last
    ≡ Compare c.in-Compare.c c.in-Compare.x c.in-Compare.y c.args.passed
    = ap (λ (b : Block). b.last) (sym c.index.ensures) ∙ c.in-Compare.is
    ∙ ap (Compare c.in-Compare.c c.in-Compare.x c.in-Compare.y)
    (same_plane c.in-Compare.out c.args.passed plane) in
    record {
      no_choice = none;
      some = omega (arith, e);
      last =
          ap (unpacked blocks is.first) (no_choices is.choices.items none)
          ∙ last_listed blocks d is.first k e
          ∙ ap (λ i. before_last blocks ++ i ∷ []) last;
    }
