-- Where all listed instructions are done, each choice and each instruction of a block is done.
use Rattle.std.proofs.Common.{ℕ, zero, suc, ◌+◌, ◌<◌, List, [], ◌∷◌, ◌++◌, length, get_or, arith}
use Rattle.std.proofs.Common.{◌≡◌, subst}
use Rattle.std.specs.List.{AllByRecursion}
use Rattle.lb_machine.specs.declared.instruction.Instruction.{Instruction}
use Rattle.lb_machine.specs.declared.instructions.Block.{Block}
use Rattle.lb_machine.specs.declared.instructions.Choice.{Choice}
use Rattle.lb_machine.specs.Listed.{select_at, selects_from, unpacked}
use Rattle.lb_machine.specs.Meaning.{Lane, IsDone}

both_done :
    (s : Lane) (is js : List Instruction) → AllByRecursion (IsDone s) (is ++ js) →
    AllByRecursion (IsDone s) is × AllByRecursion (IsDone s) js
both_done s [] js d = (tt, d)
both_done s (i ∷ is) js d =
    let parts = both_done s is js d.1 in ((d.0, parts.0), parts.1)

pub choice_done :
    (s : Lane) (choices : List Choice) (first k out : ℕ) (d : Choice) →
    AllByRecursion (IsDone s) (selects_from first choices) → k < length choices →
    first + k ≡ out → IsDone s (select_at out (get_or choices k d))
choice_done s [] first k out d all lt e = absurd (omega (arith, lt))
choice_done s (c ∷ choices) first zero out d all lt e =
    let same : first ≡ out = omega (arith, e) in
    subst (λ n. IsDone s (select_at n c)) same all.0
choice_done s (c ∷ choices) first (suc k) out d all lt e =
    choice_done s choices (first + 1) k out d all.1 (omega (arith, lt)) (omega (arith, e))

pub behind_done :
    (s : Lane) (blocks : List Block) (first : ℕ) (choices : List Choice) →
    AllByRecursion (IsDone s) (unpacked blocks first choices) →
    AllByRecursion (IsDone s) (selects_from first choices)
behind_done s [] first choices all = all
behind_done s (b ∷ blocks) first choices all =
    behind_done s blocks first choices
    (both_done s (selects_from b.first b.choices.items) (b.last ∷ unpacked blocks first choices)
    all).1.1

pub block_done :
    (s : Lane) (blocks : List Block) (first : ℕ) (choices : List Choice) (k : ℕ) (d : Block) →
    AllByRecursion (IsDone s) (unpacked blocks first choices) → k < length blocks →
    IsDone s (get_or blocks k d).last
    × AllByRecursion (IsDone s)
    (selects_from (get_or blocks k d).first (get_or blocks k d).choices.items)
block_done s [] first choices k d all lt = absurd (omega (arith, lt))
block_done s (b ∷ blocks) first choices zero d all lt =
    let parts =
    both_done s (selects_from b.first b.choices.items) (b.last ∷ unpacked blocks first choices)
    all in (parts.1.0, parts.0)
block_done s (b ∷ blocks) first choices (suc k) d all lt =
    let parts =
    both_done s (selects_from b.first b.choices.items) (b.last ∷ unpacked blocks first choices)
    all in block_done s blocks first choices k d parts.1.1 (omega (arith, lt))
