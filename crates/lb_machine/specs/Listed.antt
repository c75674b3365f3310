-- The instructions of code, in their order.
-- Source: this project's rule.
use Rattle.std.specs.Prelude.{◌≡◌, ℕ, ◌+◌, ◌<◌, length, List, [], ◌∷◌, ◌++◌}
use Rattle.lb_machine.specs.declared.instruction.Instruction.{Instruction}
use Rattle.lb_machine.specs.declared.instruction.Instruction.TheVariants.{Select}
use Rattle.lb_machine.specs.declared.instructions.Block.{Block}
use Rattle.lb_machine.specs.declared.instructions.Choice.{Choice}
use Rattle.lb_machine.specs.declared.instructions.Instructions.{Instructions}

-- a choice that writes a plane, as an instruction
abbrev pub select_at : ℕ → Choice → Instruction
select_at out c = Select c.mask c.a c.b (record { 0 = out })

-- choices that write the planes from `out` on, as instructions
abbrev pub selects_from : ℕ → List Choice → List Instruction
selects_from out [] = []
selects_from out (c ∷ choices) = select_at out c ∷ selects_from (out + 1) choices

-- the instructions of blocks, each with its choices first, and then the choices behind the blocks
abbrev pub unpacked : List Block → ℕ → List Choice → List Instruction
unpacked [] first choices = selects_from first choices
unpacked (b ∷ blocks) first choices =
    selects_from b.first b.choices.items ++ b.last ∷ unpacked blocks first choices

-- all instructions of blocks but the last one of the last block
abbrev pub before_last : List Block → List Instruction
before_last [] = []
before_last (b ∷ []) = selects_from b.first b.choices.items
before_last (b ∷ (c ∷ blocks)) =
    selects_from b.first b.choices.items ++ b.last ∷ before_last (c ∷ blocks)

abbrev pub listed : Instructions → List Instruction
listed is = unpacked is.blocks.items is.first is.choices.items

-- the last instruction is `i`, which ends a block
pub record EndsWith (is : Instructions) (i : Instruction) : Type 0 where
  pub no_choice : length is.choices.items ≡ 0
  pub some : 0 < length is.blocks.items
  pub last : listed is ≡ before_last is.blocks.items ++ i ∷ []
