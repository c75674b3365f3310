use Rattle.std.proofs.Common.{◌+◌, ◌∷◌, ◌++◌, [], drop}
use Rattle.lb_lanes.specs.Kernels.{lanes_in}
use Rattle.lb_machine.specs.Listed.{listed, selects_from, unpacked}
use Rattle.lb_machine.proofs.Running.{IsRunning}
use Rattle.lb_machine.proofs.code.Code.run.Given as goal

abbrev pub invariant-outer : goal.invariant-outer
invariant-outer l =
    IsRunning (lanes_in l.width) l.self.first_plane l.self.first_word
    (listed l.self.instructions) l.self.planes l.self.words l.fn.planes l.planes l.fn.words l.words
    (unpacked (drop l.j l.self.instructions.blocks.items) l.self.instructions.first
    l.self.instructions.choices.items)

abbrev pub invariant-choices : goal.invariant-choices
invariant-choices l =
    IsRunning (lanes_in l.width) l.self.first_plane l.self.first_word
    (listed l.self.instructions) l.self.planes l.self.words l.fn.planes l.planes l.fn.words l.words
    (selects_from (l.block.first + l.k) (drop l.k l.block.choices.items) ++ l.block.last
    ∷ unpacked (drop (l.j + 1) l.self.instructions.blocks.items) l.self.instructions.first
    l.self.instructions.choices.items)

abbrev pub invariant-rest : goal.invariant-rest
invariant-rest l =
    IsRunning (lanes_in l.fn.width) l.self.first_plane l.self.first_word
    (listed l.self.instructions) l.self.planes l.self.words l.fn.planes l.planes l.fn.words l.words
    (selects_from (l.self.instructions.first + l.k) (drop l.k l.self.instructions.choices.items)
    ++ [])
