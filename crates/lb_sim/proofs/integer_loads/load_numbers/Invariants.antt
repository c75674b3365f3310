use Rattle.std.proofs.Common.{◌*◌}
use Rattle.lb_static.specs.Signature.{kinds_of}
use Rattle.lb_traces.specs.Packed.{number_columns}
use Rattle.lb_sim.specs.Loads.{AreLoaded}
use Rattle.lb_sim.proofs.integer_loads.load_numbers.Given as goal

abbrev pub invariant-loop-f : goal.invariant-loop-f
invariant-loop-f l =
    AreLoaded l.at.set.now l.at.members.now l.at.begins.now l.at.t l.at.live.0
    (number_columns 0 (kinds_of l.at.set.now.signature)) l.places 0 (4 * l.f) l.fn.words l.words
