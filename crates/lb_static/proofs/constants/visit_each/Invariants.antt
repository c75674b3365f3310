use Rattle.std.proofs.Common.{◌≡◌, ◌<◌, ◌+◌, All, length}
use Rattle.lb_static.specs.ConstantValues.{read_constants, IsSound}
use Rattle.lb_static.specs.Tasks.{place_of, waiting}
use Rattle.lb_static.proofs.constants.visit_each.Given as goal

abbrev pub invariant-loop-place : goal.invariant-loop-place
invariant-loop-place l = All (λ t. place_of t < length l.constants) l.tasks.items

abbrev pub invariant-loop-task : goal.invariant-loop-task
invariant-loop-task l = record {
  sound : IsSound (read_constants l.constants) l.values;
  as_many : length l.seen ≡ length l.constants;
  within : All (λ t. place_of t < length l.constants) l.tasks.items;
}

abbrev pub decreases-loop-task : goal.decreases-loop-task
decreases-loop-task l = waiting l.seen (read_constants l.constants) + length l.tasks.items
