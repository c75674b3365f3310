-- The range of a size, of an index and of the last end of a slice.
use Rattle.std.proofs.Common.{rules}
use Rattle.lb_static.proofs.specialize.part_passes.Goals as goal

pub returns-in-Size : goal.returns-in-Size
returns-in-Size c = search rules

pub returns-in-Index : goal.returns-in-Index
returns-in-Index c = search rules

pub returns-else-is_between : goal.returns-else-is_between
returns-else-is_between c = search rules
