use Rattle.std.proofs.Common.{◌-◌}
use Rattle.lb_trace.proofs.LastLines.{IsSearched}
use Rattle.lb_trace.proofs.whole.whole_traces.Given as goal

-- the line at `start` has the name of the last trace; the last line before `other`, if there is
-- one, has another name
abbrev pub invariant-lines : goal.invariant-lines
invariant-lines l = IsSearched l.text l.name l.start l.other

abbrev pub decreases-lines : goal.decreases-lines
decreases-lines l = l.start - l.other
