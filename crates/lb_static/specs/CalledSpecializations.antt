-- The specialization that a call of a specialization calls.
-- This file says what data of the program mean; no definition of the language stands on it.
use Rattle.std.specs.Prelude.{Option, slice_get}
use Rattle.lb_syntax.specs.Lists.{◌>>=◌}
use Rattle.lb_static.specs.declared.resolved.CallId.{CallId}
use Rattle.lb_static.specs.declared.table.Specialization.{Specialization}
use Rattle.lb_static.specs.declared.table.Table.{Table}

abbrev pub called_by : Table → Specialization → CallId → Option Specialization
called_by t s c = slice_get s.callees.items c.0 >>= λ id. slice_get t.specializations.items id.0
