-- Rolls: the names and lengths of traces whose rows have been dropped.
-- This file says what data of the program mean; no definition of the language stands on it.
use Rattle.std.specs.Prelude.{ℕ, ◌≡◌, ◌<◌, ◌≤◌, ◌+◌, ◌-◌, ◌*◌, ◌&&◌, Bool as Truth, List, [], ◌∷◌}
use Rattle.std.specs.Prelude.{◌++◌, length, map, get_or, nat_le, nat_lt}
use Rattle.std.specs.List.{AllZip}
use Rattle.lb_static.specs.Signature.{Elements}
use Rattle.lb_traces.specs.Traces.{IsRecording, IsTrace, Recording, Trace, Traces}
use Rattle.lb_traces.specs.Traces.{cells_of_instant, instants_of, trace_names}
use Rattle.lb_trace.specs.declared.error.TraceError.{TraceError}
use Rattle.lb_trace.specs.declared.roll.Roll.{Roll}
use Rattle.lb_trace.specs.Errors.{IsRefusal}
use Rattle.lb_trace.specs.Mirrors.{knows}
use Rattle.lb_trace.specs.Refusals.{with_records}
use Rattle.lb_trace.specs.Spelling.{Record, SpellsInstant, instants}

-- the number of instants of each trace
abbrev pub lengths_of : Traces → List ℕ
lengths_of traces = map (λ t. length t.1) traces

-- the parts of a roll fit together: its names are those of traces of one row each, without cells
pub record IsRoll (roll : Roll) : Type 0 where
  pub bare : roll.names.signature ≡ []
  pub ones : instants_of roll.names.traces ≡ length roll.names.traces
  pub known : knows roll.known roll.names.traces
  pub counted : length roll.lengths.items ≡ length roll.names.traces
  pub some : 0 < roll.cells
  pub few : roll.cells ≤ 1023
  pub within : roll.instants * roll.cells ≤ 67108864
  pub instants : roll.instants ≤ 67108864

-- a roll has the names and lengths of these traces, which are lawful together
pub record IsRollOf (elements : Elements) (roll : Roll) (traces : Traces) : Type 0 where
  pub is : IsRoll roll
  pub lawful : IsRecording record { signature = elements; traces = traces }
  pub names : trace_names roll.names.traces ≡ trace_names traces
  pub lengths : roll.lengths.items ≡ lengths_of traces
  pub instants : roll.instants ≡ instants_of traces
  pub cells : roll.cells ≡ cells_of_instant elements

-- `t` is a lawful trace with this name and `count` instants
abbrev pub IsTraceOf : Elements → List ℕ → ℕ → Trace → Type 0
IsTraceOf elements name count t =
    IsTrace elements t × (t.0 ≡ name) × (length t.1 ≡ count)

-- `next` is `roll` with one more trace, of this name and `count` instants
abbrev pub TakesTrace : Roll → List ℕ → ℕ → Roll → Type 0
TakesTrace roll name count next =
    (elements : Elements) (traces : Traces) (t : Trace)
    → IsRollOf elements roll traces → IsTraceOf elements name count t
    → IsRollOf elements next (traces ++ t ∷ [])

-- `e` is the first refusal of the records of a trace with this name and `count` instants, behind
-- the traces of `roll`
abbrev pub RefusesTrace : Roll → List ℕ → ℕ → TraceError → Type 0
RefusesTrace roll name count e =
    (elements : Elements) (columns : Record) (traces : Traces) (t : Trace) (records : List Record)
    → IsRollOf elements roll traces → IsTraceOf elements name count t
    → AllZip (SpellsInstant elements columns) records (map (λ row. (t.0, row)) t.1)
    → IsRefusal (with_records elements columns traces records) e

-- `e` is the first refusal of the records of the traces of `other`, behind the traces of `roll`
abbrev pub RefusesRoll : Roll → Roll → TraceError → Type 0
RefusesRoll roll other e =
    (elements : Elements) (columns : Record) (traces others : Traces) (records : List Record)
    → IsRollOf elements roll traces → IsRollOf elements other others
    → AllZip (SpellsInstant elements columns) records (instants others)
    → IsRefusal (with_records elements columns traces records) e

-- `e` is the first refusal of the records of the traces of `set`, behind the traces of `roll`
abbrev pub RefusesRows : Roll → Recording → TraceError → Type 0
RefusesRows roll set e =
    (columns : Record) (traces : Traces) (records : List Record)
    → IsRollOf set.signature roll traces
    → AllZip (SpellsInstant set.signature columns) records (instants set.traces)
    → IsRefusal (with_records set.signature columns traces records) e

-- whether the limits have room for one more instant of the last trace of a roll
abbrev pub room_in_last : Roll → Truth
room_in_last roll =
    nat_lt (get_or roll.lengths.items (length roll.lengths.items - 1) 0) 1000000
    && nat_le ((roll.instants + 1) * roll.cells) 67108864

-- whether the limits have room for the first instant of one more trace behind a roll
abbrev pub room_for_another : Roll → Truth
room_for_another roll =
    nat_lt (length roll.names.traces) 1000000
    && nat_le ((roll.instants + 1) * roll.cells) 67108864
