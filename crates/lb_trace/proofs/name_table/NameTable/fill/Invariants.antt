use Rattle.std.proofs.Common.{◌<◌, length}
use Rattle.std.specs.BTreeSet.{contains_text}
use Rattle.lb_traces.specs.Traces.{trace_names}
use Rattle.lb_trace.specs.NamePlaces.{HavePlaces}
use Rattle.lb_trace.proofs.name_table.NameTable.fill.Given as goal

abbrev pub invariant-loop-k : goal.invariant-loop-k
invariant-loop-k l = record {
  some : 0 < length l.self.places.items;
  few : length l.self.places.items < 4294967296;
  have :
      HavePlaces l.self.places.items (contains_text l.self.others)
      (trace_names l.traces.traces) l.k;
}
