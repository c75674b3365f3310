use Rattle.std.proofs.Common.{◌≡◌, ◌++◌, length}
use Rattle.std.specs.Prelude.{flat_map}
use Rattle.std.specs.Vec.Iter.{into_iter_items, into_iter_len}
use Rattle.lb_trace.specs.declared.recorder.Recorder.{Recorder}
use Rattle.lb_trace.specs.Mirrors.{knows}
use Rattle.lb_trace.specs.Spelling.{instants}
use Rattle.lb_trace.proofs.recorder.Recorder.join_all.Given as goal

abbrev pub invariant-loop-part : goal.invariant-loop-part
invariant-loop-part l = record {
  added : instants l.self.rows.traces
      ≡ instants l.initial.self.rows.traces
      ++ flat_map (λ (part : Recorder). instants part.rows.traces) l.yielded;
  left : l.yielded ++ into_iter_items l.part-iterator
      ≡ into_iter_items l.initial.part-iterator;
  count : into_iter_len l.part-iterator ≡ length (into_iter_items l.part-iterator);
  follows : l.self.rows.signature ≡ l.initial.self.rows.signature;
  known : knows l.self.names l.self.rows.traces;
}
