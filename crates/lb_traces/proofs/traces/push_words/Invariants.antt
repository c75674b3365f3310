use Rattle.std.proofs.Common.{◌+◌, ◌-◌, ◌≤◌, length, vec_len, vec_capacity}
use Rattle.lb_traces.specs.Packed.{words_of_row}
use Rattle.lb_traces.proofs.PackedRows.{Pushing}
use Rattle.lb_traces.proofs.traces.push_words.Given as goal

abbrev pub invariant-loop-g : goal.invariant-loop-g
invariant-loop-g l = record {
  pushed : Pushing l.fn.words.items l.row l.columns l.words.items l.g;
  room : vec_len l.words + (words_of_row (length l.columns) - l.g) ≤ vec_capacity l.words;
}
