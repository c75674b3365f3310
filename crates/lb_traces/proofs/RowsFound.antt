-- The place of the row of an instant of a trace among all cells.
use Rattle.std.proofs.Common.{ℕ, ◌<◌, [], length, get_or}
use Rattle.lb_traces.specs.Traces.{Recording, trace_at, IsRow, IsRecording}

-- each row of a lawful recording follows its signature
pub row_follows :
    (r : Recording) (k t : ℕ) → IsRecording r → k < length r.traces →
    t < length (trace_at r.traces k).1 → IsRow r.signature (get_or (trace_at r.traces k).1 t [])
row_follows r k t lawful below inside = (lawful.each k ([], []) below).rows t [] inside
