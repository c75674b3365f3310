-- A text that is loaded in chunks. Each chunk is read by itself.
-- This file says what data of the program mean; no definition of the language stands on it.
use Rattle.std.specs.Prelude.{ℕ, ◌≡◌, ◌≤◌, ◌++◌, false, true, List, Vec, length, flat_map}
use Rattle.std.specs.Global.{Global}
use Rattle.std.specs.List.{All, AllZip}
use Rattle.lb_static.specs.Signature.{Elements}
use Rattle.lb_trace.specs.declared.recorder.Recorder.{Recorder}
use Rattle.lb_trace.specs.declared.table.ColumnTable.{ColumnTable}
use Rattle.lb_trace.specs.Chunks.{is_ended}
use Rattle.lb_trace.specs.Mirrors.{knows}
use Rattle.lb_trace.specs.Plain.{has_quote, plain_records}
use Rattle.lb_trace.specs.Spelling.{Instant, SpellsInstant, instants}
use Rattle.lb_trace.specs.Tables.{columns_in}

-- `chunk` ends with the end of a line, has no quote, and has at most `most` bytes
pub record IsChunk (most : ℕ) (chunk : List ℕ) : Type 0 where
  pub ended : is_ended chunk ≡ true
  pub plain : has_quote chunk ≡ false
  pub short : length chunk ≤ most

-- a way to load chunks: the chunks that may be given for a number
abbrev pub Loading : Type 1
Loading = ℕ → Vec ℕ Global → Type 0

-- the instants `found` are those that the chunks given for `numbers` spell
pub record AreReadFrom
    (gives : Loading) (elements : Elements) (table : ColumnTable) (most : ℕ)
    (numbers : List ℕ) (found : List Instant)
    : Type 0 where
  pub chunks : List (Vec ℕ Global)
  pub given : AllZip (λ k chunk. gives k chunk × IsChunk most chunk.items) numbers chunks
  pub spelled : AllZip (SpellsInstant elements (columns_in table))
      (flat_map (λ chunk. plain_records chunk.items) chunks) found

-- the recorder `one` has traces of the signature `elements`, and knows their names
abbrev pub IsRecorder : Elements → Recorder → Type 0
IsRecorder elements one =
    (one.rows.signature ≡ elements) × knows one.names one.rows.traces

-- the recorder `one` has the instants that the chunks given for `numbers` spell
abbrev pub IsRead : Loading → Elements → ColumnTable → ℕ → List ℕ → Recorder → Type 0
IsRead gives elements table most numbers one =
    AreReadFrom gives elements table most numbers (instants one.rows.traces)
    × IsRecorder elements one

-- the recorders `read` have, one after the other, the instants that the chunks for `numbers` spell
abbrev pub AreRead : Loading → Elements → ColumnTable → ℕ → List ℕ → List Recorder → Type 0
AreRead gives elements table most numbers read =
    AreReadFrom gives elements table most numbers
    (flat_map (λ one. instants one.rows.traces) read)
    × All (IsRecorder elements) read

-- the recorder `after` has the instants of `before`, and then those of `parts`
abbrev pub IsJoined : Elements → Recorder → List Recorder → Recorder → Type 0
IsJoined elements before parts after =
    (instants after.rows.traces
    ≡ instants before.rows.traces ++ flat_map (λ part. instants part.rows.traces) parts)
    × IsRecorder elements after
