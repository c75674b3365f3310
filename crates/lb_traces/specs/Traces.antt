-- Recorded traces, as contracts see them.
-- Source: this project's rule; the limits are those of a trace text.
use Rattle.std.specs.Prelude.{Bool as Truth, ℕ, ◌≡◌, ◌≢◌, ◌+◌, ◌*◌, ◌<◌, ◌≤◌, max, ◌==◌, ◌||◌}
use Rattle.std.specs.Prelude.{IsTrue, List, [], ◌∷◌, ◌++◌, length, map, get_or, drop, ◌⊎◌, ℤ, pos}
use Rattle.std.specs.Prelude.{negsuc, ◌≤ℤ◌}
use Rattle.std.specs.Char.{is_ascii_alphanumeric}
use Rattle.std.specs.List.{All, AllPairs, AllZip, sum_by}
use Rattle.lb_syntax.specs.declared.tree.Kind.{Kind}
use Rattle.lb_syntax.specs.declared.tree.Kind.TheVariants.{Int, Bool}
use Rattle.lb_static.specs.Signature.{Elements}

-- the inputs at one instant: a cell for each element of the signature, in its order; a Boolean is
-- 0 or 1
abbrev pub Row : Type 0
Row = List ℤ

-- a recorded trace: its name and its rows, instant 0 first
abbrev pub Trace : Type 0
Trace = List ℕ × List Row

abbrev pub Traces : Type 0
Traces = List Trace

-- traces, and the signature that their rows follow
pub record Recording : Type 0 where
  pub signature : Elements
  pub traces : Traces

-- the names of some traces, in order
abbrev pub trace_names : Traces → List (List ℕ)
trace_names traces = map (λ t. t.0) traces

-- the trace at a place
abbrev pub trace_at : Traces → ℕ → Trace
trace_at traces k = get_or traces k ([], [])

-- the cell of a trace at an instant, in a column of the signature
abbrev pub cell_at : Traces → ℕ → ℕ → ℕ → ℤ
cell_at traces k t column = get_or (get_or (trace_at traces k).1 t []) column (pos 0)

-- a byte of a trace's name: an ASCII letter or digit, `_`, `-`, `.` or `/`
abbrev pub is_name_byte : ℕ → Truth
is_name_byte b = is_ascii_alphanumeric b || (b == 95) || (b == 45) || (b == 46) || (b == 47)

-- a lawful name of a trace: 1 to 64 bytes that a name may have
pub record IsTraceName (name : List ℕ) : Type 0 where
  pub not_empty : 0 < length name
  pub short : length name ≤ 64
  pub bytes : All (λ b. IsTrue (is_name_byte b)) name

-- the range of `int`
abbrev pub IsInt : ℤ → Type 0
IsInt v = (negsuc 2147483647 ≤ℤ v) × (v ≤ℤ pos 2147483647)

-- a lawful cell: an integer of 32 bits, or 0 or 1 for a Boolean
abbrev pub IsCell : Kind → ℤ → Type 0
IsCell Int v = IsInt v
IsCell Bool v = (v ≡ pos 0) ⊎ (v ≡ pos 1)

-- a row that follows a signature
abbrev pub IsRow : Elements → Row → Type 0
IsRow elements row = AllZip (λ e v. IsCell e.1 v) elements row

-- the number of instants that some traces have together
abbrev pub instants_of : Traces → ℕ
instants_of traces = sum_by (λ t. length t.1) traces

-- the number of cells of an instant, for the limit: one for each scalar input, and at least one
abbrev pub cells_of_instant : Elements → ℕ
cells_of_instant elements = max 1 (length elements)

-- a lawful trace: its name, 1 to 1,000,000 instants, and each row follows the signature
pub record IsTrace (elements : Elements) (trace : Trace) : Type 0 where
  pub name : IsTraceName trace.0
  pub started : 0 < length trace.1
  pub instants : length trace.1 ≤ 1000000
  pub rows : All (IsRow elements) trace.1

-- a lawful recording: each trace is lawful, no two have one name, there are at most 1,000,000
-- traces, and at most 67,108,864 cells
pub record IsRecording (r : Recording) : Type 0 where
  pub each : All (IsTrace r.signature) r.traces
  pub distinct : AllPairs (λ a b. a ≢ b) (trace_names r.traces)
  pub count : length r.traces ≤ 1000000
  pub cells : instants_of r.traces * cells_of_instant r.signature ≤ 67108864

-- the limit of cells has room for one more instant
abbrev pub HasRoom : Recording → Type 0
HasRoom r = (instants_of r.traces + 1) * cells_of_instant r.signature ≤ 67108864

-- the limit of cells has room for `n` more instants
abbrev pub HasRoomFor : Recording → ℕ → Type 0
HasRoomFor r n = (instants_of r.traces + n) * cells_of_instant r.signature ≤ 67108864

-- the rows of the last trace
abbrev pub last_rows : Traces → List Row
last_rows [] = []
last_rows (t ∷ []) = t.1
last_rows (t ∷ u ∷ more) = last_rows (u ∷ more)

-- the traces with one more row at the end of the last one
abbrev pub with_row : Traces → Row → Traces
with_row [] row = []
with_row (t ∷ []) row = (t.0, t.1 ++ row ∷ []) ∷ []
with_row (t ∷ u ∷ more) row = t ∷ with_row (u ∷ more) row

-- the traces with more rows at the end of the last one
abbrev pub with_rows : Traces → List Row → Traces
with_rows [] rows = []
with_rows (t ∷ []) rows = (t.0, t.1 ++ rows) ∷ []
with_rows (t ∷ u ∷ more) rows = t ∷ with_rows (u ∷ more) rows

-- the rows of trace `k` from row `from` on
abbrev pub rows_from : Traces → ℕ → ℕ → List Row
rows_from traces k from = drop from (trace_at traces k).1

-- the traces with one more trace at the end, with its first row
abbrev pub with_trace : Traces → List ℕ → Row → Traces
with_trace traces name row = traces ++ (name, row ∷ []) ∷ []
