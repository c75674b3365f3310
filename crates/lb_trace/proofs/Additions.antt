-- `record_by` and `start_by`, case by case.
use Rattle.std.proofs.Common.{ℕ, ◌≡◌, Bool, true, false, ◌&&◌, ◌||◌, ◌==◌, not}
use Rattle.std.proofs.Common.{if◌then◌else◌, List, [], ◌∷◌, ◌++◌, length, Option, Some, None}
use Rattle.std.proofs.Common.{Result, Err, refl, sym, ap, ◌∙◌, eq-eqb}
use Rattle.std.proofs.lemmas.List.Folds.{list_any-append}
use Rattle.std.specs.List.{All, list_any}
use Rattle.std.specs.Str.{bytes_eq}
use Rattle.csv.specs.Records.{field_at}
use Rattle.lb_static.specs.Signature.{Elements}
use Rattle.lb_traces.specs.Traces.{IsTrace, IsTraceName, Row, Trace, Traces}
use Rattle.lb_traces.specs.Traces.{with_row, with_trace}
use Rattle.lb_trace.specs.declared.header.Column.{Column}
use Rattle.lb_trace.specs.Mirrors.{add_by, go_on_by, record_by, row_by, start_by}
use Rattle.lb_trace.specs.Mirrors.{start_cells}
use Rattle.lb_trace.specs.Refusals.{is_last, is_trace_name, with_cells}
use Rattle.lb_trace.specs.Spelling.{Record, after_first}
use Rattle.lb_trace.proofs.Names.{bytes_eq-flip, comes_back-last, is_trace_name-true, last_lawful}
use Rattle.lb_trace.proofs.Soundness.{comes_back-other}

-- `record_by` of a record without cells is 15
pub record_by-none : (elements : Elements) (table : List Column) (width : ℕ) (traces : Traces)
    (fields : Record)
    → field_at fields 0 ≡ None → record_by elements table width traces fields ≡ Err 15
unfolding field_at
record_by-none elements table width traces [] missing = refl
record_by-none elements table width traces (name ∷ cells) missing = cc missing

go_on_cells : (elements : Elements) (name : List ℕ) (traces : Traces) (row : Option Row)
    → is_last name traces ≡ true
    → with_cells elements name traces row ≡ go_on_by elements traces row
go_on_cells elements name traces None last = refl
go_on_cells elements name traces (Some row) last = rw last refl

other_cells : (elements : Elements) (name : List ℕ) (traces : Traces) (row : Option Row)
    → is_last name traces ≡ false
    → with_cells elements name traces row ≡ start_cells elements name traces row
other_cells elements name traces None other = refl
other_cells elements name traces (Some row) other = rw other refl

-- `record_by` of a record of the last trace is `go_on_by` of its row
pub record_by-last : (elements : Elements) (table : List Column) (width : ℕ) (traces : Traces)
    (fields : Record) (name : List ℕ)
    → field_at fields 0 ≡ Some name → length (after_first fields) ≡ width
    → All (IsTrace elements) traces → is_last name traces ≡ true
    → record_by elements table width traces fields
    ≡ go_on_by elements traces (row_by table (after_first fields))
unfolding field_at
record_by-last elements table width traces [] name found long each last = cc found
record_by-last elements table width traces (first ∷ cells) name found long each last =
    let same : first ≡ name = cc found in
    let count : (length cells == width) ≡ true = eq-eqb (length cells) width long in
    let is : is_last first traces ≡ true = ap (λ n. is_last n traces) same ∙ last in
    let lawful : is_trace_name first ≡ true =
    is_trace_name-true first (last_lawful elements first traces each is) in
    rw (count, lawful, comes_back-last first traces is)
    (go_on_cells elements first traces (row_by table cells) is)

-- `record_by` of a record of another trace is `start_by` of its row
pub record_by-other : (elements : Elements) (table : List Column) (width : ℕ) (traces : Traces)
    (fields : Record) (name : List ℕ)
    → field_at fields 0 ≡ Some name → length (after_first fields) ≡ width
    → is_last name traces ≡ false
    → record_by elements table width traces fields
    ≡ start_by elements name traces (row_by table (after_first fields))
unfolding field_at
record_by-other elements table width traces [] name found long other = cc found
record_by-other elements table width traces (first ∷ cells) name found long other =
    let same : first ≡ name = cc found in
    let count : (length cells == width) ≡ true = eq-eqb (length cells) width long in
    let is : is_last first traces ≡ false = ap (λ n. is_last n traces) same ∙ other in
    rw count
    (ap (λ b. if not (is_trace_name first)
    || b then Err 17 else with_cells elements first traces (row_by table cells))
    (comes_back-other first traces is)
    ∙ ap (λ r. if not (is_trace_name first)
    || list_any (λ (t : Trace). bytes_eq first t.0) traces then Err 17 else r)
    (other_cells elements first traces (row_by table cells) is)
    ∙ ap (λ n. start_by elements n traces (row_by table cells)) same)

-- `record_by` of a record of any trace is `add_by` of its row
pub record_by-added : (elements : Elements) (table : List Column) (width : ℕ) (traces : Traces)
    (fields : Record) (name : List ℕ)
    → field_at fields 0 ≡ Some name → length (after_first fields) ≡ width
    → All (IsTrace elements) traces
    → record_by elements table width traces fields
    ≡ add_by elements name traces (row_by table (after_first fields))
record_by-added elements table width traces fields name found long each =
    by (is_last name traces) refl
  where
    by : (b : Bool) → is_last name traces ≡ b
        → record_by elements table width traces fields
        ≡ add_by elements name traces (row_by table (after_first fields))
    by true is =
        record_by-last elements table width traces fields name found long each is
        ∙ ap (λ t. if t then go_on_by elements traces (row_by table (after_first fields))
        else start_by elements name traces (row_by table (after_first fields))) (sym is)
    by false is =
        record_by-other elements table width traces fields name found long is
        ∙ ap (λ t. if t then go_on_by elements traces (row_by table (after_first fields))
        else start_by elements name traces (row_by table (after_first fields))) (sym is)

-- a name that is not lawful or not new is refused with 17
refuse : (a b : Bool) (r : Result Traces ℕ) → (a && not b) ≡ false
    → (if not a || b then Err 17 else r) ≡ Err 17
refuse true true r h = refl
refuse true false r h = cc h
refuse false b r h = refl

pub start_by-refused : (elements : Elements) (name : List ℕ) (traces : Traces) (row : Option Row)
    (has : Bool)
    → has ≡ list_any (λ t. bytes_eq name t.0) traces → (is_trace_name name && not has) ≡ false
    → start_by elements name traces row ≡ Err 17
start_by-refused elements name traces row has known bad =
    refuse _ _ _ (ap (λ b. is_trace_name name && not b) (sym known) ∙ bad)

-- `start_by` is `start_cells` where the name is lawful and new
pub start_by-new : (elements : Elements) (name : List ℕ) (traces : Traces) (row : Option Row)
    → IsTraceName name
    → list_any (λ t. bytes_eq name t.0) traces ≡ false
    → start_by elements name traces row ≡ start_cells elements name traces row
start_by-new elements name traces row lawful none =
    let yes : is_trace_name name ≡ true = is_trace_name-true name lawful in
    rw (yes, none) refl

turn : (a b : Bool) → (a || (b || false)) ≡ (b || a)
turn true true = refl
turn true false = refl
turn false true = refl
turn false false = refl

-- a name is among those of `traces ++ t ∷ []` where it is that of `t`, or among those of `traces`
pub named-push : (traces : Traces) (t : Trace) (q : List ℕ)
    → list_any (λ u. bytes_eq q u.0) (traces ++ t ∷ [])
    ≡ (bytes_eq t.0 q || list_any (λ u. bytes_eq q u.0) traces)
named-push traces t q =
    let named : Trace → Bool = λ u. bytes_eq q u.0 in
    list_any-append named traces (t ∷ []) ∙ turn (list_any named traces) (bytes_eq q t.0)
    ∙ ap (λ b. b || list_any named traces) (bytes_eq-flip q t.0)

pub named-more : (traces : Traces) (name : List ℕ) (row : Row) (q : List ℕ)
    → list_any (λ t. bytes_eq q t.0) (with_trace traces name row)
    ≡ (bytes_eq name q || list_any (λ t. bytes_eq q t.0) traces)
named-more traces name row q = named-push traces (name, row ∷ []) q

-- one more row of the last trace leaves the names of the traces as they are
pub named-row : (traces : Traces) (row : Row) (q : List ℕ)
    → list_any (λ t. bytes_eq q t.0) (with_row traces row) ≡ list_any (λ t. bytes_eq q t.0) traces
named-row [] row q = refl
named-row (t ∷ []) row q = refl
named-row (t ∷ u ∷ more) row q = ap (λ b. bytes_eq q t.0 || b) (named-row (u ∷ more) row q)
