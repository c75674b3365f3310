-- The instants of traces that are joined.
use Rattle.std.proofs.Common.{ℕ, suc, ◌≡◌, ◌-◌, ◌<◌, Bool, true, false}
use Rattle.std.proofs.Common.{if◌then◌else◌, List, [], ◌∷◌, ◌++◌, length, get_or, map, drop}
use Rattle.std.proofs.Common.{Some}
use Rattle.std.proofs.Common.{Result, Ok, Err, refl, sym, ap, ◌∙◌, subst, append_assoc, arith}
use Rattle.std.proofs.lemmas.List.{append-nil, map-append}
use Rattle.std.specs.Prelude.{flat_map}
use Rattle.std.specs.List.{All}
use Rattle.std.proofs.lemmas.Slice.Eq.{bytes_eq-Decides}
use Rattle.lb_static.specs.Signature.{Elements}
use Rattle.lb_traces.specs.Traces.{IsRecording, IsRow, Recording, Row, Traces}
use Rattle.lb_traces.specs.Traces.{trace_at, with_row}
use Rattle.lb_traces.specs.Traces.{with_rows, with_trace}
use Rattle.lb_trace.specs.declared.recorder.Recorder.{Recorder}
use Rattle.lb_trace.specs.Mirrors.{add_by}
use Rattle.lb_trace.specs.Refusals.{is_last, with_instant}
use Rattle.lb_trace.specs.Spelling.{Instant, instants}
use Rattle.lb_trace.proofs.Names.{bytes_eq-same, is_last-push}
use Rattle.lb_trace.proofs.Soundness.{instants-push}

ok_is : (b : Bool) (x next : Traces) (n : ℕ)
    → if◌then◌else◌ {A = Result Traces ℕ} b (Ok x) (Err n) ≡ Ok next → next ≡ x
ok_is true x next n is = cc is
ok_is false x next n is = cc is

started : (b : Bool) (x : Result Traces ℕ) (next : Traces)
    → (if b then Err 17 else x) ≡ Ok next → x ≡ Ok next
started true x next is = cc is
started false x next is = is

-- `add_by` of a row gives `with_instant` where it is not refused
grown : (elements : Elements) (name : List ℕ) (traces next : Traces) (row : Row)
    → add_by elements name traces (Some row) ≡ Ok next → next ≡ with_instant name row traces
grown elements name traces next row good = by (is_last name traces) refl
  where
    by : (b : Bool) → is_last name traces ≡ b → next ≡ with_instant name row traces
    by true is =
        ok_is _ _ _ _ (rw is at good)
        ∙ sym (ap (λ b. if b then with_row traces row else with_trace traces name row) is)
    by false is =
        ok_is _ _ _ _ (started _ _ _ (rw is at good))
        ∙ sym (ap (λ b. if b then with_row traces row else with_trace traces name row) is)

-- `add_by` of a row adds this instant at the end
pub instants-added : (elements : Elements) (name : List ℕ) (traces next : Traces) (row : Row)
    → add_by elements name traces (Some row) ≡ Ok next
    → instants next ≡ instants traces ++ (name, row) ∷ []
instants-added elements name traces next row good =
    ap instants (grown elements name traces next row good) ∙ instants-push traces name row

-- `instants-added` where `given` and `copy` are equal to `name` and `row`
pub instants-copied : (elements : Elements) (given name : List ℕ) (traces next : Traces)
    (copy row : Row)
    → add_by elements given traces (Some copy) ≡ Ok next → given ≡ name → copy ≡ row
    → instants next ≡ instants traces ++ (name, row) ∷ []
instants-copied elements given name traces next copy row good same is =
    instants-added elements given traces next copy good
    ∙ ap (λ (n : List ℕ). instants traces ++ (n, copy) ∷ []) same
    ∙ ap (λ (r : Row). instants traces ++ (name, r) ∷ []) is

last-row : (name : List ℕ) (traces : Traces) (row : Row)
    → is_last name (with_row traces row) ≡ is_last name traces
last-row name [] row = refl
last-row name (t ∷ []) row = refl
last-row name (t ∷ u ∷ []) row = refl
last-row name (t ∷ u ∷ v ∷ more) row = last-row name (u ∷ v ∷ more) row

last-instant : (name : List ℕ) (traces : Traces) (row : Row)
    → is_last name (with_instant name row traces) ≡ true
last-instant name traces row = by (is_last name traces) refl
  where
    by : (b : Bool) → is_last name traces ≡ b
        → is_last name (if b then with_row traces row else with_trace traces name row) ≡ true
    by true is = last-row name traces row ∙ is
    by false is = is_last-push name traces (name, row ∷ []) ∙ bytes_eq-same name

-- `add_by` gives traces whose last one has the name that was added
pub last-added : (elements : Elements) (name : List ℕ) (traces next : Traces) (row : Row)
    → add_by elements name traces (Some row) ≡ Ok next → is_last name next ≡ true
last-added elements name traces next row good =
    ap (is_last name) (grown elements name traces next row good) ∙ last-instant name traces row

-- a row of a lawful set is lawful
pub row-lawful : (set : Recording) (elements : Elements) (k t : ℕ) (row : Row)
    → IsRecording set → set.signature ≡ elements → k < length set.traces
    → t < length (trace_at set.traces k).1 → row ≡ get_or (trace_at set.traces k).1 t []
    → IsRow elements row
row-lawful set elements k t row lawful same below within is =
    subst (λ (e : Elements). IsRow e row) same
    (subst (IsRow set.signature) (sym is) ((lawful.each k ([], []) below).rows t [] within))

-- a lawful trace has an instant
pub trace-started : (set : Recording) (k : ℕ) → IsRecording set → k < length set.traces
    → 0 < length (trace_at set.traces k).1
trace-started set k lawful below = (lawful.each k ([], []) below).started

-- more rows of the last trace are more instants of its name at the end
pub instants-rows : (name : List ℕ) (traces : Traces) (rows : List Row)
    → is_last name traces ≡ true
    → instants (with_rows traces rows) ≡ instants traces ++ map (λ row. (name, row)) rows
instants-rows name [] rows last = cc last
instants-rows name (t ∷ []) rows last =
    let f : Row → Instant = λ row. (t.0, row) in
    let same : name ≡ t.0 = (bytes_eq-Decides name t.0).0 last in
    append-nil (map f (t.1 ++ rows)) ∙ map-append f t.1 rows
    ∙ ap (λ is. is ++ map f rows) (sym (append-nil (map f t.1)))
    ∙ ap (λ (n : List ℕ). (map f t.1 ++ []) ++ map (λ (row : Row). (n, row)) rows) (sym same)
instants-rows name (t ∷ u ∷ more) rows last =
    let f : Row → Instant = λ row. (t.0, row) in
    ap (λ is. map f t.1 ++ is) (instants-rows name (u ∷ more) rows last)
    ∙ sym (append_assoc (map f t.1) (instants (u ∷ more)) (map (λ (row : Row). (name, row)) rows))

-- `instants-rows` for the traces `after`, which have these rows more than `before`
pub instants-extended : (name : List ℕ) (before after : Recording) (rows : List Row)
    → is_last name before.traces ≡ true
    → after ≡ record before { traces = with_rows before.traces rows }
    → instants after.traces ≡ instants before.traces ++ map (λ row. (name, row)) rows
instants-extended name before after rows last is =
    ap (λ (r : Recording). instants r.traces) is ∙ instants-rows name before.traces rows last

-- `length rows - 1` rows stand after the first one
pub others-counted : (rows : List Row) → length (drop 1 rows) ≡ length rows - 1
others-counted [] = refl
others-counted (row ∷ rows) = omega arith

-- the first row of a trace and then the others are all rows of the trace
pub trace-whole : (name : List ℕ) (before first after : List Instant) (rows : List Row)
    → 0 < length rows → first ≡ before ++ (name, get_or rows 0 []) ∷ []
    → after ≡ first ++ map (λ row. (name, row)) (drop 1 rows)
    → after ≡ before ++ map (λ row. (name, row)) rows
trace-whole name before first after [] some one others = absurd (omega (arith, some))
trace-whole name before first after (row ∷ rows) some one others =
    let f : Row → Instant = λ r. (name, r) in
    others ∙ ap (λ is. is ++ map f rows) one
    ∙ append_assoc before ((name, row) ∷ []) (map f rows)

-- the instants of the first part and then of the others are those of all parts
pub parts-whole : (parts rest : List Recorder) (first : Recorder) (all : List Instant)
    → 0 < length parts → first ≡ get_or parts 0 first → rest ≡ drop 1 parts
    → all ≡ instants first.rows.traces ++ flat_map (λ part. instants part.rows.traces) rest
    → all ≡ flat_map (λ part. instants part.rows.traces) parts
parts-whole [] rest first all some is others joined = absurd (omega (arith, some))
parts-whole (part ∷ parts) rest first all some is others joined =
    let all_in : Recorder → List Instant = λ one. instants one.rows.traces in
    joined ∙ ap (λ (one : Recorder). all_in one ++ flat_map all_in rest) is
    ∙ ap (λ ps. all_in part ++ flat_map all_in ps) others

-- a property of all parts is one of all parts but the first
pub parts-others : (P : Recorder → Type 0) (parts rest : List Recorder)
    → rest ≡ drop 1 parts → All P parts → All P rest
parts-others P [] rest others each = subst (All P) (sym others) each
parts-others P (part ∷ parts) rest others each =
    subst (All P) (sym others) (λ k d below. each (suc k) d (omega (arith, below)))

-- a property of all parts is one of the first part
pub part-at : (P : Recorder → Type 0) (parts : List Recorder) (first : Recorder)
    → 0 < length parts → first ≡ get_or parts 0 first → All P parts → P first
part-at P parts first some is each = subst P (sym is) (each 0 first some)
