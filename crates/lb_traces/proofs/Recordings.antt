-- A lawful recording stays lawful with one more trace, and with one more row.
use Rattle.std.proofs.Common.{ℕ, ◌≡◌, ◌≢◌, ◌+◌, ◌*◌, ◌<◌, ◌≤◌, List, [], ◌∷◌, ◌++◌, length, refl}
use Rattle.std.proofs.Common.{sym, ap, ◌∙◌, subst, arith}
use Rattle.std.proofs.lemmas.List.{length_push, map_push, get_or_default, get_or_at, take_at}
use Rattle.std.proofs.lemmas.List.Elements.{All-push, All-nil, All-take}
use Rattle.std.proofs.lemmas.List.Quantifiers.{all_pairs_push}
use Rattle.std.proofs.lemmas.List.Sums.{sum_by_push}
use Rattle.std.specs.List.{All, AllPairs, Contains}
use Rattle.lb_static.specs.Signature.{Elements}
use Rattle.lb_traces.specs.Traces.{Row, Trace, Traces, Recording, IsRecording, IsTrace, IsTraceName}
use Rattle.lb_traces.specs.Traces.{IsRow, HasRoom, trace_names, instants_of, cells_of_instant}
use Rattle.lb_traces.specs.Traces.{last_rows, with_row, with_trace}

-- a recording without traces is lawful
pub IsRecording-none : (elements : Elements) → IsRecording record
    { signature = elements; traces = [] }
IsRecording-none elements = record {
  each = All-nil (IsTrace elements);
  distinct = λ i j d before below. omega arith;
  count = omega arith;
  cells = omega arith;
}

-- a list as its last element and the front before it
pub record Front {A : Type 0} (xs : List A) : Type 0 where
  pub front : List A
  pub last : A
  pub is : xs ≡ front ++ last ∷ []

pub front_of : {A : Type 0} (xs : List A) → 0 < length xs → Front xs
front_of [] some = absurd (omega arith)
front_of (x ∷ []) some = record { front = []; last = x; is = refl }
front_of (x ∷ y ∷ more) some =
    let rest : Front (y ∷ more) = front_of (y ∷ more) (omega arith) in
    record { front = x ∷ rest.front; last = rest.last; is = ap (λ r. x ∷ r) rest.is }

pub with_row-push : (front : Traces) (t : Trace) (row : Row) →
    with_row (front ++ t ∷ []) row ≡ front ++ (t.0, t.1 ++ row ∷ []) ∷ []
with_row-push [] t row = refl
with_row-push (u ∷ []) t row = refl
with_row-push (u ∷ v ∷ more) t row = ap (λ r. u ∷ r) (with_row-push (v ∷ more) t row)

pub last_rows-push : (front : Traces) (t : Trace) → last_rows (front ++ t ∷ []) ≡ t.1
last_rows-push [] t = refl
last_rows-push (u ∷ []) t = refl
last_rows-push (u ∷ v ∷ more) t = last_rows-push (v ∷ more) t

pub IsRecording-trace : (r : Recording) (name : List ℕ) (row : Row) → IsRecording r →
    IsTraceName name
    → ¬ (Contains (trace_names r.traces) name) → IsRow r.signature row → length r.traces < 1000000 →
    HasRoom r
    → IsRecording record r { traces = with_trace r.traces name row }
IsRecording-trace r name row lawful named fresh follows count room = record {
  each = All-push (IsTrace r.signature) r.traces (name, row ∷ []) lawful.each
      (record {
        name = named;
        started = omega arith;
        instants = omega arith;
        rows =
            All-push (IsRow r.signature) [] row (All-nil (IsRow r.signature)) follows;
      });
  distinct = subst (λ names. AllPairs (λ a b. a ≢ b) names)
      (sym (map_push (λ (t : Trace). t.0) r.traces (name, row ∷ [])))
      (all_pairs_push (λ a b. a ≢ b) (trace_names r.traces) name lawful.distinct
      (λ k d below same. fresh (
        k,
        below,
        get_or_default (trace_names r.traces) k name d below
            ∙ same,
      )));
  count = omega (arith, length_push r.traces (name, row ∷ []));
  cells = subst (λ n. n * cells_of_instant r.signature ≤ 67108864)
      (sym (sum_by_push (λ (t : Trace). length t.1) r.traces (name, row ∷ []))) room;
}

-- a lawful recording stays lawful with one more row of the last trace, within the limits
pub grown : (elements : Elements) (front : Traces) (t : Trace) (row : Row)
    → IsRecording record { signature = elements; traces = front ++ t ∷ [] } → IsRow elements row →
    length t.1 < 1000000
    → HasRoom record { signature = elements; traces = front ++ t ∷ [] }
    → IsRecording record { signature = elements; traces = front ++ (t.0, t.1 ++ row ∷ []) ∷ [] }
grown elements front t row lawful follows instants room =
    let long : length (t.1 ++ row ∷ []) ≡ length t.1 + 1 = length_push t.1 row in
    let at_last : IsTrace elements t = subst (IsTrace elements)
    (get_or_at front t [] t (length front) refl)
    (lawful.each (length front) t (omega (arith, length_push front t))) in
    let before : All (IsTrace elements) front = subst (All (IsTrace elements))
    (take_at front (t ∷ []) (length front) refl)
    (All-take (IsTrace elements) (length front) (front ++ t ∷ []) lawful.each) in
    let name_of : Trace → List ℕ = λ u. u.0 in
    let instants_in : Trace → ℕ = λ u. length u.1 in
    let names_are : trace_names (front ++ t ∷ []) ≡ trace_names
    (front ++ (t.0, t.1 ++ row ∷ []) ∷ []) =
    map_push name_of front t ∙ sym (map_push name_of front (t.0, t.1 ++ row ∷ [])) in
    let sum_was : instants_of (front ++ t ∷ []) ≡ instants_of front + length t.1 =
    sum_by_push instants_in front t in
    let sum_is : instants_of (front ++ (t.0, t.1 ++ row ∷ []) ∷ [])
    ≡ instants_of front + length (t.1 ++ row ∷ []) =
    sum_by_push instants_in front (t.0, t.1 ++ row ∷ []) in
    let one_more : instants_of (front ++ t ∷ []) + 1
    ≡ instants_of (front ++ (t.0, t.1 ++ row ∷ []) ∷ []) = omega arith in
    record {
      each = All-push (IsTrace elements) front (t.0, t.1 ++ row ∷ []) before
          (record {
            name = at_last.name;
            started = omega arith;
            instants = omega arith;
            rows =
                All-push (IsRow elements) t.1 row at_last.rows follows;
          });
      distinct = subst (AllPairs (λ a b. a ≢ b)) names_are lawful.distinct;
      count = omega (
        arith,
        length_push front t,
        length_push front (t.0, t.1 ++ row ∷ []),
        lawful.count,
      );
      cells = subst (λ n. n * cells_of_instant elements ≤ 67108864) one_more room;
    }

pub IsRecording-row : (elements : Elements) (traces : Traces) (row : Row) →
    IsRecording record { signature = elements; traces = traces }
    → 0 < length traces → IsRow elements row → length (last_rows traces) < 1000000
    → HasRoom record { signature = elements; traces = traces }
    → IsRecording record { signature = elements; traces = with_row traces row }
IsRecording-row elements traces row lawful started follows instants room =
    let f : Front traces = front_of traces started in
    rw (f.is, with_row-push)
    (grown _ _ _ _ (subst (λ ts.
    IsRecording record { signature = elements; traces = ts }) f.is lawful) follows
    (rw (f.is, last_rows-push) at instants) (subst
    (λ ts. HasRoom record { signature = elements; traces = ts }) f.is room))
