-- One more trace behind those of a roll, and then all traces of a set.
use Rattle.std.proofs.Common.{ℕ, ◌≡◌, ◌+◌, ◌*◌, ◌<◌, ◌≤◌, ◌&&◌, Bool, true, false, not, List, []}
use Rattle.std.proofs.Common.{◌∷◌, ◌++◌, length, map, take, drop, Ok, Err, refl, sym, ap}
use Rattle.std.proofs.Common.{◌∙◌, subst, arith, inl, inr, ⊎_elim, nat_lt, append_assoc}
use Rattle.std.proofs.lemmas.List.{drop_more, length_push, take-append-drop, take_more}
use Rattle.std.proofs.lemmas.Grind.{flat_map-append}
use Rattle.std.proofs.Math.Nat.{mul-le-mul_left}
use Rattle.std.specs.List.{AllZip, list_any}
use Rattle.std.specs.Str.{bytes_eq}
use Rattle.lb_static.specs.Signature.{Elements}
use Rattle.lb_traces.specs.Traces.{IsRecording, IsTraceName, Recording, Row, Trace, Traces}
use Rattle.lb_traces.specs.Traces.{cells_of_instant, instants_of, trace_at, trace_names, with_trace}
use Rattle.lb_trace.specs.declared.error.TraceError.{TraceError}
use Rattle.lb_trace.specs.declared.roll.Roll.{Roll}
use Rattle.lb_trace.specs.Errors.{IsRefusal, error_number}
use Rattle.lb_trace.specs.Mirrors.{knows}
use Rattle.lb_trace.specs.Refusals.{is_last, is_trace_name, then_read, with_records}
use Rattle.lb_trace.specs.Rolls.{IsRoll, IsRollOf, IsTraceOf, RefusesRows, RefusesTrace, lengths_of}
use Rattle.lb_trace.specs.Spelling.{Instant, Record, SpellsInstant, instants}
use Rattle.lb_trace.proofs.Completeness.{complete}
use Rattle.lb_trace.proofs.Names.{comes_back-none, is_last-none, is_trace_name-true}
use Rattle.lb_trace.proofs.Readings.{with_records-append}
use Rattle.lb_trace.proofs.Rolls.{IsRecording-more, instants_push, lengths_push, name_there}
use Rattle.lb_trace.proofs.Rolls.{names_push, one_too_many, same_any, same_count, same_last}
use Rattle.lb_trace.proofs.Rolls.{too_many}

-- ## One more trace

-- a product is no less than its first factor, where the second is not 0
at_least : (a b : ℕ) → 0 < b → a ≤ a * b
at_least a b some =
    let one : 1 ≤ b = omega (arith, some) in omega (arith, mul-le-mul_left a one)

-- `next` is `roll` with one more name and length
pub record Grows (roll next : Roll) (name : List ℕ) (count : ℕ) : Type 0 where
  pub names : next.names ≡ record roll.names {
    traces = with_trace roll.names.traces name [];
  }
  pub known : knows next.known (with_trace roll.names.traces name [])
  pub lengths : next.lengths.items ≡ roll.lengths.items ++ count ∷ []
  pub instants : next.instants ≡ roll.instants + count
  pub cells : next.cells ≡ roll.cells
  pub fits : (roll.instants + count) * roll.cells ≤ 67108864

pub grows_by : (roll next : Roll) (name text : List ℕ) (count : ℕ)
    → text ≡ name
    → next.names ≡ record roll.names { traces = with_trace roll.names.traces text [] }
    → knows next.known (with_trace roll.names.traces name [])
    → next.lengths.items ≡ roll.lengths.items ++ count ∷ []
    → next.instants ≡ roll.instants + count → next.cells ≡ roll.cells
    → (roll.instants + count) * roll.cells ≤ 67108864
    → Grows roll next name count
grows_by roll next name text count same names known lengths instants cells fits = record {
  names = names
      ∙ ap (λ n. record roll.names { traces = with_trace roll.names.traces n [] }) same;
  known = known;
  lengths = lengths;
  instants = instants;
  cells = cells;
  fits = fits;
}

pub grown_roll : (roll next : Roll) (name : List ℕ) (count : ℕ)
    → IsRoll roll → Grows roll next name count → IsRoll next
grown_roll roll next name count is more =
    let one : Trace = (name, [] ∷ []) in
    let traces : next.names.traces ≡ roll.names.traces ++ one ∷ [] =
    ap (λ (r : Recording). r.traces) more.names in
    let size : length next.names.traces ≡ length roll.names.traces + 1 =
    ap length traces ∙ length_push roll.names.traces one in
    record {
      bare = ap (λ (r : Recording). r.signature) more.names ∙ is.bare;
      ones = ap instants_of traces ∙ instants_push roll.names.traces one
          ∙ ap (λ n. n + 1) is.ones ∙ sym size;
      known = subst (knows next.known) (sym traces) more.known;
      counted = ap length more.lengths ∙ length_push roll.lengths.items count
          ∙ ap (λ n. n + 1) is.counted ∙ sym size;
      some = subst (λ n. 0 < n) (sym more.cells) is.some;
      few = subst (λ n. n ≤ 1023) (sym more.cells) is.few;
      within = subst (λ n. n * next.cells ≤ 67108864) (sym more.instants)
          (subst (λ n. (roll.instants + count) * n ≤ 67108864) (sym more.cells) more.fits);
      instants = omega (
        arith,
        more.instants,
        more.fits,
        at_least (roll.instants + count) roll.cells is.some,
      );
    }

-- a roll with one more name and length is that of one more trace, where its name is new
pub grown_roll_of : (roll next : Roll) (elements : Elements) (traces : Traces) (t : Trace)
    (name : List ℕ) (count : ℕ)
    → IsRollOf elements roll traces → IsTraceOf elements name count t
    → list_any (λ u. bytes_eq name u.0) roll.names.traces ≡ false
    → length roll.names.traces < 1000000 → Grows roll next name count
    → IsRollOf elements next (traces ++ t ∷ [])
grown_roll_of roll next elements traces t name count of is new few more =
    let all : next.names.traces ≡ roll.names.traces ++ (name, [] ∷ []) ∷ [] =
    ap (λ (r : Recording). r.traces) more.names in
    record {
      is = grown_roll roll next name count of.is more;
      lawful = IsRecording-more elements traces t of.lawful is.0
          (ap (λ n. list_any (λ (u : Trace). bytes_eq n u.0) traces) is.1
          ∙ same_any _ _ _ (sym of.names) ∙ new)
          (subst (λ n. n < 1000000) (same_count roll.names.traces traces of.names) few)
          (subst (λ n. (instants_of traces + n) * cells_of_instant elements ≤ 67108864)
          (sym is.2)
          (subst (λ n. (n + count) * cells_of_instant elements ≤ 67108864) of.instants
          (subst (λ n. (roll.instants + count) * n ≤ 67108864) of.cells more.fits)));
      names = ap trace_names all ∙ names_push roll.names.traces (name, [] ∷ [])
          ∙ ap (λ ns. ns ++ name ∷ []) of.names
          ∙ ap (λ n. trace_names traces ++ n ∷ []) (sym is.1) ∙ sym (names_push traces t);
      lengths = more.lengths ∙ ap (λ ls. ls ++ count ∷ []) of.lengths
          ∙ ap (λ n. lengths_of traces ++ n ∷ []) (sym is.2) ∙ sym (lengths_push traces t);
      instants = more.instants ∙ ap (λ n. n + count) of.instants
          ∙ ap (λ n. instants_of traces + n) (sym is.2) ∙ sym (instants_push traces t);
      cells = more.cells ∙ of.cells;
    }

-- ## The refusal of a trace

-- the number 0, want of memory, is a refusal of any trace
pub refuses_nothing : (roll : Roll) (name : List ℕ) (count : ℕ) (e : TraceError)
    → error_number e ≡ 0 → RefusesTrace roll name count e
refuses_nothing roll name count e memory = λ elements columns traces t records of is spelled.
    inl memory

there_from : (a b : Bool) → a ≡ true → (a && not b) ≡ false → b ≡ true
there_from true true is bad = refl
there_from true false is bad = cc bad
there_from false true is bad = refl
there_from false false is bad = cc is

-- a trace is refused with 17 where its name is there and is not the last one
pub refuses_name : (roll : Roll) (name : List ℕ) (count : ℕ) (e : TraceError)
    → error_number e ≡ 17
    → (is_trace_name name && not (list_any (λ u. bytes_eq name u.0) roll.names.traces)) ≡ false
    → is_last name roll.names.traces ≡ false → RefusesTrace roll name count e
refuses_name roll name count e number found other =
    λ elements columns traces t records of is spelled.
    let lawful : is_trace_name name ≡ true =
    is_trace_name-true name (subst IsTraceName is.1 is.0.name) in
    let there : list_any (λ (u : Trace). bytes_eq name u.0) roll.names.traces ≡ true =
    there_from (is_trace_name name)
    (list_any (λ (u : Trace). bytes_eq name u.0) roll.names.traces) lawful found in
    inr (name_there _ _ _ _ _ is.0 spelled
    (ap (λ n. list_any (λ (u : Trace). bytes_eq n u.0) traces) is.1
    ∙ same_any _ _ _ (sym of.names) ∙ there) (ap (λ n. is_last n traces) is.1
    ∙ same_last _ _ _ (sym of.names) ∙ other) ∙ ap Err (sym number))

and-there : (a b : Bool) → b ≡ true → (a && not b) ≡ false
and-there true true is = refl
and-there true false is = cc is
and-there false b is = refl

-- a trace whose name is there is refused with 0 if the name is the last one, else with 17
pub refuses_there : (roll : Roll) (name : List ℕ) (count : ℕ) (e : TraceError)
    → list_any (λ u. bytes_eq name u.0) roll.names.traces ≡ true
    → (is_last name roll.names.traces ≡ true → error_number e ≡ 0)
    → (is_last name roll.names.traces ≡ false → error_number e ≡ 17)
    → RefusesTrace roll name count e
refuses_there roll name count e there last other = by (is_last name roll.names.traces) refl
  where
    by : (b : Bool) → is_last name roll.names.traces ≡ b → RefusesTrace roll name count e
    by true is = refuses_nothing roll name count e (last is)
    by false is =
        refuses_name roll name count e (other is)
        (and-there (is_trace_name name)
        (list_any (λ (u : Trace). bytes_eq name u.0) roll.names.traces) there) is

-- a name that is new for a roll is new for its traces
new_name : (roll : Roll) (elements : Elements) (traces : Traces) (t : Trace) (name : List ℕ)
    (count : ℕ)
    → IsRollOf elements roll traces → IsTraceOf elements name count t
    → list_any (λ u. bytes_eq name u.0) roll.names.traces ≡ false
    → list_any (λ u. bytes_eq t.0 u.0) traces ≡ false
new_name roll elements traces t name count of is new =
    ap (λ n. list_any (λ (u : Trace). bytes_eq n u.0) traces) is.1
    ∙ same_any _ _ _ (sym of.names) ∙ new

-- a trace with a new name is refused with 18 where the roll has no room for a trace
pub refuses_count : (roll : Roll) (name : List ℕ) (count : ℕ) (e : TraceError)
    → error_number e ≡ 18
    → list_any (λ u. bytes_eq name u.0) roll.names.traces ≡ false
    → nat_lt (length roll.names.traces) 1000000 ≡ false → RefusesTrace roll name count e
refuses_count roll name count e number new full =
    λ elements columns traces t records of is spelled.
    let free = new_name roll elements traces t name count of is new in
    inr (one_too_many _ _ _ _ _ is.0 spelled
    (comes_back-none t.0 traces free) (is_last-none t.0 traces free)
    (ap (λ n. nat_lt n 1000000) (sym (same_count roll.names.traces traces of.names)) ∙ full)
    ∙ ap Err (sym number))

-- a trace with a new name is refused with 18 where there is no room for all its cells
pub refuses_cells : (roll : Roll) (name : List ℕ) (count : ℕ) (e : TraceError)
    → error_number e ≡ 18
    → list_any (λ u. bytes_eq name u.0) roll.names.traces ≡ false
    → 67108864 < (roll.instants + count) * roll.cells → RefusesTrace roll name count e
refuses_cells roll name count e number new full =
    λ elements columns traces t records of is spelled.
    let free = new_name roll elements traces t name count of is new in
    inr (too_many elements columns traces t records of.lawful spelled
    (comes_back-none t.0 traces free)
    (subst (λ n. 67108864 < (instants_of traces + n) * cells_of_instant elements) (sym is.2)
    (subst (λ n. 67108864 < (n + count) * cells_of_instant elements) of.instants
    (subst (λ n. 67108864 < (roll.instants + count) * n) of.cells full)))
    ∙ ap Err (sym number))

-- ## All traces of a set

-- a list that is related to `ys` and then `zs`, cut in two: one part for each
pub record Cut {A B : Type 0} (R : A → B → Type 0) (xs : List A) (ys zs : List B) : Type 0 where
  pub first : List A
  pub second : List A
  pub is : xs ≡ first ++ second
  pub one : AllZip R first ys
  pub other : AllZip R second zs

zip_cut : {A B : Type 0} (R : A → B → Type 0) (xs : List A) (ys zs : List B)
    → AllZip R xs (ys ++ zs) → Cut R xs ys zs
zip_cut R xs [] zs h = record { first = []; second = xs; is = refl; one = tt; other = h }
zip_cut R [] (y ∷ ys) zs h = absurd h
zip_cut R (x ∷ xs) (y ∷ ys) zs h =
    let rest : Cut R xs ys zs = zip_cut R xs ys zs h.1 in
    record {
      first = x ∷ rest.first;
      second = rest.second;
      is = ap (λ r. x ∷ r) rest.is;
      one = (h.0, rest.one);
      other = rest.other;
    }

-- a refusal of the first records is the refusal of all
first_refused : (elements : Elements) (columns : Record) (traces : Traces)
    (some more : List Record) (e : TraceError)
    → IsRefusal (with_records elements columns traces some) e
    → IsRefusal (with_records elements columns traces (some ++ more)) e
first_refused elements columns traces some more e bad =
    ⊎_elim (λ (h : error_number e ≡ 0). inl h)
    (λ (h : with_records elements columns traces some ≡ Err (error_number e)).
    inr (with_records-append elements columns traces some more
    ∙ ap (then_read (λ ts. with_records elements columns ts more)) h))
    bad

-- the refusal of trace `k` behind the traces before it is the refusal of the set
pub refuses_rows : (before roll : Roll) (set : Recording) (k : ℕ) (e : TraceError)
    → IsRecording set → k < length set.traces
    → ((traces : Traces) → IsRollOf set.signature before traces
    → IsRollOf set.signature roll (traces ++ take k set.traces))
    → RefusesTrace roll (trace_at set.traces k).0 (length (trace_at set.traces k).1) e
    → RefusesRows before set e
refuses_rows before roll set k e lawful below taken refused =
    λ columns traces records of spelled.
    let elements : Elements = set.signature in
    let front : Traces = take k set.traces in
    let t : Trace = trace_at set.traces k in
    let named : Trace → List Instant = λ u. map (λ (row : Row). (u.0, row)) u.1 in
    let all : instants set.traces
    ≡ instants front ++ (named t ++ instants (drop (k + 1) set.traces)) =
    ap instants (sym (take-append-drop k set.traces)
    ∙ ap (λ r. front ++ r) (drop_more set.traces k ([], []) below))
    ∙ flat_map-append named front (t ∷ drop (k + 1) set.traces) in
    let R = SpellsInstant elements columns in
    let one : Cut R records (instants front) (named t ++ instants (drop (k + 1) set.traces)) =
    zip_cut R records (instants front) (named t ++ instants (drop (k + 1) set.traces))
    (subst (AllZip R records) all spelled) in
    let two : Cut R one.second (named t) (instants (drop (k + 1) set.traces)) =
    zip_cut R one.second (named t) (instants (drop (k + 1) set.traces)) one.other in
    let behind : IsRollOf elements roll (traces ++ front) = taken traces of in
    let read : with_records elements columns traces one.first ≡ Ok (traces ++ front) =
    complete _ _ _ _ _ behind.lawful one.one in
    let bad : IsRefusal (with_records elements columns (traces ++ front) two.first) e =
    refused _ _ _ t two.first behind (lawful.each k ([], []) below, refl, refl) two.one in
    let last : IsRefusal (with_records elements columns (traces ++ front) one.second) e =
    subst (λ rs. IsRefusal (with_records elements columns (traces ++ front) rs) e) (sym two.is)
    (first_refused elements columns (traces ++ front) two.first two.second e bad) in
    let joined : with_records elements columns traces records
    ≡ with_records elements columns (traces ++ front) one.second =
    ap (with_records elements columns traces) one.is
    ∙ with_records-append elements columns traces one.first one.second
    ∙ ap (then_read (λ ts. with_records elements columns ts one.second)) read in
    subst (λ o. IsRefusal o e) (sym joined) last

-- a roll that has taken `k` traces of a set has taken `k + 1` with the next one
pub taken_more : (before roll next : Roll) (set : Recording) (k : ℕ)
    → IsRecording set → k < length set.traces
    → ((traces : Traces) → IsRollOf set.signature before traces
    → IsRollOf set.signature roll (traces ++ take k set.traces))
    → ((elements : Elements) (traces : Traces) (t : Trace) → IsRollOf elements roll traces
    → IsTraceOf elements (trace_at set.traces k).0 (length (trace_at set.traces k).1) t
    → IsRollOf elements next (traces ++ t ∷ []))
    → (traces : Traces) → IsRollOf set.signature before traces
    → IsRollOf set.signature next (traces ++ take (k + 1) set.traces)
taken_more before roll next set k lawful below taken takes traces of =
    let t : Trace = trace_at set.traces k in
    subst (λ ts. IsRollOf set.signature next ts)
    (append_assoc traces (take k set.traces) (t ∷ [])
    ∙ ap (λ ts. traces ++ ts) (sym (take_more set.traces k ([], []) below)))
    (takes set.signature (traces ++ take k set.traces) t (taken traces of)
    (lawful.each k ([], []) below, refl, refl))
