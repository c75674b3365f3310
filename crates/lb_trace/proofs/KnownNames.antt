-- `knows`: the names of the traces stay known while traces are added.
use Rattle.std.proofs.Common.{ℕ, ◌≡◌, ◌+◌, ◌<◌, ◌-◌, Bool, true, false, ◌&&◌, ◌||◌, List, []}
use Rattle.std.proofs.Common.{◌∷◌, ◌++◌, if◌then◌else◌, length, Option, Some, None, Result}
use Rattle.std.proofs.Common.{Ok, Err, refl, sym, ap, ◌∙◌, subst, arith, get_or}
use Rattle.std.proofs.Common.{length-append}
use Rattle.std.proofs.lemmas.Cmp.{nat_cmp_total, nat_list_cmp_total, on_total, then_total}
use Rattle.std.proofs.lemmas.Cmp.{tied_itself}
use Rattle.std.proofs.lemmas.List.{get_or-map, get_or_at, length-map}
use Rattle.std.specs.Cmp.{IsTotalOrder}
use Rattle.std.specs.Cmp.Lexicographic.{slice_cmp}
use Rattle.std.specs.BTreeSet.{contains_text}
use Rattle.std.specs.List.{list_any}
use Rattle.std.proofs.Common.{Equal, Greater, Less, Ordering}
use Rattle.std.specs.Ordering.{is_lt, nat_cmp, on, then_cmp}
use Rattle.std.specs.Str.{bytes_eq}
use Rattle.lb_static.specs.Signature.{Elements}
use Rattle.lb_traces.specs.Traces.{Recording, Row, Trace, Traces}
use Rattle.lb_traces.specs.Traces.{trace_at, trace_names, with_row, with_rows}
use Rattle.lb_traces.specs.Traces.{with_trace}
use Rattle.lb_traces.proofs.Recordings.{Front, front_of}
use Rattle.lb_trace.specs.declared.seen_names.SeenNames.{SeenNames}
use Rattle.lb_trace.specs.declared.name_table.NameTable.{NameTable}
use Rattle.lb_trace.specs.Mirrors.{go_on_by, is_below, knows, rises_to, start_cells, IsTableOf}
use Rattle.lb_trace.specs.NamePlaces.{HavePlaces}
use Rattle.lb_trace.proofs.Additions.{named-more, named-row}
use Rattle.lb_trace.proofs.Lasts.{last_at}
use Rattle.lb_trace.proofs.NamePlacing.{have_more}
use Rattle.lb_trace.proofs.Names.{bytes_eq-flip, bytes_eq-other}

order : IsTotalOrder (then_cmp (on (length {A = ℕ}) nat_cmp) (slice_cmp nat_cmp))
order = then_total (on_total (length {A = ℕ}) nat_cmp_total) nat_list_cmp_total

is_less : (o : Ordering) → is_lt o ≡ true → o ≡ Less
is_less Less h = refl
is_less Equal h = cc h
is_less Greater h = cc h

not_less : (o : Ordering) → o ≡ Equal → is_lt o ≡ false
not_less o is = ap is_lt is

below-more : (a b c : List ℕ) → is_below a b ≡ true → is_below b c ≡ true → is_below a c ≡ true
below-more a b c one two =
    let R : List ℕ → List ℕ → Ordering =
    then_cmp (on (length {A = ℕ}) nat_cmp) (slice_cmp nat_cmp) in
    ap is_lt (order.trans a b c (is_less (R a b) one) (is_less (R b c) two))

below-other : (a b : List ℕ) → is_below a b ≡ true → bytes_eq b a ≡ false
below-other a b below =
    let R : List ℕ → List ℕ → Ordering =
    then_cmp (on (length {A = ℕ}) nat_cmp) (slice_cmp nat_cmp) in
    bytes_eq-other b a (λ (same : b ≡ a).
    let no : is_below a b ≡ false =
    ap (is_below a) same ∙ not_less (R a a) (tied_itself order a) in
    cc (below, no))

rises-push : (name : List ℕ) (front : Traces) (t : Trace)
    → rises_to (front ++ t ∷ []) name ≡ is_below t.0 name
rises-push name [] t = refl
rises-push name (u ∷ []) t = refl
rises-push name (u ∷ v ∷ more) t = rises-push name (v ∷ more) t

rises-more : (traces : Traces) (name q : List ℕ)
    → rises_to traces name ≡ true → is_below name q ≡ true → rises_to traces q ≡ true
rises-more [] name q up over = refl
rises-more (t ∷ []) name q up over = below-more t.0 name q up over
rises-more (t ∷ u ∷ more) name q up over = rises-more (u ∷ more) name q up over

rises-row : (traces : Traces) (row : Row) (q : List ℕ)
    → rises_to (with_row traces row) q ≡ rises_to traces q
rises-row [] row q = refl
rises-row (t ∷ []) row q = refl
rises-row (t ∷ u ∷ []) row q = refl
rises-row (t ∷ u ∷ v ∷ more) row q = rises-row (u ∷ v ∷ more) row q

-- every name rises where there is no trace
pub rises-none : (traces : Traces) (name : List ℕ) → length traces ≡ 0
    → true ≡ rises_to traces name
rises-none [] name none = refl
rises-none (t ∷ more) name none = absurd (omega (arith, none))

-- a name rises where the name at the last place is below it
pub rises_at : (name : List ℕ) (traces : Traces) (n : ℕ) → 0 < length traces
    → n ≡ length traces - 1
    → is_below (trace_at traces n).0 name ≡ rises_to traces name
rises_at name traces n some at =
    let f : Front traces = front_of traces some in
    sym (ap (λ ts. rises_to ts name) f.is ∙ rises-push name f.front f.last
    ∙ ap (λ (t : Trace). is_below t.0 name) (sym (last_at f.front f.last))
    ∙ ap (λ ts. is_below (trace_at ts (length ts - 1)).0 name) (sym f.is)
    ∙ ap (λ k. is_below (trace_at traces k).0 name) (sym at))

-- no trace is known at the start
pub knows-none : (names : SeenNames) → names.rising ≡ true → knows names []
knows-none names rising =
    (λ is q up. refl, λ (is : names.rising ≡ false). cc (rising, is))

-- a name that rises above the last of rising names is new
pub risen-new : (names : SeenNames) (traces : Traces) (name : List ℕ) → knows names traces
    → (names.rising && rises_to traces name) ≡ true
    → list_any (λ t. bytes_eq name t.0) traces ≡ false
risen-new names traces name known both = by names.rising refl
  where
    by : (b : Bool) → names.rising ≡ b → list_any (λ (t : Trace). bytes_eq name t.0) traces ≡ false
    by true is = known.0 is name (ap (λ b. b && rises_to traces name) (sym is) ∙ both)
    by false is =
        let no : (names.rising && rises_to traces name) ≡ false =
        ap (λ b. b && rises_to traces name) is in
        cc (both, no)

-- the names stay known, and rising, with a name that rises above them
pub risen-knows : (names : SeenNames) (traces : Traces) (name : List ℕ) (row : Row)
    → knows names traces → (names.rising && rises_to traces name) ≡ true
    → knows names (with_trace traces name row)
risen-knows names traces name row known both = by names.rising refl
  where
    up : names.rising ≡ true → rises_to traces name ≡ true
    up is = ap (λ b. b && rises_to traces name) (sym is) ∙ both

    above : names.rising ≡ true → (q : List ℕ) → rises_to (with_trace traces name row) q ≡ true
        → list_any (λ (t : Trace). bytes_eq q t.0) (with_trace traces name row) ≡ false
    above is q rises =
        let over : is_below name q ≡ true = sym (rises-push q traces (name, row ∷ [])) ∙ rises in
        let none : list_any (λ (t : Trace). bytes_eq q t.0) traces ≡ false =
        known.0 is q (rises-more traces name q (up is) over) in
        let other : bytes_eq name q ≡ false = bytes_eq-flip name q ∙ below-other name q over in
        named-more traces name row q
        ∙ ap (λ b. b || list_any (λ (t : Trace). bytes_eq q t.0) traces) other
        ∙ none

    by : (b : Bool) → names.rising ≡ b → knows names (with_trace traces name row)
    by true is = (above, λ (no : names.rising ≡ false). cc (is, no))
    by false is =
        let no : (names.rising && rises_to traces name) ≡ false =
        ap (λ b. b && rises_to traces name) is in
        cc (both, no)

-- a test passes for some trace name where it passes for the name of some trace
pub names-any : (test : List ℕ → Bool) (traces : Traces)
    → list_any test (trace_names traces) ≡ list_any (λ (t : Trace). test t.0) traces
names-any test [] = refl
names-any test (t ∷ more) = ap (λ b. test t.0 || b) (names-any test more)

pub names_long : (traces : Traces) → length (trace_names traces) ≡ length traces
names_long traces = length-map traces (λ (t : Trace). t.0)

pub name_at : (traces : Traces) (k : ℕ) → k < length traces
    → get_or (trace_names traces) k [] ≡ (trace_at traces k).0
name_at traces k below = get_or-map (λ (t : Trace). t.0) traces k ([], []) [] below

names-more : (traces : Traces) (name : List ℕ) (row : Row)
    → trace_names (with_trace traces name row) ≡ trace_names traces ++ name ∷ []
names-more [] name row = refl
names-more (t ∷ more) name row = ap (λ l. t.0 ∷ l) (names-more more name row)

-- a table of all names is one of one name more once that name is put
pub table-more : (old new : NameTable) (traces : Traces) (name : List ℕ) (row : Row) (n : ℕ)
    → n ≡ length traces → IsTableOf old (trace_names traces)
    → length new.places.items ≡ length old.places.items
    → ((names : List (List ℕ)) → get_or names n [] ≡ name → n < length names
    → HavePlaces old.places.items (contains_text old.others) names n
    → HavePlaces new.places.items (contains_text new.others) names (n + 1))
    → IsTableOf new (trace_names (with_trace traces name row))
table-more old new traces name row n is table room put =
    subst (IsTableOf new) (sym (names-more traces name row))
    (let long : length (trace_names traces ++ name ∷ []) ≡ n + 1 =
    length-append (trace_names traces) (name ∷ []) ∙ ap (λ m. m + 1) (names_long traces ∙ sym is) in
    record {
      some = let some = table.some in omega (arith, some, room);
      few = let few = table.few in omega (arith, few, room);
      have =
          subst
          (HavePlaces new.places.items (contains_text new.others)
          (trace_names traces ++ name ∷ [])) (sym long)
          (put (trace_names traces ++ name ∷ [])
          (get_or_at (trace_names traces) name [] [] n (names_long traces ∙ sym is))
          (omega (arith, long))
          (subst
          (HavePlaces old.places.items (contains_text old.others)
          (trace_names traces ++ name ∷ [])) (names_long traces ∙ sym is)
          (have_more _ _ _ _ table.have)));
    })

pub gathered-knows : (names : SeenNames) (traces : Traces) → names.rising ≡ false
    → IsTableOf names.table (trace_names traces) → knows names traces
gathered-knows names traces risen table = (
  λ (is : names.rising ≡ true). cc (risen, is),
  λ is. table,
)

names-row : (traces : Traces) (row : Row)
    → trace_names (with_row traces row) ≡ trace_names traces
names-row [] row = refl
names-row (t ∷ []) row = refl
names-row (t ∷ u ∷ more) row = ap (λ l. t.0 ∷ l) (names-row (u ∷ more) row)

knows-row : (names : SeenNames) (traces : Traces) (row : Row) → knows names traces
    → knows names (with_row traces row)
knows-row names traces row known = (
  λ is q rises. named-row traces row q ∙ known.0 is q (sym (rises-row traces row q) ∙ rises),
  λ is. subst (IsTableOf names.table) (sym (names-row traces row)) (known.1 is),
)

rises-rows : (traces : Traces) (rows : List Row) (q : List ℕ)
    → rises_to (with_rows traces rows) q ≡ rises_to traces q
rises-rows [] rows q = refl
rises-rows (t ∷ []) rows q = refl
rises-rows (t ∷ u ∷ []) rows q = refl
rises-rows (t ∷ u ∷ v ∷ more) rows q = rises-rows (u ∷ v ∷ more) rows q

named-rows : (traces : Traces) (rows : List Row) (q : List ℕ)
    → list_any (λ t. bytes_eq q t.0) (with_rows traces rows)
    ≡ list_any (λ t. bytes_eq q t.0) traces
named-rows [] rows q = refl
named-rows (t ∷ []) rows q = refl
named-rows (t ∷ u ∷ more) rows q = ap (λ b. bytes_eq q t.0 || b) (named-rows (u ∷ more) rows q)

names-rows : (traces : Traces) (rows : List Row)
    → trace_names (with_rows traces rows) ≡ trace_names traces
names-rows [] rows = refl
names-rows (t ∷ []) rows = refl
names-rows (t ∷ u ∷ more) rows = ap (λ l. t.0 ∷ l) (names-rows (u ∷ more) rows)

-- the names stay known after more rows of the last trace
pub knows-rows : (names : SeenNames) (before after : Recording) (rows : List Row)
    → after ≡ record before { traces = with_rows before.traces rows }
    → knows names before.traces → knows names after.traces
knows-rows names before after rows is known =
    subst (λ (r : Recording). knows names r.traces) (sym is) (
      λ rising q rises. named-rows before.traces rows q
          ∙ known.0 rising q (sym (rises-rows before.traces rows q) ∙ rises),
      λ risen.
          subst (IsTableOf names.table) (sym (names-rows before.traces rows)) (known.1 risen),
    )

ok_is : (b : Bool) (x next : Traces) (n : ℕ)
    → if◌then◌else◌ {A = Result Traces ℕ} b (Ok x) (Err n) ≡ Ok next → x ≡ next
ok_is true x next n is = cc is
ok_is false x next n is = cc is

-- the names stay known after one more row of the last trace
pub go_on_by-knows : (names : SeenNames) (elements : Elements) (traces next : Traces)
    (row : Option Row)
    → go_on_by elements traces row ≡ Ok next → knows names traces → knows names next
go_on_by-knows names elements traces next None is known = cc is
go_on_by-knows names elements traces next (Some row) is known =
    subst (knows names)
    (ok_is _ _ _ _ is) (knows-row names traces row known)

-- the names stay known after one more trace, if its name was taken
pub start_cells-knows : (names : SeenNames) (elements : Elements) (name : List ℕ)
    (traces next : Traces) (row : Option Row)
    → start_cells elements name traces row ≡ Ok next
    → ((first : Row) → knows names (with_trace traces name first)) → knows names next
start_cells-knows names elements name traces next None is known = cc is
start_cells-knows names elements name traces next (Some row) is known =
    subst (knows names)
    (ok_is _ _ _ _ is) (known row)
