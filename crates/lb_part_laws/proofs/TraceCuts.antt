-- Traces are cut where the name changes from one record to the next.
use Rattle.std.proofs.Common.{◌≡◌, ◌≢◌, ◌∙◌, ℕ, ◌+◌, ◌*◌, ◌≤◌, List, [], ◌∷◌, ◌++◌, length}
use Rattle.std.proofs.Common.{get_or, map, refl, sym, ap, subst, append_assoc, arith}
use Rattle.std.specs.List.{All, AllPairs, AllZip}
use Rattle.std.proofs.lemmas.List.{get_or-append-add, get_or_append_left, length-append, map-append}
use Rattle.std.proofs.lemmas.List.Sums.{sum_by-append}
use Rattle.lb_static.specs.Signature.{Elements}
use Rattle.lb_traces.specs.Traces.{IsRecording, IsTrace, Row, Trace, Traces}
use Rattle.lb_traces.specs.Traces.{cells_of_instant, instants_of, trace_names}
use Rattle.lb_trace.specs.Spelling.{Instant, Record, SpellsInstant, instants}
use Rattle.lb_part_laws.specs.Stretches.{AreApart, name_in}

-- ## Instants

-- the instants of the first records, and those of the others
pub record Halves
    (elements : Elements) (columns : Record) (before after : List Record) (found : List Instant)
    : Type 0 where
  pub first : List Instant
  pub second : List Instant
  pub both : found ≡ first ++ second
  pub front : AllZip (SpellsInstant elements columns) before first
  pub rest : AllZip (SpellsInstant elements columns) after second

pub halves : (elements : Elements) (columns : Record) (before after : List Record)
    (found : List Instant) → AllZip (SpellsInstant elements columns) (before ++ after) found
    → Halves elements columns before after found
halves elements columns [] after found spelled = record {
  first = [];
  second = found;
  both = refl;
  front = tt;
  rest = spelled;
}
halves elements columns (r ∷ before) after [] spelled = absurd spelled
halves elements columns (r ∷ before) after (i ∷ found) spelled =
    let more = halves elements columns before after found spelled.1 in
    record {
      first = i ∷ more.first;
      second = more.second;
      both = ap (λ (is : List Instant). i ∷ is) more.both;
      front = (spelled.0, more.front);
      rest = more.rest;
    }

named : (elements : Elements) (columns r : Record) (i : Instant)
    → SpellsInstant elements columns r i → name_in r ≡ i.0
named elements columns [] i spelled = absurd spelled
named elements columns (name ∷ cells) i spelled = spelled.1

-- the last of the first instants has another name than the first of the others
pub ApartInstants : (first second : List Instant) → Type 0
ApartInstants first second =
    (front back : List Instant) (a b : Instant) → first ≡ front ++ a ∷ [] → second ≡ b ∷ back
    → a.0 ≢ b.0

-- the record of the last instant
record Last (records : List Record) (i : Instant) : Type 0 where
  front : List Record
  record_ : Record
  last : records ≡ front ++ record_ ∷ []
  name : name_in record_ ≡ i.0

last_record : (elements : Elements) (columns : Record) (records : List Record)
    (front : List Instant) (i : Instant)
    → AllZip (SpellsInstant elements columns) records (front ++ i ∷ []) → Last records i
last_record elements columns [] [] i spelled = absurd spelled
last_record elements columns [] (j ∷ front) i spelled = absurd spelled
last_record elements columns (r ∷ []) [] i spelled = record {
  front = [];
  record_ = r;
  last = refl;
  name = named elements columns r i spelled.0;
}
last_record elements columns (r ∷ s ∷ records) [] i spelled = absurd spelled.1
last_record elements columns (r ∷ records) (j ∷ front) i spelled =
    let more = last_record elements columns records front i spelled.1 in
    record {
      front = r ∷ more.front;
      record_ = more.record_;
      last = ap (λ (rs : List Record). r ∷ rs) more.last;
      name = more.name;
    }

pub apart_instants : (elements : Elements) (columns : Record) (before after : List Record)
    (first second : List Instant)
    → AllZip (SpellsInstant elements columns) before first
    → AllZip (SpellsInstant elements columns) after second
    → AreApart before after → ApartInstants first second
unfolding ApartInstants
apart_instants elements columns before [] first second one other apart front back a b ends begins =
    absurd (subst (AllZip (SpellsInstant elements columns) []) begins other)
apart_instants elements columns before (r ∷ after) first second one other apart front back a b
    ends begins =
    λ same.
    let l = last_record elements columns before front a
    (subst (AllZip (SpellsInstant elements columns) before) ends one) in
    let o : AllZip (SpellsInstant elements columns) (r ∷ after) (b ∷ back) =
    subst (AllZip (SpellsInstant elements columns) (r ∷ after)) begins other in
    apart l.front after l.record_ r l.last refl
    (l.name ∙ same ∙ sym (named elements columns r b o.0))

-- ## Traces

-- the instants of one trace
of_trace : List ℕ → List Row → List Instant
of_trace name rows = map (λ row. (name, row)) rows

-- the `first` of some instants, which begin with a trace: they have all of it, or it goes on in
-- `second`
data Within (name : List ℕ) (rows : List Row) (rest first second : List Instant) : Type 0 where
  more : (others : List Instant) → first ≡ of_trace name rows ++ others → rest ≡ others ++ second
      → Within name rows rest first second
  goes_on : (begun : List Row) (row : Row) (back : List Instant) → first ≡ of_trace name begun
      → second ≡ (name, row) ∷ back → Within name rows rest first second

within_more : (name : List ℕ) (row : Row) (rows : List Row) (rest first second : List Instant)
    → Within name rows rest first second
    → Within name (row ∷ rows) rest ((name, row) ∷ first) second
unfolding of_trace
within_more name row rows rest first second (more others is left) =
    more others (ap (λ (is : List Instant). (name, row) ∷ is) is) left
within_more name row rows rest first second (goes_on begun next back is left) =
    goes_on (row ∷ begun) next back (ap (λ (is : List Instant). (name, row) ∷ is) is) left

head_of : (i j : Instant) (is js : List Instant) → i ∷ is ≡ j ∷ js → i ≡ j
head_of i j is js e = cc e

tail_of : (i j : Instant) (is js : List Instant) → i ∷ is ≡ j ∷ js → is ≡ js
tail_of i j is js e = cc e

within : (name : List ℕ) (rows : List Row) (rest first second : List Instant)
    → of_trace name rows ++ rest ≡ first ++ second → Within name rows rest first second
unfolding of_trace
within name [] rest first second is = more first refl is
within name (row ∷ rows) rest [] second is =
    goes_on [] row (of_trace name rows ++ rest) refl (sym is)
within name (row ∷ rows) rest (i ∷ first) second is =
    let same : i ≡ (name, row) =
    sym (head_of (name, row) i (of_trace name rows ++ rest) (first ++ second) is) in
    let others = within name rows rest first second
    (tail_of (name, row) i (of_trace name rows ++ rest) (first ++ second) is) in
    subst (λ (j : Instant). Within name (row ∷ rows) rest (j ∷ first) second) (sym same)
    (within_more name row rows rest first second others)

-- the last instant of a trace that has begun
record Ending (name : List ℕ) (rows : List Row) : Type 0 where
  front : List Instant
  row : Row
  is : of_trace name rows ≡ front ++ (name, row) ∷ []

ending : (name : List ℕ) (row : Row) (rows : List Row) → Ending name (row ∷ rows)
unfolding of_trace
ending name row [] = record { front = []; row = row; is = refl }
ending name row (next ∷ rows) =
    let more = ending name next rows in
    record {
      front = (name, row) ∷ more.front;
      row = more.row;
      is = ap (λ (is : List Instant). (name, row) ∷ is) more.is;
    }

-- the traces of the first instants, and those of the others
pub record Cut (traces : Traces) (first second : List Instant) : Type 0 where
  pub front : Traces
  pub rest : Traces
  pub both : traces ≡ front ++ rest
  pub first_is : instants front ≡ first
  pub second_is : instants rest ≡ second

nothing_before : (traces : Traces) (second : List Instant) → instants traces ≡ second
    → Cut traces [] second
nothing_before traces second is = record {
  front = [];
  rest = traces;
  both = refl;
  first_is = refl;
  second_is = is;
}

with_first : (t : Trace) (traces : Traces) (others first second : List Instant)
    → first ≡ of_trace t.0 t.1 ++ others → Cut traces others second → Cut (t ∷ traces) first second
unfolding of_trace
with_first t traces others first second is cut = record {
  front = t ∷ cut.front;
  rest = cut.rest;
  both = ap (λ (ts : Traces). t ∷ ts) cut.both;
  first_is = ap (λ (is : List Instant). of_trace t.0 t.1 ++ is) cut.first_is ∙ sym is;
  second_is = cut.second_is;
}

-- instants that are apart stay so without a front
apart_behind : (begun others first second : List Instant) → first ≡ begun ++ others
    → ApartInstants first second → ApartInstants others second
unfolding ApartInstants
apart_behind begun others first second is apart front back a b ends begins =
    apart (begun ++ front) back a b
    (is ∙ ap (λ (os : List Instant). begun ++ os) ends ∙ sym (append_assoc begun front (a ∷ [])))
    begins

pub cut : (traces : Traces) (first second : List Instant) → instants traces ≡ first ++ second
    → ApartInstants first second → Cut traces first second
unfolding of_trace ApartInstants
cut traces [] second is apart = nothing_before traces second is
cut [] (i ∷ first) second is apart = cc is
cut (t ∷ traces) (i ∷ first) second is apart =
    by (λ others left far. cut traces others second left far)
    (within t.0 t.1 (instants traces) (i ∷ first) second is)
  where
    by : ((others : List Instant) → instants traces ≡ others ++ second →
        ApartInstants others second → Cut traces others second)
        → Within t.0 t.1 (instants traces) (i ∷ first) second → Cut (t ∷ traces) (i ∷ first) second
    by behind (more others begins left) =
        with_first t traces others (i ∷ first) second begins
        (behind others left
        (apart_behind (of_trace t.0 t.1) others (i ∷ first) second begins apart))
    by behind (goes_on [] row back begun left) = cc begun
    by behind (goes_on (r ∷ rows) row back begun left) =
        let e = ending t.0 r rows in
        absurd (apart e.front back (t.0, e.row) (t.0, row) (begun ∙ e.is) left refl)

-- ## Lawful traces

all_front : {X : Type 0} (P : X → Type 0) (xs ys : List X) → All P (xs ++ ys) → All P xs
all_front P xs ys all k d below =
    subst P (get_or_append_left xs ys d k below)
    (all k d (let long = length-append xs ys in omega (arith, long, below)))

all_rest : {X : Type 0} (P : X → Type 0) (xs ys : List X) → All P (xs ++ ys) → All P ys
all_rest P xs ys all k d below =
    subst P (get_or-append-add xs ys k d)
    (all (length xs + k) d (let long = length-append xs ys in omega (arith, long, below)))

pairs_front : {X : Type 0} (R : X → X → Type 0) (xs ys : List X) → AllPairs R (xs ++ ys)
    → AllPairs R xs
pairs_front R xs ys all i j d before below =
    let long = length-append xs ys in
    subst (λ x. R x (get_or xs j d)) (get_or_append_left xs ys d i (omega (arith, before, below)))
    (subst (λ y. R (get_or (xs ++ ys) i d) y) (get_or_append_left xs ys d j below)
    (all i j d before (omega (arith, long, below))))

pairs_rest : {X : Type 0} (R : X → X → Type 0) (xs ys : List X) → AllPairs R (xs ++ ys)
    → AllPairs R ys
pairs_rest R xs ys all i j d before below =
    let long = length-append xs ys in
    subst (λ x. R x (get_or ys j d)) (get_or-append-add xs ys i d)
    (subst (λ y. R (get_or (xs ++ ys) (length xs + i) d) y) (get_or-append-add xs ys j d)
    (all (length xs + i) (length xs + j) d (omega (arith, before))
    (omega (arith, long, below))))

fewer : (a b all cells : ℕ) → all ≡ a + b → all * cells ≤ 67108864
    → (a * cells ≤ 67108864) × (b * cells ≤ 67108864)
fewer a b all cells is few = (grind arith, grind arith)

pub lawful_front : (elements : Elements) (front rest : Traces)
    → IsRecording record { signature = elements; traces = front ++ rest }
    → IsRecording record { signature = elements; traces = front }
lawful_front elements front rest lawful =
    let long = length-append front rest in
    let sum = sum_by-append (λ (t : Trace). length t.1) front rest in
    record {
      each = all_front (IsTrace elements) front rest lawful.each;
      distinct = pairs_front (λ a b. a ≢ b) (trace_names front) (trace_names rest)
          (subst (AllPairs (λ (a b : List ℕ). a ≢ b)) (map-append (λ (t : Trace). t.0) front rest)
          lawful.distinct);
      count = omega (arith, long, lawful.count);
      cells = (fewer (instants_of front) (instants_of rest) (instants_of (front ++ rest))
          (cells_of_instant elements) sum lawful.cells).0;
    }

pub lawful_rest : (elements : Elements) (front rest : Traces)
    → IsRecording record { signature = elements; traces = front ++ rest }
    → IsRecording record { signature = elements; traces = rest }
lawful_rest elements front rest lawful =
    let long = length-append front rest in
    let sum = sum_by-append (λ (t : Trace). length t.1) front rest in
    record {
      each = all_rest (IsTrace elements) front rest lawful.each;
      distinct = pairs_rest (λ a b. a ≢ b) (trace_names front) (trace_names rest)
          (subst (AllPairs (λ (a b : List ℕ). a ≢ b)) (map-append (λ (t : Trace). t.0) front rest)
          lawful.distinct);
      count = omega (arith, long, lawful.count);
      cells = (fewer (instants_of front) (instants_of rest) (instants_of (front ++ rest))
          (cells_of_instant elements) sum lawful.cells).1;
    }
