-- The beginning and the equations of a whole flat program.
use Rattle.lb_expand.proofs.Words
use Words.{◌≡◌, ℕ, List, ◌++◌, All, map-append, All-append, flat_equations, equation_of, IsWithin}
use Words.{◌<◌, ◌≤◌, ◌+◌, ◌-◌, [], length, take, get_or, arith, Option, Some, None, Bool, false}
use Words.{true, sym, ap, ap₂, subst₂, ◌∙◌, ForSome, take-append_seam, append_assoc, append-nil}
use Words.{get_or-append-add, get_or-map, length-map, length-append, All-weaker, or_else, Kind}
use Words.{Reached, ResolvedStatement, Table, ElementId, Start, State, Emitted, gives}
use Words.{before_instances, bodies, Context, emit_rows, places_from, start_in, given_at}
use Words.{observed_at, begun_at, outputs_at, row_clocks, whole, IsReady, FlatEquation, kinds_from}
use Words.{numbers_of, onto, IsTableClock, AreClocks, Clock}
use Rattle.{std.proofs.lemmas.List.get_or_past, lb_flat.specs.declared.equation.Equation.Equation}
use Rattle.lb_expand.specs.AssembledPrograms.{equations_behind, assembled}
use Rattle.lb_expand.proofs.{emission.TermSteps.next_of_rows, fits.KindFacts.length-kinds_from}
use Rattle.lb_expand.proofs.emission.TermSteps.{rows_grow}

-- The equations of a flat program are the copies and the other equations that were emitted.

-- the flat equations of two lists, joined, are those of each list, joined
pub equations_joined :
    (clocks : List Clock) (qs rs : List Equation) →
    flat_equations clocks (qs ++ rs) ≡ flat_equations clocks qs ++ flat_equations clocks rs
equations_joined clocks qs rs = map-append (equation_of clocks) qs rs

-- the equations of two lists, joined, are all within range if those of each list are
pub within_joined :
    (n : ℕ) (clocks : List Clock) (qs rs : List Equation) → All (IsWithin n clocks) qs →
    All (IsWithin n clocks) rs → All (IsWithin n clocks) (qs ++ rs)
within_joined n clocks qs rs h g = All-append (IsWithin n clocks) qs rs h g

pub ruleset joined = (equations_joined, within_joined)

-- The beginning of a flat program, its elements that are watched, and the whole program.

-- ## The property

module _ (cs : ℕ → Context) where
  no_outputs : (s : State) (below : List ℕ) → gives s below ≡ onto below (gives s [])
  no_outputs s below = ap (λ (is : List ℕ). gives s is) (sym (append-nil below))

  pub outputs_none : (s : State) (below : List ℕ) (start : Option Start) → start ≡ None →
      gives s below ≡ onto below (gives s (outputs_at cs start))
  outputs_none s below start e = cc (no_outputs s below)

  pub outputs_found :
      (s : State) (below : List ℕ) (ctx : Context) (start : Option Start) (n : Start) →
      start ≡ Some n → ctx ≡ cs n.row →
      onto below (gives s (places_from ctx n.inputs (n.inputs + n.outputs - n.inputs)))
      ≡ onto below (gives s (outputs_at cs start))
  outputs_found s below ctx start n e at =
      let count : n.inputs + n.outputs - n.inputs ≡ n.outputs = omega arith in
      cc

-- the first item of a stack above `below` is the first of `outs`
pub first_above :
    (below outs : List ℕ) (items : List ElementId) (from : ℕ) (a d : ElementId) →
    from ≡ length below → numbers_of items ≡ below ++ outs → from < length items →
    a ≡ get_or items from d → a.0 ≡ get_or outs 0 0
first_above below outs items from a d count is lt e =
    let none : from ≡ length below + 0 = omega (arith, count) in
    cc (get_or-map (λ (a : ElementId). a.0) items from d 0 lt, get_or-append-add below outs 0 0)

-- if a stack has no item above `below`, the first of `outs` is the default 0
pub none_above :
    (below outs : List ℕ) (items : List ElementId) (from : ℕ) → from ≡ length below →
    numbers_of items ≡ below ++ outs → length items ≤ from → 0 ≡ get_or outs 0 0
none_above below outs items from count is le =
    let size = length-map items (λ (a : ElementId). a.0) in
    let all = ap (λ (xs : List ℕ). length xs) is in
    let both = length-append below outs in
    sym (get_or_past outs 0 0 (omega (arith, size, all, both, count, le)))

-- a stack cut at the length of `below` is `below`
pub gone_above :
    (below outs : List ℕ) (from : ℕ) (s : State) (mid : Emitted) → from ≡ length below →
    mid ≡ onto below (gives s outs) → gives mid.state (take from mid.found) ≡ gives s below
gone_above below outs from s mid count put = cc (take-append_seam below outs)

-- the row that is watched is ready if the rows of both starts are
pub watched_ready :
    (cs ds : ℕ → Context) (f h : ℕ → Bool) (root observer one other w : Option Start) →
    w ≡ or_else observer root → root ≡ one → observer ≡ other → ds ≡ cs → h ≡ f →
    ForSome one (IsReady cs f) → ForSome other (IsReady cs f) → ForSome w (IsReady ds h)
watched_ready cs ds f h root observer one other w is e g at there first second =
    rw (is ∙ ap₂ (λ (o r : Option Start). or_else o r) g e) (subst₂
    (λ (ds : ℕ → Context) (h : ℕ → Bool). ForSome (or_else other one) (IsReady ds h)) (sym at)
    (sym there) (by one other first second))
  where
    by : (one other : Option Start) → ForSome one (IsReady cs f) →
        ForSome other (IsReady cs f) → ForSome (or_else other one) (IsReady cs f)
    by one (Some o) first second = second
    by one None first second = first

-- ## The whole program

-- clocks that wait for the first n elements wait for the first m, where n ≤ m
pub clocks_later : (n m : ℕ) (clocks : List Clock) → AreClocks n clocks → n ≤ m → AreClocks m clocks
clocks_later n m clocks h le =
    All-weaker (IsTableClock n clocks) (IsTableClock m clocks) (λ c w. record {
      element = omega (arith, w.element);
      parent = w.parent;
    }) clocks h

module _ (rows : List (Context × List ResolvedStatement)) {s u : State} {count : ℕ}
    (emitted : u ≡ emit_rows s rows) (start : s ≡ before_instances count) where
  -- the rows are emitted behind the elements of variables
  pub rows_later : count ≤ u.next
  rows_later =
      let first = ap (λ (s : State). s.next) start in
      let last = ap (λ (s : State). s.next) emitted in
      omega (arith, first, last, rows_grow s rows)

  -- there are as many kinds as elements
  pub kinds_counted :
      (kinds : List Kind) {all : List Kind} {next : ℕ} → length kinds ≡ count → next ≡ u.next →
      all ≡ kinds ++ kinds_from kinds u.equations → length all ≡ next
  kinds_counted kinds size last e =
      let total = next_of_rows count rows in
      let same : u ≡ emit_rows (before_instances count) rows = cc in
      let equations = ap (λ (s : State). length s.equations) same in
      let numbers = ap (λ (s : State). s.next) same in
      let both = ap (λ (ks : List Kind). length ks) e in
      let parts = length-append kinds (kinds_from kinds u.equations) in
      let more = length-kinds_from kinds u.equations in
      omega (arith, both, parts, more, equations, numbers, total, size, last)

-- the emitted rows, with their beginning, are the whole program
module _ (r : Reached) (t : Table) (cs : ℕ → Context) (inputs kinds : List Kind) (count : ℕ) where
  abbrev rows_emitted : State
  rows_emitted = emit_rows (before_instances count) (bodies r t cs 0 t.instances.items)

  pub whole_made :
      (s : State) (begun qs : List FlatEquation) (all : List Kind) (elements : List ℕ)
      (property : ℕ) → qs ≡ equations_behind begun s →
      begun ≡ begun_at cs (start_in r t false) (start_in r t true) → s ≡ rows_emitted →
      all ≡ kinds ++ kinds_from kinds s.equations →
      elements ≡ row_clocks r t cs 0 t.instances.items →
      property ≡ get_or (outputs_at cs (or_else (start_in r t true) (start_in r t false))) 0 0 →
      assembled s qs inputs all count elements property ≡ whole r t cs inputs kinds count
  whole_made s begun qs all elements property joined is rows kinds_are clocks first =
      let root = start_in r t false in
      let observer = start_in r t true in
      let before = begun_at cs root observer in
      let new = rows_emitted in
      let kinds_known = kinds_are
      ∙ ap (λ (s : State). kinds ++ kinds_from kinds s.equations) rows in
      let joined_lists =
      append_assoc before new.copies new.equations
      ∙ append_assoc (given_at cs root) (observed_at cs root observer)
      (new.copies ++ new.equations) in
      cc
