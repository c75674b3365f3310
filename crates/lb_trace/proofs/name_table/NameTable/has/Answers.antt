-- A name is that of a trace where it stands at one of its places, or among the others.
use Rattle.std.proofs.Common.{◌≡◌, ◌≢◌, ◌-◌, ◌≤◌, List, ℕ, [], length, get_or, true, false, Bool}
use Rattle.std.proofs.Common.{sym, ap, ◌∙◌, arith, refl}
use Rattle.std.specs.BTreeSet.{contains_text}
use Rattle.std.specs.Str.{bytes_eq}
use Rattle.lb_traces.specs.Traces.{Traces, trace_at, trace_names}
use Rattle.lb_trace.specs.NamePlaces.{at_first, at_second, first_among, second_among, HavePlaces}
use Rattle.lb_trace.proofs.KnownNames.{name_at, names-any, names_long}
use Rattle.lb_trace.proofs.NamePlacing.{look_none, look_other, look_same, look_second}
use Rattle.lb_trace.proofs.name_table.NameTable.has.Goals as goal

-- the name of the trace at a place is compared with a name
compared :
    (ts : Traces) (place place' : ℕ) (text q : List ℕ) (b : Bool) → place ≢ 0 →
    place ≤ length (trace_names ts) → text ≡ (trace_at ts (place - 1)).0 → place ≡ place' →
    bytes_eq text q ≡ b → bytes_eq (get_or (trace_names ts) (place' - 1) []) q ≡ b
compared ts place place' text q b some within is same test =
    let long = names_long ts in
    ap (λ k. bytes_eq (get_or (trace_names ts) (k - 1) []) q) (sym same)
    ∙ ap (λ name. bytes_eq name q)
    (name_at ts (place - 1) (omega (arith, some, within, long)) ∙ sym is)
    ∙ test

-- no place holds a number above that of the last name
within_first :
    (places : List ℕ) (has : List ℕ → Bool) (names : List (List ℕ)) (q : List ℕ) (place : ℕ) →
    HavePlaces places has names (length names) → place ≡ at_first places q →
    place ≤ length names
within_first places has names q place h is =
    let le = h.within (first_among (length places) q) in omega (arith, le, is)

within_second :
    (places : List ℕ) (has : List ℕ → Bool) (names : List (List ℕ)) (q : List ℕ) (place : ℕ) →
    HavePlaces places has names (length names) → place ≡ at_second places q →
    place ≤ length names
within_second places has names q place h is =
    let le = h.within (second_among (length places) q) in omega (arith, le, is)

pub returns-then-first-eq0 : goal.returns-then-first-eq0
returns-then-first-eq0 c =
    let ts = c.args.traces.now.traces in
    let q = c.args.name.now in
    sym
    (sym (names-any (bytes_eq q) ts)
    ∙ look_none c.args.self.now.places.items (contains_text c.args.self.now.others)
    (trace_names ts) (length (trace_names ts)) c.requires.have refl q
    (sym c.first-first.ensures ∙ c.if-first-eq0.true))

pub returns-then-eq : goal.returns-then-eq
returns-then-eq c =
    let ts = c.args.traces.now.traces in
    let q = c.args.name.now in
    let places = c.args.self.now.places.items in
    let others = contains_text c.args.self.now.others in
    let place = c.first-first.result in
    let within = within_first places others (trace_names ts) q place c.requires.have
    c.first-first.ensures in
    sym
    (sym (names-any (bytes_eq q) ts)
    ∙ look_same places others (trace_names ts) (length (trace_names ts)) c.requires.have refl q
    place c.if-first-eq0.false within
    (compared ts place place c.name.result.now q true c.if-first-eq0.false within c.name.ensures
    refl (sym c.eq.ensures ∙ c.if-eq.true)))

pub returns-then-second-eq0 : goal.returns-then-second-eq0
returns-then-second-eq0 c =
    let ts = c.args.traces.now.traces in
    let q = c.args.name.now in
    let places = c.args.self.now.places.items in
    let others = contains_text c.args.self.now.others in
    let place = c.first-first.result in
    let within = within_first places others (trace_names ts) q place c.requires.have
    c.first-first.ensures in
    sym
    (sym (names-any (bytes_eq q) ts)
    ∙ look_second places others (trace_names ts) (length (trace_names ts)) c.requires.have refl q
    (compared ts place (at_first places q) c.name.result.now q false c.if-first-eq0.false within
    c.name.ensures c.first-first.ensures (sym c.eq.ensures ∙ c.if-eq.false))
    (sym c.second-second.ensures ∙ c.if-second-eq0.true))

pub returns-then-eq-2 : goal.returns-then-eq-2
returns-then-eq-2 c =
    let ts = c.args.traces.now.traces in
    let q = c.args.name.now in
    let places = c.args.self.now.places.items in
    let others = contains_text c.args.self.now.others in
    let place = c.second-second.result in
    let within = within_second places others (trace_names ts) q place c.requires.have
    c.second-second.ensures in
    sym
    (sym (names-any (bytes_eq q) ts)
    ∙ look_same places others (trace_names ts) (length (trace_names ts)) c.requires.have refl q
    place c.if-second-eq0.false within
    (compared ts place place c.name-2.result.now q true c.if-second-eq0.false within
    c.name-2.ensures refl (sym c.eq-2.ensures ∙ c.if-eq-2.true)))

pub returns : goal.returns
returns c =
    let ts = c.args.traces.now.traces in
    let q = c.args.name.now in
    let places = c.args.self.now.places.items in
    let others = contains_text c.args.self.now.others in
    let first = c.first-first.result in
    let second = c.second-second.result in
    c.contains.ensures
    ∙ look_other places others (trace_names ts) (length (trace_names ts)) c.requires.have refl q
    (compared ts first (at_first places q) c.name.result.now q false c.if-first-eq0.false
    (within_first places others (trace_names ts) q first c.requires.have c.first-first.ensures)
    c.name.ensures c.first-first.ensures (sym c.eq.ensures ∙ c.if-eq.false))
    (compared ts second (at_second places q) c.name-2.result.now q false c.if-second-eq0.false
    (within_second places others (trace_names ts) q second c.requires.have
    c.second-second.ensures)
    c.name-2.ensures c.second-second.ensures (sym c.eq-2.ensures ∙ c.if-eq-2.false))
    ∙ names-any (bytes_eq q) ts
