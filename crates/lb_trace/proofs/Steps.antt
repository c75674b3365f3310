-- One record of a reading.
use Rattle.std.proofs.Common.{◌≡◌, true, false, ◌==◌, List, [], ◌∷◌, length, Some, Ok, refl, ap}
use Rattle.std.proofs.Common.{◌∙◌, eq-eqb}
use Rattle.lb_static.specs.Signature.{Elements}
use Rattle.lb_traces.specs.Traces.{Traces}
use Rattle.lb_trace.specs.Refusals.{comes_back, has_room, is_trace_name, with_instant, with_record}
use Rattle.lb_trace.specs.Refusals.{with_records}
use Rattle.lb_trace.specs.Spelling.{Instant, Record, SpellsInstant, row_of}
use Rattle.lb_trace.proofs.Names.{is_trace_name-true}

-- a record that spells an instant adds it, where its name does not come back and there is room
pub good_record : (elements : Elements) (columns : Record) (traces : Traces) (r : Record)
    (instant : Instant)
    → SpellsInstant elements columns r instant → comes_back instant.0 traces ≡ false
    → has_room elements instant.0 traces ≡ true
    → with_record elements columns traces r ≡ Ok (with_instant instant.0 instant.1 traces)
good_record elements columns traces [] instant spells back room = absurd spells
good_record elements columns traces (name ∷ cells) instant spells back room =
    let same : name ≡ instant.0 = spells.1 in
    let count : (length cells == length columns) ≡ true =
    eq-eqb (length cells) (length columns) spells.0 in
    let lawful : is_trace_name name ≡ true = is_trace_name-true name spells.2 in
    let stays : comes_back name traces ≡ false = ap (λ n. comes_back n traces) same ∙ back in
    let fits : has_room elements name traces ≡ true =
    ap (λ n. has_room elements n traces) same ∙ room in
    let value : row_of elements columns cells ≡ Some instant.1 = spells.3 in
    rw (count, lawful, stays, value, fits) (ap (λ n. Ok (with_instant n instant.1 traces)) same)

pub step : (elements : Elements) (columns : Record) (traces : Traces) (r : Record)
    (instant : Instant) (more : List Record)
    → SpellsInstant elements columns r instant → comes_back instant.0 traces ≡ false
    → has_room elements instant.0 traces ≡ true
    → with_records elements columns traces (r ∷ more)
    ≡ with_records elements columns (with_instant instant.0 instant.1 traces) more
unfolding with_records
step elements columns traces r instant more spells back room =
    rw (good_record _ _ _ _ _ spells back room) refl
