-- A text spells traces exactly where they are its outcome.
use Rattle.std.proofs.Common.{ℕ, ◌≡◌, ◌<◌, ◌≤◌, Bool, true, false, if◌then◌else◌, List, [], ◌∷◌}
use Rattle.std.proofs.Common.{length, Ok, Err, refl, sym, ap, ◌∙◌, subst, arith, nat_le}
use Rattle.std.proofs.lemmas.Bool.{false_from_ne_true, le-leb, leb-true}
use Rattle.std.specs.List.{AllZip}
use Rattle.lb_static.specs.Signature.{Elements}
use Rattle.lb_traces.specs.Traces.{IsRecording, Traces}
use Rattle.lb_traces.proofs.Recordings.{IsRecording-none}
use Rattle.lb_trace.specs.Refusals.{outcome, reading, with_records}
use Rattle.lb_trace.specs.Spelling.{Record, SpelledBy, Spells, SpellsInstant, after_first}
use Rattle.lb_trace.specs.Spelling.{is_header, records_of}
use Rattle.lb_trace.proofs.Completeness.{complete}
use Rattle.lb_trace.proofs.Soundness.{Sound, sound}

-- the outcome of a text that is not too long is the reading of its records
pub outcome-records : (elements : Elements) (text : List ℕ) (records : List Record)
    → length text ≤ 1073741824 → records_of text ≡ records
    → outcome elements text ≡ reading elements records
unfolding outcome
outcome-records elements text records short are =
    let fits : nat_le (length text) 1073741824 ≡ true = le-leb (length text) 1073741824 short in
    rw fits (ap (reading elements) are)

-- the outcome of a text that is too long is 18
pub outcome-long : (elements : Elements) (text : List ℕ) → 1073741824 < length text
    → outcome elements text ≡ Err 18
unfolding outcome
outcome-long elements text long =
    let over : nat_le (length text) 1073741824 ≡ false =
    false_from_ne_true (nat_le (length text) 1073741824)
    (λ fits. let short : length text ≤ 1073741824 =
    leb-true (length text) 1073741824 fits in omega arith) in
    rw over refl

-- the reading of a header and rows is that of the rows behind no trace
pub reading-rows : (elements : Elements) (header : Record) (rows : List Record)
    → is_header elements header ≡ true
    → reading elements (header ∷ rows) ≡ with_records elements (after_first header) [] rows
unfolding reading
reading-rows elements header rows is = rw is refl

-- the reading of no records is 14
pub reading-none : (elements : Elements) → reading elements [] ≡ Err 14
unfolding reading
reading-none elements = refl

pub reading-other : (elements : Elements) (header : Record) (rows : List Record)
    → is_header elements header ≡ false
    → reading elements (header ∷ rows) ≡ Err 14
unfolding reading
reading-other elements header rows is = rw is refl

complete_records : (elements : Elements) (traces : Traces) (records : List Record)
    → SpelledBy elements traces records
    → IsRecording record { signature = elements; traces = traces }
    → reading elements records ≡ Ok traces
unfolding SpelledBy
complete_records elements traces [] spelled lawful = absurd spelled
complete_records elements traces (header ∷ rows) spelled lawful =
    reading-rows elements header rows spelled.0
    ∙ complete elements (after_first header) [] traces rows lawful spelled.1

-- the traces that a text spells are its outcome
pub complete_text : (elements : Elements) (text : List ℕ) (traces : Traces)
    → Spells elements text traces → outcome elements text ≡ Ok traces
complete_text elements text traces spells =
    outcome-records _ _ _ spells.short refl ∙ complete_records _ _ _ spells.spelled spells.lawful

either_header : (b : Bool) (elements : Elements) (header : Record) (rows : List Record)
    (traces : Traces) → is_header elements header ≡ b
    → (if b then with_records elements (after_first header) [] rows else Err 14) ≡ Ok traces
    → SpelledBy elements traces (header ∷ rows)
    × IsRecording record { signature = elements; traces = traces }
unfolding SpelledBy
either_header true elements header rows traces is read =
    let s : Sound elements (after_first header) [] traces rows =
    sound elements (after_first header) [] traces rows (IsRecording-none elements) read in (
      (is, subst (AllZip (SpellsInstant elements (after_first header)) rows) (sym s.is) s.spelled),
      s.lawful,
    )
either_header false elements header rows traces is read = cc read

sound_records : (elements : Elements) (traces : Traces) (records : List Record)
    → reading elements records ≡ Ok traces
    → SpelledBy elements traces records
    × IsRecording record { signature = elements; traces = traces }
unfolding reading
sound_records elements traces [] read = cc read
sound_records elements traces (header ∷ rows) read =
    either_header _ _ _ _ _ refl read

either_long : (b : Bool) (elements : Elements) (text : List ℕ) (traces : Traces)
    → nat_le (length text) 1073741824 ≡ b
    → (if b then reading elements (records_of text) else Err 18) ≡ Ok traces
    → Spells elements text traces
either_long true elements text traces fits read =
    let parts = sound_records _ _ _ read in
    record { short = leb-true (length text) 1073741824 fits; spelled = parts.0; lawful = parts.1 }
either_long false elements text traces fits read = cc read

-- the traces that are the outcome of a text are spelled by it
pub sound_text : (elements : Elements) (text : List ℕ) (traces : Traces)
    → outcome elements text ≡ Ok traces → Spells elements text traces
unfolding outcome
sound_text elements text traces read =
    either_long _ _ _ _ refl read

-- a text that is refused spells no traces
pub refused_text : (elements : Elements) (text : List ℕ) (number : ℕ)
    → outcome elements text ≡ Err number → (traces : Traces) → ¬ (Spells elements text traces)
refused_text elements text number refused traces spells =
    cc (refused, complete_text elements text traces spells)
