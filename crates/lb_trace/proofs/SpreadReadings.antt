-- The traces that are read of the parts of a text are those that the text spells.
use Rattle.std.proofs.Common.{ℕ, ◌≡◌, ◌≤◌, true, false, List, [], ◌∷◌, ◌++◌, length, Result, Ok}
use Rattle.std.proofs.Common.{map, sym, ap, ◌∙◌, subst, get_or, take, drop, ◌-◌, arith}
use Rattle.std.proofs.lemmas.List.{take_rest}
use Rattle.std.specs.Prelude.{flat_map, IfOk}
use Rattle.std.specs.Borrow.{Bor}
use Rattle.std.specs.List.{All, AllZip, list_any}
use Rattle.std.proofs.lemmas.List.Elements.{All-cons, All-nil}
use Rattle.lb_static.specs.Signature.{Elements}
use Rattle.csv.specs.Reading.{default_config, records as records_by, strip_bom}
use Rattle.csv.specs.Records.{fields_of}
use Rattle.lb_traces.specs.Traces.{IsRecording, Recording}
use Rattle.lb_traces.proofs.Recordings.{IsRecording-none}
use Rattle.lb_trace.specs.declared.recorder.Recorder.{Recorder}
use Rattle.lb_trace.specs.declared.table.ColumnTable.{ColumnTable}
use Rattle.lb_trace.specs.Mirrors.{knows}
use Rattle.lb_trace.specs.Parts.{HaveRecordsOf}
use Rattle.lb_trace.specs.Plain.{has_quote, plain_records}
use Rattle.lb_trace.specs.Refusals.{with_records}
use Rattle.lb_trace.specs.Spelling.{Record, SpelledBy, Spells, SpellsInstant}
use Rattle.lb_trace.specs.Spelling.{instants, is_header, records_of}
use Rattle.lb_trace.specs.Tables.{IsReadBy, IsReadOf, columns_in}
use Rattle.lb_trace.proofs.PlainRecords.{plain_text}
use Rattle.lb_trace.proofs.Soundness.{Sound, sound}

-- two pairs of related lists, one after the other, are related
pub zip-append : {A B : Type 0} (R : A → B → Type 0) (xs zs : List A) (ys ws : List B)
    → AllZip R xs ys → AllZip R zs ws → AllZip R (xs ++ zs) (ys ++ ws)
zip-append R [] zs [] ws h k = k
zip-append R [] zs (y ∷ ys) ws h k = absurd h
zip-append R (x ∷ xs) zs [] ws h k = absurd h
zip-append R (x ∷ xs) zs (y ∷ ys) ws h k = (h.0, zip-append R xs zs ys ws h.1 k)

zip-flat : {A B X Y : Type 0} (R : A → B → Type 0) (f : X → List A) (g : Y → List B)
    (xs : List X) (ys : List Y)
    → AllZip (λ x y. AllZip R (f x) (g y)) xs ys → AllZip R (flat_map f xs) (flat_map g ys)
zip-flat R f g [] [] h = tt
zip-flat R f g [] (y ∷ ys) h = absurd h
zip-flat R f g (x ∷ xs) [] h = absurd h
zip-flat R f g (x ∷ xs) (y ∷ ys) h =
    zip-append R (f x) (flat_map f xs) (g y) (flat_map g ys) h.0 (zip-flat R f g xs ys h.1)

pub zip-weaker : {X Y : Type 0} (R S : X → Y → Type 0) (xs : List X) (ys : List Y)
    → AllZip R xs ys → ((x : X) (y : Y) → R x y → S x y) → AllZip S xs ys
zip-weaker R S [] [] h go = tt
zip-weaker R S [] (y ∷ ys) h go = absurd h
zip-weaker R S (x ∷ xs) [] h go = absurd h
zip-weaker R S (x ∷ xs) (y ∷ ys) h go = (go x y h.0, zip-weaker R S xs ys h.1 go)

-- a property that each second part has by its pair is one of all second parts
pub zip-right : {X Y : Type 0} (R : X → Y → Type 0) (P : Y → Type 0) (xs : List X) (ys : List Y)
    → AllZip R xs ys → ((x : X) (y : Y) → R x y → P y) → All P ys
zip-right R P [] [] h go = All-nil P
zip-right R P [] (y ∷ ys) h go = absurd h
zip-right R P (x ∷ xs) [] h go = absurd h
zip-right R P (x ∷ xs) (y ∷ ys) h go = All-cons P y ys (go x y h.0) (zip-right R P xs ys h.1 go)

-- results that are all Ok have related values
oks : {A B : Type 0} (E : Type 0) (R : A → B → Type 0) (xs : List A) (ys : List B)
    → AllZip (λ x y. IfOk {T = B} {E = E} y (R x)) xs (map Ok ys) → AllZip R xs ys
oks E R [] [] h = tt
oks E R [] (y ∷ ys) h = absurd h
oks E R (x ∷ xs) [] h = absurd h
oks E R (x ∷ xs) (y ∷ ys) h = (h.0, oks E R xs ys h.1)

pub of_collected : {A B E : Type 0} (R : A → B → Type 0) (xs : List A) (rs : List (Result B E))
    (all : List B)
    → AllZip (λ x y. IfOk {T = B} {E = E} y (R x)) xs rs → (ys : List B) → rs ≡ map Ok ys
    → all ≡ ys → AllZip R xs all
of_collected {E = E} R xs rs all h ys worked same =
    subst (AllZip R xs) (sym same)
    (oks E R xs ys (subst (AllZip (λ x y. IfOk y (R x)) xs) worked h))

-- recorders that have read parts have the signature, and know their names
pub same_signatures : (elements : Elements) (table : ColumnTable) (parts : List (Bor (List ℕ)))
    (read : List Recorder)
    → AllZip (λ part one. IsReadBy elements table (plain_records part.now) one) parts read
    → All (λ one. (one.rows.signature ≡ elements) × knows one.names one.rows.traces) read
same_signatures elements table parts read each =
    zip-right (λ (part : Bor (List ℕ)) (one : Recorder).
    IsReadBy elements table (plain_records part.now) one)
    (λ (one : Recorder). (one.rows.signature ≡ elements) × knows one.names one.rows.traces)
    parts read each (λ part one h. (h.0.0, h.1))

-- a text spells the joined traces of its parts
pub spread_spells : (elements : Elements) (table : ColumnTable) (text : List ℕ)
    (parts : List (Bor (List ℕ))) (read : List Recorder) (set : Recording)
    → length text ≤ 1073741824
    → is_header elements (fields_of table.header) ≡ true
    → records_of text ≡ fields_of table.header ∷ flat_map (λ part. plain_records part.now) parts
    → AllZip (λ part one. IsReadBy elements table (plain_records part.now) one) parts read
    → set.signature ≡ elements → IsRecording set
    → instants set.traces ≡ flat_map (λ one. instants one.rows.traces) read
    → Spells elements text set.traces
unfolding SpelledBy
spread_spells elements table text parts read set short headed all each same lawful joined =
    let records : Bor (List ℕ) → List Record = λ part. plain_records part.now in
    let spelled : AllZip (SpellsInstant elements (columns_in table)) (flat_map records parts)
    (instants set.traces) =
    subst (AllZip (SpellsInstant elements (columns_in table)) (flat_map records parts))
    (sym joined)
    (zip-flat (SpellsInstant elements (columns_in table)) records
    (λ (one : Recorder). instants one.rows.traces) parts read
    (zip-weaker (λ (part : Bor (List ℕ)) (one : Recorder).
    IsReadBy elements table (plain_records part.now) one)
    (λ (part : Bor (List ℕ)) (one : Recorder).
    AllZip (SpellsInstant elements (columns_in table)) (records part) (instants one.rows.traces))
    parts read each (λ part one h. h.0.1))) in
    record {
      short = short;
      spelled = subst (SpelledBy elements set.traces) (sym all) (headed, spelled);
      lawful = subst (λ e. IsRecording record { signature = e; traces = set.traces }) same lawful;
    }

-- the records of parts whose first one begins with the header
pub headed_records : (header : Record) (text : List ℕ) (d rest : Bor (List ℕ))
    (parts rests : List (Bor (List ℕ))) → 1 ≤ length parts
    → HaveRecordsOf text parts
    → list_any (λ part. has_quote part.now) parts ≡ false
    → plain_records (get_or parts 0 d).now ≡ header ∷ plain_records rest.now
    → rests ≡ rest ∷ take (length parts - 1) (drop 1 parts)
    → records_of text ≡ header ∷ flat_map (λ part. plain_records part.now) rests
headed_records header text d rest [] rests some have none begun left =
    absurd (omega (arith, some))
headed_records header text d rest (part ∷ others) rests some have none begun left =
    let records : Bor (List ℕ) → List Record = λ one. plain_records one.now in
    have none
    ∙ ap (λ (rs : List Record). rs ++ flat_map records others) begun
    ∙ ap (λ (ps : List (Bor (List ℕ))). header ∷ flat_map records (rest ∷ ps))
    (sym (take_rest (part ∷ others) 1))
    ∙ ap (λ (ps : List (Bor (List ℕ))). header ∷ flat_map records ps) (sym left)

-- the reading of records behind no trace has the traces of these records alone
pub read_of : (elements : Elements) (table : ColumnTable) (records : List Record) (set : Recording)
    → set.signature ≡ elements
    → with_records elements (columns_in table) [] records ≡ Ok set.traces
    → IsReadOf elements table records set
read_of elements table records set same read =
    let s : Sound elements (columns_in table) [] set.traces records =
    sound elements (columns_in table) [] set.traces records (IsRecording-none elements) read in (
      same,
      subst (AllZip (SpellsInstant elements (columns_in table)) records) (sym s.is) s.spelled,
    )

-- `read_of` for a recorder that began with no trace
pub part_read : (elements : Elements) (table : ColumnTable) (records : List Record)
    (before after set : Recording)
    → before ≡ record { signature = elements; traces = [] }
    → with_records before.signature (columns_in table) before.traces records ≡ Ok after.traces
    → after.signature ≡ before.signature → set ≡ after
    → IsReadOf elements table records set
part_read elements table records before after set none read same is =
    read_of elements table records set
    (ap (λ (r : Recording). r.signature) is ∙ same ∙ ap (λ (r : Recording). r.signature) none)
    (ap (λ (r : Recording). with_records r.signature (columns_in table) r.traces records) (sym none)
    ∙ read ∙ ap (λ (r : Recording). Ok r.traces) (sym is))

-- the records of a text are those of the text after its byte order mark
pub records_after_bom : (text body : List ℕ) → body ≡ strip_bom text
    → records_by default_config body ≡ plain_records body → records_of text ≡ plain_records body
unfolding records_of
records_after_bom text body is plain = ap (records_by default_config) (sym is) ∙ plain

-- parts of the text after the byte order mark have the records of the text
pub cut_records : (text body : List ℕ) (parts shown : List (Bor (List ℕ))) → body ≡ strip_bom text
    → plain_records body ≡ flat_map (λ part. plain_records part.now) parts
    → has_quote body ≡ list_any (λ part. has_quote part.now) parts
    → shown ≡ parts → HaveRecordsOf text shown
cut_records text body parts shown is cut quotes same none =
    records_after_bom text body is
    (plain_text body
    (quotes ∙ ap (list_any (λ (part : Bor (List ℕ)). has_quote part.now)) (sym same) ∙ none))
    ∙ cut ∙ ap (flat_map (λ (part : Bor (List ℕ)). plain_records part.now)) (sym same)
