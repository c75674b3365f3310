-- The traces that are read of chunks, one after the other, are those that their text spells.
use Rattle.std.proofs.Common.{ℕ, zero, suc, ◌≡◌, ◌+◌, ◌*◌, ◌<◌, ◌≤◌, ◌||◌, true, false}
use Rattle.std.proofs.Common.{List, [], ◌∷◌, ◌++◌, length, refl, sym, ap, ◌∙◌, arith, map}
use Rattle.std.proofs.Common.{append-nil, append_assoc, length-append, subst, Option, Ok}
use Rattle.std.specs.Prelude.{Vec, IfSome, flat_map}
use Rattle.std.specs.Global.{Global}
use Rattle.std.proofs.lemmas.Option.{IfSome_then}
use Rattle.std.specs.List.{AllZip, list_any}
use Rattle.std.proofs.lemmas.Grind.{flat_map-append}
use Rattle.rayon.proofs.ToStd.{chunks_of-concat}
use Rattle.rayon.specs.Lists.{chunks_of}
use Rattle.csv.specs.Reading.{strip_bom}
use Rattle.csv.specs.Records.{fields_of}
use Rattle.lb_static.specs.Signature.{Elements}
use Rattle.lb_traces.specs.Traces.{IsRecording, Recording}
use Rattle.lb_traces.proofs.Recordings.{IsRecording-none}
use Rattle.lb_trace.specs.declared.recorder.Recorder.{Recorder}
use Rattle.lb_trace.specs.declared.table.ColumnTable.{ColumnTable}
use Rattle.lb_trace.specs.Chunks.{is_ended, text_of}
use Rattle.lb_trace.specs.Loads.{AreRead, AreReadFrom, IsChunk, IsJoined, IsRead, IsRecorder}
use Rattle.lb_trace.specs.Loads.{Loading}
use Rattle.lb_trace.specs.Mirrors.{knows}
use Rattle.lb_trace.specs.Plain.{has_quote, plain_records}
use Rattle.lb_trace.specs.Spelling.{Instant, Record, SpelledBy, Spells, SpellsInstant}
use Rattle.lb_trace.specs.Spelling.{instants, is_header, records_of}
use Rattle.lb_trace.specs.Refusals.{with_records}
use Rattle.lb_trace.specs.Tables.{columns_in}
use Rattle.lb_trace.proofs.ChunkTexts.{AreEnded, bodies-records, chunks-joined, joined}
use Rattle.lb_trace.proofs.Soundness.{Sound, sound}
use Rattle.lb_trace.proofs.SpreadReadings.{zip-append, zip-right, zip-weaker}

-- no chunk yet
pub reads-none : (gives : Loading) (elements : Elements) (table : ColumnTable) (most : ℕ)
    → AreReadFrom gives elements table most [] []
reads-none gives elements table most = record { chunks = []; given = tt; spelled = tt }

-- the instants of chunks and then of others are those of all these chunks
pub reads-append : (gives : Loading) (elements : Elements) (table : ColumnTable) (most : ℕ)
    (ks js : List ℕ) (found more : List Instant)
    → AreReadFrom gives elements table most ks found
    → AreReadFrom gives elements table most js more
    → AreReadFrom gives elements table most (ks ++ js) (found ++ more)
reads-append gives elements table most ks js found more a b =
    let records : Vec ℕ Global → List Record = λ chunk. plain_records chunk.items in
    record {
      chunks = a.chunks ++ b.chunks;
      given =
          zip-append (λ (k : ℕ) (chunk : Vec ℕ Global). gives k chunk × IsChunk most chunk.items)
          ks js a.chunks b.chunks a.given b.given;
      spelled =
          subst
          (λ (rs : List Record).
          AllZip (SpellsInstant elements (columns_in table)) rs (found ++ more))
          (sym (flat_map-append records a.chunks b.chunks))
          (zip-append (SpellsInstant elements (columns_in table)) (flat_map records a.chunks)
          (flat_map records b.chunks) found more a.spelled b.spelled);
    }

-- a recorder has the instants that the chunks for these numbers spell, and its traces are lawful
abbrev pub HasRead : Loading → Elements → ColumnTable → ℕ → List ℕ → Recorder → Type 0
HasRead gives elements table most ks one =
    IsRead gives elements table most ks one × IsRecording one.rows

-- no chunk yet
pub read-none : (gives : Loading) (elements : Elements) (table : ColumnTable) (most : ℕ)
    (one : Recorder)
    → one.rows ≡ record { signature = elements; traces = [] }
    → knows one.names one.rows.traces
    → HasRead gives elements table most [] one
read-none gives elements table most one none known = (
  (
    subst (λ (r : Recording). AreReadFrom gives elements table most [] (instants r.traces))
        (sym none) (reads-none gives elements table most),
    (ap (λ (r : Recording). r.signature) none, known),
  ),
  subst IsRecording (sym none) (IsRecording-none elements),
)

-- a recorder that has read some chunks has read one more once its records are added
pub read-more : (gives : Loading) (elements : Elements) (table : ColumnTable) (most : ℕ)
    (ks : List ℕ)
    (k : ℕ) (chunk : Vec ℕ Global) (text : List ℕ) (before room after : Recorder)
    → HasRead gives elements table most ks before → room ≡ before
    → gives k chunk → IsChunk most text → text ≡ chunk.items
    → with_records room.rows.signature (columns_in table) room.rows.traces (plain_records text)
    ≡ Ok after.rows.traces
    → after.rows.signature ≡ room.rows.signature → knows after.names after.rows.traces
    → HasRead gives elements table most (ks ++ k ∷ []) after
read-more gives elements table most ks k chunk text before room after read kept given is same added
    stays known =
    let columns : Record = columns_in table in
    let start : HasRead gives elements table most ks room =
    subst (HasRead gives elements table most ks) (sym kept) read in
    let follows : room.rows.signature ≡ elements = start.0.1.0 in
    let s : Sound elements columns room.rows.traces after.rows.traces (plain_records text) =
    sound elements columns room.rows.traces after.rows.traces (plain_records text)
    (subst (λ e. IsRecording record { signature = e; traces = room.rows.traces }) follows start.1)
    (ap (λ e. with_records e columns room.rows.traces (plain_records text)) (sym follows)
    ∙ added) in
    let one : AreReadFrom gives elements table most (k ∷ []) s.more = record {
      chunks = chunk ∷ [];
      given = ((given, subst (IsChunk most) same is), tt);
      spelled =
          subst (λ (rs : List Record). AllZip (SpellsInstant elements columns) rs s.more)
          (ap plain_records same ∙ sym (append-nil (plain_records chunk.items))) s.spelled;
    } in (
      (
        subst (AreReadFrom gives elements table most (ks ++ k ∷ [])) (sym s.is)
            (reads-append gives elements table most ks (k ∷ []) (instants room.rows.traces)
            s.more start.0.0 one),
        (stays ∙ follows, known),
      ),
      subst (λ e. IsRecording record { signature = e; traces = after.rows.traces })
          (sym (stays ∙ follows)) s.lawful,
    )

reads-spans : (gives : Loading) (elements : Elements) (table : ColumnTable) (most : ℕ)
    (spans : List (List ℕ)) (read : List Recorder)
    → AllZip (IsRead gives elements table most) spans read
    → AreReadFrom gives elements table most (flat_map (λ span. span) spans)
    (flat_map (λ one. instants one.rows.traces) read)
reads-spans gives elements table most [] [] h = reads-none gives elements table most
reads-spans gives elements table most [] (one ∷ read) h = absurd h
reads-spans gives elements table most (span ∷ spans) [] h = absurd h
reads-spans gives elements table most (span ∷ spans) (one ∷ read) h =
    reads-append gives elements table most span (flat_map (λ (each : List ℕ). each) spans)
    (instants one.rows.traces)
    (flat_map (λ (each : Recorder). instants each.rows.traces) read) h.0.0
    (reads-spans gives elements table most spans read h.1)

-- recorders that have read spans of `size` numbers each have read all numbers
pub reads-round : (gives : Loading) (elements : Elements) (table : ColumnTable) (most size : ℕ)
    (ks : List ℕ) (read : List Recorder) → 0 < size
    → AllZip (IsRead gives elements table most) (chunks_of size ks) read
    → AreRead gives elements table most ks read
reads-round gives elements table most size ks read some each = (
  subst
      (λ (js : List ℕ). AreReadFrom gives elements table most js
      (flat_map (λ one. instants one.rows.traces) read))
      (chunks_of-concat size ks some)
      (reads-spans _ _ _ _ _ _ each),
  zip-right (IsRead gives elements table most) (IsRecorder elements) (chunks_of size ks) read each
      (λ span one h. h.1),
)

chunks-ended : (gives : Loading) (most : ℕ) (ks : List ℕ) (chunks : List (Vec ℕ Global))
    → AllZip (λ k chunk. gives k chunk × IsChunk most chunk.items) ks chunks
    → AreEnded (map (λ (chunk : Vec ℕ Global). chunk.items) chunks)
chunks-ended gives most ks [] h k below = absurd (omega (arith, below))
chunks-ended gives most [] (chunk ∷ chunks) h k below = absurd h
chunks-ended gives most (j ∷ ks) (chunk ∷ chunks) h zero below = h.0.1.ended
chunks-ended gives most (j ∷ ks) (chunk ∷ chunks) h (suc k) below =
    chunks-ended gives most ks chunks h.1 k (omega (arith, below))

first-ended : (first : List ℕ) (texts : List (List ℕ)) → is_ended first ≡ true → AreEnded texts
    → AreEnded (first ∷ texts)
first-ended first texts e each zero below = e
first-ended first texts e each (suc k) below = each k (omega (arith, below))

chunks-plain : (gives : Loading) (most : ℕ) (ks : List ℕ) (chunks : List (Vec ℕ Global))
    → AllZip (λ k chunk. gives k chunk × IsChunk most chunk.items) ks chunks
    → list_any has_quote (map (λ (chunk : Vec ℕ Global). chunk.items) chunks) ≡ false
chunks-plain gives most ks [] h = refl
chunks-plain gives most [] (chunk ∷ chunks) h = absurd h
chunks-plain gives most (j ∷ ks) (chunk ∷ chunks) h =
    ap (λ q. q || list_any has_quote (map (λ (one : Vec ℕ Global). one.items) chunks)) h.0.1.plain
    ∙ chunks-plain gives most ks chunks h.1

chunks-short : (gives : Loading) (most : ℕ) (ks : List ℕ) (chunks : List (Vec ℕ Global))
    → AllZip (λ k chunk. gives k chunk × IsChunk most chunk.items) ks chunks
    → length (text_of chunks) ≤ most * length ks
chunks-short gives most ks [] h = omega arith
chunks-short gives most [] (chunk ∷ chunks) h = absurd h
chunks-short gives most (j ∷ ks) (chunk ∷ chunks) h =
    let one : length chunk.items ≤ most = h.0.1.short in
    let others : length (text_of chunks) ≤ most * length ks =
    chunks-short gives most ks chunks h.1 in
    let all : length (text_of (chunk ∷ chunks)) ≡ length chunk.items + length (text_of chunks) =
    length-append chunk.items (text_of chunks) in
    grind (arith, one, others, all)

chunks-records : (chunks : List (Vec ℕ Global))
    → flat_map plain_records (map (λ (chunk : Vec ℕ Global). chunk.items) chunks)
    ≡ flat_map (λ (chunk : Vec ℕ Global). plain_records chunk.items) chunks
chunks-records [] = refl
chunks-records (chunk ∷ more) =
    ap (λ rs. plain_records chunk.items ++ rs) (chunks-records more)

-- the traces of the first chunk and of the others are those that their text spells
pub loaded_spells : (gives : Loading) (elements : Elements) (table : ColumnTable) (most : ℕ)
    (first body rest : List ℕ) (ks : List ℕ) (start found : List Instant) (set : Recording)
    → 2 < length first → is_ended first ≡ true → body ≡ strip_bom first → has_quote body ≡ false
    → is_header elements (fields_of table.header) ≡ true
    → plain_records body ≡ fields_of table.header ∷ plain_records rest
    → AllZip (SpellsInstant elements (columns_in table)) (plain_records rest) start
    → (reads : AreReadFrom gives elements table most ks found)
    → length first + most * length ks ≤ 1073741824
    → set.signature ≡ elements → IsRecording set → instants set.traces ≡ start ++ found
    → Spells elements (first ++ text_of reads.chunks) set.traces
unfolding SpelledBy
loaded_spells gives elements table most first body rest ks start found set long ended stripped none
    headed begun begins reads few same lawful all =
    let items : Vec ℕ Global → List ℕ = λ chunk. chunk.items in
    let records : Vec ℕ Global → List Record = λ chunk. plain_records chunk.items in
    let texts : List (List ℕ) = map items reads.chunks in
    let header : Record = fields_of table.header in
    let plain : list_any has_quote (strip_bom first ∷ texts) ≡ false =
    ap (λ (t : List ℕ). has_quote t || list_any has_quote texts) (sym stripped)
    ∙ ap (λ q. q || list_any has_quote texts) none
    ∙ chunks-plain gives most ks reads.chunks reads.given in
    let text : joined (first ∷ texts) ≡ first ++ text_of reads.chunks =
    ap (λ (t : List ℕ). first ++ t) (sym (chunks-joined reads.chunks)) in
    let whole : records_of (first ++ text_of reads.chunks)
    ≡ header ∷ (plain_records rest ++ flat_map records reads.chunks) =
    ap records_of (sym text)
    ∙ bodies-records (first ∷ texts) long
    (first-ended first texts ended (chunks-ended gives most ks reads.chunks reads.given)) plain
    ∙ ap (λ (rs : List Record). rs ++ flat_map plain_records texts)
    (ap plain_records (sym stripped) ∙ begun)
    ∙ ap (λ (rs : List Record). header ∷ (plain_records rest ++ rs))
    (chunks-records reads.chunks) in
    let spelled : AllZip (SpellsInstant elements (columns_in table))
    (plain_records rest ++ flat_map records reads.chunks) (instants set.traces) =
    subst
    (AllZip (SpellsInstant elements (columns_in table))
    (plain_records rest ++ flat_map records reads.chunks))
    (sym all)
    (zip-append (SpellsInstant elements (columns_in table)) (plain_records rest)
    (flat_map records reads.chunks) start found begins reads.spelled) in
    let size : length (first ++ text_of reads.chunks)
    ≡ length first + length (text_of reads.chunks) =
    length-append first (text_of reads.chunks) in
    let within : length (text_of reads.chunks) ≤ most * length ks =
    chunks-short gives most ks reads.chunks reads.given in
    record {
      short = grind (arith, size, within, few);
      spelled = subst (SpelledBy elements set.traces) (sym whole) (headed, spelled);
      lawful = subst (λ e. IsRecording record { signature = e; traces = set.traces }) same lawful;
    }

-- the chunks that were read are given for their numbers
pub given-chunks : (gives : Loading) (elements : Elements) (table : ColumnTable) (most : ℕ)
    (ks : List ℕ) (found : List Instant) (reads : AreReadFrom gives elements table most ks found)
    → AllZip gives ks reads.chunks
given-chunks gives elements table most ks found reads =
    zip-weaker (λ (k : ℕ) (chunk : Vec ℕ Global). gives k chunk × IsChunk most chunk.items) gives
    ks reads.chunks reads.given (λ k chunk h. h.0)

-- a recorder that was joined under its own signature was joined under `elements`, if equal
pub joined-under : (elements : Elements) (before : Recorder) (parts : List Recorder)
    (after : Option Recorder) → before.rows.signature ≡ elements
    → IfSome after (IsJoined before.rows.signature before parts)
    → IfSome after (IsJoined elements before parts)
joined-under elements before parts after same h =
    IfSome_then after h (λ one joined. (joined.0, (joined.1.0 ∙ same, joined.1.1)))

-- two rounds, one after the other, have read all numbers behind the traces of `begun`
pub rounds-joined : (gives : Loading) (elements : Elements) (table : ColumnTable) (most : ℕ)
    (ks some others : List ℕ) (begun all one : Recorder) (read more : List Recorder)
    → some ++ others ≡ ks
    → AreRead gives elements table most some read → IsJoined elements begun read all
    → AreRead gives elements table most others more → IsJoined elements all more one
    → (found : List Instant) × AreReadFrom gives elements table most ks found
    × (instants one.rows.traces ≡ instants begun.rows.traces ++ found) × IsRecorder elements one
rounds-joined gives elements table most ks some others begun all one read more whole first joined
    second last =
    let all_in : List Recorder → List Instant =
    flat_map (λ part. instants part.rows.traces) in (
      all_in read ++ all_in more,
      subst
          (λ (js : List ℕ). AreReadFrom gives elements table most js (all_in read ++ all_in more))
          whole
          (reads-append gives elements table most some others (all_in read) (all_in more)
          first.0 second.0),
      last.0
          ∙ ap (λ (is : List Instant). is ++ all_in more) joined.0
          ∙ append_assoc (instants begun.rows.traces) (all_in read) (all_in more),
      last.1,
    )
