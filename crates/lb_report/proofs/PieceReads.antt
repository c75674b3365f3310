-- Pieces that are read behind others, and the result for the rest of a text.
use Rattle.std.proofs.Common.{ℕ, ◌≡◌, ◌<◌, List, [], ◌∷◌, ◌++◌, Result, Ok, Err, true, false, take, drop}
use Rattle.std.proofs.Common.{length, refl, sym, ap, ◌∙◌, subst, append_assoc, inl, inr, ⊎_elim}
use Rattle.std.proofs.Common.{arith, IfSome}
use Rattle.std.proofs.lemmas.List.{append-nil, drop_all}
use Rattle.csv.specs.Reading.{default_config, records}
use Rattle.lb_static.specs.Signature.{Elements}
use Rattle.lb_check.specs.declared.verdict.Verdict.{Verdict}
use Rattle.lb_traces.specs.Traces.{Recording}
use Rattle.lb_flat.specs.declared.program.FlatProgram.{FlatProgram}
use Rattle.lb_trace.specs.declared.round.RoundReader.{RoundReader}
use Rattle.lb_trace.specs.declared.table.ColumnTable.{ColumnTable}
use Rattle.lb_trace.specs.Chunks.{is_ended}
use Rattle.lb_trace.specs.Lines.{after_line, record_of}
use Rattle.lb_trace.specs.Plain.{has_quote, plain_records}
use Rattle.lb_trace.specs.Refusals.{then_read, with_records}
use Rattle.lb_trace.specs.Rolls.{IsRoll}
use Rattle.lb_trace.specs.RoundReaders.{IsRound}
use Rattle.lb_trace.specs.Rounds.{StopsAt}
use Rattle.lb_trace.specs.Spelling.{Record}
use Rattle.lb_trace.specs.Tables.{columns_in}
use Rattle.lb_trace.proofs.PlainRecordings.{begun-more}
use Rattle.lb_trace.proofs.Readings.{with_records-append}
use Rattle.lb_pool.specs.Correct.{AreVerdicts}
use Rattle.lb_feed.specs.Windows.{HasRead, HasTaken, Left, text_in}
use Rattle.lb_feed.specs.declared.window.Window.{Window}
use Rattle.lb_feed.proofs.WindowReads.{fault_on, read_none, read_on}
use Rattle.lb_report.specs.JudgedParts.{HasRoll, IsHalt, IsJudgedPart, IsMoreRead, IsNamed}
use Rattle.lb_report.specs.JudgedParts.{IsPartRead}
use Rattle.lb_report.specs.JudgedParts.{IsOutOfMemory, IsPiecesJudged, IsReadOn, IsReading}
use Rattle.lb_report.specs.JudgedParts.{IsReadingOf, IsRestDone, IsRestHalted, IsRestRead, IsSpent}
use Rattle.lb_report.specs.Pieces.{AreAdded, BeginsWith, IsAllRead, IsCut, IsCutAt, IsFilling}
use Rattle.lb_report.specs.Pieces.{IsFrontRead, IsReadToCut, IsReadToLine, IsReadToQuote}
use Rattle.lb_report.specs.Pieces.{IsRoundRead, IsSoundCut}
use Rattle.lb_report.specs.Turns.{IsTurn}
use Rattle.lb_report.specs.declared.pieces.Cut.{Cut}
use Rattle.lb_report.specs.declared.pieces.Cut.TheVariants as cut
use Rattle.lb_report.specs.declared.rounds.Halt.{Halt}
use Rattle.lb_report.specs.declared.rounds.Halt.TheVariants as halt
use Rattle.lb_report.specs.declared.rounds.Judged.{Judged}
use Rattle.lb_report.specs.declared.rounds.Reading.{Reading}
use Rattle.lb_report.specs.declared.rounds.Reading.TheVariants as reading
use Rattle.lb_report.specs.declared.rounds.State.{State}
use Rattle.lb_report.proofs.PartReads.{part_more, part_none, part_settled, round_held}
use Rattle.lb_report.proofs.PieceTexts.{all_begins, all_on, begins_on, front_begins, front_done}
use Rattle.lb_report.proofs.PieceTexts.{front_on, none_read, piece_begins, piece_cut, piece_read}
use Rattle.lb_report.proofs.PieceTexts.{pieces_on, pieces_text}
use Rattle.lb_report.proofs.RestReads.{rest_halted_on}

-- ## Records that are added to a round

pub added_none : (table : ColumnTable) (r : RoundReader) → AreAdded table [] r r
unfolding with_records
added_none table r = record { read = refl; signature = refl }

pub added_on : (table : ColumnTable) (more next : List Record) (r s t : RoundReader)
    → AreAdded table more r s → AreAdded table next s t → AreAdded table (more ++ next) r t
added_on table more next r s t one two =
    let elements : Elements = r.recorder.rows.signature in
    record {
      read = with_records-append elements (columns_in table) r.recorder.rows.traces more next
          ∙ ap (then_read (λ ts. with_records elements (columns_in table) ts next)) one.read
          ∙ ap (λ es. with_records es (columns_in table) s.recorder.rows.traces next)
          (sym one.signature)
          ∙ two.read;
      signature = two.signature ∙ one.signature;
    }

-- ## Pieces that are read into a round

pub round_none : (table : ColumnTable) (a b : Window) (x y : Left) (r : RoundReader)
    → HasTaken a b x y → IsReadToQuote table a b x y r r
round_none table a b x y r taken =
    record { more = []; front = none_read a b x y taken; added = added_none table r }

module _ (table : ColumnTable) (a b c : Window) (x y z : Left) (r s t : RoundReader)
    (at : IsReadToQuote table a b x y r s) where
  pub round_on : IsRoundRead table b c y z s t → IsRoundRead table a c x z r t
  round_on rest = record {
    more = at.more ++ rest.more;
    pieces = pieces_on a b c x y z at.more rest.more at.front rest.pieces;
    added = added_on table at.more rest.more r s t at.added rest.added;
  }

  pub cut_on : (k : Cut) → IsReadToCut table b c y z s t k → IsReadToCut table a c x z r t k
  unfolding read_on
  cut_on (cut.Load e) is = fault_on a b x y z e at.front.read is
  cut_on (cut.Refused e) is = (read_on a b c x y z at.front.read is.0, is.1)
  cut_on (cut.Stopped line) is = record {
    read = read_on a b c x y z at.front.read is.read;
    more = at.more ++ is.more;
    rest = is.rest;
    begins = subst (BeginsWith c.is_over (text_in a ++ (at.front.read.more ++ is.read.more)))
        (sym (append_assoc at.more is.more (record_of line.items ∷ is.rest)))
        (begins_on a b c x y z at.more (is.more ++ record_of line.items ∷ is.rest) at.front is.read
        is.begins);
    added = added_on table at.more is.more r s t at.added is.added;
  }
  cut_on cut.Quoted is = record {
    more = at.more ++ is.more;
    front = front_on a b c x y z at.more is.more at.front is.front;
    added = added_on table at.more is.more r s t at.added is.added;
  }

-- where something is left, a front has been read
pub round_front : (table : ColumnTable) (a b : Window) (x y : Left) (r s : RoundReader)
    → IsRoundRead table a b x y r s → (b.is_over ≡ true → 0 < length (text_in b))
    → IsReadToQuote table a b x y r s
round_front table a b x y r s is left =
    ⊎_elim
    (λ (t : IsFrontRead a b x y is.more). record { more = is.more; front = t; added = is.added })
    (λ (t : IsAllRead a b x y is.more).
    absurd (omega (arith, left t.over, ap (length {A = ℕ}) t.nothing)))
    is.pieces

-- ## A piece as it is cut and read

module _ (table : ColumnTable) (a b : Window) (x y : Left) (r s : RoundReader)
    (shown : List ℕ) (count : ℕ) (taken : HasTaken a b x y) (same : shown ≡ text_in b)
    (whole : b.is_over ≡ true → count ≡ length (text_in b))
    (ended : b.is_over ≡ false → is_ended (take count (text_in b)) ≡ true)
    (plain : has_quote (take count shown) ≡ false)
    (kept : s.recorder.rows.signature ≡ r.recorder.rows.signature) where
  -- a piece that is cut from the window is read
  pub piece_added : (c : Window) → text_in c ≡ drop count (text_in b) → c.read ≡ b.read
      → c.is_over ≡ b.is_over → c.is_ended ≡ b.is_ended
      → with_records r.recorder.rows.signature (columns_in table) r.recorder.rows.traces
      (plain_records (take count shown)) ≡ Ok s.recorder.rows.traces
      → IsRoundRead table a c x y r s
  piece_added c behind read over last added =
      let piece : List ℕ = take count shown in
      let front : piece ≡ take count (text_in b) = ap (take count) same in
      record {
        more = plain_records piece;
        pieces = piece_read a b c x y piece taken
            (piece_cut (text_in b) piece (text_in c) count front behind) read over last plain
            (λ done. behind ∙ drop_all count (text_in b) (omega (arith, whole done)))
            (λ still. ap is_ended front ∙ ended still);
        added = record { read = added; signature = kept };
      }

  -- a piece is read up to a record that is not added
  piece_stopped : (rest line : List ℕ)
      → StopsAt r.recorder.rows.signature (columns_in table) r.recorder.rows.traces
      s.recorder.rows.traces (take count shown) rest
      → record_of line ≡ record_of rest → IsReadToLine table a b x y r s line
  piece_stopped rest line at is =
      let piece : List ℕ = take count shown in
      let front : piece ≡ take count (text_in b) = ap (take count) same in
      let cut : plain_records piece
      ≡ at.done ++ record_of line ∷ plain_records (after_line rest) =
      at.cut ∙ ap (λ rs. at.done ++ rs) (begun-more rest at.some)
      ∙ ap (λ q. at.done ++ q ∷ plain_records (after_line rest)) (sym is) in
      record {
        read = taken.read;
        more = at.done;
        rest = plain_records (after_line rest);
        begins = subst (BeginsWith b.is_over (text_in a ++ taken.read.more)) cut
            (piece_begins a b x y piece (drop count (text_in b)) taken
            (piece_cut (text_in b) piece (drop count (text_in b)) count front refl) plain
            (λ done. drop_all count (text_in b) (omega (arith, whole done)))
            (λ still. ap is_ended front ∙ ended still));
        added = record { read = at.read; signature = kept };
      }

  pub piece_halted : (rest : List ℕ) (k : Cut)
      → StopsAt r.recorder.rows.signature (columns_in table) r.recorder.rows.traces
      s.recorder.rows.traces (take count shown) rest
      → IsCutAt rest k → IsReadToCut table a b x y r s k
  piece_halted rest (cut.Load e) at is = absurd is
  piece_halted rest (cut.Refused e) at is = (taken.read, is)
  piece_halted rest (cut.Stopped line) at is = piece_stopped rest line.items at is
  piece_halted rest cut.Quoted at is = absurd is

-- a cut in a piece leaves nothing to go on with
pub cut_sound : (elements : Elements) (w : Window) (s : RoundReader) (rest : List ℕ) (k : Cut)
    → IsCutAt rest k → IsSoundCut elements w s k
cut_sound elements w s rest (cut.Load e) is = tt
cut_sound elements w s rest (cut.Refused e) is = tt
cut_sound elements w s rest (cut.Stopped line) is = tt
cut_sound elements w s rest cut.Quoted is = absurd is

-- a reading that can go on can do so behind what was read before, where the feed did not fail
pub on_behind : (elements : Elements) (w : Window) (x y z : Left) (r : Reading)
    → y.failures ≡ x.failures → IsReadOn elements w y z r → IsReadOn elements w x z r
on_behind elements w x y z (reading.Quoted s) same on = (on.0, on.1, on.2 ∙ same)
on_behind elements w x y z (reading.Halted h) same on = on

spent_roll : (h : Halt) → IsSpent h → HasRoll h
spent_roll h spent = subst HasRoll (sym spent.1) tt

pub memory_roll : (read : Result (Unit {0}) Cut) (h : Halt) → IsOutOfMemory read h → HasRoll h
memory_roll (Ok u) h found = spent_roll h found
memory_roll (Err (cut.Load e)) h found = subst HasRoll (sym found) tt
memory_roll (Err (cut.Refused e)) h found = spent_roll h found
memory_roll (Err (cut.Stopped line)) h found = spent_roll h found
memory_roll (Err cut.Quoted) h found = spent_roll h found

module _ (p : FlatProgram) (elements : Elements) (table : ColumnTable) where
  -- ## More records behind others

  -- where a round is read, more records are
  pub part_read : (rows : List Record) (a b : Window) (x y : Left) (s next : State)
      → IsPartRead p elements table rows s → next.judged ≡ s.judged
      → IsRoundRead table a b x y s.round next.round
      → IsMoreRead p elements table rows a b x y next
  part_read rows a b x y s next part same is =
      let all : IsPartRead p elements table (rows ++ is.more) next =
      part_more p elements table rows is.more s next part same is.added.read is.added.signature in
      ⊎_elim
      (λ (t : IsFrontRead a b x y is.more). inl record { more = is.more; text = t; part = all })
      (λ (t : IsAllRead a b x y is.more). inr record { more = is.more; text = t; part = all })
      is.pieces

  -- the state `next` before its round was read
  abbrev before_round : State → RoundReader → State
  before_round next empty = record {
    judged = next.judged;
    room = next.room;
    round = empty;
    spare = next.spare;
  }

  -- where the round of `s` is named and judged, all records are, and an empty round is behind them
  part_begun : (rows : List Record) (s next : State) (empty : RoundReader)
      (found : List Verdict) (set : Recording)
      → IsPartRead p elements table rows s → set ≡ s.round.recorder.rows
      → IsNamed s.judged.roll set next.judged.roll → AreVerdicts p set found
      → next.judged.verdicts.items ≡ s.judged.verdicts.items ++ found
      → IsRound elements [] empty → IsPartRead p elements table rows (before_round next empty)
  part_begun rows s next empty found set part same named verdicts all none =
      part_none p elements table rows (before_round next empty)
      (part_settled p elements table rows s next.judged found set part same named verdicts all)
      (round_held elements [] empty none)

  pub pieces_more : (rows : List Record) (a b c : Window) (x y z : Left) (s next : State)
      → (at : IsRestRead p elements table rows a b x y s)
      → IsMoreRead p elements table (rows ++ at.more) b c y z next
      → IsMoreRead p elements table rows a c x z next
  pieces_more rows a b c x y z s next at rest =
      ⊎_elim
      (λ (r : IsRestRead p elements table (rows ++ at.more) b c y z next). inl record {
        more = at.more ++ r.more;
        text = front_on a b c x y z at.more r.more at.text r.text;
        part = subst (λ rs. IsPartRead p elements table rs next)
            (append_assoc rows at.more r.more) r.part;
      })
      (λ (r : IsRestDone p elements table (rows ++ at.more) b c y z next). inr record {
        more = at.more ++ r.more;
        text = all_on a b c x y z at.more r.more at.text r.text;
        part = subst (λ rs. IsPartRead p elements table rs next)
            (append_assoc rows at.more r.more) r.part;
      })
      rest

  -- where something is left, a front of the rest has been read
  pub rest_front : (rows : List Record) (a b : Window) (x y : Left) (s : State)
      → IsMoreRead p elements table rows a b x y s → (b.is_over ≡ true → 0 < length (text_in b))
      → IsRestRead p elements table rows a b x y s
  rest_front rows a b x y s is left =
      ⊎_elim (λ (r : IsRestRead p elements table rows a b x y s). r)
      (λ (r : IsRestDone p elements table rows a b x y s).
      absurd (omega (arith, left r.text.over, ap (length {A = ℕ}) r.text.nothing)))
      is

  -- where nothing is left, all of the rest has been read
  pub rest_done : (rows : List Record) (a b : Window) (x y : Left) (s : State)
      → IsMoreRead p elements table rows a b x y s → b.is_over ≡ true → text_in b ≡ []
      → IsRestDone p elements table rows a b x y s
  rest_done rows a b x y s is over nothing =
      ⊎_elim
      (λ (r : IsRestRead p elements table rows a b x y s). record {
        more = r.more;
        text = front_done a b x y r.more r.text over nothing;
        part = r.part;
      })
      (λ (r : IsRestDone p elements table rows a b x y s). r)
      is

  -- where all of the rest has been read and its records are judged, the rest is judged
  pub pieces_judged : (rows : List Record) (a b : Window) (x y : Left) (s : State) (j : Judged)
      → ((rs : List Record) → IsPartRead p elements table rs s → IsJudgedPart p elements table rs j)
      → IsRestDone p elements table rows a b x y s
      → IsPiecesJudged p elements table rows a b x y j
  pieces_judged rows a b x y s j judged at = record {
    rest = record {
      read = at.text.read;
      over = at.text.over;
      judged = subst (λ rs. IsJudgedPart p elements table (rows ++ rs) j) (sym at.text.gives)
          (judged (rows ++ at.more) at.part);
    };
    plain = at.text.plain;
  }

  -- ## Why what was read is not judged

  halted_at : (rows more : List Record) (a b : Window) (x y : Left) (h : Halt)
      → (read : HasRead a b x y) → BeginsWith b.is_over (text_in a ++ read.more) more
      → IsHalt elements table (rows ++ more) h
      → IsRestHalted elements table rows a b x y h
  halted_at rows more a b x y (halt.Load e) read begins bad = absurd bad
  halted_at rows more a b x y (halt.Refused e) read begins bad =
      record { read = read; more = more; begins = begins; halt = bad }
  halted_at rows more a b x y (halt.Early e) read begins bad =
      record { read = read; more = more; begins = begins; halt = bad }
  halted_at rows more a b x y (halt.Stopped judged line) read begins bad =
      record { read = read; more = more; begins = begins; halt = bad }
  halted_at rows more a b x y halt.Quoted read begins bad =
      record { read = read; more = more; begins = begins; halt = bad }

  -- a halt of the records before the rest halts the rest
  halted_before : (rows : List Record) (a b : Window) (x y : Left) (h : Halt)
      → HasRead a b x y → IsHalt elements table rows h
      → IsRestHalted elements table rows a b x y h
  halted_before rows a b x y h read bad =
      halted_at rows [] a b x y h read
      (λ tail last. (records default_config ((text_in a ++ read.more) ++ tail), refl))
      (subst (λ rs. IsHalt elements table rs h) (sym (append-nil rows)) bad)

  pub halted_here : (rows : List Record) (a : Window) (x : Left) (h : Halt)
      → IsHalt elements table rows h → IsRestHalted elements table rows a a x x h
  halted_here rows a x h bad =
      halted_before rows a a x x h (read_none a a x refl refl refl) bad

  -- a halt of the records of some pieces is a halt of the rest
  pub pieces_halted : (rows : List Record) (a b : Window) (x y : Left) (s : State) (h : Halt)
      → ((rs : List Record) → IsPartRead p elements table rs s → IsHalt elements table rs h)
      → IsMoreRead p elements table rows a b x y s
      → IsRestHalted elements table rows a b x y h
  pieces_halted rows a b x y s h bad rest =
      ⊎_elim
      (λ (at : IsRestRead p elements table rows a b x y s).
      halted_at rows at.more a b x y h at.text.read (front_begins a b x y at.more at.text)
      (bad (rows ++ at.more) at.part))
      (λ (at : IsRestDone p elements table rows a b x y s).
      halted_at rows at.more a b x y h at.text.read (all_begins a b x y at.more at.text)
      (bad (rows ++ at.more) at.part))
      rest

  -- a reading of further pieces is a reading of the whole rest
  pub reading_on : (rows : List Record) (a b c : Window) (x y z : Left) (s : State) (r : Reading)
      → (at : IsRestRead p elements table rows a b x y s)
      → IsReading p elements table (rows ++ at.more) b c y z r
      → IsReading p elements table rows a c x z r
  reading_on rows a b c x y z s (reading.Quoted next) at r = record {
    more = at.more ++ r.more;
    text = front_on a b c x y z at.more r.more at.text r.text;
    part = subst (λ rs. IsPartRead p elements table rs next) (append_assoc rows at.more r.more)
        r.part;
  }
  reading_on rows a b c x y z s (reading.Halted h) at r =
      rest_halted_on p elements table rows a b c x y z s h at r

  -- where reading into the round of a state is cut, the rest is not judged
  pub cut_reading : (rows : List Record) (a b : Window) (x y : Left) (s next : State) (k : Cut)
      (r : Reading)
      → IsPartRead p elements table rows s → next.judged ≡ s.judged
      → IsReadToCut table a b x y s.round next.round k → IsReadingOf p elements next k r
      → IsReading p elements table rows a b x y r
  cut_reading rows a b x y s next (cut.Load e) r part same is found =
      subst (IsReading p elements table rows a b x y) (sym found) is
  cut_reading rows a b x y s next (cut.Refused e) r part same is found =
      subst (IsReading p elements table rows a b x y) (sym found)
      (halted_before rows a b x y (halt.Refused e) is.0 is.1)
  cut_reading rows a b x y s next (cut.Stopped line) r part same is found =
      let all : IsPartRead p elements table (rows ++ is.more) next =
      part_more p elements table rows is.more s next part same is.added.read is.added.signature in
      subst (IsReading p elements table rows a b x y) (sym found.1)
      (halted_at rows (is.more ++ record_of line.items ∷ is.rest) a b x y found.0 is.read is.begins
      (subst (λ rs. IsHalt elements table rs found.0)
      (append_assoc rows is.more (record_of line.items ∷ is.rest))
      (found.3 table (rows ++ is.more) is.rest all)))
  cut_reading rows a b x y s next cut.Quoted r part same is found =
      let all : IsPartRead p elements table (rows ++ is.more) next =
      part_more p elements table rows is.more s next part same is.added.read is.added.signature in
      subst (IsReading p elements table rows a b x y) (sym found)
      record { more = is.more; text = is.front; part = all }

  -- where reading is cut at a quote, it can go on
  pub cut_goes_on : (a b : Window) (x y : Left) (r : RoundReader) (next : State) (k : Cut)
      (found : Reading)
      → IsCut elements table a b x y r next.round k
      → IsRoll next.judged.roll → IfSome next.spare (λ q. q.recorder.rows.signature ≡ elements)
      → IsReadingOf p elements next k found → IsReadOn elements b x y found
  cut_goes_on a b x y r next (cut.Load e) found is roll spare same =
      subst (IsReadOn elements b x y) (sym same) tt
  cut_goes_on a b x y r next (cut.Refused e) found is roll spare same =
      subst (IsReadOn elements b x y) (sym same) tt
  cut_goes_on a b x y r next (cut.Stopped line) found is roll spare same =
      subst (IsReadOn elements b x y) (sym same.1) same.2
  cut_goes_on a b x y r next cut.Quoted found is roll spare same =
      subst (IsReadOn elements b x y) (sym same) (
        record { roll = roll; round = is.sound.0; spare = spare },
        is.sound.1,
        is.read.front.read.failures,
      )

  spent_halted : (rows : List Record) (a b : Window) (x y : Left) (h : Halt)
      → HasRead a b x y → IsSpent h → IsRestHalted elements table rows a b x y h
  spent_halted rows a b x y h read spent =
      subst (IsRestHalted elements table rows a b x y) (sym spent.1)
      (halted_before rows a b x y (halt.Refused spent.0) read spent.2)

  -- where the round of `s` is judged while another is read, more records are read
  pub turn_read : (rows : List Record) (a b : Window) (x y : Left) (s next : State)
      (empty : RoundReader) (found : List Verdict) (set : Recording)
      → IsPartRead p elements table rows s → set ≡ s.round.recorder.rows
      → IsNamed s.judged.roll set next.judged.roll → AreVerdicts p set found
      → next.judged.verdicts.items ≡ s.judged.verdicts.items ++ found
      → IsRound elements [] empty → IsRoundRead table a b x y empty next.round
      → IsMoreRead p elements table rows a b x y next
  turn_read rows a b x y s next empty found set part same named verdicts all none read =
      part_read rows a b x y (before_round next empty) next
      (part_begun rows s next empty found set part same named verdicts all none) refl read

  -- and where that reading is cut, the rest is not judged
  pub turn_cut : (rows : List Record) (a b : Window) (x y : Left) (s next : State)
      (empty : RoundReader) (found : List Verdict) (set : Recording) (k : Cut) (r : Reading)
      → IsPartRead p elements table rows s → set ≡ s.round.recorder.rows
      → IsNamed s.judged.roll set next.judged.roll → AreVerdicts p set found
      → next.judged.verdicts.items ≡ s.judged.verdicts.items ++ found
      → IsRound elements [] empty → IsCut elements table a b x y empty next.round k
      → IsReadingOf p elements next k r → IsReading p elements table rows a b x y r
  turn_cut rows a b x y s next empty found set k r part same named verdicts all none is told =
      cut_reading rows a b x y (before_round next empty) next k r
      (part_begun rows s next empty found set part same named verdicts all none) refl is.read told

  -- where memory runs out while a round is read, the rest is not judged
  pub memory_reading : (rows : List Record) (a b : Window) (x y : Left) (r s : RoundReader)
      (read : Result (Unit {0}) Cut) (h : Halt)
      → IsFilling elements table a b x y r s read
      → IsOutOfMemory read h → IsRestHalted elements table rows a b x y h
  memory_reading rows a b x y r s (Ok u) h is found =
      spent_halted rows a b x y h (pieces_text a b x y is.read.more is.read.pieces) found
  memory_reading rows a b x y r s (Err (cut.Load e)) h is found =
      subst (IsRestHalted elements table rows a b x y) (sym found) is.read
  memory_reading rows a b x y r s (Err (cut.Refused e)) h is found =
      spent_halted rows a b x y h is.read.0 found
  memory_reading rows a b x y r s (Err (cut.Stopped line)) h is found =
      spent_halted rows a b x y h is.read.read found
  memory_reading rows a b x y r s (Err cut.Quoted) h is found =
      spent_halted rows a b x y h is.read.front.read found

  -- a turn behind a state that goes on from `s` is one behind `s`
  pub turn_behind : (a b : Window) (x y : Left) (s t : State) (r : Result State Reading)
      → ((rows : List Record) → IsPartRead p elements table rows s
      → IsPartRead p elements table rows t)
      → IsTurn p elements table a b x y t r → IsTurn p elements table a b x y s r
  turn_behind a b x y s t (Ok next) part is = record {
    window = is.window;
    state = is.state;
    read = λ rows at. is.read rows (part rows at);
    failures = is.failures;
    goes = is.goes;
  }
  turn_behind a b x y s t (Err reading) part is =
      record { why = λ rows at. is.why rows (part rows at); on = is.on }
