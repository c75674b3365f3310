-- A text whose front has been read, and the result for its rest.
use Rattle.std.proofs.Common.{ℕ, ◌≡◌, ◌⊎◌, ◌≤◌, true, List, [], ◌++◌, length, refl}
use Rattle.std.proofs.Common.{sym, ap}
use Rattle.std.proofs.Common.{◌∙◌, subst, append_assoc, inl, inr, ⊎_elim}
use Rattle.csv.specs.Reading.{default_config, records}
use Rattle.lb_static.specs.Signature.{Elements}
use Rattle.lb_flat.specs.declared.program.FlatProgram.{FlatProgram}
use Rattle.lb_trace.specs.declared.error.TraceError.{TraceError}
use Rattle.lb_trace.specs.declared.table.ColumnTable.{ColumnTable}
use Rattle.lb_trace.specs.Chunks.{is_ended}
use Rattle.lb_trace.specs.Errors.{IsRefusal}
use Rattle.lb_trace.specs.Refusals.{outcome, with_records}
use Rattle.lb_trace.specs.Spelling.{Record}
use Rattle.lb_trace.specs.Tables.{columns_in}
use Rattle.lb_trace.specs.Texts.{IsFront}
use Rattle.lb_trace.proofs.TextReadings.{head_outcome, refused_on}
use Rattle.lb_feed.specs.Windows.{HasRead, Left, text_in}
use Rattle.lb_feed.specs.declared.feed.LoadError.{LoadError}
use Rattle.lb_feed.specs.declared.window.Window.{Window}
use Rattle.lb_feed.proofs.WindowReads.{fault_on, read_on}
use Rattle.lb_report.specs.JudgedParts.{HasHalted, HasRefused, HasRefusedText, IsHalt}
use Rattle.lb_report.specs.JudgedParts.{IsHeadRead, IsJudgedPart, IsLastHalt, IsRestHalted}
use Rattle.lb_report.specs.JudgedParts.{IsRestJudged, IsRestRead, IsRestRefused, IsTextJudged}
use Rattle.lb_report.specs.JudgedParts.{IsTextRefused}
use Rattle.lb_report.specs.Pieces.{BeginsWith}
use Rattle.lb_report.specs.declared.rounds.Halt.{Halt}
use Rattle.lb_report.specs.declared.rounds.Halt.TheVariants as halt
use Rattle.lb_report.specs.declared.rounds.Judged.{Judged}
use Rattle.lb_report.specs.declared.rounds.State.{State}
use Rattle.lb_report.proofs.PieceTexts.{begins_on, joined_text}

-- ## Two steps

front_rows : (front rest : List ℕ) (rows more : List Record) → IsFront front more
    → rows ++ records default_config (front ++ rest)
    ≡ (rows ++ more) ++ records default_config rest
front_rows front rest rows more gives =
    ap (λ rs. rows ++ rs) (gives.gives rest)
    ∙ sym (append_assoc rows more (records default_config rest))

-- where the rest is judged behind the front, all is judged
pub rest_on : (p : FlatProgram) (elements : Elements) (table : ColumnTable) (rows : List Record)
    (a b c : Window) (x y z : Left) (s : State) (j : Judged)
    → (at : IsRestRead p elements table rows a b x y s)
    → IsRestJudged p elements table (rows ++ at.more) b c y z j
    → IsRestJudged p elements table rows a c x z j
unfolding read_on
rest_on p elements table rows a b c x y z s j at rest = record {
  read = read_on a b c x y z at.text.read rest.read;
  over = rest.over;
  judged = subst (λ rs. IsJudgedPart p elements table rs j)
      (sym (ap (λ t. rows ++ records default_config t)
      (joined_text (text_in a) at.text.front (text_in b) at.text.read.more rest.read.more at.text.taken)
      ∙ front_rows at.text.front (text_in b ++ rest.read.more) rows at.more at.text.gives))
      rest.judged;
}

-- where the rest is halted behind the front, all is halted
halted_on : (p : FlatProgram) (elements : Elements) (table : ColumnTable) (rows : List Record)
    (a b c : Window) (x y z : Left) (s : State) (h : Halt)
    → (at : IsRestRead p elements table rows a b x y s)
    → HasHalted elements table (rows ++ at.more) b c y z h
    → HasHalted elements table rows a c x z h
unfolding read_on
halted_on p elements table rows a b c x y z s h at rest = record {
  read = read_on a b c x y z at.text.read rest.read;
  more = at.more ++ rest.more;
  begins = begins_on a b c x y z at.more rest.more at.text rest.read rest.begins;
  halt = subst (λ rs. IsHalt elements table rs h) (append_assoc rows at.more rest.more) rest.halt;
}

pub rest_halted_on : (p : FlatProgram) (elements : Elements) (table : ColumnTable)
    (rows : List Record) (a b c : Window) (x y z : Left) (s : State) (h : Halt)
    → (at : IsRestRead p elements table rows a b x y s)
    → IsRestHalted elements table (rows ++ at.more) b c y z h
    → IsRestHalted elements table rows a c x z h
rest_halted_on p elements table rows a b c x y z s (halt.Load e) at rest =
    fault_on a b x y z e at.text.read rest
rest_halted_on p elements table rows a b c x y z s (halt.Refused e) at rest =
    halted_on p elements table rows a b c x y z s (halt.Refused e) at rest
rest_halted_on p elements table rows a b c x y z s (halt.Early e) at rest =
    halted_on p elements table rows a b c x y z s (halt.Early e) at rest
rest_halted_on p elements table rows a b c x y z s (halt.Stopped judged line) at rest =
    halted_on p elements table rows a b c x y z s (halt.Stopped judged line) at rest
rest_halted_on p elements table rows a b c x y z s halt.Quoted at rest =
    halted_on p elements table rows a b c x y z s halt.Quoted at rest

-- ## Why a text is refused

-- a certain halt of records at the front of the rest is one of the rest
refused_of : (elements : Elements) (table : ColumnTable) (rows more : List Record)
    (a b : Window) (x y : Left) (h : Halt)
    → (read : HasRead a b x y) → BeginsWith b.is_over (text_in a ++ read.more) more
    → IsLastHalt elements table (rows ++ more) h
    → IsRestRefused elements table rows a b x y h
refused_of elements table rows more a b x y (halt.Load e) read begins last = absurd last
refused_of elements table rows more a b x y (halt.Refused e) read begins last =
    record { read = read; more = more; begins = begins; refused = last }
refused_of elements table rows more a b x y (halt.Early e) read begins last = read
refused_of elements table rows more a b x y (halt.Stopped judged line) read begins last = read
refused_of elements table rows more a b x y halt.Quoted read begins last = read

pub rest_refused : (elements : Elements) (table : ColumnTable) (rows : List Record)
    (a b : Window) (x y : Left) (h last : Halt)
    → IsRestHalted elements table rows a b x y h
    → ((e : LoadError) → h ≡ halt.Load e → last ≡ halt.Load e)
    → ((rs : List Record) → IsHalt elements table rs h → IsLastHalt elements table rs last)
    → IsRestRefused elements table rows a b x y last
rest_refused elements table rows a b x y (halt.Load e) last halted load known =
    subst (IsRestRefused elements table rows a b x y) (sym (load e refl)) halted
rest_refused elements table rows a b x y (halt.Refused e) last halted load known =
    refused_of elements table rows halted.more a b x y last halted.read halted.begins
    (known (rows ++ halted.more) halted.halt)
rest_refused elements table rows a b x y (halt.Early e) last halted load known =
    refused_of elements table rows halted.more a b x y last halted.read halted.begins
    (known (rows ++ halted.more) halted.halt)
rest_refused elements table rows a b x y (halt.Stopped judged line) last halted load known =
    refused_of elements table rows halted.more a b x y last halted.read halted.begins
    (known (rows ++ halted.more) halted.halt)
rest_refused elements table rows a b x y halt.Quoted last halted load known =
    refused_of elements table rows halted.more a b x y last halted.read halted.begins
    (known (rows ++ halted.more) halted.halt)

-- ## Behind a header

-- nothing stands behind a header that has no line end
end_on : (head : List ℕ) (b c : Window) (y z : Left) → (read : HasRead b c y z)
    → (is_ended head ≡ true) ⊎ ((b.is_over ≡ true) × (text_in b ≡ []))
    → (is_ended head ≡ true) ⊎ (text_in b ++ read.more ≡ [])
end_on head b c y z read end =
    ⊎_elim (λ (h : is_ended head ≡ true). inl h)
    (λ (h : (b.is_over ≡ true) × (text_in b ≡ [])).
    inr (ap (λ t. t ++ read.more) h.1 ∙ (read.still h.0).0))
    end

-- a text is judged where its rest is judged behind its header
pub text_judged : (p : FlatProgram) (elements : Elements) (table : ColumnTable)
    (a b c : Window) (x y z : Left) (j : Judged)
    → IsHeadRead elements table a b x y → IsRestJudged p elements table [] b c y z j
    → IsTextJudged p elements a c x z j
unfolding read_on
text_judged p elements table a b c x y z j head rest =
    let all : text_in a ++ (head.read.more ++ rest.read.more)
    ≡ head.head ++ (text_in b ++ rest.read.more) =
    joined_text (text_in a) head.head (text_in b) head.read.more rest.read.more head.taken in
    record {
      read = read_on a b c x y z head.read rest.read;
      over = rest.over;
      traces = rest.judged.traces;
      given = λ short.
          ap (outcome elements) all
          ∙ head_outcome elements table head.head (text_in b ++ rest.read.more) head.is
          (end_on head.head b c y z rest.read head.end)
          (subst (λ t. length t ≤ 1073741824) all short)
          ∙ rest.judged.read;
      judged = rest.judged.judged;
    }

-- a text is refused where its rest is refused behind its header
refused_text : (elements : Elements) (table : ColumnTable) (a b c : Window) (x y z : Left)
    (e : TraceError)
    → IsHeadRead elements table a b x y → HasRefused elements table [] b c y z e
    → HasRefusedText elements a c x z e
unfolding read_on
refused_text elements table a b c x y z e head rest = record {
  read = read_on a b c x y z head.read rest.read;
  refused = λ tail none short.
      let behind : List ℕ = (text_in b ++ rest.read.more) ++ tail in
      let all : (text_in a ++ (head.read.more ++ rest.read.more)) ++ tail ≡ head.head ++ behind =
      ap (λ t. t ++ tail)
      (joined_text (text_in a) head.head (text_in b) head.read.more rest.read.more head.taken)
      ∙ append_assoc head.head (text_in b ++ rest.read.more) tail in
      let others = rest.begins tail none in
      let given : outcome elements (head.head ++ behind)
      ≡ with_records elements (columns_in table) [] (rest.more ++ others.0) =
      head_outcome elements table head.head behind head.is (end_tail tail none)
      (subst (λ t. length t ≤ 1073741824) all short)
      ∙ ap (with_records elements (columns_in table) []) others.1 in
      subst (λ o. IsRefusal o e) (sym (ap (outcome elements) all ∙ given))
      (refused_on elements (columns_in table) [] rest.more others.0 e rest.refused);
}
  where
    end_tail : (tail : List ℕ) → (c.is_over ≡ true → tail ≡ [])
        → (is_ended head.head ≡ true) ⊎ ((text_in b ++ rest.read.more) ++ tail ≡ [])
    end_tail tail none =
        ⊎_elim (λ (h : is_ended head.head ≡ true). inl h)
        (λ (h : (b.is_over ≡ true) × (text_in b ≡ [])).
        let stays = rest.read.still h.0 in
        inr (ap (λ t. (t ++ rest.read.more) ++ tail) h.1 ∙ ap (λ t. t ++ tail) stays.0
        ∙ none stays.1))
        head.end

pub text_refused : (elements : Elements) (table : ColumnTable) (a b c : Window) (x y z : Left)
    (h : Halt)
    → IsHeadRead elements table a b x y → IsRestRefused elements table [] b c y z h
    → IsTextRefused elements a c x z h
unfolding read_on
text_refused elements table a b c x y z (halt.Load e) head rest =
    fault_on a b x y z e head.read rest
text_refused elements table a b c x y z (halt.Refused e) head rest =
    refused_text elements table a b c x y z e head rest
text_refused elements table a b c x y z (halt.Early e) head rest =
    read_on a b c x y z head.read rest
text_refused elements table a b c x y z (halt.Stopped judged line) head rest =
    read_on a b c x y z head.read rest
text_refused elements table a b c x y z halt.Quoted head rest =
    read_on a b c x y z head.read rest
