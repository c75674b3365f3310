-- Sections of a file, each judged by itself, one after the other.
use Rattle.std.proofs.Common.{ℕ, zero, suc, ◌≡◌, ◌⊎◌, ◌∙◌, ◌+◌, ◌-◌, ◌<◌, ◌≤◌, ◌==◌, Bool, true}
use Rattle.std.proofs.Common.{None, Option, Some, false, List, [], ◌∷◌, ◌++◌, Result, Ok, Err, ap}
use Rattle.std.proofs.Common.{append_assoc, arith, get_or, inl, inr, length, length-append}
use Rattle.std.proofs.Common.{refl, subst, sym, take}
use Rattle.std.proofs.lemmas.Bool.{cases_lt, false≢true, ne_eqb}
use Rattle.std.proofs.lemmas.List.{append-nil, take_all}
use Rattle.std.proofs.lemmas.List.FromFn.{length-range_with_len}
use Rattle.std.proofs.lemmas.Slice.Zip.{AllZip-long}
use Rattle.std.specs.List.{All, AllZip, range_with_len}
use Rattle.std.specs.Io.KnownBytes.{Consumes, IsAtEnd}
use Rattle.std.specs.Prelude.{IfSome}
use Rattle.std.specs.Result.{IsErrAnd}
use Rattle.csv.specs.Reading.{default_config, records}
use Rattle.lb_static.specs.Signature.{Elements}
use Rattle.lb_flat.specs.declared.program.FlatProgram.{FlatProgram}
use Rattle.lb_trace.specs.declared.error.TraceError.{TraceError}
use Rattle.lb_trace.specs.declared.table.ColumnTable.{ColumnTable}
use Rattle.lb_trace.specs.Errors.{IsRefusal, error_number}
use Rattle.lb_trace.specs.Plain.{has_quote, plain_records}
use Rattle.lb_trace.specs.Refusals.{with_records}
use Rattle.lb_trace.specs.Rolls.{IsRoll}
use Rattle.lb_trace.specs.Spelling.{Record}
use Rattle.lb_trace.specs.Tables.{columns_in}
use Rattle.lb_trace.specs.Texts.{IsFront}
use Rattle.lb_trace.proofs.PlainRecords.{plain_text}
use Rattle.lb_trace.proofs.TextReadings.{front_ended, front_more, front_none, refused_on}
use Rattle.lb_feed.specs.Counts.{count_more}
use Rattle.lb_feed.specs.PlacedFiles.{between, told_between}
use Rattle.lb_feed.specs.Ranges.{AreRangeEnds, IsRange, IsFileFault}
use Rattle.lb_feed.specs.SectionEnds.{start_of}
use Rattle.lb_feed.specs.Windows.{HasRead, IsLoadFault, Left, ended_by, text_in}
use Rattle.lb_feed.specs.declared.feed.LoadError.{LoadError}
use Rattle.lb_feed.specs.declared.feed.LoadError.TheVariants as load
use Rattle.lb_feed.specs.declared.window.Window.{Window}
use Rattle.lb_feed.proofs.Counts.{read_from}
use Rattle.lb_feed.proofs.RangeEnds.{next_start, range_past, range_start}
use Rattle.lb_feed.proofs.PlacedFiles.{all_between, between_long, between_more, between_none, still}
use Rattle.lb_feed.proofs.PlacedFiles.{still_between, still_none, still_short}
use Rattle.lb_feed.proofs.Sectioning.{joined}
use Rattle.lb_feed.proofs.WindowReads.{ended_all}
use Rattle.lb_report.specs.JudgedParts.{HasRefused, IsJudgedPart, IsPiecesJudged}
use Rattle.lb_report.specs.JudgedParts.{IsRestJudged, IsRestRefused}
use Rattle.lb_report.specs.Ranges.{AreRangesJudged, AreRangesRefused}
use Rattle.lb_report.specs.Ranges.{IsRangeJudged, IsRangeTold, IsRangesHalt}
use Rattle.lb_report.specs.Sections.{AreAppended, IsRefusedWithin, IsSection, KeepsRoll, lines_of}
use Rattle.lb_report.specs.Sections.{IsHaltAfter, IsSetAside, IsToldOn}
use Rattle.lb_report.specs.declared.rounds.Halt.{Halt}
use Rattle.lb_report.specs.declared.rounds.Halt.TheVariants as halt
use Rattle.lb_report.specs.declared.rounds.Judged.{Judged}
use Rattle.lb_report.specs.declared.sections.Appended.{Appended}
use Rattle.lb_report.proofs.SectionJoins.{ArePlain}

-- ## The result for one section

module _ (p : FlatProgram) (elements : Elements) (table : ColumnTable)
    (bytes : Option (List ℕ)) (start past : ℕ) (last : Bool) (w after : Window) (old new : Left)
    (nothing : text_in w ≡ []) (begun : w.is_ended ≡ false) (goes_on : w.is_over ≡ false)
    (whole : old.coming ≡ told_between start past bytes) (at : old.given ≡ start)
    (fits : new.given ≤ 1073741824) where
  abbrev IsJoined : Type 0
  IsJoined = (last ≡ true) ⊎ ((after.is_ended ≡ true) × (new.given ≡ past))

  pub range_judged : (j : Judged) → IsPiecesJudged p elements table [] w after old new j
      → IsRoll j.roll → IsJoined → IsRangeJudged p elements table bytes start past last j
  range_judged j is roll joins =
      let read = is.rest.read in
      let more : List ℕ = read.more in
      let all : text_in w ++ more ≡ more = ap (λ t. t ++ more) nothing in
      let plain : has_quote more ≡ false = ap has_quote (sym all) ∙ is.plain in
      let long : new.given ≡ start + length more =
      read_from start (length more) new.given
      (read.given ∙ ap (λ n. count_more n (length more)) at) fits in
      let end : IsAtEnd new.coming =
      read.over (λ over. absurd (false≢true (sym goes_on ∙ over))) is.rest.over in
      let came : Consumes (told_between start past bytes) new.coming more =
      subst (λ o. Consumes o new.coming more) whole read.consumed in
      record {
        text = more;
        range = record {
          short = omega (arith, long, fits);
          is = all_between bytes new.coming start past more came end;
        };
        front = λ (others : last ≡ false).
            elim joins [
              | inl alone ↦ absurd (false≢true (sym others ∙ alone))
              | inr seam ↦
                  front_ended more plain
                  (sym (ended_all more) ∙ ap (λ b. ended_by b more) (sym begun)
                  ∙ sym read.ended ∙ seam.0)
            ];
        within = λ (others : last ≡ false).
            elim joins [
              | inl alone ↦ absurd (false≢true (sym others ∙ alone))
              | inr seam ↦ omega (arith, long, seam.1)
            ];
        judged = record {
          plain = plain;
          part = subst (λ rs. IsJudgedPart p elements table rs j)
              (ap (records default_config) all ∙ plain_text more plain) is.rest.judged;
          roll = roll;
        };
      }

-- ## All sections

-- a text of one quote, for a section that was not judged
abbrev quote : List ℕ
quote = 34 ∷ []

module _ (p : FlatProgram) (elements : Elements) (table : ColumnTable)
    (bytes : Option (List ℕ)) (from : ℕ) (ends : List ℕ) where
  -- `text` is the bytes of section `i`, which is judged
  pub record IsRangeAt (i : ℕ) (text : List ℕ) : Type 0 where
    pub range : IsRange bytes (start_of from ends i) (get_or ends i 0) text
    pub front : (i + 1 == length ends) ≡ false → IsFront text (plain_records text)
    pub within : (i + 1 == length ends) ≡ false →
        start_of from ends i + length text ≤ get_or ends i 0

  abbrev RangeAt : ℕ → List ℕ → Type 0
  RangeAt i text = has_quote text ≡ false → IsRangeAt i text

  abbrev ToldAt : ℕ → Result Judged Halt → Type 0
  ToldAt i told =
      IsRangeTold p elements table bytes (start_of from ends i) (get_or ends i 0)
      (i + 1 == length ends) told

  -- a text for each section; it has a quote where the section is not judged
  pub record AreTexts (is : List ℕ) (told : List (Result Judged Halt)) : Type 0 where
    pub texts : List (List ℕ)
    pub sections : AllZip (IsSection p elements table) texts told
    pub ranges : AllZip RangeAt is texts
    pub long : length texts ≡ length told

  set_aside : (text : List ℕ) (h : Halt) → IsSetAside h → IsSection p elements table text (Err h)
  set_aside text (halt.Load e) told = absurd told
  set_aside text (halt.Refused e) told = record { plain = tt; halt = told; kept = tt }
  set_aside text (halt.Early e) told = absurd told
  set_aside text (halt.Stopped judged line) told = absurd told
  set_aside text halt.Quoted told = record { plain = tt; halt = tt; kept = tt }

  pub texts_of : (is : List ℕ) (told : List (Result Judged Halt)) → AllZip ToldAt is told
      → AreTexts is told
  texts_of [] [] zip = record { texts = []; sections = tt; ranges = tt; long = refl }
  texts_of [] (one ∷ told) zip = absurd zip
  texts_of (i ∷ is) [] zip = absurd zip
  texts_of (i ∷ is) (Ok j ∷ told) zip =
      let rest = texts_of is told zip.1 in
      let one = zip.0 in
      record {
        texts = one.text ∷ rest.texts;
        sections = (one.judged, rest.sections);
        ranges = (
          λ plain. record { range = one.range; front = one.front; within = one.within },
          rest.ranges,
        );
        long = ap suc rest.long;
      }
  texts_of (i ∷ is) (Err h ∷ told) zip =
      let rest = texts_of is told zip.1 in
      record {
        texts = quote ∷ rest.texts;
        sections = (set_aside quote h zip.0, rest.sections);
        ranges = (λ plain. absurd (false≢true (sym plain)), rest.ranges);
        long = ap suc rest.long;
      }

  roll_of : (i : ℕ) (one : Result Judged Halt) → ToldAt i one → KeepsRoll one
  roll_of i (Ok j) told = told.judged.roll
  roll_of i (Err h) told = (set_aside [] h told).kept

  pub rolls_of : (is : List ℕ) (told : List (Result Judged Halt)) → AllZip ToldAt is told
      → All KeepsRoll told
  rolls_of is [] zip k d within = absurd (omega arith)
  rolls_of [] (one ∷ told) zip k d within = absurd zip
  rolls_of (i ∷ is) (one ∷ told) zip zero d within = roll_of i one zip.0
  rolls_of (i ∷ is) (one ∷ told) zip (suc k) d within =
      rolls_of is told zip.1 k d (omega (arith, within))

  pub told_long : (told : List (Result Judged Halt))
      → AllZip ToldAt (range_with_len 0 (length ends)) told → length told ≡ length ends
  told_long told zip =
      AllZip-long ToldAt (range_with_len 0 (length ends)) told zip
      ∙ length-range_with_len 0 (length ends)

  -- a section and those behind it are the bytes of one range
  range_more : (start mid past : ℕ) (first rest : List ℕ) → start ≤ mid → mid ≤ past
      → IfSome bytes (λ all. first ≡ between start mid all)
      → IfSome bytes (λ all. rest ≡ between mid past all)
      → IfSome bytes (λ all. first ++ rest ≡ between start past all)
  range_more start mid past first rest one two here behind = by bytes here behind
    where
      by : (o : Option (List ℕ)) → IfSome o (λ all. first ≡ between start mid all)
          → IfSome o (λ all. rest ≡ between mid past all)
          → IfSome o (λ all. first ++ rest ≡ between start past all)
      by None here behind = tt
      by (Some all) here behind =
          ap (λ t. t ++ rest) here ∙ ap (λ t. between start mid all ++ t) behind
          ∙ sym (between_more start mid past all one two)

  range_none : (place : ℕ) → IfSome bytes (λ all. [] ≡ between place place all)
  range_none place = by bytes
    where
      by : (o : Option (List ℕ)) → IfSome o (λ all. [] ≡ between place place all)
      by None = tt
      by (Some all) = sym (between_none place all)

  module _ (size : ℕ) (are : AreRangeEnds from size ends) where
    -- the first `n` texts are whole lines, and the bytes from `start` to `past`
    record AreFirst (start past n : ℕ) (texts : List (List ℕ)) : Type 0 where
      pub front : IsFront (joined (take n texts)) (lines_of (take n texts))
      pub within : start + length (joined (take n texts)) ≤ past
      pub ordered : start ≤ past
      pub is : IfSome bytes (λ all. joined (take n texts) ≡ between start past all)

    front_from : (k : ℕ) (texts : List (List ℕ)) (n : ℕ) → k + length texts ≡ length ends
        → n < length texts → AllZip RangeAt (range_with_len k (length texts)) texts
        → ArePlain (take n texts)
        → AreFirst (start_of from ends k) (start_of from ends (k + n)) n texts
    unfolding joined
    front_from k texts zero long below zip plain =
        let same : start_of from ends k ≡ start_of from ends (k + 0) =
        ap (start_of from ends) (omega arith) in
        record {
          front = front_none;
          within = omega (arith, same);
          ordered = omega (arith, same);
          is = subst (λ past. IfSome bytes (λ all. [] ≡ between (start_of from ends k) past all))
              same (range_none (start_of from ends k));
        }
    front_from k [] (suc n) long below zip plain = absurd (omega (arith, below))
    front_from k (text ∷ texts) (suc n) long below zip plain =
        let others : (k + 1 == length ends) ≡ false =
        ne_eqb (k + 1) (length ends) (λ same. omega (arith, same, long, below)) in
        let one = zip.0 (plain 0 [] (omega arith)) in
        let rest = front_from (k + 1) texts n (omega (arith, long)) (omega (arith, below)) zip.1
        (λ j d there. plain (suc j) d (omega (arith, there))) in
        let here : start_of from ends k + length text ≤ get_or ends k 0 = one.within others in
        let up : start_of from ends k ≤ get_or ends k 0 =
        are.follow.ordered k (omega (arith, long)) in
        let next : start_of from ends (k + 1) ≡ get_or ends k 0 = next_start from ends k in
        let last : start_of from ends (k + 1 + n) ≡ start_of from ends (k + suc n) =
        ap (start_of from ends) (omega arith) in
        record {
          front = front_more text (joined (take n texts)) (plain_records text)
              (lines_of (take n texts)) (one.front others) rest.front;
          within = omega (
            arith,
            here,
            next,
            last,
            rest.within,
            length-append text (joined (take n texts)),
          );
          ordered = omega (arith, up, next, last, rest.ordered);
          is = range_more (start_of from ends k) (get_or ends k 0) (start_of from ends (k + suc n))
              text (joined (take n texts)) up (omega (arith, next, last, rest.ordered))
              one.range.is
              (subst (λ past. IfSome bytes (λ all.
              joined (take n texts) ≡ between (get_or ends k 0) past all)) last
              (subst (λ mid. IfSome bytes (λ all.
              joined (take n texts) ≡ between mid (start_of from ends (k + 1 + n)) all)) next
              rest.is));
        }

    -- all texts are the bytes from section `k` to the end, and their lines are its records
    record AreAll (k : ℕ) (texts : List (List ℕ)) : Type 0 where
      pub gives : records default_config (joined texts) ≡ lines_of texts
      pub range : IsRange bytes (start_of from ends k) size (joined texts)

    whole_from : (k : ℕ) (text : List ℕ) (texts : List (List ℕ))
        → k + suc (length texts) ≡ length ends
        → AllZip RangeAt (range_with_len k (suc (length texts))) (text ∷ texts)
        → ArePlain (text ∷ texts) → AreAll k (text ∷ texts)
    unfolding joined
    whole_from k text [] long zip plain =
        let quotes : has_quote text ≡ false = plain 0 [] (omega arith) in
        let one = zip.0 quotes in
        let at : length ends - 1 ≡ k = omega (arith, long) in
        let last : get_or ends k 0 ≡ size =
        ap (λ i. get_or ends i 0) (sym at) ∙ are.follow.last in
        record {
          gives =
              ap (records default_config) (append-nil text) ∙ plain_text text quotes
              ∙ sym (append-nil (plain_records text));
          range = subst (IsRange bytes (start_of from ends k) size) (sym (append-nil text))
              (subst (λ past. IsRange bytes (start_of from ends k) past text) last one.range);
        }
    whole_from k text (next ∷ texts) long zip plain =
        let others : (k + 1 == length ends) ≡ false =
        ne_eqb (k + 1) (length ends) (λ same. omega (arith, same, long)) in
        let one = zip.0 (plain 0 [] (omega arith)) in
        let rest = whole_from (k + 1) next texts (omega (arith, long)) zip.1
        (λ j d below. plain (suc j) d (omega (arith, below))) in
        let here : start_of from ends k + length text ≤ get_or ends k 0 = one.within others in
        let start : start_of from ends (k + 1) ≡ get_or ends k 0 = next_start from ends k in
        record {
          gives =
              (one.front others).gives (joined (next ∷ texts))
              ∙ ap (λ rs. plain_records text ++ rs) rest.gives;
          range = record {
            short = omega (
              arith,
              here,
              start,
              rest.range.short,
              length-append text (joined (next ∷ texts)),
            );
            is = range_more (start_of from ends k) (get_or ends k 0) size text
                (joined (next ∷ texts)) (are.follow.ordered k (omega (arith, long)))
                (range_past from size ends are k (omega (arith, long))) one.range.is
                (subst (λ mid. IfSome bytes (λ all.
                joined (next ∷ texts) ≡ between mid size all)) start rest.range.is);
          };
        }

    module _ (told : List (Result Judged Halt))
        (t : AreTexts (range_with_len 0 (length ends)) told) (all : length told ≡ length ends) where
      ranged : AllZip RangeAt (range_with_len 0 (length t.texts)) t.texts
      ranged =
          subst (λ n. AllZip RangeAt (range_with_len 0 n) t.texts) (sym (t.long ∙ all)) t.ranges

      front : (n : ℕ) → n < length t.texts → ArePlain (take n t.texts)
          → AreFirst from (start_of from ends n) n t.texts
      front n below plain =
          let same : start_of from ends (0 + n) ≡ start_of from ends n =
          ap (start_of from ends) (omega arith) in
          subst (λ past. AreFirst from past n t.texts) same
          (front_from 0 t.texts n (omega (arith, t.long, all)) below ranged plain)

      whole : ArePlain t.texts → AreAll 0 t.texts
      whole plain = by t.texts refl
        where
          by : (texts : List (List ℕ)) → t.texts ≡ texts → AreAll 0 t.texts
          by [] none =
              absurd (omega (arith, ap (length {A = List ℕ}) none, t.long, all, are.follow.some))
          by (text ∷ texts) is =
              subst (AreAll 0) (sym is)
              (whole_from 0 text texts
              (omega (arith, ap (length {A = List ℕ}) is, t.long, all))
              (subst (λ ts. AllZip RangeAt (range_with_len 0 (length ts)) ts) is ranged)
              (subst ArePlain is plain))

      -- the first `n` texts, and a text of the bytes behind them, are the bytes of all sections
      behind : (n : ℕ) (text : List ℕ) → AreFirst from (start_of from ends n) n t.texts
          → IsRange bytes (start_of from ends n) size text → n ≤ length ends
          → IsRange bytes from size (joined (take n t.texts) ++ text)
      behind n text first range within = record {
        short = omega (
          arith,
          first.within,
          range.short,
          length-append (joined (take n t.texts)) text,
        );
        is = range_more from (start_of from ends n) size (joined (take n t.texts)) text
            first.ordered (range_start from size ends are n within) first.is range.is;
      }

      -- a text of the bytes behind the first `n` sections; the file's own bytes where it tells them
      rest_of : (n : ℕ) → n ≤ length ends
          → (text : List ℕ) × IsRange bytes (start_of from ends n) size text
      rest_of n within = by bytes refl
        where
          start : start_of from ends n ≤ size
          start = range_start from size ends are n within

          by : (o : Option (List ℕ)) → bytes ≡ o
              → (text : List ℕ) × IsRange bytes (start_of from ends n) size text
          by None none = (
            [],
            record {
              short = omega (arith, start, are.short);
              is = subst (λ o. IfSome o (λ all. [] ≡ between (start_of from ends n) size all))
                  (sym none) tt;
            },
          )
          by (Some all) some = (
            between (start_of from ends n) size all,
            record {
              short = omega (
                arith,
                start,
                are.short,
                between_long (start_of from ends n) size all,
              );
              is = subst (λ o. IfSome o (λ all'.
                  between (start_of from ends n) size all
                  ≡ between (start_of from ends n) size all')) (sym some) refl;
            },
          )

      -- ## The result for all sections

      pub ranges_judged : (a : Appended) → AreAppended p elements table [] t.texts a
          → length t.texts ≤ a.count → AreRangesJudged p elements table [] bytes from size a.all
      ranges_judged a is past =
          let same : take a.count t.texts ≡ t.texts = take_all a.count t.texts past in
          let found = whole (subst ArePlain same is.plain) in
          record {
            text = joined t.texts;
            range = found.range;
            judged = subst (λ rs. IsJudgedPart p elements table rs a.all)
                (ap lines_of same ∙ sym found.gives) is.part;
          }

      pub ranges_refused : (e : TraceError) → IsRefusedWithin elements table [] t.texts e
          → AreRangesRefused elements table [] bytes from size e
      ranges_refused e is =
          elim (cases_lt is.count (length t.texts)) [
            | inl below ↦
                let found = front is.count below is.plain in
                let within : is.count ≤ length ends = omega (arith, below, t.long, all) in
                let more = rest_of is.count within in
                let rows = lines_of (take is.count t.texts) in
                record {
                  text = joined (take is.count t.texts) ++ more.0;
                  range = behind is.count more.0 found more.1 within;
                  refused =
                      subst (λ rs. IsRefusal (with_records elements (columns_in table) [] rs) e)
                      (sym (found.front.gives more.0))
                      (refused_on elements (columns_in table) [] rows
                      (records default_config more.0) e is.refused);
                }
            | inr past ↦
                let same : take is.count t.texts ≡ t.texts = take_all is.count t.texts past in
                let found = whole (subst ArePlain same is.plain) in
                record {
                  text = joined t.texts;
                  range = found.range;
                  refused =
                      subst (λ rs. IsRefusal (with_records elements (columns_in table) [] rs) e)
                      (ap lines_of same ∙ sym found.gives) is.refused;
                }
          ]

      -- where the rest is judged behind the first `n` sections, all sections are judged
      pub onward_judged : (n : ℕ) (j : Judged) → n < length t.texts → ArePlain (take n t.texts)
          → AreRangesJudged p elements table (lines_of (take n t.texts)) bytes
          (start_of from ends n) size j
          → AreRangesJudged p elements table [] bytes from size j
      onward_judged n j below plain is =
          let found = front n below plain in
          record {
            text = joined (take n t.texts) ++ is.text;
            range = behind n is.text found is.range (omega (arith, below, t.long, all));
            judged = subst (λ rs. IsJudgedPart p elements table rs j)
                (sym (found.front.gives is.text)) is.judged;
          }

      refused_onward : (n : ℕ) (e : TraceError) → n < length t.texts → ArePlain (take n t.texts)
          → AreRangesRefused elements table (lines_of (take n t.texts)) bytes
          (start_of from ends n) size e
          → AreRangesRefused elements table [] bytes from size e
      refused_onward n e below plain is =
          let found = front n below plain in
          record {
            text = joined (take n t.texts) ++ is.text;
            range = behind n is.text found is.range (omega (arith, below, t.long, all));
            refused =
                subst (λ rs. IsRefusal (with_records elements (columns_in table) [] rs) e)
                (sym (found.front.gives is.text)) is.refused;
          }

      pub onward_halted : (may_fail : Bool) (n : ℕ) (h : Halt) → n < length t.texts
          → ArePlain (take n t.texts)
          → IsRangesHalt elements table (lines_of (take n t.texts)) bytes may_fail
          (start_of from ends n) size h
          → IsRangesHalt elements table [] bytes may_fail from size h
      onward_halted may_fail n (halt.Load e) below plain bad = bad
      onward_halted may_fail n (halt.Refused e) below plain bad =
          refused_onward n e below plain bad
      onward_halted may_fail n (halt.Early e) below plain bad = tt
      onward_halted may_fail n (halt.Stopped judged line) below plain bad = tt
      onward_halted may_fail n halt.Quoted below plain bad = tt

-- an error for want of memory is a refusal of the bytes of a file
pub ranges_memory : (elements : Elements) (table : ColumnTable) (rows : List Record)
    (bytes : Option (List ℕ)) (from size : ℕ) (e : TraceError) → from ≤ size
    → size ≤ 1073741824 → error_number e ≡ 0
    → AreRangesRefused elements table rows bytes from size e
ranges_memory elements table rows bytes from size e ordered short none = by bytes
  where
    by : (o : Option (List ℕ)) → AreRangesRefused elements table rows o from size e
    by None = record {
      text = [];
      range = record { short = omega (arith, ordered, short); is = tt };
      refused = inl none;
    }
    by (Some all) = record {
      text = between from size all;
      range = record {
        short = omega (arith, ordered, short, between_long from size all);
        is = refl;
      };
      refused = inl none;
    }

-- ## The rest by one worker

module _ (p : FlatProgram) (elements : Elements) (table : ColumnTable)
    (bytes : Option (List ℕ)) (start size : ℕ) (rows : List Record) (w after : Window)
    (old new : Left) (nothing : text_in w ≡ []) (goes_on : w.is_over ≡ false)
    (whole : old.coming ≡ told_between start size bytes) (from : old.given ≡ start)
    (fits : new.given ≤ 1073741824) where
  onward_count : (read : HasRead w after old new) → start + length read.more ≤ 1073741824
  onward_count read =
      let long : new.given ≡ start + length read.more =
      read_from start (length read.more) new.given
      (read.given ∙ ap (λ n. count_more n (length read.more)) from) fits in
      omega (arith, long, fits)

  at_end : HasRead w after old new → after.is_over ≡ true → IsAtEnd new.coming
  at_end read over =
      read.over (λ before. absurd (false≢true (sym goes_on ∙ before))) over

  onward_came : (read : HasRead w after old new)
      → Consumes (told_between start size bytes) new.coming read.more
  onward_came read = subst (λ o. Consumes o new.coming read.more) whole read.consumed

  pub rest_judged : (j : Judged) → IsRestJudged p elements table rows w after old new j
      → AreRangesJudged p elements table rows bytes start size j
  rest_judged j is = record {
    text = is.read.more;
    range = record {
      short = onward_count is.read;
      is = all_between bytes new.coming start size is.read.more (onward_came is.read)
          (at_end is.read is.over);
    };
    judged = subst (λ t. IsJudgedPart p elements table (rows ++ records default_config t) j)
        (ap (λ t. t ++ is.read.more) nothing) is.judged;
  }

  module _ (ordered : start ≤ size) (short : size ≤ 1073741824) where
    rest_refused : (e : TraceError) → HasRefused elements table rows w after old new e
        → AreRangesRefused elements table rows bytes start size e
    rest_refused e is =
        let more : List ℕ = is.read.more in
        let tail : List ℕ = still bytes new.coming in
        let others = is.begins tail (λ over. still_none bytes new.coming (at_end is.read over)) in
        let all : records default_config (more ++ tail) ≡ is.more ++ others.0 =
        ap (records default_config) (ap (λ t. (t ++ more) ++ tail) (sym nothing)) ∙ others.1 in
        record {
          text = more ++ tail;
          range = record {
            short = still_short bytes new.coming start size more (onward_came is.read)
                ordered short (onward_count is.read);
            is = still_between bytes new.coming start size more (onward_came is.read);
          };
          refused =
              subst (λ rs. IsRefusal (with_records elements (columns_in table) [] rs) e)
              (append_assoc rows is.more others.0 ∙ ap (λ rs. rows ++ rs) (sym all))
              (refused_on elements (columns_in table) [] (rows ++ is.more) others.0 e is.refused);
        }

    module _ (may_fail : Bool) (unread : w.read ≡ 0) (never : old.failures ≡ 0)
        (failed : 0 < new.failures → may_fail ≡ true) where
      rest_fault : (e : LoadError) → IsLoadFault w old new e → IsFileFault may_fail e
      rest_fault load.Memory bad = tt
      rest_fault load.Read (inl more) = failed (omega (arith, more, never))
      rest_fault load.Read (inr over) =
          let many : 1100000000 < w.read + length over.more = over.many in
          let long : new.given ≡ start + length over.more =
          read_from start (length over.more) new.given
          (over.given ∙ ap (λ n. count_more n (length over.more)) from) fits in
          absurd (omega (arith, many, unread, long, fits))

      pub rest_halted : (h : Halt) → IsRestRefused elements table rows w after old new h
          → IsRangesHalt elements table rows bytes may_fail start size h
      rest_halted (halt.Load e) bad = rest_fault e bad
      rest_halted (halt.Refused e) bad = rest_refused e bad
      rest_halted (halt.Early e) bad = tt
      rest_halted (halt.Stopped judged line) bad = tt
      rest_halted halt.Quoted bad = tt

-- a halt that `append_all` returns is a halt of the bytes of a file
pub halt_told : (elements : Elements) (table : ColumnTable) (rows : List Record)
    (bytes : Option (List ℕ)) (may_fail : Bool) (from size : ℕ) (h : Halt) → from ≤ size
    → size ≤ 1073741824 → IsToldOn h
    → IsRangesHalt elements table rows bytes may_fail from size h
halt_told elements table rows bytes may_fail from size (halt.Load e) ordered short told =
    absurd told
halt_told elements table rows bytes may_fail from size (halt.Refused e) ordered short told =
    ranges_memory elements table rows bytes from size e ordered short told
halt_told elements table rows bytes may_fail from size (halt.Early e) ordered short told = tt
halt_told elements table rows bytes may_fail from size (halt.Stopped judged line) ordered short
    told =
    tt
halt_told elements table rows bytes may_fail from size halt.Quoted ordered short told = tt

-- no more sections are judged than there are
pub halt_within : (count all : ℕ) (h : Option Halt) → IsHaltAfter count all h → count ≤ all
halt_within count all None is = omega (arith, is)
halt_within count all (Some h) is = omega (arith, is.0)

-- ## Errors that are passed on

pub failed_as : (Q : Result Judged Halt → Type 0) (told : Result Judged Halt) (first : Halt)
    → IsErrAnd told (λ h. h ≡ first) → Q (Err first) → Q told
failed_as Q (Ok j) first same bad = absurd same
failed_as Q (Err h) first same bad = subst (λ k. Q (Err k)) (sym same) bad
