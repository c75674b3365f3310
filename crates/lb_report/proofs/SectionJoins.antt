-- Sections that were judged by themselves, put one after the other.
use Rattle.std.proofs.Common.{ℕ, zero, suc, ◌≡◌, ◌∙◌, ◌+◌, ◌<◌, false, List, [], ◌∷◌, ◌++◌}
use Rattle.std.proofs.Common.{Some, None, Result, Ok, Err, append_assoc, ap, arith, length}
use Rattle.std.proofs.Common.{length-append}
use Rattle.std.proofs.Common.{refl, subst, sym, take}
use Rattle.std.proofs.Math.Seq.{get_or-append_seam, take-append_seam}
use Rattle.std.proofs.lemmas.Grind.{flat_map-append}
use Rattle.std.proofs.lemmas.List.{append-nil, take_all}
use Rattle.std.specs.List.{All, AllZip}
use Rattle.lb_static.specs.Signature.{Elements}
use Rattle.lb_traces.specs.Traces.{Traces}
use Rattle.lb_flat.specs.declared.program.FlatProgram.{FlatProgram}
use Rattle.lb_trace.specs.declared.error.TraceError.{TraceError}
use Rattle.lb_trace.specs.declared.table.ColumnTable.{ColumnTable}
use Rattle.lb_trace.specs.Errors.{IsRefusal}
use Rattle.lb_trace.specs.Plain.{has_quote, plain_records}
use Rattle.lb_trace.specs.Refusals.{with_records}
use Rattle.lb_trace.specs.Spelling.{Record}
use Rattle.lb_trace.specs.Tables.{columns_in}
use Rattle.lb_report.specs.JudgedParts.{IsHalt, AreJudgedTraces, IsJudgedPart}
use Rattle.lb_report.specs.Sections.{AreAppended, IsHaltAfter, IsRefusedWithin, IsSection}
use Rattle.lb_report.specs.Sections.{IsToldOn, lines_of}
use Rattle.lb_report.specs.declared.rounds.Halt.{Halt}
use Rattle.lb_report.specs.declared.rounds.Halt.TheVariants as halt
use Rattle.lb_report.specs.declared.rounds.Judged.{Judged}
use Rattle.lb_report.specs.declared.sections.Appended.{Appended}
use Rattle.lb_report.proofs.SectionReads.{judged_both}

-- ## Lists side by side

-- `xs` stands beside `ys ++ y ∷ rest`, and is split at the element beside `y`
pub record Beside {A B : Type 0} (R : A → B → Type 0) (xs : List A) (ys : List B) (y : B)
    (rest : List B)
    : Type 0 where
  pub front : List A
  pub here : A
  pub more : List A
  pub is : xs ≡ front ++ here ∷ more
  pub first : AllZip R front ys
  pub at : R here y
  pub behind : AllZip R more rest

pub beside : {A B : Type 0} (R : A → B → Type 0) (xs : List A) (ys : List B) (y : B)
    (rest : List B) → AllZip R xs (ys ++ y ∷ rest) → Beside R xs ys y rest
beside R [] [] y rest zip = absurd zip
beside R (x ∷ xs) [] y rest zip = record {
  front = [];
  here = x;
  more = xs;
  is = refl;
  first = tt;
  at = zip.0;
  behind = zip.1;
}
beside R [] (z ∷ ys) y rest zip = absurd zip
beside R (x ∷ xs) (z ∷ ys) y rest zip =
    let b = beside R xs ys y rest zip.1 in
    record {
      front = x ∷ b.front;
      here = b.here;
      more = b.more;
      is = ap (λ l. x ∷ l) b.is;
      first = (zip.0, b.first);
      at = b.at;
      behind = b.behind;
    }

pub zip_long : {A B : Type 0} (R : A → B → Type 0) (xs : List A) (ys : List B) → AllZip R xs ys
    → length xs ≡ length ys
zip_long R [] [] zip = refl
zip_long R [] (y ∷ ys) zip = absurd zip
zip_long R (x ∷ xs) [] zip = absurd zip
zip_long R (x ∷ xs) (y ∷ ys) zip = ap suc (zip_long R xs ys zip.1)

none_beside : {A B : Type 0} (R : A → B → Type 0) (xs : List A) → AllZip R xs [] → xs ≡ []
none_beside R [] zip = refl
none_beside R (x ∷ xs) zip = absurd zip

-- what holds of all elements holds of one between others
pub all_here : {A : Type 0} (P : A → Type 0) (ys : List A) (y : A) (rest : List A)
    → All P (ys ++ y ∷ rest) → P y
all_here P ys y rest all =
    let within : length ys < length (ys ++ y ∷ rest) =
    omega (arith, length-append ys (y ∷ rest)) in
    subst P (get_or-append_seam ys y rest y) (all (length ys) y within)

-- ## Texts without quotes

abbrev pub ArePlain : List (List ℕ) → Type 0
ArePlain texts = All (λ text. has_quote text ≡ false) texts

plain_none : ArePlain []
plain_none k d within = absurd (omega arith)

plain_one_more : (texts : List (List ℕ)) (text : List ℕ) → ArePlain texts → has_quote text ≡ false
    → ArePlain (texts ++ text ∷ [])
plain_one_more [] text all one zero d within = one
plain_one_more [] text all one (suc k) d within = absurd (omega arith)
plain_one_more (t ∷ texts) text all one zero d within = all zero d (omega arith)
plain_one_more (t ∷ texts) text all one (suc k) d within =
    plain_one_more texts text (λ j e below. all (suc j) e (omega (arith, below))) one k d
    (omega (arith, within))

-- the lines of some texts and one more are those of the texts, and then those of the one
lines_more : (rows : List Record) (texts : List (List ℕ)) (text : List ℕ)
    → rows ++ lines_of (texts ++ text ∷ []) ≡ (rows ++ lines_of texts) ++ plain_records text
lines_more rows texts text =
    ap (λ rs. rows ++ rs) (flat_map-append plain_records texts (text ∷ []))
    ∙ ap (λ rs. rows ++ (lines_of texts ++ rs)) (append-nil (plain_records text))
    ∙ sym (append_assoc rows (lines_of texts) (plain_records text))

-- the first `count` texts are `front`, where `front` has `count` texts
first_texts : (texts front : List (List ℕ)) (text : List ℕ) (more : List (List ℕ)) (count : ℕ)
    → texts ≡ front ++ text ∷ more → count ≡ length front → take count texts ≡ front
first_texts texts front text more count is long =
    ap (λ n. take n texts) long ∙ ap (take (length front)) is
    ∙ take-append_seam front (text ∷ more)

first_and : (texts front : List (List ℕ)) (text : List ℕ) (more : List (List ℕ))
    → texts ≡ front ++ text ∷ more → take (length front + 1) texts ≡ front ++ text ∷ []
first_and texts front text more is =
    let whole : texts ≡ (front ++ text ∷ []) ++ more =
    is ∙ sym (append_assoc front (text ∷ []) more) in
    let long : length front + 1 ≡ length (front ++ text ∷ []) =
    omega (arith, length-append front (text ∷ [])) in
    ap (λ n. take n texts) long ∙ ap (take (length (front ++ text ∷ []))) whole
    ∙ take-append_seam (front ++ text ∷ []) more

-- ## Sections

-- a halt of records is one that `append_all` returns
told_on : (elements : Elements) (table : ColumnTable) (rows : List Record) (h : Halt)
    → IsHalt elements table rows h → IsToldOn h
told_on elements table rows (halt.Load e) bad = absurd bad
told_on elements table rows (halt.Refused e) bad = bad
told_on elements table rows (halt.Early e) bad = tt
told_on elements table rows (halt.Stopped judged line) bad = tt
told_on elements table rows halt.Quoted bad = tt

-- the lines of some sections, which have no quotes, are judged behind `rows`
pub record ArePlainJudged (p : FlatProgram) (elements : Elements) (table : ColumnTable)
    (rows : List Record) (texts : List (List ℕ)) (all : Judged)
    : Type 0 where
  pub plain : ArePlain texts
  pub part : IsJudgedPart p elements table (rows ++ lines_of texts) all

module _ (p : FlatProgram) (elements : Elements) (table : ColumnTable) (rows : List Record) where
  -- before the first section, no texts are judged
  pub sections_none : (texts : List (List ℕ)) (before : Judged)
      → IsJudgedPart p elements table rows before
      → AllZip (IsSection p elements table) texts []
      → ArePlainJudged p elements table rows texts before
  sections_none texts before part zip =
      let none : texts ≡ [] = none_beside (IsSection p elements table) texts zip in
      subst (λ ts. ArePlainJudged p elements table rows ts before) (sym none) record {
        plain = plain_none;
        part = subst (λ rs. IsJudgedPart p elements table rs before) (sym (append-nil rows)) part;
      }

  -- where the sections so far are judged, and one more is joined, these are judged
  pub sections_more : (texts : List (List ℕ)) (done : List (Result Judged Halt))
      (all some next : Judged)
      → ((ts : List (List ℕ)) → AllZip (IsSection p elements table) ts done
      → ArePlainJudged p elements table rows ts all)
      → ((one two : Traces) → AreJudgedTraces p elements one all
      → AreJudgedTraces p elements two some
      → AreJudgedTraces p elements (one ++ two) next)
      → AllZip (IsSection p elements table) texts (done ++ Ok some ∷ [])
      → ArePlainJudged p elements table rows texts next
  sections_more texts done all some next before joined zip =
      let b = beside (IsSection p elements table) texts done (Ok some) [] zip in
      let first : ArePlainJudged p elements table rows b.front all = before b.front b.first in
      let none : b.more ≡ [] = none_beside (IsSection p elements table) b.more b.behind in
      let same : texts ≡ b.front ++ b.here ∷ [] =
      b.is ∙ ap (λ ts. b.front ++ b.here ∷ ts) none in
      subst (λ ts. ArePlainJudged p elements table rows ts next) (sym same) record {
        plain = plain_one_more b.front b.here first.plain b.at.plain;
        part = subst (λ rs. IsJudgedPart p elements table rs next)
            (sym (lines_more rows b.front b.here))
            (judged_both p elements table (rows ++ lines_of b.front) (plain_records b.here) all
            first.part some next b.at.part joined);
      }

  -- all sections are appended where all are judged and no halt stopped them
  pub sections_all : (texts : List (List ℕ)) (a : Appended)
      → ArePlainJudged p elements table rows texts a.all → a.count ≡ length texts → a.halt ≡ None
      → AreAppended p elements table rows texts a
  sections_all texts a done count none =
      let whole : take a.count texts ≡ texts = take_all a.count texts (omega (arith, count)) in
      record {
        plain = subst ArePlain (sym whole) done.plain;
        part = subst (λ ts. IsJudgedPart p elements table (rows ++ lines_of ts) a.all) (sym whole)
            done.part;
        stopped = subst (IsHaltAfter a.count (length texts)) (sym none) count;
      }

  -- the sections before one with a halt are appended
  pub sections_stopped : (texts : List (List ℕ)) (done rest : List (Result Judged Halt))
      (h : Halt) (a : Appended)
      → ((ts : List (List ℕ)) → AllZip (IsSection p elements table) ts done
      → ArePlainJudged p elements table rows ts a.all)
      → a.count ≡ length done → a.halt ≡ Some h
      → AllZip (IsSection p elements table) texts (done ++ Err h ∷ rest)
      → AreAppended p elements table rows texts a
  sections_stopped texts done rest h a before count is zip =
      let b = beside (IsSection p elements table) texts done (Err h) rest zip in
      let first : ArePlainJudged p elements table rows b.front a.all = before b.front b.first in
      let long : a.count ≡ length b.front =
      count ∙ sym (zip_long (IsSection p elements table) b.front done b.first) in
      let whole : take a.count texts ≡ b.front =
      first_texts texts b.front b.here b.more a.count b.is long in
      let many : length texts ≡ length b.front + length (b.here ∷ b.more) =
      ap length b.is ∙ length-append b.front (b.here ∷ b.more) in
      record {
        plain = subst ArePlain (sym whole) first.plain;
        part = subst (λ ts. IsJudgedPart p elements table (rows ++ lines_of ts) a.all) (sym whole)
            first.part;
        stopped = subst (IsHaltAfter a.count (length texts)) (sym is) (
          omega (arith, long, many),
          told_on elements table (plain_records b.here) h b.at.halt,
        );
      }

  -- a section that is refused behind those before it is a refusal within the sections
  pub sections_refused : (texts : List (List ℕ)) (done rest : List (Result Judged Halt))
      (one : Result Judged Halt) (all : Judged) (e : TraceError)
      → ((ts : List (List ℕ)) → AllZip (IsSection p elements table) ts done
      → ArePlainJudged p elements table rows ts all)
      → ((rs : List Record) (text : List ℕ) → IsJudgedPart p elements table rs all
      → IsSection p elements table text one
      → (has_quote text ≡ false)
      × IsRefusal (with_records elements (columns_in table) [] (rs ++ plain_records text)) e)
      → AllZip (IsSection p elements table) texts (done ++ one ∷ rest)
      → IsRefusedWithin elements table rows texts e
  sections_refused texts done rest one all e before refused zip =
      let b = beside (IsSection p elements table) texts done one rest zip in
      let first : ArePlainJudged p elements table rows b.front all = before b.front b.first in
      let bad = refused (rows ++ lines_of b.front) b.here first.part b.at in
      let whole : take (length b.front + 1) texts ≡ b.front ++ b.here ∷ [] =
      first_and texts b.front b.here b.more b.is in
      let many : length texts ≡ length b.front + length (b.here ∷ b.more) =
      ap length b.is ∙ length-append b.front (b.here ∷ b.more) in
      record {
        count = length b.front + 1;
        within = omega (arith, many);
        plain = subst ArePlain (sym whole) (plain_one_more b.front b.here first.plain bad.0);
        refused = subst (λ rs. IsRefusal (with_records elements (columns_in table) [] rs) e)
            (sym (ap (λ ts. rows ++ lines_of ts) whole ∙ lines_more rows b.front b.here)) bad.1;
      }
