-- Pieces of whole traces that are read of a feed, and added to a round.
-- This file says what data of the program mean; no definition of the language stands on it.
use Rattle.std.specs.Prelude.{ℕ, ◌≡◌, ◌⊎◌, List, [], ◌∷◌, ◌++◌, Bool, false, true, Result}
use Rattle.std.specs.Prelude.{Ok, Err}
use Rattle.csv.specs.Reading.{default_config, records}
use Rattle.lb_static.specs.Signature.{Elements}
use Rattle.lb_trace.specs.declared.round.RoundReader.{RoundReader}
use Rattle.lb_trace.specs.declared.table.ColumnTable.{ColumnTable}
use Rattle.lb_trace.specs.Errors.{error_number}
use Rattle.lb_trace.specs.Lines.{record_of}
use Rattle.lb_trace.specs.Mirrors.{knows}
use Rattle.lb_trace.specs.Plain.{has_quote}
use Rattle.lb_trace.specs.Refusals.{with_records}
use Rattle.lb_trace.specs.Spelling.{Record}
use Rattle.lb_trace.specs.Tables.{columns_in}
use Rattle.lb_trace.specs.Texts.{IsFront}
use Rattle.lb_feed.specs.Windows.{GoesOn, HasRead, IsLoadFault, IsWindow, Left, text_in}
use Rattle.lb_feed.specs.declared.window.Window.{Window}
use Rattle.lb_report.specs.declared.pieces.Cut.{Cut}
use Rattle.lb_report.specs.declared.pieces.Cut.TheVariants as cut

-- ## The text of pieces

-- the records of `text` begin with `rows`, however the text goes on; it ends here where it is over
abbrev pub BeginsWith : (over : Bool) → List ℕ → List Record → Type 0
BeginsWith over text rows =
    (tail : List ℕ) → (over ≡ true → tail ≡ [])
    → (others : List Record) × (records default_config (text ++ tail) ≡ rows ++ others)

-- the front of what a window and its feed had left has been read, and its records are `more`
pub record IsFrontRead (before after : Window) (old new : Left) (more : List Record) : Type 0 where
  pub read : HasRead before after old new
  pub front : List ℕ
  pub taken : text_in before ++ read.more ≡ front ++ text_in after
  pub plain : has_quote front ≡ false
  pub gives : IsFront front more

-- all that a window and its feed had left has been read, and its records are `more`
pub record IsAllRead (before after : Window) (old new : Left) (more : List Record) : Type 0 where
  pub read : HasRead before after old new
  pub over : after.is_over ≡ true
  pub nothing : text_in after ≡ []
  pub plain : has_quote (text_in before ++ read.more) ≡ false
  pub gives : records default_config (text_in before ++ read.more) ≡ more

abbrev pub ArePiecesRead : (before after : Window) → (old new : Left) → List Record → Type 0
ArePiecesRead before after old new more =
    IsFrontRead before after old new more ⊎ IsAllRead before after old new more

-- ## The round to which they are added

-- the parts of a round go together, under the signature `elements`
pub record IsOpenRound (elements : Elements) (r : RoundReader) : Type 0 where
  pub signature : r.recorder.rows.signature ≡ elements
  pub known : knows r.recorder.names r.recorder.rows.traces

-- the records `more` have been added to the round `r`, which gave `s`
pub record AreAdded (table : ColumnTable) (more : List Record) (r s : RoundReader) : Type 0 where
  pub read :
      with_records r.recorder.rows.signature (columns_in table) r.recorder.rows.traces more
      ≡ Ok s.recorder.rows.traces
  pub signature : s.recorder.rows.signature ≡ r.recorder.rows.signature

-- pieces have been read, and added to the round `r`, which gave `s`
pub record IsRoundRead (table : ColumnTable) (before after : Window) (old new : Left)
    (r s : RoundReader)
    : Type 0 where
  pub more : List Record
  pub pieces : ArePiecesRead before after old new more
  pub added : AreAdded table more r s

-- ## Why no more was read

-- `IsRoundRead` up to a piece with a quote, which is left
pub record IsReadToQuote (table : ColumnTable) (before after : Window) (old new : Left)
    (r s : RoundReader)
    : Type 0 where
  pub more : List Record
  pub front : IsFrontRead before after old new more
  pub added : AreAdded table more r s

-- the records up to `line` have been added to the round `r`, which gave `s`
pub record IsReadToLine (table : ColumnTable) (before after : Window) (old new : Left)
    (r s : RoundReader) (line : List ℕ)
    : Type 0 where
  pub read : HasRead before after old new
  pub more : List Record
  pub rest : List Record
  pub begins :
      BeginsWith after.is_over (text_in before ++ read.more) (more ++ record_of line ∷ rest)
  pub added : AreAdded table more r s

-- what was read into the round `r`, which gave `s`, up to a cut
abbrev pub IsReadToCut :
    ColumnTable → (before after : Window) → (old new : Left) → (r s : RoundReader) → Cut → Type 0
IsReadToCut table before after old new r s (cut.Load e) = IsLoadFault before old new e
IsReadToCut table before after old new r s (cut.Refused e) =
    HasRead before after old new × (error_number e ≡ 0)
IsReadToCut table before after old new r s (cut.Stopped line) =
    IsReadToLine table before after old new r s line.items
IsReadToCut table before after old new r s cut.Quoted =
    IsReadToQuote table before after old new r s

-- a reading that met a quote can go on: its round and window are sound
abbrev pub IsSoundCut : Elements → Window → RoundReader → Cut → Type 0
IsSoundCut elements w s (cut.Load e) = Unit {0}
IsSoundCut elements w s (cut.Refused e) = Unit {0}
IsSoundCut elements w s (cut.Stopped line) = Unit {0}
IsSoundCut elements w s cut.Quoted = IsOpenRound elements s × IsWindow w

-- why no more was read into the round `r`, which gave `s`
pub record IsCut (elements : Elements) (table : ColumnTable) (before after : Window)
    (old new : Left) (r s : RoundReader) (c : Cut)
    : Type 0 where
  pub read : IsReadToCut table before after old new r s c
  pub sound : IsSoundCut elements after s c

-- the cut at the line with which `rest` begins
abbrev pub IsCutAt : (rest : List ℕ) → Cut → Type 0
IsCutAt rest (cut.Load e) = ⊥
IsCutAt rest (cut.Refused e) = error_number e ≡ 0
IsCutAt rest (cut.Stopped line) = record_of line.items ≡ record_of rest
IsCutAt rest cut.Quoted = ⊥

-- ## What a reading comes to

-- pieces have been read into the round `r`, which gave `s`, and nothing cut the reading
pub record IsFilled (elements : Elements) (table : ColumnTable) (before after : Window)
    (old new : Left) (r s : RoundReader)
    : Type 0 where
  pub window : IsWindow after
  pub round : IsOpenRound elements s
  pub read : IsRoundRead table before after old new r s
  pub goes : GoesOn before after

-- pieces have been read into the round `r`, which gave `s`, up to the end of them or to a cut
abbrev pub IsFilling :
    Elements → ColumnTable → (before after : Window) → (old new : Left) → (r s : RoundReader)
    → Result (Unit {0}) Cut → Type 0
IsFilling elements table before after old new r s (Ok x) =
    IsFilled elements table before after old new r s
IsFilling elements table before after old new r s (Err c) =
    IsCut elements table before after old new r s c
