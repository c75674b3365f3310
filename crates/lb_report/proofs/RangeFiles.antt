-- A file whose header is read from its first bytes, and the rest in sections.
use Rattle.std.proofs.Common.{ℕ, Bool, ◌≡◌, ◌∙◌, ◌+◌, ◌-◌, ◌<◌, ◌≤◌, true, List, [], ◌++◌}
use Rattle.std.proofs.Common.{Option, Some, Result, Ok, Err, ap, arith, inl, length, length-append}
use Rattle.std.proofs.Common.{subst, sym, ⊎_elim}
use Rattle.std.specs.Io.KnownBytes.{Consumes}
use Rattle.std.specs.Prelude.{IfErr, IfOk, IfSome}
use Rattle.csv.specs.Reading.{default_config, records}
use Rattle.lb_static.specs.Signature.{Elements}
use Rattle.lb_flat.specs.declared.program.FlatProgram.{FlatProgram}
use Rattle.lb_trace.specs.Chunks.{is_ended}
use Rattle.lb_trace.specs.Errors.{IsRefusal}
use Rattle.lb_trace.specs.Refusals.{outcome, with_records}
use Rattle.lb_trace.specs.Tables.{columns_in}
use Rattle.lb_trace.specs.declared.error.TraceError.{TraceError}
use Rattle.lb_trace.specs.declared.table.ColumnTable.{ColumnTable}
use Rattle.lb_trace.proofs.TextReadings.{head_outcome}
use Rattle.lb_feed.specs.PlacedFiles.{between}
use Rattle.lb_feed.specs.Ranges.{IsFileText}
use Rattle.lb_feed.specs.Windows.{Left, text_in}
use Rattle.lb_feed.specs.declared.window.Window.{Window}
use Rattle.lb_feed.proofs.WholeFiles.{file_text}
use Rattle.lb_report.specs.JudgedParts.{IsHeadRead}
use Rattle.lb_report.specs.Ranges.{AreRangesJudged, AreRangesRefused, IsFileJudged}
use Rattle.lb_report.specs.Ranges.{IsOutcomeJudged, IsOutcomeRefused, IsRangesHalt}
use Rattle.lb_report.specs.declared.rounds.Halt.{Halt}
use Rattle.lb_report.specs.declared.rounds.Halt.TheVariants as halt
use Rattle.lb_report.specs.declared.rounds.Judged.{Judged}

module _ (p : FlatProgram) (elements : Elements) (table : ColumnTable)
    (bytes : Option (List ℕ)) (size : ℕ) (long : IfSome bytes (λ all. size ≡ length all))
    (first : List ℕ) (others : Option (List ℕ)) (came : Consumes bytes others first)
    (w after : Window) (old new : Left) (nothing : text_in w ≡ []) (begun : w.read ≡ 0)
    (given_all : old.coming ≡ Some first) (head : IsHeadRead elements table w after old new) where
  -- the bytes that were read are the head and those left in the window
  head_parts : head.read.more ≡ head.head ++ text_in after
  head_parts = ap (λ t. t ++ head.read.more) (sym nothing) ∙ head.taken

  -- the window has read as many bytes as the head and its text have
  pub head_long : after.read ≡ length head.head + length (text_in after)
  head_long =
      omega (
        arith,
        head.read.counted,
        begun,
        ap length head_parts,
        length-append head.head (text_in after),
      )

  module _ (some : after.is_over ≡ true → 0 < length (text_in after)) (from : ℕ)
      (at : from ≡ after.read - length (text_in after)) where
    from_long : from ≡ length head.head
    from_long = omega (arith, at, head_long)

    given : (text : List ℕ) → from + length text ≤ 1073741824
        → outcome elements (head.head ++ text)
        ≡ with_records elements (columns_in table) [] (records default_config text)
    given text short =
        head_outcome elements table head.head text head.is
        (⊎_elim (λ (h : is_ended head.head ≡ true). inl h)
        (λ (h : (after.is_over ≡ true) × (text_in after ≡ [])).
        absurd (omega (arith, some h.0, ap (length {A = ℕ}) h.1)))
        head.end)
        (omega (arith, short, from_long, length-append head.head text))

    is_text : (text : List ℕ) → IfSome bytes (λ all. text ≡ between from size all)
        → IsFileText bytes (head.head ++ text)
    is_text text is =
        file_text bytes others new.coming first head.read.more head.head (text_in after) text from
        size came (subst (λ o. Consumes o new.coming head.read.more) given_all head.read.consumed)
        head_parts from_long long is

    file_judged : (j : Judged) → AreRangesJudged p elements table [] bytes from size j
        → IsOutcomeJudged p elements bytes j
    file_judged j is = record {
      text = head.head ++ is.text;
      is = is_text is.text is.range.is;
      traces = is.judged.traces;
      given = given is.text is.range.short ∙ is.judged.read;
      judged = is.judged.judged;
    }

    file_refused : (e : TraceError) → AreRangesRefused elements table [] bytes from size e
        → IsOutcomeRefused elements bytes e
    file_refused e is = record {
      text = head.head ++ is.text;
      is = is_text is.text is.range.is;
      refused = subst (λ o. IsRefusal o e) (sym (given is.text is.range.short)) is.refused;
    }

    file_halted : (may_fail : Bool) (h : Halt)
        → IsRangesHalt elements table [] bytes may_fail from size h
        → IsFileJudged p elements bytes may_fail (Err h)
    file_halted may_fail (halt.Load e) bad = bad
    file_halted may_fail (halt.Refused e) bad = file_refused e bad
    file_halted may_fail (halt.Early e) bad = tt
    file_halted may_fail (halt.Stopped judged line) bad = tt
    file_halted may_fail halt.Quoted bad = tt

    pub file_told : (may_fail : Bool) (told : Result Judged Halt)
        → IfOk told (AreRangesJudged p elements table [] bytes from size)
        → IfErr told (IsRangesHalt elements table [] bytes may_fail from size)
        → IsFileJudged p elements bytes may_fail told
    file_told may_fail (Ok j) ok err = file_judged j ok
    file_told may_fail (Err h) ok err = file_halted may_fail h err
