-- A run that merges several reports into one.
-- Source: this project's rule.
use Rattle.std.specs.Prelude.{◌≡◌, ◌⊎◌, ◌<◌, ℕ, List, [], string_bytes, get_or, length}
use Rattle.clap.specs.Words.{Text}
use Rattle.lb_output.specs.declared.text.Report.{Report}
use Rattle.lb_listing.specs.Listings.{IsFault, Line, Lists}
use Rattle.lb_listing.specs.Merged.{HaveTwice, IsMerged}
use Rattle.lb_words.specs.declared.request.Task.{Task}
use Rattle.lb_command.specs.Conclusions.{IsBaselineRefused, IsTold}
use Rattle.lb_command.specs.Lines.{line, start_of}
use Rattle.lb_command.specs.Outcomes.{IsDelivered, IsUnread, refusal_status}
use Rattle.lb_command.specs.Outcomes as outcomes
use Rattle.lb_command.specs.Streams.{Change, IsUntouched}
use Rattle.lb_command.specs.declared.answer.Answer.TheVariants.{OfTraces}
use Rattle.lb_command.specs.declared.refusal.Refusal.{Refusal}

-- one of the texts is no report: E20, at the first line that shows it
pub record IsNoReport (texts : List Text) (refusal : Refusal) : Type 0 where
  pub usage : refusal.number ≡ 20
  pub file : ℕ
  pub within : file < length texts
  pub number : ℕ
  pub fault : IsFault (get_or texts file []) number
  pub place : refusal.position ≡ start_of number

-- two traces of the reports have one name: E17, at a line
pub record HaveOneName (texts : List Text) (refusal : Refusal) : Type 0 where
  pub trace : refusal.number ≡ 17
  pub twice : HaveTwice texts
  pub number : ℕ
  pub place : refusal.position ≡ start_of number

-- texts are not merged: memory ran out, one is no report, or two traces have one name
abbrev pub AreNotMerged : (texts : List Text) → Refusal → Type 0
AreNotMerged texts refusal = (refusal.number ≡ 0)
    ⊎ (IsNoReport texts refusal ⊎ HaveOneName texts refusal)

-- a merge of `count` files is refused: a file could not be read, or their texts are not merged. No
-- contract says what the files hold
pub data IsMergeRefused (count : ℕ) (refusal : Refusal) : Type 0 where
  unread : IsUnread refusal → IsMergeRefused count refusal
  unmerged : (texts : List Text) → length texts ≡ count → AreNotMerged texts refusal
      → IsMergeRefused count refusal

-- the output `shown` and the notes for the reports in some files: what the terms ask for, of the
-- one report that the files make, with a text for each file
pub record IsMergeTold (task : Task) (shown : Report) (notes : Text) : Type 0 where
  pub texts : List Text
  pub whole : length texts ≡ length task.reports.items
  pub report : Text
  pub merged : IsMerged texts report
  pub traces : List Line
  pub lists : Lists report traces
  pub told : IsTold task.terms (string_bytes task.options.node) [] traces shown notes

-- a run of a task that merges reports. Answered: what its terms ask for of the one report is
-- delivered. Refused: the files or the earlier report are refused, the output is as it was, and the
-- refusal is reported
pub data IsMergeRun (words : List Text) (task : Task) (status : ℕ) (output errors : Change)
    : Type 0 where
  answered : (shown : Report) → (notes : Text) → IsMergeTold task shown notes
      → IsDelivered words (OfTraces shown) notes status output errors
      → IsMergeRun words task status output errors
  refused : (refusal : Refusal)
      → IsMergeRefused (length task.reports.items) refusal ⊎ IsBaselineRefused task.terms refusal
      → status ≡ refusal_status refusal.number → IsUntouched output
      → outcomes.IsTold words errors (line refusal.number refusal.position)
      → IsMergeRun words task status output errors
