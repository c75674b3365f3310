-- The report of a run or its refusal, and which of them the outputs get.
-- Source: this project's rule.
use Rattle.std.specs.Prelude.{◌≡◌, ◌≢◌, ℕ, ◌==◌, ◌||◌, ◌⊎◌, if◌then◌else◌, IfSome, List, Option}
use Rattle.std.specs.Prelude.{Some, None, Result, Ok, Err, string_bytes, codes, [], ◌++◌, false}
use Rattle.std.specs.Prelude.{◌≤◌, Bool, length, take}
use Rattle.std.specs.Borrow.{Bor}
use Rattle.lb_report.specs.Bench.{IsBenchReport}
use Rattle.lb_feed.specs.Cases.{parts_of}
use Rattle.lb_report.specs.Correct.{IsBenchAnswer}
use Rattle.lb_refusal.specs.Refusals.{number_of, position_of}
use Rattle.lb_refusal.specs.declared.error.BenchError.{BenchError}
use Rattle.lb_feed.specs.declared.feed.LoadError.{LoadError}
use Rattle.lb_feed.specs.declared.feed.LoadError.TheVariants as load
use Rattle.lb_report.specs.declared.feeding.FeedFault.{FeedFault}
use Rattle.lb_report.specs.declared.feeding.FeedFault.TheVariants as fault
use Rattle.lb_refusal.specs.declared.options.Options.{Options}
use Rattle.lb_output.specs.Taken.{Takes}
use Rattle.lb_output.specs.declared.text.Report.{Report}
use Rattle.clap.specs.Words.{Text}
use Rattle.lb_words.specs.Words.{asks_to_explain}
use Rattle.lb_words.specs.declared.error.WordsError.{WordsError}
use Rattle.lb_words.specs.declared.error.WordsError.TheVariants as error
use Rattle.lb_words.specs.declared.request.Task.{Task}
use Rattle.lb_command.specs.Lines.{line}
use Rattle.lb_command.specs.Streams.{Change, HasFailed, Input, IsUnreadable}
use Rattle.lb_command.specs.Streams.{NeverFailed, Took, TookOrFailed}
use Rattle.lb_command.specs.Warnings.{IsWarned}
use Rattle.lb_command.specs.declared.answer.Answer.{Answer}
use Rattle.lb_command.specs.declared.answer.Answer.TheVariants.{OfTraces, OfSource, Help, Version}
use Rattle.lb_command.specs.declared.answer.Warned.{Warned}
use Rattle.lb_command.specs.declared.loading.Loaded.{Loaded}
use Rattle.lb_command.specs.declared.loading.Loaded.TheVariants as loaded
use Rattle.lb_command.specs.declared.refusal.Cause.{Cause}
use Rattle.lb_command.specs.declared.refusal.Cause.TheVariants as causes
use Rattle.lb_command.specs.declared.refusal.Refusal.{Refusal}
use Rattle.lb_command.specs.declared.refusal.Texts.{Texts}
use Rattle.lb_command.specs.declared.refusal.Texts.TheVariants as texts
use Rattle.lb_command.specs.declared.refusal.Unread.{Unread}

-- ## The texts

-- the text is what an input had still to give, where that is known
abbrev pub IsInput : Option Text → Text → Type 0
IsInput known text = IfSome known (λ bytes. text ≡ bytes)

-- the two texts are the parts of a case text, which is the input
pub record AreParts (known : Option Text) (source traces : Text) : Type 0 where
  pub case : Text
  pub input : IsInput known case
  pub first : source ≡ (parts_of case).source
  pub second : traces ≡ (parts_of case).traces

-- the two texts of a run: without a path they are the parts of the input; with one path the traces
-- are the input, and with two neither is. No contract says what a file holds
pub data AreTexts (task : Task) (known : Option Text) (source traces : Text) : Type 0 where
  of_case : task.source ≡ None → AreParts known source traces → AreTexts task known source traces
  of_input : (path : Bor Text) → task.source ≡ Some path → task.traces ≡ None
      → IsInput known traces → AreTexts task known source traces
  of_files : (path other : Bor Text) → task.source ≡ Some path → task.traces ≡ Some other
      → AreTexts task known source traces

-- the source and the traces in some texts
abbrev pub source_in : Texts → Text
source_in (texts.Two source traces) = source.items
source_in (texts.Case case) = (parts_of case.items).source

abbrev pub traces_in : Texts → Text
traces_in (texts.Two source traces) = traces.items
traces_in (texts.Case case) = (parts_of case.items).traces

-- the two texts are the source and the traces in some texts
pub record AreIn (texts : Texts) (source traces : Text) : Type 0 where
  pub first : source ≡ source_in texts
  pub second : traces ≡ traces_in texts

-- the task names a file
abbrev pub HasPath : Task → Type 0
HasPath task = (path : Bor Text) × (task.source ≡ Some path)

-- the texts of a task, as they are loaded: both; or the source, and an open file of traces. No
-- contract says what a file holds
abbrev pub IsLoaded : {F : Type 0} → Task → (known : Option Text) → Loaded F → Type 0
IsLoaded task known (loaded.Texts texts) = AreTexts task known (source_in texts) (traces_in texts)
IsLoaded task known (loaded.Open source path file) =
    HasPath task × ((first second : Text) → AreTexts task known first second)

-- the source of a run: without a path it is the first part of the input. No contract says what a
-- file holds
pub data IsSource (task : Task) (known : Option Text) (source : Text) : Type 0 where
  of_case : task.source ≡ None → (case : Text) → IsInput known case
      → source ≡ (parts_of case).source → IsSource task known source
  of_file : (path : Bor Text) → task.source ≡ Some path → IsSource task known source

-- ## Reports and refusals

-- the number of the refusal of an input that could not be loaded
abbrev pub load_number : LoadError → ℕ
load_number load.Memory = 0
load_number load.Read = 21

-- an input could not be read, or memory ran out
abbrev pub IsUnread : Refusal → Type 0
IsUnread refusal = (refusal.number ≡ 0) ⊎ (refusal.number ≡ 21)

-- E20, and no place
abbrev pub IsUsage : Refusal → Type 0
IsUsage refusal = (refusal.number ≡ 20) × (refusal.position ≡ None)

-- the refusal of words that make no request: E0, or E20 without a place
abbrev pub IsToldWords : WordsError → Refusal → Type 0
IsToldWords error.Memory refusal = refusal.number ≡ 0
IsToldWords error.Unlawful refusal = IsUsage refusal

-- a refusal has the number and the place of an error of the bench
pub record IsToldBy (e : BenchError) (refusal : Refusal) : Type 0 where
  pub number : refusal.number ≡ number_of e
  pub position : refusal.position ≡ position_of e

-- the file at a path could not be read, and why
pub record IsUnreadFile (path why : Text) (file : Unread) : Type 0 where
  pub at : string_bytes file.path ≡ path
  pub reason : string_bytes file.why ≡ why

-- the cause: the file at a path could not be read, and why
abbrev pub IsUnreadAt : (path why : Text) → Cause → Type 0
IsUnreadAt path why (causes.Unread file) = IsUnreadFile path why file
IsUnreadAt path why other = ⊥

-- the cause: nothing has a name, which is sought among the traces or among the variables
abbrev pub IsUnknownName : (is_trace : Bool) → (name : Text) → Cause → Type 0
IsUnknownName is_trace name (causes.Unknown unknown) =
    (unknown.is_trace ≡ is_trace) × (string_bytes unknown.name ≡ name)
IsUnknownName is_trace name other = ⊥

-- the cause: the file at a path is no report, as a line of it shows
abbrev pub IsNoReportAt : (path : Text) → (line : ℕ) → Cause → Type 0
IsNoReportAt path line (causes.NoReport at number) = (string_bytes at ≡ path) × (number ≡ line)
IsNoReportAt path line other = ⊥

-- the cause: in a line of the report at a path stands a trace of an earlier report
abbrev pub IsTwiceAt : (path : Text) → (line : ℕ) → Cause → Type 0
IsTwiceAt path line (causes.Twice at number) = (string_bytes at ≡ path) × (number ≡ line)
IsTwiceAt path line other = ⊥

-- a report that the bench promises for two texts for which `Are` holds
pub record IsReportOn (Are : Text → Text → Type 0) (options : Options) (report : Report)
    : Type 0 where
  pub source : Text
  pub traces : Text
  pub texts : Are source traces
  pub reported : IsBenchReport source traces options report

-- a refusal: an input could not be read; or the bench refuses two texts for which `Are` holds
pub data IsRefusedOn (Are : Text → Text → Type 0) (options : Options) (refusal : Refusal)
    : Type 0 where
  unread : IsUnread refusal → IsRefusedOn Are options refusal
  judged : (source traces : Text) → Are source traces → (e : BenchError)
      → IsBenchAnswer source traces options (Err e) → IsToldBy e refusal
      → IsRefusedOn Are options refusal

-- a report, or a refusal
abbrev pub IsOutcomeOn : (Text → Text → Type 0) → Options → Result (Warned Report) Refusal → Type 0
IsOutcomeOn Are options (Ok found) = IsReportOn Are options found.value
IsOutcomeOn Are options (Err refusal) = IsRefusedOn Are options refusal

-- a report of the bench on a feed is printed as it is; an error of the bench becomes a refusal with
-- the number of the error (E21: the feed failed) and its place in the texts
abbrev pub IsReported : (found : Result Report FeedFault) → Result (Warned Report) Refusal → Type 0
IsReported (Ok report) (Ok told) = told.value ≡ report
IsReported (Ok report) (Err refusal) = ⊥
IsReported (Err (fault.Load e)) (Ok told) = ⊥
IsReported (Err (fault.Load e)) (Err refusal) = refusal.number ≡ load_number e
IsReported (Err (fault.Refused e)) (Ok told) = ⊥
IsReported (Err (fault.Refused e)) (Err refusal) = IsToldBy e refusal

-- ## What a refusal says of the input

-- E21 comes only where the input could not be read, or where some file is read too; and with any
-- other number no read of the input has failed
pub record TellsOfInput (HasFile : Type 0) (i : Input) (refusal : Refusal) : Type 0 where
  pub read : refusal.number ≡ 21 → HasFile ⊎ IsUnreadable i
  pub other : refusal.number ≢ 21 → NeverFailed i

-- a report says that no read of the input failed; a refusal says what `TellsOfInput` does
abbrev pub HasRead : {T : Type 0} → (HasFile : Type 0) → Input → Result T Refusal → Type 0
HasRead HasFile i (Ok x) = NeverFailed i
HasRead HasFile i (Err refusal) = TellsOfInput HasFile i refusal

-- ## Answers

-- the output of `--version`
abbrev pub version : Text
version = codes "lbench 0.1.0\nrattle-kit-13f logic dac8208d650f15bf\n"

-- the bytes of an answer for the output
abbrev pub text_of : Answer → List ℕ
text_of (OfTraces report) = report.text.items
text_of (OfSource text) = text.items
text_of (Help text) = string_bytes text
text_of Version = version

-- the exit status of an answer: that of the report, which is 1 where a verdict is a fault,
-- undefined or false, and else 0; and 0 for all other answers
abbrev pub status_of : Answer → ℕ
status_of (OfTraces report) = report.status
status_of (OfSource text) = 0
status_of (Help text) = 0
status_of Version = 0

-- the exit status of a refusal: 3 where memory, the output or an input failed, else 2
abbrev pub refusal_status : ℕ → ℕ
refusal_status number = if number == 0 || number == 19 || number == 21 then 3 else 2

-- the line of a refusal went to the errors, unless these failed; further lines went behind it only
-- where the words ask for explanations
pub record IsTold (words : List Text) (errors : Change) (text : List ℕ) : Type 0 where
  pub further : List ℕ
  pub unasked : asks_to_explain words ≡ false → further ≡ []
  pub told : TookOrFailed errors (text ++ further)

-- the delivery of an answer. Whole: the output took all of it, the status is its own, and the
-- warnings went to the errors. Broken: the output took the first `count` bytes and failed, and the
-- refusal is E19
pub data IsDelivered
    (words : List Text) (answer : Answer) (warnings : List ℕ) (status : ℕ) (output errors : Change)
    : Type 0 where
  whole : status ≡ status_of answer → Took output (text_of answer) → IsWarned errors warnings
      → IsDelivered words answer warnings status output errors
  broken : (count : ℕ) → count ≤ length (text_of answer)
      → Takes output.before output.after (take count (text_of answer))
      → status ≡ refusal_status 19 → HasFailed output → IsTold words errors (line 19 None)
      → IsDelivered words answer warnings status output errors
