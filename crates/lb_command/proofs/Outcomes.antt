-- The outcome of a run, from what its parts answer.
use Rattle.std.proofs.Common.{◌≡◌, ◌≢◌, List, Option, Result, Ok, Err, inl, inr, subst, sym}
use Rattle.std.specs.Prelude.{IfErr}
use Rattle.std.specs.Result.{IsErrAnd}
use Rattle.clap.specs.Words.{Text}
use Rattle.lb_feed.specs.declared.feed.LoadError.{LoadError}
use Rattle.lb_feed.specs.declared.feed.LoadError.TheVariants as load
use Rattle.lb_refusal.specs.declared.options.Options.{Options}
use Rattle.lb_output.specs.declared.text.Report.{Report}
use Rattle.lb_words.specs.Words.{IsRefused}
use Rattle.lb_words.specs.declared.error.WordsError.{WordsError}
use Rattle.lb_words.specs.declared.error.WordsError.TheVariants as error
use Rattle.lb_words.specs.declared.request.Task.{Task}
use Rattle.lb_command.specs.Outcomes.{AreIn, AreTexts, HasRead, IsOutcomeOn, IsUnread, load_number}
use Rattle.lb_command.specs.Correct.{IsRefusal}
use Rattle.lb_command.specs.Outcomes.{IsToldWords, TellsOfInput, source_in, traces_in}
use Rattle.lb_command.specs.Outcomes.IsRefusedOn.{judged, unread}
use Rattle.lb_command.specs.Streams.{Input, NeverFailed}
use Rattle.lb_command.specs.declared.answer.Warned.{Warned}
use Rattle.lb_command.specs.declared.refusal.Refusal.{Refusal}
use Rattle.lb_command.specs.declared.refusal.Texts.{Texts}
use Rattle.lb_command.proofs.Inputs.{tells_more}

pub load_unread : (cause : LoadError) (refusal : Refusal) → refusal.number ≡ load_number cause
    → IsUnread refusal
load_unread load.Memory refusal e = inl e
load_unread load.Read refusal e = inr e

-- the refusal of words that make no request is one of the words
pub words_refused : (words : List Text) (cause : WordsError) (refusal : Refusal)
    → IsToldWords cause refusal → IsRefused words cause → IsRefusal words refusal
words_refused words error.Memory refusal told is = inl told
words_refused words error.Unlawful refusal told (inl memory) = cc memory
words_refused words error.Unlawful refusal told (inr (same, unlawful)) = inr (told, unlawful)

-- `IsOutcomeOn Are` gives `IsOutcomeOn Other`, where `Other` follows from `Are`
pub outcome_on : (Are Other : Text → Text → Type 0) (options : Options)
    (result : Result (Warned Report) Refusal)
    → ((source traces : Text) → Are source traces → Other source traces)
    → IsOutcomeOn Are options result → IsOutcomeOn Other options result
outcome_on Are Other options (Ok found) f is = record {
  source = is.source;
  traces = is.traces;
  texts = f is.source is.traces is.texts;
  reported = is.reported;
}
outcome_on Are Other options (Err refusal) f (unread h) = unread h
outcome_on Are Other options (Err refusal) f (judged source traces are e answered told) =
    judged source traces (f source traces are) e answered told

-- the source and the traces in the texts of a task are its two texts
pub are_texts : (task : Task) (known : Option Text) (t : Texts) (source traces : Text)
    → AreTexts task known (source_in t) (traces_in t) → AreIn t source traces
    → AreTexts task known source traces
are_texts task known t source traces are here =
    subst (λ (s : Text). AreTexts task known s traces) (sym here.first)
    (subst (λ (s : Text). AreTexts task known (source_in t) s) (sym here.second) are)

-- `HasRead` holds where no read of the input failed and no refusal is E21
pub all_read : {T : Type 0} (HasFile : Type 0) (i : Input) (r : Result T Refusal) → NeverFailed i
    → IfErr r (λ refusal. refusal.number ≢ 21) → HasRead HasFile i r
all_read HasFile i (Ok x) never not_read = never
all_read HasFile i (Err refusal) never not_read =
    record { read = λ number. absurd (not_read number); other = λ number. never }

-- `HasRead` holds where a file is read and no read of the input failed
pub file_read : {T : Type 0} (HasFile : Type 0) (i : Input) (r : Result T Refusal) → HasFile
    → NeverFailed i → HasRead HasFile i r
file_read HasFile i (Ok x) file never = never
file_read HasFile i (Err refusal) file never =
    record { read = λ number. inl file; other = λ number. never }

-- `HasRead HasFile` gives `HasRead Other`, where `Other` follows from `HasFile`
pub read_more : {T : Type 0} (HasFile Other : Type 0) (i : Input) (r : Result T Refusal)
    → (HasFile → Other) → HasRead HasFile i r → HasRead Other i r
read_more HasFile Other i (Ok x) f has = has
read_more HasFile Other i (Err refusal) f has = tells_more HasFile Other i refusal f has

-- `TellsOfInput` of `first` gives `HasRead` of `r`, where `r` is `Err first`, as behind a `?`
pub passed_read : {T : Type 0} (HasFile : Type 0) (i : Input) (r : Result T Refusal)
    (first : Refusal) → IsErrAnd r (λ refusal. refusal ≡ first) → TellsOfInput HasFile i first
    → HasRead HasFile i r
passed_read HasFile i (Ok x) first same tells = absurd same
passed_read HasFile i (Err e) first same tells =
    subst (λ (refusal : Refusal). TellsOfInput HasFile i refusal) (sym same) tells
