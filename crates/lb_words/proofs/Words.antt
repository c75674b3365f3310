-- The answers of the parser of words at the command line that the program knows.
use Rattle.std.proofs.Common.{◌≡◌, ◌≢◌, ◌∙◌, ◌⊎◌, ℕ, List, Option, Result, Ok, Err, true, false}
use Rattle.std.proofs.Common.{ap, subst, refl, sym}
use Rattle.std.proofs.Common.{inl, inr}
use Rattle.std.specs.Borrow.{Bor}
use Rattle.std.specs.Prelude.{[], IfErr, OnOk, codes, option_map}
use Rattle.std.specs.Result.{IsErrAnd}
use Rattle.clap.specs.Words.{App, FailsBy, HasMatchesOf, IsAmong, Row, Text, fault_of, first_of}
use Rattle.clap.specs.Words.{found_of}
use Rattle.clap.specs.Words.{is_simple, is_simple_and_free, kind_of, matches_of, rows_of}
use Rattle.clap.specs.declared.parser.matches.ArgMatches.{ArgMatches}
use Rattle.clap.specs.declared.error.Error.{Error}
use Rattle.clap.specs.declared.error.kind.ErrorKind.TheVariants.{DisplayHelp, OutOfMemory}
use Rattle.lb_refusal.specs.declared.options.Options.{Options}
use Rattle.lb_words.specs.Terms.{IsTerms}
use Rattle.lb_words.specs.WordValues.{HasNumber, has_switch}
use Rattle.lb_words.specs.Words.{AreRefused, AsksForHelp, IsOptions, IsRefused, IsRequest}
use Rattle.lb_words.specs.Words.{IsRequestOf, IsStray, IsTask, IsUnlawful, IsWrongValue, aim_of}
use Rattle.lb_words.specs.Words.{command_line, faults_of, values_of}
use Rattle.lb_words.specs.Words.IsWrongValue.{merged_source, no_worker, unusual}
use Rattle.lb_words.specs.Words.IsUnlawful.{fault, wrong_value}
use Rattle.lb_words.specs.declared.error.WordsError.{WordsError}
use Rattle.lb_words.specs.declared.error.WordsError.TheVariants.{Memory, Unlawful}
use Rattle.lb_words.specs.declared.request.Aim.{Aim}
use Rattle.lb_words.specs.declared.request.Request.{Request}
use Rattle.lb_words.specs.declared.request.Request.TheVariants.{Help, Version, Run}
use Rattle.lb_words.specs.declared.terms.Terms.{Terms}
use Rattle.lb_words.proofs.PathWords.{path_some}

is_simple_line : is_simple command_line ≡ true
unfolding command_line
is_simple_line = refl

is_free_line : is_simple_and_free command_line ≡ true
unfolding command_line
is_free_line = refl

-- the values that the parser found are `values_of` the words
pub values_are : (app : App) (words : List Text) (m : ArgMatches) → app ≡ command_line
    → HasMatchesOf app words m → rows_of (found_of m) ≡ values_of words
unfolding values_of
values_are app words m same has =
    (has (ap is_simple same ∙ is_simple_line)).0 ∙ ap (λ (a : App). matches_of a words) same

-- where there are values there is no fault
pub lawful : {T : Type 0} (app : App) (words : List Text) (r : Result T Error)
    → app ≡ command_line
    → (is_simple_and_free app ≡ true → FailsBy (fault_of app words) r)
    → OnOk r (faults_of words ≡ [])
unfolding faults_of
lawful app words (Ok m) same fails =
    sym (ap (λ (a : App). fault_of a words) same)
    ∙ fails (ap is_simple_and_free same ∙ is_free_line)
lawful app words (Err e) same fails = tt

-- the kind of an error is among `faults_of` the words, unless memory ran out
pub faults_are : {T : Type 0} (app : App) (words : List Text) (r : Result T Error)
    → app ≡ command_line
    → (is_simple_and_free app ≡ true → FailsBy (fault_of app words) r)
    → IfErr r (λ e. kind_of e ≢ OutOfMemory → IsAmong (kind_of e) (faults_of words))
unfolding faults_of
faults_are app words (Ok m) same fails = tt
faults_are app words (Err e) same fails = λ not_memory.
    subst (λ (a : App). IsAmong (kind_of e) (fault_of a words)) same
    (elim (fails (ap is_simple_and_free same ∙ is_free_line)) [
      | inl memory ↦ absurd (not_memory memory)
      | inr is ↦ is
    ])

not_memory : (e : Error) → kind_of e ≡ DisplayHelp → kind_of e ≢ OutOfMemory
not_memory e help memory = let no : DisplayHelp ≡ OutOfMemory = sym help ∙ memory in cc

pub asks_for_help : (words : List Text) (e : Error)
    → (kind_of e ≢ OutOfMemory → IsAmong (kind_of e) (faults_of words)) → kind_of e ≡ DisplayHelp
    → AsksForHelp words
asks_for_help words e among help =
    subst (λ k. IsAmong k (faults_of words)) help (among (not_memory e help))

is_unlawful : (words : List Text) (e : Error)
    → (kind_of e ≢ OutOfMemory → IsAmong (kind_of e) (faults_of words))
    → kind_of e ≢ DisplayHelp → kind_of e ≢ OutOfMemory → IsUnlawful words
is_unlawful words e among not_help not_memory =
    fault (kind_of e) (among not_memory) not_help

-- an error that is no request for help is a refusal of the words
pub refused_by : (words : List Text) (e : Error) (error : WordsError)
    → (kind_of e ≢ OutOfMemory → IsAmong (kind_of e) (faults_of words))
    → (error ≡ Memory)
    ⊎ ((error ≡ Unlawful) × (kind_of e ≢ DisplayHelp) × (kind_of e ≢ OutOfMemory))
    → IsRefused words error
refused_by words e error among (inl memory) = inl memory
refused_by words e error among (inr (unlawful, not_help, not_memory)) =
    inr (unlawful, is_unlawful words e among not_help not_memory)

-- the request that the values of lawful words make is that of the words
pub asked_by : (words : List Text) (rows : List Row) (request : Request) → rows ≡ values_of words
    → faults_of words ≡ [] → IsRequestOf rows request → IsRequest words request
asked_by words rows (Help text) same lawful is = absurd is
asked_by words rows Version same lawful is = record {
  lawful = lawful;
  version = subst (λ (r : List Row). has_switch (codes "version") r ≡ true) same is;
}
asked_by words rows (Run task) same lawful is = record {
  lawful = lawful;
  no_version = subst (λ (r : List Row). has_switch (codes "version") r ≡ false) same is.0;
  given = subst (λ (r : List Row). IsTask r task) same is.1;
}

-- words with a wrong value are refused
pub misnumbered : (words : List Text) (rows : List Row) (error : WordsError)
    → rows ≡ values_of words → AreRefused rows error → IsRefused words error
misnumbered words rows error same (inl memory) = inl memory
misnumbered words rows error same (inr (unlawful, wrong)) =
    inr (unlawful, wrong_value (subst (λ (r : List Row). IsWrongValue r) same wrong))

-- a live report or a merge that is not as it has to be makes a value wrong
pub stray_is_wrong : (rows : List Row) (aim : Aim) (options : Options) (given : Terms)
    (source : Option (Bor Text)) → aim ≡ aim_of rows → IsOptions rows options → IsTerms rows given
    → option_map (λ s. s.now) source ≡ first_of (codes "source") rows
    → IsStray aim options.workers given source → IsWrongValue rows
stray_is_wrong rows aim options given source aims is terms path (inl (live, inl none)) =
    no_worker (sym aims ∙ live)
    (subst (λ (n : ℕ). HasNumber rows (codes "workers") (codes "1") 0 64 n) none is.workers)
stray_is_wrong rows aim options given source aims is terms path (inl (live, inr other)) =
    unusual given (sym aims ∙ live) terms other
stray_is_wrong rows aim options given source aims is terms path (inr (merge, some)) =
    merged_source (sym aims ∙ merge) (path_some source _ path some)

-- `P first` gives `IfErr r P`, where `r` is `Err first`, as behind a `?`
pub passed_on : {T : Type 0} (r : Result T WordsError) (first : WordsError)
    (P : WordsError → Type 0) → IsErrAnd r (λ error. error ≡ first) → P first → IfErr r P
passed_on (Ok x) first P same p = tt
passed_on (Err e) first P same p = subst P (sym same) p
