-- The command line that the program knows, and what its words ask for.
-- Source: this project's rule; what words make of a command line is what the library `clap` says.
use Rattle.std.specs.Prelude.{◌≡◌, ◌≢◌, ℕ, List, [], codes, unwrap_or, option_map}
use Rattle.std.specs.Prelude.{Bool, true, false, if◌then◌else◌, ◌<◌, ◌||◌, ◌⊎◌, ◌++◌, is_some}
use Rattle.std.specs.Prelude.{Option, None, Some, IsSome, map, string_bytes, bytes_eq}
use Rattle.std.specs.Borrow.{Bor}
use Rattle.std.specs.List.{list_any}
use Rattle.clap.specs.Words.{App, IsAmong, Kinds, Row, Rule, Text, fault_of, first_of, matches_of}
use Rattle.clap.specs.Words.{all_of, new_app, with_rule}
use Rattle.clap.specs.declared.error.kind.ErrorKind.{ErrorKind}
use Rattle.clap.specs.declared.error.kind.ErrorKind.TheVariants.{DisplayHelp}
use Rattle.lb_part.specs.Parts.{IsPartIn}
use Rattle.lb_part.specs.declared.part.Part.{Part}
use Rattle.lb_refusal.specs.declared.options.Options.{Options}
use Rattle.lb_words.specs.Terms.{IsTerms, are_usual}
use Rattle.lb_words.specs.Terms as terms
use Rattle.lb_words.specs.ValuesWords.{AreValues, format_in, names_trace, with_values}
use Rattle.lb_words.specs.WordValues.{HasNumber, by_default, has_switch, named, placed, several}
use Rattle.lb_words.specs.WordValues.{switch}
use Rattle.lb_words.specs.declared.error.WordsError.{WordsError}
use Rattle.lb_words.specs.declared.error.WordsError.TheVariants.{Memory, Unlawful}
use Rattle.lb_words.specs.declared.terms.Terms.{Terms}
use Rattle.lb_words.specs.declared.request.Aim.{Aim}
use Rattle.lb_words.specs.declared.request.Aim.TheVariants.{Report, LiveReport, OneTrace, Check}
use Rattle.lb_words.specs.declared.request.Aim.TheVariants.{Header, Merge}
use Rattle.lb_words.specs.declared.request.Request.{Request}
use Rattle.lb_words.specs.declared.request.Request.TheVariants.{Help, Version, Run}
use Rattle.lb_words.specs.declared.request.Task.{Task}

-- ## The command line

abbrev pub with_nodes : App → App
with_nodes app =
    with_rule (with_rule app (by_default (codes "main") (named (codes "node"))))
    (named (codes "observe"))

abbrev pub with_numbers : App → App
with_numbers app =
    with_rule (with_rule app (by_default (codes "1") (named (codes "workers"))))
    (by_default (codes "64") (named (codes "batch")))

abbrev pub with_switches : App → App
with_switches app =
    with_rule (with_rule app (switch (codes "by-length"))) (switch (codes "follow"))

abbrev pub with_spread : App → App
with_spread app = with_switches (with_numbers app)

abbrev pub with_explanations : App → App
with_explanations app =
    with_rule (with_rule app (switch (codes "explain"))) (switch (codes "explain-all"))

abbrev pub with_judging : App → App
with_judging app = with_rule (with_rule app (switch (codes "check"))) (switch (codes "header"))

-- `--version`, or `-V`
abbrev pub version_switch : Rule
version_switch = record (switch (codes "version")) { short = Some 86 }

abbrev pub with_version : App → App
with_version app = with_rule app version_switch

abbrev pub with_modes : App → App
with_modes app = with_version (with_judging (with_explanations app))

abbrev pub with_terms : App → App
with_terms app =
    with_rule (with_rule app (switch (codes "strict"))) (named (codes "baseline"))

abbrev pub with_parts : App → App
with_parts app = with_rule app (named (codes "part"))

abbrev pub with_merging : App → App
with_merging app = with_rule app (several (codes "merge"))

abbrev pub with_inputs : App → App
with_inputs app = with_rule (with_rule app (placed (codes "source"))) (placed (codes "traces"))

-- the command line that the program knows
unfoldable pub command_line : App
command_line =
    with_inputs (with_merging (with_parts (with_terms (with_modes (with_values (with_spread
    (with_nodes (new_app (codes "lbench")))))))))

-- the values that the parser finds in the words, and the kinds of error that it reports for them
unfoldable pub values_of : List Text → List Row
values_of words = matches_of command_line words

unfoldable pub faults_of : List Text → Kinds
faults_of words = fault_of command_line words

-- ## What the words ask for

-- whether one of the words asks for explanations
abbrev pub asks_to_explain : List Text → Bool
asks_to_explain words =
    list_any (λ word. bytes_eq word (codes "--explain") || bytes_eq word (codes "--explain-all"))
    words

-- whether one of the words asks for the explanations of all traces
abbrev pub asks_for_all : List Text → Bool
asks_for_all words = list_any (λ word. bytes_eq word (codes "--explain-all")) words

-- the options that the values give
pub record IsOptions (rows : List Row) (options : Options) : Type 0 where
  pub node : string_bytes options.node ≡ unwrap_or (first_of (codes "node") rows) (codes "main")
  pub observer : option_map string_bytes options.observer ≡ first_of (codes "observe") rows
  pub workers : HasNumber rows (codes "workers") (codes "1") 0 64 options.workers
  pub batch : HasNumber rows (codes "batch") (codes "64") 1 64 options.batch
  pub by_length : options.by_length ≡ has_switch (codes "by-length") rows

-- the aim of the run that the values ask for
abbrev pub aim_of : List Row → Aim
aim_of rows =
    if is_some (first_of (codes "merge") rows) then Merge
    else (if has_switch (codes "header") rows then Header
    else (if has_switch (codes "check") rows then Check
    else (if names_trace rows then OneTrace
    else (if has_switch (codes "follow") rows then LiveReport else Report))))

-- a live report has no worker or other terms than the usual ones, or a merge has a source
abbrev pub IsStray : Aim → ℕ → Terms → Option (Bor Text) → Type 0
IsStray aim workers given source =
    ((aim ≡ LiveReport) × ((workers ≡ 0) ⊎ (are_usual given ≡ false)))
    ⊎ ((aim ≡ Merge) × IsSome source)

-- the reports that the values name
abbrev pub reports_of : List Row → List Text
reports_of rows = unwrap_or (all_of (codes "merge") rows) []

-- the part of the traces that the values name
abbrev pub IsPartOf : List Row → Option Part → Type 0
IsPartOf rows part = IsPartIn (first_of (codes "part") rows) part

-- a part is asked for only with a file of traces
abbrev pub HasFile : List Row → Option Part → Type 0
HasFile rows part = IsSome part → IsSome (first_of (codes "traces") rows)

-- the task that the values ask for. A live report has a worker and the usual terms, a merge has no
-- source, and a part has a file of traces
pub record IsTask (rows : List Row) (task : Task) : Type 0 where
  pub options : IsOptions rows task.options
  pub aim : task.aim ≡ aim_of rows
  pub terms : IsTerms rows task.terms
  pub worker : task.aim ≡ LiveReport → 0 < task.options.workers
  pub usual : task.aim ≡ LiveReport → are_usual task.terms ≡ true
  pub reports : map (λ s. s.now) task.reports.items ≡ reports_of rows
  pub no_source : task.aim ≡ Merge → task.source ≡ None
  pub part : IsPartOf rows task.part
  pub has_file : HasFile rows task.part
  pub source : option_map (λ s. s.now) task.source ≡ first_of (codes "source") rows
  pub traces : option_map (λ s. s.now) task.traces ≡ first_of (codes "traces") rows
  pub values : AreValues rows task.values

-- the words ask for help
abbrev pub AsksForHelp : List Text → Type 0
AsksForHelp words = IsAmong DisplayHelp (faults_of words)

-- the words are lawful, and ask for the version
pub record AsksForVersion (words : List Text) : Type 0 where
  pub lawful : faults_of words ≡ []
  pub version : has_switch (codes "version") (values_of words) ≡ true

-- the words are lawful, and ask for this run, and not for the version
pub record IsAsked (words : List Text) (task : Task) : Type 0 where
  pub lawful : faults_of words ≡ []
  pub no_version : has_switch (codes "version") (values_of words) ≡ false
  pub given : IsTask (values_of words) task

-- the request that the words make
abbrev pub IsRequest : List Text → Request → Type 0
IsRequest words (Help text) = AsksForHelp words
IsRequest words Version = AsksForVersion words
IsRequest words (Run task) = IsAsked words task

-- the request that the values make, which is not help
abbrev pub IsRequestOf : List Row → Request → Type 0
IsRequestOf rows (Help text) = ⊥
IsRequestOf rows Version = has_switch (codes "version") rows ≡ true
IsRequestOf rows (Run task) =
    (has_switch (codes "version") rows ≡ false) × IsTask rows task

-- a wrong value: it is no number in its range, no format or no part; or a live report has no worker
-- or not the usual terms; or a merge has a source; or a part has no file of traces
pub data IsWrongValue (rows : List Row) : Type 0 where
  workers : ((n : ℕ) → HasNumber rows (codes "workers") (codes "1") 0 64 n → ⊥) → IsWrongValue rows
  batch : ((n : ℕ) → HasNumber rows (codes "batch") (codes "64") 1 64 n → ⊥) → IsWrongValue rows
  no_worker : aim_of rows ≡ LiveReport
      → HasNumber rows (codes "workers") (codes "1") 0 64 0 → IsWrongValue rows
  format : format_in rows ≡ None → IsWrongValue rows
  report_format : terms.format_in rows ≡ None → IsWrongValue rows
  unusual : (given : Terms) → aim_of rows ≡ LiveReport → IsTerms rows given
      → are_usual given ≡ false → IsWrongValue rows
  merged_source : aim_of rows ≡ Merge → IsSome (first_of (codes "source") rows)
      → IsWrongValue rows
  no_part : ((part : Option Part) → IsPartOf rows part → ⊥) → IsWrongValue rows
  part_of_input : IsSome (first_of (codes "part") rows) → first_of (codes "traces") rows ≡ None
      → IsWrongValue rows
  last : ((n : ℕ) → HasNumber rows (codes "last") (codes "0") 0 1000000000 n → ⊥)
      → IsWrongValue rows

-- the words are no command line that the program knows
pub data IsUnlawful (words : List Text) : Type 0 where
  fault : (kind : ErrorKind) → IsAmong kind (faults_of words) → kind ≢ DisplayHelp
      → IsUnlawful words
  wrong_value : IsWrongValue (values_of words) → IsUnlawful words

-- the values make no request: memory ran out, or one of them is wrong
abbrev pub AreRefused : List Row → WordsError → Type 0
AreRefused rows error = (error ≡ Memory) ⊎ ((error ≡ Unlawful) × IsWrongValue rows)

-- the words make no request: memory ran out, or they are unlawful
abbrev pub IsRefused : List Text → WordsError → Type 0
IsRefused words error = (error ≡ Memory) ⊎ ((error ≡ Unlawful) × IsUnlawful words)

-- ## What is wrong with the words

-- an explanation of words begins with `lbench: error: `
abbrev pub IsExplanation : Text → Type 0
IsExplanation text = (fault : Text) × (text ≡ codes "lbench: error: " ++ fault)
