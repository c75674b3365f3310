-- The first refusal of a run, from its two texts and the names of two nodes: the refusals from E1
-- to E18 in the order of the parts, which are the text of the source, its program, and the traces.
-- Source: this project's rule.
use Rattle.std.specs.Prelude.{◌≡◌, ℕ, ◌≤◌, Bool, true, false, nat_lt, Option, Some, None, Result}
use Rattle.std.specs.Prelude.{Ok, Err, List, length}
use Rattle.lb_syntax.specs.declared.token.Token.{Token}
use Rattle.lb_syntax.specs.Limits.{keeps_limits}
use Rattle.lb_syntax.specs.Lists.{or_else}
use Rattle.lb_syntax.specs.Programs.{source_at}
use Rattle.lb_syntax.specs.Tree.{Name, Source}
use Rattle.lb_syntax.specs.Tokens.{Text, tokens}
use Rattle.lb_syntax.specs.Correct.{IsOnlyProgram, IsSyntaxFault}
use Rattle.lb_syntax.specs.Refusals.{Refusal, E1, E2, E3, E13, refusal_number, unless}
use Rattle.lb_syntax.specs.Texts.{BreaksLimit, HasNoTokens, IsTooLong}
use Rattle.lb_static.specs.Instances.{Program}
use Rattle.lb_static.specs.DataTypes.{signature}
use Rattle.lb_check.specs.Acceptance.{IsAccepted, IsFirst, refusal}
use Rattle.lb_traces.specs.Traces.{Traces}
use Rattle.lb_trace.specs.Refusals.{outcome}
use Rattle.lb_trace.specs.Spelling.{Spells}
use Rattle.lb_report.specs.Causality.{is_causal}

-- ## As a relation

-- the text of a source is refused: it is too long; or a byte begins no token, or a comment has no
-- end; or a name, a number or a statement is over its limit; or no tree spells the tokens
pub data IsTextRefusal (text : Text) : Refusal → Type 0 where
  too_long : IsTooLong text → IsTextRefusal text E3
  no_tokens : length text ≤ 1000000 → HasNoTokens text → IsTextRefusal text E1
  over_limit : length text ≤ 1000000 → BreaksLimit text → IsTextRefusal text E3
  no_tree : IsSyntaxFault text → IsTextRefusal text E2

-- the first refusal of the traces of an accepted program, by its number, or none where they are
-- traces under its signature
abbrev pub IsTraceRefusal : Program → Text → Option ℕ → Type 0
IsTraceRefusal P text (Some number) =
    (outcome (signature P) text ≡ Err number)
    × ((traces : Traces) → ¬ (Spells (signature P) text traces))
IsTraceRefusal P text None = (traces : Traces) × Spells (signature P) text traces

-- the number of the first refusal of a source, its traces, the node under test and the observer, or
-- none where the program is accepted and the traces are traces of it
pub data IsFirstRefusal
    (source traces : Text) (node : Name) (observer : Option Name) (first : Option ℕ)
    : Type 0 where
  of_text : (r : Refusal) → IsTextRefusal source r → first ≡ Some (refusal_number r)
      → IsFirstRefusal source traces node observer first
  of_program : (tree : Source) (r : Refusal) → IsOnlyProgram tree source
      → IsFirst record { source = tree; root = node; observer = observer } (Some r)
      → first ≡ Some (refusal_number r)
      → IsFirstRefusal source traces node observer first
  of_traces : (tree : Source) → IsOnlyProgram tree source
      → IsAccepted record { source = tree; root = node; observer = observer }
      → IsTraceRefusal record { source = tree; root = node; observer = observer } traces first
      → IsFirstRefusal source traces node observer first

-- `first` is the first refusal, and nothing else is
pub record IsOnlyFirstRefusal
    (source traces : Text) (node : Name) (observer : Option Name) (first : Option ℕ)
    : Type 0 where
  pub is_first : IsFirstRefusal source traces node observer first
  pub no_other_is : (other : Option ℕ) → IsFirstRefusal source traces node observer other
      → other ≡ first

-- ## As a computation

-- the tree of tokens that keep their limits, or E2
abbrev pub tree_by : Option Source → Result Source Refusal
tree_by (Some tree) = Ok tree
tree_by None = Err E2

-- the tree of some tokens, if they keep their limits, or E3
abbrev pub limited_by : Bool → List Token → Result Source Refusal
limited_by true ts = tree_by (source_at ts)
limited_by false ts = Err E3

-- the tree of the tokens of a text, if it has tokens, or E1
abbrev pub tokens_by : Option (List Token) → Result Source Refusal
tokens_by (Some ts) = limited_by (keeps_limits ts) ts
tokens_by None = Err E1

-- the tree of a text, or its first refusal; `true` for a text that is too long
abbrev pub text_by : Bool → Text → Result Source Refusal
text_by true text = Err E3
text_by false text = tokens_by (tokens text)

-- the tree that a text spells, or the first refusal of the text
unfoldable pub text_outcome : Text → Result Source Refusal
text_outcome text = text_by (nat_lt 1000000 (length text)) text

-- the first refusal of a program, or none where it is accepted
unfoldable pub program_refusal : Program → Option Refusal
program_refusal P = or_else (refusal P) (unless (is_causal P) E13)

-- the number of the first refusal of the traces of an accepted program
abbrev pub trace_number : Result Traces ℕ → Option ℕ
trace_number (Ok traces) = None
trace_number (Err number) = Some number

-- the number of the first refusal of a program, or else of its traces
abbrev pub program_number : Option Refusal → Program → Text → Option ℕ
program_number (Some r) P traces = Some (refusal_number r)
program_number None P traces = trace_number (outcome (signature P) traces)

-- the number of the first refusal of a source, or else of its program and its traces
abbrev pub source_number :
    Result Source Refusal → (traces : Text) → (node : Name) → (observer : Option Name) → Option ℕ
source_number (Err r) traces node observer = Some (refusal_number r)
source_number (Ok tree) traces node observer =
    let P : Program = record { source = tree; root = node; observer = observer } in
    program_number (program_refusal P) P traces

-- the number of the first refusal of a source, its traces, the node under test and the observer, or
-- none
unfoldable pub first_refusal :
    (source traces : Text) → (node : Name) → (observer : Option Name) → Option ℕ
first_refusal source traces node observer =
    source_number (text_outcome source) traces node observer
