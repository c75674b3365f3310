-- The warnings and the remarks beside an answer for an accepted source.
-- Source: this project's rule.
use Rattle.std.specs.Prelude.{◌≡◌, ℕ, List, [], ◌∷◌, ◌++◌, None, false}
use Rattle.clap.specs.Words.{Text}
use Rattle.lb_refusal.specs.declared.options.Options.{Options}
use Rattle.lb_words.specs.Words.{asks_to_explain}
use Rattle.lb_command.specs.Streams.{Change, IsUntouched, TookOrFailed}

-- there is a warning only where the words ask for explanations, and only of an observer
pub record AreWarnings (words : List Text) (options : Options) (warnings : List ℕ)
    : Type 0 where
  pub unasked : asks_to_explain words ≡ false → warnings ≡ []
  pub unobserved : options.observer ≡ None → warnings ≡ []

-- warnings went to the errors, unless these failed; without a warning the errors are as they were
abbrev pub IsWarned : (errors : Change) → (warnings : List ℕ) → Type 0
IsWarned errors [] = IsUntouched errors
IsWarned errors (x ∷ xs) = TookOrFailed errors (x ∷ xs)

-- the remarks beside a report: the warnings, and then the reasons why traces do not pass, where the
-- words ask for explanations
pub record AreRemarks (words : List Text) (options : Options) (remarks : List ℕ) : Type 0 where
  pub warnings : List ℕ
  pub reasons : List ℕ
  pub are_warnings : AreWarnings words options warnings
  pub unasked : asks_to_explain words ≡ false → reasons ≡ []
  pub both : remarks ≡ warnings ++ reasons
