-- The output of a run for its report, by the terms of the run.
use Rattle.std.proofs.Common.{◌≡◌, ◌∙◌, ℕ, List, [], Option, Some, None, sym, subst}
use Rattle.std.proofs.Common.{true, false, ◌⊎◌, inl, inr}
use Rattle.std.specs.Prelude.{IsSome, is_some}
use Rattle.std.specs.Option.{MatchOption}
use Rattle.std.specs.Borrow.{Bor}
use Rattle.clap.specs.Words.{Text}
use Rattle.lb_listing.specs.Listings.{Line, Lists}
use Rattle.lb_words.specs.declared.terms.Terms.{Terms}
use Rattle.lb_command.specs.Conclusions.{HasStatus, IsBaselineRefused, IsCompared}
use Rattle.lb_command.specs.Conclusions.{IsComparedToFile, IsMeasured, IsNoBaseline, measure_of}
use Rattle.lb_command.specs.declared.refusal.Refusal.{Refusal}

at_some : {T : Type 0} (o : Option T) (P Q : Type 0) → IsSome o → Q → MatchOption o P (λ x. Q)
at_some None P Q some q = let no : false ≡ true = some in cc
at_some (Some x) P Q some q = q

pub measured : (terms : Terms) (traces : List Line) (status : ℕ) (notes : Text)
    → terms.baseline ≡ None → IsMeasured (measure_of terms) traces status notes
    → HasStatus terms traces status notes
measured terms traces status notes none is =
    let Told : Option (Bor (List ℕ)) → Type 0 = λ baseline.
    MatchOption baseline (IsMeasured (measure_of terms) traces status notes)
    (λ path. IsComparedToFile (measure_of terms) traces status notes) in
    subst Told (sym none) is

pub compared : (terms : Terms) (traces : List Line) (status : ℕ) (notes : Text)
    → IsSome terms.baseline → IsComparedToFile (measure_of terms) traces status notes
    → HasStatus terms traces status notes
compared terms traces status notes some is =
    at_some terms.baseline (IsMeasured (measure_of terms) traces status notes)
    (IsComparedToFile (measure_of terms) traces status notes) some is

-- the earlier report is refused where memory ran out, or where it is no report
pub no_earlier : (terms : Terms) (text : Text) (refusal : Refusal)
    → (refusal.number ≡ 0) ⊎ IsNoBaseline terms text refusal → IsBaselineRefused terms refusal
no_earlier terms text refusal (inl memory) = inl (inl memory)
no_earlier terms text refusal (inr none) = inr (text, none)
