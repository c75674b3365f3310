-- The remarks beside a report.
use Rattle.std.proofs.Common.{◌≡◌, ◌∙◌, ℕ, List, [], ◌++◌, Bool, true, false, append-nil, refl, sym}
use Rattle.std.specs.Prelude.{if◌then◌else◌}
use Rattle.clap.specs.Words.{Text}
use Rattle.lb_refusal.specs.declared.options.Options.{Options}
use Rattle.lb_words.specs.Words.{asks_to_explain}
use Rattle.lb_command.specs.Warnings.{AreRemarks, AreWarnings}

-- warnings are remarks, with the reasons behind them or, where memory ran out, without
pub remarks_are :
    (words : List Text) (options : Options) (warnings reasons remarks : List ℕ) (put : Bool) →
    AreWarnings words options warnings → (asks_to_explain words ≡ false → reasons ≡ []) →
    remarks ≡ (if put then warnings ++ reasons else warnings) →
    AreRemarks words options remarks
remarks_are words options warnings reasons remarks true are unasked grown = record {
  warnings = warnings;
  reasons = reasons;
  are_warnings = are;
  unasked = unasked;
  both = grown;
}
remarks_are words options warnings reasons remarks false are unasked grown = record {
  warnings = warnings;
  reasons = [];
  are_warnings = are;
  unasked = λ no. refl;
  both = grown ∙ sym (append-nil warnings);
}
