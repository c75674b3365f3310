-- A report is given where nothing refuses first, and an error has the number of the first refusal.
use Rattle.std.proofs.Common.{◌≡◌, ℕ, ◌<◌, inl, inr, Option, Some, None, Result, Ok, Err, refl, ap}
use Rattle.std.proofs.Common.{List, zero, suc, ◌⊎◌, sym, ◌∙◌, arith}
use Rattle.std.specs.Prelude.{IfOk, IfErr, string_bytes}
use Rattle.std.specs.Option.{option_map}
use Rattle.lb_syntax.specs.Lists.{or_else}
use Rattle.lb_syntax.specs.Tokens.{Text}
use Rattle.lb_syntax.specs.Correct.{Parses}
use Rattle.lb_syntax.specs.Refusals.{Refusal, E1, E2, E3, E4, E5, E6, E7, E8, E9, E10, E11, E12}
use Rattle.lb_syntax.specs.Refusals.{E13, refusal_number, unless}
use Rattle.lb_syntax.specs.declared.error.SyntaxError.{SyntaxError}
use Rattle.lb_syntax.specs.declared.error.SyntaxError.TheVariants as syntax
use Rattle.lb_static.specs.Correct.{IsStaticFault}
use Rattle.lb_static.specs.Instances.{Program}
use Rattle.lb_static.specs.Instantiation.{static_refusal}
use Rattle.lb_static.specs.declared.error.StaticError.{StaticError}
use Rattle.lb_static.specs.declared.error.StaticError.TheVariants as static
use Rattle.lb_check.specs.Acceptance.{check_refusal, refusal, IsFirst}
use Rattle.lb_cause.specs.Correct.{IsAnswer}
use Rattle.lb_check.specs.TypeRules.{is_small}
use Rattle.lb_cause.specs.declared.error.CheckError.{CheckError}
use Rattle.lb_cause.specs.declared.error.CheckError.TheVariants as check
use Rattle.lb_expand.specs.declared.error.FlatError.TheVariants as flat
use Rattle.lb_flat.specs.declared.error.OrderError.{OrderError}
use Rattle.lb_flat.specs.declared.error.OrderError.TheVariants as order
use Rattle.lb_report.specs.Bench.{IsBenchReport, IsCycle, IsRefused, program_of}
use Rattle.lb_report.specs.Correct.{IsBenchAnswer, IsFirstTold, first_of}
use Rattle.lb_report.specs.LiveReports.{IsBenchText}
use Rattle.lb_report.specs.FirstRefusals.{IsFirstRefusal, IsTextRefusal, too_long, no_tokens}
use Rattle.lb_report.specs.FirstRefusals.{over_limit, no_tree, of_text, of_program, of_traces}
use Rattle.lb_refusal.specs.Refusals.{syntax_number, static_number, check_number, order_number}
use Rattle.lb_refusal.specs.Refusals.{number_of}
use Rattle.lb_refusal.specs.declared.error.BenchError.{BenchError}
use Rattle.lb_refusal.specs.declared.error.BenchError.TheVariants as part
use Rattle.lb_refusal.specs.declared.options.Options.{Options}
use Rattle.lb_output.specs.declared.text.Report.{Report}
use Rattle.lb_report.proofs.FirstRefusals.{is_computed}

-- a refusal for which `Refuses` holds, and whose number is `number`
record IsNumbered (Refuses : Refusal → Type 0) (number : ℕ) : Type 0 where
  refusal : Refusal
  refuses : Refuses refusal
  same : number ≡ refusal_number refusal

-- ## The refusals of each part

by_text :
    (source : Text) (e : SyntaxError) → 0 < syntax_number e → Parses source (Err e) →
    IsNumbered (IsTextRefusal source) (syntax_number e)
by_text source syntax.Memory some h = absurd (omega (arith, some))
by_text source (syntax.Character line column) some h =
    record { refusal = E1; refuses = no_tokens h.short h.has_none; same = refl }
by_text source (syntax.Syntax line column) some h =
    record { refusal = E2; refuses = no_tree h.fault; same = refl }
by_text source (syntax.Size line column) some (inl h) =
    record { refusal = E3; refuses = too_long h.too_long; same = refl }
by_text source (syntax.Size line column) some (inr (ts, index, h)) = record {
  refusal = E3;
  refuses = over_limit h.short (ts, h.tokens_are, h.limit_broken);
  same = refl;
}

-- a refusal of names, static values and instances is the refusal of the program
static_first : (P : Program) (r : Refusal) → static_refusal P ≡ Some r → refusal P ≡ Some r
static_first P r e = ap (λ o. or_else o (or_else (check_refusal P) (unless (is_small P) E12))) e

by_static :
    (P : Program) (e : StaticError) → 0 < static_number e → IsStaticFault P e →
    IsNumbered (λ r. IsFirst P (Some r)) (static_number e)
by_static P static.Memory some h = absurd (omega (arith, some))
by_static P (static.Name x) some h =
    record { refusal = E4; refuses = static_first P E4 h.0; same = refl }
by_static P (static.Recursion x) some h =
    record { refusal = E7; refuses = static_first P E7 h.0; same = refl }
by_static P (static.Root x) some h =
    record { refusal = E8; refuses = static_first P E8 h; same = refl }
by_static P (static.Value x) some h =
    record { refusal = E5; refuses = static_first P E5 h; same = refl }
by_static P (static.Range x) some h =
    record { refusal = E6; refuses = static_first P E6 h; same = refl }
by_static P (static.Instances x) some h =
    record { refusal = E12; refuses = static_first P E12 h; same = refl }

-- a refusal of types, clocks and definitions is the refusal of the program, where none is before it
check_first :
    (P : Program) (r : Refusal) → static_refusal P ≡ None → check_refusal P ≡ Some r →
    refusal P ≡ Some r
check_first P r none e =
    ap (λ o. or_else o (or_else (check_refusal P) (unless (is_small P) E12))) none
    ∙ ap (λ o. or_else o (unless (is_small P) E12)) e

by_check :
    (P : Program) (e : CheckError) → 0 < check_number e → static_refusal P ≡ None →
    IsAnswer P (Err e) → IsNumbered (λ r. IsFirst P (Some r)) (check_number e)
by_check P check.Memory some none h = absurd (omega (arith, some))
by_check P (check.Type node) some none h =
    record { refusal = E9; refuses = check_first P E9 none h.0; same = refl }
by_check P (check.Clock node) some none h =
    record { refusal = E10; refuses = check_first P E10 none h.0; same = refl }
by_check P (check.Definition node) some none h =
    record { refusal = E11; refuses = check_first P E11 none h.0; same = refl }

by_order :
    (P : Program) (e : OrderError) → 0 < order_number e → IsCycle P e →
    IsNumbered (λ r. IsFirst P (Some r)) (order_number e)
by_order P order.Memory some h = absurd (omega (arith, some))
by_order P (order.Cycle cycle) some h = record { refusal = E13; refuses = h.0; same = refl }

-- ## The answer of the bench

none_or_some : (n : ℕ) → (n ≡ 0) ⊎ (0 < n)
none_or_some zero = inl refl
none_or_some (suc n) = inr (omega arith)

module _ (source traces : Text) (options : Options) where
  -- the first refusal as a relation
  abbrev IsFirstOf : Option ℕ → Type 0
  IsFirstOf first =
      IsFirstRefusal source traces (string_bytes options.node)
      (option_map string_bytes options.observer) first

  numbered :
      (e : BenchError) → IsRefused source traces options e → 0 < number_of e →
      IsFirstOf (Some (number_of e))
  numbered part.Memory h = λ some. absurd (omega (arith, some))
  numbered (part.Syntax e) h = λ some.
      let by = by_text source e some h in
      of_text by.refusal by.refuses (ap Some by.same)
  numbered (part.Static e) h = λ some.
      let by = by_static (program_of h.tree options) e some h.holds in
      of_program h.tree by.refusal h.spelled by.refuses (ap Some by.same)
  numbered (part.Check e) h = λ some.
      let by = by_check (program_of h.tree options) e some h.holds.0 h.holds.1 in
      of_program h.tree by.refusal h.spelled by.refuses (ap Some by.same)
  numbered (part.Flat flat.Memory) h = λ some. absurd (omega (arith, some))
  numbered (part.Flat (flat.Large fault)) h = λ some.
      of_program h.tree E12 h.spelled h.holds.0 refl
  numbered (part.Order e) h = λ some.
      let by = by_order (program_of h.tree options) e some h.holds in
      of_program h.tree by.refusal h.spelled by.refuses (ap Some by.same)
  numbered (part.Trace e) h = λ some.
      elim h.holds.1 [
        | inl none ↦ absurd (omega (arith, some, none))
        | inr refused ↦ of_traces h.tree h.spelled h.holds.0 refused
      ]

  reported : (report : Report) → IsBenchReport source traces options report
      → IsFirstOf None
  reported report h =
      let recorded = h.holds.recorded in
      of_traces h.tree h.spelled h.holds.accepted
      (h.holds.recording.traces, recorded.text_spells_it)

  text_reported : (report : List ℕ) → IsBenchText source traces options report
      → IsFirstOf None
  text_reported report h =
      let recorded = h.holds.recorded in
      of_traces h.tree h.spelled h.holds.accepted
      (h.holds.recording.traces, recorded.text_spells_it)

  is_first : (first : Option ℕ) → IsFirstOf first → first ≡ first_of source traces options
  is_first first h = is_computed source traces _ _ first h

  pub none_refuses : (report : List ℕ) → IsBenchText source traces options report
      → first_of source traces options ≡ None
  none_refuses report h = sym (is_first None (text_reported report h))

  pub first_told :
      (e : BenchError) → IsRefused source traces options e →
      IsFirstTold source traces options (Some (number_of e))
  first_told e h =
      elim (none_or_some (number_of e)) [
        | inl none ↦ inl (ap Some none)
        | inr some ↦ inr (is_first (Some (number_of e)) (numbered e h some))
      ]

  pub answered :
      (answer : Result Report BenchError) → IfOk answer (IsBenchReport source traces options) →
      IfErr answer (IsRefused source traces options) →
      IsBenchAnswer source traces options answer
  answered (Ok report) h k =
      record { report = h; refused = tt; first = inr (is_first None (reported report h)) }
  answered (Err e) h k = record { report = tt; refused = k; first = first_told e k }
