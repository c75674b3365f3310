-- There is one first refusal, or none, and it is the computed one.
use Rattle.std.proofs.Common.{◌≡◌, ℕ, ◌⊎◌, inl, inr, Option, Some, None, refl, ap, sym, subst, ◌∙◌}
use Rattle.std.proofs.Common.{arith, IsTrue, ◌≤◌, Bool, true, false, Result, Ok, Err, List, length}
use Rattle.std.proofs.Common.{◌∷◌}
use Rattle.std.specs.Prelude.{nat_lt, suc, []}
use Rattle.std.specs.List.{list_all}
use Rattle.std.proofs.lemmas.Bool.{ltb-true, ltb-false}
use Rattle.lb_syntax.specs.declared.token.Token.{Token}
use Rattle.lb_syntax.specs.Lists.{or_else}
use Rattle.lb_syntax.specs.Programs.{source_at}
use Rattle.lb_syntax.specs.Tree.{Name, Source}
use Rattle.lb_syntax.specs.Tokens.{Text, tokens}
use Rattle.lb_syntax.specs.Correct.{IsOnlyProgram, KeepsLimits}
use Rattle.lb_syntax.specs.Limits.{keeps_limits}
use Rattle.lb_syntax.specs.Refusals.{Refusal, E1, E2, E3, E4, E5, E6, E7, E8, E9, E10, E11, E12}
use Rattle.lb_syntax.specs.Refusals.{E13, E14, E15, E16, E17, E18, refusal_number, unless}
use Rattle.lb_syntax.specs.Texts.{BreaksLimit, HasTokens}
use Rattle.lb_syntax.proofs.Parses.{only_program, syntax_fault}
use Rattle.lb_static.specs.Instances.{Program, Instance, instances}
use Rattle.lb_static.specs.Instantiation.{has_values, is_in_range, may_enter, instance_refusal}
use Rattle.lb_static.specs.Instantiation.{instantiation_refusal, has_no_parameters, static_refusal}
use Rattle.lb_static.specs.Names.{keeps_names, is_well_founded}
use Rattle.lb_static.specs.DataTypes.{signature}
use Rattle.lb_check.specs.Acceptance.{refusal, check_refusal, IsAccepted, IsFirst}
use Rattle.lb_check.specs.TypeRules.{is_typed, is_small}
use Rattle.lb_check.specs.ClockRules.{is_clocked}
use Rattle.lb_traces.specs.Traces.{Traces}
use Rattle.lb_trace.specs.Refusals.{outcome}
use Rattle.lb_trace.proofs.Outcomes.{sound_text, refused_text}
use Rattle.lb_report.specs.Causality.{is_causal, IsDecidedBy}
use Rattle.lb_report.specs.FirstRefusals.{IsFirstRefusal, IsOnlyFirstRefusal, IsTextRefusal}
use Rattle.lb_report.specs.FirstRefusals.{first_refusal, text_outcome, text_by, tokens_by}
use Rattle.lb_report.specs.FirstRefusals.{limited_by}
use Rattle.lb_report.specs.FirstRefusals.{tree_by, program_refusal, source_number, program_number}
use Rattle.lb_report.specs.FirstRefusals.{trace_number}
use Rattle.lb_report.specs.FirstRefusals.{IsTraceRefusal, too_long, no_tokens, over_limit, no_tree}
use Rattle.lb_report.specs.FirstRefusals.{of_text, of_program, of_traces}
use Rattle.lb_report.proofs.Causality.{decided}

-- ## The text of the source

-- a text whose tokens break a limit does not keep its limits
not_over : (text : Text) → KeepsLimits text → BreaksLimit text → ⊥
not_over text (ts, has) (us, are, over) =
    let same : ts ≡ us = cc in
    let kept : IsTrue (keeps_limits us) =
    subst (λ xs. IsTrue (keeps_limits xs)) same has.limits_kept in
    cc

-- a text that keeps its limits is refused for its grammar alone
limits_kept : (text : Text) (r : Refusal) → IsTextRefusal text r → KeepsLimits text → r ≡ E2
limits_kept text r (too_long long) (ts, has) = absurd (omega (arith, long, has.short))
limits_kept text r (no_tokens short none) (ts, has) = cc
limits_kept text r (over_limit short over) keeps = absurd (not_over text keeps over)
limits_kept text r (no_tree fault) keeps = refl

-- a text that spells a program is not refused
spelled : (text : Text) (r : Refusal) (tree : Source) → IsTextRefusal text r
    → IsOnlyProgram tree text → ⊥
spelled text r tree (no_tree fault) only = fault.none_is_spelled tree only.text_spells_it
spelled text r tree (too_long long) only =
    let e = limits_kept text E3 (too_long long) only.limits_hold in cc
spelled text r tree (no_tokens short none) only =
    let e = limits_kept text E1 (no_tokens short none) only.limits_hold in cc
spelled text r tree (over_limit short over) only =
    let e = limits_kept text E3 (over_limit short over) only.limits_hold in cc

-- a text is refused in one way
one_text : (text : Text) (r s : Refusal) → IsTextRefusal text r → IsTextRefusal text s → r ≡ s
one_text text r s (too_long long) (too_long other) = refl
one_text text r s (too_long long) (no_tokens short none) = absurd (omega (arith, long, short))
one_text text r s (too_long long) (over_limit short over) = absurd (omega (arith, long, short))
one_text text r s (too_long long) (no_tree fault) =
    limits_kept text E3 (too_long long) fault.limits_hold
one_text text r s (no_tokens short none) (too_long long) = absurd (omega (arith, long, short))
one_text text r s (no_tokens short none) (no_tokens other more) = refl
one_text text r s (no_tokens short none) (over_limit other over) =
    let e = over.1 in cc
one_text text r s (no_tokens short none) (no_tree fault) =
    limits_kept text E1 (no_tokens short none) fault.limits_hold
one_text text r s (over_limit short over) (too_long long) = absurd (omega (arith, long, short))
one_text text r s (over_limit short over) (no_tokens other none) =
    let e = over.1 in cc
one_text text r s (over_limit short over) (over_limit other more) = refl
one_text text r s (over_limit short over) (no_tree fault) =
    limits_kept text E3 (over_limit short over) fault.limits_hold
one_text text r s (no_tree fault) other = sym (limits_kept text s other fault.limits_hold)

-- ## The program

-- a first refusal is one of the rules before causality, or all of these are kept
of_rules : (P : Program) (r : Refusal) → IsFirst P (Some r)
    → (refusal P ≡ Some r) ⊎ ((r ≡ E13) × (refusal P ≡ None))
of_rules P E13 h = inr (refl, h.0)
of_rules P r h = inl h

-- a program has one first refusal
one_program : (P : Program) (r s : Refusal) → IsFirst P (Some r) → IsFirst P (Some s) → r ≡ s
one_program P r s first other =
    elim (of_rules P r first) [
      | inl e ↦ elim (of_rules P s other) [ inl f ↦ cc | inr f ↦ cc ]
      | inr e ↦ elim (of_rules P s other) [ inl f ↦ cc | inr f ↦ cc ]
    ]

-- an accepted program has no first refusal
accepted : (P : Program) (r : Refusal) → IsFirst P (Some r) → IsAccepted P → ⊥
accepted P E13 h is = is.causal h.1.0 h.1.1
accepted P r h is = let e = is.rules in cc

-- ## The traces

-- traces have one first refusal, or none
one_trace : (P : Program) (text : Text) (a b : Option ℕ) → IsTraceRefusal P text a
    → IsTraceRefusal P text b → a ≡ b
one_trace P text None None h k = refl
one_trace P text None (Some n) h k = absurd (k.1 h.0 h.1)
one_trace P text (Some n) None h k = absurd (h.1 k.0 k.1)
one_trace P text (Some n) (Some m) h k = let e = h.0 in let f = k.0 in cc

-- ## All of it

module _ (source traces : Text) (node : Name) (observer : Option Name) where
  abbrev program : Source → Program
  program tree = record { source = tree; root = node; observer = observer }

  -- two trees that the source spells are one: what holds of the program of one holds of the other's
  at_one :
      (Q : Program → Type 0) (s t : Source) → IsOnlyProgram s source → IsOnlyProgram t source →
      Q (program t) → Q (program s)
  at_one Q s t only other h =
      subst (λ u. Q (program u)) (sym (only.no_other_is_spelled t other.text_spells_it)) h

  at_most_one :
      (a b : Option ℕ) → IsFirstRefusal source traces node observer a →
      IsFirstRefusal source traces node observer b → a ≡ b
  at_most_one a b (of_text r h e) (of_text s k f) =
      e ∙ ap (λ t. Some (refusal_number t)) (one_text source r s h k) ∙ sym f
  at_most_one a b (of_text r h e) (of_program tree s only k f) =
      absurd (spelled source r tree h only)
  at_most_one a b (of_text r h e) (of_traces tree only is k) = absurd (spelled source r tree h only)
  at_most_one a b (of_program tree s only k f) (of_text r h e) =
      absurd (spelled source r tree h only)
  at_most_one a b (of_program tree r only h e) (of_program other s same k f) =
      let here = at_one (λ P. IsFirst P (Some s)) tree other only same k in
      e ∙ ap (λ t. Some (refusal_number t)) (one_program (program tree) r s h here) ∙ sym f
  at_most_one a b (of_program tree r only h e) (of_traces other same is k) =
      absurd (accepted (program tree) r h (at_one IsAccepted tree other only same is))
  at_most_one a b (of_traces tree only is k) (of_text r h e) = absurd (spelled source r tree h only)
  at_most_one a b (of_traces other same is k) (of_program tree r only h e) =
      absurd (accepted (program tree) r h (at_one IsAccepted tree other only same is))
  at_most_one a b (of_traces tree only is h) (of_traces other same more k) =
      one_trace (program tree) traces a b h
      (at_one (λ P. IsTraceRefusal P traces b) tree other only same k)

  -- a first refusal is the only one
  only_first :
      (first : Option ℕ) → IsFirstRefusal source traces node observer first →
      IsOnlyFirstRefusal source traces node observer first
  only_first first h = record {
    is_first = h;
    no_other_is = λ other k. at_most_one other first k h;
  }

-- ## The computed first refusal

-- the statement on a text for its outcome: it spells the tree, or is refused
abbrev IsOutcome : Text → Result Source Refusal → Type 0
IsOutcome text (Ok tree) = IsOnlyProgram tree text
IsOutcome text (Err r) = IsTextRefusal text r

by_tree : (text : Text) (ts : List Token) (o : Option Source) → HasTokens text ts →
    source_at ts ≡ o → IsOutcome text (tree_by o)
by_tree text ts (Some tree) has e = only_program text ts tree has e
by_tree text ts None has e = no_tree (syntax_fault text ts has e)

by_limits : (text : Text) (ts : List Token) (b : Bool) → length text ≤ 1000000 →
    tokens text ≡ Some ts → keeps_limits ts ≡ b → IsOutcome text (limited_by b ts)
by_limits text ts true short are e =
    by_tree text ts (source_at ts)
    record { short = short; tokens_are = are; limits_kept = e } refl
by_limits text ts false short are e = over_limit short (ts, are, e)

by_tokens : (text : Text) (o : Option (List Token)) → length text ≤ 1000000 →
    tokens text ≡ o → IsOutcome text (tokens_by o)
by_tokens text (Some ts) short e = by_limits text ts (keeps_limits ts) short e refl
by_tokens text None short e = no_tokens short e

by_length : (text : Text) (b : Bool) → nat_lt 1000000 (length text) ≡ b →
    IsOutcome text (text_by b text)
by_length text true e = too_long (ltb-true 1000000 (length text) e)
by_length text false e =
    by_tokens text (tokens text) (ltb-false 1000000 (length text) e) refl

text_is : (text : Text) → IsOutcome text (text_outcome text)
unfolding text_outcome
text_is text = by_length text (nat_lt 1000000 (length text)) refl

-- a refusal by a rule that is judged before causality
abbrev IsEarly : Option Refusal → Type 0
IsEarly o = o ≡ Some E13 → ⊥

early_or : (o q : Option Refusal) → IsEarly o → IsEarly q → IsEarly (or_else o q)
early_or (Some r) q h k = h
early_or None q h k = k

early_unless : (b : Bool) (r : Refusal) → (r ≡ E13 → ⊥) → IsEarly (unless b r)
early_unless true r f = λ e. cc
early_unless false r f = λ e. f cc

early_instances :
    (P : Program) (n : ℕ) (is : List Instance) → IsEarly (instantiation_refusal P n is)
early_instances P n [] = λ e. cc
early_instances P n (here ∷ rest) =
    early_or (instance_refusal P n here) (instantiation_refusal P (suc n) rest)
    (early_or (unless (may_enter P n here) E12) _ (early_unless _ E12 (λ e. cc))
    (early_or (unless (has_values P here) E5) (unless (is_in_range P here) E6)
    (early_unless _ E5 (λ e. cc)) (early_unless _ E6 (λ e. cc))))
    (early_instances P (suc n) rest)

early_static : (P : Program) → IsEarly (static_refusal P)
early_static P =
    early_or (unless (keeps_names P) E4) _ (early_unless _ E4 (λ e. cc))
    (early_or (unless (is_well_founded P) E7) _ (early_unless _ E7 (λ e. cc))
    (early_or (unless (has_no_parameters P) E8) _ (early_unless _ E8 (λ e. cc))
    (early_or (instantiation_refusal P 0 (instances P)) _ (early_instances P 0 (instances P))
    (early_unless _ E8 (λ e. cc)))))

early_check : (P : Program) → IsEarly (check_refusal P)
early_check P =
    early_or (unless (list_all (is_typed P) (instances P)) E9) _ (early_unless _ E9 (λ e. cc))
    (early_or (unless (list_all (λ here. is_clocked P here.node) (instances P)) E10) _
    (early_unless _ E10 (λ e. cc)) (early_unless _ E11 (λ e. cc)))

early : (P : Program) → IsEarly (refusal P)
early P =
    early_or (static_refusal P) _ (early_static P)
    (early_or (check_refusal P) _ (early_check P) (early_unless (is_small P) E12 (λ e. cc)))

-- a rule that is broken before causality refuses first
rule_first : (P : Program) (r : Refusal) → refusal P ≡ Some r → IsFirst P (Some r)
rule_first P E1 e = e
rule_first P E2 e = e
rule_first P E3 e = e
rule_first P E4 e = e
rule_first P E5 e = e
rule_first P E6 e = e
rule_first P E7 e = e
rule_first P E8 e = e
rule_first P E9 e = e
rule_first P E10 e = e
rule_first P E11 e = e
rule_first P E12 e = e
rule_first P E13 e = absurd (early P e)
rule_first P E14 e = e
rule_first P E15 e = e
rule_first P E16 e = e
rule_first P E17 e = e
rule_first P E18 e = e

causal_first : (P : Program) (b : Bool) → refusal P ≡ None → IsDecidedBy b P →
    IsFirst P (unless b E13)
causal_first P true e h = record { rules = e; causal = h }
causal_first P false e h = (e, h)

by_rules : (P : Program) (o : Option Refusal) → refusal P ≡ o →
    IsFirst P (or_else o (unless (is_causal P) E13))
by_rules P (Some r) e = rule_first P r e
by_rules P None e = causal_first P (is_causal P) e (decided P)

program_is : (P : Program) → IsFirst P (program_refusal P)
unfolding program_refusal
program_is P = by_rules P (refusal P) refl

-- the number of an outcome is the first refusal of the traces of a program
traces_are : (P : Program) (text : Text) (o : Result Traces ℕ) → outcome (signature P) text ≡ o →
    IsTraceRefusal P text (trace_number o)
traces_are P text (Ok traces) e = (traces, sound_text (signature P) text traces e)
traces_are P text (Err number) e = (e, refused_text (signature P) text number e)

module _ (source traces : Text) (node : Name) (observer : Option Name) where
  by_program :
      (tree : Source) (o : Option Refusal) → IsOnlyProgram tree source →
      IsFirst (program source traces node observer tree) o →
      IsFirstRefusal source traces node observer
      (program_number o (program source traces node observer tree) traces)
  by_program tree (Some r) only first = of_program tree r only first refl
  by_program tree None only is =
      let P = program source traces node observer tree in
      of_traces tree only is (traces_are P traces (outcome (signature P) traces) refl)

  by_source :
      (o : Result Source Refusal) → IsOutcome source o →
      IsFirstRefusal source traces node observer (source_number o traces node observer)
  by_source (Err r) h = of_text r h refl
  by_source (Ok tree) only =
      let P = program source traces node observer tree in
      by_program tree (program_refusal P) only (program_is P)

  computed_is :
      IsFirstRefusal source traces node observer (first_refusal source traces node observer)
  unfolding first_refusal
  computed_is = by_source (text_outcome source) (text_is source)

  -- the computed refusal is the first one, and nothing else is
  pub only_computed :
      IsOnlyFirstRefusal source traces node observer (first_refusal source traces node observer)
  only_computed = only_first source traces node observer _ computed_is

  -- a first refusal is the computed refusal
  pub is_computed :
      (first : Option ℕ) → IsFirstRefusal source traces node observer first →
      first ≡ first_refusal source traces node observer
  is_computed first h = only_computed.no_other_is first h
