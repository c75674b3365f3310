-- A lawful name is text, and is taken where it is new.
use Rattle.std.proofs.Common.{◌≡◌, ◌&&◌, not, true, false, Bool, sym, ap, ◌∙◌, refl}
use Rattle.std.specs.List.{list_any}
use Rattle.std.specs.Str.{bytes_eq}
use Rattle.std.proofs.lemmas.Bool.{false_from_ne_true}
use Rattle.std.proofs.lemmas.Str.{IsUtf8-from_ascii}
use Rattle.lb_traces.specs.Traces.{Trace}
use Rattle.lb_traces.proofs.NameTexts.{IsAscii-name}
use Rattle.lb_trace.specs.Refusals.{is_trace_name}
use Rattle.lb_trace.proofs.Names.{IsTraceName-from}
use Rattle.lb_trace.proofs.seen_names.SeenNames.take.Goals as goal

there : (a b : Bool) → false ≡ not b → (a && not b) ≡ false
there true b h = sym h
there false b h = refl

free : (b : Bool) → true ≡ not b → b ≡ false
free true h = cc h
free false h = refl

pub returns-then-not-is_trace_name : goal.returns-then-not-is_trace_name
returns-then-not-is_trace_name c =
    let no : is_trace_name c.args.name.now ≡ false =
    false_from_ne_true (is_trace_name c.args.name.now)
    (λ yes. cc (
      c.is_trace_name.ensures.1 (IsTraceName-from c.args.name.now yes),
      c.if-not-is_trace_name.true,
    )) in
    record { found = rw no refl; memory = tt }

pub returns-in_default : goal.returns-in_default
returns-in_default c =
    absurd (c.in_default.ensures.cases.0
    (IsUtf8-from_ascii c.args.name.now
    (IsAscii-name c.args.name.now (c.is_trace_name.ensures.0 c.if-not-is_trace_name.false))))

pub returns-then-not-is_new-clause-found : goal.returns-then-not-is_new-clause-found
returns-then-not-is_new-clause-found c =
    there (is_trace_name c.args.name.now)
    (list_any (λ (t : Trace). bytes_eq c.args.name.now t.0) c.args.traces.now.traces)
    (sym c.if-not-is_new.true ∙ c.in-Ok-takes.ensures.new
    ∙ ap (λ n. not (list_any (λ (t : Trace). bytes_eq n t.0) c.args.traces.now.traces))
    c.in-Ok.ensures.cases.0)

pub returns-clause-found : goal.returns-clause-found
returns-clause-found c =
    let text_is : c.in-Ok.text.now ≡ c.args.name.now = c.in-Ok.ensures.cases.0 in (
      text_is,
      c.is_trace_name.ensures.0 c.if-not-is_trace_name.false,
      free (list_any (λ (t : Trace). bytes_eq c.args.name.now t.0) c.args.traces.now.traces)
          (sym c.if-not-is_new.false ∙ c.in-Ok-takes.ensures.new
          ∙ ap (λ n. not (list_any (λ (t : Trace). bytes_eq n t.0) c.args.traces.now.traces))
          text_is),
      λ row. rw text_is at (c.in-Ok-takes.ensures.known c.if-not-is_new.false row),
    )
