-- One section after the other, until one is not judged by itself.
use Rattle.std.proofs.Common.{ℕ, ◌≡◌, ◌∙◌, ◌++◌, ◌∷◌, [], List, Result, ap, arith}
use Rattle.std.proofs.Common.{append_assoc, append-nil, length, length-append, refl, subst, sym}
use Rattle.std.proofs.Common.{rules}
use Rattle.std.specs.List.{All, AllZip}
use Rattle.std.specs.Vec.Iter.{into_iter_items}
use Rattle.lb_static.specs.Signature.{Elements}
use Rattle.lb_flat.specs.declared.program.FlatProgram.{FlatProgram}
use Rattle.lb_trace.specs.Plain.{plain_records}
use Rattle.lb_trace.specs.Spelling.{Record}
use Rattle.lb_trace.specs.Tables.{IsColumnTable}
use Rattle.lb_trace.specs.declared.error.TraceError.{TraceError}
use Rattle.lb_feed.proofs.Passing.{passes_on}
use Rattle.lb_report.specs.JudgedParts.{HasRoll, IsJudgedPart}
use Rattle.lb_report.specs.Sections.{IsRefusedWithin, IsSection, IsSectionHalted, KeepsRoll}
use Rattle.lb_report.specs.declared.rounds.Halt.{Halt}
use Rattle.lb_report.specs.declared.rounds.Judged.{Judged}
use Rattle.lb_report.proofs.PartReads.{stopped_refused}
use Rattle.lb_report.proofs.SectionJoins.{all_here, sections_all, sections_more, sections_none}
use Rattle.lb_report.proofs.SectionJoins.{sections_refused, sections_stopped, zip_long}
use Rattle.lb_report.proofs.SectionReads.{refused_both, stopped_both, stopped_early}
use Rattle.lb_report.proofs.sections.append_all.Goals as goal

nothing_left : {X : Type 0} (l : List X) → length l ≡ 0 → l ≡ []
nothing_left [] h = refl
nothing_left (x ∷ xs) h = absurd (omega arith)

-- all elements are those `done`, then `x`, then `rest`
came : {X : Type 0} (all done left rest : List X) (x : X) → done ++ left ≡ all → left ≡ x ∷ rest
    → all ≡ done ++ x ∷ rest
came all done left rest x is steps = sym is ∙ ap (λ l. done ++ l) steps

pub sections-init : goal.sections-init
sections-init c = record {
  roll = c.requires.before;
  count = refl;
  left = c.into_iter-one-iterator.ensures.into_iter_gives.0;
  long = search rules;
  known = λ p elements rows columns part texts zip.
      sections_none p elements c.args.table.now rows texts c.args.before part zip;
}

pub sections-preserved : goal.sections-preserved
sections-preserved c =
    let at = c.sections in
    let x = c.in-Some.one in
    let rest = into_iter_items c.next.new.self in
    let steps : into_iter_items at.one-iterator ≡ x ∷ rest = c.in-Some.ensures.steps.0 in
    let short = ap length steps in
    record {
      roll = c.in_ok-all-in-Ok.ensures.roll;
      count = omega (arith, length-append at.yielded (x ∷ []), at.invariant.count);
      left = append_assoc at.yielded (x ∷ []) rest ∙ sym (came _ _ _ _ _ at.invariant.left steps);
      long = omega (arith, short, at.invariant.long, c.in-Some.ensures.steps.1);
      known = λ p elements rows columns part texts zip.
          sections_more p elements c.args.table.now rows texts at.yielded at.all c.in-Ok.some _
          (λ ts z. at.invariant.known p elements rows columns part ts z)
          (λ one two. c.in_ok-all-in-Ok.ensures.ok p elements one two)
          (subst (λ (y : Result Judged Halt).
          AllZip (IsSection p elements c.args.table.now) texts (at.yielded ++ y ∷ [])) c.in-Ok.is
          zip);
    }

pub append-requires-clause-more : goal.append-requires-clause-more
append-requires-clause-more c =
    let at = c.sections in
    let x = c.in-Some.one in
    let whole = came _ _ _ _ x at.invariant.left c.in-Some.ensures.steps.0 in
    subst KeepsRoll c.in-Ok.is
    (all_here KeepsRoll at.yielded x (into_iter_items c.next.new.self)
    (subst (All KeepsRoll) whole c.requires.rolls))

pub returns-in_err-all-in-Ok-clause-err : goal.returns-in_err-all-in-Ok-clause-err
returns-in_err-all-in-Ok-clause-err c =
    let at = c.sections in
    let x = c.in-Some.one in
    let rest = into_iter_items c.next.new.self in
    let table = c.args.table.now in
    let e = c.in_err-all-in-Ok.field-0.0 in
    let whole = came _ _ _ _ x at.invariant.left c.in-Some.ensures.steps.0 in
    let Is : TraceError → Type 0 = λ cause. (p : FlatProgram) → (elements : Elements)
    → (rows : List Record) → (texts : List (List ℕ)) → IsColumnTable elements table
    → IsJudgedPart p elements table rows c.args.before
    → AllZip (IsSection p elements table) texts c.args.judged.items
    → IsRefusedWithin elements table rows texts cause in
    passes_on c.from_residual.result e Is c.from_residual.ensures.1
    (λ p elements rows texts columns part zip.
    sections_refused p elements table rows texts at.yielded rest x at.all e
    (λ ts z. at.invariant.known p elements rows columns part ts z)
    (λ rs text one two.
    let here = subst (IsSection p elements table text) c.in-Ok.is two in (
      here.plain,
      refused_both p elements table rs (plain_records text) at.all one c.in-Ok.some e here.part
          c.in_err-all-in-Ok.ensures.err,
    ))
    (subst (AllZip (IsSection p elements table) texts) whole zip))

pub append_roll-requires-clause-other : goal.append_roll-requires-clause-other
append_roll-requires-clause-other c =
    let at = c.sections in
    let x = c.in-Some.one in
    let whole = came _ _ _ _ x at.invariant.left c.in-Some.ensures.steps.0 in
    subst HasRoll c.in-Err-Stopped.field-0-is (subst KeepsRoll c.in-Err-Stopped.is
    (all_here KeepsRoll at.yielded x (into_iter_items c.next.new.self)
    (subst (All KeepsRoll) whole c.requires.rolls)))

pub returns-in_err-roll-in-Err-Stopped-clause-err
    : goal.returns-in_err-roll-in-Err-Stopped-clause-err
returns-in_err-roll-in-Err-Stopped-clause-err c =
    let at = c.sections in
    let x = c.in-Some.one in
    let rest = into_iter_items c.next.new.self in
    let table = c.args.table.now in
    let e = c.in_err-roll-in-Err-Stopped.field-0.0 in
    let whole = came _ _ _ _ x at.invariant.left c.in-Some.ensures.steps.0 in
    let Is : TraceError → Type 0 = λ cause. (p : FlatProgram) → (elements : Elements)
    → (rows : List Record) → (texts : List (List ℕ)) → IsColumnTable elements table
    → IsJudgedPart p elements table rows c.args.before
    → AllZip (IsSection p elements table) texts c.args.judged.items
    → IsRefusedWithin elements table rows texts cause in
    let exit = c.from_residual-in_err-roll-in-Err-Stopped in
    passes_on exit.result e Is exit.ensures.1
    (λ p elements rows texts columns part zip.
    sections_refused p elements table rows texts at.yielded rest x at.all e
    (λ ts z. at.invariant.known p elements rows columns part ts z)
    (λ rs text one two.
    let here = subst (IsSectionHalted elements table text) c.in-Err-Stopped.field-0-is
    (subst (IsSection p elements table text) c.in-Err-Stopped.is two) in (
      here.plain,
      stopped_early p elements table rs (plain_records text) at.all one
          c.in-Err-Stopped.judged.roll c.in-Err-Stopped.record.items e here.halt
          c.in_err-roll-in-Err-Stopped.ensures.err,
    ))
    (subst (AllZip (IsSection p elements table) texts) whole zip))

pub returns-in-Err-Stopped-clause-err : goal.returns-in-Err-Stopped-clause-err
returns-in-Err-Stopped-clause-err c = λ p elements rows texts columns part zip.
    let at = c.sections in
    let x = c.in-Some.one in
    let rest = into_iter_items c.next.new.self in
    let table = c.args.table.now in
    let e = c.refusal_of_line.result in
    let whole = came _ _ _ _ x at.invariant.left c.in-Some.ensures.steps.0 in
    sections_refused p elements table rows texts at.yielded rest x at.all e
    (λ ts z. at.invariant.known p elements rows columns part ts z)
    (λ rs text one two.
    let here = subst (IsSectionHalted elements table text) c.in-Err-Stopped.field-0-is
    (subst (IsSection p elements table text) c.in-Err-Stopped.is two) in (
      here.plain,
      stopped_refused elements table (rs ++ plain_records text) c.in_ok-roll-in-Err-Stopped.roll
          c.in-Err-Stopped.record.items e
          (stopped_both p elements table rs (plain_records text) at.all one
          c.in-Err-Stopped.judged.roll c.in_ok-roll-in-Err-Stopped.roll
          c.in-Err-Stopped.record.items here.halt
          (λ some more. c.in_ok-roll-in-Err-Stopped.ensures.ok elements some more))
          columns
          (rw c.as_slice.ensures.value at c.refusal_of_line.ensures),
    ))
    (subst (AllZip (IsSection p elements table) texts) whole zip)

pub returns-in-Err-clause-ok : goal.returns-in-Err-clause-ok
returns-in-Err-clause-ok c = λ p elements rows texts columns part zip.
    let at = c.sections in
    let x = c.in-Some.one in
    let rest = into_iter_items c.next.new.self in
    let table = c.args.table.now in
    let whole = came _ _ _ _ x at.invariant.left c.in-Some.ensures.steps.0 in
    sections_stopped p elements table rows texts at.yielded rest c.in-Err.halt _
    (λ ts z. at.invariant.known p elements rows columns part ts z) at.invariant.count refl
    (subst (λ (y : Result Judged Halt).
    AllZip (IsSection p elements table) texts (at.yielded ++ y ∷ rest)) c.in-Err.is
    (subst (AllZip (IsSection p elements table) texts) whole zip))

pub returns-clause-ok : goal.returns-clause-ok
returns-clause-ok c = λ p elements rows texts columns part zip.
    let at = c.sections in
    let table = c.args.table.now in
    let none : into_iter_items at.one-iterator ≡ [] =
    nothing_left _ (sym at.invariant.long ∙ c.in-None.ensures.steps.0) in
    let all : c.args.judged.items ≡ at.yielded =
    sym at.invariant.left ∙ ap (λ l. at.yielded ++ l) none ∙ append-nil at.yielded in
    let zipped = subst (AllZip (IsSection p elements table) texts) all zip in
    sections_all p elements table rows texts _
    (at.invariant.known p elements rows columns part texts zipped)
    (at.invariant.count ∙ sym (zip_long (IsSection p elements table) texts at.yielded zipped)) refl
