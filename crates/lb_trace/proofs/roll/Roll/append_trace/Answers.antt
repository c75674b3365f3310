-- A trace is added behind those of a roll, or is refused there.
use Rattle.std.proofs.Common.{◌≡◌, ◌≤◌, ◌<◌, ◌+◌, ◌*◌, ◌++◌, ◌∷◌, [], true, false, not, ℕ, Bool}
use Rattle.std.proofs.Common.{List, Some, length, refl, sym, ap, ◌∙◌, subst, arith, nat_lt, rules}
use Rattle.std.proofs.lemmas.Bool.Decides.{nat_tests}
use Rattle.std.proofs.lemmas.Grind.{common_steps}
use Rattle.std.specs.List.{list_any}
use Rattle.std.specs.Str.{bytes_eq}
use Rattle.lb_traces.specs.Traces.{Recording, Trace, with_trace}
use Rattle.lb_trace.specs.declared.error.TraceError.TheVariants as fault
use Rattle.lb_trace.specs.Mirrors.{knows}
use Rattle.lb_trace.specs.Refusals.{is_last}
use Rattle.lb_trace.proofs.RollSteps.{grown_roll, grown_roll_of, grows_by, refuses_cells}
use Rattle.lb_trace.proofs.RollSteps.{refuses_count, refuses_there}
use Rattle.lb_trace.proofs.Soundness.{none_contains}
use Rattle.lb_trace.proofs.roll.Roll.append_trace.Goals as goal

there : (b : Bool) → false ≡ not b → b ≡ true
there true h = refl
there false h = cc h

free : (b : Bool) → true ≡ not b → b ≡ false
free true h = cc h
free false h = refl

pub returns-then-not-is_new-clause-err : goal.returns-then-not-is_new-clause-err
returns-then-not-is_new-clause-err c =
    refuses_there _ _ _ _
    (there (list_any (λ (t : Trace). bytes_eq c.args.name.now t.0) c.args.self.now.names.traces)
    (sym c.if-not-is_new.true ∙ c.in-Ok.ensures.new
    ∙ ap (λ (r : Recording). not (list_any (λ (t : Trace). bytes_eq c.args.name.now t.0) r.traces))
    c.set-names.ensures))
    (λ is. c.refusal_of_name.ensures.last
    (ap (λ (r : Recording). is_last c.args.name.now r.traces) c.set-names.ensures ∙ is))
    (λ is. c.refusal_of_name.ensures.other
    (ap (λ (r : Recording). is_last c.args.name.now r.traces) c.set-names.ensures ∙ is))

none : (name : List ℕ) (set names : Recording) (is_new : Bool) → set ≡ names
    → is_new ≡ not (list_any (λ (t : Trace). bytes_eq name t.0) set.traces) → is_new ≡ true
    → list_any (λ (t : Trace). bytes_eq name t.0) names.traces ≡ false
none name set names is_new same is new =
    free (list_any (λ (t : Trace). bytes_eq name t.0) names.traces)
    (sym new ∙ is
    ∙ ap (λ (r : Recording). not (list_any (λ (t : Trace). bytes_eq name t.0) r.traces)) same)

pub returns-then-len-ge-MOST_TRACES-clause-err : goal.returns-then-len-ge-MOST_TRACES-clause-err
returns-then-len-ge-MOST_TRACES-clause-err c =
    let many : 1000000 ≤ length c.args.self.now.names.traces =
    omega (
      arith,
      c.if-len-ge-MOST_TRACES.true,
      c.len.ensures.count,
      ap (λ (r : Recording). length r.traces) c.set-names.ensures,
    ) in
    let full : nat_lt (length c.args.self.now.names.traces) 1000000 ≡ false = grind (arith, nat_tests)
    in
    refuses_count c.args.self.now c.args.name.now c.args.length
    (fault.Limit (Some (c.args.self.now.instants + 1))) refl (none c.args.name.now
    c.set-names.result.now c.args.self.now.names c.in-Ok.is_new
    c.set-names.ensures c.in-Ok.ensures.new c.if-not-is_new.false) full

pub returns-then-all-self-gt-MOST_CELLS-clause-err :
    goal.returns-then-all-self-gt-MOST_CELLS-clause-err
returns-then-all-self-gt-MOST_CELLS-clause-err c =
    refuses_cells c.args.self.now c.args.name.now c.args.length
    (fault.Limit (Some c.first_past_cells.result)) refl (none c.args.name.now
    c.set-names.result.now c.args.self.now.names c.in-Ok.is_new
    c.set-names.ensures c.in-Ok.ensures.new c.if-not-is_new.false)
    (subst (λ (n : ℕ). 67108864 < (c.args.self.now.instants + n) * c.args.self.now.cells)
    c.from-count.ensures c.if-all-self-gt-MOST_CELLS.true)

pub start-requires-clause-fresh : goal.start-requires-clause-fresh
start-requires-clause-fresh c =
    none_contains c.args.name.now c.args.self.now.names.traces (none c.args.name.now
    c.set-names.result.now c.args.self.now.names c.in-Ok.is_new
    c.set-names.ensures c.in-Ok.ensures.new c.if-not-is_new.false)

pub returns-clause-roll : goal.returns-clause-roll
returns-clause-roll c =
    let put : c.push.new.self.items ≡ c.args.self.now.lengths.items ++ c.args.length ∷ [] =
    first_of (search rules, grind (arith, common_steps)) in
    grown_roll _ _ _ _ c.requires.roll (grows_by _ _ _ _ _ refl c.in-Ok-start.ensures.ok
    (subst (λ (r : Recording). knows c.takes.new.self (with_trace r.traces c.args.name.now []))
    c.set-names.ensures (c.in-Ok.ensures.known c.if-not-is_new.false []))
    put (ap (λ (n : ℕ). c.args.self.now.instants + n) c.from-count.ensures) refl
    (subst (λ (n : ℕ). (c.args.self.now.instants + n) * c.args.self.now.cells ≤ 67108864)
    c.from-count.ensures c.if-all-self-gt-MOST_CELLS.false))

pub returns-clause-ok : goal.returns-clause-ok
returns-clause-ok c = λ elements traces t of is.
    let put : c.push.new.self.items ≡ c.args.self.now.lengths.items ++ c.args.length ∷ [] =
    first_of (search rules, grind (arith, common_steps)) in
    grown_roll_of c.args.self.now _ elements traces t c.args.name.now c.args.length of is (none
    c.args.name.now c.set-names.result.now c.args.self.now.names c.in-Ok.is_new
    c.set-names.ensures c.in-Ok.ensures.new c.if-not-is_new.false)
    (omega (
      arith,
      c.if-len-ge-MOST_TRACES.false,
      c.len.ensures.count,
      ap (λ (r : Recording). length r.traces) c.set-names.ensures,
    ))
    (grows_by _ _ _ _ _ refl c.in-Ok-start.ensures.ok
    (subst (λ (r : Recording). knows c.takes.new.self (with_trace r.traces c.args.name.now []))
    c.set-names.ensures (c.in-Ok.ensures.known c.if-not-is_new.false []))
    put (ap (λ (n : ℕ). c.args.self.now.instants + n) c.from-count.ensures) refl
    (subst (λ (n : ℕ). (c.args.self.now.instants + n) * c.args.self.now.cells ≤ 67108864)
    c.from-count.ensures c.if-all-self-gt-MOST_CELLS.false))
