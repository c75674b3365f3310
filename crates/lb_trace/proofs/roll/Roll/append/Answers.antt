-- One trace of the set after the other.
use Rattle.std.proofs.Common.{◌++◌, ◌<◌, ℕ, List, [], length, sym, subst, arith}
use Rattle.std.proofs.lemmas.List.{append-nil, take_all}
use Rattle.std.proofs.lemmas.Result.{err_from_is_err_and}
use Rattle.lb_traces.specs.Traces.{IsTraceName, Traces, trace_at}
use Rattle.lb_trace.specs.Rolls.{IsRollOf, RefusesTrace, TakesTrace}
use Rattle.lb_trace.proofs.RollSteps.{refuses_rows, taken_more}
use Rattle.lb_trace.proofs.roll.Roll.append.Goals as goal

pub loop-k-init : goal.loop-k-init
loop-k-init c = record {
  roll = c.requires.roll;
  taken = λ traces of.
      subst (λ ts. IsRollOf c.args.set.now.signature c.args.self ts) (sym (append-nil traces)) of;
}

pub append_trace-requires-clause-name : goal.append_trace-requires-clause-name
append_trace-requires-clause-name c =
    let below : c.loop-k.k < length c.args.set.now.traces =
    omega (arith, c.loop-k-test.true, c.len-k-end.ensures.count) in
    subst IsTraceName (sym c.name.ensures)
    (c.signature.ensures.lawful.each c.loop-k.k ([], []) below).name

pub loop-k-preserved : goal.loop-k-preserved
loop-k-preserved c =
    let t = trace_at c.args.set.now.traces c.loop-k.k in
    let takes : TakesTrace c.loop-k.roll t.0 (length t.1) c.append_trace.new.self =
    subst (λ (name : List ℕ). TakesTrace c.loop-k.roll name (length t.1) c.append_trace.new.self)
    c.name.ensures
    (subst (λ (n : ℕ). TakesTrace c.loop-k.roll c.name.result.now n c.append_trace.new.self)
    c.length.ensures.instants c.in_ok-append_trace.ensures.ok) in
    record {
      roll = c.in_ok-append_trace.ensures.roll;
      taken = taken_more _ _ _ _ _
          c.signature.ensures.lawful
          (omega (arith, c.loop-k-test.true, c.len-k-end.ensures.count))
          c.loop-k.invariant.taken takes;
    }

pub returns-in_err-append_trace-clause-err : goal.returns-in_err-append_trace-clause-err
returns-in_err-append_trace-clause-err c =
    let t = trace_at c.args.set.now.traces c.loop-k.k in
    let e = c.in_err-append_trace.field-0.0 in
    let refused : RefusesTrace c.loop-k.roll t.0 (length t.1) e =
    subst (λ (name : List ℕ). RefusesTrace c.loop-k.roll name (length t.1) e)
    c.name.ensures
    (subst (λ (n : ℕ). RefusesTrace c.loop-k.roll c.name.result.now n e)
    c.length.ensures.instants c.in_err-append_trace.ensures.err) in
    let p = err_from_is_err_and c.from_residual.result c.from_residual.ensures.1 in
    rw (p.1, p.2) (refuses_rows _ _ _ _ _
    c.signature.ensures.lawful (omega (arith, c.loop-k-test.true, c.len-k-end.ensures.count))
    c.loop-k.invariant.taken refused)

pub returns-clause-ok : goal.returns-clause-ok
returns-clause-ok c = λ traces of.
    subst (λ (ts : Traces). IsRollOf c.args.set.now.signature c.loop-k.roll (traces ++ ts))
    (take_all c.loop-k.k c.args.set.now.traces
    (omega (arith, c.loop-k-test.false, c.len-k-end.ensures.count)))
    (c.loop-k.invariant.taken traces of)
