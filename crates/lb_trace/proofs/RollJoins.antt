-- The traces of one roll behind those of another.
use Rattle.std.proofs.Common.{ℕ, ◌≡◌, ◌+◌, ◌<◌, [], ◌++◌, length, get_or, take, sym}
use Rattle.std.proofs.Common.{ap, ◌∙◌}
use Rattle.std.proofs.Common.{subst, arith}
use Rattle.std.proofs.lemmas.List.{append-nil, get_or-map, take_all}
use Rattle.lb_static.specs.Signature.{Elements}
use Rattle.lb_traces.specs.Traces.{Recording, Trace, Traces, trace_at}
use Rattle.lb_trace.specs.declared.error.TraceError.{TraceError}
use Rattle.lb_trace.specs.declared.roll.Roll.{Roll}
use Rattle.lb_trace.specs.Rolls.{IsRollOf, RefusesRoll, RefusesTrace, TakesTrace}
use Rattle.lb_trace.proofs.Rolls.{same_count}
use Rattle.lb_trace.proofs.RollSteps.{refuses_rows, taken_more}

-- `next` is the roll `before` with the first `k` traces of `other` behind its traces
abbrev pub HasTakenRoll : Roll → Roll → ℕ → Roll → Type 0
HasTakenRoll before other k next =
    (elements : Elements) (traces others : Traces) → IsRollOf elements before traces
    → IsRollOf elements other others → IsRollOf elements next (traces ++ take k others)

pub taken_none : (before other : Roll) → HasTakenRoll before other 0 before
taken_none before other elements traces others of more =
    subst (λ ts. IsRollOf elements before ts) (sym (append-nil traces)) of

pub taken_all : (before other next : Roll) (k : ℕ) → k ≡ length other.names.traces
    → HasTakenRoll before other k next → (elements : Elements) (traces others : Traces)
    → IsRollOf elements before traces → IsRollOf elements other others
    → IsRollOf elements next (traces ++ others)
taken_all before other next k all taken elements traces others of more =
    let count : length other.names.traces ≡ length others =
    same_count other.names.traces others more.names in
    subst (λ ts. IsRollOf elements next (traces ++ ts))
    (take_all k others (omega (arith, all, count)))
    (taken elements traces others of more)

-- the name at place `k` of a roll is that of trace `k`
name_at : (elements : Elements) (other : Roll) (others : Traces) (k : ℕ)
    → IsRollOf elements other others → k < length other.names.traces
    → (trace_at other.names.traces k).0 ≡ (trace_at others k).0
name_at elements other others k more below =
    let count : length other.names.traces ≡ length others =
    same_count other.names.traces others more.names in
    sym (get_or-map (λ (t : Trace). t.0) other.names.traces k ([], []) [] below)
    ∙ ap (λ ns. get_or ns k []) more.names
    ∙ get_or-map (λ (t : Trace). t.0) others k ([], []) [] (omega (arith, below, count))

-- the length at place `k` of a roll is that of trace `k`
length_at : (elements : Elements) (other : Roll) (others : Traces) (k : ℕ)
    → IsRollOf elements other others → k < length other.names.traces
    → get_or other.lengths.items k 0 ≡ length (trace_at others k).1
length_at elements other others k more below =
    let count : length other.names.traces ≡ length others =
    same_count other.names.traces others more.names in
    ap (λ ls. get_or ls k 0) more.lengths
    ∙ get_or-map (λ (t : Trace). length t.1) others k ([], []) 0 (omega (arith, below, count))

-- a roll that has taken `k` traces of another has taken `k + 1` with the next one
pub taken_one_more : (before other roll next : Roll) (k : ℕ) → k < length other.names.traces
    → HasTakenRoll before other k roll
    → TakesTrace roll (trace_at other.names.traces k).0 (get_or other.lengths.items k 0) next
    → HasTakenRoll before other (k + 1) next
taken_one_more before other roll next k below taken takes elements traces others of more =
    let set : Recording = record { signature = elements; traces = others } in
    let count : length other.names.traces ≡ length others =
    same_count other.names.traces others more.names in
    taken_more before roll next set k more.lawful (omega (arith, below, count))
    (λ ts is. taken elements ts others is more)
    (subst (λ name. TakesTrace roll name (length (trace_at others k).1) next)
    (name_at _ _ _ _ more below)
    (subst (λ n. TakesTrace roll (trace_at other.names.traces k).0 n next)
    (length_at _ _ _ _ more below) takes)) traces of

-- the refusal of trace `k` is the refusal of the whole roll `other`
pub refuses_roll : (before other roll : Roll) (k : ℕ) (e : TraceError)
    → k < length other.names.traces → HasTakenRoll before other k roll
    → RefusesTrace roll (trace_at other.names.traces k).0 (get_or other.lengths.items k 0) e
    → RefusesRoll before other e
refuses_roll before other roll k e below taken refused =
    λ elements columns traces others records of more spelled.
    let set : Recording = record { signature = elements; traces = others } in
    let count : length other.names.traces ≡ length others =
    same_count other.names.traces others more.names in
    refuses_rows before roll set k e more.lawful (omega (arith, below, count))
    (λ ts is. taken elements ts others is more)
    (subst (λ name. RefusesTrace roll name (length (trace_at others k).1) e)
    (name_at _ _ _ _ more below)
    (subst (λ n. RefusesTrace roll (trace_at other.names.traces k).0 n e)
    (length_at _ _ _ _ more below) refused)) columns traces records of spelled
