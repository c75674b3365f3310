-- The last of some traces.
use Rattle.std.proofs.Common.{ℕ, ◌≡◌, ◌-◌, ◌<◌, List, [], ◌∷◌, ◌++◌, length, refl, sym, ap, ◌∙◌}
use Rattle.std.proofs.Common.{arith}
use Rattle.std.proofs.lemmas.List.{get_or_push, length_push}
use Rattle.std.specs.Str.{bytes_eq}
use Rattle.lb_traces.specs.Traces.{Trace, Traces, last_rows, trace_at}
use Rattle.lb_traces.proofs.Recordings.{Front, front_of, last_rows-push}
use Rattle.lb_trace.specs.Refusals.{is_last}
use Rattle.lb_trace.proofs.Names.{is_last-push}

pub last_at : (front : Traces) (t : Trace)
    → trace_at (front ++ t ∷ []) (length (front ++ t ∷ []) - 1) ≡ t
last_at front t =
    let place : length (front ++ t ∷ []) - 1 ≡ length front = omega (arith, length_push front t) in
    ap (trace_at (front ++ t ∷ [])) place ∙ get_or_push front t ([], []) (length front) refl

pub last_rows_at : (traces : Traces) (n : ℕ) → 0 < length traces → n ≡ length traces - 1
    → last_rows traces ≡ (trace_at traces n).1
last_rows_at traces n some at =
    let f : Front traces = front_of traces some in
    ap last_rows f.is ∙ last_rows-push f.front f.last
    ∙ ap (λ (t : Trace). t.1) (sym (last_at f.front f.last))
    ∙ ap (λ ts. (trace_at ts (length ts - 1)).1) (sym f.is)
    ∙ ap (λ k. (trace_at traces k).1) (sym at)

pub is_last_at : (name : List ℕ) (traces : Traces) (n : ℕ) → 0 < length traces
    → n ≡ length traces - 1
    → is_last name traces ≡ bytes_eq name (trace_at traces n).0
is_last_at name traces n some at =
    let f : Front traces = front_of traces some in
    ap (is_last name) f.is ∙ is_last-push name f.front f.last
    ∙ ap (λ (t : Trace). bytes_eq name t.0) (sym (last_at f.front f.last))
    ∙ ap (λ ts. bytes_eq name (trace_at ts (length ts - 1)).0) (sym f.is)
    ∙ ap (λ k. bytes_eq name (trace_at traces k).0) (sym at)
