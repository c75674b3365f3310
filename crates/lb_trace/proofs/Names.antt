-- Tests on the names of traces.
use Rattle.std.proofs.Common.{ℕ, suc, ◌≡◌, ◌≢◌, Bool, true, false, ◌&&◌, ◌||◌, List, [], ◌∷◌, ◌++◌}
use Rattle.std.proofs.Common.{length, get_or, nat_le, refl, sym, ◌∙◌, subst, arith}
use Rattle.std.proofs.lemmas.Bool.{false_from_ne_true, le-leb, leb-true}
use Rattle.std.proofs.lemmas.List.{get_or-map, length-map}
use Rattle.std.proofs.lemmas.List.Folds.{list_any_none}
use Rattle.std.proofs.lemmas.List.Sums.{list_all-from_AllPass, AllPass-from_list_all}
use Rattle.std.proofs.lemmas.Slice.Eq.{bytes_eq-Decides}
use Rattle.std.specs.Bool.{Decides}
use Rattle.std.specs.List.{All, list_all, list_any}
use Rattle.std.specs.Str.{bytes_eq}
use Rattle.lb_static.specs.Signature.{Elements}
use Rattle.lb_traces.specs.Traces.{IsTrace, IsTraceName, Trace, Traces, is_name_byte, trace_names}
use Rattle.lb_trace.specs.Refusals.{comes_back, is_last, is_trace_name}

pub bytes_eq-same : (name : List ℕ) → bytes_eq name name ≡ true
bytes_eq-same name = (bytes_eq-Decides name name).1 refl

pub bytes_eq-other : (a b : List ℕ) → a ≢ b → bytes_eq a b ≡ false
bytes_eq-other a b differ =
    false_from_ne_true (bytes_eq a b) (λ same. differ ((bytes_eq-Decides a b).0 same))

-- the test of a name decides that it is lawful
pub is_trace_name-true : (name : List ℕ) → IsTraceName name → is_trace_name name ≡ true
is_trace_name-true name lawful =
    let some : nat_le 1 (length name) ≡ true = le-leb 1 (length name) lawful.not_empty in
    let few : nat_le (length name) 64 ≡ true = le-leb (length name) 64 lawful.short in
    let bytes : list_all is_name_byte name ≡ true =
    list_all-from_AllPass is_name_byte name lawful.bytes in
    rw (some, few, bytes) refl

pub and_true : (a b : Bool) → (a && b) ≡ true → (a ≡ true) × (b ≡ true)
and_true true b h = (refl, h)
and_true false b h = cc h

pub or_false : (a b : Bool) → (a || b) ≡ false → (a ≡ false) × (b ≡ false)
or_false true b h = cc h
or_false false b h = (refl, h)

pub and-true : (a : Bool) → (a && true) ≡ a
and-true true = refl
and-true false = refl

pub and-false : (a : Bool) → (a && false) ≡ false
and-false true = refl
and-false false = refl

pub IsTraceName-from : (name : List ℕ) → is_trace_name name ≡ true → IsTraceName name
IsTraceName-from name test =
    let parts = and_true (nat_le 1 (length name) && nat_le (length name) 64)
    (list_all is_name_byte name) test in
    let sizes = and_true (nat_le 1 (length name)) (nat_le (length name) 64) parts.0 in
    record {
      not_empty = leb-true 1 (length name) sizes.0;
      short = leb-true (length name) 64 sizes.1;
      bytes = AllPass-from_list_all is_name_byte name parts.1;
    }

pub is_last-push : (name : List ℕ) (front : Traces) (t : Trace)
    → is_last name (front ++ t ∷ []) ≡ bytes_eq name t.0
is_last-push name [] t = refl
is_last-push name (u ∷ []) t = refl
is_last-push name (u ∷ v ∷ more) t = is_last-push name (v ∷ more) t

-- a name that no trace has is not that of the last one
pub is_last-none : (name : List ℕ) (traces : Traces)
    → list_any (λ t. bytes_eq name t.0) traces ≡ false → is_last name traces ≡ false
is_last-none name [] none = refl
is_last-none name (t ∷ []) none = (or_false (bytes_eq name t.0) false none).0
is_last-none name (t ∷ u ∷ more) none =
    is_last-none name (u ∷ more)
    (or_false (bytes_eq name t.0) (list_any (λ (v : Trace). bytes_eq name v.0) (u ∷ more)) none).1

-- the name of the last trace does not come back
pub comes_back-last : (name : List ℕ) (traces : Traces) → is_last name traces ≡ true
    → comes_back name traces ≡ false
comes_back-last name traces last =
    rw last (and-false (list_any (λ (t : Trace). bytes_eq name t.0) traces))

-- a name that is new does not come back
pub comes_back-none : (name : List ℕ) (traces : Traces)
    → list_any (λ t. bytes_eq name t.0) traces ≡ false → comes_back name traces ≡ false
comes_back-none name traces none = rw none refl

-- no trace has a name that differs from all names of the traces
pub none_named : (name : List ℕ) (traces : Traces)
    → All (λ other. other ≢ name) (trace_names traces)
    → list_any (λ t. bytes_eq name t.0) traces ≡ false
none_named name traces others =
    list_any_none (λ (t : Trace). bytes_eq name t.0) traces
    (λ k d below. bytes_eq-other name (get_or traces k d).0
    (λ same. others k d.0 (omega (arith, length-map traces (λ (t : Trace). t.0)))
    (get_or-map (λ (t : Trace). t.0) traces k d d.0 below ∙ sym same)))

same_tests : (a b : Bool) → (a ≡ true → b ≡ true) → (b ≡ true → a ≡ true) → a ≡ b
same_tests true b go back = sym (go refl)
same_tests false true go back = back refl
same_tests false false go back = refl

pub bytes_eq-flip : (a b : List ℕ) → bytes_eq a b ≡ bytes_eq b a
bytes_eq-flip a b =
    let one : Decides (bytes_eq a b) (a ≡ b) = bytes_eq-Decides a b in
    let two : Decides (bytes_eq b a) (b ≡ a) = bytes_eq-Decides b a in
    same_tests (bytes_eq a b) (bytes_eq b a) (λ h. two.1 (sym (one.0 h)))
    (λ h. one.1 (sym (two.0 h)))

-- the name of the last trace is lawful
pub last_lawful : (elements : Elements) (name : List ℕ) (traces : Traces)
    → All (IsTrace elements) traces → is_last name traces ≡ true → IsTraceName name
last_lawful elements name [] each last = cc last
last_lawful elements name (t ∷ []) each last =
    subst IsTraceName (sym ((bytes_eq-Decides name t.0).0 last)) (each 0 t (omega arith)).name
last_lawful elements name (t ∷ u ∷ more) each last =
    last_lawful elements name (u ∷ more) (λ k d below. each (suc k) d (omega arith)) last
