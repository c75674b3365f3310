-- Each row that instantiation adds to its table stands after the row of its caller.
use Rattle.std.proofs.Common.{◌≡◌, ℕ, suc, zero, List, [], ◌∷◌, ◌++◌, length, Some, refl, ap, sym}
use Rattle.std.proofs.Common.{◌∙◌, subst}
use Rattle.std.specs.Prelude.{slice_get}
use Rattle.std.proofs.lemmas.List.{append_assoc}
use Rattle.lb_static.specs.InstanceTable.{CallerStandsBefore, CallersStandBefore}
use Rattle.lb_static.specs.InstanceRows.{begun_row, HasUsed, IsSpecializedRow}
use Rattle.lb_static.specs.declared.table.Instance as row
use Rattle.lb_static.specs.declared.table.Origin.{Origin}
use Rattle.lb_static.specs.declared.table.Specialization.{Specialization}
use Rattle.lb_static.specs.declared.table.SpecializationId.{SpecializationId}

-- ## A statement on the place and the origin of each row

abbrev Each : (ℕ → Origin → Type 0) → List row.Instance → Type 0
Each R rows = (place : ℕ) (i : row.Instance) → slice_get rows place ≡ Some i → R place i.origin

each_pushed : (R : ℕ → Origin → Type 0) (rows : List row.Instance) (x : row.Instance)
    → Each R rows → R (length rows) x.origin → Each R (rows ++ x ∷ [])
each_pushed R [] x all last zero i e =
    let same : x ≡ i = cc in subst (λ (k : row.Instance). R zero k.origin) same last
each_pushed R [] x all last (suc place) i e = absurd cc
each_pushed R (y ∷ rows) x all last zero i e = all zero i e
each_pushed R (y ∷ rows) x all last (suc place) i e =
    each_pushed (λ k. R (suc k)) rows x (λ k j h. all (suc k) j h) last place i e

-- a row is replaced by one with the same origin
each_changed : (R : ℕ → Origin → Type 0) (front back : List row.Instance) (x y : row.Instance)
    → x.origin ≡ y.origin → Each R (front ++ x ∷ back) → Each R (front ++ y ∷ back)
each_changed R [] back x y same all zero i e =
    let here : y ≡ i = cc in
    subst (R zero) (same ∙ ap (λ (k : row.Instance). k.origin) here) (all zero x refl)
each_changed R [] back x y same all (suc place) i e = all (suc place) i e
each_changed R (z ∷ front) back x y same all zero i e = all zero i e
each_changed R (z ∷ front) back x y same all (suc place) i e =
    each_changed (λ k. R (suc k)) front back x y same (λ k j h. all (suc k) j h) place i e

-- ## Callers

pub callers_none : CallersStandBefore []
callers_none place i e = absurd cc

-- callers stand before their instances, with the row of an instance that is added at the end
pub callers_begun : (before after : List row.Instance) (from : Origin)
    → after ≡ before ++ begun_row from ∷ [] → CallerStandsBefore (length before) from
    → CallersStandBefore before → CallersStandBefore after
callers_begun before after from e here all =
    subst CallersStandBefore (sym e)
    (each_pushed CallerStandsBefore before (begun_row from) all here)

-- callers stand before their instances, where a row has got its specialization
pub callers_specialized : (first last : List Specialization) (before now after : List row.Instance)
    (from : Origin) (place : ℕ) (id : SpecializationId) → place ≡ length before
    → HasUsed first last (before ++ begun_row from ∷ []) now → IsSpecializedRow place id now after
    → CallersStandBefore now → CallersStandBefore after
callers_specialized first last before now after from place id at h placed all =
    let specialized_row : row.Instance = record { specialization = id; origin = from } in
    let split : now ≡ before ++ begun_row from ∷ h.added =
    h.whole ∙ append_assoc before (begun_row from ∷ []) h.added in
    let whole : after ≡ before ++ specialized_row ∷ h.added =
    placed before h.added (begun_row from) (sym at) split in
    subst CallersStandBefore (sym whole)
    (each_changed CallerStandsBefore before h.added (begun_row from) specialized_row refl
    (subst CallersStandBefore split all))
