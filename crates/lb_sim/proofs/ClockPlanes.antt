-- The way up a table of clocks, and the planes of the clocks on it from the highest one down.
use Rattle.std.proofs.Common.{◌≡◌, ◌<◌, ◌≤◌, ℕ, zero, suc, ◌+◌, ◌*◌, ◌&&◌, ◌⊎◌, inl, inr}
use Rattle.std.proofs.Common.{Option, Some, None, List, [], ◌∷◌, ◌++◌, length, get_or, set, refl}
use Rattle.std.proofs.Common.{sym, ap, ◌∙◌, subst, arith, ⊎_elim, length-set}
use Rattle.std.specs.Prelude.{slice_get}
use Rattle.std.proofs.lemmas.List.{get_or-map, get_or-set_other}
use Rattle.std.proofs.lemmas.Option.{get_or_from_slice_get, slice_get_within}
use Rattle.lb_syntax.specs.Lists.{In}
use Rattle.lb_check.specs.Streams.{shows}
use Rattle.lb_flat.specs.Bounds.{AreWhole}
use Rattle.lb_flat.specs.Flat.{FlatClock, Always, Where}
use Rattle.lb_flat.specs.Run.{cell, clock_reads, is_now}
use Rattle.lb_flat.specs.Values.{clock_within, clock_of}
use Rattle.lb_flat.specs.Within.{AreClocks}
use Rattle.lb_flat.specs.declared.equation.Clock.{Clock}
use Rattle.lb_flat.specs.declared.equation.ClockId.{ClockId}
use Rattle.lb_machine.specs.Correct.{IsGrown, IsPlaneFor}
use Rattle.lb_machine.specs.declared.code.Code.{Code}
use Rattle.lb_machine.specs.declared.instruction.PlaneId.{PlaneId}
use Rattle.lb_sim.specs.Climbs.{IsClimbed, IsPlaneAt, IsWay, unknown_count}
use Rattle.lb_sim.specs.Emitted.{AreKnown, IsReadBy}
use Rattle.lb_sim.specs.Showing.{cell_at, row_at}
use Rattle.lb_sim.specs.declared.place.Place.{Place}
use Rattle.lb_sim.proofs.Growth.{grown_none, grown_then}
use Rattle.lb_sim.proofs.KnownClocks.{clock_id, known_more, unknown_set}

-- ## Ways

abbrev height : FlatClock → ℕ
height Always = 0
height (Where k i sign) = suc (height k)

-- the height of a clock of a table
abbrev pub height_of : List Clock → Option ClockId → ℕ
height_of clocks k = height (clock_of clocks k)

base_within : (clocks : List Clock) (n : ℕ) → clock_within n clocks None ≡ Always
base_within clocks zero = refl
base_within clocks (suc n) = refl

module _ (clocks : List Clock) (known : List (Option PlaneId)) (id : ClockId) (t : Clock) where
  -- a way to `id`, followed by `id`, is a way to its parent
  pub way_more :
      (clock : Option ClockId) (way : List ClockId) → IsWay clocks known clock way (Some id) →
      get_or known id.0 None ≡ None → slice_get clocks id.0 ≡ Some t →
      IsWay clocks known clock (way ++ id ∷ []) t.parent
  way_more clock [] h none at = (h, none, (t, (at, refl)))
  way_more clock (k ∷ way) h none at =
      (h.0, h.1, (h.2.0, (h.2.1.0, way_more h.2.0.parent way h.2.1.1 none at)))

-- the highest clock of a way
pub record IsHighest (clocks : List Clock) (known : List (Option PlaneId)) (id : ClockId)
    (above : Option ClockId) : Type 0 where
  pub unknown : get_or known id.0 None ≡ None
  pub row : Clock
  pub there : slice_get clocks id.0 ≡ Some row
  pub next : row.parent ≡ above

module _ (clocks : List Clock) (known : List (Option PlaneId)) (id : ClockId)
    (above : Option ClockId) where
  -- a way without its last clock `id` is a way to `id`, which is the highest clock of the longer
  -- way
  pub way_fewer :
      (clock : Option ClockId) (way : List ClockId) →
      IsWay clocks known clock (way ++ id ∷ []) above →
      IsWay clocks known clock way (Some id) × IsHighest clocks known id above
  way_fewer clock [] h = (
    h.0,
    record {
      unknown = h.1;
      row = h.2.0;
      there = h.2.1.0;
      next = h.2.1.1;
    },
  )
  way_fewer clock (k ∷ way) h =
      let rest = way_fewer h.2.0.parent way h.2.1.1 in
      ((h.0, h.1, (h.2.0, (h.2.1.0, rest.0))), rest.1)

module _ (clocks : List Clock) (whole : AreWhole clocks) where
  one_higher : (k : ClockId) (t : Clock) → slice_get clocks k.0 ≡ Some t →
      height_of clocks (Some k) ≡ suc (height_of clocks t.parent)
  one_higher k t at = ap height (whole k t at)

  -- the parent of a clock has a lower height
  pub lower :
      (clock : Option ClockId) (k : ClockId) (t : Clock) → clock ≡ Some k →
      slice_get clocks k.0 ≡ Some t → height_of clocks t.parent < height_of clocks clock
  lower clock k t e at =
      let same : height_of clocks clock ≡ height_of clocks (Some k) = ap (height_of clocks) e in
      omega (arith, same, one_higher k t at)

  module _ (known : List (Option PlaneId)) where
    way_height : (clock : Option ClockId) (way : List ClockId) (above : Option ClockId) →
        IsWay clocks known clock way above → height_of clocks above ≤ height_of clocks clock
    way_height clock [] above h =
        let same : height_of clocks clock ≡ height_of clocks above = ap (height_of clocks) h in
        omega (arith, same)
    way_height clock (k ∷ way) above h =
        let rest = way_height h.2.0.parent way above h.2.1.1 in
        let less = lower clock k h.2.0 h.0 h.2.1.0 in
        omega (arith, rest, less)

    -- a clock reads each element that a clock above it on a way reads
    pub way_reads : (clock : Option ClockId) (way : List ClockId) (above : Option ClockId) →
        IsWay clocks known clock way above → IsReadBy clocks clock above
    way_reads clock [] above h e i =
        subst (λ c. In e (clock_reads (clock_of clocks c))) (sym h) i
    way_reads clock (k ∷ way) above h e i =
        let t = h.2.0 in
        let further = way_reads t.parent way above h.2.1.1 e i in
        subst (λ c. In e (clock_reads (clock_of clocks c))) (sym h.0)
        (subst (λ c. In e (clock_reads c)) (sym (whole k t h.2.1.0)) (inr further))

    -- the other clocks on a way stay unknown once the clock `id` above them is known
    way_stays : (id : ClockId) (p : PlaneId) (clock : Option ClockId) (way : List ClockId) →
        IsWay clocks known clock way (Some id) →
        IsWay clocks (set known id.0 (Some p)) clock way (Some id)
    way_stays id p clock [] h = h
    way_stays id p clock (k ∷ way) h =
        let t = h.2.0 in
        let high = way_height t.parent way (Some id) h.2.1.1 in
        let own = one_higher k t h.2.1.0 in
        let apart : k.0 ≡ id.0 → ⊥ = λ e.
        let same : height_of clocks (Some k) ≡ height_of clocks (Some id) =
        ap (λ i. height_of clocks (Some (clock_id i))) e in
        omega (arith, same, high, own) in (
          h.0,
          get_or-set_other known id.0 k.0 (Some p) None apart ∙ h.1,
          (t, (h.2.1.0, way_stays id p t.parent way h.2.1.1)),
        )

-- ## Down a way

-- the clocks above those of a way are known, and `plane` is that of the next clock above the way
pub record IsDescending (before code : Code) (places : List Place) (clocks : List Clock)
    (clock : Option ClockId) (old known : List (Option PlaneId)) (way : List ClockId)
    (plane : PlaneId) : Type 0 where
  pub grown : IsGrown before code
  pub few :
      code.planes + code.words + 10 * unknown_count known
      ≤ before.planes + before.words + 10 * unknown_count old
  pub as_many : length known ≡ length old
  pub above : Option ClockId
  pub leads : IsWay clocks known clock way above
  pub plane_is :
      IsPlaneFor code (λ s. is_now (row_at s places) (clock_of clocks above)) plane
  pub all_known : AreKnown code places clocks known
  pub newly :
      (k : ClockId) (q : PlaneId) → get_or known k.0 None ≡ Some q →
      (get_or old k.0 None ≡ Some q) ⊎ IsReadBy clocks clock (Some k)

plane_at : (code : Code) (places : List Place) (clocks : List Clock)
    (known : List (Option PlaneId)) (above : Option ClockId) (plane : PlaneId) →
    AreKnown code places clocks known → IsPlaneAt known above plane →
    IsPlaneFor code (λ s. is_now (row_at s places) (clock_of clocks above)) plane
plane_at code places clocks known None plane all is = record {
  within = omega (arith, is, code.constants, code.more_planes);
  means = λ s r.
      ap s.bits is ∙ r.constants.everywhere
      ∙ sym (ap (is_now (row_at s places)) (base_within clocks (length clocks)));
}
plane_at code places clocks known (Some k) plane all is = all k plane is

pub descending_first :
    (code : Code) (places : List Place) (clocks : List Clock) (clock : Option ClockId)
    (known : List (Option PlaneId)) (way : List ClockId) (plane : PlaneId) →
    AreKnown code places clocks known → IsClimbed clocks known clock way plane →
    IsDescending code code places clocks clock known known way plane
descending_first code places clocks clock known way plane all h = record {
  grown = grown_none code;
  few = omega arith;
  as_many = refl;
  above = h.above;
  leads = h.leads;
  plane_is = plane_at code places clocks known h.above plane all h.plane;
  all_known = all;
  newly = λ k q is. inl is;
}

module _ (before code : Code) (places : List Place) (clocks : List Clock)
    (clock : Option ClockId) (old known : List (Option PlaneId)) (way : List ClockId)
    (plane : PlaneId)
    (h : IsDescending before code places clocks clock old known way plane) where
  module _ (id : ClockId) (less : List ClockId) (is : way ≡ less ++ id ∷ []) where
    abbrev parted : IsWay clocks known clock less (Some id) × IsHighest clocks known id h.above
    parted =
        way_fewer clocks known id h.above clock less
        (subst (λ w. IsWay clocks known clock w h.above) is h.leads)

    -- the highest clock of a way is in the table, and is not known
    pub highest_within : id.0 < length clocks
    highest_within = slice_get_within clocks id.0 parted.1.row parted.1.there

    pub highest_unknown : length old ≡ length clocks →
        suc (unknown_count (set known id.0 (Some plane))) ≡ unknown_count known
    highest_unknown many =
        unknown_set known id.0 plane (omega (arith, highest_within, many, h.as_many))
        parted.1.unknown

    -- the highest clock of a way becomes known
    pub descending_next :
        AreWhole clocks → AreClocks (length places) clocks → length old ≡ length clocks →
        (t : Clock) (p : Place) (code' : Code) (plane' : PlaneId) →
        t ≡ get_or clocks id.0 t → p ≡ get_or places t.element.0 p → IsGrown code code' →
        code'.planes + code'.words ≤ code.planes + code.words + 10 →
        IsPlaneFor code' (λ s. s.bits plane.0 && shows t.sign (cell_at s p)) plane' →
        IsDescending before code' places clocks clock old (set known id.0 (Some plane')) less
        plane'
    descending_next whole table many t p code' plane' is_t is_p grown few made =
        let lt : id.0 < length known = omega (arith, highest_within, many, h.as_many) in
        let fewer = unknown_set known id.0 plane' lt parted.1.unknown in
        let read = way_reads clocks whole known clock less (Some id) parted.0 in
        let after = known_more code code' places clocks known id plane' grown h.all_known lt own in
        record {
          grown = grown_then before code code' h.grown grown;
          few = omega (arith, fewer, few, h.few);
          as_many = length-set known id.0 (Some plane') ∙ h.as_many;
          above = Some id;
          leads = way_stays clocks whole known id plane' clock less parted.0;
          plane_is = own;
          all_known = after.0;
          newly = λ k q is_q.
              ⊎_elim (λ (same : k.0 ≡ id.0). inr (subst (λ i. IsReadBy clocks clock
              (Some (clock_id i))) (sym same) read))
              (λ (was : get_or known k.0 None ≡ Some q). h.newly k q was)
              (after.1 k q is_q);
        }
      where
        same_row : parted.1.row ≡ t
        same_row =
            sym (get_or_from_slice_get clocks id.0 parted.1.row t parted.1.there) ∙ sym is_t

        flat_is :
            clock_of clocks (Some id) ≡ Where (clock_of clocks h.above) t.element.0 t.sign
        flat_is =
            whole id parted.1.row parted.1.there
            ∙ ap (λ c. Where (clock_of clocks c) parted.1.row.element.0 parted.1.row.sign)
            parted.1.next
            ∙ ap (λ (r : Clock). Where (clock_of clocks h.above) r.element.0 r.sign) same_row

        element_there : t.element.0 < length places
        element_there =
            subst (λ (r : Clock). r.element.0 < length places) (sym is_t)
            (table id.0 t highest_within).element

        own : IsPlaneFor code' (λ s. is_now (row_at s places) (clock_of clocks (Some id))) plane'
        own = record {
          within = made.within;
          means = λ s r.
              let row = row_at s places in
              let seen : cell row t.element.0 ≡ cell_at s p =
              get_or-map (cell_at s) places t.element.0 p None element_there
              ∙ ap (cell_at s) (sym is_p) in
              made.means s r
              ∙ ap (λ b. b && shows t.sign (cell_at s p)) (h.plane_is.means s (grown.runs s r))
              ∙ ap (λ x. is_now row (clock_of clocks h.above) && shows t.sign x) (sym seen)
              ∙ sym (ap (is_now row) flat_is);
        }
