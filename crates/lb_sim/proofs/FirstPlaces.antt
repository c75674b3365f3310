-- The places before the code: one more plane or word, and what a memory holds at first.
use Rattle.std.proofs.Common.{◌≡◌, ◌≢◌, ℕ, suc, ◌+◌, ◌<◌, ◌⊎◌, Bool, true, false, not, List, []}
use Rattle.std.proofs.Common.{◌∷◌, ◌++◌, ℤ, pos, cond, length, refl, sym, ap, ap₂, ◌∙◌, subst, inl}
use Rattle.std.proofs.Common.{inr, arith}
use Rattle.std.specs.Prelude.{slice_index, slice_index_or}
use Rattle.std.proofs.lemmas.List.{get_or_append_left, get_or_push}
use Rattle.lb_syntax.specs.declared.tree.Kind.{Kind}
use Rattle.lb_check.specs.Scalars.{Scalar, Integer, Boolean, Nil, Bad}
use Rattle.lb_flat.specs.Flat.{FirstThen}
use Rattle.lb_lanes.specs.Planes.{on}
use Rattle.lb_lanes.proofs.OnPlanes.{on-flip, on-zero}
use Rattle.lb_machine.specs.declared.instruction.PlaneId.{PlaneId}
use Rattle.lb_sim.specs.Homes.{plane_in, word_in, is_nil_scalar, is_bad_scalar, IsRow}
use Rattle.lb_sim.specs.Presets.{IsMore, IsFirstValue, IsFirstHolding, IsFirstMemory, first_lane}
use Rattle.lb_sim.specs.Showing.{shown, value_at, scalar_at}
use Rattle.lb_sim.specs.States.{flag_of}
use Rattle.lb_sim.specs.declared.place.Holding.{Holding}
use Rattle.lb_sim.specs.declared.place.Value.{Value}
use Rattle.lb_sim.specs.declared.place.Value.TheVariants.{Truth, Negated, Number}
use Rattle.lb_sim.specs.declared.preset.Preset.{Preset}
use Rattle.lb_sim.proofs.HomeRows.{row_append, row_homes, home_below}

-- ## Planes of one value

pub all_on : (i : ℕ) → i < 64 → on 18446744073709551615 i ≡ true
all_on i h = on-flip 0 i (omega arith) h ∙ ap not (on-zero i)

pub chosen_on : (b : Bool) (i : ℕ) → i < 64 → on (cond b 18446744073709551615 0) i ≡ b
chosen_on true i h = all_on i h
chosen_on false i h = on-zero i

pub placed_on :
    (items old : List ℕ) (x n i : ℕ) (b : Bool) → items ≡ old ++ x ∷ [] → length old ≡ n →
    i < 64 → x ≡ cond b 18446744073709551615 0 → on (slice_index items n) i ≡ b
placed_on items old x n i b is long lt e =
    ap (λ l. on (slice_index l n) i) is
    ∙ ap (λ y. on y i) (get_or_push old x 0 n long)
    ∙ ap (λ y. on y i) e
    ∙ chosen_on b i lt

-- ## Words

pub zero_kept :
    (t : Bool) (items old : List ℤ) (x : ℤ) → items ≡ cond t (old ++ x ∷ []) old →
    0 < length old → slice_index_or old 0 (pos 0) ≡ pos 0 →
    slice_index_or items 0 (pos 0) ≡ pos 0
zero_kept true items old x is lt e =
    ap (λ l. slice_index_or l 0 (pos 0)) is
    ∙ get_or_append_left old (x ∷ []) (pos 0) 0 lt ∙ e
zero_kept false items old x is lt e = ap (λ l. slice_index_or l 0 (pos 0)) is ∙ e

-- ## More planes and words

pub more_none : (a : Preset) → IsMore a a
more_none a = record {
  planes = omega arith;
  words = omega arith;
  same_planes = λ k lt. refl;
  same_words = λ k lt. refl;
}

pub more_then : (a b c : Preset) → IsMore a b → IsMore b c → IsMore a c
more_then a b c h g = record {
  planes = omega (arith, h.planes, g.planes);
  words = omega (arith, h.words, g.words);
  same_planes = λ k lt. g.same_planes k (omega (arith, lt, h.planes)) ∙ h.same_planes k lt;
  same_words = λ k lt. g.same_words k (omega (arith, lt, h.words)) ∙ h.same_words k lt;
}

module _ (old new : Preset) where
  -- a value at places of `old` holds in `new` what it held in `old`
  pub value_more : IsMore old new → (i : ℕ) (x : Value) → plane_in x < length old.planes.items →
      word_in x < length old.words.items →
      value_at (first_lane new i) x ≡ value_at (first_lane old i) x
  value_more m i (Truth p) lt _ = ap (λ n. Boolean (on n i)) (m.same_planes p.0 lt)
  value_more m i (Negated p) lt _ = ap (λ n. Boolean (not (on n i))) (m.same_planes p.0 lt)
  value_more m i (Number w) _ lt = ap Integer (m.same_words w.0 lt)

  pub scalar_more :
      IsMore old new → (i : ℕ) (h : Holding) → plane_in h.value < length old.planes.items →
      word_in h.value < length old.words.items → h.nil.0 < length old.planes.items →
      h.bad.0 < length old.planes.items →
      scalar_at (first_lane new i) h ≡ scalar_at (first_lane old i) h
  scalar_more m i h plane word nil bad =
      ap₂ (λ a b. shown (on a i) (on b i) (value_at (first_lane new i) h.value))
      (m.same_planes h.bad.0 bad) (m.same_planes h.nil.0 nil)
      ∙ ap
      (shown (on (slice_index old.planes.items h.bad.0) i)
      (on (slice_index old.planes.items h.nil.0) i))
      (value_more m i h.value plane word)

-- ## A holding

shown_is :
    (v w : Scalar) (b n : Bool) → b ≡ is_bad_scalar v → n ≡ is_nil_scalar v →
    (is_nil_scalar v ≡ false → is_bad_scalar v ≡ false → w ≡ v) → shown b n w ≡ v
shown_is (Integer z) w b n is_b is_n f = ap₂ (λ b n. shown b n w) is_b is_n ∙ f refl refl
shown_is (Boolean z) w b n is_b is_n f = ap₂ (λ b n. shown b n w) is_b is_n ∙ f refl refl
shown_is Nil w b n is_b is_n f = ap₂ (λ b n. shown b n w) is_b is_n
shown_is Bad w b n is_b is_n f = ap₂ (λ b n. shown b n w) is_b is_n

module _ (a b c d : Preset) (kind : Kind) (watched : Type 0) (v : Scalar) (x : Value)
    (nil bad : PlaneId) where
  pub first_holding :
      IsFirstValue a b kind v x → IsMore b c → nil.0 ≡ length b.planes.items →
      length c.planes.items ≡ length b.planes.items + 1 → c.words.items ≡ b.words.items →
      ((i : ℕ) → i < 64 → on (slice_index c.planes.items nil.0) i ≡ is_nil_scalar v) →
      IsMore c d → d.words.items ≡ c.words.items →
      IsRow (length c.planes.items) (bad.0 ∷ []) (length d.planes.items) →
      ((bad.0 ≢ 0) ⊎ ((bad.0 ≡ 0) × watched)) →
      ((i : ℕ) → i < 64 → on (slice_index d.planes.items bad.0) i ≡ is_bad_scalar v) →
      IsFirstHolding a d kind watched v (record { value = x; nil = nil; bad = bad })
  first_holding value more at longer words nil_is more' words' row bad_set bad_is =
      let next : suc (length b.planes.items) ≡ length c.planes.items = omega (arith, longer) in
      let within : nil.0 < length c.planes.items = omega (arith, at, longer) in
      let plane_home =
      row_homes (length a.planes.items) (length b.planes.items) (plane_in x ∷ []) value.planes in
      let word_home =
      row_homes (length a.words.items) (length b.words.items) (word_in x ∷ []) value.words in
      record {
        cell = record {
          kind_is = value.kind_is;
          is_set = value.is_set;
          nil = λ e. absurd (omega (arith, e, at, b.two_planes));
          bad = bad_set;
        };
        planes =
            row_append (length a.planes.items) (length b.planes.items) (length d.planes.items)
            (plane_in x ∷ []) (nil.0 ∷ bad.0 ∷ []) value.planes
            (inr (
              at,
              subst (λ n. IsRow n (bad.0 ∷ []) (length d.planes.items)) (sym next) row,
            ));
        words =
            subst (λ n. IsRow (length a.words.items) (word_in x ∷ []) n)
            (sym (ap length words' ∙ ap length words)) value.words;
        start = λ i lt.
            shown_is v (value_at (first_lane d i) x) (on (slice_index d.planes.items bad.0) i)
            (on (slice_index d.planes.items nil.0) i) (bad_is i lt)
            (ap (λ n. on n i) (more'.same_planes nil.0 within) ∙ nil_is i lt)
            (λ n m.
            value_more b d (more_then b c d more more') i x
            (home_below (length a.planes.items) (length b.planes.items) (plane_in x)
            (omega (arith, b.two_planes)) plane_home.0)
            (home_below (length a.words.items) (length b.words.items) (word_in x)
            (omega (arith, b.one_word)) word_home.0)
            ∙ value.start i lt n m);
      }

-- ## A memory

module _ (old new : Preset) (kind : Kind) (watched : ℕ → Type 0) where
  pub first_flag :
      (started : Bool) (a b : ℕ) (p : PlaneId) → p.0 ≡ length old.planes.items →
      length new.planes.items ≡ length old.planes.items + 1 →
      new.words.items ≡ old.words.items →
      ((i : ℕ) → i < 64 → on (slice_index new.planes.items p.0) i ≡ started) →
      IsFirstMemory old new kind watched (FirstThen started a b)
      (record { value = Truth p; nil = record { 0 = 0 }; bad = record { 0 = 0 } })
  first_flag started a b p at planes words is =
      let next : suc (length old.planes.items) ≡ length new.planes.items =
      omega (arith, planes) in
      record {
        memory = record {
          kind_is = refl;
          is_set = λ e. absurd (omega (arith, e, at, old.two_planes));
          nil = refl;
          bad = refl;
        };
        planes = inr (at, inl (refl, inl (refl, next)));
        words = inl (refl, sym (ap length words));
        start = λ i lt.
            let nowhere : on (slice_index new.planes.items 0) i ≡ false =
            ap (λ n. on n i) new.nowhere ∙ on-zero i in
            ap (λ m. FirstThen m a b)
            (ap
            (λ x. flag_of (shown x x (Boolean (on (slice_index new.planes.items p.0) i))))
            nowhere ∙ is i lt);
      }
