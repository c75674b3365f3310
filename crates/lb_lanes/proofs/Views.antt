-- Lanes of the integers that words of one width stand for.
use Rattle.std.proofs.Common.{◌≡◌, ℕ, zero, suc, ◌<◌, ◌==◌, Bool, true, false, List, [], ◌∷◌, ℤ}
use Rattle.std.proofs.Common.{pos, cond, map, set, get_or, replicate, length, refl, sym, ap, ◌∙◌}
use Rattle.std.proofs.Common.{subst, arith, SFits, to_z, of_z}
use Rattle.std.specs.Int.{Width}
use Rattle.std.proofs.lemmas.Bool.{eqb-true, eqb-false}
use Rattle.std.proofs.lemmas.List.{get_or-set_same, get_or-set_other}
use Rattle.std.proofs.lemmas.Simd.{get_or-replicate}
use Rattle.std.proofs.lemmas.Int.{to_z-of_z}
use Rattle.lb_lanes.specs.Kernels.{lane_of}

module _ (w : Width) (at_zero : to_z w 0 ≡ pos 0) where
  -- lane i of the integers that the words stand for
  pub lane-view : (bits : List ℕ) (i : ℕ) → lane_of (map (to_z w) bits) i ≡ to_z w (get_or bits i 0)
  lane-view [] i = sym at_zero
  lane-view (n ∷ bits) zero = refl
  lane-view (n ∷ bits) (suc i) = lane-view bits i

  -- `lane-view` for integers `now` that are equal to those of the words
  pub view_lane : (bits : List ℕ) (now : List ℤ) (i : ℕ) → map (to_z w) bits ≡ now →
      to_z w (get_or bits i 0) ≡ lane_of now i
  view_lane bits now i is = sym (lane-view bits i) ∙ ap (λ l. lane_of l i) is

  pub lane-set : (bits : List ℕ) (k i n : ℕ) → length bits ≡ 64 → k < 64 →
      lane_of (map (to_z w) (set bits k n)) i
      ≡ cond (i == k) (to_z w n) (lane_of (map (to_z w) bits) i)
  lane-set bits k i n long hk =
      lane-view (set bits k n) i ∙ by (i == k) refl
    where
      by : (b : Bool) → (i == k) ≡ b →
          to_z w (get_or (set bits k n) i 0)
          ≡ cond b (to_z w n) (lane_of (map (to_z w) bits) i)
      by true e =
          subst (λ j. to_z w (get_or (set bits k n) j 0) ≡ to_z w n) (sym (eqb-true i k e))
          (ap (to_z w) (get_or-set_same bits k n 0 (omega (arith, long, hk))))
      by false e =
          ap (to_z w) (get_or-set_other bits k i n 0 (eqb-false i k e)) ∙ sym (lane-view bits i)

  pub lane-splat : (n i : ℕ) → i < 64 → lane_of (map (to_z w) (replicate 64 n)) i ≡ to_z w n
  lane-splat n i h =
      lane-view (replicate 64 n) i ∙ ap (to_z w) (get_or-replicate 64 i n 0 h)

-- a word that casts made of an integer stands for that integer
pub word_of :
    (w : Width) (n : ℕ) (v : ℤ) → SFits w v → n ≡ of_z w (to_z w (of_z w v)) → to_z w n ≡ v
word_of w n v f e = ap (to_z w) (e ∙ ap (of_z w) (to_z-of_z w v f)) ∙ to_z-of_z w v f

-- the integer of a chosen word is the chosen integer
pub word_by : (w : Width) (b : Bool) (m n : ℕ)
    → to_z w (cond b m n) ≡ cond b (to_z w m) (to_z w n)
word_by w true m n = refl
word_by w false m n = refl
