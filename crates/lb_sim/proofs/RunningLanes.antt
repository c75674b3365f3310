-- The lanes whose traces have an instant, member by member.
use Rattle.std.proofs.Common.{◌≡◌, ◌≢◌, ℕ, ◌+◌, ◌<◌, ◌≤◌, ◌==◌, ◌||◌, ◌&&◌, Bool, true, false, List}
use Rattle.std.proofs.Common.{refl, sym, ap, ap₂, ◌∙◌, arith, below_more, length, ◌⊎◌, inl, inr}
use Rattle.std.proofs.lemmas.Bool.{cases_lt, lt-ltb, le-ltb}
use Rattle.std.specs.Prelude.{nat_lt}
use Rattle.lb_traces.specs.Traces.{Recording}
use Rattle.lb_lanes.specs.Planes.{on}
use Rattle.lb_lanes.proofs.OnPlanes.{on-zero}
use Rattle.lb_sim.proofs.LaneBits.{no_number, same_number}
use Rattle.lb_sim.specs.BatchLanes.{end_in, AreRunning}

neither : (a b : Bool) → ((a && false) || b) ≡ b
neither true b = refl
neither false b = refl

alone : (a : Bool) → ((a && true) || false) ≡ a
alone true = refl
alone false = refl

module _ (r : Recording) (members begins : List ℕ) (t : ℕ) where
  -- `lanes` is right for the first `n` members
  pub record RunningSoFar (lanes until n : ℕ) : Type 0 where
    pub later : t < until
    pub done :
        (i s : ℕ) → i < n → t ≤ s → s < until → on lanes i ≡ nat_lt s (end_in r members begins i)
    pub rest : (i : ℕ) → n ≤ i → i < 64 → on lanes i ≡ false

  pub running_none : (until : ℕ) → t < until → RunningSoFar 0 until 0
  running_none until h = record {
    later = h;
    done = λ i s l. absurd (omega (arith, l));
    rest = λ i l m. on-zero i;
  }

  -- `lanes'` is right for one more member
  pub running_more :
      (lanes lanes' until until' n end : ℕ) → RunningSoFar lanes until n → n < 64 →
      end ≡ end_in r members begins n → (t < until → t < until') → until' ≤ until →
      (t < end → until' ≤ end) →
      ((i : ℕ) → i < 64 → on lanes' i ≡ ((nat_lt t end && (i == n)) || on lanes i)) →
      RunningSoFar lanes' until' (n + 1)
  running_more lanes lanes' until until' n end h lt is_end later below_until below_end is = record {
    later = later h.later;
    done = λ i s l m k. below_more
        (λ j. t ≤ s → s < until' → on lanes' j ≡ nat_lt s (end_in r members begins j)) n
        (λ j b m k. other j (omega (arith, b, lt)) (λ e. absurd (omega (arith, b, e)))
        ∙ h.done j s b m (omega (arith, k, below_until)))
        (λ m k. this s m k)
        i l m k;
    rest = λ i l m.
        other i m (λ e. absurd (omega (arith, l, e))) ∙ h.rest i (omega (arith, l)) m;
  }
    where
      other : (i : ℕ) → i < 64 → i ≢ n → on lanes' i ≡ on lanes i
      other i l ne =
          is i l
          ∙ ap (λ x. (nat_lt t end && x) || on lanes i) (no_number i n ne)
          ∙ neither (nat_lt t end) (on lanes i)

      here : on lanes' n ≡ nat_lt t end
      here =
          is n lt
          ∙ ap₂ (λ x y. (nat_lt t end && x) || y) (same_number n) (h.rest n (omega arith) lt)
          ∙ alone (nat_lt t end)

      same : (s : ℕ) → t ≤ s → s < until' → (t < end) ⊎ (end ≤ t) → nat_lt t end ≡ nat_lt s end
      same s m k (inl goes) =
          lt-ltb t end goes
          ∙ sym (lt-ltb s end (omega (arith, k, below_end goes)))
      same s m k (inr past) =
          le-ltb t end past
          ∙ sym (le-ltb s end (omega (arith, m, past)))

      this : (s : ℕ) → t ≤ s → s < until' → on lanes' n ≡ nat_lt s (end_in r members begins n)
      this s m k = here ∙ same s m k (cases_lt t end) ∙ ap (nat_lt s) is_end

  pub running_all :
      (lanes until n : ℕ) → length members ≤ n → RunningSoFar lanes until n →
      n ≤ length members → AreRunning r members begins t lanes until
  running_all lanes until n all h le = record {
    later = h.later;
    lanes = record {
      members_on = λ i s l. h.done i s (omega (arith, l, all));
      others_off = λ i l. h.rest i (omega (arith, l, le));
    };
  }
