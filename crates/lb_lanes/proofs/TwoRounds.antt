-- Two rounds of the transposition at once.
use Rattle.std.proofs.Common.{◌≡◌, ◌≢◌, ℕ, zero, suc, ◌+◌, ◌*◌, ◌/◌, ◌%◌, ◌<◌, ◌==◌}
use Rattle.std.proofs.Common.{true, false, List, get_or, set, length, cond, map, refl, sym}
use Rattle.std.proofs.Common.{ap, ap₂, ◌∙◌, subst, arith, below_more, mod-lt, zero-lt-suc}
use Rattle.std.proofs.lemmas.List.{get_or-set_same, get_or-set_other}
use Rattle.std.proofs.lemmas.List.FromFn.{get_or-map-range_with_len}
use Rattle.std.proofs.Common.{length-set}
use Rattle.std.specs.List.{range_with_len}
use Rattle.lb_lanes.specs.Transposes.{IsRound, IsMask}
use Rattle.lb_lanes.proofs.Rounds.{Paired, even_word, odd_word, round_made}

module _ (s m s' m' : ℕ) (old : List ℕ) where
  -- the words that the first round makes, at even places and at odd ones
  abbrev evens : ℕ → ℕ
  evens j = even_word s m (get_or old j 0) (get_or old (j + 32) 0)

  abbrev odds : ℕ → ℕ
  odds j = odd_word s m (get_or old j 0) (get_or old (j + 32) 0)

  -- the words that the first round makes of the words at `j + 16` and at `n`
  abbrev evens_from : ℕ → ℕ → ℕ
  evens_from j n = even_word s m (get_or old (j + 16) 0) (get_or old n 0)

  abbrev odds_from : ℕ → ℕ → ℕ
  odds_from j n = odd_word s m (get_or old (j + 16) 0) (get_or old n 0)

  -- the words below `4 * k` that both rounds made
  pub record Doubled (new : List ℕ) (k : ℕ) : Type 0 where
    pub as_long : length new ≡ 64
    pub evens_even :
        (j : ℕ) → j < k → get_or new (4 * j) 0 ≡ even_word s' m' (evens j) (evens (j + 16))
    pub evens_odd :
        (j : ℕ) → j < k → get_or new (4 * j + 1) 0 ≡ odd_word s' m' (evens j) (evens (j + 16))
    pub odds_even :
        (j : ℕ) → j < k → get_or new (4 * j + 2) 0 ≡ even_word s' m' (odds j) (odds (j + 16))
    pub odds_odd :
        (j : ℕ) → j < k → get_or new (4 * j + 3) 0 ≡ odd_word s' m' (odds j) (odds (j + 16))

  pub doubled_none : (new : List ℕ) → length new ≡ 64 → Doubled new 0
  doubled_none new long = record {
    as_long = long;
    evens_even = λ j h. absurd (omega (arith, h));
    evens_odd = λ j h. absurd (omega (arith, h));
    odds_even = λ j h. absurd (omega (arith, h));
    odds_odd = λ j h. absurd (omega (arith, h));
  }

  -- four words that lie side by side
  module _ (new : List ℕ) (k a b c d : ℕ) where
    abbrev four : List ℕ
    four = set (set (set (set new (4 * k) a) (4 * k + 1) b) (4 * k + 2) c) (4 * k + 3) d

    four_below : (i : ℕ) → i < 4 * k → get_or four i 0 ≡ get_or new i 0
    four_below i l =
        let n0 : i ≢ (4 * k) = λ e. absurd (omega (arith, l, e)) in
        let n1 : i ≢ (4 * k + 1) = λ e. absurd (omega (arith, l, e)) in
        let n2 : i ≢ (4 * k + 2) = λ e. absurd (omega (arith, l, e)) in
        let n3 : i ≢ (4 * k + 3) = λ e. absurd (omega (arith, l, e)) in
        get_or-set_other _ (4 * k + 3) i d 0 n3 ∙ get_or-set_other _ (4 * k + 2) i c 0 n2
        ∙ get_or-set_other _ (4 * k + 1) i b 0 n1 ∙ get_or-set_other new (4 * k) i a 0 n0

    four_long : length four ≡ length new
    four_long =
        length-set (set (set (set new (4 * k) a) (4 * k + 1) b) (4 * k + 2) c) (4 * k + 3) d
        ∙ length-set (set (set new (4 * k) a) (4 * k + 1) b) (4 * k + 2) c
        ∙ length-set (set new (4 * k) a) (4 * k + 1) b ∙ length-set new (4 * k) a

    module _ (room : 4 * k + 3 < length new) where
      four_first : get_or four (4 * k) 0 ≡ a
      four_first =
          let n1 : (4 * k) ≢ (4 * k + 1) = λ e. absurd (omega (arith, e)) in
          let n2 : (4 * k) ≢ (4 * k + 2) = λ e. absurd (omega (arith, e)) in
          let n3 : (4 * k) ≢ (4 * k + 3) = λ e. absurd (omega (arith, e)) in
          get_or-set_other _ (4 * k + 3) (4 * k) d 0 n3
          ∙ get_or-set_other _ (4 * k + 2) (4 * k) c 0 n2
          ∙ get_or-set_other _ (4 * k + 1) (4 * k) b 0 n1
          ∙ get_or-set_same new (4 * k) a 0 (omega (arith, room))

      four_second : get_or four (4 * k + 1) 0 ≡ b
      four_second =
          let n2 : (4 * k + 1) ≢ (4 * k + 2) = λ e. absurd (omega (arith, e)) in
          let n3 : (4 * k + 1) ≢ (4 * k + 3) = λ e. absurd (omega (arith, e)) in
          get_or-set_other _ (4 * k + 3) (4 * k + 1) d 0 n3
          ∙ get_or-set_other _ (4 * k + 2) (4 * k + 1) c 0 n2
          ∙ get_or-set_same (set new (4 * k) a) (4 * k + 1) b 0
          (omega (arith, room, length-set new (4 * k) a))

      four_third : get_or four (4 * k + 2) 0 ≡ c
      four_third =
          let n3 : (4 * k + 2) ≢ (4 * k + 3) = λ e. absurd (omega (arith, e)) in
          get_or-set_other _ (4 * k + 3) (4 * k + 2) d 0 n3
          ∙ get_or-set_same (set (set new (4 * k) a) (4 * k + 1) b) (4 * k + 2) c 0
          (omega (
            arith,
            room,
            length-set new (4 * k) a,
            length-set (set new (4 * k) a) (4 * k + 1) b,
          ))

      four_last : get_or four (4 * k + 3) 0 ≡ d
      four_last =
          get_or-set_same (set (set (set new (4 * k) a) (4 * k + 1) b) (4 * k + 2) c) (4 * k + 3) d
          0
          (omega (
            arith,
            room,
            length-set new (4 * k) a,
            length-set (set new (4 * k) a) (4 * k + 1) b,
            length-set (set (set new (4 * k) a) (4 * k + 1) b) (4 * k + 2) c,
          ))

  -- with four more words set, both rounds made the words below `4 * (k + 1)`
  pub doubled_more :
      (new : List ℕ) (k a b c d : ℕ) → Doubled new k → k < 16 →
      a ≡ even_word s' m' (evens k) (evens_from k (k + 48)) →
      b ≡ odd_word s' m' (evens k) (evens_from k (k + 48)) →
      c ≡ even_word s' m' (odds k) (odds_from k (k + 48)) →
      d ≡ odd_word s' m' (odds k) (odds_from k (k + 48)) → Doubled (four new k a b c d) (k + 1)
  doubled_more new k a b c d h lt is_a is_b is_c is_d =
      let far : k + 48 ≡ k + 16 + 32 = omega arith in
      let room : 4 * k + 3 < length new = omega (arith, h.as_long, lt) in
      record {
        as_long = four_long new k a b c d ∙ h.as_long;
        evens_even =
            below_more
            (λ j. get_or (four new k a b c d) (4 * j) 0
            ≡ even_word s' m' (evens j) (evens (j + 16))) k
            (λ j l. four_below new k a b c d (4 * j) (omega (arith, l)) ∙ h.evens_even j l)
            (four_first new k a b c d room ∙ is_a
            ∙ ap (λ n. even_word s' m' (evens k) (evens_from k n)) far);
        evens_odd =
            below_more
            (λ j. get_or (four new k a b c d) (4 * j + 1) 0
            ≡ odd_word s' m' (evens j) (evens (j + 16))) k
            (λ j l. four_below new k a b c d (4 * j + 1) (omega (arith, l)) ∙ h.evens_odd j l)
            (four_second new k a b c d room ∙ is_b
            ∙ ap (λ n. odd_word s' m' (evens k) (evens_from k n)) far);
        odds_even =
            below_more
            (λ j. get_or (four new k a b c d) (4 * j + 2) 0
            ≡ even_word s' m' (odds j) (odds (j + 16))) k
            (λ j l. four_below new k a b c d (4 * j + 2) (omega (arith, l)) ∙ h.odds_even j l)
            (four_third new k a b c d room ∙ is_c
            ∙ ap (λ n. even_word s' m' (odds k) (odds_from k n)) far);
        odds_odd =
            below_more
            (λ j. get_or (four new k a b c d) (4 * j + 3) 0
            ≡ odd_word s' m' (odds j) (odds (j + 16))) k
            (λ j l. four_below new k a b c d (4 * j + 3) (omega (arith, l)) ∙ h.odds_odd j l)
            (four_last new k a b c d room ∙ is_d
            ∙ ap (λ n. odd_word s' m' (odds k) (odds_from k n)) far);
      }

  -- the words between the two rounds
  abbrev word_between : ℕ → ℕ
  word_between n = cond (n % 2 == 0) (evens (n / 2)) (odds (n / 2))

  abbrev between : List ℕ
  between = map word_between (range_with_len 0 64)

  at_number : (n : ℕ) → n < 64 → get_or between n 0 ≡ word_between n
  at_number n lt =
      let same : 0 + n ≡ n = omega arith in
      get_or-map-range_with_len word_between 0 64 n n 0 lt same

  at_even : (j n : ℕ) → n ≡ 2 * j → j < 32 → get_or between n 0 ≡ evens j
  at_even j n is lt =
      let half : n / 2 ≡ j = omega (arith, is) in
      let even : (n % 2 == 0) ≡ true = grind arith in
      at_number n (omega (arith, is, lt))
      ∙ ap₂ (λ b i. cond b (evens i) (odds i)) even half

  at_odd : (j n : ℕ) → n ≡ 2 * j + 1 → j < 32 → get_or between n 0 ≡ odds j
  at_odd j n is lt =
      let half : n / 2 ≡ j = omega (arith, is) in
      let odd : (n % 2 == 0) ≡ false = grind arith in
      at_number n (omega (arith, is, lt))
      ∙ ap₂ (λ b i. cond b (evens i) (odds i)) odd half

  first_paired : Paired s m old between 32
  first_paired = record {
    even = λ j h. at_even j (2 * j) refl h;
    odd = λ j h. at_odd j (2 * j + 1) refl h;
  }

  -- the second round, at an even word and at an odd one
  module _ (new : List ℕ) (h : Doubled new 16) where
    even_by :
        (j x : ℕ) → j < 32 → x < 2 → j % 2 ≡ x →
        get_or new (2 * j) 0 ≡ even_word s' m' (get_or between j 0) (get_or between (j + 32) 0)
    even_by j zero lt lx e =
        let i = j / 2 in
        let at : 2 * j ≡ 4 * (j / 2) = omega (arith, e) in
        ap (λ n. get_or new n 0) at ∙ h.evens_even i (omega (arith, lt))
        ∙ sym (ap₂ (even_word s' m') (at_even i j (omega (arith, e)) (omega (arith, lt)))
        (at_even (i + 16) (j + 32) (omega (arith, e)) (omega (arith, lt))))
    even_by j (suc zero) lt lx e =
        let i = j / 2 in
        let at : 2 * j ≡ 4 * (j / 2) + 2 = omega (arith, e) in
        ap (λ n. get_or new n 0) at ∙ h.odds_even i (omega (arith, lt))
        ∙ sym (ap₂ (even_word s' m') (at_odd i j (omega (arith, e)) (omega (arith, lt)))
        (at_odd (i + 16) (j + 32) (omega (arith, e)) (omega (arith, lt))))
    even_by j (suc (suc x)) lt lx e = absurd (omega (arith, lx))

    odd_by :
        (j x : ℕ) → j < 32 → x < 2 → j % 2 ≡ x →
        get_or new (2 * j + 1) 0 ≡ odd_word s' m' (get_or between j 0) (get_or between (j + 32) 0)
    odd_by j zero lt lx e =
        let i = j / 2 in
        let at : 2 * j + 1 ≡ 4 * (j / 2) + 1 = omega (arith, e) in
        ap (λ n. get_or new n 0) at ∙ h.evens_odd i (omega (arith, lt))
        ∙ sym (ap₂ (odd_word s' m') (at_even i j (omega (arith, e)) (omega (arith, lt)))
        (at_even (i + 16) (j + 32) (omega (arith, e)) (omega (arith, lt))))
    odd_by j (suc zero) lt lx e =
        let i = j / 2 in
        let at : 2 * j + 1 ≡ 4 * (j / 2) + 3 = omega (arith, e) in
        ap (λ n. get_or new n 0) at ∙ h.odds_odd i (omega (arith, lt))
        ∙ sym (ap₂ (odd_word s' m') (at_odd i j (omega (arith, e)) (omega (arith, lt)))
        (at_odd (i + 16) (j + 32) (omega (arith, e)) (omega (arith, lt))))
    odd_by j (suc (suc x)) lt lx e = absurd (omega (arith, lx))

    second_paired : Paired s' m' between new 32
    second_paired = record {
      even = λ j lt. even_by j (j % 2) lt (mod-lt j (zero-lt-suc 1)) refl;
      odd = λ j lt. odd_by j (j % 2) lt (mod-lt j (zero-lt-suc 1)) refl;
    }

  pub rounds_made :
      (new : List ℕ) (k : ℕ) → IsMask s m → IsMask s' m' → k ≡ 16 → Doubled new k →
      (middle : List ℕ) × IsRound s old middle × IsRound s' middle new
  rounds_made new k mask mask' is h = (
    between,
    round_made s m old between mask first_paired,
    round_made s' m' between new mask' (second_paired new (subst (Doubled new) is h)),
  )
