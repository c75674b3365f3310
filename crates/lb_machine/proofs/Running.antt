-- The run of straight code: what was done stays done, since later instructions write places that no
-- earlier one reads or writes.
use Rattle.std.proofs.Common.{◌≡◌, ℕ, suc, ◌+◌, ◌<◌, ◌≤◌, List, [], ◌∷◌, ◌++◌, length, get_or}
use Rattle.std.proofs.Common.{not, ◌||◌, drop, cond, refl, sym, ap, ap₂, ◌∙◌, subst, arith, ℤ}
use Rattle.std.proofs.Common.{add-one}
use Rattle.std.proofs.Math.Seq.{drop-cons}
use Rattle.std.proofs.Math.ListN.{drop_of_length-le}
use Rattle.std.specs.List.{AllByRecursion}
use Rattle.lb_lanes.specs.Kernels.{lane_of, kept, faulty}
use Rattle.lb_lanes.specs.Operators.{result_of}
use Rattle.lb_lanes.specs.Planes.{on}
use Rattle.lb_machine.specs.declared.instruction.Instruction.{Instruction}
use Rattle.lb_machine.specs.declared.instruction.Instruction.TheVariants.{Select, Compare}
use Rattle.lb_machine.specs.declared.instruction.Instruction.TheVariants.{Operate, Blend, Choose}
use Rattle.lb_machine.specs.declared.instructions.Choice.{Choice}
use Rattle.lb_machine.specs.Listed.{select_at, selects_from}
use Rattle.lb_machine.specs.Meaning.{Lane, lane_at, compared, IsDone}
use Rattle.lb_machine.specs.Straight.{IsNext, planes_after, words_after, IsStraight, IsFit}
use Rattle.lb_machine.specs.Straight.{KeepsPlane, KeepsWord}

-- ## Straight code

straight_planes :
    (p w : ℕ) (is : List Instruction) (P W : ℕ) → IsStraight p w is P W → p ≤ P
straight_planes p w [] P W h = omega (arith, h.0)
straight_planes p w (Select m a b out ∷ is) P W h =
    let le = straight_planes (suc p) w is P W h.1 in omega (arith, le)
straight_planes p w (Compare c a b out ∷ is) P W h =
    let le = straight_planes (suc p) w is P W h.1 in omega (arith, le)
straight_planes p w (Operate op a b idle left right out faults ∷ is) P W h =
    let le = straight_planes (suc p) (suc w) is P W h.1 in omega (arith, le)
straight_planes p w (Blend m a b out ∷ is) P W h = straight_planes p (suc w) is P W h.1
straight_planes p w (Choose c x y a b passed out ∷ is) P W h =
    let le = straight_planes (suc p) (suc w) is P W h.1 in omega (arith, le)

straight_words :
    (p w : ℕ) (is : List Instruction) (P W : ℕ) → IsStraight p w is P W → w ≤ W
straight_words p w [] P W h = omega (arith, h.1)
straight_words p w (Select m a b out ∷ is) P W h = straight_words (suc p) w is P W h.1
straight_words p w (Compare c a b out ∷ is) P W h = straight_words (suc p) w is P W h.1
straight_words p w (Operate op a b idle left right out faults ∷ is) P W h =
    let le = straight_words (suc p) (suc w) is P W h.1 in omega (arith, le)
straight_words p w (Blend m a b out ∷ is) P W h =
    let le = straight_words p (suc w) is P W h.1 in omega (arith, le)
straight_words p w (Choose c x y a b passed out ∷ is) P W h =
    let le = straight_words (suc p) (suc w) is P W h.1 in omega (arith, le)

-- after an instruction there are no fewer planes, and no fewer words
more_planes_after : (p : ℕ) (i : Instruction) → p ≤ planes_after p i
more_planes_after p (Select m a b out) = omega arith
more_planes_after p (Compare c a b out) = omega arith
more_planes_after p (Operate op a b idle left right out faults) = omega arith
more_planes_after p (Blend m a b out) = omega arith
more_planes_after p (Choose c x y a b passed out) = omega arith

more_words_after : (w : ℕ) (i : Instruction) → w ≤ words_after w i
more_words_after w (Select m a b out) = omega arith
more_words_after w (Compare c a b out) = omega arith
more_words_after w (Operate op a b idle left right out faults) = omega arith
more_words_after w (Blend m a b out) = omega arith
more_words_after w (Choose c x y a b passed out) = omega arith

-- an instruction that can be done next fits
next_fits :
    (p w P W : ℕ) (i : Instruction) → IsNext p w i → planes_after p i ≤ P → words_after w i ≤ W →
    IsFit P W i
next_fits p w P W (Select m a b out) n hp hw = (
  omega (arith, n.0, n.3),
  omega (arith, n.1, n.3),
  omega (arith, n.2, n.3),
  omega (arith, n.3, hp),
)
next_fits p w P W (Compare c a b out) n hp hw =
    (omega (arith, n.0, hw), omega (arith, n.1, hw), omega (arith, n.2, hp))
next_fits p w P W (Operate op a b idle left right out faults) n hp hw = (
  omega (arith, n.0, n.5),
  omega (arith, n.1, n.5),
  omega (arith, n.2, n.6),
  omega (arith, n.3, n.6),
  omega (arith, n.4, n.6),
  omega (arith, n.5, hw),
  omega (arith, n.6, hp),
)
next_fits p w P W (Blend m a b out) n hp hw = (
  omega (arith, n.0, hp),
  omega (arith, n.1, n.3),
  omega (arith, n.2, n.3),
  omega (arith, n.3, hw),
)
next_fits p w P W (Choose c x y a b passed out) n hp hw = (
  omega (arith, n.0, n.5),
  omega (arith, n.1, n.5),
  omega (arith, n.2, n.5),
  omega (arith, n.3, n.5),
  omega (arith, n.4, hp),
  omega (arith, n.5, hw),
)

-- an instruction that can be done next leaves the planes and words that are there
plane_kept : (p w : ℕ) (i : Instruction) (k : ℕ) → IsNext p w i → k < p → KeepsPlane i k
plane_kept p w (Select m a b out) k n h = λ e. omega (arith, n.3, h, e)
plane_kept p w (Compare c a b out) k n h = λ e. omega (arith, n.2, h, e)
plane_kept p w (Operate op a b idle left right out faults) k n h = λ e. omega (arith, n.6, h, e)
plane_kept p w (Blend m a b out) k n h = tt
plane_kept p w (Choose c x y a b passed out) k n h = λ e. omega (arith, n.4, h, e)

word_kept : (p w : ℕ) (i : Instruction) (k : ℕ) → IsNext p w i → k < w → KeepsWord i k
word_kept p w (Select m a b out) k n h = tt
word_kept p w (Compare c a b out) k n h = tt
word_kept p w (Operate op a b idle left right out faults) k n h = λ e. omega (arith, n.5, h, e)
word_kept p w (Blend m a b out) k n h = λ e. omega (arith, n.3, h, e)
word_kept p w (Choose c x y a b passed out) k n h = λ e. omega (arith, n.5, h, e)

-- ## What was done stays done

-- two lanes hold the same in the first `p` planes and the first `w` words
pub record AreAlike (p w : ℕ) (s s' : Lane) : Type 0 where
  pub planes : (k : ℕ) → k < p → s'.bits k ≡ s.bits k
  pub words : (k : ℕ) → k < w → s'.ints k ≡ s.ints k

stays_done :
    (p w : ℕ) (s s' : Lane) (i : Instruction) → IsNext p w i →
    AreAlike (planes_after p i) (words_after w i) s s' → IsDone s i → IsDone s' i
stays_done p w s s' (Select m a b out) n h d =
    h.planes out.0 (omega (arith, n.3)) ∙ d
    ∙ sym (ap (λ c. cond c (s'.bits a.0) (s'.bits b.0)) (h.planes m.0 (omega (arith, n.0)))
    ∙ ap₂ (cond (s.bits m.0)) (h.planes a.0 (omega (arith, n.1)))
    (h.planes b.0 (omega (arith, n.2))))
stays_done p w s s' (Compare c a b out) n h d =
    h.planes out.0 (omega (arith, n.2)) ∙ d
    ∙ sym (ap₂ (compared c) (h.words a.0 (omega (arith, n.0))) (h.words b.0 (omega (arith, n.1))))
stays_done p w s s' (Operate op a b idle left right out faults) n h d =
    let ea = h.words a.0 (omega (arith, n.0)) in
    let eb = h.words b.0 (omega (arith, n.1)) in
    let before =
    ap₂ (λ x y. x || y) (h.planes left.0 (omega (arith, n.3)))
    (h.planes right.0 (omega (arith, n.4))) in
    let active = ap₂ (λ x y. not (x || y)) (h.planes idle.0 (omega (arith, n.2))) before in
    let r = ap₂ (result_of op) ea eb in (
      h.words out.0 (omega (arith, n.5)) ∙ d.0 ∙ sym (ap₂ kept active r),
      h.planes faults.0 (omega (arith, n.6)) ∙ d.1
          ∙ sym (ap₂ (λ x y. x || y) before (ap₂ faulty active r)),
    )
stays_done p w s s' (Blend m a b out) n h d =
    h.words out.0 (omega (arith, n.3)) ∙ d
    ∙ sym (ap (λ c. cond c (s'.ints a.0) (s'.ints b.0)) (h.planes m.0 (omega (arith, n.0)))
    ∙ ap₂ (cond (s.bits m.0)) (h.words a.0 (omega (arith, n.1)))
    (h.words b.0 (omega (arith, n.2))))
stays_done p w s s' (Choose c x y a b passed out) n h d =
    let there = h.planes passed.0 (omega (arith, n.4)) in (
      there ∙ d.0
          ∙ sym (ap₂ (compared c) (h.words x.0 (omega (arith, n.0)))
          (h.words y.0 (omega (arith, n.1)))),
      h.words out.0 (omega (arith, n.5)) ∙ d.1
          ∙ sym (ap (λ t. cond t (s'.ints a.0) (s'.ints b.0)) there
          ∙ ap₂ (cond (s.bits passed.0)) (h.words a.0 (omega (arith, n.2)))
          (h.words b.0 (omega (arith, n.3)))),
    )

-- ## The rest of listed code

pub next_choice :
    (choices : List Choice) (more : List Instruction) (first k out : ℕ) (d c : Choice) →
    c ≡ get_or choices k d → k < length choices → first + k ≡ out →
    selects_from (first + k) (drop k choices) ++ more
    ≡ select_at out c ∷ (selects_from (first + (k + 1)) (drop (k + 1) choices) ++ more)
next_choice choices more first k out d c is lt e =
    let cut : drop k choices ≡ get_or choices k d ∷ drop (k + 1) choices =
    rw (add-one, drop-cons choices k d) in
    let next : first + k + 1 ≡ first + (k + 1) = omega arith in
    ap (λ cs. selects_from (first + k) cs ++ more)
    (cut ∙ ap (λ x. x ∷ drop (k + 1) choices) (sym is))
    ∙ ap₂ (λ n m. select_at n c ∷ (selects_from m (drop (k + 1) choices) ++ more)) e next

pub no_choice :
    (choices : List Choice) (more : List Instruction) (first k : ℕ) → length choices ≤ k →
    selects_from (first + k) (drop k choices) ++ more ≡ more
no_choice choices more first k le =
    ap (λ cs. selects_from (first + k) cs ++ more) (drop_of_length-le choices le)

-- ## The run

-- a run with `rest` of `code` to do: `rest` is straight from the next plane and word on, and in a
-- lane that agrees with this one before them, all `code` is done once `rest` is done
pub record IsRunning (n first_plane first_word : ℕ) (code : List Instruction) (P W : ℕ)
    (planes0 planes : List ℕ) (words0 words : List (List ℤ)) (rest : List Instruction) :
    Type 0 where
  pub next_plane : ℕ
  pub next_word : ℕ
  pub straight : IsStraight next_plane next_word rest P W
  pub planes_long : P ≤ length planes
  pub words_long : W ≤ length words
  pub more_planes : first_plane ≤ next_plane
  pub more_words : first_word ≤ next_word
  pub first_planes : (k : ℕ) → k < first_plane → get_or planes k 0 ≡ get_or planes0 k 0
  pub first_words : (k : ℕ) → k < first_word → get_or words k [] ≡ get_or words0 k []
  pub finishing :
      (lane : ℕ) → lane < n → (s : Lane) →
      AreAlike next_plane next_word (lane_at planes words lane) s →
      AllByRecursion (IsDone s) rest → AllByRecursion (IsDone s) code

module _ (n p w : ℕ) (code : List Instruction) (P W : ℕ) (planes0 planes : List ℕ)
    (words0 words : List (List ℤ)) (rest : List Instruction)
    (h : IsRunning n p w code P W planes0 planes words0 words rest) where
  -- when no code is left, all code has been done in each lane
  pub ends :
      rest ≡ [] → (lane : ℕ) → lane < n →
      AllByRecursion (IsDone (lane_at planes words lane)) code
  ends none lane lt =
      h.finishing lane lt (lane_at planes words lane)
      (record { planes = λ k l. refl; words = λ k l. refl })
      (subst (AllByRecursion (IsDone (lane_at planes words lane))) (sym none) tt)

  module _ (here : Instruction) (more : List Instruction) (cut : rest ≡ here ∷ more) where
    parts :
        IsNext h.next_plane h.next_word here
        × IsStraight (planes_after h.next_plane here) (words_after h.next_word here) more P W
    parts = subst (λ is. IsStraight h.next_plane h.next_word is P W) cut h.straight

    pub fits : IsFit (length planes) (length words) here
    fits =
        next_fits h.next_plane h.next_word (length planes) (length words) here parts.0
        (omega (arith, room_planes, h.planes_long)) (omega (arith, room_words, h.words_long))
      where
        room_planes : planes_after h.next_plane here ≤ P
        room_planes = straight_planes _ _ _ _ _ parts.1

        room_words : words_after h.next_word here ≤ W
        room_words = straight_words _ _ _ _ _ parts.1

    pub goes_on :
        (planes' : List ℕ) (words' : List (List ℤ)) → length planes' ≡ length planes →
        length words' ≡ length words →
        ((lane : ℕ) → lane < n → IsDone (lane_at planes' words' lane) here) →
        ((k : ℕ) → KeepsPlane here k → get_or planes' k 0 ≡ get_or planes k 0) →
        ((k : ℕ) → KeepsWord here k → get_or words' k [] ≡ get_or words k []) →
        IsRunning n p w code P W planes0 planes' words0 words' more
    goes_on planes' words' lp lw done planes_same words_same = record {
      next_plane = planes_after h.next_plane here;
      next_word = words_after h.next_word here;
      straight = parts.1;
      planes_long = omega (arith, lp, h.planes_long);
      words_long = omega (arith, lw, h.words_long);
      more_planes = omega (arith, h.more_planes, grown_planes);
      more_words = omega (arith, h.more_words, grown_words);
      first_planes = λ k l.
          planes_same k (plane_kept h.next_plane h.next_word here k parts.0
          (omega (arith, l, h.more_planes)))
          ∙ h.first_planes k l;
      first_words = λ k l.
          words_same k (word_kept h.next_plane h.next_word here k parts.0
          (omega (arith, l, h.more_words)))
          ∙ h.first_words k l;
      finishing = λ lane l s alike after.
          h.finishing lane l s (back lane s alike)
          (subst (AllByRecursion (IsDone s)) (sym cut) (
            stays_done h.next_plane h.next_word (lane_at planes' words' lane) s here parts.0 alike
                (done lane l),
            after,
          ));
    }
      where
        grown_planes : h.next_plane ≤ planes_after h.next_plane here
        grown_planes = more_planes_after h.next_plane here

        grown_words : h.next_word ≤ words_after h.next_word here
        grown_words = more_words_after h.next_word here

        back :
            (lane : ℕ) (s : Lane) →
            AreAlike (planes_after h.next_plane here) (words_after h.next_word here)
            (lane_at planes' words' lane) s →
            AreAlike h.next_plane h.next_word (lane_at planes words lane) s
        back lane s alike = record {
          planes = λ k l.
              alike.planes k (omega (arith, l, grown_planes))
              ∙ ap (λ x. on x lane) (planes_same k (plane_kept h.next_plane h.next_word here k
              parts.0 l));
          words = λ k l.
              alike.words k (omega (arith, l, grown_words))
              ∙ ap (λ x. lane_of x lane) (words_same k (word_kept h.next_plane h.next_word here k
              parts.0 l));
        }
