-- A memory in the following lane holds what its sources hold in this one.
use Rattle.std.proofs.Common.{◌≡◌, ◌≢◌, ℕ, suc, ◌+◌, ◌<◌, ◌⊎◌, ◌||◌, Bool, false, List}
use Rattle.std.proofs.Common.{[]}
use Rattle.std.proofs.Common.{◌∷◌, get_or, length, cond, All, refl, sym, ap, ap₂, ◌∙◌, subst}
use Rattle.std.proofs.Common.{inl, inr, arith}
use Rattle.std.proofs.lemmas.List.{get_or_append_left, get_or_push, length_push}
use Rattle.std.proofs.lemmas.List.Elements.{All-push}
use Rattle.lb_syntax.specs.Lists.{In}
use Rattle.lb_syntax.specs.declared.tree.Kind.{Kind}
use Rattle.lb_syntax.specs.declared.tree.Kind.TheVariants.{Bool as Bool_kind}
use Rattle.lb_check.specs.Scalars.{Scalar, Integer, Boolean}
use Rattle.lb_check.specs.Verdicts.{is_bad}
use Rattle.lb_flat.specs.Fitting.{IsOf, OperandKinds}
use Rattle.lb_flat.specs.Flat.{Operation, Input, Constant, Copy, ApplyUnary, ApplyBinary, Choose}
use Rattle.lb_flat.specs.Flat.{FirstThen, Previous, Latest, Sample}
use Rattle.lb_flat.specs.Judging.{some_in}
use Rattle.lb_machine.specs.Correct.{IsGrown}
use Rattle.lb_machine.specs.Listed.{listed}
use Rattle.lb_machine.specs.Meaning.{Lane, HasRun}
use Rattle.lb_machine.specs.declared.code.Code.{Code}
use Rattle.lb_machine.specs.declared.instruction.PlaneId.{PlaneId}
use Rattle.lb_machine.specs.declared.instruction.WordId.{WordId}
use Rattle.lb_sim.specs.Allotted.{IsFlagHolding}
use Rattle.lb_sim.specs.Holdings.{IsFor}
use Rattle.lb_sim.specs.Homes.{plane_in, word_in, IsSet, IsRow, IsFlagHome, IsCellHome, IsMemory}
use Rattle.lb_sim.specs.Passing.{AreCopies, IsPlaneSource, IsWordSource, IsTaken, AreTaken}
use Rattle.lb_sim.specs.Passing.{IsNextOf}
use Rattle.lb_sim.proofs.Growth.{grown_then}
use Rattle.lb_sim.specs.Showing.{shown, value_at, value_kind, scalar_at, kind_of, row_at, IsPlain}
use Rattle.lb_sim.specs.States.{flag_of, flag_at, holding_of, present_at, IsMoved}
use Rattle.lb_sim.specs.Steady.{IsHeldFor, ShowsMemory}
use Rattle.lb_sim.specs.declared.place.Holding.{Holding}
use Rattle.lb_sim.specs.declared.place.Place.{Place}
use Rattle.lb_sim.specs.declared.place.Value.{Value}
use Rattle.lb_sim.specs.declared.place.Value.TheVariants.{Truth, Negated, Number}
use Rattle.lb_sim.specs.declared.sources.Copies.{Copies}
use Rattle.lb_sim.proofs.Committing.{carried_holding, named_moved, IsKeptIn}
use Rattle.lb_sim.proofs.HomeRows.{row_passes, row_takes}

-- ## Sources of code that grows

pub plane_source_grown : (a b : Code) (next : ℕ) (p : PlaneId) → IsGrown a b →
    IsPlaneSource a next p → IsPlaneSource b next p
plane_source_grown a b next p g h = record {
  own = omega (arith, h.own, g.first_plane);
  within = omega (arith, h.within, g.planes);
  means = λ s r. h.means s (g.runs s r);
}

pub copies_grown : (a b : Code) (c : Copies) → IsGrown a b → AreCopies a c → AreCopies b c
copies_grown a b c g h = record {
  nowhere = plane_source_grown a b 0 c.nowhere g h.nowhere;
  everywhere = plane_source_grown a b 1 c.everywhere g h.everywhere;
}

pub taken_weaker : {A : Type 0} (P R : A → Type 0) → ((x : A) → P x → R x) → (home : ℕ)
    (old new : List A) → IsTaken P home old new → IsTaken R home old new
taken_weaker P R f home old new (inl h) = inl h
taken_weaker P R f home old new (inr h) =
    inr (h.0, record { source = h.1.source; items = h.1.items; law = f h.1.source h.1.law })

for_grown : (a b : Code) (kind : Kind) (v : Lane → Scalar) (h : Holding) → IsGrown a b →
    IsFor a kind v h → IsFor b kind v h
for_grown a b kind v h g f = record { kind_is = f.kind_is; means = λ s r. f.means s (g.runs s r) }

pub next_grown : (a b : Code) (places : List Place) (home : Holding) (o : Operation) (g : Holding) →
    IsGrown a b → IsNextOf a places home o g → IsNextOf b places home o g
next_grown a b places home (FirstThen s x y) g more h =
    record { kind_is = h.kind_is; means = λ s r. h.means s (more.runs s r) }
next_grown a b places home (Previous v x) g more h =
    record { plain = h.plain; is_for = λ e. for_grown a b _ _ g more (h.is_for e) }
next_grown a b places home (Latest v x) g more h =
    record { plain = h.plain; is_for = λ e. for_grown a b _ _ g more (h.is_for e) }
next_grown a b places home (Input j) g more h = tt
next_grown a b places home (Constant v) g more h = tt
next_grown a b places home (Copy x) g more h = tt
next_grown a b places home (ApplyUnary op x) g more h = tt
next_grown a b places home (ApplyBinary op x y) g more h = tt
next_grown a b places home (Choose c x y) g more h = tt
next_grown a b places home (Sample x) g more h = tt

-- the sources of a memory, one after the other
pub all_taken :
    (a b c d : Code) (home next : Holding) (hp np : PlaneId) (hw nw : WordId)
    (P after_value after_nil P' : List PlaneId) (W W' : List WordId) →
    hp.0 ≡ plane_in home.value → np.0 ≡ plane_in next.value → hw.0 ≡ word_in home.value →
    nw.0 ≡ word_in next.value → IsTaken (IsPlaneSource a np.0) hp.0 P after_value →
    IsTaken (IsPlaneSource b next.nil.0) home.nil.0 after_value after_nil →
    IsTaken (IsPlaneSource c next.bad.0) home.bad.0 after_nil P' →
    IsTaken (IsWordSource d nw.0) hw.0 W W' → IsGrown a b → IsGrown b c → IsGrown c d →
    AreTaken d home next P P' W W'
all_taken a b c d home next hp np hw nw P x y P' W W' ehp enp ehw enw tv tn tb tw g h k = record {
  after_value = x;
  after_nil = y;
  value =
      taken_weaker (IsPlaneSource a (plane_in next.value)) (IsPlaneSource d (plane_in next.value))
      (λ p. plane_source_grown a d (plane_in next.value) p
      (grown_then a b d g (grown_then b c d h k)))
      (plane_in home.value) P x
      (subst (λ n. IsTaken (IsPlaneSource a (plane_in next.value)) n P x) ehp
      (subst (λ n. IsTaken (IsPlaneSource a n) hp.0 P x) enp tv));
  nil =
      taken_weaker (IsPlaneSource b next.nil.0) (IsPlaneSource d next.nil.0)
      (λ p. plane_source_grown b d next.nil.0 p (grown_then b c d h k)) home.nil.0 x y tn;
  bad =
      taken_weaker (IsPlaneSource c next.bad.0) (IsPlaneSource d next.bad.0)
      (λ p. plane_source_grown c d next.bad.0 p k) home.bad.0 y P' tb;
  word =
      subst (λ n. IsTaken (IsWordSource d (word_in next.value)) n W W') ehw
      (subst (λ n. IsTaken (IsWordSource d n) hw.0 W W') enw tw);
}

-- ## One place

module _ {A : Type 0} (P : A → Type 0) (first home : ℕ) (old new : List A)
    (taken : IsTaken P home old new) where
  -- a law holds of each source, one more included
  pub taken_all : (R : A → Type 0) → ((x : A) → P x → R x) → All R old → All R new
  taken_all R f all = by taken
    where
      by : IsTaken P home old new → All R new
      by (inl h) = subst (All R) (sym h.1) all
      by (inr h) =
          subst (All R) (sym h.1.items) (All-push R old h.1.source all (f h.1.source h.1.law))

  pub taken_row :
      (rest : List ℕ) (end : ℕ) → 0 < first → IsRow (first + length old) (home ∷ rest) end →
      IsRow (first + length new) rest end
  taken_row rest end lt row = by taken
    where
      by : IsTaken P home old new → IsRow (first + length new) rest end
      by (inl h) =
          subst (λ xs. IsRow (first + length xs) rest end) (sym h.1)
          (row_passes (first + length old) end home rest (omega (arith, lt)) h.0 row)
      by (inr h) =
          let longer : length new ≡ length old + 1 =
          ap length h.1.items ∙ length_push old h.1.source in
          let next : suc (first + length old) ≡ first + length new = omega (arith, longer) in
          subst (λ n. IsRow n rest end) next
          ((row_takes (first + length old) end home rest h.0 row).1)

  -- in the following lane, the place holds what its source holds in this one
  module _ {T : Type 0} (number : A → ℕ) (look look' : ℕ → T) where
    pub carried_before :
        ((j : ℕ) (d : A) → j < length new → look' (first + j) ≡ look (number (get_or new j d))) →
        (j : ℕ) (d : A) → j < length old → look' (first + j) ≡ look (number (get_or old j d))
    carried_before carried j d lt = by taken
      where
        by : IsTaken P home old new → look' (first + j) ≡ look (number (get_or old j d))
        by (inl h) =
            subst
            (λ (xs : List A). (j < length xs → look' (first + j) ≡ look (number (get_or xs j d))))
            h.1 (carried j d) lt
        by (inr h) =
            let longer : length new ≡ length old + 1 =
            ap length h.1.items ∙ length_push old h.1.source in
            carried j d (omega (arith, longer, lt))
            ∙ ap (λ (x : A). look (number x))
            (ap (λ (xs : List A). get_or xs j d) h.1.items
            ∙ get_or_append_left old (h.1.source ∷ []) d j lt)

    pub carried_here :
        ((j : ℕ) (d : A) → j < length new → look' (first + j) ≡ look (number (get_or new j d))) →
        (rest : List ℕ) (end next : ℕ) → IsRow (first + length old) (home ∷ rest) end →
        ((x : A) → P x → look (number x) ≡ look next) → home ≢ 0 → look' home ≡ look next
    carried_here carried rest end next row means ne = by taken
      where
        by : IsTaken P home old new → look' home ≡ look next
        by (inl h) = absurd (ne h.0)
        by (inr h) =
            let longer : length new ≡ length old + 1 =
            ap length h.1.items ∙ length_push old h.1.source in
            let x = h.1.source in
            ap look' ((row_takes (first + length old) end home rest h.0 row).0)
            ∙ carried (length old) x (omega (arith, longer))
            ∙ ap (λ (y : A). look (number y))
            (ap (λ (xs : List A). get_or xs (length old) x) h.1.items
            ∙ get_or_push old x x (length old) refl)
            ∙ means x h.1.law

-- ## One memory

-- the places of memory `h` hold in `s'` what those of `g` hold in `s`; 0 stands for no place
pub record IsHandedOver (s s' : Lane) (h g : Holding) : Type 0 where
  pub value : plane_in h.value ≢ 0 → s'.bits (plane_in h.value) ≡ s.bits (plane_in g.value)
  pub nil : h.nil.0 ≢ 0 → s'.bits h.nil.0 ≡ s.bits g.nil.0
  pub bad : h.bad.0 ≢ 0 → s'.bits h.bad.0 ≡ s.bits g.bad.0
  pub word : word_in h.value ≢ 0 → s'.ints (word_in h.value) ≡ s.ints (word_in g.value)
  pub now : s.bits 0 ≡ false
  pub after : s'.bits 0 ≡ false

value_handed :
    (s s' : Lane) (x y : Value) → value_kind x ≡ value_kind y → IsSet x → IsPlain y →
    (plane_in x ≢ 0 → s'.bits (plane_in x) ≡ s.bits (plane_in y)) →
    (word_in x ≢ 0 → s'.ints (word_in x) ≡ s.ints (word_in y)) → value_at s' x ≡ value_at s y
value_handed s s' (Truth p) (Truth q) e n b bits ints = ap Boolean (bits n)
value_handed s s' (Number v) (Number w) e n b bits ints = ap Integer (ints n)
value_handed s s' (Truth p) (Number w) e n b bits ints = absurd (cc)
value_handed s s' (Number v) (Truth q) e n b bits ints = absurd (cc)
value_handed s s' (Negated p) y e n b bits ints = absurd n
value_handed s s' (Truth p) (Negated q) e n b bits ints = absurd b
value_handed s s' (Number v) (Negated q) e n b bits ints = absurd b

flag_cases : (s : Lane) (x : Value) (b n : Bool) → value_kind x ≡ Bool_kind → IsPlain x →
    b ≡ false → n ≡ false → flag_of (shown b n (value_at s x)) ≡ s.bits (plane_in x)
flag_cases s (Truth p) b n k d e f = ap₂ (λ b n. flag_of (shown b n (Boolean (s.bits p.0)))) e f
flag_cases s (Negated p) b n k d e f = absurd d
flag_cases s (Number w) b n k d e f = absurd (cc)

set_plane : (x : Value) → value_kind x ≡ Bool_kind → IsSet x → plane_in x ≢ 0
set_plane (Truth p) k n = n
set_plane (Negated p) k n = absurd n
set_plane (Number w) k n = absurd (cc)

-- a value that is set is no negation
set_plain : (x : Value) → IsSet x → IsPlain x
set_plain (Truth p) n = tt
set_plain (Negated p) n = n
set_plain (Number w) n = tt

-- the flag of a holding is the bit of its plane
flag_is : (s : Lane) (h : Holding) → IsFlagHolding h → s.bits 0 ≡ false →
    flag_at s h ≡ s.bits (plane_in h.value)
flag_is s h f e =
    flag_cases s h.value (s.bits h.bad.0) (s.bits h.nil.0) f.kind_is f.plain
    (ap s.bits f.no_bad ∙ e) (ap s.bits f.no_nil ∙ e)

-- the memory of `->` is a flag
pub flag_holding : (h : Holding) → IsFlagHome h → IsFlagHolding h
flag_holding h f = record {
  kind_is = f.kind_is;
  plain = set_plain h.value f.is_set;
  no_nil = f.nil;
  no_bad = f.bad;
}

module _ (code : Code) (s s' : Lane) (run : HasRun (listed code.instructions) s)
    (places : List Place) (named : List ℕ)
    (quiet : some_in is_bad (row_at s places) named ≡ false) (N : ℕ → Kind)
    (kinds : (e : ℕ) → e < length places → kind_of (holding_of places e) ≡ N e) where
  cell_moves :
      (kind : Kind) (v : Scalar) (a : ℕ) (h held g : Holding) → a < length places → N a ≡ kind →
      IsOf kind v → IsCellHome kind (In a named) v h → kind_of held ≡ kind_of h →
      scalar_at s held ≡ scalar_at s h → IsHandedOver s s' h g →
      IsNextOf code places held (Previous v a) g →
      scalar_at s' h
      ≡ cond (present_at s places a) (scalar_at s (holding_of places a)) (scalar_at s h)
  cell_moves kind v a h held g lt same of home alike shows over next =
      let kept_kind : kind_of h ≡ kind = home.kind_is of in
      let from_kind : kind_of (holding_of places a) ≡ kind = kinds a lt ∙ same in
      let is = next.is_for (from_kind ∙ sym (alike ∙ kept_kind)) in
      let from : Scalar = scalar_at s (holding_of places a) in
      let means : scalar_at s g ≡ cond (present_at s places a) from (scalar_at s h) =
      is.means s run ∙ ap (cond (present_at s places a) from) shows in
      let value : value_at s' h.value ≡ value_at s g.value =
      value_handed s s' h.value g.value (kept_kind ∙ sym from_kind ∙ sym is.kind_is) home.is_set
      next.plain over.value over.word in
      by home.bad means value
    where
      by : (h.bad.0 ≢ 0) ⊎ ((h.bad.0 ≡ 0) × In a named) →
          scalar_at s g
          ≡ cond (present_at s places a) (scalar_at s (holding_of places a)) (scalar_at s h) →
          value_at s' h.value ≡ value_at s g.value →
          scalar_at s' h
          ≡ cond (present_at s places a) (scalar_at s (holding_of places a)) (scalar_at s h)
      by (inl ne) means value =
          carried_holding s s' h g value (over.nil home.nil) (over.bad ne) ∙ means
      by (inr none) means value =
          named_moved s s' places named a h g lt quiet none.1 (ap s.bits none.0 ∙ over.now)
          (ap s'.bits none.0 ∙ over.after) value (over.nil home.nil) means

  -- the memory of an operation moves on, where `held` shows the memory now
  pub memory_moves :
      (inputs : List Kind) (kind : Kind) (o : Operation) (h held g : Holding) →
      OperandKinds inputs N kind o → IsMemory kind (λ a. In a named) o h → IsHeldFor o h held →
      ShowsMemory s o h held → IsKeptIn places o → IsHandedOver s s' h g →
      IsNextOf code places held o g → IsMoved s s' places h o
  memory_moves inputs kind (FirstThen started a b) h held g fits home alike shows lt over next =
      flag_is s' h (flag_holding h home) over.after
      ∙ over.value (set_plane h.value home.kind_is home.is_set)
      ∙ next.means s run
      ∙ ap (λ b. b || present_at s places a) (sym (flag_is s held alike over.now) ∙ shows)
  memory_moves inputs kind (Previous v a) h held g fits home alike shows lt over next =
      cell_moves kind v a h held g lt fits.1 fits.0 home alike shows over next
  memory_moves inputs kind (Latest v a) h held g fits home alike shows lt over next =
      cell_moves kind v a h held g lt fits.1 fits.0 home alike shows over next
  memory_moves inputs kind (Input j) h held g fits home alike shows lt over next = tt
  memory_moves inputs kind (Constant v) h held g fits home alike shows lt over next = tt
  memory_moves inputs kind (Copy a) h held g fits home alike shows lt over next = tt
  memory_moves inputs kind (ApplyUnary op a) h held g fits home alike shows lt over next = tt
  memory_moves inputs kind (ApplyBinary op a b) h held g fits home alike shows lt over next = tt
  memory_moves inputs kind (Choose c a b) h held g fits home alike shows lt over next = tt
  memory_moves inputs kind (Sample a) h held g fits home alike shows lt over next = tt
