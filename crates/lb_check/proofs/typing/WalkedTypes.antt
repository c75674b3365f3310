-- The parts that a walk over a term notes, and rows that do not fit.
use Rattle.lb_check.proofs.Words
use Words.{Bool, Box, CallId, DataType, FoundNode, FoundTypes, Global, Group', IfOk, IsGiven}
use Words.{IsLeaf, IsSingle, IsWalked, Kept, List, None, OnOk, Option, Result, Signature, Term, Vec}
use Words.{[], all_some, and_second, ap, append-nil, are_met, are_one, arith, array_of, arrays}
use Words.{common, common_type, drop, drop-map, evaluated, false, flat_map, flat_map-append, get_or}
use Words.{given_of, has_arity, inl, inr, is_some, kept, length, length-append, length-drop}
use Words.{length-map, list_of, map, noted, one_type, only, option_map, outcome, part_size}
use Words.{placed_all_types, placed_types, refl, results, reverse, singly, subst, suc, sym, take}
use Words.{true, type_of, view_type, when_both, when_truth, where_true, with_parts, zero, ℕ, ◌&&◌}
use Words.{◌++◌, ◌+◌, ◌-◌, ◌<◌, ◌>>=◌, ◌∙◌, ◌∷◌, ◌≡◌, ◌≤◌}
use Rattle.lb_check.proofs.definitions.BrokenRules.{both_found, if_found}
use Rattle.lb_check.proofs.lists.ListPairs.{all_last, more_last, none_last}
use Rattle.lb_check.proofs.typing.SignatureRows.{fits_end, kept_both, kept_left, kept_none}
use Rattle.lb_check.proofs.typing.SignatureRows.{kept_over, moved_terms}
use Rattle.lb_check.proofs.typing.{TermSignatures.results_given, TypeRows.HasOneResult}
use Rattle.lb_check.proofs.typing.TypeRows.{group_placed, more_terms, row_placed, single_none}
use Rattle.lb_check.{proofs.typing.TypeRows.{single_type, type_is_only}, specs.PlacedTypes.AreKept}
use Rattle.lb_check.specs.PlacedTypes.{AreMoved, IsDecided, IsSideWalked, with_terms}
use Rattle.lb_check.specs.TermTypes.{Context, leaf_type}
use Rattle.lb_static.specs.declared.resolved.Term.{Group, If}
use Rattle.std.proofs.lemmas.List.{take-append-drop, take_all, take_more, Sums.sum_by-append}
use Rattle.lb_static.specs.declared.data_type.DataType as stored

-- The parts that a walk over a term notes, from those that it notes for the operands of the term.

-- parts are kept, and then those that stand before them
pub further : (before mid after : Kept) (xs ys : List FoundTypes) → mid ≡ kept before ys →
    after ≡ kept mid xs → after ≡ kept before (xs ++ ys)
further before mid after xs ys m a = a ∙ ap (λ k. kept k xs) m ∙ sym (kept_both before xs ys)

module _ (ctx : Context) where
  -- ## Terms of one result

  pub leaf_is : (t : Term) → IsLeaf t → leaf_type ctx t ≡ type_of ctx t
  unfolding type_of
  leaf_is t (inl (n, e)) = rw e refl
  leaf_is t (inr (inl (b, e))) = rw e refl
  leaf_is t (inr (inr (inl (i, e)))) = rw e refl
  leaf_is t (inr (inr (inr (x, e)))) = rw e refl

  group_type : (t : Term) (e : Box Term Global) → t ≡ Group e → type_of ctx t ≡ type_of ctx e.value
  unfolding type_of
  group_type t e is = rw is refl

  -- the type of a term comes from that of its one operand
  pub single_from : (t : Term) (e : Box Term Global) → IsSingle t e →
      (type_of ctx e.value >>= one_type ctx t) ≡ type_of ctx t
  single_from t e is = grind (arith, single_none ctx t e (inr is), single_type ctx t e)

  -- the type of a choice comes from those of its condition and its branches
  pub choice_type : (t : Term) (c a b : Box Term Global) → t ≡ If c a b →
      when_truth (type_of ctx c.value)
      (when_both (type_of ctx a.value) (type_of ctx b.value) common_type)
      ≡ type_of ctx t
  unfolding type_of
  choice_type t c a b is = rw is refl

  -- ## The parts that are noted for a term

  module _ (before mid after : Kept) where
    walked_group : (t : Term) (e : Box Term Global) (own : Option DataType) → t ≡ Group e →
        IsWalked ctx e.value before after own → IsWalked ctx t before after own
    walked_group t e own is w = (
      w.0 ∙ sym (group_type t e is),
      w.1 ∙ ap (kept before) (sym (group_placed ctx t e is)),
    )

    -- a term is noted after the parts of its operands
    noted_after : (t : Term) (xs : List FoundTypes) (r : FoundTypes) →
        placed_types ctx t ≡ results ctx t ∷ xs → r ≡ results ctx t → mid ≡ kept before xs →
        after ≡ noted mid r → after ≡ kept before (placed_types ctx t)
    noted_after t xs r whole is m a =
        a ∙ ap (λ k. noted k r) m ∙ ap (noted (kept before xs)) is
        ∙ ap (kept before) (sym whole)

    -- noting a term of one result, after its operands, completes the walk over it
    pub returns_one :
        {E : Type 0} (r : Result (Option stored.DataType) E)
        (t : Term) (xs : List FoundTypes) (own : Option DataType) → HasOneResult ctx t xs →
        own ≡ type_of ctx t → mid ≡ kept before xs →
        IfOk r (λ o. option_map view_type o ≡ own) → OnOk r (after ≡ noted mid (singly own)) →
        IfOk r (λ o. IsWalked ctx t before after (option_map view_type o))
    returns_one r t xs own form is m same a =
        both_found r (λ o. option_map view_type o ≡ own) (λ o. after ≡ noted mid (singly own))
        (λ o. IsWalked ctx t before after (option_map view_type o)) same a
        (λ o s e. (s ∙ is, noted_after t xs (singly own) form.1 (ap singly is ∙ sym form.0) m e))

    -- noting a term with a row of operands, a list apart, completes the walk over it
    pub given_noted :
        (called : CallId → Signature) (t : Term) (es : Vec Term Global)
        (given : Option (List (Option DataType))) →
        ((c : CallId) → ctx.call c ≡ evaluated (called c)) → IsGiven t es →
        given ≡ given_of called ctx t (map (type_of ctx) es.items) →
        mid ≡ kept before (placed_all_types ctx es.items) →
        after ≡ noted mid (given >>= all_some) →
        IsSideWalked ctx t before after (given >>= all_some)
    given_noted called t es given law is g m a =
        let same : (given >>= all_some) ≡ results ctx t =
        ap (λ o. o >>= all_some) g ∙ sym (results_given called ctx law t es is) in (
          same,
          noted_after t (placed_all_types ctx es.items) (given >>= all_some)
              (row_placed ctx t es (inr is)) same m a,
        )

    pub returns_given :
        {E : Type 0} (called : CallId → Signature) (r : Result (Option stored.DataType) E)
        (t : Term) (es : Vec Term Global) (given : Option (List (Option DataType))) →
        ((c : CallId) → ctx.call c ≡ evaluated (called c)) → IsGiven t es →
        given ≡ given_of called ctx t (map (type_of ctx) es.items) →
        mid ≡ kept before (placed_all_types ctx es.items) →
        IfOk r (λ o. option_map view_type o ≡ (given >>= all_some >>= only)) →
        OnOk r (after ≡ noted mid (given >>= all_some)) →
        IfOk r (λ o. IsWalked ctx t before after (option_map view_type o))
    returns_given called r t es given law is g m one a =
        let all = given >>= all_some in
        both_found r (λ o. option_map view_type o ≡ (all >>= only)) (λ o. after ≡ noted mid all)
        (λ o. IsWalked ctx t before after (option_map view_type o)) one a
        (λ o s e.
        let w = given_noted called t es given law is g m e in
        (s ∙ ap (λ r. r >>= only) w.0 ∙ sym (type_is_only ctx t), w.1))

    pub returns_group :
        {E : Type 0} (r : Result (Option stored.DataType) E) (t d : Term) (e : Box Term Global) →
        t ≡ Group e → d ≡ e.value →
        IfOk r (λ o. IsWalked ctx d before after (option_map view_type o)) →
        IfOk r (λ o. IsWalked ctx t before after (option_map view_type o))
    returns_group r t d e is same w =
        if_found r (λ o. IsWalked ctx d before after (option_map view_type o))
        (λ o. IsWalked ctx t before after (option_map view_type o)) w
        (λ o v. walked_group t e (option_map view_type o) is
        (subst (λ x. IsWalked ctx x before after (option_map view_type o)) same v))

    -- ## Right sides

    group_results : (t : Term) (e : Box Term Global) → t ≡ Group e →
        results ctx t ≡ results ctx e.value
    unfolding results
    group_results t e is = rw is refl

    pub side_group : (t d : Term) (e : Box Term Global) → t ≡ Group e → d ≡ e.value →
        (given : FoundTypes) → IsSideWalked ctx d before after given →
        IsSideWalked ctx t before after given
    side_group t d e is same given w = (
      w.0 ∙ ap (results ctx) same ∙ sym (group_results t e is),
      w.1 ∙ ap (λ x. kept before (placed_types ctx x)) same
          ∙ ap (kept before) (sym (group_placed ctx t e is)),
    )

  -- ## Rows

  module _ (all : List Term) where
    -- the types of the last `seen` terms, such as the last two of `[a, b, c]`
    abbrev pub later : ℕ → List (Option DataType)
    later seen = map (type_of ctx) (drop (length all - seen) all)

    pub later_none : later 0 ≡ []
    later_none = ap (map (type_of ctx)) (none_last all)

    pub later_more : (seen : ℕ) (x : Term) → seen < length all →
        x ≡ get_or all (length all - 1 - seen) x → later (seen + 1) ≡ type_of ctx x ∷ later seen
    later_more seen x lt is = ap (map (type_of ctx)) (more_last all seen x lt is)

    pub later_all : (seen : ℕ) → length all ≤ seen → later seen ≡ map (type_of ctx) all
    later_all seen le = ap (map (type_of ctx)) (all_last all seen le)

    pub later_length : (seen : ℕ) → seen ≤ length all → length (later seen) ≡ seen
    later_length seen le =
        let kept = length-map (drop (length all - seen) all) (type_of ctx) in
        let rest = length-drop (length all - seen) all in
        omega (arith, kept, rest, le)

    -- the parts of the last `seen` terms are noted
    module _ (before : Kept) where
      abbrev pub AreNoted : ℕ → Kept → Type 0
      AreNoted seen now = now ≡ kept before (placed_all_types ctx (drop (length all - seen) all))

      pub noted_none : AreNoted 0 before
      noted_none = sym (ap (λ es. kept before (placed_all_types ctx es)) (none_last all))

      pub noted_more : (seen : ℕ) (now more : Kept) (x : Term) → seen < length all →
          x ≡ get_or all (length all - 1 - seen) x → AreNoted seen now →
          more ≡ kept now (placed_types ctx x) → AreNoted (seen + 1) more
      noted_more seen now more x lt is w e =
          let rest = drop (length all - seen) all in
          further before now more (placed_types ctx x) (placed_all_types ctx rest) w e
          ∙ sym (ap (λ es. kept before (placed_all_types ctx es)) (more_last all seen x lt is))

      pub noted_all : (seen : ℕ) (now : Kept) → length all ≤ seen → AreNoted seen now →
          now ≡ kept before (placed_all_types ctx all)
      noted_all seen now le w =
          w ∙ ap (λ es. kept before (placed_all_types ctx es)) (all_last all seen le)

-- A row of operands that do not fit is decided by its last operands.

abbrev Types : Type 0
Types = List (Option DataType)

-- ## Operands

met_last : (k : ℕ) (ws os : Types) → are_met ws os ≡ true → are_met (drop k ws) (drop k os) ≡ true
met_last zero ws os e = e
met_last (suc k) [] [] e = refl
met_last (suc k) (w ∷ ws) (o ∷ os) e = met_last k ws os (and_second (are_one w o) (are_met ws os) e)
met_last _ _ _ e = absurd cc

-- a row does not fit where its last operands do not fit
pub fit_none : (s : Signature) (count at : ℕ) (os : Types) → length os ≡ count →
    (has_arity s count && are_met (drop at s.takes) (drop at os)) ≡ false →
    (s.stands && are_met s.takes os) ≡ false
fit_none s count at os many e = grind (arith, fits_end s count os many, met_last at s.takes os)

-- ## Elements of a list

-- no type has an array of length `n`, where one type has none
none_so_long : (n : ℕ) (t : DataType) → array_of n t ≡ None → (o : Option DataType) →
    arrays n o ≡ None
none_so_long n t e o = grind arith

list_none : (n k : ℕ) (os : Types) → k < length os →
    is_some (arrays n (common (drop k os))) ≡ false → arrays n (common os) ≡ None
list_none n zero os lt e = grind arith
list_none n (suc k) [] lt e = absurd (omega (arith, lt))
list_none n (suc k) (o ∷ []) lt e = absurd (omega (arith, lt))
list_none n (suc k) (o ∷ (p ∷ os)) lt e =
    let rest = list_none n k (p ∷ os) (omega (arith, lt)) e in grind (arith, none_so_long n)

-- ## Kept parts

module _ (ctx : Context) where
  some_placed : (t : Term) → 0 < length (placed_types ctx t)
  unfolding placed_types
  some_placed (Group' p e) = some_placed e
  some_placed t = omega arith

  some_placed_all : (es : List Term) → 0 < length es → 0 < length (placed_all_types ctx es)
  some_placed_all [] lt = absurd (omega (arith, lt))
  some_placed_all (e ∷ es) lt =
      let some = some_placed e in
      let all = length-append (placed_types ctx e) (placed_all_types ctx es) in
      omega (arith, some, all)

  module _ (all : List Term) (seen : ℕ) where
    -- the parts kept after the last operands are those kept after all, where none is kept any more
    kept_last :
        (before now : Kept) → 0 < seen → seen < length all → AreNoted ctx all before seen now →
        now.left ≡ 0 → now ≡ kept before (placed_all_types ctx all)
    kept_last before now some lt w none =
        let at = length all - seen in
        let first = placed_all_types ctx (take at all) in
        let last = placed_all_types ctx (drop at all) in
        let many = length-drop at all in
        let more = some_placed_all (drop at all) (omega (arith, many, some, lt)) in
        let over = w ∙ kept_none before last more (ap (λ k. k.left) (sym w) ∙ none) in
        further before now now first last w (sym (kept_over now first over))
        ∙ ap (kept before)
        (sym (flat_map-append (placed_types ctx) (take at all) (drop at all))
        ∙ ap (placed_all_types ctx) (take-append-drop at all))

    later_types : later ctx all seen ≡ drop (length all - seen) (map (type_of ctx) all)
    later_types = sym (drop-map (type_of ctx) (length all - seen) all)

    module _
        (before now : Kept) (lt : seen < length all) (w : AreNoted ctx all before seen now) where
      -- a list of elements of no one type, or of too many, is decided by its last elements
      pub list_decided : (o : Option DataType) → o ≡ common (later ctx all seen) →
          IsDecided seen (is_some (arrays (length all) o)) now.left →
          (None ≡ list_of (map (type_of ctx) all))
          × (now ≡ kept before (placed_all_types ctx all))
      list_decided o e d =
          let types = map (type_of ctx) all in
          let n = length all in
          let many = length-map all (type_of ctx) in
          let last : is_some (arrays n (common (drop (n - seen) types))) ≡ false =
          ap (λ os. is_some (arrays n (common os))) (sym later_types)
          ∙ ap (λ o. is_some (arrays n o)) (sym e) ∙ d.1 in
          let none = list_none n (n - seen) types (omega (arith, many, d.0, lt)) last in (
            sym (ap (λ m. arrays m (common types)) many ∙ none),
            kept_last before now d.0 lt w d.2,
          )

      -- operands that do not fit are decided by the last ones
      pub row_decided : (s : Signature) (fits : Bool) →
          fits ≡ (has_arity s (length all)
          && are_met (drop (length all - seen) s.takes) (later ctx all seen)) →
          IsDecided seen fits now.left →
          (None ≡ outcome s (map (type_of ctx) all))
          × (now ≡ kept before (placed_all_types ctx all))
      row_decided s fits e d =
          let types = map (type_of ctx) all in
          let n = length all in
          let at = n - seen in
          let none = fit_none s n at types (length-map all (type_of ctx))
          (ap (λ os. has_arity s n && are_met (drop at s.takes) os) (sym later_types) ∙ sym e ∙ d.1)
          in (
            sym (ap (λ b. where_true b s.gives) none),
            kept_last before now d.0 lt w d.2,
          )

-- ## The terms that are kept, of one statement after another

-- terms are noted and moved
pub keeps_moved :
    (os : List FoundTypes) (before after moved : Kept) (f g : FoundNode) → before.found ≡ [] →
    after ≡ kept before os → AreMoved after moved f g → AreKept os before moved f g
keeps_moved os before after moved f g none walked m =
    let left = ap (λ (k : Kept). k.left) m.0 ∙ ap (λ (k : Kept). k.left) walked in (
      ap (λ (k : Kept). k.found) m.0,
      left ∙ kept_left before os,
      λ some.
          m.1 ∙ ap (λ (k : Kept). with_parts f (reverse k.found)) walked
          ∙ moved_terms f before os none (λ e. some (left ∙ e)),
    )

-- nothing is kept any more
pub keeps_nothing : (os : List FoundTypes) (k : Kept) (f : FoundNode) → k.found ≡ [] →
    k.left ≡ 0 → AreKept os k k f f
keeps_nothing os k f none over = (none, omega (arith, over), λ some. absurd (some over))

-- terms are kept, and then those behind them
pub keeps_more :
    (xs ys : List FoundTypes) (before mid after : Kept) (f g h : FoundNode) →
    AreKept xs before mid f g → AreKept ys mid after g h → AreKept (xs ++ ys) before after f h
keeps_more xs ys before mid after f g h a b =
    let sum = sum_by-append part_size xs ys in (
      b.0,
      omega (arith, a.1, b.1, sum),
      λ some.
          b.2 some ∙ ap (λ n. with_terms n ys) (a.2 (λ e. some (omega (arith, e, b.1))))
          ∙ sym (more_terms f xs ys),
    )

module _ {A : Type 0} (f : A → List FoundTypes) (all : List A) (i : ℕ) where
  -- the terms of one more item are kept
  pub keeps_next :
      (x : A) → i < length all → x ≡ get_or all i x → (before mid after : Kept)
      (g h k : FoundNode) → AreKept (flat_map f (take i all)) before mid g h →
      AreKept (f x) mid after h k → AreKept (flat_map f (take (i + 1) all)) before after g k
  keeps_next x lt is before mid after g h k a b =
      let first = flat_map f (take i all) in
      let more : flat_map f (take (i + 1) all) ≡ first ++ f x =
      ap (flat_map f) (take_more all i x lt)
      ∙ flat_map-append f (take i all) (get_or all i x ∷ [])
      ∙ ap (λ y. first ++ (f y ++ [])) (sym is) ∙ ap (λ l. first ++ l) (append-nil (f x)) in
      subst (λ os. AreKept os before after g k) (sym more)
      (keeps_more first (f x) before mid after g h k a b)

  -- the terms of all items are kept
  pub keeps_all : length all ≤ i → (before after : Kept) (g h : FoundNode) →
      AreKept (flat_map f (take i all)) before after g h →
      AreKept (flat_map f all) before after g h
  keeps_all le before after g h =
      subst (λ l. AreKept (flat_map f l) before after g h) (take_all i all le)
