-- The elements that iterated nodes and iterated symbols give, one by one.
use Rattle.lb_expand.proofs.Words
use Words.{◌≡◌, inl, inr, ℕ, ◌-◌, ◌<◌, true, ◌⊎◌, Some, List, [], ◌∷◌, ◌++◌, length, flat_map, refl}
use Words.{sym, ap, ◌∙◌, subst, arith, range_with_len, BinaryOperator, ArrayIterator, Map, Red}
use Words.{Fill, zip2, joined, tail_of, Name, Declaration, DataType, int, truth, is_arithmetic}
use Words.{is_logical, symbol_types, Element, gathered, last_of, iterated, FlatClock, FlatEquation}
use Words.{ApplyBinary, clock_reads, where_signed, State, Emitted, keep, joins, emit_symbol}
use Rattle.{lb_flat.proofs.lists.Lists.Every-of_range, lb_check.specs.Needs.symbol_needs}
use Rattle.lb_expand.proofs.lists.Lists.{SomeOf}
use Rattle.lb_expand.proofs.reads.LinkWords.{Pairs, pairs-append, pairs-pieces, AllMeet, AreLinks}
use Rattle.lb_expand.proofs.reads.LinkWords.{added, each_two, all_links, two_links, step}
use Rattle.lb_expand.proofs.reads.LinkWords.{chained_gives}
use Rattle.lb_expand.proofs.widths.TypeFacts.{elements_in, symbolic}

-- ## What iterated nodes give

module _ {A B : Type 0} (R : A → B → Type 0) (f : ℕ → Name → List A) (g : ℕ → Name → List B)
    (n : ℕ) (same : (i : ℕ) → i < n → (x : Name) → Pairs R (f i x) (g i x)) where
  gathered_pairs : (outs : List Declaration) → Pairs R (gathered f n outs) (gathered g n outs)
  gathered_pairs [] = tt
  gathered_pairs (o ∷ outs) =
      pairs-append R (flat_map (λ i. f i o.name) (range_with_len 0 n))
      (flat_map (λ i. g i o.name) (range_with_len 0 n)) (gathered f n outs) (gathered g n outs)
      (pairs-pieces R (λ i. f i o.name) (λ i. g i o.name) (range_with_len 0 n)
      (Every-of_range (λ i. Pairs R (f i o.name) (g i o.name)) 0 n
      (λ i lt. subst (λ i. Pairs R (f i o.name) (g i o.name)) (omega arith) (same i lt o.name))))
      (gathered_pairs outs)

  last_pairs : 0 < n → (outs : List Declaration) → Pairs R (last_of f n outs) (last_of g n outs)
  last_pairs positive [] = tt
  last_pairs positive (o ∷ outs) = same (n - 1) (omega (arith, positive)) o.name

  pub iterated_pairs :
      0 < n → (it : ArrayIterator) (outs : List Declaration) →
      Pairs R (iterated f n it outs) (iterated g n it outs)
  iterated_pairs positive Map outs = gathered_pairs outs
  iterated_pairs positive Red outs = last_pairs positive outs
  iterated_pairs positive Fill outs =
      pairs-append R (last_of f n outs) (last_of g n outs) (gathered f n (tail_of outs))
      (gathered g n (tail_of outs)) (last_pairs positive outs) (gathered_pairs (tail_of outs))

pub keep_found : (x : Emitted) → (keep x).found ≡ x.found
unfolding keep
keep_found x = refl

pub keep_equations : (x : Emitted) → (keep x).state.equations ≡ x.state.equations
unfolding keep
keep_equations x = refl

pub joins_found : (s : State) (qs : List FlatEquation) (is : List ℕ) → (joins s qs is).found ≡ is
unfolding joins
joins_found s qs is = refl

-- ## Types of iterated symbols

pub symbol_out :
    (op : BinaryOperator) (types : List DataType × List DataType) →
    symbol_types op ≡ Some types → elements_in types.1 ≡ 1
symbol_out op types e =
    let y = symbolic op types e in
    ap (λ (t : List DataType × List DataType). elements_in t.1) y.are ∙ by y.data_type y.of
  where
    by : (u : DataType) →
        ((is_arithmetic op ≡ true) × (u ≡ int)) ⊎ ((is_logical op ≡ true) × (u ≡ truth)) →
        elements_in (u ∷ []) ≡ 1
    by u (inl (a, e)) = ap (λ (t : DataType). elements_in (t ∷ [])) e
    by u (inr (l, e)) = ap (λ (t : DataType). elements_in (t ∷ [])) e

-- ## Clocks

pub signed_wider :
    (Left : ℕ → Type 0) (k : FlatClock) (sign : _) (is : List ℕ) →
    SomeOf Left (clock_reads k) → SomeOf Left (clock_reads (where_signed k sign is))
signed_wider Left k sign [] g = g
signed_wider Left k sign (i ∷ is) g = inr g

-- ## Iterated symbols

module _ (IsAt : Element → ℕ → Type 0) (Under : ℕ → ℕ → Type 0) (Left : ℕ → Type 0) where
  pub map_linked :
      (k : FlatClock) (op : BinaryOperator) (s : State) (found : List (List ℕ))
      (ysss : List (List (List Element))) → Pairs (AreLinks IsAt Under Left k) found ysss →
      AllMeet IsAt Under Left (emit_symbol k op s Map found).state.equations →
      AreLinks IsAt Under Left k (emit_symbol k op s Map found).found (symbol_needs Map ysss)
  map_linked k op s [] (ys ∷ ysss) l h = absurd l
  map_linked k op s (x ∷ found) [] l h = absurd l
  map_linked k op s (x ∷ []) (ys ∷ (zs ∷ ysss)) l h = absurd l.1
  map_linked k op s (x ∷ (x' ∷ found)) (ys ∷ []) l h = absurd l.1
  map_linked k op s (x ∷ (x' ∷ [])) (ys ∷ (zs ∷ [])) l h =
      let n = added IsAt Under Left k s (zip2 (ApplyBinary op) x x') h in
      each_two IsAt Under Left k (ApplyBinary op) (λ i j. refl) _ x x' ys zs n.new l.0 l.1.0
  map_linked k op s (x ∷ (x' ∷ [])) (ys ∷ (zs ∷ (ws ∷ ysss))) l h = absurd l.1.1
  map_linked k op s (x ∷ (x' ∷ (u ∷ found))) (ys ∷ (zs ∷ [])) l h = absurd l.1.1
  map_linked k op s _ _ l h = tt

  -- where something is found at all
  pub red_linked :
      (k : FlatClock) (op : BinaryOperator) (s : State) (found : List (List ℕ))
      (ysss : List (List (List Element))) → Pairs (AreLinks IsAt Under Left k) found ysss →
      0 < length (emit_symbol k op s Red found).found →
      AllMeet IsAt Under Left (emit_symbol k op s Red found).state.equations →
      AreLinks IsAt Under Left k (emit_symbol k op s Red found).found (symbol_needs Red ysss)
  red_linked k op s ((i ∷ []) ∷ (x ∷ [])) ((y ∷ []) ∷ (zs ∷ [])) l lt h =
      let g = chained_gives IsAt Under Left k op s i x h in
      let first = all_links IsAt Under Left k (i ∷ []) (y ∷ []) l.0 in
      let others = all_links IsAt Under Left k x zs l.1.0 in
      subst (λ is. AreLinks IsAt Under Left k is ((joined (y ∷ []) ++ joined zs) ∷ []))
      (sym g.is_found) (
        step IsAt Under Left k g.element (i ∷ x) (joined (y ∷ []) ++ joined zs) g.comes
            (two_links IsAt Under Left k (i ∷ []) x (joined (y ∷ [])) (joined zs) first others),
        tt,
      )
  red_linked k op s ((i ∷ []) ∷ (x ∷ [])) _ l lt h = search
  red_linked k op s _ ysss l lt h = absurd (omega (arith, lt))
