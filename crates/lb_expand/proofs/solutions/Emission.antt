-- If the emitted equations hold, the elements found have the streams of their expression, and the
-- copies hold exactly if every call in it is joined.
use Rattle.lb_expand.proofs.Words
use Words.{◌≡◌, ℕ, ◌+◌, false, Option, Some, None, option_map, pos, List, [], ◌∷◌, ◌++◌, map, take}
use Words.{drop, refl, sym, ap, ap₂, ◌∙◌, subst, map-append, Every, zip2, copies, joined, either_or}
use Words.{Name, Node_named, Symbol, Expr, Literal, Truth, Variable, Group, Unary, Binary, If}
use Words.{Arrow, Fby, Pre, Current, When, Replicate, Index, Slice, Join, Array, AtMostOne, Nor}
use Words.{Call, Iterate, Exprs, Nil, Cons, Declaration, Program, Instance, name_value, node_named}
use Words.{Scalar, Integer, Boolean, Stream, or_fault, two_scalars, one_scalar, none_true}
use Words.{at_most_one, first_value, On, declared_clock, Occurrence, at, call_count, call_clocks}
use Words.{occurrences, occurrences_in, occurrences_each, History, presence, constantly, along}
use Words.{along_two, choices, previous, first_then, sample, latest, across, symbols, streams}
use Words.{all_streams, argument_streams, number, outputs_of, Inputs, IsJoined, FlatClock}
use Words.{Operation, Constant, ApplyUnary, ApplyBinary, FirstThen, Previous, Latest, Sample}
use Words.{FlatEquation, column, instants, operate, AreLong, Layout, flat_clock, State, Emitted}
use Words.{EmittedAll, add, joins, keep, chosen_by, emit_name, emit, emit_all, emit_each}
use Rattle.lb_check.specs.Clocks.{Clock}
use Rattle.lb_flat.proofs.lists.Lists.{Every-append, Every-first, Every-second}
use Rattle.lb_expand.proofs.lists.Lists.{map-take, map-drop, map-copies, map-joined, map-pieces}
use Rattle.lb_expand.proofs.reads.LinkSymbols.{joins_found}
use Rattle.lb_expand.proofs.solutions.Placing.{IsMet, columns, AllMet, Added, add_sound, each_one}
use Rattle.lb_expand.proofs.solutions.Placing.{each_two, each_choice, nor_sound, at_most_one_sound}
use Rattle.lb_expand.proofs.solutions.Placing.{symbol_sound, Agrees, IsPlaced, presence_flat}
use Rattle.lb_expand.proofs.solutions.Placing.{constantly_flat, call_sound, call_holds}
use Rattle.lb_expand.proofs.solutions.Placing.{iterator_sound, iterator_holds, iterated_flat}

pub joins_equations :
    (s : State) (qs : List FlatEquation) (is : List ℕ) →
    (joins s qs is).state.equations ≡ s.equations
unfolding joins
joins_equations s qs is = refl

pub joins_copies :
    (s : State) (qs : List FlatEquation) (is : List ℕ) →
    (joins s qs is).state.copies ≡ s.copies ++ qs
unfolding joins
joins_copies s qs is = refl

choices_equal :
    (bs cs xss yss zss wss : List Stream) → bs ≡ cs → xss ≡ yss → zss ≡ wss →
    choices bs xss zss ≡ choices cs yss wss
choices_equal bs cs xss yss zss wss p q r = cc

module _ (Y : Layout) (P : Program) (X : Inputs) (H : History) (F : List Stream)
    (long : AreLong X F) (agrees : Agrees Y X H F) (here : Instance) where
  -- ## What is kept from state to state

  -- the copies of `t` hold exactly if those of `s` hold and every call in `os` is joined
  pub record Joins (s t : State) (os : List Occurrence) : Type 0 where
    pub there : AllMet X F t.copies → AllMet X F s.copies × Every (IsJoined P H here) os
    pub back : AllMet X F s.copies → Every (IsJoined P H here) os → AllMet X F t.copies

  pub record Sound (s : State) (r : Emitted) (xss : List Stream) (os : List Occurrence) :
      Type 0 where
    pub before : AllMet X F s.equations
    pub found : columns X F r.found ≡ xss
    pub joins : Joins s r.state os

  pub record SoundAll (s : State) (r : EmittedAll) (xsss : List (List Stream))
      (os : List Occurrence) : Type 0 where
    pub before : AllMet X F s.equations
    pub found : map (columns X F) r.found ≡ xsss
    pub joins : Joins s r.state os

  no_joins : (s : State) → Joins s s []
  no_joins s = record { there = λ h. (h, tt); back = λ h j. h }

  -- an occurrence with nothing to join, after its parts
  quiet_joins :
      {s t u : State} {o : Occurrence} {os : List Occurrence} → IsJoined P H here o → Joins s t os →
      u.copies ≡ t.copies → Joins s u (o ∷ os)
  quiet_joins j a e = record {
    there = λ h. let r = a.there (subst (AllMet X F) e h) in (r.0, (j, r.1));
    back = λ h k. subst (AllMet X F) (sym e) (a.back h k.1);
  }

  two_joins :
      {s t u : State} {os os' : List Occurrence} → Joins s t os → Joins t u os' → Joins s u
      (os ++ os')
  two_joins {os = os} {os' = os'} a b =
      record {
        there = λ h.
            let r = b.there h in
            let l = a.there r.0 in
            (l.0, Every-append (IsJoined P H here) os os' l.1 r.1);
        back = λ h k. b.back (a.back h (Every-first (IsJoined P H here) os os' k))
            (Every-second (IsJoined P H here) os os' k);
      }

  -- an occurrence whose copies are `qs`, after its parts
  own_joins :
      {s t u : State} (qs : List FlatEquation) {o : Occurrence} {os : List Occurrence} → Joins s t
      os → u.copies ≡ t.copies ++ qs → (AllMet X F qs → IsJoined P H here o) →
      (IsJoined P H here o → AllMet X F qs) → Joins s u (o ∷ os)
  own_joins {t = t} qs a e there back =
      record {
        there = λ h.
            let g = subst (AllMet X F) e h in
            let r = a.there (Every-first (IsMet X F) t.copies qs g) in
            (r.0, (there (Every-second (IsMet X F) t.copies qs g), r.1));
        back = λ h k. subst (AllMet X F) (sym e)
            (Every-append (IsMet X F) t.copies qs (a.back h k.1) (back k.0));
      }

  -- ## Forms with one operand, and with two

  quiet :
      {s : State} {r : Emitted} {xss : List Stream} {o : Occurrence} → IsJoined P H here o → Added X
      F s r xss → Sound s r xss (o ∷ [])
  quiet {s = s} j a =
      record { before = a.before; found = a.found; joins = quiet_joins j (no_joins s) a.copies }

  one_sound :
      (k : FlatClock) {s : State} {x : Emitted} {xss : List Stream} (f : ℕ → Operation)
      (g : Stream → Stream) → ((i : ℕ) → operate X F k (f i) ≡ g (column X F i)) → (o : Occurrence)
      (os : List Occurrence) → IsJoined P H here o →
      (AllMet X F x.state.equations → Sound s x xss os) → AllMet X F
      (add k x.state (map f x.found)).state.equations → Sound s (add k x.state (map f x.found))
      (map g xss) (o ∷ os)
  one_sound k {x = x} f g e o os j part h =
      let r = add_sound X F k x.state (map f x.found) h in
      let a = part r.before in
      record {
        before = a.before;
        found = r.found ∙ each_one X F k f g e x.found ∙ ap (map g) a.found;
        joins = quiet_joins j a.joins r.copies;
      }

  two_sound :
      (k : FlatClock) {s : State} {x y : Emitted} {xss yss : List Stream} (f : ℕ → ℕ → Operation)
      (g : Stream → Stream → Stream) →
      ((i j : ℕ) → operate X F k (f i j) ≡ g (column X F i) (column X F j)) → (o : Occurrence)
      (os os' : List Occurrence) → IsJoined P H here o →
      (AllMet X F x.state.equations → Sound s x xss os) →
      (AllMet X F y.state.equations → Sound x.state y yss os') → AllMet X F
      (add k y.state (zip2 f x.found y.found)).state.equations → Sound s
      (add k y.state (zip2 f x.found y.found)) (zip2 g xss yss) (o ∷ (os ++ os'))
  two_sound k f g e o os os' j left right h =
      let r = add_sound X F k _ _ h in
      let b = right r.before in let a = left b.before in
      record {
        before = a.before;
        found = r.found ∙ each_two X F k f g e _ _ ∙ ap₂ (zip2 g) a.found b.found;
        joins = quiet_joins j (two_joins a.joins b.joins) r.copies;
      }

  -- results that are picked from the elements of the one operand
  picked_sound :
      {s : State} {x : Emitted} {is : List ℕ} {xss yss : List Stream} {o : Occurrence}
      {os : List Occurrence} → IsJoined P H here o → Sound s x xss os → columns X F is ≡ yss → Sound
      s (record { state = x.state; found = is }) yss (o ∷ os)
  picked_sound j a e = record { before = a.before; found = e; joins = quiet_joins j a.joins refl }

  part_found :
      (m n : ℕ) (x : Emitted) (xss : List Stream) → columns X F x.found ≡ xss →
      columns X F (take m (drop n x.found)) ≡ take m (drop n xss)
  part_found m n x xss e =
      cc (map-take (column X F) m (drop n x.found), map-drop (column X F) n x.found)

  joined_found :
      (r : EmittedAll) (xsss : List (List Stream)) → map (columns X F) r.found ≡ xsss →
      columns X F (joined r.found) ≡ joined xsss
  joined_found r xsss e = map-joined (column X F) r.found ∙ ap joined e

  -- `#` and `nor` are sound, where their operands are
  across_sound :
      (k : Clock) {s : State} {r : EmittedAll} {x : Emitted} (f : List Scalar → Scalar)
      {xsss : List (List Stream)} {o : Occurrence} {os : List Occurrence} → IsJoined P H here o →
      (AllMet X F r.state.equations → SoundAll s r xsss os) → Added X F r.state x
      (across f (instants X F (flat_clock Y here.path k)) (columns X F (joined r.found)) ∷ []) →
      Sound s x (across f (presence H here.path k) (joined xsss) ∷ []) (o ∷ os)
  across_sound k {s = s} {r = r} f {xsss = xsss} {o = o} {os = os} j parts a =
      let e = parts a.before in
      record {
        before = e.before;
        found = cc (a.found, presence_flat Y X H F agrees here.path k, joined_found r xsss e.found);
        joins = quiet_joins j e.joins a.copies;
      }

  keep_sound :
      {s : State} {x : Emitted} {xss : List Stream} {os : List Occurrence} →
      (AllMet X F x.state.equations → Sound s x xss os) → AllMet X F (keep x).state.equations →
      Sound s (keep x) xss os
  unfolding keep
  keep_sound part h =
      let r = part h in
      record {
        before = r.before;
        found = r.found;
        joins = record { there = r.joins.there; back = r.joins.back };
      }

  without_first :
      {s : State} {r : Emitted} {xss : List Stream} {o : Occurrence} {os : List Occurrence} →
      IsJoined P H here o → Sound s r xss (o ∷ os) → Sound s r xss os
  without_first {r = r} j h = record {
    before = h.before;
    found = h.found;
    joins = record {
      there = λ g. let r = h.joins.there g in (r.0, r.1.1);
      back = λ g k. h.joins.back g (j, k);
    };
  }

  -- ## Names

  name_sound :
      (k : Clock) (s : State) (x : Name) (d : Option Declaration) →
      AllMet X F (emit_name Y P here k s x d).state.equations →
      Added X F s (emit_name Y P here k s x d)
      (either_or (option_map (λ d. H.columns here.path d.name) d)
      (constantly (or_fault (name_value P here x)) (presence H here.path k) ∷ []))
  name_sound k s x (Some d) h =
      record { before = h; found = sym (agrees.columns here.path d.name); copies = refl }
  name_sound k s x None h =
      let r = add_sound X F _ s _ h in
      record {
        before = r.before;
        found = r.found ∙ constantly_flat Y X H F agrees _ k _;
        copies = r.copies;
      }

  constant_sound :
      (k : Clock) (s : State) (v : Scalar) (o : Occurrence) → IsJoined P H here o →
      AllMet X F (add (flat_clock Y here.path k) s (Constant v ∷ [])).state.equations →
      Sound s (add (flat_clock Y here.path k) s (Constant v ∷ []))
      (constantly v (presence H here.path k) ∷ []) (o ∷ [])
  constant_sound k s v o j h =
      let r = add_sound X F (flat_clock Y here.path k) s (Constant v ∷ []) h in
      quiet j (record {
        before = r.before;
        found = r.found ∙ constantly_flat Y X H F agrees here.path k v;
        copies = r.copies;
      })

  -- ## Expressions

  abbrev AllPlaced : List Occurrence → Type 0
  AllPlaced os = Every (IsPlaced Y P H here) os

  fore : (os os' : List Occurrence) → AllPlaced (os ++ os') → AllPlaced os
  fore os os' w = Every-first (IsPlaced Y P H here) os os' w

  aft : (os os' : List Occurrence) → AllPlaced (os ++ os') → AllPlaced os'
  aft os os' w = Every-second (IsPlaced Y P H here) os os' w

  -- the occurrences of an expression, by a shorter name
  abbrev parts : Clock → ℕ → Expr → List Occurrence
  parts k n e = occurrences P here.node k n e

  -- the instants of the flat clock of `k` are the presence of `k`
  flat : (k : Clock) → instants X F (flat_clock Y here.path k) ≡ presence H here.path k
  flat k = sym (presence_flat Y X H F agrees here.path k)

  mutual
    unfolding emit

    pub sound :
        (k : Clock) (n : ℕ) (s : State) (e : Expr) → AllPlaced (occurrences P here.node k n e) →
        AllMet X F (emit Y P here k n s e).state.equations →
        Sound s (emit Y P here k n s e) (streams P H here k n e) (occurrences P here.node k n e)
    sound k n s (Literal m) w h = constant_sound k s (Integer (pos m)) _ tt h
    sound k n s (Truth b) w h = constant_sound k s (Boolean b) _ tt h
    sound k n s (Variable x) w h = quiet tt (name_sound k s x _ h)
    sound k n s (Group a) w h = sound k n s a w h
    sound k n s (Unary op a) w h =
        one_sound _ (ApplyUnary op) (along (one_scalar op)) (λ i. refl) _ _ tt (sound k n s a w.1) h
    sound k n s (Binary op a b) w h =
        let m = n + call_count a in
        two_sound _ (ApplyBinary op) (along_two (two_scalars op)) (λ i j. refl) _ _ _ tt
        (sound k n s a (fore _ (parts k m b) w.1)) (sound k m _ b (aft (parts k n a) _ w.1)) h
    sound k n s (If c a b) w h =
        let na = n + call_count c in
        let nb = na + call_count a in
        let oa = parts k na a in
        let ob = parts k nb b in
        let z = emit Y P here k n s c in
        let x = emit Y P here k na z.state a in
        let y = emit Y P here k nb x.state b in
        let branches = aft _ (oa ++ ob) w.1 in
        let r = add_sound X F _ y.state (chosen_by z.found x.found y.found) h in
        let sb = sound k nb _ b (aft oa ob branches) r.before in
        let sa = sound k na _ a (fore oa ob branches) sb.before in
        let sc = sound k n s c (fore _ (oa ++ ob) w.1) sa.before in
        record {
          before = sc.before;
          found = r.found ∙ each_choice X F (flat_clock Y here.path k) z.found x.found y.found
              ∙ choices_equal _ _ _ _ _ _ sc.found sa.found sb.found;
          joins = quiet_joins tt (two_joins sc.joins (two_joins sa.joins sb.joins)) r.copies;
        }
    sound k n s (Arrow a b) w h =
        let m = n + call_count a in
        two_sound _ (FirstThen false) first_then (λ i j. refl) _ _ _ tt
        (sound k n s a (fore _ (parts k m b) w.1)) (sound k m _ b (aft (parts k n a) _ w.1)) h
    sound k n s (Fby a b) w h =
        let m = n + call_count a in
        let v = first_value in
        two_sound _ (FirstThen false) first_then (λ i j. refl) _ _ _ tt
        (sound k n s a (fore _ _ w.1))
        (λ g. without_first tt
        (one_sound _ (Previous v) _ (λ i. ap (λ bs. previous v bs (column X F i)) (flat k))
        (at k m (Pre b)) _ tt (keep_sound (sound k m (emit Y P here k n s a).state b (aft _ _ w.1)))
        g)) h
    sound k n s (Pre a) w h =
        let v = first_value in
        one_sound _ (Previous v) _ (λ i. ap (λ bs. previous v bs (column X F i)) (flat k)) _ _ tt
        (keep_sound (sound k n s a w.1)) h
    sound k n s (Current a) w h =
        let v = first_value in
        one_sound _ (Latest v) _ (λ i. ap (λ bs. latest v bs (column X F i)) (flat k)) _ _ tt
        (keep_sound (sound _ n s a w.1)) h
    sound k n s (When a x sign) w h =
        let own = On (declared_clock here.node x) x sign in
        one_sound _ Sample _ (λ i. ap (λ bs. zip2 sample bs (column X F i)) (flat own))
        _ _ tt (sound _ n s a w.1) h
    sound k n s (Replicate a m) w h =
        let r = sound k n s a w.1 h in
        picked_sound tt r
        (map-copies (column X F) (number P here m) _ ∙ ap (copies (number P here m)) r.found)
    sound k n s (Index a i) w h =
        let r = sound k n s a w.1 h in
        picked_sound tt r (part_found _ _ (emit Y P here k n s a) _ r.found)
    sound k n s (Slice a i j) w h =
        let r = sound k n s a w.1 h in
        picked_sound tt r (part_found _ _ (emit Y P here k n s a) _ r.found)
    sound k n s (Join a b) w h =
        let y = sound k (n + call_count a) _ b (aft _ _ w.1) h in
        let x = sound k n s a (fore _ _ w.1) y.before in
        record {
          before = x.before;
          found = map-append (column X F) _ _ ∙ ap₂ (λ xs ys. xs ++ ys) x.found y.found;
          joins = quiet_joins tt (two_joins x.joins y.joins) refl;
        }
    sound k n s (Array es) w h =
        let r = sound_all k n s es w.1 h in
        record {
          before = r.before;
          found = joined_found (emit_all Y P here k n s es) _ r.found;
          joins = quiet_joins tt r.joins refl;
        }
    sound k n s (AtMostOne es) w h =
        let r = emit_all Y P here k n s es in
        across_sound k at_most_one tt (sound_all k n s es w.1)
        (at_most_one_sound X F long (flat_clock Y here.path k) r.state (joined r.found) h)
    sound k n s (Nor es) w h =
        let r = emit_all Y P here k n s es in
        across_sound k none_true tt (sound_all k n s es w.1)
        (nor_sound X F long (flat_clock Y here.path k) r.state (joined r.found) h)
    sound k n s (Call f statics es) w h =
        let callee = node_named P f in
        let r = emit_each Y P here (call_clocks k callee es) (n + 1) s es in
        let e = sound_each (call_clocks k callee es) (n + 1) s es w.1
        (subst (AllMet X F) (joins_equations r.state _ _) h) in
        record {
          before = e.before;
          found = ap (columns X F) (joins_found r.state _ _)
              ∙ sym
              (map-pieces (column X F) _ _ (λ o. agrees.columns _ o.name) (outputs_of P here f));
          joins = own_joins _ e.joins (joins_copies r.state _ _)
              (call_sound Y X H F agrees P here k n es callee r.found e.found w.0)
              (call_holds Y X H F agrees P here k n es callee r.found e.found);
        }
    sound k n s (Iterate it (Node_named f statics) m es) w h =
        let r = emit_all Y P here k (n + 1) s es in
        let e = sound_all k (n + 1) s es w.1 (subst (AllMet X F) (joins_equations r.state _ _) h) in
        record {
          before = e.before;
          found = ap (columns X F) (joins_found r.state _ _)
              ∙ iterated_flat Y X H F agrees here.path n _ it (outputs_of P here f);
          joins = own_joins _ e.joins (joins_copies r.state _ _)
              (iterator_sound Y X H F agrees P here k n es it _ _ r.found e.found w.0)
              (iterator_holds Y X H F agrees P here k n es it _ _ r.found e.found);
        }
    sound k n s (Iterate it (Symbol op) m es) w h =
        let r = emit_all Y P here k n s es in
        let a = symbol_sound X F (flat_clock Y here.path k) op r.state it r.found h in
        let e = sound_all k n s es w.1 a.before in
        record {
          before = e.before;
          found = a.found ∙ ap (symbols it op) e.found;
          joins = quiet_joins tt e.joins a.copies;
        }

    pub sound_all :
        (k : Clock) (n : ℕ) (s : State) (es : Exprs) →
        AllPlaced (occurrences_in P here.node k n es) →
        AllMet X F (emit_all Y P here k n s es).state.equations →
        SoundAll s (emit_all Y P here k n s es) (all_streams P H here k n es)
        (occurrences_in P here.node k n es)
    sound_all k n s Nil w h = record { before = h; found = refl; joins = no_joins s }
    sound_all k n s (Cons e es) w h =
        let r = sound_all k (n + call_count e) _ es (aft _ _ w) h in
        let x = sound k n s e (fore _ _ w) r.before in
        record {
          before = x.before;
          found = ap₂ (λ xs xss. xs ∷ xss) x.found r.found;
          joins = two_joins x.joins r.joins;
        }

    pub sound_each :
        (ks : List Clock) (n : ℕ) (s : State) (es : Exprs) →
        AllPlaced (occurrences_each P here.node ks n es) →
        AllMet X F (emit_each Y P here ks n s es).state.equations →
        SoundAll s (emit_each Y P here ks n s es) (argument_streams P H here ks n es)
        (occurrences_each P here.node ks n es)
    sound_each ks n s Nil w h = record { before = h; found = refl; joins = no_joins s }
    sound_each [] n s (Cons e es) w h = record { before = h; found = refl; joins = no_joins s }
    sound_each (k ∷ ks) n s (Cons e es) w h =
        let r = sound_each ks (n + call_count e) _ es (aft _ _ w) h in
        let x = sound k n s e (fore _ _ w) r.before in
        record {
          before = x.before;
          found = ap₂ (λ xs xss. xs ∷ xss) x.found r.found;
          joins = two_joins x.joins r.joins;
        }
