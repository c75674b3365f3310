-- The steps of the search for a cycle.
use Rattle.std.proofs.Common.{◌≡◌, ◌≢◌, ℕ, zero, suc, ◌+◌, ◌<◌, ◌≤◌, Bool, true, false, List, []}
use Rattle.std.proofs.Common.{◌∷◌, ◌++◌, length, map, replicate, set, get_or, reverse, Option}
use Rattle.std.proofs.Common.{Some, None, Vec, Global}
use Rattle.std.proofs.Common.{refl, ap, sym, subst, ◌∙◌, ◌⊎◌, inl, inr, arith}
use Rattle.std.specs.Prelude.{nat_eq, slice_get, if◌then◌else◌}
use Rattle.std.proofs.lemmas.Bool.Decides.{nat_tests}
use Rattle.std.proofs.lemmas.List.{length-set, get_or-set_same, reverse-append, reverse-reverse}
use Rattle.std.proofs.lemmas.List.{map-append, append_assoc, length-replicate}
use borrow.Author.Count.{below_more}
use Rattle.std.proofs.lemmas.List.Sums.{sum_by_push}
use Rattle.std.proofs.lemmas.Option.{slice_get-get_or, slice_get_within}
use Rattle.lb_syntax.specs.Lists.{In}
use Rattle.lb_static.specs.CallGraphs.{AreWithin, IsCycle, IsOrdered, Leads, called}
use Rattle.lb_static.specs.CycleSearch.{IsAt, IsBetween, IsVisit, IsPath, IsSearch, IsSearchFrom}
use Rattle.lb_static.specs.CycleSearch.{IsSearchAnswer, Keeps, from_first, unseen, on_path}
use Rattle.lb_static.specs.declared.cycle.Visit.{Visit}
use Rattle.lb_static.specs.declared.cycle.Progress.{Progress}
use Rattle.lb_static.specs.declared.cycle.Progress.TheVariants.{Unseen, Open, Done}

-- ## The progress of one node

at_set : (ps : List Progress) (i : ℕ) (p : Progress) → i < length ps → IsAt (set ps i p) i p
at_set ps i p below =
    let still : i < length (set ps i p) = omega (arith, length-set ps i p) in
    slice_get-get_or (set ps i p) i p still ∙ ap Some (get_or-set_same ps i p p below)

elsewhere : (ps : List Progress) (i j : ℕ) (p : Progress) → j ≢ i
    → slice_get (set ps i p) j ≡ slice_get ps j
elsewhere [] i j p other = refl
elsewhere (q ∷ ps) zero zero p other = absurd (other refl)
elsewhere (q ∷ ps) zero (suc j) p other = refl
elsewhere (q ∷ ps) (suc i) zero p other = refl
elsewhere (q ∷ ps) (suc i) (suc j) p other = elsewhere ps i j p (λ e. other (ap suc e))

-- the progress at place `j` after that of `i` is set: the new one at `i`, the old one elsewhere
after_set : (ps : List Progress) (i j : ℕ) (p q : Progress) → i < length ps → IsAt (set ps i p) j q
    → ((j ≡ i) × (q ≡ p)) ⊎ IsAt ps j q
after_set ps i j p q below at = by (nat_eq j i) refl
  where
    by : (b : Bool) → nat_eq j i ≡ b → ((j ≡ i) × (q ≡ p)) ⊎ IsAt ps j q
    by true e =
        let same : j ≡ i = grind (arith, nat_tests) in
        let both : Some q ≡ Some p =
        sym at ∙ ap (slice_get (set ps i p)) same ∙ at_set ps i p below in
        inl (same, cc)
    by false e =
        let other : j ≢ i = grind (arith, nat_tests) in
        inr (sym (elsewhere ps i j p other) ∙ at)

-- a node that is not done gets another progress: nodes that are done stay done
done_stays : (ps : List Progress) (i : ℕ) (p q : Progress) → IsAt ps i q → q ≢ Done
    → Keeps ps (set ps i p)
done_stays ps i p q at not_done j done = by (nat_eq j i) refl
  where
    by : (b : Bool) → nat_eq j i ≡ b → IsAt (set ps i p) j Done
    by true e =
        let same : j ≡ i = grind (arith, nat_tests) in
        let both : Some q ≡ Some Done = sym at ∙ ap (slice_get ps) (sym same) ∙ done in
        absurd (not_done cc)
    by false e =
        let other : j ≢ i = grind (arith, nat_tests) in
        elsewhere ps i j p other ∙ done

-- a node becomes done: nodes that are done stay done
done_more : (ps : List Progress) (i : ℕ) → i < length ps → Keeps ps (set ps i Done)
done_more ps i below j done = by (nat_eq j i) refl
  where
    by : (b : Bool) → nat_eq j i ≡ b → IsAt (set ps i Done) j Done
    by true e =
        let same : j ≡ i = grind (arith, nat_tests) in
        ap (slice_get (set ps i Done)) same ∙ at_set ps i Done below
    by false e =
        let other : j ≢ i = grind (arith, nat_tests) in
        elsewhere ps i j Done other ∙ done

-- ## The path

visit_kept : (g : List (List ℕ)) (before after : List Progress) (next : Option ℕ) (f : Visit)
    → Keeps before after
    → IsVisit g before next f → IsVisit g after next f
visit_kept g before after next f keeps h = record {
  within = h.within;
  each = λ j called. by j (h.each j called);
  left = h.left;
  calls_next = h.calls_next;
}
  where
    by : (j : ℕ) → In j f.left.now ⊎ (IsAt before j Done ⊎ (next ≡ Some j))
        → In j f.left.now ⊎ (IsAt after j Done ⊎ (next ≡ Some j))
    by j (inl left) = inl left
    by j (inr (inl done)) = inr (inl (keeps j done))
    by j (inr (inr is)) = inr (inr is)

path_kept : (g : List (List ℕ)) (before after : List Progress) (next : Option ℕ) (fs : List Visit)
    → Keeps before after
    → IsPath g before next fs → IsPath g after next fs
path_kept g before after next [] keeps h = h
path_kept g before after next (f ∷ fs) keeps h = (
  visit_kept g before after next f keeps h.0,
  path_kept g before after (Some f.node) fs keeps
      h.1,
)

-- the node before one that is done is the end of the path
visit_ends : (g : List (List ℕ)) (ps : List Progress) (i : ℕ) (f : Visit) → IsAt ps i Done
    → IsVisit g ps (Some i) f → IsVisit g ps None f
visit_ends g ps i f done h = record {
  within = h.within;
  each = λ j called. by j (h.each j called);
  left = h.left;
  calls_next = λ j is. absurd cc;
}
  where
    by : (j : ℕ) → In j f.left.now ⊎ (IsAt ps j Done ⊎ (Some i ≡ Some j))
        → In j f.left.now ⊎ (IsAt ps j Done ⊎ (None ≡ Some j))
    by j (inl left) = inl left
    by j (inr (inl is)) = inr (inl is)
    by j (inr (inr is)) = let same : i ≡ j = cc in inr (inl (subst (λ k. IsAt ps k Done) same done))

path_ends : (g : List (List ℕ)) (ps : List Progress) (i : ℕ) (fs : List Visit) → IsAt ps i Done
    → IsPath g ps (Some i) fs → IsPath g ps None fs
path_ends g ps i [] done h = h
path_ends g ps i (f ∷ fs) done h = (visit_ends g ps i f done h.0, h.1)

-- the nodes of a path, its end first, in forward order before the list `after`
abbrev forward : List Visit → List ℕ → List ℕ
forward [] after = after
forward (f ∷ fs) after = forward fs (f.node ∷ after)

forward_is : (fs : List Visit) (after : List ℕ)
    → map (λ f. f.node) (reverse fs) ++ after ≡ forward fs after
forward_is [] after = refl
forward_is (f ∷ fs) after =
    ap (λ l. map (λ h. h.node) l ++ after) (reverse-append (f ∷ []) fs)
    ∙ ap (λ l. l ++ after) (map-append (λ h. h.node) (reverse fs) (f ∷ []))
    ∙ append_assoc (map (λ h. h.node) (reverse fs)) (f.node ∷ []) after
    ∙ forward_is fs (f.node ∷ after)

-- each node of a list calls the next one, and the last calls `c`
abbrev LeadsOn : List (List ℕ) → List ℕ → ℕ → Type 0
LeadsOn g [] c = ⊥
LeadsOn g (i ∷ is) c = Leads g i is c

leads_forward : (g : List (List ℕ)) (ps : List Progress) (a c : ℕ) (ks : List ℕ) (fs : List Visit)
    → IsPath g ps (Some a) fs → Leads g a ks c → LeadsOn g (forward fs (a ∷ ks)) c
leads_forward g ps a c ks [] path leads = leads
leads_forward g ps a c ks (f ∷ fs) path leads =
    leads_forward g ps f.node c (a ∷ ks) fs path.1 (path.0.calls_next a refl, leads)

on_forward : (fs : List Visit) (after : List ℕ) (c : ℕ) → In c (map (λ f. f.node) fs) ⊎ In c after
    → In c (forward fs after)
on_forward [] after c (inl on) = absurd on
on_forward [] after c (inr on) = on
on_forward (f ∷ fs) after c (inl (inl is)) = on_forward fs (f.node ∷ after) c (inr (inl is))
on_forward (f ∷ fs) after c (inl (inr on)) = on_forward fs (f.node ∷ after) c (inl on)
on_forward (f ∷ fs) after c (inr on) = on_forward fs (f.node ∷ after) c (inr (inr on))

-- a chain of calls that leads from `i` to a node on it is a cycle from that node on
closed_from : (g : List (List ℕ)) (c i : ℕ) (is : List ℕ) → c < length g → Leads g i is c
    → In c (i ∷ is) → IsCycle g (from_first c (i ∷ is))
closed_from g c i [] below leads on = by (nat_eq i c) refl on
  where
    by : (b : Bool) → nat_eq i c ≡ b → In c (i ∷ [])
        → IsCycle g (if b then i ∷ [] else from_first c [])
    by true e on =
        let same : i ≡ c = grind (arith, nat_tests) in
        (subst (λ k. k < length g) (sym same) below, subst (λ k. Leads g i [] k) (sym same) leads)
    by false e (inl same) = absurd (grind (arith, nat_tests))
    by false e (inr on) = absurd on
closed_from g c i (k ∷ is) below leads on =
    by (nat_eq i c) refl on (closed_from g c k is below leads.1)
  where
    by : (b : Bool) → nat_eq i c ≡ b → In c (i ∷ (k ∷ is))
        → (In c (k ∷ is) → IsCycle g (from_first c (k ∷ is)))
        → IsCycle g (if b then i ∷ (k ∷ is) else from_first c (k ∷ is))
    by true e on later =
        let same : i ≡ c = grind (arith, nat_tests) in (
          subst (λ m. m < length g) (sym same) below,
          subst (λ m. Leads g i (k ∷ is) m) (sym same) leads,
        )
    by false e (inl same) later = absurd (grind (arith, nat_tests))
    by false e (inr on) later = later on

closed_on : (g : List (List ℕ)) (c : ℕ) (is : List ℕ) → c < length g → LeadsOn g is c → In c is
    → IsCycle g (from_first c is)
closed_on g c [] below leads on = absurd on
closed_on g c (i ∷ is) below leads on = closed_from g c i is below leads on

-- the path is a cycle from the node `c` on, where the node at its end calls the open node `c`
closes : (g : List (List ℕ)) (ps : List Progress) (f : Visit) (fs : List Visit) (c : ℕ)
    → IsSearch g ps (f ∷ fs) → In c f.left.now → IsAt ps c Open → c < length g
    → IsCycle g (from_first c (map (λ h. h.node) (reverse fs) ++ f.node ∷ []))
closes g ps f fs c searched left is_open below =
    subst (λ l. IsCycle g (from_first c l)) (sym (forward_is fs (f.node ∷ [])))
    (closed_on g c (forward fs (f.node ∷ [])) below
    (leads_forward g ps f.node c [] fs searched.is_path.1 (searched.is_path.0.left c left))
    (on_forward fs (f.node ∷ []) c (by (searched.open_on_path c is_open))))
  where
    by : (f.node ≡ c) ⊎ In c (map (λ h. h.node) fs)
        → In c (map (λ h. h.node) fs) ⊎ In c (f.node ∷ [])
    by (inl is) = inr (inl is)
    by (inr on) = inl on

-- ## Steps of a search

-- step: a node with all its calls followed becomes done
finished : (g : List (List ℕ)) (ps : List Progress) (f : Visit) (fs : List Visit)
    → IsSearch g ps (f ∷ fs) → f.left.now ≡ []
    → IsSearch g (set ps f.node Done) fs
finished g ps f fs searched ends = record {
  as_many = length-set ps f.node Done ∙ searched.as_many;
  done = (
    f.node ∷ searched.done.0,
    (λ j calls. behind j (searched.is_path.0.each j calls), searched.done.1),
    λ i at. in_order i (after_set ps f.node i Done Done below at),
  );
  open_on_path = λ i at. on_path_still i at (after_set ps f.node i Done Open below at);
  is_path = path_ends g after f.node fs (at_set ps f.node Done below)
      (path_kept g ps after (Some f.node) fs (done_more ps f.node below) searched.is_path.1);
}
  where
    after : List Progress
    after = set ps f.node Done

    below : f.node < length ps
    below = omega (arith, searched.as_many, searched.is_path.0.within)

    behind : (j : ℕ) → In j f.left.now ⊎ (IsAt ps j Done ⊎ (None ≡ Some j)) → In j searched.done.0
    behind j (inl left) = absurd (subst (λ l. In j l) ends left)
    behind j (inr (inl done)) = searched.done.2 j done
    behind j (inr (inr is)) = absurd cc

    in_order : (i : ℕ) → ((i ≡ f.node) × (Done ≡ Done)) ⊎ IsAt ps i Done
        → (f.node ≡ i) ⊎ In i searched.done.0
    in_order i (inl is) = inl (sym is.0)
    in_order i (inr at) = inr (searched.done.2 i at)

    still : (i : ℕ) → IsAt after i Open → (f.node ≡ i) ⊎ In i (map (λ h. h.node) fs)
        → In i (map (λ h. h.node) fs)
    still i at (inl is) =
        let both : Some Open ≡ Some Done =
        sym at ∙ ap (slice_get after) (sym is) ∙ at_set ps f.node Done below in
        absurd cc
    still i at (inr on) = on

    on_path_still : (i : ℕ) → IsAt after i Open → ((i ≡ f.node) × (Open ≡ Done)) ⊎ IsAt ps i Open
        → In i (map (λ h. h.node) fs)
    on_path_still i at (inl is) = absurd cc
    on_path_still i at (inr was) = still i at (searched.open_on_path i was)

-- a visit stays lawful where one call is followed, to a node that is done or is next on the path
followed : (g : List (List ℕ)) (ps : List Progress) (f h : Visit) (next : Option ℕ) (c : ℕ)
    → h.node ≡ f.node → f.left.now ≡ c ∷ h.left.now
    → (IsAt ps c Done ⊎ (next ≡ Some c)) → ((j : ℕ) → next ≡ Some j → c ≡ j) → IsVisit g ps None f
    → IsVisit g ps next h
followed g ps f h next c same left meets only visit = record {
  within = subst (λ i. i < length g) (sym same) visit.within;
  each = λ j calls. by j (visit.each j (subst (λ i. In j (called g i)) same calls));
  left = λ j on. subst (λ i. In j (called g i)) (sym same)
      (visit.left j (subst (λ l. In j l) (sym left) (inr on)));
  calls_next = λ j is. subst (λ i. In j (called g i)) (sym same)
      (visit.left j (subst (λ l. In j l) (sym left) (inl (only j is))));
}
  where
    first : (j : ℕ) → (c ≡ j) ⊎ In j h.left.now
        → In j h.left.now ⊎ (IsAt ps j Done ⊎ (next ≡ Some j))
    first j (inl is) = inr (subst (λ k. IsAt ps k Done ⊎ (next ≡ Some k)) is meets)
    first j (inr on) = inl on

    by : (j : ℕ) → In j f.left.now ⊎ (IsAt ps j Done ⊎ (None ≡ Some j))
        → In j h.left.now ⊎ (IsAt ps j Done ⊎ (next ≡ Some j))
    by j (inl on) = first j (subst (λ l. In j l) left on)
    by j (inr (inl done)) = inr (inl done)
    by j (inr (inr is)) = absurd cc

-- step: a call leads to a node that is done
passed : (g : List (List ℕ)) (ps : List Progress) (f h : Visit) (fs : List Visit) (c : ℕ)
    → IsSearch g ps (f ∷ fs)
    → h.node ≡ f.node → f.left.now ≡ c ∷ h.left.now → IsAt ps c Done → IsSearch g ps (h ∷ fs)
passed g ps f h fs c searched same left done = record {
  as_many = searched.as_many;
  done = searched.done;
  open_on_path = λ i at. by i (searched.open_on_path i at);
  is_path = (
    followed g ps f h None c same left (inl done) (λ j is. absurd cc) searched.is_path.0,
    subst
        (λ i. IsPath g ps (Some i) fs) (sym same) searched.is_path.1,
  );
}
  where
    by : (i : ℕ) → (f.node ≡ i) ⊎ In i (map (λ k. k.node) fs)
        → (h.node ≡ i) ⊎ In i (map (λ k. k.node) fs)
    by i (inl is) = inl (same ∙ is)
    by i (inr on) = inr on

-- a visit of a node with none of its calls followed is lawful
fresh : (g : List (List ℕ)) (ps : List Progress) (h : Visit) → h.node < length g
    → h.left.now ≡ called g h.node → IsVisit g ps None h
fresh g ps h within left = record {
  within = within;
  each = λ j calls. inl (subst (λ l. In j l) (sym left) calls);
  left = λ j on. subst (λ l. In j l) left on;
  calls_next = λ j is. absurd cc;
}

-- step: a call leads to a node that was not begun
entered : (g : List (List ℕ)) (ps : List Progress) (f h k : Visit) (fs : List Visit)
    → IsSearch g ps (f ∷ fs)
    → h.node ≡ f.node → f.left.now ≡ k.node ∷ h.left.now → k.node < length g
    → k.left.now ≡ called g k.node → IsAt ps k.node Unseen
    → IsSearch g (set ps k.node Open) (k ∷ (h ∷ fs))
entered g ps f h k fs searched same left within all at_first = record {
  as_many = length-set ps k.node Open ∙ searched.as_many;
  done = (
    searched.done.0,
    searched.done.1,
    λ i at. in_order i
        (after_set ps k.node i Open Done below at),
  );
  open_on_path = λ i at. on_path_now i (after_set ps k.node i Open Open below at);
  is_path = (
    fresh g after k within all,
    (
      followed g after f h (Some k.node) k.node same left (inr refl) (λ j is. cc)
          (visit_kept g ps after None f kept searched.is_path.0),
      subst (λ i. IsPath g after (Some i) fs) (sym same)
          (path_kept g ps after (Some f.node) fs kept searched.is_path.1),
    ),
  );
}
  where
    after : List Progress
    after = set ps k.node Open

    below : k.node < length ps
    below = omega (arith, searched.as_many)

    kept : Keeps ps after
    kept = done_stays ps k.node Open Unseen at_first (λ e. absurd cc)

    in_order : (i : ℕ) → ((i ≡ k.node) × (Done ≡ Open)) ⊎ IsAt ps i Done → In i searched.done.0
    in_order i (inl is) = absurd cc
    in_order i (inr at) = searched.done.2 i at

    before : (i : ℕ) → (f.node ≡ i) ⊎ In i (map (λ l. l.node) fs)
        → (h.node ≡ i) ⊎ In i (map (λ l. l.node) fs)
    before i (inl is) = inl (same ∙ is)
    before i (inr on) = inr on

    on_path_now : (i : ℕ) → ((i ≡ k.node) × (Open ≡ Open)) ⊎ IsAt ps i Open
        → (k.node ≡ i) ⊎ ((h.node ≡ i) ⊎ In i (map (λ l. l.node) fs))
    on_path_now i (inl is) = inl (sym is.0)
    on_path_now i (inr was) = inr (before i (searched.open_on_path i was))

-- ## The search from a node, with its path as the program holds it

-- the last item of a list is the first of the reversed list
last_first : {A : Type 0} (all front : List A) (x : A) → all ≡ front ++ x ∷ []
    → reverse all ≡ x ∷ reverse front
last_first all front x e = ap reverse e ∙ reverse-append front (x ∷ [])

pub begins : (g : List (List ℕ)) (before : List Progress) (start : ℕ) (f : Visit)
    (path : List Visit) → IsBetween g before
    → IsAt before start Unseen → f.node ≡ start → f.left.now ≡ called g start → path ≡ f ∷ []
    → IsSearchFrom g before start (set before start Open) (reverse path)
begins g before start f path between at_first is left alone = record {
  searched = record {
    as_many = length-set before start Open ∙ between.as_many;
    done = (
      between.done.0,
      between.done.1,
      λ i at. in_order i
          (after_set before start i Open Done below at),
    );
    open_on_path = λ i at. subst (λ l. In i (map (λ h. h.node) l)) (sym one)
        (inl (is ∙ sym (here i (after_set before start i Open Open below at))));
    is_path = subst (IsPath g after None) (sym one)
        (fresh g after f within (left ∙ ap (called g) (sym is)), tt);
  };
  kept = done_stays before start Open Unseen at_first (λ e. absurd cc);
  begun = inl (at_set before start Open below);
}
  where
    after : List Progress
    after = set before start Open

    below : start < length before
    below = slice_get_within before start Unseen at_first

    within : f.node < length g
    within = omega (arith, between.as_many, is, below)

    one : reverse path ≡ f ∷ []
    one = ap reverse alone

    in_order : (i : ℕ) → ((i ≡ start) × (Done ≡ Open)) ⊎ IsAt before i Done → In i between.done.0
    in_order i (inl same) = absurd cc
    in_order i (inr at) = between.done.2 i at

    here : (i : ℕ) → ((i ≡ start) × (Open ≡ Open)) ⊎ IsAt before i Open → i ≡ start
    here i (inl same) = same.0
    here i (inr at) = absurd (between.none_open i at)

-- a node that was begun stays begun where node `i` becomes done
begun_still : (ps : List Progress) (start i : ℕ) → i < length ps
    → IsAt ps start Open ⊎ IsAt ps start Done
    → IsAt (set ps i Done) start Open ⊎ IsAt (set ps i Done) start Done
begun_still ps start i below (inr done) = inr (done_more ps i below start done)
begun_still ps start i below (inl is_open) = by (nat_eq start i) refl
  where
    by : (b : Bool) → nat_eq start i ≡ b
        → IsAt (set ps i Done) start Open ⊎ IsAt (set ps i Done) start Done
    by true e =
        let same : start ≡ i = grind (arith, nat_tests) in
        inr (ap (slice_get (set ps i Done)) same ∙ at_set ps i Done below)
    by false e =
        let other : start ≢ i = grind (arith, nat_tests) in
        inl (elsewhere ps i start Done other ∙ is_open)

begun_before : (ps : List Progress) (start i : ℕ) → IsAt ps i Unseen
    → IsAt ps start Open ⊎ IsAt ps start Done
    → IsAt (set ps i Open) start Open ⊎ IsAt (set ps i Open) start Done
begun_before ps start i at_first (inr done) =
    inr (done_stays ps i Open Unseen at_first (λ e. absurd cc) start done)
begun_before ps start i at_first (inl is_open) = by (nat_eq start i) refl
  where
    by : (b : Bool) → nat_eq start i ≡ b
        → IsAt (set ps i Open) start Open ⊎ IsAt (set ps i Open) start Done
    by true e =
        let same : start ≡ i = grind (arith, nat_tests) in
        let both : Some Open ≡ Some Unseen = sym is_open ∙ ap (slice_get ps) same ∙ at_first in
        absurd cc
    by false e =
        let other : start ≢ i = grind (arith, nat_tests) in
        inl (elsewhere ps i start Open other ∙ is_open)

-- the node at the end of the path is a node of the graph
pub last_within : (g : List (List ℕ)) (before ps : List Progress) (start : ℕ) (old new : List Visit)
    (f : Visit)
    → IsSearchFrom g before start ps (reverse old) → old ≡ new ++ f ∷ [] → f.node < length ps
last_within g before ps start old new f from popped =
    let searched = subst (IsSearch g ps) (last_first old new f popped) from.searched in
    omega (arith, searched.as_many, searched.is_path.0.within)

pub finishes : (g : List (List ℕ)) (before ps : List Progress) (start : ℕ) (old new : List Visit)
    (f : Visit)
    → IsSearchFrom g before start ps (reverse old) → old ≡ new ++ f ∷ [] → f.left.now ≡ []
    → IsSearchFrom g before start (set ps f.node Done) (reverse new)
finishes g before ps start old new f from popped ends =
    let searched = subst (IsSearch g ps) (last_first old new f popped) from.searched in
    let below : f.node < length ps = omega (arith, searched.as_many, searched.is_path.0.within) in
    record {
      searched = finished g ps f (reverse new) searched ends;
      kept = λ i done. done_more ps f.node below i (from.kept i done);
      begun = begun_still ps start f.node below from.begun;
    }

pub passes : (g : List (List ℕ)) (before ps : List Progress) (start c : ℕ)
    (old front new : List Visit) (f h : Visit)
    → IsSearchFrom g before start ps (reverse old) → old ≡ front ++ f ∷ [] → new ≡ front ++ h ∷ []
    → h.node ≡ f.node → f.left.now ≡ c ∷ h.left.now → IsAt ps c Done
    → IsSearchFrom g before start ps (reverse new)
passes g before ps start c old front new f h from popped pushed same left done =
    let searched = subst (IsSearch g ps) (last_first old front f popped) from.searched in
    record {
      searched = subst (IsSearch g ps) (sym (last_first new front h pushed))
          (passed g ps f h (reverse front) c searched same left done);
      kept = from.kept;
      begun = from.begun;
    }

enters_next : (g : List (List ℕ)) (before ps : List Progress) (start : ℕ)
    (old front mid new : List Visit) (f h k : Visit)
    → IsSearchFrom g before start ps (reverse old) → old ≡ front ++ f ∷ [] → mid ≡ front ++ h ∷ []
    → new ≡ mid ++ k ∷ []
    → h.node ≡ f.node → f.left.now ≡ k.node ∷ h.left.now → k.node < length g
    → k.left.now ≡ called g k.node → IsAt ps k.node Unseen
    → IsSearchFrom g before start (set ps k.node Open) (reverse new)
enters_next g before ps start old front mid new f h k from popped pushed entered_last same left
    within all at_first =
    let searched = subst (IsSearch g ps) (last_first old front f popped) from.searched in
    let path : reverse new ≡ k ∷ (h ∷ reverse front) =
    last_first new mid k entered_last ∙ ap (λ l. k ∷ l) (last_first mid front h pushed) in
    record {
      searched = subst (IsSearch g (set ps k.node Open)) (sym path)
          (entered g ps f h k (reverse front) searched same left within all at_first);
      kept = λ i done. done_stays ps k.node Open Unseen at_first (λ e. absurd cc) i
          (from.kept i done);
      begun = begun_before ps start k.node at_first from.begun;
    }

pub enters : (g : List (List ℕ)) (before ps : List Progress) (start c : ℕ)
    (old front mid new : List Visit) (f h k : Visit)
    → IsSearchFrom g before start ps (reverse old) → old ≡ front ++ f ∷ [] → mid ≡ front ++ h ∷ []
    → new ≡ mid ++ k ∷ [] → h.node ≡ f.node
    → k.node ≡ c → f.left.now ≡ c ∷ h.left.now → c < length g → k.left.now ≡ called g c
    → IsAt ps c Unseen
    → IsSearchFrom g before start (set ps c Open) (reverse new)
enters g before ps start c old front mid new f h k from popped pushed entered_last same is =
    subst (λ i. f.left.now ≡ i ∷ h.left.now → i < length g → k.left.now ≡ called g i
    → IsAt ps i Unseen → IsSearchFrom g before start (set ps i Open) (reverse new)) is
    (enters_next g before ps start old front mid new f h k from popped pushed entered_last same)

-- the next callee of the node at the end of the path is a node of the graph
pub calls_node : (g : List (List ℕ)) (before ps : List Progress) (start c : ℕ) (cs : List ℕ)
    (old front : List Visit) (f : Visit) → AreWithin g
    → IsSearchFrom g before start ps (reverse old) → old ≡ front ++ f ∷ [] → f.left.now ≡ c ∷ cs
    → (c < length g) × (c < length ps)
calls_node g before ps start c cs old front f within from popped left =
    let searched = subst (IsSearch g ps) (last_first old front f popped) from.searched in
    let node : c < length g =
    within f.node c (searched.is_path.0.left c (subst (λ l. In c l) (sym left) (inl refl))) in
    (node, omega (arith, searched.as_many))

-- the progress that is read at place `i` is that of `i`
pub read_at : (ps : List Progress) (i : ℕ) (p d : Progress) → i < length ps → get_or ps i d ≡ p
    → IsAt ps i p
read_at ps i p d below is = slice_get-get_or ps i d below ∙ ap Some is

pub cycle_found : (g : List (List ℕ)) (before ps : List Progress) (start c : ℕ) (cs : List ℕ)
    (old front new : List Visit) (f h : Visit)
    → IsSearchFrom g before start ps (reverse old) → old ≡ front ++ f ∷ [] → new ≡ front ++ h ∷ []
    → h.node ≡ f.node → f.left.now ≡ c ∷ cs → IsAt ps c Open → c < length g
    → IsCycle g (from_first c (map (λ k. k.node) new))
cycle_found g before ps start c cs old front new f h from popped pushed same left is_open below =
    let searched = subst (IsSearch g ps) (last_first old front f popped) from.searched in
    let found = closes g ps f (reverse front) c searched
    (subst (λ l. In c l) (sym left) (inl refl)) is_open below in
    let all : map (λ k. k.node) (reverse (reverse front)) ++ f.node ∷ [] ≡ map (λ k. k.node) new =
    ap (λ l. map (λ k. k.node) l ++ f.node ∷ []) (reverse-reverse front)
    ∙ ap (λ i. map (λ k. k.node) front ++ i ∷ []) (sym same)
    ∙ sym (map-append (λ k. k.node) front (h ∷ []))
    ∙ ap (map (λ k. k.node)) (sym pushed) in
    subst (λ l. IsCycle g (from_first c l)) all found

pub ends : (g : List (List ℕ)) (before ps : List Progress) (start : ℕ) (path : List Visit)
    → IsSearchFrom g before start ps (reverse path) → path ≡ []
    → IsBetween g ps × Keeps before ps × IsAt ps start Done
ends g before ps start path from empty = (
  record { as_many = searched.as_many; done = searched.done; none_open = searched.open_on_path },
  from.kept,
  by from.begun,
)
  where
    searched : IsSearch g ps []
    searched = subst (λ l. IsSearch g ps (reverse l)) empty from.searched

    by : IsAt ps start Open ⊎ IsAt ps start Done → IsAt ps start Done
    by (inl is_open) = absurd (searched.open_on_path start is_open)
    by (inr done) = done

-- ## One search after another

-- before the first search no node is begun
pub none_begun : (g : List (List ℕ)) (ps : List Progress) (n : ℕ) → ps ≡ replicate n Unseen
    → n ≡ length g → IsBetween g ps
none_begun g ps n is as_many = record {
  as_many = ap length is ∙ length-replicate n Unseen ∙ as_many;
  done = ([], tt, λ i at. absurd (other i Done at (λ e. absurd cc)));
  none_open = λ i at. other i Open at (λ e. absurd cc);
}
  where
    alike : (m i : ℕ) (p : Progress) → slice_get (replicate m Unseen) i ≡ Some p → p ≡ Unseen
    alike zero i p e = absurd cc
    alike (suc m) zero p e = cc
    alike (suc m) (suc i) p e = alike m i p e

    other : (i : ℕ) (p : Progress) → IsAt ps i p → (p ≡ Unseen → ⊥) → ⊥
    other i p at h = h (alike n i p (ap (λ l. slice_get l i) (sym is) ∙ at))

-- between two searches a node is unseen or done
pub done_between : (g : List (List ℕ)) (ps : List Progress) (i : ℕ) (p : Progress)
    → IsBetween g ps → IsAt ps i p → (p ≡ Unseen → ⊥) → IsAt ps i Done
done_between g ps i Unseen between at other = absurd (other refl)
done_between g ps i Open between at other = absurd (between.none_open i at)
done_between g ps i Done between at other = at

pub one_more_done : (before after : List Progress) (n : ℕ)
    → ((i : ℕ) → i < n → IsAt before i Done) → Keeps before after → IsAt after n Done
    → (i : ℕ) → i < n + 1 → IsAt after i Done
one_more_done before after n done kept last =
    below_more (λ i. IsAt after i Done) n (λ i below. kept i (done i below)) last

-- a search that finds no cycle leaves one more node done
pub searched_more : (g : List (List ℕ)) (before after now : List Progress) (n : ℕ)
    (found : Option (Vec ℕ Global)) → found ≡ None → IsSearchAnswer g before n after found
    → now ≡ after → ((i : ℕ) → i < n → IsAt before i Done)
    → IsBetween g now × ((i : ℕ) → i < n + 1 → IsAt now i Done)
searched_more g before after now n found is answer same done =
    let h : IsSearchAnswer g before n after None =
    subst (IsSearchAnswer g before n after) is answer in
    subst (λ ps. IsBetween g ps × ((i : ℕ) → i < n + 1 → IsAt ps i Done)) (sym same)
    (h.0, one_more_done before after n done h.1 h.2)

-- a node that was begun before needs no search
pub skipped_more : (g : List (List ℕ)) (ps now : List Progress) (n : ℕ) → IsBetween g ps
    → n < length ps → (get_or ps n Unseen ≡ Unseen → ⊥) → now ≡ ps
    → ((i : ℕ) → i < n → IsAt ps i Done)
    → IsBetween g now × ((i : ℕ) → i < n + 1 → IsAt now i Done)
skipped_more g ps now n between below other same done =
    let last = done_between g ps n (get_or ps n Unseen) between
    (slice_get-get_or ps n Unseen below) other in
    subst (λ l. IsBetween g l × ((i : ℕ) → i < n + 1 → IsAt l i Done)) (sym same)
    (between, one_more_done ps ps n done (λ i at. at) last)

-- after the last search all nodes stand in an order
pub all_ordered : (g : List (List ℕ)) (ps : List Progress) (n : ℕ) → IsBetween g ps
    → length g ≤ n → ((i : ℕ) → i < n → IsAt ps i Done) → IsOrdered g
all_ordered g ps n between past done =
    (between.done.0, between.done.1, λ i below. between.done.2 i (done i (omega arith)))

-- ## The measure of the search

unseen_done : (ps : List Progress) (g : List (List ℕ)) (i : ℕ)
    → unseen (set ps i Done) g ≤ unseen ps g
unseen_done [] g i = omega arith
unseen_done (p ∷ ps) [] zero = omega arith
unseen_done (p ∷ ps) [] (suc i) = omega arith
unseen_done (Unseen ∷ ps) (c ∷ g) zero = omega arith
unseen_done (Open ∷ ps) (c ∷ g) zero = omega arith
unseen_done (Done ∷ ps) (c ∷ g) zero = omega arith
unseen_done (Unseen ∷ ps) (c ∷ g) (suc i) = omega (arith, unseen_done ps g i)
unseen_done (Open ∷ ps) (c ∷ g) (suc i) = unseen_done ps g i
unseen_done (Done ∷ ps) (c ∷ g) (suc i) = unseen_done ps g i

unseen_open : (ps : List Progress) (g : List (List ℕ)) (i : ℕ) → i < length g → IsAt ps i Unseen
    → unseen (set ps i Open) g + (1 + length (called g i)) ≡ unseen ps g
unseen_open [] g i below at = absurd cc
unseen_open (p ∷ ps) [] i below at = absurd (omega arith)
unseen_open (Unseen ∷ ps) (c ∷ g) zero below at = omega arith
unseen_open (Open ∷ ps) (c ∷ g) zero below at = absurd cc
unseen_open (Done ∷ ps) (c ∷ g) zero below at = absurd cc
unseen_open (Unseen ∷ ps) (c ∷ g) (suc i) below at =
    omega (arith, unseen_open ps g i (omega arith) at)
unseen_open (Open ∷ ps) (c ∷ g) (suc i) below at = unseen_open ps g i (omega arith) at
unseen_open (Done ∷ ps) (c ∷ g) (suc i) below at = unseen_open ps g i (omega arith) at

on_path_more : (all front : List Visit) (f : Visit) → all ≡ front ++ f ∷ []
    → on_path all ≡ on_path front + (1 + length f.left.now)
on_path_more all front f e = ap on_path e ∙ sum_by_push (λ h. 1 + length h.left.now) front f

pub less_passed : (ps : List Progress) (g : List (List ℕ)) (c : ℕ) (old front new : List Visit)
    (f h : Visit) → old ≡ front ++ f ∷ []
    → new ≡ front ++ h ∷ [] → f.left.now ≡ c ∷ h.left.now
    → unseen ps g + on_path new < unseen ps g + on_path old
less_passed ps g c old front new f h popped pushed left =
    omega (arith, on_path_more old front f popped, on_path_more new front h pushed, ap length left)

pub less_finished : (ps : List Progress) (g : List (List ℕ)) (i : ℕ) (old new : List Visit)
    (f : Visit) → old ≡ new ++ f ∷ []
    → unseen (set ps i Done) g + on_path new < unseen ps g + on_path old
less_finished ps g i old new f popped =
    omega (arith, unseen_done ps g i, on_path_more old new f popped)

pub less_entered : (ps : List Progress) (g : List (List ℕ)) (c : ℕ) (old front mid new : List Visit)
    (f h k : Visit) → old ≡ front ++ f ∷ []
    → mid ≡ front ++ h ∷ [] → new ≡ mid ++ k ∷ [] → f.left.now ≡ c ∷ h.left.now → c < length g
    → k.left.now ≡ called g c → IsAt ps c Unseen
    → unseen (set ps c Open) g + on_path new < unseen ps g + on_path old
less_entered ps g c old front mid new f h k popped pushed entered_last left within all at_first =
    omega (
      arith,
      unseen_open ps g c within at_first,
      on_path_more old front f popped,
      on_path_more mid front h pushed,
      on_path_more new mid k entered_last,
      ap length left,
      ap length all,
    )
