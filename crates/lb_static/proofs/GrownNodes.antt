-- The meaning of a part of a node stays where the node has more static expressions and calls.
use Rattle.std.proofs.Common.{◌≡◌, ℕ, ◌+◌, ◌<◌, true, List, [], ◌∷◌, ◌++◌, length, take, get_or}
use Rattle.std.proofs.Common.{map, Option, Some, None, refl, ap, sym, subst, ◌∙◌, length-append}
use Rattle.std.proofs.lemmas.Bool.{and_from}
use Rattle.std.proofs.lemmas.List.{append-nil, map-append, append_assoc, take_more}
use Rattle.std.proofs.lemmas.List.Folds.{list_all-append}
use Rattle.std.proofs.Math.Bool.{and-true}
use Rattle.lb_syntax.specs.Tree.{Static, Expr}
use Rattle.lb_syntax.specs.View.{view_static, view_statics}
use Rattle.lb_syntax.specs.declared.tree.Static.{Static as Static'}
use Rattle.lb_static.specs.Instances.{Site}
use Rattle.lb_static.specs.NodeProgress.{Progress, texts, counts_in, grown, Stands, StandAll}
use Rattle.lb_static.specs.NodeProgress.{StaticStands, CallStands, static_fits, statics_fit}
use Rattle.lb_static.specs.ResolvedTerms.{Texts, expr_of, static_at, is_static, is_call, is_within}
use Rattle.lb_static.specs.ResolvedTerms.{is_count_within, is_unhidden}
use Rattle.lb_static.specs.StaticParts.{Part, Purpose}
use Rattle.lb_static.specs.declared.resolved.CallId.{CallId}
use Rattle.lb_static.specs.declared.resolved.StaticId.{StaticId}
use Rattle.lb_static.specs.declared.resolved.Term.{Term}
use Rattle.lb_static.proofs.Growth.{expr_stays, unhidden_stays, still_within, static_stays}
use Rattle.lb_static.proofs.SharedParts.{all_added, kept_longer, kept_twice}
use Rattle.lb_static.proofs.Growth.{static_still, call_stays, call_still, same_on, all_on, both_on}

pub grown_nothing : (s : Progress) → grown s [] [] ≡ s
grown_nothing s = λ i. record {
  source = s.source;
  node = s.node;
  declared = s.declared;
  parts = s.parts;
  calls = append-nil s.calls i;
}

pub grown_twice : (s : Progress) (P Q : List Part) (C D : List Site)
    → grown (grown s P C) Q D ≡ grown s (P ++ Q) (C ++ D)
grown_twice s P Q C D = λ i. record {
  source = s.source;
  node = s.node;
  declared = s.declared;
  parts = kept_twice s.parts P Q i;
  calls = append_assoc s.calls C D i;
}

module _ (s : Progress) (P : List Part) (C : List Site) where
  abbrev X : List Static
  X = map (λ p. p.1) (all_added s.parts P)

  abbrev later_texts : Texts
  later_texts = record {
    variables =
        (texts s).variables;
    statics = (texts s).statics ++ X;
    calls = s.calls ++ C;
  }

  texts_grown : texts (grown s P C) ≡ later_texts
  texts_grown =
      ap (λ (l : List Static). record
      { variables = (texts s).variables; statics = l; calls = s.calls ++ C })
      (ap (map (λ p. p.1)) (kept_longer s.parts P)
      ∙ map-append (λ p. p.1) s.parts (all_added s.parts P))

  pub within_grown : (t : Term) → is_within (counts_in (texts s)) t ≡ true
      → is_within (counts_in (texts (grown s P C))) t ≡ true
  within_grown t e =
      ap (λ T. is_within (counts_in T) t) texts_grown
      ∙ still_within (counts_in (texts s)) (counts_in later_texts) (length X) (length C) refl
      (length-append _ X) (length-append s.calls C) t e

  pub expr_grown : (t : Term) → is_within (counts_in (texts s)) t ≡ true
      → expr_of (texts (grown s P C)) t ≡ expr_of (texts s) t
  expr_grown t e = ap (λ T. expr_of T t) texts_grown ∙ expr_stays (texts s) X C t e

  pub unhidden_grown : (t : Term) → is_within (counts_in (texts s)) t ≡ true
      → is_unhidden (texts s) t ≡ true → is_unhidden (texts (grown s P C)) t ≡ true
  unhidden_grown t e u = ap (λ T. is_unhidden T t) texts_grown ∙ unhidden_stays (texts s) X C t e
      ∙ u

  pub stands_grown : (e : Expr) (t : Term) → Stands s e t → Stands (grown s P C) e t
  stands_grown e t h = (expr_grown t h.1 ∙ h.0, within_grown t h.1, unhidden_grown t h.1 h.2)

  pub all_stand_grown : (es : List Expr) (ts : List Term) → StandAll s es ts
      → StandAll (grown s P C) es ts
  all_stand_grown es ts h = (
    same_on (is_within (counts_in (texts s))) (expr_of (texts (grown s P C))) (expr_of (texts s)) ts
        expr_grown h.1 ∙ h.0,
    all_on (is_within (counts_in (texts s))) (is_within (counts_in (texts (grown s P C)))) ts
        within_grown h.1,
    both_on (is_within (counts_in (texts s))) (is_unhidden (texts s))
        (is_unhidden (texts (grown s P C))) ts unhidden_grown h.1 h.2,
  )

  pub static_stands_grown : (x : Static) (id : StaticId) → StaticStands s x id
      → StaticStands (grown s P C) x id
  static_stands_grown x id h = (
    ap (λ T. static_at T.statics id) texts_grown ∙ static_stays (texts s).statics X id h.1 ∙ h.0,
    ap (λ T. is_static (counts_in T) id) texts_grown
        ∙ static_still (counts_in (texts s)) (counts_in later_texts) (length X) (length C) refl
        (length-append _ X) (length-append s.calls C) id.0 h.1,
  )

  pub count_within_grown : (count : Option StaticId)
      → is_count_within (counts_in (texts s)) count ≡ true
      → is_count_within (counts_in (texts (grown s P C))) count ≡ true
  count_within_grown None e = refl
  count_within_grown (Some id) e = ap (λ T. is_static (counts_in T) id) texts_grown
      ∙ static_still (counts_in (texts s)) (counts_in later_texts) (length X) (length C) refl
      (length-append _ X) (length-append s.calls C) id.0 e

  pub call_stands_grown : (x : Site) (id : CallId) → CallStands s x id
      → CallStands (grown s P C) x id
  call_stands_grown x id h = (
    call_stays (texts s) X C id h.1 ∙ h.0,
    ap (λ T. is_call (counts_in T) id) texts_grown
        ∙ call_still (counts_in (texts s)) (counts_in later_texts) (length X) (length C) refl
        (length-append _ X) (length-append s.calls C) id.0 h.1,
  )

-- ## Static expressions one after another

-- the progress with one more static expression of a list
pub next_static : (start here after : Progress) (role : Purpose) (xs : List Static') (i : ℕ)
    (x : Static') → i < length xs → x ≡ get_or xs i x
    → here ≡ grown start (map (λ s. (role, s)) (view_statics (take i xs))) []
    → after ≡ grown here ((role, view_static x) ∷ []) []
    → after ≡ grown start (map (λ s. (role, s)) (view_statics (take (i + 1) xs))) []
next_static start here after role xs i x below is at grew =
    let before = view_statics (take i xs) in
    let tagged : List Static → List Part = map (λ s. (role, s)) in
    let same : before ++ view_static x ∷ [] ≡ view_statics (take (i + 1) xs) =
    ap (λ y. before ++ view_static y ∷ []) is
    ∙ sym (map-append view_static (take i xs) (get_or xs i x ∷ []))
    ∙ ap view_statics (sym (take_more xs i x below)) in
    let h : after ≡ grown (grown start (tagged before) []) ((role, view_static x) ∷ []) [] =
    subst (λ m. after ≡ grown m ((role, view_static x) ∷ []) []) at grew in
    h ∙ grown_twice start (tagged before) ((role, view_static x) ∷ []) [] []
    ∙ ap (λ l. grown start l [])
    (sym (map-append (λ s. (role, s)) before (view_static x ∷ [])) ∙ ap tagged same)

pub next_static_fits : (start here : Progress) (role : Purpose) (xs : List Static') (i : ℕ)
    (x : Static') → i < length xs → x ≡ get_or xs i x
    → here ≡ grown start (map (λ s. (role, s)) (view_statics (take i xs))) []
    → statics_fit start (view_statics (take i xs)) ≡ true
    → static_fits here (view_static x) ≡ true
    → statics_fit start (view_statics (take (i + 1) xs)) ≡ true
next_static_fits start here role xs i x below is at fit new =
    let before = view_statics (take i xs) in
    let same : before ++ view_static x ∷ [] ≡ view_statics (take (i + 1) xs) =
    ap (λ y. before ++ view_static y ∷ []) is
    ∙ sym (map-append view_static (take i xs) (get_or xs i x ∷ []))
    ∙ ap view_statics (sym (take_more xs i x below)) in
    let now : static_fits start (view_static x) ≡ true =
    subst (λ m. static_fits m (view_static x) ≡ true) at new in
    subst (λ l. statics_fit start l ≡ true) same
    (list_all-append (static_fits start) before (view_static x ∷ [])
    ∙ and_from _ _ fit (and-true (static_fits start (view_static x)) ∙ now))
