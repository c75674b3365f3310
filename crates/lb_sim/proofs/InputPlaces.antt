-- The places of inputs: one after the other, each in the next plane or the next word.
use Rattle.std.proofs.Common.{◌≡◌, ℕ, ◌+◌, ◌<◌, ◌≤◌, List, [], ◌∷◌, ◌++◌}
use Rattle.std.proofs.Common.{get_or, length, take, sym, ap, ap₂, ◌∙◌, subst, arith}
use Rattle.std.proofs.lemmas.List.{take_all, take_more, length-append}
use Rattle.lb_syntax.specs.declared.tree.Kind.{Kind}
use Rattle.lb_syntax.specs.declared.tree.Kind.TheVariants.{Int as Int_kind, Bool as Bool_kind}
use Rattle.lb_traces.proofs.KindColumns.{truths_push, numbers_push}
use Rattle.lb_sim.specs.InputRows.{places_of, truth_columns, number_columns}
use Rattle.lb_sim.specs.declared.place.Value.{Value}
use Rattle.lb_sim.specs.declared.place.Value.TheVariants.{Truth, Number}
use Rattle.lb_sim.proofs.InputColumns.{places_push}

-- inputs of `kinds` are at `values`, and take the places below `planes` and `words`
pub record AreInputs (kinds : List Kind) (values : List Value) (planes words : ℕ) : Type 0 where
  pub values_are : values ≡ places_of 2 1 kinds
  pub planes_are : planes ≡ 2 + length (truth_columns 0 kinds)
  pub words_are : words ≡ 1 + length (number_columns 0 kinds)

-- the inputs of the first kinds are those of all kinds where these are no more
pub inputs_all :
    (kinds : List Kind) (j : ℕ) (values : List Value) (planes words : ℕ) →
    AreInputs (take j kinds) values planes words → length kinds ≤ j →
    AreInputs kinds values planes words
inputs_all kinds j values planes words h le =
    subst (λ ks. AreInputs ks values planes words) (take_all j kinds le) h

module _ (kinds : List Kind) (j : ℕ) (values : List Value) (planes words : ℕ)
    (h : AreInputs (take j kinds) values planes words) (lt : j < length kinds) where
  abbrev before : List Kind
  before = take j kinds

  one_more : (k : Kind) → get_or kinds j Int_kind ≡ k → take (j + 1) kinds ≡ before ++ k ∷ []
  one_more k is = take_more kinds j Int_kind lt ∙ ap (λ x. before ++ x ∷ []) is

  pub inputs_truth :
      (n more : ℕ) → get_or kinds j Int_kind ≡ Bool_kind → n ≡ planes → more ≡ planes + 1 →
      AreInputs (take (j + 1) kinds) (values ++ Truth (record { 0 = n }) ∷ []) more words
  inputs_truth n more is at grown =
      let longer : length (truth_columns 0 (before ++ Bool_kind ∷ []))
      ≡ length (truth_columns 0 before) + 1 =
      ap length (truths_push 0 before Bool_kind) ∙ length-append _ _ in
      let as_long : length (number_columns 0 (before ++ Bool_kind ∷ []))
      ≡ length (number_columns 0 before) + 0 =
      ap length (numbers_push 0 before Bool_kind) ∙ length-append _ _ in
      let there : n ≡ 2 + length (truth_columns 0 before) = at ∙ h.planes_are in
      subst
      (λ ks. AreInputs ks (values ++ Truth (record { 0 = n }) ∷ []) more words)
      (sym (one_more Bool_kind is))
      (record {
        values_are =
            ap₂ (λ l m. l ++ Truth (record { 0 = m }) ∷ []) h.values_are there
            ∙ sym (places_push 0 2 1 before Bool_kind);
        planes_are = omega (arith, grown, h.planes_are, longer);
        words_are = omega (arith, h.words_are, as_long);
      })

  pub inputs_number :
      (n more : ℕ) → get_or kinds j Int_kind ≡ Int_kind → n ≡ words → more ≡ words + 1 →
      AreInputs (take (j + 1) kinds) (values ++ Number (record { 0 = n }) ∷ []) planes more
  inputs_number n more is at grown =
      let longer : length (number_columns 0 (before ++ Int_kind ∷ []))
      ≡ length (number_columns 0 before) + 1 =
      ap length (numbers_push 0 before Int_kind) ∙ length-append _ _ in
      let as_long : length (truth_columns 0 (before ++ Int_kind ∷ []))
      ≡ length (truth_columns 0 before) + 0 =
      ap length (truths_push 0 before Int_kind) ∙ length-append _ _ in
      let there : n ≡ 1 + length (number_columns 0 before) = at ∙ h.words_are in
      subst
      (λ ks. AreInputs ks (values ++ Number (record { 0 = n }) ∷ []) planes more)
      (sym (one_more Int_kind is))
      (record {
        values_are =
            ap₂ (λ l m. l ++ Number (record { 0 = m }) ∷ []) h.values_are there
            ∙ sym (places_push 0 2 1 before Int_kind);
        planes_are = omega (arith, h.planes_are, as_long);
        words_are = omega (arith, grown, h.words_are, longer);
      })

pub inputs_same :
    (kinds : List Kind) (values values' : List Value) (planes planes' words words' : ℕ) →
    values' ≡ values → planes' ≡ planes → words' ≡ words → AreInputs kinds values planes words →
    AreInputs kinds values' planes' words'
inputs_same kinds values values' planes planes' words words' v p w h = record {
  values_are = v ∙ h.values_are;
  planes_are = p ∙ h.planes_are;
  words_are = w ∙ h.words_are;
}
