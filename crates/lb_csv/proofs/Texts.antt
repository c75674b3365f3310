-- Texts that are added part by part.
use Rattle.std.proofs.Common.{◌≡◌, ◌<◌, ◌≤◌, ℕ, ◌+◌, List, [], ◌∷◌, ◌++◌, map, length, drop, get_or}
use Rattle.std.proofs.Common.{flat_map, refl, sym, ap, ◌∙◌, append_assoc, add-one}
use Rattle.std.proofs.Math.Seq.{drop-cons}
use Rattle.std.proofs.Math.ListN.{drop_of_length-le}

-- a text, a part and the rest make the same whole after the part was added
pub part_added :
    (text after part rest whole : List ℕ) → after ≡ text ++ part →
    text ++ (part ++ rest) ≡ whole → after ++ rest ≡ whole
part_added text after part rest whole e h =
    ap (λ s. s ++ rest) e ∙ append_assoc text part rest ∙ h

pub flat_map-map :
    {A B : Type 0} (f : B → List ℕ) (g : A → B) (xs : List A) →
    flat_map f (map g xs) ≡ flat_map (λ x. f (g x)) xs
flat_map-map f g [] = refl
flat_map-map f g (x ∷ xs) = ap (λ s. f (g x) ++ s) (flat_map-map f g xs)

module _ {A : Type 0} (f : A → List ℕ) (xs : List A) (tail : List ℕ) (i : ℕ) where
  -- the next part is the first of what is left
  pub next_part :
      (d : A) → i < length xs →
      flat_map f (drop i xs) ++ tail
      ≡ f (get_or xs i d) ++ (flat_map f (drop (i + 1) xs) ++ tail)
  next_part d lt =
      let here : drop i xs ≡ get_or xs i d ∷ drop (i + 1) xs = rw (add-one, drop-cons xs i d) in
      ap (λ ys. flat_map f ys ++ tail) here
      ∙ append_assoc (f (get_or xs i d)) (flat_map f (drop (i + 1) xs)) tail

  -- no part is left behind the end of the list
  pub no_part : length xs ≤ i → flat_map f (drop i xs) ++ tail ≡ tail
  no_part le = ap (λ ys. flat_map f ys ++ tail) (drop_of_length-le xs le)

  -- the whole stays where the next part was added
  pub loop_step :
      (d item : A) → item ≡ get_or xs i d → i < length xs → (text after whole : List ℕ) →
      after ≡ text ++ f item → text ++ (flat_map f (drop i xs) ++ tail) ≡ whole →
      after ++ (flat_map f (drop (i + 1) xs) ++ tail) ≡ whole
  loop_step d item is lt text after whole e h =
      let rest = flat_map f (drop (i + 1) xs) ++ tail in
      part_added text after (f item) rest whole e
      (ap (λ s. text ++ s) (ap (λ x. f x ++ rest) is ∙ sym (next_part d lt)) ∙ h)

  -- the text is the whole where the last part was added
  pub loop_end :
      length xs ≤ i → (text after whole : List ℕ) → after ≡ text ++ tail →
      text ++ (flat_map f (drop i xs) ++ tail) ≡ whole → after ≡ whole
  loop_end le text after whole e h = e ∙ ap (λ s. text ++ s) (sym (no_part le)) ∙ h
