-- The streams of operators have no value where clocks do not tick and operands have no value.
use Rattle.std.proofs.Common.{◌≡◌, ℕ, zero, suc, Bool, true, false, Some, None, List, [], ◌∷◌}
use Rattle.std.proofs.Common.{map, fold, refl, ap, ◌∙◌}
use Rattle.lb_syntax.specs.declared.tree.ArrayIterator.{ArrayIterator}
use Rattle.lb_syntax.specs.declared.tree.ArrayIterator.TheVariants.{Map, Red, Fill}
use Rattle.lb_syntax.specs.declared.tree.BinaryOperator.{BinaryOperator}
use Rattle.lb_syntax.specs.declared.tree.Kind.{Kind}
use Rattle.lb_syntax.specs.Lists.{Every, zip2, copies, joined}
use Rattle.lb_syntax.proofs.TruthValues.{and_second}
use Rattle.lb_check.specs.Scalars.{Scalar, Cell, Stream, two_scalars}
use Rattle.lb_check.specs.Solutions.{fits}
use Rattle.lb_check.specs.Streams.{constantly, held, two_cells, along_two, choice, choices, across}
use Rattle.lb_check.specs.Streams.{previous, newest, first_then, sample, latest, symbols}
use Rattle.lb_check.proofs.lists.Members.{Every-append}
use Rattle.lb_laws.specs.Ticks.{IsOff, IsAbsent, AreAbsent}

-- ## One stream

absent_constantly : (t : ℕ) (v : Scalar) (bs : List Bool) → IsOff t bs →
    IsAbsent t (constantly v bs)
absent_constantly t v [] off = refl
absent_constantly zero v (b ∷ bs) off = ap (held v) off
absent_constantly (suc t) v (b ∷ bs) off = absent_constantly t v bs off

absent_mapped : (t : ℕ) (f : Cell → Cell) → f None ≡ None → (xs : Stream) → IsAbsent t xs →
    IsAbsent t (map f xs)
absent_mapped t f e [] h = refl
absent_mapped zero f e (x ∷ xs) h = ap f h ∙ e
absent_mapped (suc t) f e (x ∷ xs) h = absent_mapped t f e xs h

absent_zipped : (t : ℕ) (f : Cell → Cell → Cell) → ((y : Cell) → f None y ≡ None) →
    (xs ys : Stream) → IsAbsent t xs → IsAbsent t (zip2 f xs ys)
absent_zipped t f e [] ys h = refl
absent_zipped t f e (x ∷ xs) [] h = refl
absent_zipped zero f e (x ∷ xs) (y ∷ ys) h = ap (λ z. f z y) h ∙ e y
absent_zipped (suc t) f e (x ∷ xs) (y ∷ ys) h = absent_zipped t f e xs ys h

two_absent : (f : Scalar → Scalar → Scalar) (y : Cell) → two_cells f None y ≡ None
two_absent f None = refl
two_absent f (Some w) = refl

pub absent_two : (t : ℕ) (f : Scalar → Scalar → Scalar) (xs ys : Stream) → IsAbsent t xs →
    IsAbsent t (along_two f xs ys)
absent_two t f xs ys h = absent_zipped t (two_cells f) (two_absent f) xs ys h

absent_choice : (t : ℕ) (cs xs ys : Stream) → IsAbsent t cs → IsAbsent t (choice cs xs ys)
absent_choice t [] xs ys h = refl
absent_choice t (None ∷ cs) [] ys h = refl
absent_choice t (Some c ∷ cs) [] ys h = refl
absent_choice t (None ∷ cs) (x ∷ xs) [] h = refl
absent_choice t (Some c ∷ cs) (None ∷ xs) [] h = refl
absent_choice t (Some c ∷ cs) (Some v ∷ xs) [] h = refl
absent_choice zero (None ∷ cs) (x ∷ xs) (y ∷ ys) h = refl
absent_choice zero (Some c ∷ cs) (x ∷ xs) (y ∷ ys) h = absurd cc
absent_choice (suc t) (None ∷ cs) (x ∷ xs) (y ∷ ys) h = absent_choice t cs xs ys h
absent_choice (suc t) (Some c ∷ cs) (None ∷ xs) (y ∷ ys) h = absent_choice t cs xs ys h
absent_choice (suc t) (Some c ∷ cs) (Some v ∷ xs) (None ∷ ys) h = absent_choice t cs xs ys h
absent_choice (suc t) (Some c ∷ cs) (Some v ∷ xs) (Some w ∷ ys) h = absent_choice t cs xs ys h

absent_first_then : (t : ℕ) (xs ys : Stream) → IsAbsent t xs → IsAbsent t ys →
    IsAbsent t (first_then xs ys)
absent_first_then t [] ys h g = refl
absent_first_then t (None ∷ xs) [] h g = refl
absent_first_then t (Some v ∷ xs) [] h g = refl
absent_first_then zero (None ∷ xs) (y ∷ ys) h g = refl
absent_first_then zero (Some v ∷ xs) (y ∷ ys) h g = absurd cc
absent_first_then (suc t) (None ∷ xs) (y ∷ ys) h g = absent_first_then t xs ys h g
absent_first_then (suc t) (Some v ∷ xs) (y ∷ ys) h g = g

absent_previous : (t : ℕ) (v : Scalar) (bs : List Bool) (xs : Stream) → IsOff t bs →
    IsAbsent t (previous v bs xs)
absent_previous t v [] xs off = refl
absent_previous zero v (b ∷ bs) xs off = ap (held v) off
absent_previous (suc t) v (b ∷ bs) [] off = absent_previous t v bs [] off
absent_previous (suc t) v (b ∷ bs) (x ∷ xs) off = absent_previous t (newest v x) bs xs off

absent_sample : (t : ℕ) (bs : List Bool) (xs : Stream) → IsOff t bs →
    IsAbsent t (zip2 sample bs xs)
absent_sample t [] xs off = refl
absent_sample t (b ∷ bs) [] off = refl
absent_sample zero (b ∷ bs) (x ∷ xs) off = ap (λ c. sample c x) off
absent_sample (suc t) (b ∷ bs) (x ∷ xs) off = absent_sample t bs xs off

absent_latest : (t : ℕ) (v : Scalar) (bs : List Bool) (xs : Stream) → IsOff t bs →
    IsAbsent t (latest v bs xs)
absent_latest t v [] xs off = refl
absent_latest t v (b ∷ bs) [] off = refl
absent_latest zero v (b ∷ bs) (None ∷ xs) off = ap (held v) off
absent_latest zero v (b ∷ bs) (Some w ∷ xs) off = ap (held w) off
absent_latest (suc t) v (b ∷ bs) (None ∷ xs) off = absent_latest t v bs xs off
absent_latest (suc t) v (b ∷ bs) (Some w ∷ xs) off = absent_latest t w bs xs off

pub absent_across : (t : ℕ) (f : List Scalar → Scalar) (bs : List Bool) (xss : List Stream) →
    IsOff t bs → IsAbsent t (across f bs xss)
absent_across t f [] xss off = refl
absent_across zero f (true ∷ bs) xss off = absurd cc
absent_across zero f (false ∷ bs) xss off = refl
absent_across (suc t) f (true ∷ bs) xss off = absent_across t f bs _ off
absent_across (suc t) f (false ∷ bs) xss off = absent_across t f bs _ off

-- a stream that fits a clock is absent where the clock does not tick
absent_fitting : (t : ℕ) (kind : Kind) (bs : List Bool) (xs : Stream) → fits kind bs xs ≡ true →
    IsOff t bs → IsAbsent t xs
absent_fitting t kind [] [] h off = refl
absent_fitting t kind [] (None ∷ xs) h off = absurd cc
absent_fitting t kind [] (Some v ∷ xs) h off = absurd cc
absent_fitting t kind (true ∷ bs) [] h off = refl
absent_fitting t kind (false ∷ bs) [] h off = refl
absent_fitting t kind (true ∷ bs) (None ∷ xs) h off = absurd cc
absent_fitting zero kind (true ∷ bs) (Some v ∷ xs) h off = absurd cc
absent_fitting (suc t) kind (true ∷ bs) (Some v ∷ xs) h off =
    absent_fitting t kind bs xs (and_second _ (fits kind bs xs) h) off
absent_fitting zero kind (false ∷ bs) (None ∷ xs) h off = refl
absent_fitting (suc t) kind (false ∷ bs) (None ∷ xs) h off = absent_fitting t kind bs xs h off
absent_fitting t kind (false ∷ bs) (Some v ∷ xs) h off = absurd cc

-- ## Some streams

module _ (t : ℕ) where
  all_mapped : (g : Stream → Stream) → ((xs : Stream) → IsAbsent t xs → IsAbsent t (g xs)) →
      (xss : List Stream) → AreAbsent t xss → AreAbsent t (map g xss)
  all_mapped g f [] h = tt
  all_mapped g f (xs ∷ xss) h = (f xs h.0, all_mapped g f xss h.1)

  all_made : (g : Stream → Stream) → ((xs : Stream) → IsAbsent t (g xs)) → (xss : List Stream) →
      AreAbsent t (map g xss)
  all_made g f [] = tt
  all_made g f (xs ∷ xss) = (f xs, all_made g f xss)

  all_zipped : (g : Stream → Stream → Stream) →
      ((xs ys : Stream) → IsAbsent t xs → IsAbsent t (g xs ys)) → (xss yss : List Stream) →
      AreAbsent t xss → AreAbsent t (zip2 g xss yss)
  all_zipped g f [] yss h = tt
  all_zipped g f (xs ∷ xss) [] h = tt
  all_zipped g f (xs ∷ xss) (ys ∷ yss) h = (f xs ys h.0, all_zipped g f xss yss h.1)

  both_zipped : (g : Stream → Stream → Stream) →
      ((xs ys : Stream) → IsAbsent t xs → IsAbsent t ys → IsAbsent t (g xs ys)) →
      (xss yss : List Stream) → AreAbsent t xss → AreAbsent t yss → AreAbsent t (zip2 g xss yss)
  both_zipped g f [] yss h k = tt
  both_zipped g f (xs ∷ xss) [] h k = tt
  both_zipped g f (xs ∷ xss) (ys ∷ yss) h k =
      (f xs ys h.0 k.0, both_zipped g f xss yss h.1 k.1)

  pub all_constant : (v : Scalar) (bs : List Bool) → IsOff t bs →
      AreAbsent t (constantly v bs ∷ [])
  all_constant v bs off = (absent_constantly t v bs off, tt)

  pub all_one : (f : Cell → Cell) → f None ≡ None → (xss : List Stream) → AreAbsent t xss →
      AreAbsent t (map (map f) xss)
  all_one f e xss h = all_mapped (map f) (absent_mapped t f e) xss h

  pub all_two : (f : Scalar → Scalar → Scalar) (xss yss : List Stream) → AreAbsent t xss →
      AreAbsent t (zip2 (along_two f) xss yss)
  all_two f xss yss h = all_zipped (along_two f) (absent_two t f) xss yss h

  pub all_choices : (css xss yss : List Stream) → AreAbsent t css →
      AreAbsent t (choices css xss yss)
  all_choices [] xss yss h = tt
  all_choices (cs ∷ css) xss yss h = by xss yss
    where
      by : (ass bss : List Stream) → AreAbsent t (zip2 (choice cs) ass bss)
      by [] bss = tt
      by (a ∷ ass) [] = tt
      by (a ∷ ass) (b ∷ bss) = (absent_choice t cs a b h.0, by ass bss)

  pub all_first_then : (xss yss : List Stream) → AreAbsent t xss → AreAbsent t yss →
      AreAbsent t (zip2 first_then xss yss)
  all_first_then xss yss h k = both_zipped first_then (absent_first_then t) xss yss h k

  pub all_previous : (v : Scalar) (bs : List Bool) (xss : List Stream) → IsOff t bs →
      AreAbsent t (map (previous v bs) xss)
  all_previous v bs xss off = all_made (previous v bs) (λ xs. absent_previous t v bs xs off) xss

  pub all_sampled : (bs : List Bool) (xss : List Stream) → IsOff t bs →
      AreAbsent t (map (zip2 sample bs) xss)
  all_sampled bs xss off = all_made (zip2 sample bs) (λ xs. absent_sample t bs xs off) xss

  pub all_latest : (v : Scalar) (bs : List Bool) (xss : List Stream) → IsOff t bs →
      AreAbsent t (map (latest v bs) xss)
  all_latest v bs xss off = all_made (latest v bs) (λ xs. absent_latest t v bs xs off) xss

  pub all_fitting : (kind : Kind) (bs : List Bool) (xss : List Stream) →
      Every (λ xs. fits kind bs xs ≡ true) xss → IsOff t bs → AreAbsent t xss
  all_fitting kind bs [] h off = tt
  all_fitting kind bs (xs ∷ xss) h off =
      (absent_fitting t kind bs xs h.0 off, all_fitting kind bs xss h.1 off)

  pub all_copies : (n : ℕ) (xss : List Stream) → AreAbsent t xss → AreAbsent t (copies n xss)
  all_copies zero xss h = tt
  all_copies (suc n) xss h =
      Every-append (IsAbsent t) xss (copies n xss) h (all_copies n xss h)

  pub all_joined : (xsss : List (List Stream)) → Every (AreAbsent t) xsss →
      AreAbsent t (joined xsss)
  all_joined [] h = tt
  all_joined (xss ∷ xsss) h =
      Every-append (IsAbsent t) xss (joined xsss) h.0 (all_joined xsss h.1)

  folded : (f : Scalar → Scalar → Scalar) (init : Stream) (xss : List Stream) →
      IsAbsent t init → IsAbsent t (fold (along_two f) init xss)
  folded f init [] h = h
  folded f init (xs ∷ xss) h =
      folded f (along_two f init xs) xss (absent_two t f init xs h)

  pub all_symbols : (it : ArrayIterator) (op : BinaryOperator) (xsss : List (List Stream)) →
      Every (AreAbsent t) xsss → AreAbsent t (symbols it op xsss)
  all_symbols Map op [] h = tt
  all_symbols Map op (xs ∷ []) h = tt
  all_symbols Map op (xs ∷ (ys ∷ [])) h = all_two (two_scalars op) xs ys h.0
  all_symbols Map op (xs ∷ (ys ∷ (zs ∷ rest))) h = tt
  all_symbols Red op [] h = tt
  all_symbols Red op ([] ∷ rest) h = tt
  all_symbols Red op ((init ∷ []) ∷ []) h = tt
  all_symbols Red op ((init ∷ []) ∷ (ys ∷ [])) h = (folded (two_scalars op) init ys h.0.0, tt)
  all_symbols Red op ((init ∷ []) ∷ (ys ∷ (zs ∷ rest))) h = tt
  all_symbols Red op ((init ∷ (more ∷ others)) ∷ rest) h = tt
  all_symbols Fill op xsss h = tt
