-- The item at a place of a list that is mapped by two functions, one after the other.
use Rattle.std.proofs.Common.{ℕ, ◌≡◌, ◌<◌, List, length, map, Some, get_or, option_map, refl, ap}
use Rattle.std.proofs.Common.{◌∙◌}
use Rattle.std.proofs.lemmas.Option.{slice_get-map, slice_get_read}
use Rattle.std.specs.List.{slice_get}

pub slice_get-map-map : {A B C : Type 0} (f : B → C) (g : A → B) (xs : List A) (i : ℕ) (x : A)
    → i < length xs
    → x ≡ get_or xs i x → slice_get (map f (map g xs)) i ≡ Some (f (g x))
slice_get-map-map f g xs i x below is =
    slice_get-map f (map g xs) i
    ∙ ap (option_map f) (slice_get-map g xs i
    ∙ ap (option_map g) (slice_get_read xs (length xs) i x refl below is))
