-- The static expressions of a node, where equal ones of some purposes are kept once.
use Rattle.std.specs.Prelude.{◌≡◌, ℕ, suc, Bool, true, cond, Option, Some, None, option_map}
use Rattle.std.specs.Prelude.{is_some, List, [], ◌∷◌, ◌++◌, map, length, slice_get}
use Rattle.std.specs.Ordering.{nat_cmp}
use Rattle.std.specs.BTreeMap.{BTreeMap, get}
use Rattle.lb_syntax.specs.Lists.{◌>>=◌, either_or, holds}
use Rattle.lb_static.specs.PartKeys.{key_of, has_key, is_same_part}
use Rattle.lb_static.specs.StaticParts.{Part, part_of}
use Rattle.lb_static.specs.declared.resolved.StaticPart.{StaticPart}

-- the place of the first item that passes a test
abbrev pub first_with : {A : Type 0} → (A → Bool) → List A → Option ℕ
first_with f [] = None
first_with f (x ∷ xs) = cond (f x) (Some 0) (option_map suc (first_with f xs))

-- the static expression at place `i` is equal to `q`
abbrev pub is_held_at : List Part → Part → ℕ → Bool
is_held_at ps q i = holds (λ p. is_same_part p q) (slice_get ps i)

-- the place of a static expression that is equal to `q`, if one is found
abbrev pub held : List Part → Part → Option ℕ
held ps q =
    key_of q >>= λ k. first_with (has_key k) ps >>= λ i. cond (is_held_at ps q i) (Some i) None

-- the place of `q` once it is kept: that of an equal one, or the next place
unfoldable pub place_of : List Part → Part → ℕ
place_of ps q = either_or (held ps q) (length ps)

-- the list that is kept with `q`
unfoldable pub with_part : List Part → Part → List Part
with_part ps q = cond (is_some (held ps q)) ps (ps ++ q ∷ [])

-- the list that is kept with more static expressions, one after another
abbrev pub with_parts : List Part → List Part → List Part
with_parts ps [] = ps
with_parts ps (q ∷ qs) = with_parts (with_part ps q) qs

-- `with_part`, for static expressions as the code keeps them
abbrev pub with_static : List StaticPart → StaticPart → List StaticPart
with_static ps q = cond (is_some (held (map part_of ps) (part_of q))) ps (ps ++ q ∷ [])

-- a map has the first place of each key
abbrev pub ArePartsPlaced : List Part → BTreeMap ℕ ℕ → Type 0
ArePartsPlaced ps places = (k : ℕ) → get nat_cmp places k ≡ first_with (has_key k) ps

-- each key of `q` is the key of a static expression in `ps`
abbrev pub HasNoNewKey : List Part → Part → Type 0
HasNoNewKey ps q =
    (k : ℕ) → has_key k q ≡ true → is_some (first_with (has_key k) ps) ≡ true
