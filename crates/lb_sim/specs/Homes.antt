-- The places of the memories of a flat program: side by side, in the order of its equations.
-- Source: this project's rule.
use Rattle.std.specs.Prelude.{◌≡◌, ◌≢◌, ℕ, suc, ◌⊎◌, Bool, true, false, List, [], ◌∷◌}
use Rattle.lb_syntax.specs.declared.tree.Kind.{Kind}
use Rattle.lb_syntax.specs.declared.tree.Kind.TheVariants.{Bool as Bool_kind}
use Rattle.lb_check.specs.Scalars.{Scalar, Nil, Bad}
use Rattle.lb_flat.specs.Fitting.{IsOf}
use Rattle.lb_flat.specs.Flat.{Operation, FirstThen, Previous, Latest, FlatEquation}
use Rattle.lb_sim.specs.Compiled.{IsHomeAt}
use Rattle.lb_sim.specs.Showing.{kind_of}
use Rattle.lb_sim.specs.States.{kept_at}
use Rattle.lb_sim.specs.declared.place.Holding.{Holding}
use Rattle.lb_sim.specs.declared.place.Value.{Value}
use Rattle.lb_sim.specs.declared.place.Value.TheVariants.{Truth, Negated, Number}

-- ## Places side by side

-- the plane that a value takes, and the word that it takes; 0 stands for none
abbrev pub plane_in : Value → ℕ
plane_in (Truth p) = p.0
plane_in (Negated p) = p.0
plane_in (Number w) = 0

abbrev pub word_in : Value → ℕ
word_in (Truth p) = 0
word_in (Negated p) = 0
word_in (Number w) = w.0

-- the places of a list other than 0 stand side by side, from `first` to before `end`; 0 stands for
-- no place. Example: the places 0, 5, 0, 6 are a row from 5 to 7
abbrev pub IsRow : ℕ → List ℕ → ℕ → Type 0
IsRow first [] end = first ≡ end
IsRow first (k ∷ ks) end =
    ((k ≡ 0) × IsRow first ks end) ⊎ ((k ≡ first) × IsRow (suc first) ks end)

-- the planes that memories take, equation by equation, and the words that they take
abbrev pub plane_row : List Holding → List FlatEquation → List ℕ
plane_row kept [] = []
plane_row kept (q ∷ Q) =
    plane_in (kept_at kept q.element).value
    ∷ (kept_at kept q.element).nil.0
    ∷ (kept_at kept q.element).bad.0
    ∷ plane_row kept Q

abbrev pub word_row : List Holding → List FlatEquation → List ℕ
word_row kept [] = []
word_row kept (q ∷ Q) = word_in (kept_at kept q.element).value ∷ word_row kept Q

-- each place of a holding is among the memories, or is 0
pub record IsHomeIn (first_plane planes first_word words : ℕ) (h : Holding) : Type 0 where
  pub plane : IsHomeAt first_plane planes (plane_in h.value)
  pub word : IsHomeAt first_word words (word_in h.value)
  pub nil : IsHomeAt first_plane planes h.nil.0
  pub bad : IsHomeAt first_plane planes h.bad.0

-- ## Memories

abbrev pub is_nil_scalar : Scalar → Bool
is_nil_scalar Nil = true
is_nil_scalar v = false

abbrev pub is_bad_scalar : Scalar → Bool
is_bad_scalar Bad = true
is_bad_scalar v = false

-- a value has a place and is no negation
abbrev pub IsSet : Value → Type 0
IsSet (Truth p) = p.0 ≢ 0
IsSet (Negated p) = ⊥
IsSet (Number w) = w.0 ≢ 0

-- the memory of `->`: a truth value
pub record IsFlagHome (h : Holding) : Type 0 where
  pub kind_is : kind_of h ≡ Bool_kind
  pub is_set : IsSet h.value
  pub nil : h.nil.0 ≡ 0
  pub bad : h.bad.0 ≡ 0

-- the memory of `pre` and of `current`: a value, a plane where it is nil, and a plane where it is a
-- fault, unless faults of the operand are watched
pub record IsCellHome (kind : Kind) (watched : Type 0) (v : Scalar) (h : Holding) : Type 0 where
  pub kind_is : IsOf kind v → kind_of h ≡ kind
  pub is_set : IsSet h.value
  pub nil : h.nil.0 ≢ 0
  pub bad : (h.bad.0 ≢ 0) ⊎ ((h.bad.0 ≡ 0) × watched)

abbrev pub IsMemory : Kind → (ℕ → Type 0) → Operation → Holding → Type 0
IsMemory kind watched (FirstThen started a b) h = IsFlagHome h
IsMemory kind watched (Previous v a) h = IsCellHome kind (watched a) v h
IsMemory kind watched (Latest v a) h = IsCellHome kind (watched a) v h
IsMemory kind watched o h = Unit {0}
