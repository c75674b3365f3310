-- What `get` returns for a slice, against `slice_get`, and for a map that stays as it was.
use Rattle.std.proofs.Common.{◌≡◌, ◌<◌, ◌≤◌, ℕ, List, length, get_or, Bor, Option, Some, None}
use Rattle.std.proofs.Common.{option_map, refl, sym, subst}
use Rattle.std.specs.Prelude.{slice_get, MatchOption}
use Rattle.std.proofs.Common.{String}
use Rattle.std.specs.BTreeMap.{BTreeMap, get_by_text}
use Rattle.std.specs.List.{HoldsAt}
use Rattle.std.proofs.lemmas.Option.{slice_get_read, slice_get_past}

-- an item of the list
pub held : {A : Type 0} (read xs : List A) (i : ℕ) (x : A) → read ≡ xs → i < length read
    → x ≡ get_or read i x → slice_get xs i ≡ Some x
held read xs i x same below is =
    subst (λ l. slice_get l i ≡ Some x) same (slice_get_read read (length read) i x refl below is)

-- a place past the end of the list
pub past : {A : Type 0} (read xs : List A) (i : ℕ) → read ≡ xs → length read ≤ i
    → slice_get xs i ≡ None
past read xs i same above = subst (λ l. slice_get l i ≡ None) same (slice_get_past read i above)

-- an item of the list, or none
pub looked_up : {A : Type 0} (o : Option (Bor A)) (read xs : List A) (i : ℕ) → read ≡ xs
    → MatchOption o (length read ≤ i)
    (λ x. (i < length read) × HoldsAt (λ y. x.now ≡ y) read i)
    → option_map (λ x. x.now) o ≡ slice_get xs i
looked_up None read xs i same above = sym (past read xs i same above)
looked_up (Some x) read xs i same found =
    sym (held read xs i x.now same found.0 (found.1 x.now))

-- a map with the same entries
pub same_entries : {A B : Type 0} (m n : BTreeMap (String A) B) (key : List ℕ)
    → n.entries ≡ m.entries → get_by_text n key ≡ get_by_text m key
same_entries m n key same = rw same refl
