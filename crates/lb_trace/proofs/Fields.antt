-- The cells of a record after its first one, as they are read.
use Rattle.std.proofs.Common.{ℕ, suc, ◌≡◌, ◌+◌, ◌-◌, ◌<◌, ◌≤◌, List, [], ◌∷◌, length, get_or, Some}
use Rattle.std.proofs.Common.{None, refl, sym, ap, ◌∙◌, arith, ⊎_elim}
use Rattle.std.proofs.lemmas.Bool.{cases_lt}
use Rattle.std.proofs.lemmas.List.{get_or_past}
use Rattle.csv.proofs.RecordFacts.{field-get, field-there}
use Rattle.csv.specs.Records.{field_at}
use Rattle.lb_trace.specs.Spelling.{Record, after_first}

pub get_or-after_first : (fields : Record) (i : ℕ)
    → get_or fields (i + 1) [] ≡ get_or (after_first fields) i []
get_or-after_first [] i = refl
get_or-after_first (first ∷ rest) i =
    let next : i + 1 ≡ suc i = omega arith in ap (λ n. get_or (first ∷ rest) n []) next

pub length-after_first : (fields : Record) → length (after_first fields) ≡ length fields - 1
length-after_first [] = refl
length-after_first (first ∷ rest) = omega arith

pub cell-some : (fields : Record) (i n : ℕ) (x : List ℕ) → n ≡ i + 1 → field_at fields n ≡ Some x
    → x ≡ get_or (after_first fields) i []
cell-some fields i n x next found =
    sym (field-get fields n x found) ∙ ap (λ m. get_or fields m []) next
    ∙ get_or-after_first fields i

pub cell-none : (fields : Record) (i n : ℕ) → n ≤ i + 1 → field_at fields n ≡ None
    → [] ≡ get_or (after_first fields) i []
cell-none fields i n next missing =
    ⊎_elim (λ (h : n < length fields). absurd (field-there fields n h missing))
    (λ (h : length fields ≤ n). sym
    (get_or_past (after_first fields) i [] (omega (arith, length-after_first fields))))
    (cases_lt n (length fields))
