-- The records that a reader has reached are the first records of its text.
use Rattle.std.proofs.Common.{ℕ, zero, suc, ◌≡◌, ◌+◌, ◌-◌, ◌<◌, ◌≤◌, Bool, true, false}
use Rattle.std.proofs.Common.{if◌then◌else◌, List, [], ◌∷◌, ◌++◌, length, Option, Some, None, refl}
use Rattle.std.proofs.Common.{sym, ap, ◌∙◌, arith, ◌⊎◌, inl, inr, ⊎_elim}
use Rattle.std.proofs.lemmas.List.{append-nil}
use Rattle.csv.specs.declared.parser.Action.{Action}
use Rattle.csv.specs.declared.parser.Config.{Config}
use Rattle.csv.specs.declared.parser.State.{State}
use Rattle.csv.specs.declared.parser.State.TheVariants as st
use Rattle.csv.specs.Machine.{Read, ends_at_end, field_after, fields_after, is_end, next_record}
use Rattle.csv.specs.Machine.{step}
use Rattle.csv.specs.Reading.{Reached, default_config, records_from, records_next, strip_bom}
use Rattle.lb_trace.specs.Spelling.{Record, records_of}

-- a read takes at least one byte, or it ends the text
abbrev pub TakesOne : List ℕ → Read → Type 0
TakesOne xs p = (length p.2 < length xs) ⊎ ((p.1 ≡ st.StartRecord) × (p.2 ≡ []))

at_end : (b : Bool) (fields : List (List ℕ)) (p : Read)
    → (if b then Some (fields, st.StartRecord, []) else None) ≡ Some p → TakesOne [] p
at_end true fields p is =
    let last : Read = (fields, st.StartRecord, []) in
    let same : p ≡ last = cc is in
    inr (ap (λ (q : Read). q.1) same, ap (λ (q : Read). q.2) same)
at_end false fields p is = cc is

one_byte : (b : Bool) (found : Read) (more : Option Read) (c : ℕ) (rest : List ℕ) (p : Read)
    → found.2 ≡ rest
    → (more ≡ Some p → TakesOne rest p) → (if b then Some found else more) ≡ Some p
    → TakesOne (c ∷ rest) p
one_byte true found more c rest p left go is =
    let same : p ≡ found = cc is in
    let size : length p.2 ≡ length rest = ap (λ (q : Read). length q.2) same ∙ ap length left in
    inl (omega arith)
one_byte false found more c rest p left go is =
    ⊎_elim (λ (h : length p.2 < length rest). inl (omega arith))
    (λ (h : (p.1 ≡ st.StartRecord) × (p.2 ≡ [])). inr h) (go is)

pub takes_one : (cfg : Config) (s : State) (fields : List (List ℕ)) (field xs : List ℕ) (p : Read)
    → next_record cfg s fields field xs ≡ Some p → TakesOne xs p
unfolding next_record
takes_one cfg s fields field [] p is = at_end (ends_at_end s) (fields ++ (field ∷ [])) p is
takes_one cfg s fields field (c ∷ rest) p is =
    let act : Action = (step cfg s c).1 in
    one_byte (is_end act) (fields_after act fields field, (step cfg s c).0, rest)
    (next_record cfg (step cfg s c).0 (fields_after act fields field) (field_after act c field)
    rest) c rest p refl
    (λ more. takes_one cfg (step cfg s c).0 (fields_after act fields field)
    (field_after act c field) rest p more) is

-- after the end of a text there is no record
after_end : (cfg : Config) (s s2 : State) (xs ys : List ℕ) (rows : List Record) → s ≡ st.StartRecord
    → xs ≡ [] → Reached cfg s xs rows s2 ys → length rows ≡ 0
unfolding Reached next_record
after_end cfg s s2 xs ys [] start empty reached = refl
after_end cfg s s2 xs ys (r ∷ rows) start empty reached =
    let none : next_record cfg s [] [] xs ≡ None =
    ap (λ t. next_record cfg t [] [] xs) start
    ∙ ap (next_record cfg st.StartRecord [] []) empty in
    cc (none, reached.1)

-- at most one record more than bytes is reached
few : (cfg : Config) (s s2 : State) (xs ys : List ℕ) (rows : List Record)
    → Reached cfg s xs rows s2 ys → length rows ≤ length xs + 1
unfolding Reached
few cfg s s2 xs ys [] reached = omega arith
few cfg s s2 xs ys (r ∷ rows) reached =
    let rest : length rows ≤ length reached.0.2 + 1 =
    few cfg reached.0.1 s2 reached.0.2 ys rows reached.3 in
    ⊎_elim (λ (h : length reached.0.2 < length xs). omega arith)
    (λ (h : (reached.0.1 ≡ st.StartRecord) × (reached.0.2 ≡ [])).
    let none : length rows ≡ 0 =
    after_end cfg reached.0.1 s2 reached.0.2 ys rows h.0 h.1 reached.3 in omega arith)
    (takes_one cfg s [] [] xs reached.0 reached.1)

-- the records from a state are those that were reached, and those after them
split : (cfg : Config) (n : ℕ) (s s2 : State) (xs ys : List ℕ) (rows : List Record)
    → Reached cfg s xs rows s2 ys → length rows ≤ n
    → records_from cfg n s xs ≡ rows ++ records_from cfg (n - length rows) s2 ys
unfolding Reached records_from
split cfg n s s2 xs ys [] reached enough =
    let all : n ≡ n - 0 = omega arith in
    ap (λ t. records_from cfg n t xs) reached.0 ∙ ap (records_from cfg n s2) reached.1
    ∙ ap (λ m. records_from cfg m s2 ys) all
split cfg zero s s2 xs ys (r ∷ rows) reached enough = absurd (omega arith)
split cfg (suc n) s s2 xs ys (r ∷ rows) reached enough =
    let left : n - length rows ≡ suc n - suc (length rows) = omega arith in
    ap (records_next (records_from cfg n)) reached.1
    ∙ ap (λ f. f ∷ records_from cfg n reached.0.1 reached.0.2) (sym reached.2)
    ∙ ap (λ more. r ∷ more) (split cfg n reached.0.1 s2 reached.0.2 ys rows reached.3 (omega arith))
    ∙ ap (λ m. r ∷ (rows ++ records_from cfg m s2 ys)) left

-- no records are left where there is no next record
pub none_left : (cfg : Config) (n : ℕ) (s : State) (xs : List ℕ) → next_record cfg s [] [] xs ≡ None
    → records_from cfg n s xs ≡ []
unfolding records_from
none_left cfg zero s xs none = refl
none_left cfg (suc n) s xs none = rw none refl

-- the records that were reached are the first ones of the text
pub reached_first : (text ys : List ℕ) (s : State) (rows : List Record)
    → Reached default_config st.StartRecord (strip_bom text) rows s ys
    → (more : List Record) × (records_of text ≡ rows ++ more)
unfolding records_of
reached_first text ys s rows reached = (
  records_from default_config (length (strip_bom text) + 1 - length rows) s ys,
  split default_config (length (strip_bom text) + 1) st.StartRecord s (strip_bom text) ys rows
      reached
      (few default_config st.StartRecord s (strip_bom text) ys rows reached),
)

-- the records that were reached are all of the text where there is no next record
pub reached_all : (text ys : List ℕ) (s : State) (rows : List Record)
    → Reached default_config st.StartRecord (strip_bom text) rows s ys
    → next_record default_config s [] [] ys ≡ None → records_of text ≡ rows
unfolding records_of
reached_all text ys s rows reached none =
    split _ _ _ _ _ _ _ reached (few _ _ _ _ _ _ reached) ∙ ap (λ more. rows ++ more)
    (none_left _ _ _ _ none) ∙ append-nil rows
