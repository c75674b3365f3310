-- The records of comma-separated values that are left, one by one.
use Rattle.std.proofs.Common.{◌≡◌, ◌<◌, ◌≤◌, ℕ, suc, ◌+◌, ◌-◌, Bool, true, false, List, [], ◌++◌}
use Rattle.std.proofs.Common.{map, refl, sym, ap, ◌∙◌, append_assoc, arith, add-one, subst}
use Rattle.lb_check.specs.Scalars.{Cell}
use Rattle.lb_check.specs.Solutions.{Inputs}
use Rattle.lb_flat.specs.Judging.{FlatProgram}
use Rattle.lb_history.specs.Replaying.{row_at}
use Rattle.lb_csv.specs.Csv.{header_left, headers_left}
use Rattle.lb_csv.specs.CsvTexts.{header, record_text, cells_in, records}

module _ (f : FlatProgram) (X : Inputs) (is : List ℕ) where
  -- adding the record of instant t to the text leaves the records from t + 1 on
  record_written :
      (t end : ℕ) → t < end → (text after : List ℕ) (cells : List Cell) →
      after ≡ text ++ record_text t cells → cells ≡ cells_in (row_at f X t) is →
      text ++ records f X is t (end - t) ≡ after ++ records f X is (t + 1) (end - (t + 1))
  record_written t end lt text after cells e c =
      let n = end - (t + 1) in
      let count : end - t ≡ suc n = omega arith in
      ap (λ m. text ++ records f X is t m) count
      ∙ sym (append_assoc text (record_text t (cells_in (row_at f X t) is))
      (records f X is (suc t) n))
      ∙ ap (λ s. s ++ records f X is (suc t) n)
      (ap (λ z. text ++ record_text t z) (sym c) ∙ sym e)
      ∙ ap (λ u. after ++ records f X is u n) (sym (add-one t))

  -- no record is left from the end on
  pub none_left : (t end : ℕ) → end ≤ t → records f X is t (end - t) ≡ []
  none_left t end le =
      let none : end - t ≡ 0 = omega arith in ap (records f X is t) none

module _ (names : List (List ℕ)) (is : List ℕ) (begun begun' : Bool) (f f' : FlatProgram)
    (X X' : Inputs) (t t' end end' : ℕ) where
  -- the text and what is left make the same whole before and after a record
  pub rest_written :
      begun ≡ true → begun' ≡ true → f' ≡ f → X' ≡ X → t' ≡ t + 1 → end' ≡ end → t < end →
      (text after : List ℕ) (cells : List Cell) → after ≡ text ++ record_text t cells →
      cells ≡ cells_in (row_at f' X' t) is →
      text ++ (header_left begun names ++ records f X is t (end - t))
      ≡ after ++ (header_left begun' names ++ records f' X' is t' (end' - t'))
  rest_written b b' p q r s lt text after cells e c =
      ap (λ z. text ++ (header_left z names ++ records f X is t (end - t))) b
      ∙ record_written f X is t end lt text after cells e
      (c ∙ ap (λ g. cells_in (row_at g X' t) is) p ∙ ap (λ Y. cells_in (row_at f Y t) is) q)
      ∙ ap (λ u. after ++ records f X is u (end - u)) (sym r)
      ∙ ap (λ u. after ++ records f X is t' (u - t')) (sym s)
      ∙ ap (λ g. after ++ records g X is t' (end' - t')) (sym p)
      ∙ ap (λ Y. after ++ records f' Y is t' (end' - t')) (sym q)
      ∙ ap (λ z. after ++ (header_left z names ++ records f' X' is t' (end' - t'))) (sym b')

  -- the text and what is left make the same whole before and after the header
  pub header_written :
      begun ≡ false → begun' ≡ true → (text after : List ℕ) → after ≡ text ++ header names →
      text ++ (header_left begun names ++ records f X is t (end - t))
      ≡ after ++ (header_left begun' names ++ records f X is t (end - t))
  header_written b b' text after e =
      ap (λ z. text ++ (header_left z names ++ records f X is t (end - t))) b
      ∙ sym (append_assoc text (header names) (records f X is t (end - t)))
      ∙ ap (λ s. s ++ records f X is t (end - t)) (sym e)
      ∙ ap (λ z. after ++ (header_left z names ++ records f X is t (end - t))) (sym b')

-- fewer parts are left after a record
pub parts_fewer :
    (begun begun' : Bool) (t t' end end' : ℕ) → begun ≡ true → begun' ≡ true → t' ≡ t + 1 →
    end' ≡ end → t < end → headers_left begun' + (end' - t') < headers_left begun + (end - t)
parts_fewer begun begun' t t' end end' b b' s r lt =
    let none : headers_left begun ≡ 0 = ap headers_left b in
    let none' : headers_left begun' ≡ 0 = ap headers_left b' in
    omega (arith, none, none', s, r, lt)

-- a whole text, with an equal program, inputs and instants
pub spelled_by :
    (names : List (List ℕ)) (is : List ℕ) (f f' : FlatProgram) (X X' : Inputs) (t t' end end' : ℕ)
    (text : List ℕ) → f' ≡ f → X' ≡ X → t' ≡ t → end' ≡ end →
    text ≡ header names ++ records f' X' is t' (end' - t') →
    text ≡ header names ++ records f X is t (end - t)
spelled_by names is f f' X X' t t' end end' text p q r s spelled =
    spelled
    ∙ ap (λ g. header names ++ records g X' is t' (end' - t')) p
    ∙ ap (λ Y. header names ++ records f Y is t' (end' - t')) q
    ∙ ap (λ u. header names ++ records f X is u (end' - u)) r
    ∙ ap (λ u. header names ++ records f X is t (u - t)) s
