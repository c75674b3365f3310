-- Lists that are read behind items that were read before.
use Rattle.std.proofs.Common.{◌≡◌, ℕ, suc, List, [], ◌∷◌, ◌++◌, length, Option, Some, None, refl}
use Rattle.std.proofs.Common.{ap, ◌∙◌}
use Rattle.std.proofs.lemmas.List.{append-nil}
use Rattle.lb_syntax.specs.declared.token.Token.{Token}
use Rattle.lb_syntax.specs.Readers.{◌>>=◌, Reader}
use Rattle.lb_syntax.specs.ListReading.{pushed}
use Rattle.lb_syntax.specs.Reading.{list_at, with_front, tail_at}
use Rattle.lb_syntax.proofs.Readers.{some_is}

-- no items behind `front`: the list is `front`
pub front_end : {A : Type 0} (front : List A) (rest : List Token) →
    with_front front (Some ([], rest)) ≡ Some (front, rest)
front_end front rest = ap (λ z. Some (z, rest)) (append-nil front)

front-push : {A : Type 0} (front : List A) (x : A) (xs : List A) →
    front ++ (x ∷ xs) ≡ (front ++ x ∷ []) ++ xs
front-push [] x xs = refl
front-push (y ∷ front) x xs = ap (λ z. y ∷ z) (front-push front x xs)

-- the first item behind `front` may as well be the last item of `front`
front_more : {A : Type 0} (front : List A) (x : A) (o : Option (List A × List Token)) →
    with_front front (o >>= λ xs. Some (x ∷ xs.0, xs.1)) ≡ with_front (front ++ x ∷ []) o
front_more front x (Some r) = ap (λ z. Some (z, r.1)) (front-push front x r.0)
front_more front x None = refl

-- an item that is read is put behind `front`, and the items that `next` reads behind that
pub front_pushed : {A : Type 0} (front longer : List A) (after : List Token)
    (o : Option (A × List Token)) (next : List Token → Option (List A × List Token)) →
    pushed front o ≡ Some (longer, after) →
    with_front front (o >>= λ x. next x.1 >>= λ xs. Some (x.0 ∷ xs.0, xs.1))
    ≡ with_front longer (next after)
front_pushed front longer after None next h = absurd cc
front_pushed front longer after (Some r) next h =
    let same = some_is h in
    front_more front r.0 (next r.1)
    ∙ ap (λ z. with_front z.0 (next z.1)) same

-- where the next item is not read, no list is read
pub front_fails : {A : Type 0} (front : List A) (o : Option (A × List Token))
    (next : List Token → Option (List A × List Token)) → pushed front o ≡ None →
    with_front front (o >>= λ x. next x.1 >>= λ xs. Some (x.0 ∷ xs.0, xs.1)) ≡ None
front_fails front None next h = refl
front_fails front (Some r) next h = absurd cc

-- one turn of `tail_at`: after a separator, an item is put behind `front`
pub tail_turn : {A : Type 0} (separates : List Token → Option (List Token))
    (item : Reader A) (n : ℕ) (front longer : List A) (rest next after : List Token) →
    separates rest ≡ Some next → pushed front (item next) ≡ Some (longer, after) →
    with_front front (tail_at separates item (suc n) rest)
    ≡ with_front longer (tail_at separates item n after)
unfolding tail_at
tail_turn separates item n front longer rest next after p q =
    rw p (front_pushed front longer after (item next) (tail_at separates item n) q)

pub tail_fails : {A : Type 0} (separates : List Token → Option (List Token))
    (item : Reader A) (n : ℕ) (front : List A) (rest next : List Token) →
    separates rest ≡ Some next → pushed front (item next) ≡ None →
    with_front front (tail_at separates item (suc n) rest) ≡ None
unfolding tail_at
tail_fails separates item n front rest next p q =
    rw p (front_fails front (item next) (tail_at separates item n) q)

-- `list_at` puts the first item behind `front`, and goes on as `tail_at`
pub list_turn : {A : Type 0} (separates : List Token → Option (List Token))
    (item : Reader A) (front longer : List A) (ts after : List Token) →
    pushed front (item ts) ≡ Some (longer, after) →
    with_front front (list_at separates item ts)
    ≡ with_front longer (tail_at separates item (length after) after)
unfolding list_at
list_turn separates item front longer ts after q =
    front_pushed front longer after (item ts) (λ r. tail_at separates item (length r) r) q

pub list_fails : {A : Type 0} (separates : List Token → Option (List Token))
    (item : Reader A) (front : List A) (ts : List Token) → pushed front (item ts) ≡ None →
    with_front front (list_at separates item ts) ≡ None
unfolding list_at
list_fails separates item front ts q =
    front_fails front (item ts) (λ r. tail_at separates item (length r) r) q

-- a list behind no items is the list itself
pub id : {A : Type 0} (o : Option (List A × List Token)) → with_front [] o ≡ o
id (Some r) = refl
id None = refl
