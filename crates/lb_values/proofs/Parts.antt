-- A text that goes to a sink part by part.
use Rattle.std.proofs.Common.{◌≡◌, ◌∙◌, ℕ, List, [], ◌++◌, Bool, true, Result}
use Rattle.std.proofs.Common.{IfErr, OnOk, Ok, Err}
use Rattle.std.proofs.Common.{ap, append_assoc, append-nil, arith, length, length-append, refl, sym}
use Rattle.std.proofs.Common.{drop, subst, take}
use Rattle.std.proofs.lemmas.List.{take-append-drop, take_at}
use Rattle.lb_output.specs.Follows.{HasBegun, HasCause}
use Rattle.lb_output.specs.Taken.{Taken, Takes, TakesNothing}
use Rattle.lb_output.specs.declared.follow_error.FollowError.{FollowError}
use Rattle.lb_output.proofs.SinkBytes.{taken_and_kept, takes_more, takes_no_byte, takes_nothing}
use Rattle.lb_values.specs.Sending.{HasSent, IsText}

-- before the first part nothing has been sent
pub none_sent : (told : Bool) (a : Taken) (first : List ℕ) → HasSent told a a first first
none_sent told a first = record { gone = []; took = takes_no_byte a; parts = λ is. refl }

-- a part that went out behind those before has been sent
pub part_sent :
    (told : Bool) (a b c : Taken) (first rest last before part : List ℕ) →
    HasSent told a b first rest → before ≡ [] →
    (told ≡ true → before ++ rest ≡ part ++ last) → Takes b c part →
    HasSent told a c first last
part_sent told a b c first rest last before part sent none next took = record {
  gone = sent.gone ++ part;
  took = takes_more a b c sent.gone part _ sent.took took refl;
  parts = λ is.
      sent.parts is
      ∙ ap (λ xs. sent.gone ++ xs) (ap (λ xs. xs ++ rest) (sym none) ∙ next is)
      ∙ sym (append_assoc sent.gone part last);
}

-- where all parts went out, the text is sent
pub all_sent :
    (told : Bool) (a b c : Taken) (first rest : List ℕ) (m n : ℕ) →
    HasSent told a b first rest → (told ≡ true → rest ≡ []) → TakesNothing b c → n ≡ m →
    IsText told first a c m n (Ok tt)
all_sent told a b c first rest m n sent none kept same = (
  sent.gone,
  λ is.
      sym (append-nil sent.gone)
      ∙ ap (λ xs. sent.gone ++ xs) (sym (none is))
      ∙ sym (sent.parts is),
  (taken_and_kept a b c sent.gone sent.took kept, same),
)

begun :
    (a b c : Taken) (gone rest : List ℕ) → Takes a b gone → TakesNothing b c →
    HasBegun (gone ++ rest) (length gone) a c
begun a b c gone rest took kept =
    let front : take (length gone) (gone ++ rest) ≡ gone =
    take_at gone rest (length gone) refl in
    record {
      within = let l = length-append gone rest in omega (arith, l);
      gone =
          subst (λ xs. Takes a c xs) (sym front) (taken_and_kept a b c gone took kept);
    }

-- where only the first parts went out, for a cause, the first bytes of the text are sent
pub some_sent :
    (told : Bool) (a b c : Taken) (first rest : List ℕ) (m n : ℕ) (e : FollowError) →
    HasSent told a b first rest → TakesNothing b c → HasCause e m n →
    IsText told first a c m n (Err e)
some_sent told a b c first rest m n e sent kept cause = (
  sent.gone ++ rest,
  λ is. sym (sent.parts is),
  record {
    count = length sent.gone;
    begun = begun a b c sent.gone rest sent.took kept;
    cause = cause;
  },
)

-- where nothing of the next part went out, the first bytes of the text are sent
pub parts_sent :
    (told : Bool) (a b : Taken) (first rest : List ℕ) (m n : ℕ) (e : FollowError) →
    HasSent told a b first rest → HasCause e m n → IsText told first a b m n (Err e)
parts_sent told a b first rest m n e sent cause =
    some_sent told a b b first rest m n e sent (takes_nothing b) cause

-- a part whose first bytes went out has been sent up to some rest
pub front_part :
    (told : Bool) (a c : Taken) (old last cleared part sent : List ℕ) (n : ℕ) →
    cleared ≡ [] → (told ≡ true → cleared ++ old ≡ part ++ last) → sent ≡ part →
    Takes a c (take n sent) → (rest : List ℕ) × HasSent told a c old rest
front_part told a c old last cleared part sent n none next same took =
    let parts : part ≡ take n part ++ drop n part = sym (take-append-drop n part) in
    let further : told ≡ true → cleared ++ old ≡ take n part ++ (drop n part ++ last) = λ is.
    next is
    ∙ ap (λ xs. xs ++ last) parts
    ∙ append_assoc (take n part) (drop n part) last in (
      drop n part ++ last,
      part_sent told a a c old old (drop n part ++ last) cleared (take n part)
          (none_sent told a old) none further
          (subst (λ (xs : List ℕ). Takes a c (take n xs)) same took),
    )

-- parts that were sent, and then further parts, have all been sent
pub sent_on :
    (told told' : Bool) (a b c : Taken) (first rest last : List ℕ) → told' ≡ told →
    HasSent told a b first rest → HasSent told' b c rest last → HasSent told a c first last
sent_on told told' a b c first rest last same sent further = record {
  gone = sent.gone ++ further.gone;
  took = takes_more a b c sent.gone further.gone _ sent.took further.took refl;
  parts = λ is.
      sent.parts is
      ∙ ap (λ xs. sent.gone ++ xs) (further.parts (same ∙ is))
      ∙ sym (append_assoc sent.gone further.gone last);
}

-- where all parts went out and the sink flushes or fails, the text is sent, or its first bytes
pub finished :
    (told : Bool) (a b c : Taken) (first rest : List ℕ) (m m' n : ℕ)
    (r : Result (Unit {0}) FollowError) → HasSent told a b first rest →
    (told ≡ true → rest ≡ []) → TakesNothing b c → m' ≡ m → OnOk r (n ≡ m') →
    IfErr r (λ e. HasCause e m' n) → IsText told first a c m n r
finished told a b c first rest m m' n (Ok x) sent none kept same ok cause =
    all_sent told a b c first rest m n sent none kept (ok ∙ same)
finished told a b c first rest m m' n (Err e) sent none kept same ok cause =
    some_sent told a b c first rest m n e sent kept
    (subst (λ (k : ℕ). HasCause e k n) same cause)

-- where a later part stopped, the first bytes of the text are sent
pub stopped :
    (told : Bool) (a b : Taken) (first rest : List ℕ) (m m' n : ℕ) (e : FollowError) →
    HasSent told a b first rest → m' ≡ m → HasCause e m' n → IsText told first a b m n (Err e)
stopped told a b first rest m m' n e sent same cause =
    parts_sent told a b first rest m n e sent
    (subst (λ (k : ℕ). HasCause e k n) same cause)
