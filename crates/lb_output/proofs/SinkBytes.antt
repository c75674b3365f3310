-- Bytes that a sink took, write after write.
use Rattle.std.proofs.Common.{◌≡◌, ℕ, ◌+◌, ◌-◌, ◌<◌, ◌≤◌, List, [], ◌++◌, Option, None, Some}
use Rattle.std.proofs.Common.{length, take, drop, refl, sym, ap, subst, ◌∙◌, append_assoc}
use Rattle.std.proofs.Common.{append-nil, arith, length-append, length-drop}
use Rattle.std.proofs.Math.Seq.{take-add}
use Rattle.std.proofs.lemmas.List.{take_rest}
use Rattle.std.specs.Io.KnownBytes.{Appends, Keeps}
use Rattle.lb_feed.specs.Counts.{count_more}
use Rattle.lb_output.specs.Taken.{Taken, Takes, TakesNothing}
use Rattle.lb_feed.proofs.Counts.{count_more-none, count_more-twice}

-- ## Bytes

Appends-more : (before between after : Option (List ℕ)) (first second whole : List ℕ)
    → Appends before between first → Appends between after second → whole ≡ first ++ second
    → Appends before after whole
Appends-more None between after first second whole p q joined = tt
Appends-more (Some xs) None after first second whole p q joined = absurd p
Appends-more (Some xs) (Some ys) None first second whole p q joined = absurd q
Appends-more (Some xs) (Some ys) (Some zs) first second whole p q joined =
    q
    ∙ ap (λ front. front ++ second) p
    ∙ append_assoc xs first second
    ∙ ap (λ more. xs ++ more) (sym joined)

appends_nothing : (a : Option (List ℕ)) → Appends a a []
appends_nothing None = tt
appends_nothing (Some s) = sym (append-nil s)

keeps_all : (a : Option (List ℕ)) → Keeps a a
keeps_all None = tt
keeps_all (Some s) = refl

appends_and_keeps : (a b c : Option (List ℕ)) (x : List ℕ) → Appends a b x → Keeps b c
    → Appends a c x
appends_and_keeps None b c x p q = tt
appends_and_keeps (Some s) None c x p q = absurd p
appends_and_keeps (Some s) (Some t) None x p q = absurd q
appends_and_keeps (Some s) (Some t) (Some u) x p q = q ∙ p

kept_by_nothing : (a b : Option (List ℕ)) → Appends a b [] → Keeps a b
kept_by_nothing None b took = tt
kept_by_nothing (Some s) None took = absurd took
kept_by_nothing (Some s) (Some t) took = took ∙ append-nil s

-- ## What is taken

-- `Takes` of two writes, one after the other
pub takes_more : (before between after : Taken) (first second whole : List ℕ)
    → Takes before between first → Takes between after second → whole ≡ first ++ second
    → Takes before after whole
takes_more before between after first second whole p q joined = record {
  bytes =
      Appends-more before.bytes between.bytes after.bytes first second whole p.bytes q.bytes
      joined;
  count =
      count_more-twice before.count between.count after.count (length first) (length second)
      p.count q.count
      ∙ ap (count_more before.count) (sym (ap length joined ∙ length-append first second));
  same = q.same ∙ p.same;
}

-- `Takes` where nothing is written
pub takes_no_byte : (a : Taken) → Takes a a []
takes_no_byte a = record {
  bytes = appends_nothing a.bytes;
  count = sym (count_more-none a.count);
  same = refl;
}

pub takes_nothing : (a : Taken) → TakesNothing a a
takes_nothing a = record { bytes = keeps_all a.bytes; count = refl; same = refl }

-- `Takes` stays where the sink then takes nothing
pub taken_and_kept : (a b c : Taken) (text : List ℕ) → Takes a b text → TakesNothing b c
    → Takes a c text
taken_and_kept a b c text took kept = record {
  bytes = appends_and_keeps a.bytes b.bytes c.bytes text took.bytes kept.bytes;
  count = kept.count ∙ took.count;
  same = kept.same ∙ took.same;
}

-- `Takes` of an empty text is `TakesNothing`
pub nothing_by_none : (a b : Taken) → Takes a b [] → TakesNothing a b
nothing_by_none a b took = record {
  bytes = kept_by_nothing a.bytes b.bytes took.bytes;
  count = took.count ∙ count_more-none a.count;
  same = took.same;
}

-- the front of `bytes` that went out grows by what went out of the rest, `bytes[count..]`
pub takes_further : (before between after : Taken) (bytes : List ℕ) (count more : ℕ)
    → Takes before between (take count bytes)
    → Takes between after (take more (take (length bytes - count) (drop count bytes)))
    → Takes before after (take (count + more) bytes)
takes_further before between after bytes count more gone wrote =
    let next : Takes between after (take more (drop count bytes)) =
    subst (λ rest. Takes between after (take more rest)) (take_rest bytes count) wrote in
    takes_more before between after (take count bytes) (take more (drop count bytes))
    (take (count + more) bytes) gone next (take-add count more bytes)

-- the bytes that were written of the rest lie within the list
pub further : (bytes : List ℕ) (count more : ℕ)
    → more ≤ length (take (length bytes - count) (drop count bytes)) → count < length bytes
    → count + more ≤ length bytes
further bytes count more within lt =
    let rest : length (take (length bytes - count) (drop count bytes)) ≡ length bytes - count =
    ap length (take_rest bytes count) ∙ length-drop count bytes in
    omega (arith, within, lt, rest)
