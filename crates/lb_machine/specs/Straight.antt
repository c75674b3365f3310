-- Straight code: each instruction reads planes and words that were there before it, and writes the
-- next plane or the next word, or one of each.
-- Source: this project's rule.
use Rattle.std.specs.Prelude.{◌≡◌, ◌≢◌, ℕ, suc, ◌<◌, List, [], ◌∷◌}
use Rattle.std.specs.Coded.{×_prop}
use Rattle.std.proofs.Props.{props}
use Rattle.lb_machine.specs.declared.instruction.Instruction.{Instruction}
use Rattle.lb_machine.specs.declared.instruction.Instruction.TheVariants.{Select, Compare}
use Rattle.lb_machine.specs.declared.instruction.Instruction.TheVariants.{Operate, Blend, Choose}

-- an instruction reads some of `p` planes and `w` words, and writes the next ones
abbrev pub IsNext : ℕ → ℕ → Instruction → Type 0
IsNext p w (Select m a b out) = (m.0 < p) × (a.0 < p) × (b.0 < p) × (out.0 ≡ p)
IsNext p w (Compare c a b out) = (a.0 < w) × (b.0 < w) × (out.0 ≡ p)
IsNext p w (Operate op a b idle left right out faults) =
    (a.0 < w) × (b.0 < w) × (idle.0 < p) × (left.0 < p) × (right.0 < p) × (out.0 ≡ w)
    × (faults.0 ≡ p)
IsNext p w (Blend m a b out) = (m.0 < p) × (a.0 < w) × (b.0 < w) × (out.0 ≡ w)
IsNext p w (Choose c x y a b passed out) =
    (x.0 < w) × (y.0 < w) × (a.0 < w) × (b.0 < w) × (passed.0 ≡ p) × (out.0 ≡ w)

-- the number of planes, and the number of words, after an instruction
abbrev pub planes_after : ℕ → Instruction → ℕ
planes_after p (Blend m a b out) = p
planes_after p i = suc p

abbrev pub words_after : ℕ → Instruction → ℕ
words_after w (Operate op a b idle left right out faults) = suc w
words_after w (Blend m a b out) = suc w
words_after w (Choose c x y a b passed out) = suc w
words_after w i = w

-- code leads from `p` planes and `w` words to `P` planes and `W` words
abbrev pub IsStraight : ℕ → ℕ → List Instruction → ℕ → ℕ → Type 0
IsStraight p w [] P W = (p ≡ P) × (w ≡ W)
IsStraight p w (i ∷ is) P W =
    IsNext p w i × IsStraight (planes_after p i) (words_after w i) is P W

-- ## There is at most one proof that code is straight

same_prop : (i j : ℕ) → IsProp (i ≡ j)
same_prop i j = Prim.hlevel props

next_prop : (p w : ℕ) (i : Instruction) → IsProp (IsNext p w i)
next_prop p w (Select m a b out) = Prim.hlevel props
next_prop p w (Compare c a b out) = Prim.hlevel props
next_prop p w (Operate op a b idle left right out faults) = Prim.hlevel props
next_prop p w (Blend m a b out) = Prim.hlevel props
next_prop p w (Choose c x y a b passed out) = Prim.hlevel props

pub straight_prop :
    (p w : ℕ) (is : List Instruction) (P W : ℕ) → IsProp (IsStraight p w is P W)
straight_prop p w [] P W = ×_prop (same_prop p P) (same_prop w W)
straight_prop p w (i ∷ is) P W =
    ×_prop (next_prop p w i) (straight_prop (planes_after p i) (words_after w i) is P W)

-- ## Room

-- an instruction fits `P` planes and `W` words, and reads no place that it writes
abbrev pub IsFit : ℕ → ℕ → Instruction → Type 0
IsFit P W (Select m a b out) = (m.0 < out.0) × (a.0 < out.0) × (b.0 < out.0) × (out.0 < P)
IsFit P W (Compare c a b out) = (a.0 < W) × (b.0 < W) × (out.0 < P)
IsFit P W (Operate op a b idle left right out faults) =
    (a.0 < out.0) × (b.0 < out.0) × (idle.0 < faults.0) × (left.0 < faults.0)
    × (right.0 < faults.0) × (out.0 < W) × (faults.0 < P)
IsFit P W (Blend m a b out) = (m.0 < P) × (a.0 < out.0) × (b.0 < out.0) × (out.0 < W)
IsFit P W (Choose c x y a b passed out) =
    (x.0 < out.0) × (y.0 < out.0) × (a.0 < out.0) × (b.0 < out.0) × (passed.0 < P) × (out.0 < W)

-- an instruction leaves plane `k`, or word `k`, as it was
abbrev pub KeepsPlane : Instruction → ℕ → Type 0
KeepsPlane (Select m a b out) k = k ≢ out.0
KeepsPlane (Compare c a b out) k = k ≢ out.0
KeepsPlane (Operate op a b idle left right out faults) k = k ≢ faults.0
KeepsPlane (Blend m a b out) k = Unit {0}
KeepsPlane (Choose c x y a b passed out) k = k ≢ passed.0

abbrev pub KeepsWord : Instruction → ℕ → Type 0
KeepsWord (Operate op a b idle left right out faults) k = k ≢ out.0
KeepsWord (Blend m a b out) k = k ≢ out.0
KeepsWord (Choose c x y a b passed out) k = k ≢ out.0
KeepsWord i k = Unit {0}
