-- What is to be done list by list, n lists: what is left on what is there is the whole on what was there. Assumes nothing.
use mathlib.Core.Path.{◌≡◌, sym, ◌∙◌}
use mathlib.Core.List.{List, [], ◌++◌}
use Prim.Native.Nat.{ℕ, suc, ◌+◌, ◌-◌, ◌≤◌, ◌<◌}
use native.Mathlib.Omega.{arith}
use Rattle.rules.specs.Lists.{each}
use Rattle.rules.proofs.ListLaws.{none_each, each_split}

-- `Can` says that it can be done
pub record Turning {D St : Type 0} (run : List D → St → St) (Can : List D → St → Type 0) (n : ℕ) (p : ℕ → List D) (i : ℕ) (A B : St) : Type 0 where
  pub below : i ≤ n
  pub left : run (each (n - i) i p) B ≡ run (each n 0 p) A
  pub ready : Can (each (n - i) i p) B

pub record Piecewise {D St : Type 0} (run : List D → St → St) (Can : List D → St → Type 0) : Type 0 where
  pub joined : (a b : List D) (s : St) → run (a ++ b) s ≡ run b (run a s)
  pub front : (a b : List D) (s : St) → Can (a ++ b) s → Can a s
  pub rest : (a b : List D) (s : St) → Can (a ++ b) s → Can b (run a s)

module _ {D St : Type 0} {run : List D → St → St} {Can : List D → St → Type 0} {n : ℕ} {p : ℕ → List D} where
  pub start : {A : St} → Can (each n 0 p) A → Turning run Can n p 0 A A
  start r = let e : n - 0 ≡ n = omega arith in record { below = omega arith; left = rw e; ready = rw e r }

  module _ {i : ℕ} {A B : St} (t : Turning run Can n p i A B) where
    next : i < n → each (n - i) i p ≡ p i ++ each (n - (i + 1)) (i + 1) p
    unfolding each
    next h =
        let a : n - i ≡ suc (n - (i + 1)) = omega arith in
        let b : suc i ≡ i + 1 = omega arith in
        rw (a, b)

    pub this : Piecewise run Can → i < n → Can (p i) B
    this w h = w.front (p i) (each (n - (i + 1)) (i + 1) p) B (rw (next h) at t.ready)

    pub turn : Piecewise run Can → i < n → {C : St} → C ≡ run (p i) B → Turning run Can n p (i + 1) A C
    turn w h {C} e =
        let left = each (n - (i + 1)) (i + 1) p in
        record {
          below = omega arith;
          left = rw e (sym (w.joined (p i) left B) ∙ (rw (next h) at t.left));
          ready = rw e (w.rest (p i) left B (rw (next h) at t.ready));
        }

    -- what asks for nothing is passed over
    pub skip : {j : ℕ} → i ≤ j → j ≤ n → ((k : ℕ) → i ≤ k → k < j → p k ≡ []) → Turning run Can n p j A B
    skip {j} a b nothing =
        let s : n - i ≡ (j - i) + (n - j) = omega arith in
        let e : i + (j - i) ≡ j = omega arith in
        let none = none_each (j - i) i p (λ k c d. nothing k c (omega arith)) in
        let same : each (n - i) i p ≡ each (n - j) j p = rw (s, each_split (j - i) (n - j) i p, none, e) in
        record { below = b; left = rw same at t.left; ready = rw same at t.ready }

    pub done : ((s : St) → run [] s ≡ s) → n ≤ i → B ≡ run (each n 0 p) A
    unfolding each
    done idle h =
        let b = t.below in
        let z : n - i ≡ 0 = omega arith in
        sym (idle B) ∙ (rw z at t.left)
