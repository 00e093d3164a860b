-- Two crews' entries, merged (02, Q-14): honest on the ground that both crews saw, they stay honest in any order, and leave one ground. Assumes nothing.
use Prim.Native.Nat.{ℕ, ◌<◌}
use mathlib.Core.Path.{◌≡◌, refl, sym, ap, ◌∙◌, subst}
use mathlib.Core.Logic.{◌≢◌, ◌↔◌}
use mathlib.Core.Bool.{true}
use mathlib.Core.List.{List, [], ◌∷◌, ◌++◌}
use mathlib.Core.Option.{Option, none, some}
use lib.ListN.{set}
use lib.Seq.{get_or-set_other, set_comm}
use Rattle.rules.specs.Cells.{Size, cells, opposite, neighbour}
use Rattle.rules.specs.Mesh.{World, type_at}
use Rattle.rules.specs.Update.{Change, Broken, Added, Sides, Replaced, Entry, is_empty, empty_type, grid_by, grid_after, grid_log, standing, Told, TrueBy, Honest, MendsBy, Mends}
use Rattle.rules.specs.Crews.{Clear, Merged, none_left, of_one, of_other}
use Rattle.rules.proofs.ListLaws.{All, all_kept}
use Rattle.rules.proofs.Neighbours.{beside}
use Rattle.rules.proofs.Views.{Sound}

-- ---- what an entry leaves of the grid
module _ (W : World) where
  after_far : (g : List ℕ) (e : Entry) (n : ℕ) (k : Change) → n ≢ e.cell → type_at (grid_by W g e k) n ≡ type_at g n
  after_far g e n Broken d = get_or-set_other g e.cell n (empty_type W) 255 d
  after_far g e n Added d = get_or-set_other g e.cell n e.type 255 d
  after_far g e n Sides d = refl
  after_far g e n Replaced d = get_or-set_other g e.cell n e.type 255 d

  after_set : (g : List ℕ) (e : Entry) (c t : ℕ) (k : Change) → c ≢ e.cell → grid_by W (set g c t) e k ≡ set (grid_by W g e k) c t
  after_set g e c t Broken d = set_comm g c e.cell t (empty_type W) d
  after_set g e c t Added d = set_comm g c e.cell t e.type d
  after_set g e c t Sides d = refl
  after_set g e c t Replaced d = set_comm g c e.cell t e.type d

  -- two entries on different cells leave the same in either order
  after_both : (g : List ℕ) (e d : Entry) (j k : Change) → e.cell ≢ d.cell → grid_by W (grid_by W g e j) d k ≡ grid_by W (grid_by W g d k) e j
  after_both g e d Broken k h = after_set g d e.cell (empty_type W) k h
  after_both g e d Added k h = after_set g d e.cell e.type k h
  after_both g e d Sides k h = refl
  after_both g e d Replaced k h = after_set g d e.cell e.type k h

-- ---- each cell of one crew's entries is clear of each of the other's, and the other way round
abbrev pub BothClear : Size → Entry → Entry → Type 0
BothClear s e d = Clear s e.cell d.cell × Clear s d.cell e.cell

abbrev pub AllClear : Size → List Entry → List Entry → Type 0
AllClear s one other = All (λ e. All (BothClear s e) other) one

module _ (s : Size) (d : Entry) (other : List Entry) where
  -- the first of the other crew's entries, and the rest of them
  first_clear : (one : List Entry) → AllClear s one (d ∷ other) → All (λ e. Clear s e.cell d.cell) one
  first_clear one h = all_kept (λ e c. c.0.0) one h

  rest_clear : (one : List Entry) → AllClear s one (d ∷ other) → AllClear s one other
  rest_clear one h = all_kept (λ e c. c.1) one h

-- ---- demand 3's entries, one by one; what the source's mode asks besides is the same on every grid
module _ (W : World) where
  pub record Fair (g : List ℕ) (e : Entry) : Type 0 where
    pub told : Told W g e
    pub named : TrueBy W g e e.change
    pub mends : MendsBy W g e e.change

  abbrev pub FairLog : List ℕ → List Entry → Type 0
  FairLog g [] = Unit {0}
  FairLog g (e ∷ es) = Fair g e × FairLog (grid_after W g e) es

  pub fair_of : (g : List ℕ) (es : List Entry) → Honest W g es → Mends W g es → FairLog g es
  fair_of g [] h m = tt
  fair_of g (e ∷ es) h m = (record { told = h.0; named = h.1; mends = m.0 }, fair_of (grid_after W g e) es h.2 m.1)

  pub fair_honest : (g : List ℕ) (es : List Entry) → FairLog g es → Honest W g es
  fair_honest g [] h = tt
  fair_honest g (e ∷ es) h = (h.0.told, h.0.named, fair_honest (grid_after W g e) es h.1)

  pub fair_mends : (g : List ℕ) (es : List Entry) → FairLog g es → Mends W g es
  fair_mends g [] h = tt
  fair_mends g (e ∷ es) h = (h.0.mends, fair_mends (grid_after W g e) es h.1)

  pub fair_append : (g : List ℕ) (a b : List Entry) → FairLog g (a ++ b) → FairLog g a × FairLog (grid_log W a g) b
  fair_append g [] b h = (tt, h)
  fair_append g (e ∷ a) b h = let r = fair_append (grid_after W g e) a b h.1 in ((h.0, r.0), r.1)

  -- an entry is as honest on one grid as on another that differs at a cell which it does not touch
  fair_by : (c : ℕ) (g h : List ℕ) → ((n : ℕ) → n ≢ c → type_at g n ≡ type_at h n) → (e : Entry) → Clear W.size e.cell c → Fair g e → Fair h e
  fair_by c g h same e clear fair =
      record {
        told = λ f hf. fair.told f hf ∙ around (neighbour W.size e.cell f) (clear.not_beside f);
        named = named e.change fair.named;
        mends = mends e.change fair.mends;
      }
    where
      around : (o : Option ℕ) → o ≢ some c → standing g o ≡ standing h o
      around none d = refl
      around (some n) d = same n (λ q. d (ap some q))

      here : type_at g e.cell ≡ type_at h e.cell
      here = same e.cell clear.different

      named : (k : Change) → TrueBy W g e k → TrueBy W h e k
      named Broken t = (t.0 ∙ here, t.1)
      named Added t = t
      named Sides t = t
      named Replaced t = t ∙ here

      mends : (k : Change) → MendsBy W g e k → MendsBy W h e k
      mends Broken t = t
      mends Added t = record { cube = t.cube; was_empty = subst (λ (t : ℕ). is_empty W t ≡ true) here t.was_empty }
      mends Sides t = t
      mends Replaced t = t

  -- so entries are as honest before another as after it, where it touches none of them
  log_kept : (g : List ℕ) (d : Entry) (es : List Entry) → All (λ e. Clear W.size e.cell d.cell) es → FairLog g es ↔ FairLog (grid_after W g d) es
  log_kept g d [] c = (λ f. tt, λ f. tt)
  log_kept g d (e ∷ es) c =
      let after = grid_after W g d in
      let far : (n : ℕ) → n ≢ d.cell → type_at after n ≡ type_at g n = λ n q. after_far W g d n d.change q in
      let swap = after_both W g e d e.change d.change c.0.different in
      let rest = log_kept (grid_after W g e) d es c.1 in (
        λ f. (fair_by d.cell g after (λ n q. sym (far n q)) e c.0 f.0, subst (λ (x : List ℕ). FairLog x es) swap (rest.0 f.1)),
        λ f. (fair_by d.cell after g far e c.0 f.0, rest.1 (subst (λ (x : List ℕ). FairLog x es) (sym swap) f.1)),
      )

  -- LAW: merged in any order two crews' entries are honest exactly if each crew's are
  pub merged_fair : {one other both : List Entry} (g : List ℕ) → AllClear W.size one other → Merged one other both
      → (FairLog g one × FairLog g other) ↔ FairLog g both
  merged_fair g c none_left = (λ p. tt, λ p. (tt, tt))
  merged_fair g c (of_one {e = e} {other = other} m) =
      let rest = merged_fair (grid_after W g e) c.1 m in
      let kept = log_kept g e other (all_kept (λ d b. b.1) other c.0) in (
        λ p. (p.0.0, rest.0 (p.0.1, kept.0 p.1)),
        λ p. let r = rest.1 p.1 in ((p.0, r.0), kept.1 r.1),
      )
  merged_fair g c (of_other {e = d} {one = one} {other = other} m) =
      let rest = merged_fair (grid_after W g d) (rest_clear W.size d other one c) m in
      let kept = log_kept g d one (first_clear W.size d other one c) in (
        λ p. (p.1.0, rest.0 (kept.0 p.0, p.1.1)),
        λ p. let r = rest.1 p.1 in (kept.1 r.0, (p.0, r.1)),
      )

-- ---- LAW: they leave what one crew's and then the other's leave
module _ (W : World) where
  log_after : (g : List ℕ) (d : Entry) (es : List Entry) → All (λ e. Clear W.size e.cell d.cell) es
      → grid_log W es (grid_after W g d) ≡ grid_after W (grid_log W es g) d
  log_after g d [] c = refl
  log_after g d (e ∷ es) c =
      ap (grid_log W es) (sym (after_both W g e d e.change d.change c.0.different)) ∙ log_after (grid_after W g e) d es c.1

  pub merged_ground : {one other both : List Entry} (g : List ℕ) → AllClear W.size one other → Merged one other both
      → grid_log W both g ≡ grid_log W other (grid_log W one g)
  merged_ground g c none_left = refl
  merged_ground g c (of_one {e = e} m) = merged_ground (grid_after W g e) c.1 m
  merged_ground g c (of_other {e = e} {one = one} {other = other} m) =
      merged_ground (grid_after W g e) (rest_clear W.size e other one c) m ∙ ap (grid_log W other) (log_after g e one (first_clear W.size e other one c))

-- what holds of all entries holds of a crew's
pub all_other : (P : Entry → Type 0) {one other both : List Entry} → Merged one other both → All P both → All P other
all_other P none_left a = tt
all_other P (of_one m) a = all_other P m a.1
all_other P (of_other m) a = (a.0, all_other P m a.1)

-- one crew's and then the other's is an order; which crew is named first does not matter
pub one_then_other : (one other : List Entry) → Merged one other (one ++ other)
one_then_other [] [] = none_left
one_then_other [] (d ∷ other) = of_other (one_then_other [] other)
one_then_other (e ∷ one) other = of_one (one_then_other one other)

pub turned : {one other both : List Entry} → Merged one other both → Merged other one both
turned none_left = none_left
turned (of_one m) = of_other (turned m)
turned (of_other m) = of_one (turned m)

-- ---- the other way round: within the grid neighbours are mutual
pub clear_back : (W : World) → Sound W → (c d : ℕ) → d < cells W.size → Clear W.size c d → Clear W.size d c
clear_back W s c d hd h =
    record {
      different = λ q. h.different (sym q);
      not_beside = λ f q. h.not_beside (opposite f) (beside W.size s.wide s.long d hd f c q).back;
    }
