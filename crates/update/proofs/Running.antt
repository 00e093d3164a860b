-- A log on the index and the attributes, entry by entry: the lists stay the layout of the rule's mesh. Assumes nothing.
use mathlib.Core.Path.{◌≡◌, refl, sym, ap, ◌∙◌, subst}
use mathlib.Core.Bool.{Bool, true, false, not}
use mathlib.Core.List.{List, [], ◌∷◌}
use mathlib.Core.Option.{Option, none, some}
use Prim.Native.Nat.{ℕ, suc, ◌+◌, ◌-◌, ◌*◌, ◌/◌, ◌%◌, ◌^◌, ◌≤◌, ◌<◌}
use native.Mathlib.Nat.{mul-le-mul_left}
use native.Mathlib.Omega.{arith}
use lib.Dec.{leb}
use lib.ListN.{length, get_or, take, get_or-eq_default}
use lib.Seq.{get_or-take, length-take-le}
use borrow.Author.Tests.{eq-eqb, le-leb, lt-leb, leb-true, leb-false}
use Rattle.rules.specs.Lists.{each}
use Rattle.rules.specs.Cells.{cells, neighbour}
use Rattle.rules.specs.Mesh.{Quad, Attribute, position, Vertices, HasList, of_positions, NONE, there, slot_of, row_of, attribute_laid}
use Rattle.rules.specs.Update as rule
use Rattle.rules.specs.Update.{ENTRY_BYTES, Tested, Entry, Op, run, moves, highest, ops, needed, work, entry_at, course_from}
use Rattle.rules.specs.Calls.{Scene, world, span, faces}
use Rattle.rules.proofs.ListLaws.{All, length-table, each_same}
use Rattle.rules.proofs.Neighbours.{beside, opposite_lt}
use Rattle.rules.proofs.Acting.{acting, Acts, after, acting_same, acting_acts, acting_all}
use Rattle.rules.proofs.Attributes.{inside_of, each_list_lem, each_again}
use Rattle.rules.proofs.Laying.{Fits, Sized, length-laid, rows_sized}
use Rattle.rules.proofs.Views.{Sound}
use Rattle.rules.proofs.Courses.{Sane, sane_step, Good, good_ops, highest_needed, fits_new, entry_moves}
use Rattle.rules.proofs.Demands.{words_sized}
use Rattle.mesh_metadata.proofs.Meshes as meshes
use Rattle.drawing.proofs.Sides.{row_wide}
use Rattle.drawing.proofs.Lengths.{Alike, each_alike, alike_long}
use Rattle.steps.specs.Steps.{Step, Deed, step_in, step_at, steps_in, Shelf, shelf, quad_by, ops_of, steps_of, Can, Able}
use Rattle.steps.proofs.Replaying.{replay_run}
use Rattle.steps.specs.Rows.{words_by, run_of, run_all, Drawn, ReplayingAll}
use Rattle.works.specs.declared.Work.{Work}
use Rattle.works.specs.Sets.{meant, set_in, packed, key_or, keys_around, key_met, deeds, CubesDrawn}
use Rattle.works.proofs.Works.{all_few, near_key}
use Rattle.works.proofs.Meant.{Means, meant_work, meant_cubes}
use Rattle.indexing.specs.declared.Tally.{Tally}
use Rattle.indexing.specs.Index.{Index, index_of, index_run, book_of, Ground, Ready}
use Rattle.indexing.specs.Due.{is_bare, due_of, fits_in, Gridded}
use Rattle.indexing.proofs.Booking.{slot_none, length-steps, run_booked}
use Rattle.indexing.proofs.Due.{due_few, due_cubes, due_ops, room_told}
use Rattle.update.specs.Runs.{Ended, laid_out, course_on, Holds, Logging}
use Rattle.update.proofs.Drawing.{deeds_able}

-- the index, before an entry
abbrev pub index_at : List ℕ → List ℕ → ℕ → ℕ → ℕ → List ℕ → Index
index_at links slots quads moved top steps = record { links = links; slots = slots; quads = quads; moved = moved; top = top; steps = steps_in 0 steps }

-- entry k is next: the lists hold a mesh, and what is left of the log on it is the whole on what was there
pub record Running (tested : Tested) (S : Scene) (room : ℕ) (log : List ℕ) (vs₀ : Vertices) (ls₀ : List ℕ) (Q k h : ℕ) (vs : Vertices) (ls ss : List ℕ) (q v : ℕ) : Type 0 where
  pub mesh : List Quad
  pub below : k ≤ length log / ENTRY_BYTES
  pub left : course_from room (λ j. work tested (world S) (entry_at log j)) k (length log / ENTRY_BYTES - k) mesh v h ≡ course_on tested S room log vs₀ ls₀ Q
  pub holds : Holds S room vs₀ ls₀ mesh h vs ls ss q
  pub moves : v ≤ 60 * k

-- what the code has found of entry k: its sets, the keys around its cell, and what of it is due by the slots
pub record Found (tested : Tested) (S : Scene) (log ss : List ℕ) (k : ℕ) (e : Entry) (w : Work) (ks : List ℕ) (d : Work) : Type 0 where
  pub next : k < length log / ENTRY_BYTES
  pub entry : e ≡ entry_at log k
  pub sets : w ≡ meant tested (world S) e
  pub keys : ks ≡ keys_around S.size e.cell
  pub due : d ≡ due_of ss ks e.cell w

pub found : {tested : Tested} {S : Scene} {room : ℕ} {log : List ℕ} {vs₀ : Vertices} {ls₀ : List ℕ} {Q k h : ℕ} {vs : Vertices} {ls ss : List ℕ} {q v : ℕ} {e : Entry} {w : Work} {ks : List ℕ} {d : Work}
    → Running tested S room log vs₀ ls₀ Q k h vs ls ss q v → k < length log / ENTRY_BYTES → e ≡ entry_at log k → w ≡ meant tested (world S) e → ks ≡ keys_around S.size e.cell → d ≡ due_of ss ks e.cell w → Found tested S log ss k e w ks d
found r next entry sets keys due = record { next = next; entry = entry; sets = sets; keys = keys; due = due }

-- the steps that an entry took, of which the list has all: they can be replayed, and then the next entry is at hand
pub record Turned (tested : Tested) (S : Scene) (room : ℕ) (log : List ℕ) (vs₀ : Vertices) (ls₀ : List ℕ) (Q k : ℕ) (vs : Vertices) (q : ℕ) (ls ss ys : List ℕ) (t : Tally) : Type 0 where
  pub taken : 2 * t.steps ≤ length ys
  pub lent : length (take (2 * t.steps) ys) ≡ 2 * t.steps
  pub replaying : ReplayingAll S (steps_in (length (take (2 * t.steps) ys) / 2) (take (2 * t.steps) ys)) vs q
  pub on : (vs' : Vertices) → vs' ≡ run_all S (steps_in (length (take (2 * t.steps) ys) / 2) (take (2 * t.steps) ys)) q vs → Running tested S room log vs₀ ls₀ Q (k + 1) t.top vs' ls ss t.quads t.moved

-- as many as were taken are all that the lent part has
module _ (list : List ℕ) (taken : ℕ) (few : 2 * taken ≤ length list) where
  lent_length : length (take (2 * taken) list) ≡ 2 * taken
  lent_length = length-take-le (2 * taken) list few

  lent_steps : steps_in (length (take (2 * taken) list) / 2) (take (2 * taken) list) ≡ steps_in taken list
  lent_steps =
      let n : length (take (2 * taken) list) / 2 ≡ taken = ap (λ (k : ℕ). k / 2) lent_length ∙ omega arith in
      rw n (each_same taken 0 (λ i. step_at (take (2 * taken) list) i ∷ []) (λ i. step_at list i ∷ [])
      (λ i _ h. let a = get_or-take (2 * taken) list (2 * i) 0 (omega arith) in let b = get_or-take (2 * taken) list (2 * i + 1) 0 (omega arith) in λ j. step_in (a j) (b j) ∷ []))

module _ (tested : Tested) {S : Scene} {room : ℕ} {log : List ℕ} {vs₀ : Vertices} {ls₀ ss₀ : List ℕ} {Q : ℕ} (g : Logging S room log vs₀ ls₀ ss₀ Q) where
  abbrev works : ℕ → rule.Work
  works j = work tested (world S) (entry_at log j)

  sound : Sound (world S)
  sound =
      let few = g.typed.counted.few in
      let same = g.typed.covered in
      record { wide = g.within.sides.wide; long = g.within.sides.long; few = few; few_sets = omega arith }

  grid_small : faces S ≤ 1073741823
  grid_small = let l = g.within.most in omega arith

  abbrev ground : Ground
  ground = record { words = words_by S; span = span S; room = room; faces = faces S; old = ls₀; long = g.words; small = grid_small }

  module _ {k h q v : ℕ} {vs : Vertices} {ls ss : List ℕ} (r : Running tested S room log vs₀ ls₀ Q k h vs ls ss q v) where
    abbrev m : List Quad
    m = r.mesh

    abbrev sane : Sane (faces S) (span S) room m h
    sane = r.holds.sane

    sized : (a : Attribute) (xs : List ℕ) → HasList S.types.coloured vs₀ a xs → Sized (4 * a.width) (λ q x. row_of S.types.coloured a x) m
    sized a xs l = rows_sized S.types.coloured a (inside_of S.types.coloured vs₀ a xs l) (faces S) m sane.fits

    length-slots : length ss ≡ faces S
    length-slots = ap length r.holds.slots ∙ length-table (slot_of m) (faces S)

    pub run_small : q < 2 ^ 32
    run_small = omega (arith, meshes.small (faces S) (span S) m grid_small sane.fits sane.once, r.holds.count)

    -- the attributes' lists are as long as they were
    pub run_lengths : Alike vs vs₀
    run_lengths =
        let b = sane.within in
        rw r.holds.vertices
        (each_alike S.types.coloured vs₀ (attribute_laid S.types.coloured h m)
        (λ a xs l. length-laid (4 * a.width) (λ q x. row_of S.types.coloured a x) h m xs (sized a xs l) sane.reached
        (omega (arith, g.rows a xs l, mul-le-mul_left (4 * a.width) b))))

    told : (j : ℕ) → j < faces S → is_bare ss j ≡ not (there j m)
    told j l = ap (λ (xs : List ℕ). is_bare xs j) r.holds.slots ∙ slot_none ground m h sane j l

    course_on_lem : needed (works k) m ≤ room → k < length log / ENTRY_BYTES → course_from room works k (length log / ENTRY_BYTES - k) m v h
        ≡ course_from room works (k + 1) (length log / ENTRY_BYTES - (k + 1)) (run (ops (works k)) m) (v + moves (ops (works k)) m) (highest h (ops (works k)) m)
    unfolding course_from
    course_on_lem fit lt =
        let a : length log / ENTRY_BYTES - k ≡ suc (length log / ENTRY_BYTES - (k + 1)) = omega arith in
        let b : suc k ≡ k + 1 = omega arith in
        rw (a, le-leb (needed (works k) m) room fit, b)

    -- ---- an entry that finds no room
    pub run_full : k < length log / ENTRY_BYTES → room < needed (works k) m → record { full = some k; quads = m; moved = v; highest = h } ≡ course_on tested S room log vs₀ ls₀ Q
    unfolding course_from
    run_full lt over =
        let a : length log / ENTRY_BYTES - k ≡ suc (length log / ENTRY_BYTES - (k + 1)) = omega arith in
        let stop : course_from room works k (length log / ENTRY_BYTES - k) m v h ≡ record { full = some k; quads = m; moved = v; highest = h } = rw (a, lt-leb (needed (works k) m) room over) in
        sym stop ∙ r.left

    pub run_inside : {e : Entry} → k < length log / ENTRY_BYTES → e ≡ entry_at log k → e.cell < cells S.size
    run_inside lt at = subst (λ (x : Entry). x.cell < cells S.size) (sym at) (g.inside k lt)

    pub run_gridded : {e : Entry} {ks : List ℕ} → k < length log / ENTRY_BYTES → e ≡ entry_at log k → ks ≡ keys_around S.size e.cell → Gridded ks ss × (6 * e.cell + 6 ≤ length ss)
    run_gridded {e} lt at ks-are =
        let z = length-slots in
        let s = grid_small in
        let c = run_inside lt at in (
          record { small = omega arith; near = λ f l. subst (λ (k : ℕ). (k ≡ NONE → ⊥) → k < length ss) (sym (ap (λ (x : List ℕ). key_met x 1 f) ks-are ∙ near_key S.size e.cell 1 f refl l)) (near f l (neighbour S.size e.cell f) refl) },
          omega arith,
        )
      where
        near : (f : ℕ) → f < 6 → (o : Option ℕ) → neighbour S.size e.cell f ≡ o → (key_or f o ≡ NONE → ⊥) → key_or f o < length ss
        near f l none q d = absurd (d refl)
        near f l (some n) q d = let i = (beside S.size g.within.sides.wide g.within.sides.long e.cell (run_inside lt at) f n q).inside in omega (arith, length-slots, opposite_lt f l)

    module _ {e : Entry} {w : Work} {ks : List ℕ} {d : Work} (f : Found tested S log ss k e w ks d) where
      inside : e.cell < cells S.size
      inside = run_inside f.next f.entry

      fits : All (Fits (faces S) (span S)) (works k).new
      fits = fits_new (world S) sound (span S) (words_sized S) tested (entry_at log k) (g.inside k f.next) (entry_at log k).change

      means : Means (world S) e w (works k)
      means = subst (λ (x : Work × Entry). Means (world S) e x.0 (work tested (world S) x.1)) (λ i. (sym f.sets i, f.entry i)) (meant_work (world S) e tested)

      around : d ≡ due_of ss (keys_around S.size e.cell) e.cell w
      around = f.due ∙ ap (λ (x : List ℕ). due_of ss x e.cell w) f.keys

      no_face : is_bare ss NONE ≡ true
      no_face = eq-eqb (get_or ss NONE NONE) NONE (get_or-eq_default ss NONE (omega (arith, length-slots, grid_small)))

      pub run_dues : (j : ℕ) → set_in d j < 64
      run_dues j = subst (λ (x : Work). set_in x j < 64) (sym f.due) (due_few ss ks e.cell w j)

      pub run_room : fits_in d q room ≡ leb (needed (works k) m) room
      run_room = let n = r.holds.count in (λ i. fits_in (around i) (n i) room) ∙ room_told (world S) e g.within inside m sane.once w ss told no_face means room

      pub run_over : {b : Bool} → b ≡ fits_in d q room → b ≡ false → room < needed (works k) m
      run_over a n = leb-false (needed (works k) m) room (sym run_room ∙ sym a ∙ n)

      pub run_fits : {b : Bool} → b ≡ fits_in d q room → b ≡ true → needed (works k) m ≤ room
      run_fits a y = leb-true (needed (works k) m) room (sym run_room ∙ sym a ∙ y)

      -- ---- an entry that finds its room
      module _ (fit : needed (works k) m ≤ room) (xs : List ℕ) (long : length xs ≡ 48) where
        abbrev ds : List Deed
        ds = deeds ks e (packed d)

        abbrev os : List Op
        os = ops_of (quad_by (words_by S)) ds

        acting_now : os ≡ acting (ops (works k)) m
        acting_now = (λ i. ops_of (quad_by (words_by S)) (deeds (f.keys i) e (packed (around i)))) ∙ due_ops (world S) e g.within inside m sane.once w ss told no_face means

        good : All (Good (faces S) (span S)) os
        good = subst (All (Good (faces S) (span S))) (sym acting_now) (acting_all (Good (faces S) (span S)) (ops (works k)) m (good_ops (faces S) (span S) (works k) fits))

        acts_now : Acts os m
        acts_now = subst (λ (x : List Op). Acts x m) (sym acting_now) (acting_acts (ops (works k)) m)

        able : All (Able (Drawn S)) ds
        able =
            let c = subst (CubesDrawn S.types.kinds e) (sym f.sets) (meant_cubes (world S) e tested) in
            deeds_able S g.typed ks e d run_dues (subst (CubesDrawn S.types.kinds e) (sym f.due) (due_cubes S.types.kinds ss ks e.cell e w c)) good

        same : after h m os ≡ after h m (ops (works k))
        same = ap (after h m) acting_now ∙ acting_same (ops (works k)) h m sane.reached

        fits_deeds : highest h os m ≤ room
        fits_deeds = let e = ap (λ (x : ℕ × ℕ × List Quad). x.0) same in let t = highest_needed (works k) h m sane.reached in let b = sane.within in omega arith

        index : index_at ls ss q v h xs ≡ book_of (faces S) h m ls₀ v (steps_in 0 xs)
        index = let a = r.holds.links in let b = r.holds.slots in let c = r.holds.count in λ i. record { links = a i; slots = b i; quads = c i; moved = v; top = h; steps = steps_in 0 xs }

        run_ready : Ready (length xs) ds (index_at ls ss q v h xs)
        unfolding each
        run_ready =
            let few = g.few in
            let mv = r.moves in
            let a = all_few ks e (packed d) in
            record {
              ground = ground;
              top = h;
              mesh = m;
              sane = sane;
              is = index;
              good = good;
              acts = acts_now;
              fits = fits_deeds;
              moves = omega arith;
              steps = omega arith;
            }

        -- and so it is by the word of what is due
        pub run_word : {n : ℕ} → n ≡ packed d → (n < 2 ^ 24) × Ready (length xs) (deeds ks e n) (index_at ls ss q v h xs)
        run_word is = (omega (arith, is, run_dues 0, run_dues 1, run_dues 2, run_dues 3), subst (λ (n : ℕ). Ready (length xs) (deeds ks e n) (index_at ls ss q v h xs)) (sym is) run_ready)

        abbrev done : Index
        done = index_run ds (index_at ls ss q v h xs)

        abbrev steps : List Step
        steps = steps_of (quad_by (words_by S)) ds m

        ran : done ≡ book_of (faces S) (highest h (ops (works k)) m) (run (ops (works k)) m) ls₀ (v + moves (ops (works k)) m) steps
        unfolding each
        ran =
            ap (index_run ds) index
            ∙ run_booked ground ds m h v [] good acts_now sane fits_deeds
            ∙ ap (λ (x : ℕ × ℕ × List Quad). book_of (faces S) x.0 x.2 ls₀ (v + x.1) steps) same

        steps_are : done.steps ≡ steps
        steps_are = ap (λ (I : Index). I.steps) ran

        run_few : 2 * length done.steps ≤ length xs
        run_few = let n = ap length steps_are ∙ length-steps ground ds m in omega (arith, n, all_few ks e (packed d))

        -- the steps on an attribute's list
        replayed_now : (a : Attribute) (xs : List ℕ) → HasList S.types.coloured vs₀ a xs → Can (Drawn S) room steps (length m)
            × (run_of S a steps (shelf (attribute_laid S.types.coloured h m a xs) (length m)) ≡ shelf (attribute_laid S.types.coloured (highest h os m) (run os m) a xs) (length (run os m)))
        replayed_now a xs l =
            let has = inside_of S.types.coloured vs₀ a xs l in
            replay_run (4 * a.width) (row_of S.types.coloured a) (words_by S) (Drawn S) (λ n t d. row_wide S a has t (n % 6) (n / 6)) room xs (g.rows a xs l) ds m h
            (sized a xs l) able sane.reached acts_now fits_deeds

        run_replaying : ReplayingAll S done.steps vs q
        run_replaying =
            let c = r.holds.count in
            let l = sane.reached in
            let b = sane.within in
            record {
              room = room;
              within = g.within;
              fits = alike_long S.types.coloured vs₀ vs room run_lengths g.rows;
              here = omega arith;
              can = subst (Can (Drawn S) room done.steps) (sym c)
                  (subst (λ (ys : List Step). Can (Drawn S) room ys (length m)) (sym steps_are) (replayed_now position vs₀.positions of_positions).0);
            }

        -- what the entry leaves
        pub run_on : {vs' : Vertices} {ls' ss' : List ℕ} {q' v' h' : ℕ} {ys : List Step}
            → record { links = ls'; slots = ss'; quads = q'; moved = v'; top = h'; steps = ys } ≡ done
            → vs' ≡ run_all S done.steps q vs
            → Running tested S room log vs₀ ls₀ Q (k + 1) h' vs' ls' ss' q' v'
        run_on {vs'} i s =
            let after : List Quad = run (ops (works k)) m in
            let top = highest h (ops (works k)) m in
            let tint = S.types.coloured in
            let rows = s
            ∙ (λ j. run_all S (steps_are j) (r.holds.count j) (r.holds.vertices j))
            ∙ each_again tint vs₀ (λ a ws. (run_of S a steps (shelf ws (length m))).words) (attribute_laid tint h m)
            ∙ each_list_lem tint vs₀ (λ a ws. (run_of S a steps (shelf (attribute_laid tint h m a ws) (length m))).words) (attribute_laid tint top after)
            (λ a ws l. ap (λ (x : Shelf). x.words) (replayed_now a ws l).1 ∙ ap (λ (x : ℕ × ℕ × List Quad). attribute_laid tint x.0 x.2 a ws) same) in
            let few = entry_moves tested (world S) (entry_at log k) m in
            let old = r.moves in
            subst (λ (I : Index). Running tested S room log vs₀ ls₀ Q (k + 1) I.top vs' I.links I.slots I.quads I.moved) (sym (i ∙ ran))
            (record {
              mesh = after;
              below = omega arith;
              left = sym (course_on_lem fit f.next) ∙ r.left;
              holds = record {
                sane = sane_step (faces S) (span S) room (works k) m h sane fits fit;
                count = refl;
                vertices = rows;
                links = refl;
                slots = refl;
              };
              moves = omega arith;
            })

        pub run_turned : {n : ℕ} → n ≡ packed d → (ls' ss' ys : List ℕ) (t : Tally) → index_of ls' ss' ys t ≡ index_run (deeds ks e n) (index_at ls ss q v h xs) → length ys ≡ length xs
            → Turned tested S room log vs₀ ls₀ Q k vs q ls' ss' ys t
        run_turned is ls' ss' ys t worked all =
            let went : index_of ls' ss' ys t ≡ done = worked ∙ ap (λ (n : ℕ). index_run (deeds ks e n) (index_at ls ss q v h xs)) is in
            let these : steps_in t.steps ys ≡ done.steps = ap (λ (I : Index). I.steps) went in
            let few : 2 * t.steps ≤ length ys = omega (arith, ap length these, run_few, length-table (step_at ys) t.steps) in
            let same = lent_steps ys t.steps few ∙ these in
            record {
              taken = few;
              lent = lent_length ys t.steps few;
              replaying = subst (λ (x : List Step). ReplayingAll S x vs q) (sym same) run_replaying;
              on = λ vs' after. run_on went (after ∙ ap (λ (x : List Step). run_all S x q vs) same);
            }

    pub run_through : length log / ENTRY_BYTES ≤ k → record { full = none; quads = m; moved = v; highest = h } ≡ course_on tested S room log vs₀ ls₀ Q
    unfolding course_from
    run_through over =
        let b = r.below in
        let z : length log / ENTRY_BYTES - k ≡ 0 = omega arith in
        sym (ap (λ (n : ℕ). course_from room works k n m v h) z) ∙ r.left

    -- the lists at that point, as the course leaves them
    pub run_ended : {o : Option ℕ} → record { full = o; quads = m; moved = v; highest = h } ≡ course_on tested S room log vs₀ ls₀ Q
        → ◌≡◌ {A = Ended} (record { full = o; quads = q; moved = v; highest = h; vertices = vs; links = ls; slots = ss })
        (laid_out S vs₀ ls₀ (course_on tested S room log vs₀ ls₀ Q))
    run_ended {o} e =
        let a = r.holds.count in
        let b = r.holds.vertices in
        let c = r.holds.links in
        let d = r.holds.slots in
        (λ i. record { full = o; quads = a i; moved = v; highest = h; vertices = b i; links = c i; slots = d i }) ∙ ap (laid_out S vs₀ ls₀) e
