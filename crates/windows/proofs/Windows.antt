-- The table in a window: after every event it stands there again, and in front of it what has gone. Assumes nothing.
use Prim.Native.Nat.{ℕ, zero, suc, ◌+◌, ◌-◌, ◌*◌, ◌≤◌, ◌<◌}
use mathlib.Core.Path.{◌≡◌, sym, ap, ◌∙◌, subst}
use mathlib.Core.List.{List, ◌++◌}
use mathlib.Core.Logic.{⊎_elim}
use native.Mathlib.Omega.{arith}
use lib.ListN.{length, get_or, take, drop, replicate, length-replicate, get_or-replicate, length-append, length-drop, get_or-append, get_or-eq_default}
use lib.Seq.{ext_get_or, get_or-append-add, get_or-drop, get_or-take, length-take-le}
use Rattle.lists.specs.Tab.{lt_or_le, length-tab, get_or-tab}
use Rattle.lists.specs.Parts.{closed, back, part_length, part_at, length_back, back_inside, back-after}
use Rattle.table.specs.Columns.{waiting_wide}
use Rattle.index.specs.Index.{shifted}
use Rattle.windows.specs.Window.{Window}

module _ (size start : ℕ) (window ws ps : List ℕ) (w : Window size start window ws) (long : length ps ≡ size) where
  abbrev a : ℕ
  a = start * waiting_wide

  abbrev e : ℕ
  e = start * waiting_wide + size

  -- the window once the table is back in it
  abbrev then' : List ℕ
  then' = back a e ps window

  same : length ps ≡ e - a
  same = long ∙ omega arith

  whole : length then' ≡ length window
  whole = length_back a e ps window (omega arith) w.fits same

  -- where it stood
  pub window_stays : Window size start then' ps
  window_stays =
      record {
        fits = omega (arith, w.fits, whole);
        shows = ext_get_or 0 (take (e - a) (drop a then')) ps (part_length a e then' (omega arith) (omega (arith, w.fits, whole)) ∙ sym same)
            (λ i l. let h : i < e - a = omega (arith, l, part_length a e then' (omega arith) (omega (arith, w.fits, whole))) in
            part_at a e i then' h ∙ back_inside a e ps window (omega arith) w.fits same (a + i) (omega arith) (omega (arith, h)) ∙ ap (λ (k : ℕ). get_or ps k 0) (omega arith));
        rest = λ j l. back-after a e ps window (omega arith) w.fits same j l ∙ w.rest j l;
      }

-- how long the table is
pub window_long : (size start : ℕ) (window ws : List ℕ) → Window size start window ws → length ws ≡ size
window_long size start window ws w = ap length (sym w.shows) ∙ part_length (start * waiting_wide) (start * waiting_wide + size) window (omega arith) w.fits ∙ omega arith

-- and a row further on stands the table whose rows have closed up to those behind
module _ (size start : ℕ) (window ws : List ℕ) (w : Window size start window ws) (room : (start + 1) * waiting_wide + size ≤ length window) where
  abbrev b : ℕ
  b = start * waiting_wide

  abbrev f : ℕ
  f = start * waiting_wide + size

  abbrev b' : ℕ
  b' = (start + 1) * waiting_wide

  abbrev f' : ℕ
  f' = (start + 1) * waiting_wide + size

  pub window_goes : Window size (start + 1) window (closed waiting_wide ws)
  window_goes =
      record {
        fits = room;
        shows = ext_get_or 0 (take (f' - b') (drop b' window)) (closed waiting_wide ws) (part_length b' f' window (omega arith) room ∙ omega (arith, long, length-tab (length ws) (λ k. get_or ws (k + waiting_wide) 0)))
            (λ i l. let h : i < f' - b' = omega (arith, l, part_length b' f' window (omega arith) room) in
            part_at b' f' i window h ∙ ⊎_elim (inner i h) (outer i h) (lt_or_le (i + waiting_wide) size) ∙ sym (get_or-tab (length ws) (λ k. get_or ws (k + waiting_wide) 0) i 0 (omega (arith, h, long))));
        rest = λ j l. w.rest j (omega (arith, l));
      }
    where
      long : length ws ≡ size
      long = window_long size start window ws w

      inner : (i : ℕ) → i < f' - b' → i + waiting_wide < size → get_or window (b' + i) 0 ≡ get_or ws (i + waiting_wide) 0
      inner i h l =
          ap (λ (k : ℕ). get_or window k 0) (omega arith)
          ∙ sym (part_at b f (i + waiting_wide) window (omega (arith, l)))
          ∙ ap (λ (xs : List ℕ). get_or xs (i + waiting_wide) 0) w.shows

      outer : (i : ℕ) → i < f' - b' → size ≤ i + waiting_wide → get_or window (b' + i) 0 ≡ get_or ws (i + waiting_wide) 0
      outer i h l = w.rest (b' + i) (omega (arith, l)) ∙ sym (get_or-eq_default ws 0 (omega (arith, l, long)))

-- in a new window there are only zeros
pub window_blank : (n j : ℕ) → get_or (replicate {A = ℕ} n 0) j 0 ≡ 0
window_blank n j =
    ⊎_elim (λ (l : j < n). get_or-replicate n j 0 0 l) (λ (l : n ≤ j). get_or-eq_default (replicate {A = ℕ} n 0) 0 (omega (arith, l, length-replicate {A = ℕ} n 0))) (lt_or_le j n)

-- a window into which a table was copied
pub window_opens : (size : ℕ) (ws zs : List ℕ) → length ws ≡ size → size ≤ length zs → ((j : ℕ) → get_or zs j 0 ≡ 0) → Window size 0 (ws ++ drop (length ws) zs) ws
window_opens size ws zs long room blank =
    record {
      fits = omega (arith, room, whole, long);
      shows = ext_get_or 0 (take (0 * waiting_wide + size - 0 * waiting_wide) (drop (0 * waiting_wide) both)) ws
          (part_length (0 * waiting_wide) (0 * waiting_wide + size) both (omega arith) (omega (arith, whole, room, long)) ∙ omega (arith, long))
          (λ i l. let h : i < length ws = omega (arith, l, long, part_length (0 * waiting_wide) (0 * waiting_wide + size) both (omega arith) (omega (arith, whole, room, long))) in
          part_at (0 * waiting_wide) (0 * waiting_wide + size) i both (omega (arith, h, long)) ∙ ap (λ (k : ℕ). get_or both k 0) (omega arith) ∙ get_or-append ws (drop (length ws) zs) 0 i h);
      rest = λ j l. ap (λ (k : ℕ). get_or both k 0) (back_to j (omega (arith, l, long))) ∙ get_or-append-add ws (drop (length ws) zs) (j - length ws) 0 ∙ get_or-drop (length ws) zs (j - length ws) 0 ∙ blank (length ws + (j - length ws));
    }
  where
    both : List ℕ
    both = ws ++ drop (length ws) zs

    whole : length both ≡ length zs
    whole = simp (length-append, length-drop) (omega (arith, long, room))

    back_to : (j : ℕ) → length ws ≤ j → j ≡ length ws + (j - length ws)
    back_to j l = omega (arith, l)

-- a table that is lent as it is stands in a window of its own
pub window_whole : (ws : List ℕ) → Window (length ws) 0 ws ws
window_whole ws =
    record {
      fits = omega arith;
      shows = ext_get_or 0 (take (0 * waiting_wide + length ws - 0 * waiting_wide) (drop (0 * waiting_wide) ws)) ws
          (part_length (0 * waiting_wide) (0 * waiting_wide + length ws) ws (omega arith) (omega arith) ∙ omega arith)
          (λ i l. let h : i < length ws = omega (arith, l, part_length (0 * waiting_wide) (0 * waiting_wide + length ws) ws (omega arith) (omega arith)) in
          part_at (0 * waiting_wide) (0 * waiting_wide + length ws) i ws (omega (arith, h)) ∙ ap (λ (k : ℕ). get_or ws k 0) (omega arith));
      rest = λ j l. get_or-eq_default ws 0 (omega (arith, l));
    }

-- and such a window has room for nothing else
pub window_only : (size start : ℕ) (window vs : List ℕ) → size ≡ length window → Window size start window vs → vs ≡ window
window_only size start window vs long w =
    let e : start ≡ 0 = omega (arith, w.fits, long) in
    let x = subst (λ (n : ℕ). Window n start window vs) long w in
    let y = subst (λ (n : ℕ). Window (length window) n window vs) e x in
    sym y.shows ∙ (window_whole window).shows

-- after an event it stands where it stood, or a row further on
pub window_moves : (size start gone : ℕ) (window vs : List ℕ) → gone ≤ 1 → (0 < gone → (start + 1) * waiting_wide + size ≤ length window) → Window size start window vs
    → Window size (start + gone) window (shifted gone vs)
window_moves size start zero window vs few room w = subst (λ (k : ℕ). Window size k window vs) (omega arith) w
window_moves size start (suc n) window vs few room w =
    let e : start + 1 ≡ start + suc n = omega (arith, few) in
    subst (λ (k : ℕ). Window size k window (closed waiting_wide vs)) e (window_goes size start window vs w (room (omega arith)))

-- and at the front of the window again, once all has moved there
module _ (size start : ℕ) (window ws : List ℕ) (w : Window size start window ws) where
  abbrev low : ℕ
  low = start * waiting_wide

  abbrev high : ℕ
  high = start * waiting_wide + size

  abbrev all : List ℕ
  all = closed low (take high window)

  abbrev settled : List ℕ
  settled = all ++ drop high window

  all_long : length all ≡ high
  all_long = length-tab (length (take high window)) (λ k. get_or (take high window) (k + low) 0) ∙ length-take-le high window w.fits

  settled_long : length settled ≡ length window
  settled_long = simp (length-append, length-drop) (omega (arith, all_long, w.fits))

  settled-front : (i : ℕ) → i < high → get_or settled i 0 ≡ get_or (take high window) (i + low) 0
  settled-front i l =
      get_or-append all (drop high window) 0 i (omega (arith, l, all_long))
      ∙ get_or-tab (length (take high window)) (λ k. get_or (take high window) (k + low) 0) i 0 (omega (arith, l, length-take-le high window w.fits))

  pub window_settles : Window size 0 settled ws
  window_settles =
      record {
        fits = omega (arith, settled_long, w.fits);
        shows = ext_get_or 0 (take (0 * waiting_wide + size - 0 * waiting_wide) (drop (0 * waiting_wide) settled)) ws
            (part_length (0 * waiting_wide) (0 * waiting_wide + size) settled (omega arith) (omega (arith, settled_long, w.fits)) ∙ omega arith ∙ sym (window_long size start window ws w))
            (λ i l. shown i (omega (arith, l, part_length (0 * waiting_wide) (0 * waiting_wide + size) settled (omega arith) (omega (arith, settled_long, w.fits)))));
        rest = λ j l. ⊎_elim (inner j (omega (arith, l))) (outer j) (lt_or_le j high);
      }
    where
      shown : (i : ℕ) → i < size → get_or (take (0 * waiting_wide + size - 0 * waiting_wide) (drop (0 * waiting_wide) settled)) i 0 ≡ get_or ws i 0
      shown i l =
          part_at (0 * waiting_wide) (0 * waiting_wide + size) i settled (omega (arith, l))
          ∙ ap (λ (k : ℕ). get_or settled k 0) (omega arith)
          ∙ settled-front i (omega (arith, l))
          ∙ get_or-take high window (i + low) 0 (omega (arith, l))
          ∙ ap (λ (k : ℕ). get_or window k 0) (omega arith)
          ∙ sym (part_at low high i window (omega (arith, l)))
          ∙ ap (λ (xs : List ℕ). get_or xs i 0) w.shows

      inner : (j : ℕ) → size ≤ j → j < high → get_or settled j 0 ≡ 0
      inner j l h = settled-front j h ∙ get_or-eq_default (take high window) 0 (omega (arith, l, length-take-le high window w.fits))

      outer : (j : ℕ) → high ≤ j → get_or settled j 0 ≡ 0
      outer j l =
          let q : j ≡ length all + (j - high) = omega (arith, l, all_long) in
          ap (λ (k : ℕ). get_or settled k 0) q ∙ get_or-append-add all (drop high window) (j - high) 0 ∙ get_or-drop high window (j - high) 0 ∙ w.rest (high + (j - high)) (omega arith)
