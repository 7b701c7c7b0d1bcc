-- A waiting table that is lent with more places than its gate has: what stands past them makes no difference, and stays. Assumes nothing.
use Prim.Native.Nat.{ℕ, ◌+◌, ◌-◌, ◌*◌, ◌≤◌, ◌<◌}
use mathlib.Core.Path.{◌≡◌, refl, sym, ap, ◌∙◌, subst}
use mathlib.Core.List.{List, ◌++◌, map}
use native.Mathlib.Omega.{arith}
use lib.ListN.{length, get_or, take, drop, take-append-drop, length-append, get_or-append}
use lib.Seq.{get_or-append-add, take_at, length-take-le}
use Rattle.lists.specs.Tab.{tab_ext}
use Rattle.lists.specs.Lines.{line_at, lines_of, over, Tidy}
use Rattle.lists.specs.LinesLaws.{in_line_lem, length_over, over-at, is_over}
use Rattle.lists.specs.Rows.{over_rows, rows_of}
use Rattle.lists.specs.RowsLaws.{length-rows}
use Rattle.rules.specs.Tables.{Table}
use Rattle.rules.specs.Sound.{sound}
use Rattle.rules.specs.declared.Gate.{Gate}
use Rattle.rules.proofs.Facts.{sound_is}
use Rattle.table.specs.Columns.{waiting_wide, most_guests, most_capacity}
use Rattle.table.specs.View.{request_form, waiting_of, table_of, identified, Known}
use Rattle.table.specs.Does.{Lent, written}
use Rattle.table.proofs.Facts.{facts}
use Rattle.index.specs.Index.{owner_of}
use Rattle.index.proofs.Begun.{build_asks}

-- the waiting table with `rest` behind it
abbrev pub lengthened : List ℕ → Lent → Lent
lengthened rest l = (l.0, l.1, l.2 ++ rest, l.3)

-- LINES

module _ (s cap : ℕ) (xs rest : List ℕ) (long : length xs ≡ cap * s) where
  -- those that stand in the front are read there
  lines_longer : (n : ℕ) → n ≤ cap → lines_of s (xs ++ rest) n ≡ lines_of s xs n
  unfolding lines_of
  lines_longer n few =
      tab_ext n (line_at s (xs ++ rest)) (line_at s xs)
      (λ k h. tab_ext s (λ j. get_or (xs ++ rest) (k * s + j) 0) (λ j. get_or xs (k * s + j) 0) (λ j l. get_or-append xs rest 0 (k * s + j) (omega (arith, long, in_line_lem s k cap j (omega (arith, h, few)) l))))

  -- and written there
  over_longer : 0 < s → (ls : List (List ℕ)) → over s cap ls (xs ++ rest) ≡ over s cap ls xs ++ rest
  over_longer some ls =
      sym
      (is_over s cap some ls (xs ++ rest) (over s cap ls xs ++ rest) (simp (length-append) (omega (arith, same)))
      (λ k j h l. get_or-append (over s cap ls xs) rest 0 (k * s + j) (omega (arith, same, long, in_line_lem s k cap j h l)) ∙ over-at s cap some ls xs (omega (arith, long)) k j h l)
      (λ i l.
      let p : i ≡ length (over s cap ls xs) + (i - cap * s) = omega (arith, same, long, l) in
      let q : length xs + (i - cap * s) ≡ i = omega (arith, long, l) in
      ap (λ (k : ℕ). get_or (over s cap ls xs ++ rest) k 0) p
      ∙ get_or-append-add (over s cap ls xs) rest (i - cap * s) 0
      ∙ sym (get_or-append-add xs rest (i - cap * s) 0)
      ∙ ap (λ (k : ℕ). get_or (xs ++ rest) k 0) q))
    where
      same : length (over s cap ls xs) ≡ length xs
      same = length_over s cap some ls xs

  -- so unused places are zero in both or in neither
  tidy_longer : 0 < s → (n : ℕ) → n ≤ cap → Tidy s cap n xs → Tidy s cap n (xs ++ rest)
  tidy_longer some n few t = ap (λ (ls : List (List ℕ)). over s cap ls (xs ++ rest)) (lines_longer n few) ∙ over_longer some (lines_of s xs n) ∙ ap (λ (ys : List ℕ). ys ++ rest) t

  tidy_part : 0 < s → (n : ℕ) → n ≤ cap → Tidy s cap n (xs ++ rest) → Tidy s cap n xs
  tidy_part some n few t =
      sym (take_at (over s cap (lines_of s xs n) xs) rest (length xs) (length_over s cap some (lines_of s xs n) xs))
      ∙ ap (take (length xs)) (sym (ap (λ (ls : List (List ℕ)). over s cap ls (xs ++ rest)) (lines_longer n few) ∙ over_longer some (lines_of s xs n)) ∙ t)
      ∙ take_at xs rest (length xs) refl

-- TABLES

module _ (g : Gate) (gs xs rest fs : List ℕ) (long : length xs ≡ g.setup.capacity * waiting_wide) where
  abbrev t : Table
  t = table_of g gs xs fs

  -- the same requests are shown
  rows_longer : g.waiting ≤ g.setup.capacity → waiting_of (xs ++ rest) g.waiting ≡ waiting_of xs g.waiting
  unfolding rows_of
  rows_longer few = ap (map request_form.read) (lines_longer waiting_wide g.setup.capacity xs rest long g.waiting few)

  shown : g.waiting ≤ g.setup.capacity → table_of g gs (xs ++ rest) fs ≡ t
  shown few = λ i. record { setup = g.setup; time = g.time; guests = t.guests; waiting = rows_longer few i; flight = t.flight }

  -- no more wait than there are places
  fits : (ws : List ℕ) → Known g gs ws fs → g.waiting ≤ g.setup.capacity
  fits ws k = omega (arith, (sound_is (table_of g gs ws fs) k.is_sound).waiting-fits, length-rows request_form ws g.waiting)

  -- what is known of the places that the gate has is known of all that are lent
  pub longer_known : Known g gs xs fs → Known g gs (xs ++ rest) fs
  longer_known k =
      let e = shown (fits xs k) in
      record {
        guest_room = k.guest_room;
        waiting_room = simp (length-append) (omega (arith, long));
        flight_room = k.flight_room;
        is_sound = ap sound e ∙ k.is_sound;
        is_identified = ap identified e ∙ k.is_identified;
        whole = record {
          waiting_unused = tidy_longer waiting_wide g.setup.capacity xs rest long (omega arith) g.waiting (fits xs k) k.whole.waiting_unused;
          flight_unused = k.whole.flight_unused;
        };
      }

  -- and the other way round
  pub part-known : Known g gs (xs ++ rest) fs → Known g gs xs fs
  part-known k =
      let e = shown (fits (xs ++ rest) k) in
      record {
        guest_room = k.guest_room;
        waiting_room = omega (arith, long);
        flight_room = k.flight_room;
        is_sound = ap sound (sym e) ∙ k.is_sound;
        is_identified = ap identified (sym e) ∙ k.is_identified;
        whole = record {
          waiting_unused = tidy_part waiting_wide g.setup.capacity xs rest long (omega arith) g.waiting (fits (xs ++ rest) k) k.whole.waiting_unused;
          flight_unused = k.whole.flight_unused;
        };
      }

  -- the same table is shown
  pub longer_shown : Known g gs xs fs → table_of g gs (xs ++ rest) fs ≡ t
  longer_shown k = shown (fits xs k)

  -- and a table of as many places is written there
  pub longer_written : (u : Table) → u.setup.capacity ≡ g.setup.capacity → written gs (xs ++ rest) fs u ≡ lengthened rest (written gs xs fs u)
  unfolding over_rows
  longer_written u e =
      let q = over_longer waiting_wide u.setup.capacity xs rest (long ∙ ap (λ (n : ℕ). n * waiting_wide) (sym e)) (omega arith) (map request_form.line u.waiting) in
      λ i. ((written gs xs fs u).0, (written gs xs fs u).1, q i, (written gs xs fs u).3)

-- THE FRONT of a lent table, with just the places of its gate

module _ (g : Gate) (gs ws fs : List ℕ) (k : Known g gs ws fs) where
  -- how many numbers these places have
  abbrev size : ℕ
  size = g.setup.capacity * waiting_wide

  -- they are there
  pub front_long : length (take size ws) ≡ size
  front_long = length-take-le size ws k.waiting_room

  -- with the rest behind them they are what was lent
  pub front-whole : take size ws ++ drop size ws ≡ ws
  front-whole = take-append-drop size ws

  -- what was known of all is known of them
  pub front-known : Known g gs (take size ws) fs
  front-known = part-known g gs (take size ws) (drop size ws) fs front_long (subst (λ (xs : List ℕ). Known g gs xs fs) (sym front-whole) k)

  -- and the same table is shown
  pub front-shown : table_of g gs (take size ws) fs ≡ table_of g gs ws fs
  front-shown = sym (ap (λ (xs : List ℕ). table_of g gs xs fs) (sym front-whole) ∙ longer_shown g gs (take size ws) (drop size ws) fs front_long front-known)

  -- what the opening of a window asks of them
  pub open_asks : (g.waiting ≤ most_capacity) × (g.waiting * waiting_wide ≤ size) × ((j : ℕ) → j < g.waiting → owner_of (take size ws) j < most_guests)
  open_asks = let b = build_asks g gs (take size ws) fs front-known in (b.0, omega (arith, b.1, front_long), b.2)

  -- a window has room for them
  pub front_fits : size ≤ most_capacity * waiting_wide
  front_fits = omega (arith, (facts g gs ws fs k).counts.capacities.1)
