-- The test of lent numbers says just what the plain facts do: "A table is sound when", place by place. Assumes nothing.
use Prim.Native.Nat.{ℕ, zero, suc, ◌+◌, ◌-◌, ◌*◌, ◌/◌, ◌%◌, ◌≤◌, ◌<◌}
use mathlib.Core.Path.{◌≡◌, refl, sym, ap, subst, ◌∙◌}
use mathlib.Core.Bool.{Bool, true, false, not, ◌&&◌, false≢true}
use mathlib.Core.List.Memᴰ
use mathlib.Core.List.{List, [], ◌∷◌, map, Memᴰ}
use mathlib.Core.Logic.{◌↔◌, ⊎_elim}
use native.Mathlib.Omega.{arith}
use native.Mathlib.Nat.{mul-le-mul_right, mod-lt, div-add-mod', div-lt_iff_lt-mul, le-div_iff_mul-le}
use lib.Dec.{ltb, eqb}
use lib.ListN.{length, get_or, take, drop, length-append, length-map, length-take, length-drop, get_or-append, get_or-map, get_or-eq_default}
use lib.Seq.{split_at, get_or-append-add, get_or-append_seam, get_or-drop}
use borrow.Author.Tests.{ltb-true, lt-ltb, eqb-true, eq-eqb}
use Rattle.lists.specs.WordsLaws.{both, join, all-at, places_all}
use Rattle.lists.specs.Tab.{lt_or_le}
use Rattle.lists.specs.Parts.{part_at}
use Rattle.lists.specs.LinesLaws.{in_line_lem}
use Rattle.lists.specs.RowsLaws.{length-rows, row-at}
use Rattle.rules.specs.Numbers.{ceiling}
use Rattle.rules.specs.Tables.{Request, Table, reserved, limited, rspacing, lspacing, sspacing, nobodys, owner, mine, name, names}
use Rattle.rules.specs.declared.Settings.{Settings}
use Rattle.rules.specs.declared.Guest.{Guest}
use Rattle.rules.specs.declared.Flight.{Flight}
use Rattle.rules.specs.Sound.{sound, no_gap}
use Rattle.rules.specs.Refused.{Good, Fair}
use Rattle.rules.specs.Chosen.{blank, at}
use Rattle.rules.specs.declared.Gate.{Gate}
use Rattle.rules.proofs.Soundness.{Kept, Once, SoundTable, sound_exactly}
use Rattle.table.specs.View.{guest_form, request_form, flight_form, table_of, nameless, identified, zeroed, sound_numbers}
use Rattle.sound.specs.SoundNumbers.{guest_row, waiting_row, flight_row, KeptAt, SoundNumbers}
use Rattle.sound.proofs.Mine.{kept_places, kept-rows}

-- ENTRIES AND PLACES

-- what stands at a place is an entry
place_mem : {A : Type 0} (l : List A) (i : ℕ) (d : A) → i < length l → Memᴰ (get_or l i d) l
place_mem [] i d h = absurd (omega arith)
place_mem (x ∷ l) zero d h = Memᴰ.head refl
place_mem (x ∷ l) (suc i) d h = Memᴰ.tail (place_mem l i d (omega arith))

-- and every entry stands at a place
mem_place : {A : Type 0} (x : A) (l : List A) (d : A) → Memᴰ x l → (i : ℕ) × (i < length l) × (get_or l i d ≡ x)
mem_place x l d (Memᴰ.head {x = y} {xs = ys} e) = (0, omega arith, sym e)
mem_place x l d (Memᴰ.tail {x = y} {xs = ys} m) = let (i, h, e) = mem_place x ys d m in (suc i, omega arith, e)

-- no entry stands twice, by places
once_places : (l : List Flight) (d : Flight) → Once l → (i j : ℕ) → i < j → j < length l → get_or l i d ≡ get_or l j d → ⊥
once_places l d o i j h k e =
    let z : suc i + (j - suc i) ≡ j = omega arith in
    o (take i l) (drop (suc i) l) (get_or l i d) (split_at l i d (omega arith))
    (Memᴰ.cast (e ∙ ap (λ (n : ℕ). get_or l n d) (sym z) ∙ sym (get_or-drop (suc i) l (j - suc i) d))
    (place_mem (drop (suc i) l) (j - suc i) d (omega (arith, length-drop (suc i) l))))

places_once : (l : List Flight) (d : Flight) → ((i j : ℕ) → i < j → j < length l → get_or l i d ≡ get_or l j d → ⊥) → Once l
places_once l d h a b f e m =
    let (j, k, z) = mem_place f b d m in
    let first : get_or l (length a) d ≡ f = ap (λ (l : List Flight). get_or l (length a) d) e ∙ get_or-append_seam a f b d in
    let again : get_or l (length a + suc j) d ≡ f = ap (λ (l : List Flight). get_or l (length a + suc j) d) e ∙ get_or-append-add a (f ∷ b) (suc j) d ∙ z in
    h (length a) (length a + suc j) (omega arith) (omega (arith, ap length e, length-append a (f ∷ b))) (first ∙ sym again)

-- UNUSED PLACES

module _ (s cap n : ℕ) (xs : List ℕ) where
  -- the numbers past row n
  abbrev rest : List ℕ
  rest = take (cap * s - n * s) (drop (n * s) xs)

  zeroed_places : zeroed s cap n xs ≡ true → (i : ℕ) → n ≤ i → i < cap → (c : ℕ) → c < s → get_or xs (i * s + c) 0 ≡ 0
  zeroed_places h i l m c k = ⊎_elim within past (lt_or_le (i * s + c - n * s) (length rest))
    where
      low : n * s ≤ i * s
      low = mul-le-mul_right s l

      high : i * s + c < cap * s
      high = in_line_lem s i cap c m k

      within : i * s + c - n * s < length rest → get_or xs (i * s + c) 0 ≡ 0
      within b =
          let e : n * s + (i * s + c - n * s) ≡ i * s + c = omega (arith, low) in
          ap (λ (j : ℕ). get_or xs j 0) (sym e)
          ∙ sym (part_at (n * s) (cap * s) (i * s + c - n * s) xs (omega (arith, low, high)))
          ∙ eqb-true (get_or rest (i * s + c - n * s) 0) 0 (all-at (λ x. eqb x 0) rest 0 h (i * s + c - n * s) b)

      past : length rest ≤ i * s + c - n * s → get_or xs (i * s + c) 0 ≡ 0
      past b =
          get_or-eq_default xs 0
          (omega (arith, low, high, length-take (cap * s - n * s) (drop (n * s) xs), length-drop (n * s) xs))

  places_zeroed : 0 < s → ((i : ℕ) → n ≤ i → i < cap → (c : ℕ) → c < s → get_or xs (i * s + c) 0 ≡ 0) → zeroed s cap n xs ≡ true
  places_zeroed some h =
      places_all (λ x. eqb x 0) rest 0
      (λ i k.
      let l : i < cap * s - n * s = omega (arith, length-take (cap * s - n * s) (drop (n * s) xs)) in
      let m : ℕ = n * s + i in
      let low : n ≤ m / s = (le-div_iff_mul-le {k = s} {x = n} {y = m} some).1 (omega arith) in
      let high : m / s < cap = (div-lt_iff_lt-mul {k = s} {x = m} {y = cap} some).1 (omega arith) in
      eq-eqb (get_or rest i 0) 0
      (part_at (n * s) (cap * s) i xs l ∙ ap (λ (j : ℕ). get_or xs j 0) (sym (div-add-mod' m s)) ∙ h (m / s) low high (m % s) (mod-lt m some)))

-- THE NUMBERS

module _ (g : Gate) (gs ws fs : List ℕ) where
  abbrev t : Table
  t = table_of g gs ws fs

  -- as many entries as the gate says
  many : length t.guests ≡ g.guests
  many = length-rows guest_form gs g.guests

  long : length t.waiting ≡ g.waiting
  long = length-rows request_form ws g.waiting

  far : length t.flight ≡ g.flight
  far = length-rows flight_form fs g.flight

  -- each is read from its row
  guest_is : (h : ℕ) → h < g.guests → owner t.guests h ≡ guest_row gs h
  guest_is h k = row-at guest_form gs g.guests h k

  waiting_is : (i : ℕ) → i < g.waiting → at t.waiting i ≡ waiting_row ws i
  waiting_is i k = row-at request_form ws g.waiting i k

  flight_is : (i : ℕ) → i < g.flight → get_or t.flight i nameless ≡ flight_row fs i
  flight_is i k = row-at flight_form fs g.flight i k

  -- the names of those that wait, then of those in flight
  count : length (names t) ≡ g.waiting + g.flight
  count = omega (arith, length-append (map name t.waiting) t.flight, length-map t.waiting name, long, far)

  name-waiting : (i : ℕ) → i < g.waiting → get_or (names t) i nameless ≡ name (waiting_row ws i)
  name-waiting i k =
      get_or-append (map name t.waiting) t.flight nameless i (omega (arith, length-map t.waiting name, long))
      ∙ get_or-map name t.waiting i blank
      ∙ ap name (waiting_is i k)

  name_flight : (i : ℕ) → i < g.flight → get_or (names t) (g.waiting + i) nameless ≡ flight_row fs i
  name_flight i k =
      let e : g.waiting ≡ length (map name t.waiting) = omega (arith, length-map t.waiting name, long) in
      ap (λ (n : ℕ). get_or (names t) (n + i) nameless) e
      ∙ get_or-append-add (map name t.waiting) t.flight i nameless
      ∙ flight_is i k

  -- what holds of every name holds of every row, and the other way round
  of-names : (P : Flight → Type 0) → ((f : Flight) → Memᴰ f (names t) → P f)
      → ((i : ℕ) → i < g.waiting → P (name (waiting_row ws i))) × ((i : ℕ) → i < g.flight → P (flight_row fs i))
  of-names P h = (
    λ i k. subst P (name-waiting i k) (h (get_or (names t) i nameless) (place_mem (names t) i nameless (omega (arith, count)))),
    λ i k. subst P (name_flight i k) (h (get_or (names t) (g.waiting + i) nameless) (place_mem (names t) (g.waiting + i) nameless (omega (arith, count)))),
  )

  to-names : (P : Flight → Type 0) → ((i : ℕ) → i < g.waiting → P (name (waiting_row ws i))) → ((i : ℕ) → i < g.flight → P (flight_row fs i))
      → (i : ℕ) → i < length (names t) → P (get_or (names t) i nameless)
  to-names P p q i h =
      ⊎_elim (λ k. subst P (sym (name-waiting i k)) (p i k))
      (λ k.
      let e : g.waiting + (i - g.waiting) ≡ i = omega arith in
      let l : i - g.waiting < g.flight = omega (arith, count) in
      subst P (sym (name_flight (i - g.waiting) l) ∙ ap (λ (n : ℕ). get_or (names t) n nameless) e) (q (i - g.waiting) l))
      (lt_or_le i g.waiting)

  -- one kind of tag of guest h
  module _ (has : Settings → Bool) (tag : Request → ℕ) (gap spacing : Settings → Request → ℕ) (next : Guest → ℕ) (h : ℕ) (known : h < g.guests) where
    to-rows : Kept (has (owner t.guests h).settings) tag (gap (owner t.guests h).settings) (spacing (owner t.guests h).settings) (mine h t.waiting) (next (owner t.guests h))
        → KeptAt (has (guest_row gs h).settings) tag (gap (guest_row gs h).settings) (spacing (guest_row gs h).settings) (waiting_row ws) g.waiting h (next (guest_row gs h))
    to-rows k =
        let x = (kept_places (has (owner t.guests h).settings) tag (gap (owner t.guests h).settings) (spacing (owner t.guests h).settings) t.waiting h (next (owner t.guests h))).0 k in
        kept-rows (has (guest_row gs h).settings) tag (gap (guest_row gs h).settings) (spacing (guest_row gs h).settings) (at t.waiting) (waiting_row ws) g.waiting h (next (guest_row gs h)) waiting_is
        (subst (λ (m : ℕ). KeptAt (has (guest_row gs h).settings) tag (gap (guest_row gs h).settings) (spacing (guest_row gs h).settings) (at t.waiting) m h (next (guest_row gs h))) long
        (subst (λ (y : Guest). KeptAt (has y.settings) tag (gap y.settings) (spacing y.settings) (at t.waiting) (length t.waiting) h (next y)) (guest_is h known) x))

    of-rows : KeptAt (has (guest_row gs h).settings) tag (gap (guest_row gs h).settings) (spacing (guest_row gs h).settings) (waiting_row ws) g.waiting h (next (guest_row gs h))
        → Kept (has (owner t.guests h).settings) tag (gap (owner t.guests h).settings) (spacing (owner t.guests h).settings) (mine h t.waiting) (next (owner t.guests h))
    of-rows k =
        let x = kept-rows (has (guest_row gs h).settings) tag (gap (guest_row gs h).settings) (spacing (guest_row gs h).settings) (waiting_row ws) (at t.waiting) g.waiting h (next (guest_row gs h)) (λ i l. sym (waiting_is i l)) k in
        (kept_places (has (owner t.guests h).settings) tag (gap (owner t.guests h).settings) (spacing (owner t.guests h).settings) t.waiting h (next (owner t.guests h))).1
        (subst (λ (y : Guest). KeptAt (has y.settings) tag (gap y.settings) (spacing y.settings) (at t.waiting) (length t.waiting) h (next y)) (sym (guest_is h known))
        (subst (λ (m : ℕ). KeptAt (has (guest_row gs h).settings) tag (gap (guest_row gs h).settings) (spacing (guest_row gs h).settings) (at t.waiting) m h (next (guest_row gs h))) (sym long) x))

  to : SoundTable t → identified t ≡ true → zeroed request_form.wide g.setup.capacity g.waiting ws ≡ true → zeroed flight_form.wide g.setup.depth g.flight fs ≡ true
      → SoundNumbers g gs ws fs
  to s wide zw zf =
      let exist = of-names (λ f. f.guest < length t.guests) s.guests_exist in
      let once = once_places (names t) nameless s.ids_once in
      let ids : (i : ℕ) → i < length (names t) → (get_or (names t) i nameless).id < 4294967296 =
      λ i k. ltb-true (get_or (names t) i nameless).id 4294967296 (all-at (λ f. ltb f.id 4294967296) (names t) nameless wide i k)
      in
      record {
        counts_in_range = rw many at s.counts_in_range;
        rule_known = s.rule_known;
        settings_in_range = λ h k.
            subst (λ (x : Guest). Good x.settings) (guest_is h k)
            (s.settings_in_range (owner t.guests h).settings (Memᴰ.map Guest.settings (place_mem t.guests h nobodys (omega (arith, many)))));
        waiting-fits = omega (arith, s.waiting-fits, long);
        flight_fits = omega (arith, s.flight_fits, far);
        time_fits = s.time_fits;
        waiting_guests = λ i k. omega (arith, exist.0 i k, many);
        flight_guests = λ i k. omega (arith, exist.1 i k, many);
        once_waiting = λ i j l k e. once i j l (omega (arith, count)) (name-waiting i (omega arith) ∙ e ∙ sym (name-waiting j k));
        once_in_flight = λ i j l k e.
            once (g.waiting + i) (g.waiting + j) (omega arith) (omega (arith, count)) (name_flight i (omega arith) ∙ e ∙ sym (name_flight j k));
        once_in_both = λ i j l k e. once i (g.waiting + j) (omega arith) (omega (arith, count)) (name-waiting i l ∙ e ∙ sym (name_flight j k));
        tags_fit = λ i k.
            subst (λ (q : Request). (q.rtag ≤ ceiling) × (q.ltag ≤ ceiling) × (q.stag ≤ ceiling)) (waiting_is i k)
            (s.tags_fit (at t.waiting i) (place_mem t.waiting i blank (omega (arith, long))));
        costs_fit = λ i k.
            subst (λ (q : Request). Fair q.cost) (waiting_is i k) (s.costs_fit (at t.waiting i) (place_mem t.waiting i blank (omega (arith, long))));
        reservations = λ h k. to-rows reserved Request.rtag (λ x. no_gap) rspacing Guest.rnext h k (s.reservations h (omega (arith, many)));
        limits = λ h k. to-rows limited Request.ltag lspacing lspacing Guest.lnext h k (s.limits h (omega (arith, many)));
        shares = λ h k. to-rows (λ x. true) Request.stag sspacing sspacing Guest.snext h k (s.shares h (omega (arith, many)));
        waiting-zeros = λ i l. zeroed_places request_form.wide g.setup.capacity g.waiting ws zw i (omega arith);
        flight_zeros = λ i l. zeroed_places flight_form.wide g.setup.depth g.flight fs zf i (omega arith);
        waiting_ids = λ i k. omega (arith, ids i (omega (arith, count)), ap Flight.id (name-waiting i k));
        flight_ids = λ i k. omega (arith, ids (g.waiting + i) (omega (arith, count)), ap Flight.id (name_flight i k));
      }

  back : SoundNumbers g gs ws fs → SoundTable t
  back s =
      record {
        counts_in_range = rw many s.counts_in_range;
        rule_known = s.rule_known;
        settings_in_range = settings;
        waiting-fits = omega (arith, s.waiting-fits, long);
        flight_fits = omega (arith, s.flight_fits, far);
        time_fits = s.time_fits;
        guests_exist = λ f m.
            let (i, k, e) = mem_place f (names t) nameless m in
            subst (λ (x : Flight). x.guest < length t.guests) e
            (to-names (λ x. x.guest < length t.guests) (λ i k. omega (arith, s.waiting_guests i k, many)) (λ i k. omega (arith, s.flight_guests i k, many)) i k);
        ids_once = places_once (names t) nameless once;
        tags_fit = λ q m.
            let (i, k, e) = mem_place q t.waiting blank m in
            let l : i < g.waiting = omega (arith, long) in
            subst (λ (q : Request). (q.rtag ≤ ceiling) × (q.ltag ≤ ceiling) × (q.stag ≤ ceiling)) (sym (waiting_is i l) ∙ e) (s.tags_fit i l);
        costs_fit = λ q m.
            let (i, k, e) = mem_place q t.waiting blank m in
            let l : i < g.waiting = omega (arith, long) in
            subst (λ (q : Request). Fair q.cost) (sym (waiting_is i l) ∙ e) (s.costs_fit i l);
        reservations = λ h k. let l : h < g.guests = omega (arith, many) in of-rows reserved Request.rtag (λ x. no_gap) rspacing Guest.rnext h l (s.reservations h l);
        limits = λ h k. let l : h < g.guests = omega (arith, many) in of-rows limited Request.ltag lspacing lspacing Guest.lnext h l (s.limits h l);
        shares = λ h k. let l : h < g.guests = omega (arith, many) in of-rows (λ x. true) Request.stag sspacing sspacing Guest.snext h l (s.shares h l);
      }
    where
      settings : (x : Settings) → Memᴰ x (map Guest.settings t.guests) → Good x
      settings x m =
          let (h, n, z) = Memᴰ.of_map Guest.settings t.guests m in
          let (i, k, e) = mem_place h t.guests nobodys n in
          let l : i < g.guests = omega (arith, many) in
          subst Good (ap Guest.settings (sym (guest_is i l) ∙ e) ∙ z) (s.settings_in_range i l)

      once : (i j : ℕ) → i < j → j < length (names t) → get_or (names t) i nameless ≡ get_or (names t) j nameless → ⊥
      once i j l k e = ⊎_elim waits flies (lt_or_le j g.waiting)
        where
          waits : j < g.waiting → ⊥
          waits b = s.once_waiting i j l b (sym (name-waiting i (omega arith)) ∙ e ∙ name-waiting j b)

          flown : (n : ℕ) → g.waiting ≤ n → n < length (names t) → get_or (names t) n nameless ≡ flight_row fs (n - g.waiting)
          flown n b c =
              let z : g.waiting + (n - g.waiting) ≡ n = omega arith in
              ap (λ (m : ℕ). get_or (names t) m nameless) (sym z) ∙ name_flight (n - g.waiting) (omega (arith, count))

          flies : g.waiting ≤ j → ⊥
          flies b =
              ⊎_elim
              (λ a. s.once_in_both i (j - g.waiting) a (omega (arith, count)) (sym (name-waiting i a) ∙ e ∙ flown j b k))
              (λ a. s.once_in_flight (i - g.waiting) (j - g.waiting) (omega arith) (omega (arith, count)) (sym (flown i a (omega arith)) ∙ e ∙ flown j b k))
              (lt_or_le i g.waiting)

  -- The test of lent numbers holds exactly where all these facts do.
  pub sound-numbers_exactly : (sound_numbers g gs ws fs ≡ true) ↔ SoundNumbers g gs ws fs
  unfolding sound_numbers
  sound-numbers_exactly = (
    forth,
    λ s. join (join (join ((sound_exactly t).1 (back s)) (wide s)) (places_zeroed request_form.wide g.setup.capacity g.waiting ws (omega arith) (λ i l. s.waiting-zeros i (omega arith))))
        (places_zeroed flight_form.wide g.setup.depth g.flight fs (omega arith) (λ i l. s.flight_zeros i (omega arith))),
  )
    where
      wide : SoundNumbers g gs ws fs → identified t ≡ true
      wide s =
          places_all (λ f. ltb f.id 4294967296) (names t) nameless
          (to-names (λ f. ltb f.id 4294967296 ≡ true) (λ i k. lt-ltb (waiting_row ws i).id 4294967296 (s.waiting_ids i k))
          (λ i k. lt-ltb (flight_row fs i).id 4294967296 (s.flight_ids i k)))

      forth : sound t && identified t && zeroed request_form.wide g.setup.capacity g.waiting ws && zeroed flight_form.wide g.setup.depth g.flight fs ≡ true → SoundNumbers g gs ws fs
      forth h =
          let h4 = both (sound t && identified t && zeroed request_form.wide g.setup.capacity g.waiting ws) (zeroed flight_form.wide g.setup.depth g.flight fs) h in
          let h3 = both (sound t && identified t) (zeroed request_form.wide g.setup.capacity g.waiting ws) h4.0 in
          let h2 = both (sound t) (identified t) h3.0 in
          to ((sound_exactly t).0 h2.0) h2.1 h3.1 h4.1

  -- So refusal 3 is given, of lent tables that suffice, exactly where one of them fails.
  pub unsound_exactly : (not (sound_numbers g gs ws fs) ≡ true) ↔ (SoundNumbers g gs ws fs → ⊥)
  unsound_exactly = (λ e s. false≢true (rw (sound-numbers_exactly.1 s) at e), λ n. go n (sound_numbers g gs ws fs) refl)
    where
      go : (SoundNumbers g gs ws fs → ⊥) → (b : Bool) → sound_numbers g gs ws fs ≡ b → not b ≡ true
      go n true e = absurd (n (sound-numbers_exactly.0 e))
      go n false e = refl
