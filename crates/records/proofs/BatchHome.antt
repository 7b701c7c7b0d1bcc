-- A batch over numbers on the records in use, brought home, is what a batch over records promises: event by event, however many there are. Assumes nothing.
use Rattle.std.specs.Prelude.{Ok, Some, None, Option}
use Prim.Native.Nat.{ℕ, ◌+◌, ◌-◌, ◌*◌, ◌≤◌, ◌<◌}
use mathlib.Core.Path.{◌≡◌, refl, sym, ap, ◌∙◌, subst}
use mathlib.Core.List.{List, [], ◌∷◌, ◌++◌}
use native.Mathlib.Omega.{arith}
use lib.ListN.{length, get_or, take, drop, replicate, length-replicate, length-append, length-drop}
use lib.Seq.{take_at, drop_at, take-append-le, get_or-take, get_or-drop}
use Rattle.lists.specs.Lines.{lines_of, over}
use Rattle.lists.specs.LinesLaws.{in_line_lem, number_is, is_over}
use Rattle.lists.specs.Rows.{rows_of, over_rows}
use Rattle.lists.specs.RowsLaws.{length-rows, rows-lines}
use Rattle.lists.specs.AlikeLaws.{alike_rows}
use Rattle.rules.specs.Refusals.{Verdict, accept, refuse, judged}
use Rattle.rules.specs.declared.Guest.{Guest}
use Rattle.rules.specs.declared.Gate.{Gate}
use Rattle.table.specs.Columns.{guest_wide, guests_long}
use Rattle.table.specs.View.{guest_form}
use Rattle.table.specs.ViewLaws.{guest_exact}
use Rattle.gate.specs.Promise.{numbers, HandedIn, called_in}
use Rattle.gate.specs.Calls.{Host, holds}
use Rattle.gate.proofs.Lending.{numbers-lawful}
use Rattle.batch.specs.declared.Batched.{Batched}
use Rattle.batch.specs.Rows.{events_in, answers_over}
use Rattle.batch.specs.Promise.{BatchIn, SeenBatchIn, seen_batch_in, host_of, one, held_after, outcomes, batch_tests, batched_by, batched_in}
use Rattle.batch.proofs.Beyond.{SetTo, set_to, one_set, one_beyond}
use Rattle.packs.specs.Records.{in_use}
use Rattle.records.specs.Promise.{records}
use Rattle.records.specs.Batch.{batch_in_part}
use Rattle.records.proofs.Copies.{count, rows, part, left, brought, homed, count_room, length_part, length-brought, kept}
use Rattle.records.proofs.Home.{called-home}
use Rattle.rules.specs.declared.Event.{Event}

-- ROWS

-- what stands behind k rows is no part of them
front : (k : ℕ) (ys ts : List ℕ) → length ys ≡ k * guest_wide → rows_of guest_form (ys ++ ts) k ≡ rows_of guest_form ys k
front k ys ts long = alike_rows guest_form k (ys ++ ts) ys (take-append-le (k * guest_wide) ys ts (omega (arith, long)))

-- the guests of k rows, written over numbers that have room for them, are those rows again
rows-again : (k : ℕ) (ys xs : List ℕ) → length ys ≡ k * guest_wide → k * guest_wide ≤ length xs → take (k * guest_wide) (over_rows guest_form k (rows_of guest_form ys k) xs) ≡ ys
unfolding over_rows
rows-again k ys xs long room =
    ap (λ (ls : List (List ℕ)). take (k * guest_wide) (over guest_wide k ls xs)) (rows-lines guest_form guest_exact ys k)
    ∙ ap (take (k * guest_wide)) (sym whole)
    ∙ take_at ys (drop (k * guest_wide) xs) (k * guest_wide) long
  where
    zs : List ℕ
    zs = ys ++ drop (k * guest_wide) xs

    inside : (i : ℕ) → i < k * guest_wide → get_or zs i 0 ≡ get_or ys i 0
    inside i l = sym (get_or-take (k * guest_wide) zs i 0 l) ∙ ap (λ (l : List ℕ). get_or l i 0) (take_at ys (drop (k * guest_wide) xs) (k * guest_wide) long)

    beyond : (m : ℕ) → get_or zs (k * guest_wide + m) 0 ≡ get_or xs (k * guest_wide + m) 0
    beyond m =
        sym (get_or-drop (k * guest_wide) zs m 0)
        ∙ ap (λ (l : List ℕ). get_or l m 0) (drop_at ys (drop (k * guest_wide) xs) (k * guest_wide) long)
        ∙ get_or-drop (k * guest_wide) xs m 0

    whole : zs ≡ over guest_wide k (lines_of guest_wide ys k) xs
    whole =
        is_over guest_wide k guest_exact.some (lines_of guest_wide ys k) xs zs
        (omega (arith, length-append ys (drop (k * guest_wide) xs), length-drop (k * guest_wide) xs, long, room))
        (λ a j l m. inside (a * guest_wide + j) (in_line_lem guest_wide a k j l m) ∙ sym (number_is guest_wide ys k a j l m))
        (λ i l. let e : i ≡ k * guest_wide + (i - k * guest_wide) = omega (arith, l) in ap (λ (x : ℕ). get_or zs x 0) e ∙ beyond (i - k * guest_wide) ∙ ap (λ (x : ℕ). get_or xs x 0) (sym e))

-- RECORDS THAT CAME HOME become numbers again

module _ (n : ℕ) (rs : List Guest) where
  -- as many numbers as the records in use have
  abbrev Fits : List ℕ → Type 0
  Fits ys = length ys ≡ count n rs * guest_wide

  -- the records that numbers of that part bring home
  abbrev back : List ℕ → List Guest
  back ys = brought n rs (left n rs ys)

  -- as many of them are in use
  count-again : (ys : List ℕ) → count n (back ys) ≡ count n rs
  count-again ys = ap (in_use n) (length-brought n rs (left n rs ys))

  -- they become the same numbers
  part-again : (ys : List ℕ) → Fits ys → part n (back ys) ≡ ys
  part-again ys fits =
      ap (λ (k : ℕ). take (k * guest_wide) (over_rows guest_form k (take k (back ys)) (replicate guests_long 0))) (count-again ys)
      ∙ ap (λ (l : List Guest). take (count n rs * guest_wide) (over_rows guest_form (count n rs) l (replicate guests_long 0)))
      (take_at (rows_of guest_form (left n rs ys) (count n rs)) (drop (count n rs) rs) (count n rs) (length-rows guest_form (left n rs ys) (count n rs))
      ∙ front (count n rs) ys (drop (count n rs * guest_wide) (rows n rs)) fits)
      ∙ rows-again (count n rs) ys (replicate guests_long 0) fits (omega (arith, count_room n rs, length-replicate {A = ℕ} guests_long 0))

  -- and bring the same records home
  back-again : (ys zs : List ℕ) → Fits zs → brought n (back ys) (left n (back ys) zs) ≡ back zs
  back-again ys zs fits =
      let old = rows_of guest_form (left n rs ys) (count n rs) in
      ap (λ (k : ℕ). rows_of guest_form (left n (back ys) zs) k ++ drop k (back ys)) (count-again ys)
      ∙ (λ i. front (count n rs) zs (drop (count n (back ys) * guest_wide) (rows n (back ys))) fits i ++ drop_at old (drop (count n rs) rs) (count n rs) (length-rows guest_form (left n rs ys) (count n rs)) i)
      ∙ ap (λ (l : List Guest). l ++ drop (count n rs) rs) (sym (front (count n rs) zs (drop (count n rs * guest_wide) (rows n rs)) fits))

  -- EVENTS

  -- what a host of numbers holds, its records at home
  abbrev home : Host numbers → Host records
  home h = host_of records h.gate (back h.guests) h.waiting h.flight

  module _ (c d : ℕ) where
    one-fits : (r : Option Event) (h : Host numbers) → SetTo n c d h.gate → Fits h.guests → Fits (one numbers r h).1
    one-fits r h s fits = (one_beyond numbers numbers-lawful n c d r h s).guest-length ∙ fits

    -- an event over numbers, brought home
    one-home : (r : Option Event) (h : Host numbers) → SetTo n c d h.gate → Fits h.guests → homed n rs (one numbers r h) ≡ one records r (home h)
    one-home (Some e) h s fits =
        let x = called_in numbers e h.gate h.guests h.waiting h.flight in
        (λ i. (x.0, sym (back-again h.guests x.1 (one-fits (Some e) h s fits)) i, x.2, x.3))
        ∙ ap (λ (ys : List ℕ). homed n (back h.guests) (called_in numbers e h.gate ys h.waiting h.flight)) (sym (part-again h.guests fits))
        ∙ subst (λ (m : ℕ). homed m (back h.guests) (called_in numbers e h.gate (part m (back h.guests)) h.waiting h.flight) ≡ called_in records e h.gate (back h.guests) h.waiting h.flight)
        s.guests (called-home h.gate (back h.guests) h.waiting h.flight e)
    one-home None h s fits = refl

    -- any number of them: what they leave, and what they come to
    held-home : (es : List (Option Event)) (h : Host numbers) → SetTo n c d h.gate → Fits h.guests
        → (home (held_after numbers h es) ≡ held_after records (home h) es) × (outcomes numbers h es ≡ outcomes records (home h) es)
    unfolding held_after outcomes
    held-home [] h s fits = (refl, refl)
    held-home (r ∷ es) h s fits =
        let p = one-home r h s fits in
        let rest = held-home es (holds numbers (one numbers r h)) (one_set numbers numbers-lawful n c d r h s) (one-fits r h s fits) in (
          rest.0 ∙ ap (λ (x : HandedIn records). held_after records (holds records x) es) p,
          ap ((one numbers r h).0 ∷◌) rest.1 ∙ ap (λ (x : HandedIn records). x.0 ∷ outcomes records (holds records x) es) p,
        )

-- A BATCH

-- what a batch over records hands back, from what the batch over numbers does
abbrev homed_batch : (n : ℕ) → List Guest → BatchIn numbers → BatchIn records
homed_batch n rs b = (b.0, brought n rs (left n rs b.1), b.2, b.3, b.4)

module _ (g : Gate) (rs : List Guest) (ws fs bs : List ℕ) (es : List ℕ) where
  abbrev n : ℕ
  n = g.guests

  abbrev h : Host numbers
  h = host_of numbers g (part n rs) ws fs

  -- a batch over numbers, brought home
  pub batched-home : homed_batch n rs (batched_in numbers es g (part n rs) ws fs bs) ≡ batched_in records es g rs ws fs bs
  unfolding batched_in
  batched-home = go (judged (batch_tests es bs))
    where
      go : (w : Verdict) → homed_batch n rs (batched_by numbers w es h bs) ≡ batched_by records w es (host_of records g rs ws fs) bs
      go accept =
          let p = held-home n rs g.setup.capacity g.setup.depth (events_in es) h (set_to g) (length_part n rs) in
          (λ i. (record { gate = (p.0 i).gate; found = Ok tt }, (p.0 i).guests, (p.0 i).waiting, (p.0 i).flight, answers_over (p.1 i) bs))
          ∙ ap (λ (l : List Guest). batched_by records accept es (host_of records g l ws fs) bs) (kept n rs)
      go (refuse r) = ap (λ (l : List Guest). batched_by records (refuse r) es (host_of records g l ws fs) bs) (kept n rs)

-- THE PROMISE

-- what `part` ensures of a batch over numbers, once the records have come home, is what a caller of the batch over records sees
pub batch-at-home : (n : ℕ) (rs : List Guest) (does : List ℕ → BatchIn numbers) (p : BatchIn records) → homed_batch n rs (does (part n rs)) ≡ p
    → (r : Batched) (zs ws fs bs : List ℕ) → seen_batch_in numbers (r, zs, ws, fs, bs) ≡ seen_batch_in numbers (batch_in_part (count n rs) (rows n rs) does) → seen_batch_in records (r, brought n rs zs, ws, fs, bs) ≡ seen_batch_in records p
batch-at-home n rs does p home r zs ws fs bs e = ap (λ (s : SeenBatchIn numbers). (s.0, s.1, brought n rs s.2, s.3, s.4, s.5)) e ∙ ap (seen_batch_in records) home

-- so where k records were unpacked, and are packed again from the numbers that the batch left
pub batch_comes_home : (n : ℕ) (rs : List Guest) (does : List ℕ → BatchIn numbers) (p : BatchIn records) → homed_batch n rs (does (part n rs)) ≡ p
    → (r : Batched) (k : ℕ) (xs zs ws fs bs : List ℕ) (hs : List Guest) → k ≡ count n rs → xs ≡ over_rows guest_form k (take k rs) (replicate guests_long 0)
    → hs ≡ rows_of guest_form zs k ++ drop k rs → seen_batch_in numbers (r, zs, ws, fs, bs) ≡ seen_batch_in numbers (batch_in_part k xs does)
    → seen_batch_in records (r, hs, ws, fs, bs) ≡ seen_batch_in records p
batch_comes_home n rs does p home r k xs zs ws fs bs hs used unpacked packed e =
    ap (λ (l : List Guest). seen_batch_in records (r, l, ws, fs, bs)) (packed ∙ ap (λ (m : ℕ). rows_of guest_form zs m ++ drop m rs) used)
    ∙ batch-at-home n rs does p home r zs ws fs bs
    (e ∙ ap (λ (m : ℕ). seen_batch_in numbers (batch_in_part m xs does)) used
    ∙ ap (λ (l : List ℕ). seen_batch_in numbers (batch_in_part (count n rs) l does)) (unpacked ∙ ap (λ (m : ℕ). over_rows guest_form m (take m rs) (replicate guests_long 0)) used))

-- a batch on the rows in use, seen with the rest of the rows behind them
pub batch_with_rest : (a b : BatchIn numbers) (rest : List ℕ) → seen_batch_in numbers a ≡ seen_batch_in numbers b
    → seen_batch_in numbers (a.0, a.1 ++ rest, a.2, a.3, a.4) ≡ seen_batch_in numbers (b.0, b.1 ++ rest, b.2, b.3, b.4)
batch_with_rest a b rest e = ap (λ (s : SeenBatchIn numbers). (s.0, s.1, s.2 ++ rest, s.3, s.4, s.5)) e
