-- What an arrival finds and leaves around its placing: the shares settled or not, and whether its name is new. Assumes nothing.
use Rattle.std.specs.Prelude.{Some, None, Option}
use Prim.Native.Nat.{ℕ, ◌+◌, ◌-◌, ◌*◌, ◌≤◌, ◌<◌}
use mathlib.Core.Path.{◌≡◌, refl, sym, ap, ◌∙◌, subst}
use mathlib.Core.Bool.{Bool, true, false, not, ◌&&◌, and_assoc}
use mathlib.Core.List.{List, [], ◌∷◌, map, ◌++◌}
use native.Mathlib.Omega.{arith}
use lib.ListN.{length, get_or}
use borrow.Author.Tests.{le-leb, lt-leb}
use Rattle.lists.specs.Words.{all, lowest}
use Rattle.lists.specs.WordsLaws.{join, left_fails, right_fails}
use Rattle.lists.specs.Rows.{over_rows}
use Rattle.lists.specs.RowsLaws.{over-same, all_used}
use Rattle.rules.specs.Numbers.{ceiling}
use Rattle.rules.specs.Tables.{Request, Table, idle, same, lacks, name, names}
use Rattle.rules.specs.declared.Flight.{Flight}
use Rattle.rules.specs.declared.Arriving.{Arriving}
use Rattle.rules.specs.Events.{called_by, smallest, adjusted}
use Rattle.rules.specs.declared.Event.{Event}
use Rattle.rules.specs.declared.Event.TheVariants.{Arrival}
use Rattle.rules.specs.Refusals.{refuse, verdict}
use Rattle.rules.proofs.Facts.{any_orderly}
use Rattle.rules.specs.declared.Gate.{Gate}
use Rattle.rules.specs.declared.Refusal.TheVariants.{IdInUse, NoRoom}
use Rattle.table.specs.Columns.{guest_wide, waiting_wide, most_guests, most_capacity, GUEST}
use Rattle.table.specs.View.{guest_form, request_form, table_of, Known}
use Rattle.table.specs.ViewLaws.{guest_exact, request_exact}
use Rattle.table.specs.Stamp.{moves_fit}
use Rattle.walks.specs.Survey.{idle_in, highest}
use Rattle.shares.specs.Shares.{TagsMove, NextsMove, moved_tags, moved_nexts}
use Rattle.shares.specs.SharesLaws.{adjusted_is}
use Rattle.shares.specs.MovableLaws.{tags_movable, nexts_movable}
use Rattle.shares.specs.Passing.{lowest-highest, highest-fits}
use Rattle.stamps.specs.Arrive.{Timely, Ready}
use Rattle.table.proofs.Facts.{facts}
use Rattle.walks.specs.Walks.{Finds}
use Rattle.walks.specs.Survey.{own_of}
use Rattle.walks.specs.OwnLaws.{Says, own_says}
use Rattle.walks.specs.declared.survey.Own.{Own}
use Rattle.walks.specs.declared.survey.Own.TheVariants.{Repeated, Waits, Idle}
use Rattle.enter.proofs.Arrivals.{arrival_used, arrival_full}

-- two lists, one behind the other, pass where both do
all_both : {A : Type 0} (p : A → Bool) (a b : List A) → all p (a ++ b) ≡ all p a && all p b
all_both p [] b = refl
all_both p (x ∷ a) b = ap (p x &&◌) (all_both p a b) ∙ sym (and_assoc (p x) (all p a) (all p b))

-- A BUSY GUEST: nothing is settled
module _ (g : Gate) (gs ws fs : List ℕ) (k : Known g gs ws fs) (now : ℕ) where
  pub busy_guests : gs ≡ over_rows guest_form g.guests (adjusted false now (table_of g gs ws fs)).guests gs
  unfolding adjusted
  busy_guests = sym (over-same guest_form guest_exact g.guests g.guests gs (all_used guest_form guest_exact g.guests gs))

  pub busy_waiting : ws ≡ over_rows request_form g.setup.capacity (adjusted false now (table_of g gs ws fs)).waiting ws
  unfolding adjusted
  busy_waiting = sym (over-same request_form request_exact g.setup.capacity g.waiting ws k.whole.waiting_unused)

-- AN IDLE GUEST: the shares are settled
module _ (g : Gate) (gs ws fs : List ℕ) (k : Known g gs ws fs) (now : ℕ) (late : now ≤ ceiling) where
  abbrev t : Table
  t = table_of g gs ws fs

  -- the ends of the share tags stay within 64 bits
  pub ends_fit : (m n : ℕ) → m ≡ lowest (map Request.stag t.waiting) → n ≡ highest (map Request.stag t.waiting) → (n + now < 18446744073709551616) × (m ≤ n + now)
  ends_fit m n em en =
      let a = highest-fits t.waiting (facts g gs ws fs k).firm.tags_fit in
      let b = lowest-highest (map Request.stag t.waiting) in
      (omega arith, omega arith)

  -- the largest tag, moved, against the ceiling
  pub move_past : (m n : ℕ) → m ≡ lowest (map Request.stag t.waiting) → n ≡ highest (map Request.stag t.waiting) → ceiling < n + now - m
      → moves_fit true now (lowest (map Request.stag t.waiting)) (highest (map Request.stag t.waiting)) ≡ false
  move_past m n em en h = lt-leb (highest (map Request.stag t.waiting) + now - lowest (map Request.stag t.waiting)) ceiling (omega arith)

  pub move_within : (m n : ℕ) → m ≡ lowest (map Request.stag t.waiting) → n ≡ highest (map Request.stag t.waiting) → n + now - m ≤ ceiling
      → moves_fit true now (lowest (map Request.stag t.waiting)) (highest (map Request.stag t.waiting)) ≡ true
  move_within m n em en h = le-leb (highest (map Request.stag t.waiting) + now - lowest (map Request.stag t.waiting)) ceiling (omega arith)

  -- what the settling asks
  pub settle_asks : (m : ℕ) → m ≡ smallest t
      → ((g.guests ≤ most_guests) × (g.guests * guest_wide ≤ length gs) × (g.waiting ≤ most_capacity) × (g.waiting * waiting_wide ≤ length ws))
      × (((j : ℕ) → j < g.waiting → get_or ws (j * waiting_wide + GUEST) 0 < g.guests) × (TagsMove now m ws g.waiting × NextsMove now m (idle_in ws g.waiting) gs g.guests))
  settle_asks m em =
      let f = facts g gs ws fs k in
      let fit = f.firm.tags_fit in
      let fair = f.firm.costs_fit in (
        (f.counts.guest-count.1, k.guest_room, omega (arith, f.waits, f.counts.capacities.1), omega (arith, f.waits, k.waiting_room)),
        (
          f.owners,
          (
            subst (λ (x : ℕ). TagsMove now x ws g.waiting) (sym em) (tags_movable gs ws g.guests g.waiting now late fit fair),
            subst (λ (x : ℕ). NextsMove now x (idle_in ws g.waiting) gs g.guests) (sym em) (nexts_movable gs ws g.guests g.waiting now late fit fair (λ n h. any_orderly t f.firm n)),
          ),
        ),
      )

  -- and what it leaves
  pub settled_guests : (m : ℕ) → m ≡ smallest t → (hs : List ℕ) → hs ≡ moved_nexts now m (idle_in ws g.waiting) gs g.guests → hs ≡ over_rows guest_form g.guests (adjusted true now t).guests gs
  settled_guests m em hs p =
      p ∙ ap (λ (x : ℕ). moved_nexts now x (idle_in ws g.waiting) gs g.guests) em
      ∙ (adjusted_is g gs ws fs now k.guest_room k.waiting_room (facts g gs ws fs k).waits k.whole.waiting_unused).0

  pub settled-waiting : (m : ℕ) → m ≡ smallest t → (vs : List ℕ) → vs ≡ moved_tags now m ws g.waiting → vs ≡ over_rows request_form g.setup.capacity (adjusted true now t).waiting ws
  settled-waiting m em vs p =
      p ∙ ap (λ (x : ℕ). moved_tags now x ws g.waiting) em
      ∙ (adjusted_is g gs ws fs now k.guest_room k.waiting_room (facts g gs ws fs k).waits k.whole.waiting_unused).1

-- THE NAME: new where neither the waiting nor those in flight have it
module _ (t : Table) (f : Flight) where
  lacks-names : lacks f (names t) ≡ lacks f (map name t.waiting) && lacks f t.flight
  lacks-names = all_both (λ x. not (same f x)) (map name t.waiting) t.flight

  -- the name is new
  pub names-new : lacks f (map name t.waiting) ≡ true → lacks f t.flight ≡ true → lacks f (names t) ≡ true
  names-new a b = lacks-names ∙ join a b

  -- it waits
  pub waits_used : lacks f (map name t.waiting) ≡ false → lacks f (names t) ≡ false
  waits_used e = lacks-names ∙ left_fails (lacks f t.flight) e

  -- it is in flight
  pub flies_used : lacks f t.flight ≡ false → lacks f (names t) ≡ false
  flies_used e = lacks-names ∙ right_fails (lacks f (map name t.waiting)) e

-- THE REFUSALS of a name in use and of a full table, and what an arrival that is ready knows
module _ (g : Gate) (gs ws fs : List ℕ) (k : Known g gs ws fs) (a : Arriving) (now : ℕ) (timely : Timely g a now) where
  abbrev at : Table
  at = table_of g gs ws fs

  abbrev comes : Event
  comes = Arrival a now

  abbrev f : Flight
  f = called_by a

  pub waits-refused : lacks f (map name at.waiting) ≡ false → verdict at comes ≡ refuse IdInUse
  waits-refused e = arrival_used g gs ws fs k a now timely.known timely.late timely.early timely.cheap timely.many (waits_used at f e)

  module _ (x : Option ℕ) (found : Finds f at.flight x) where
    pub flies-refused : (place : ℕ) → x ≡ Some place → verdict at comes ≡ refuse IdInUse
    flies-refused place e =
        let h : Finds f at.flight (Some place) = subst (Finds f at.flight) e found in
        arrival_used g gs ws fs k a now timely.known timely.late timely.early timely.cheap timely.many (flies_used at f h.1)

    module _ (e : x ≡ None) (absent : lacks f (map name at.waiting) ≡ true) where
      new : lacks f (names at) ≡ true
      new = names-new at f absent (subst (Finds f at.flight) e found)

      pub full-refused : g.waiting ≡ g.setup.capacity → verdict at comes ≡ refuse NoRoom
      full-refused = arrival_full g gs ws fs k a now timely.known timely.late timely.early timely.cheap timely.many new

      pub is_ready : (g.waiting ≡ g.setup.capacity → ⊥) → Ready g gs ws fs a now
      is_ready free = record { timely = timely; new = new; free = free }

  -- what the survey of the guest's own rows says
  module _ (o : Own) (eo : o ≡ own_of f at.waiting) where
    own-told : (y : Own) → o ≡ y → Says y f at.waiting
    own-told y e = subst (λ (y : Own). Says y f at.waiting) (sym eo ∙ e) (own_says f at.waiting)

    pub own_repeated : o ≡ Repeated → lacks f (map name at.waiting) ≡ false
    own_repeated e = own-told Repeated e

    pub own-waits : o ≡ Waits → (lacks f (map name at.waiting) ≡ true) × (idle at a.guest ≡ false)
    unfolding idle
    own-waits e = own-told Waits e

    pub own-idle : o ≡ Idle → (lacks f (map name at.waiting) ≡ true) × (idle at a.guest ≡ true)
    unfolding idle
    own-idle e = own-told Idle e
