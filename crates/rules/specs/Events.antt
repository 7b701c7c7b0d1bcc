-- Document 01, "Arrival at time t", with completion and tick: what an event does before the choice is made.
use Rattle.std.specs.Prelude.{Bool, true, false, [], ◌∷◌, ◌++◌, map, ℕ, ◌+◌, ◌-◌, ◌*◌, min, set, if◌then◌else◌}
use Rattle.lists.specs.Words.{each, lowest, without}
use Rattle.rules.specs.Numbers.{down, tag_at, raised_by}
use Rattle.rules.specs.Tables.{Settings, Guest, Request, Flight, Table, reserved, limited, rplain, lplain, splain, rspacing, lspacing, sspacing, owner, idle, same}
-- the request that an arrival brings: its guest, its id, by document 02, K8, its cost: "An arrival now carries a cost from 1 to 64", and by K14 delta and rho:
-- "The gate's arrival takes both"
pub use Rattle.rules.specs.declared.Arriving.{Arriving}
-- "Events: an arrival (guest, 32-bit id, time), a completion (guest, id, time), a tick (time)."
pub use Rattle.rules.specs.declared.Event.{Event}
pub use Rattle.rules.specs.declared.Event.TheVariants.{Arrival, Completion, Tick}

-- the time of an event
abbrev pub moment : Event → ℕ
moment (Arrival a now) = now
moment (Completion f now) = now
moment (Tick now) = now

-- the name of the request that an arrival brings
abbrev pub called_by : Arriving → Flight
called_by a = record { guest = a.guest; id = a.id }

-- "let m be the smallest share tag waiting"
abbrev pub smallest : Table → ℕ
smallest t = lowest (map Request.stag t.waiting)

-- a request's share tag moves by now − m, up or down; it is at least m, the smallest, so the difference is not cut off at 0
unfoldable pub shifted : (now m : ℕ) → Request → Request
shifted now m q = record { guest = q.guest; id = q.id; rtag = q.rtag; ltag = q.ltag; stag = q.stag + now - m; cost = q.cost }

-- a guest's next share number moves by now − m, up or down
unfoldable pub shifted_next : (now m : ℕ) → Guest → Guest
shifted_next now m h = record { settings = h.settings; rnext = h.rnext; lnext = h.lnext; snext = h.snext + now - m }

-- "If the guest is idle and others have requests waiting .. Every waiting share tag, and the next share number of every guest with
-- something waiting, moves by t − m (up or down)." Where nothing waits, nothing moves.
unfoldable pub adjusted : (idle : Bool) (now : ℕ) → Table → Table
adjusted false now t = t
adjusted true now t =
    record {
      setup = t.setup;
      time = t.time;
      guests = each (λ i h. if idle t i then h else shifted_next now (smallest t) h) 0 t.guests;
      waiting = map (shifted now (smallest t)) t.waiting;
      flight = t.flight;
    }

-- the tag of a kind that the guest has; of a kind that it lacks, 0
abbrev pub tag_if : (has : Bool) (now next : ℕ) → ℕ
tag_if has now next = if has then tag_at now next else 0

-- Document 02, K6: "Let b be t minus c share spacings, or 0 if that is below 0." A difference of these numbers is 0 where it would be below 0
unfoldable pub back : (now : ℕ) → Settings → ℕ
back now s = now - s.credit * down s.shares

-- K6: "A busy guest's share tag is the larger of its next number and b"
abbrev pub busy_tag : (now : ℕ) → Guest → ℕ
busy_tag now h = tag_at (back now h.settings) h.snext

-- the share tag of a request of the guest h. K6: "at an idle guest it is that number too, but not later than t". That credit 0 is the rule of K3,
-- Credit.antt shows
unfoldable pub share_tag : (idle : Bool) (now : ℕ) → Guest → ℕ
share_tag idle now h = if idle then min now (busy_tag now h) else busy_tag now h

-- the request with its tags: "Each tag it has is the larger of the next number and t", but for the share tag. K6: "Reservations and limits do not
-- read the credit."
unfoldable pub stamped : (idle : Bool) (now : ℕ) → Arriving → Guest → Request
stamped idle now a h =
    record {
      guest = a.guest;
      id = a.id;
      rtag = tag_if (reserved h.settings) now h.rnext;
      ltag = tag_if (limited h.settings) now h.lnext;
      stag = share_tag idle now h;
      cost = a.cost;
    }

-- document 02, K8: "A next number becomes tag plus cost times spacing", where q is the last request of the guest h; of a kind that it lacks this is 0
unfoldable pub following : Request → Guest → Guest
following q h =
    record {
      settings = h.settings;
      rnext = q.rtag + rspacing h.settings q;
      lnext = q.ltag + lspacing h.settings q;
      snext = q.stag + sspacing h.settings q;
    }

-- the request q "is placed last among the waiting", its guest gets its new next numbers, and the time is set
unfoldable pub placed : (now : ℕ) → Request → Table → Table
placed now q t =
    record {
      setup = t.setup;
      time = now;
      guests = set t.guests q.guest (following q (owner t.guests q.guest));
      waiting = t.waiting ++ (q ∷ []);
      flight = t.flight;
    }

-- document 02, K14: "limit and share next numbers are first raised by (delta − 1) spacings; the reservation's by (rho − 1) spacings", plain ones, whatever the
-- cost; of a kind that the guest h lacks this is 0
unfoldable pub raised : Arriving → Guest → Guest
raised a h =
    record {
      settings = h.settings;
      rnext = raised_by a.rho (rplain h.settings) h.rnext;
      lnext = raised_by a.delta (lplain h.settings) h.lnext;
      snext = raised_by a.delta (splain h.settings) h.snext;
    }

-- the request that arrives, with the tags that its guest's next numbers in the table t give, raised. "The arriving guest's own next number is not
-- moved": t is the table before the shares are adjusted
abbrev pub stamped_for : (idle : Bool) (now : ℕ) → Arriving → Table → Request
stamped_for idle now a t = stamped idle now a (raised a (owner t.guests a.guest))

-- an arrival at a guest that is idle or not: steps 1 to 4, but for the choice
unfoldable pub arrive_as : (idle : Bool) (now : ℕ) → Arriving → Table → Table
arrive_as idle now a t = placed now (stamped_for idle now a t) (adjusted idle now t)

-- an arrival, up to the choice
unfoldable pub arrive : (now : ℕ) → Arriving → Table → Table
arrive now a t = arrive_as (idle t a.guest) now a t

-- "A completion takes the named request out of flight", and those behind it "close up in the same way"
unfoldable pub complete : (now : ℕ) → Flight → Table → Table
complete now f t = record { setup = t.setup; time = now; guests = t.guests; waiting = t.waiting; flight = without (same f) t.flight }

-- "A tick only sets the time"
unfoldable pub wait : (now : ℕ) → Table → Table
wait now t = record { setup = t.setup; time = now; guests = t.guests; waiting = t.waiting; flight = t.flight }

-- what an event does before the choice is made: the table as the choice finds it
unfoldable pub enter : Table → Event → Table
enter t (Arrival a now) = arrive now a t
enter t (Completion f now) = complete now f t
enter t (Tick now) = wait now t
