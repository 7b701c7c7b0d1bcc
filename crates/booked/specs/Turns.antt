-- What the functions of src/lib.rt ask and do: the numbers once an event that entered is noted and counted, and once what was sent is struck and
-- counted. In all of it h is the gate, and vs the waiting table, as the choice finds them.
use Rattle.std.specs.Prelude.{ℕ, ◌+◌, ◌-◌, ◌*◌, ◌^◌, ◌≤◌, ◌<◌, ◌≡◌, Bool, List, ltb, length}
use Rattle.rules.specs.declared.Gate.{Gate}
use Rattle.rules.specs.declared.Event.{Event}
use Rattle.rules.specs.declared.Event.TheVariants.{Arrival, Completion, Tick}
use Rattle.rules.specs.declared.Answer.{Answer}
use Rattle.rules.specs.declared.Answer.TheVariants.{Nothing, Sent, Refused}
use Rattle.table.specs.Columns.{most_guests, most_capacity, GUEST, ID, LTAG, waiting_wide, waiting_at}
use Rattle.book.specs.Page.{named}
use Rattle.tally.specs.Columns.{SINCE, LIMITED, note_wide, ARRIVALS, COMPLETIONS, RESERVED, UPPER, figures_wide, note_at, figure_at}
use Rattle.tally.specs.Kept.{Matches}
use Rattle.tally.specs.Notes.{note_line, noted_at, found_in, struck_at, one_more, sent_for}

-- AN EVENT THAT ENTERED

-- the note of an arrival's request, which stands last among the waiting
abbrev pub last_note : (guest id now : ℕ) → Gate → List ℕ → List ℕ
last_note guest id now h vs = note_line guest id now (waiting_at vs (h.waiting - 1) LTAG)

-- the book once the event is noted
abbrev pub noted_in : Event → Gate → (vs bk : List ℕ) → List ℕ
noted_in (Arrival a now) h vs bk = noted_at (h.waiting - 1) (last_note a.guest a.id now h vs) bk
noted_in (Completion f now) h vs bk = bk
noted_in (Tick now) h vs bk = bk

-- the figures once the event is counted
abbrev pub counted_in : Event → List ℕ → List ℕ
counted_in (Arrival a now) fg = one_more a.guest ARRIVALS fg
counted_in (Completion f now) fg = one_more f.guest COMPLETIONS fg
counted_in (Tick now) fg = fg

-- one more fits into number j of guest g
abbrev pub Fits : (g j : ℕ) → List ℕ → Type 0
Fits g j fg = (g < most_guests) × (g * figures_wide + figures_wide ≤ length fg) × (figure_at fg g j + 1 < 2 ^ 64)

-- the event can be noted and counted
abbrev pub Notable : Event → Gate → (vs bk fg : List ℕ) → Type 0
Notable (Arrival a now) h vs bk fg = (0 < h.waiting) × (h.waiting ≤ most_capacity) × (h.waiting * waiting_wide ≤ length vs) × (h.waiting * note_wide ≤ length bk) × Fits a.guest ARRIVALS fg
Notable (Completion f now) h vs bk fg = Fits f.guest COMPLETIONS fg
Notable (Tick now) h vs bk fg = Unit {0}

-- WHAT WAS SENT

-- where its note stands
abbrev pub gone_from : (g i : ℕ) → Gate → List ℕ → ℕ
gone_from g i h bk = found_in (named g i) bk h.waiting

-- the limit tag of the note at this place lies ahead of the time
abbrev pub ahead_in : Gate → List ℕ → (place : ℕ) → Bool
ahead_in h bk place = ltb h.time (note_at bk place LIMITED)

-- how long the request of the note at this place waited
abbrev pub wait_in : Gate → List ℕ → (place : ℕ) → ℕ
wait_in h bk place = h.time - note_at bk place SINCE

-- the book once what was sent is struck
abbrev pub struck_in : Answer → Gate → List ℕ → List ℕ
struck_in Nothing h bk = bk
struck_in (Sent phase g i) h bk = struck_at (gone_from g i h bk) h.waiting bk
struck_in (Refused r) h bk = bk

-- the figures once it is counted
abbrev pub sent_in : Answer → Gate → (bk fg : List ℕ) → List ℕ
sent_in Nothing h bk fg = fg
sent_in (Sent phase g i) h bk fg = sent_for phase g (ahead_in h bk (gone_from g i h bk)) (wait_in h bk (gone_from g i h bk)) fg
sent_in (Refused r) h bk fg = fg

-- the request of guest g with the id i has its note, and its send can be counted
pub record Sendable (g i : ℕ) (h : Gate) (bk fg : List ℕ) : Type 0 where
  pub few : h.waiting ≤ most_capacity
  pub room : h.waiting * note_wide ≤ length bk
  pub inside : gone_from g i h bk < h.waiting
  pub past : note_at bk (gone_from g i h bk) SINCE ≤ h.time
  pub guest : g < most_guests
  pub row : g * figures_wide + figures_wide ≤ length fg
  pub fits : (j : ℕ) → RESERVED ≤ j → j ≤ UPPER → figure_at fg g j + 1 < 2 ^ 64

-- so with an answer
abbrev pub Settles : Answer → Gate → (bk fg : List ℕ) → Type 0
Settles Nothing h bk fg = Unit {0}
Settles (Sent phase g i) h bk fg = Sendable g i h bk fg
Settles (Refused r) h bk fg = Unit {0}

-- WHAT IS KNOWN while an event is on its way

-- how many of those that wait have their note: the request of an arrival has none yet
abbrev pub standing : Event → Gate → ℕ
standing (Arrival a now) h = h.waiting - 1
standing (Completion f now) h = h.waiting
standing (Tick now) h = h.waiting

-- its guest is known, and the request of an arrival stands last among the waiting
abbrev pub Brings : Event → Gate → List ℕ → Type 0
Brings (Arrival a now) h vs = (a.guest < h.guests) × (0 < h.waiting) × (now ≡ h.time) × (waiting_at vs (h.waiting - 1) GUEST ≡ a.guest) × (waiting_at vs (h.waiting - 1) ID ≡ a.id)
Brings (Completion f now) h vs = f.guest < h.guests
Brings (Tick now) h vs = Unit {0}

-- once the event has entered and before it is noted; n events were judged before it
pub record Entering (n : ℕ) (e : Event) (h : Gate) (vs bk fg : List ℕ) : Type 0 where
  pub book_room : h.setup.capacity * note_wide ≤ length bk
  pub figures_room : h.guests * figures_wide ≤ length fg
  pub matches : (k : ℕ) → k < standing e h → Matches vs bk k
  pub past : (k : ℕ) → k < standing e h → note_at bk k SINCE ≤ h.time
  pub few : (k j : ℕ) → k < h.guests → j ≤ UPPER → figure_at fg k j ≤ n
  pub brings : Brings e h vs
  pub small : n + 1 < 2 ^ 64

-- once it is noted and counted: what only a send makes larger is not larger yet
pub record Noted (n : ℕ) (h : Gate) (vs bk fg : List ℕ) : Type 0 where
  pub book_room : h.setup.capacity * note_wide ≤ length bk
  pub figures_room : h.guests * figures_wide ≤ length fg
  pub matches : (k : ℕ) → k < h.waiting → Matches vs bk k
  pub past : (k : ℕ) → k < h.waiting → note_at bk k SINCE ≤ h.time
  pub few : (k j : ℕ) → k < h.guests → j ≤ UPPER → figure_at fg k j ≤ n + 1
  pub fewer : (k j : ℕ) → k < h.guests → RESERVED ≤ j → j ≤ UPPER → figure_at fg k j ≤ n
  pub small : n + 1 < 2 ^ 64
