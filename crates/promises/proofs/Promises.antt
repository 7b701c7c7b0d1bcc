-- WHAT THE PRODUCT PROMISES, on one page: the demands over every public face, in one record. The functions themselves promise the equations
-- `called` and `opened` (crates/gate/specs/Promise.antt); what these say is here. Kept.antt has its one inhabitant.
use Rattle.std.specs.Prelude.{None, Option, Err}
use Prim.Native.Nat.{ℕ, ◌+◌, ◌*◌, ◌^◌, ◌≤◌, ◌<◌}
use mathlib.Core.Path.{◌≡◌}
use mathlib.Core.Bool.{Bool, true, false, not}
use mathlib.Core.List.{List, [], ◌∷◌, ◌++◌, map, Memᴰ}
use mathlib.Core.Logic.{◌↔◌, ◌⊎◌}
use lib.ListN.{length, take, drop}
use lib.Seq.{sets}
use Rattle.lists.specs.Words.{if◌then◌else◌, all, filter}
use Rattle.rules.specs.Numbers.{ceiling, tag_at}
use Rattle.rules.specs.Tables.{Request, Table, owner, idle}
use Rattle.rules.specs.Sound.{sound}
use Rattle.past.specs.Single.{sound_single, one_and_one}
use Rattle.past.specs.Plain.{sound_plain, costs_one, brings_one}
use Rattle.rules.specs.Answers.{shown, taken}
use Rattle.rules.specs.Choice.{Result, due, open?}
use Rattle.rules.specs.Events.{moment, share_tag, enter}
use Rattle.rules.specs.Chosen.{Chosen, Due, Open}
use Rattle.rules.specs.Arrived.{Entered}
use Rattle.rules.specs.Refusals.{accept, judged, accepted}
use Rattle.rules.specs.Refused.{RefusedExactly, NoneHolds, call_cases, open_cases}
use Rattle.rules.specs.Order.{waits, left}
use Rattle.rules.specs.Run.{fresh, step, after, answers}
use Rattle.turns.specs.Turn.{finds_room, at_free}
use Rattle.turns.specs.TurnAt.{TurnKept}
use Rattle.rules.specs.Waking.{told}
use Rattle.turns.specs.Woken.{Wakes}
use Rattle.rules.specs.declared.Settings.{Settings}
use Rattle.rules.specs.declared.Guest.{Guest}
use Rattle.rules.specs.declared.Event.{Event}
use Rattle.rules.specs.declared.Phase.{Phase}
use Rattle.rules.specs.declared.Gate.{Gate}
use Rattle.rules.specs.declared.Outcome.{Outcome}
use Rattle.rules.specs.declared.Refusal.{Refusal}
use Rattle.rules.specs.declared.Answer.{Answer}
use Rattle.rules.specs.declared.Answer.TheVariants.{Nothing, Sent, Refused}
use Rattle.rules.proofs.Readings.{Readings}
use Rattle.rules.proofs.Bursts.{Bursts}
use Rattle.rules.proofs.Several.{Several}
use Rattle.past.proofs.Single.{SameRunSingle}
use Rattle.rules.proofs.Costs.{Costs}
use Rattle.past.proofs.Plain.{SameRun}
use Rattle.rules.proofs.Trials.{X}
use Rattle.worth.specs.Passages.{passages}
use Rattle.worth.specs.Worth.{Worth}
use Rattle.worth.proofs.Counted.{own}
use Rattle.table.specs.Columns.{settings_wide}
use Rattle.gate.specs.Promise.{Lending, numbers, HandedIn, table_in, seen_in, short_in, sound_in, unchanged_in, called_in, settings_in, open_short_in, unopened, opened_in, opened}
use Rattle.gate.specs.Needs.{Beyond, Alike, Same}
use Rattle.gate.specs.Calls.{Host, holds, shows, firm, narrow, finds, call, held, replies, took, free_replies}
use Rattle.gate.proofs.Lending.{Lawful, numbers-lawful}
use Rattle.gate.proofs.Runs.{Runs}
use Rattle.records.specs.Promise.{records}
use Rattle.records.proofs.Lawful.{records-lawful}
use Rattle.gate.specs.Replies.{Four, four_of, never, fifth_of}
use Rattle.hands.specs.Host.{gate_in, hosted}
use Rattle.hands.specs.Calls.{Lent, inside, shown_by, through, kept, held_by, fours, Refuses, Takes, free_fours}
use Rattle.hands.specs.Traces.{three_of, mended_of}
use Rattle.hands.specs.declared.Carried.{Carried}
use Rattle.hands.specs.declared.Mended.{Mended}
use Rattle.hands.proofs.Runs.{ThroughRuns}
use Rattle.hands.proofs.Once.{Timely, Back}
use Rattle.clock.specs.declared.Clock.{Clock}
use Rattle.clock.specs.declared.Told.{Told}
use Rattle.clock.specs.Reading.{wrap, tells, moved_to, doing}
use Rattle.clock.specs.Runs.{Started, clock_cases, Refuses as RefusesReading, Takes as TakesReading, run as readings, after as clock_after, times, begins, Rising, shows as shown_at, Near, since, Within, true_at}
use Rattle.lines.specs.Line.{title_line, refused_with}
use Rattle.trace.specs.Printed.{lines_from, printed}
use Rattle.trace.specs.Header.{version_of, rule_of}
use Rattle.trace.specs.Event.{whole}
use Rattle.trace.specs.Answers.{event_bytes, bytes_at, table_at, reads_of, answers_of, answer_at, accepted_ids, free_from, answers_after}
use Rattle.trace.specs.Cases.{header_cases, Faulty, line_cases}
use Rattle.trace.proofs.Runs.{run}
use Rattle.moved.specs.Result.{moved_to as moved_bytes}
use Rattle.moved.specs.Moves.{bad_in, dear_in, move_tests, Moved, moved_shown, answer_to, moves}
use Rattle.moved.specs.Cases.{Dear, move_cases, FirstEvent, WellFormed}
use Rattle.moved.proofs.Exactly.{refusal_in}
use Rattle.moved.proofs.Theorems.{written_in}
use Rattle.salvage.specs.Result.{kept_in, rows_in, salvaged, list_of}
use Rattle.salvage.specs.Salvages.{Salvaged, salvaged_shown, salvages}
use Rattle.salvage.specs.Cases.{events_in, reason_at, pieces, row_at, Rightly, Clean, salvage_cases, Untouched, InOrder}
use Rattle.judge.specs.Acceptable.{head_line, lines_of, Acceptable, FirstWrong}
use Rattle.judge.specs.Judging.{wrong_at, accepted as accepted_lines, judged_of}
use Rattle.judge.specs.declared.Judged.{Judged as JudgedLines}
use Rattle.judge.proofs.Counted.{ends}
use Rattle.judge.proofs.Readings.{Readings as JudgeReadings}
use Rattle.batch.specs.Rows.{count_of, answer_wide}
use Rattle.batch.specs.Promise.{BatchIn, outcomes, batch_tests, batched_in, seen_batch_in}
use Rattle.batch.specs.Batches.{Batch, batch_cases, Refuses as RefusesAll, Takes as TakesAll, goods, good, all_done, held_batches, free_answers}
use Rattle.batch.proofs.OneByOne.{AsCalls}
use Rattle.arrays.specs.declared.Site.{Site}
use Rattle.arrays.specs.declared.Ask.{Ask}
use Rattle.arrays.specs.Promise.{HandedAt, seen_at, kept_at, asked, begun}
use Rattle.houses.specs.House.{House, Deed, array_at, held_at, answers_at, narrow_deed, free_at}
use Rattle.houses.specs.History.{told_over, Begun, CountedExactly}
use Rattle.houses.specs.Cases.{ask_cases, opening_cases}
use Rattle.houses.specs.Needs.{BeyondAt, AlikeAt, SameAt}
use Rattle.houses.specs.Opening.{Lent as LentAt, opened_all, accepted_all}
use Rattle.houses.proofs.GoodHouse.{GoodHouse}
use Rattle.houses.proofs.Readings.{Readings as HouseReadings}
use Rattle.book.specs.Book.{noted}
use Rattle.book.specs.Figures.{figures_at}
use Rattle.book.specs.Page.{Page, named, waited, turned_by, first_page}
use Rattle.book.specs.Balance.{Balanced, waits_of, flies_of}
use Rattle.book.specs.Waits.{waits_by}
use Rattle.book.proofs.Balance.{Covered, figures_for}
use Rattle.book.proofs.Waits.{Follows, Past, Stood}
use Rattle.book.proofs.Sums.{WaitsAre}

-- ON THE RULES

-- an accepted event in plain facts, which fit one outcome only, demand 3 under either rule for limits, what a limit is worth, and when to wake, in plain facts that fit one value only; document 02, K6: "Credit
-- 0 is the rule of K3"
pub record OnTheRules : Type 0 where
  pub described : (t : Table) (e : Event) → accepted t e ≡ true → (u : Table) × Entered t e u × Chosen u (step t e)
  pub once : (t : Table) (e : Event) (u : Table) (r : Result) → accepted t e ≡ true → Entered t e u → Chosen u r → r ≡ step t e
  pub due_means : (t : Table) (q : Request) → (due t q ≡ true) ↔ Due t q
  pub open_means : (t : Table) (q : Request) → (open? t q ≡ true) ↔ Open t q
  pub sound-kept : (t : Table) (e : Event) → sound t ≡ true → sound (step t e).table ≡ true
  pub demand_3 : (t : Table) (i : ℕ) (es : List Event) → sound t ≡ true → TurnKept t i (at_free t es)
  pub no_place_no_send : (t : Table) (e : Event) → accepted t e ≡ true → finds_room t e ≡ false → (step t e).answer ≡ Nothing
  pub wakes : (t : Table) (e : Event) → accepted t e ≡ true → Wakes (step t e).table (told (step t e))
  pub wakes-none : (t : Table) (e : Event) → accepted t e ≡ true
      → (told (step t e) ≡ None) ↔ (((step t e).table.setup.depth ≤ length (step t e).table.flight) ⊎ ((step t e).table.waiting ≡ []))
  pub wakes_once : (t : Table) → sound t ≡ true → (w x : Option ℕ) → Wakes t w → Wakes t x → w ≡ x
  pub worth : (t : Table) (es : List Event) → sound t ≡ true → Worth t es (answers t es)
  pub none_missed : (g : ℕ) (t : Table) (es : List Event) → sound t ≡ true → idle t g ≡ true → length (filter (own g) (passages es (answers t es))) ≡ length (left g (answers t es))
  pub credit_0 : (now : ℕ) (h : Guest) → h.settings.credit ≡ 0 → (idle : Bool) → share_tag idle now h ≡ (if idle then now else tag_at now h.snext)
  pub cost_1 : (es : List Event) (t : Table) → sound_plain t ≡ true → all costs_one t.waiting ≡ true → all brings_one es ≡ true → all one_and_one es ≡ true → SameRun t es
  pub one_and_one : (es : List Event) (t : Table) → sound_single t ≡ true → all one_and_one es ≡ true → SameRunSingle t es
  pub readings : Readings
  pub bursts : Bursts
  pub costs : Costs
  pub several : Several

-- OVER LENT TABLES, in a way of lending guests

pub record OverLent (v : Lending) (lawful : Lawful v) : Type 0 where
  -- demand 1: each refusal is given exactly when document 01 says, with its number, and changes nothing
  pub called_exactly : (g : Gate) (gs : List v.Cell) (ws fs : List ℕ) (e : Event)
      → RefusedExactly (call_cases (short_in v g gs ws fs) (not (sound_in v g gs ws fs)) (table_in v g gs ws fs) e) (λ n. shown (called_in v e g gs ws fs).0.answer ≡ X n) (taken (called_in v e g gs ws fs).0.answer ≡ true)
  pub opened_exactly : (d n c rule : ℕ) (ss : List ℕ) (gs : List v.Cell) (ws fs : List ℕ)
      → RefusedExactly (open_cases (open_short_in v d n c ss gs ws fs) d n c rule (settings_in ss n)) (λ k. shown (opened_in v d n c rule ss gs ws fs).0.answer ≡ X k) (taken (opened_in v d n c rule ss gs ws fs).0.answer ≡ true)
  pub refusal_keeps : (e : Event) (g : Gate) (gs : List v.Cell) (ws fs : List ℕ) (r : Refusal) → (called_in v e g gs ws fs).0.answer ≡ Refused r
      → called_in v e g gs ws fs ≡ unchanged_in v g gs ws fs (Refused r)
  pub opening_keeps : (d n c rule : ℕ) (ss : List ℕ) (gs : List v.Cell) (ws fs : List ℕ) (why : Refusal) → (opened_in v d n c rule ss gs ws fs).0.answer ≡ Refused why
      → opened_in v d n c rule ss gs ws fs ≡ unchanged_in v unopened gs ws fs (Refused why)
  -- demand 2: an accepted opening gives a fresh table, a run of calls is a run of steps, and both leave tables that are sound; any two outcomes that a promise admits are equal
  pub opens : (d n c rule : ℕ) (ss : List ℕ) (gs : List v.Cell) (ws fs : List ℕ) → taken (opened_in v d n c rule ss gs ws fs).0.answer ≡ true
      → (firm v (holds v (opened_in v d n c rule ss gs ws fs)) ≡ true) × (shows v (holds v (opened_in v d n c rule ss gs ws fs)) ≡ fresh d c rule (settings_in ss n))
  pub runs : (es : List Event) (h : Host v) → firm v h ≡ true → all narrow es ≡ true → Runs v lawful h es
  pub called_once : (h k : HandedIn v) (gs : List v.Cell) (ws fs : List ℕ) (e : Event) (g : Gate)
      → seen_in v h ≡ seen_in v (called_in v e g gs ws fs) → seen_in v k ≡ seen_in v (called_in v e g gs ws fs) → h ≡ k
  pub opened_once : (h k : HandedIn v) (gs : List v.Cell) (ws fs : List ℕ) (d n c rule : ℕ) (ss : List ℕ)
      → seen_in v h ≡ seen_in v (opened_in v d n c rule ss gs ws fs) → seen_in v k ≡ seen_in v (opened_in v d n c rule ss gs ws fs) → h ≡ k
  -- "Places beyond what the settings need are neither read nor changed, at opening too."
  pub called_untouched : (e : Event) (g : Gate) (gs : List v.Cell) (ws fs : List ℕ) → Beyond v g.guests g.setup.capacity g.setup.depth gs ws fs (called_in v e g gs ws fs)
  pub opened_untouched : (d n c rule : ℕ) (ss : List ℕ) (gs : List v.Cell) (ws fs : List ℕ) → Beyond v n c d gs ws fs (opened_in v d n c rule ss gs ws fs)
  pub called_unread : (e : Event) (g : Gate) (gs : List v.Cell) (ws fs : List ℕ) (hs : List v.Cell) (vs es : List ℕ)
      → Alike v g.guests g.setup.capacity g.setup.depth gs ws fs hs vs es → Same v g.guests g.setup.capacity g.setup.depth (called_in v e g gs ws fs) (called_in v e g hs vs es)
  pub opened_unread : (d n c rule : ℕ) (ss ts : List ℕ) (gs : List v.Cell) (ws fs : List ℕ) (hs : List v.Cell) (vs es : List ℕ) → take (n * settings_wide) ss ≡ take (n * settings_wide) ts
      → Alike v n c d gs ws fs hs vs es → Same v n c d (opened_in v d n c rule ss gs ws fs) (opened_in v d n c rule ts hs vs es)
  -- "Requests of one guest always leave in order of acceptance"
  pub in_order : (n : ℕ) (es : List Event) (h : Host v) → waits n (shows v h) ++ took n es (replies v h es) ≡ left n (replies v h es) ++ waits n (shows v (held v h es))
  -- demand 3, under the gate's rule for limits
  pub demand_3 : (h : Host v) (es : List Event) → firm v h ≡ true → all narrow es ≡ true → (i : ℕ) → TurnKept (shows v h) i (free_replies v h es)
  pub no_place_no_send : (h : Host v) (e : Event) → firm v h ≡ true → taken (call v e h).0.answer ≡ true → finds e h.gate ≡ false → (call v e h).0.answer ≡ Nothing
  -- document 02, K11: what a limit is worth
  pub worth : (h : Host v) (es : List Event) → firm v h ≡ true → all narrow es ≡ true → Worth (shows v h) es (replies v h es)
  -- document 02, K2: an accepted call carries when to wake the gate that it leaves; an accepted opening, in which nothing waits, none
  pub wakes : (h : Host v) (e : Event) → firm v h ≡ true → taken (call v e h).0.answer ≡ true → Wakes (shows v (holds v (call v e h))) (call v e h).0.wake
  pub opening-wakes : (d n c rule : ℕ) (ss : List ℕ) (gs : List v.Cell) (ws fs : List ℕ) → taken (opened_in v d n c rule ss gs ws fs).0.answer ≡ true → (opened_in v d n c rule ss gs ws fs).0.wake ≡ None

-- OF A BATCH, in a way of lending guests

pub record OfABatch (v : Lending) : Type 0 where
  -- the whole call is refused 16 or 17 exactly where document 02 says, and then nothing is done; places past the last answer stay; any two outcomes that the promise admits are equal
  pub exactly : (es : List ℕ) (g : Gate) (gs : List v.Cell) (ws fs bs : List ℕ) → RefusedExactly (batch_cases es bs) (RefusesAll (batched_in v es g gs ws fs bs).0) (TakesAll (batched_in v es g gs ws fs bs).0)
  pub refusal_keeps : (es : List ℕ) (g : Gate) (gs : List v.Cell) (ws fs bs : List ℕ) (r : Refusal) → (batched_in v es g gs ws fs bs).0.found ≡ Err r
      → batched_in v es g gs ws fs bs ≡ (record { gate = g; found = Err r }, gs, ws, fs, bs)
  pub spare_places : (es : List ℕ) (g : Gate) (gs : List v.Cell) (ws fs bs : List ℕ) → drop (count_of es * answer_wide) (batched_in v es g gs ws fs bs).4 ≡ drop (count_of es * answer_wide) bs
  pub once : (h k : BatchIn v) (es : List ℕ) (g : Gate) (gs : List v.Cell) (ws fs bs : List ℕ)
      → seen_batch_in v h ≡ seen_batch_in v (batched_in v es g gs ws fs bs) → seen_batch_in v k ≡ seen_batch_in v (batched_in v es g gs ws fs bs) → h ≡ k
  -- "Places beyond what the settings need are neither read nor changed": `Beyond` speaks of the tables, beside any outcome
  pub untouched : (es : List ℕ) (g : Gate) (gs : List v.Cell) (ws fs bs : List ℕ) (o : Outcome)
      → let b = batched_in v es g gs ws fs bs in Beyond v g.guests g.setup.capacity g.setup.depth gs ws fs (o, b.1, b.2, b.3)
  pub unread : (es : List ℕ) (g : Gate) (gs : List v.Cell) (ws fs bs : List ℕ) (hs : List v.Cell) (vs ds : List ℕ)
      → Alike v g.guests g.setup.capacity g.setup.depth gs ws fs hs vs ds
      → let b = batched_in v es g gs ws fs bs in
      let k = batched_in v es g hs vs ds bs in
      (b.0 ≡ k.0) × (b.4 ≡ k.4) × Alike v g.guests g.setup.capacity g.setup.depth b.1 b.2 b.3 k.1 k.2 k.3
  -- what a batch leaves and answers is what the calls one by one leave and answer, on any tables; and demand 3 through any run of batches
  pub as_calls : (es : List ℕ) (h : Host v) (bs : List ℕ) → judged (batch_tests es bs) ≡ accept → AsCalls v es h bs
  pub stays_firm : (bs : List Batch) (h : Host v) → firm v h ≡ true → firm v (held_batches v h bs) ≡ true
  pub demand_3 : (h : Host v) (bs : List Batch) → firm v h ≡ true → (i : ℕ) → TurnKept (shows v h) i (free_answers v h (all_done bs))
  pub worth : (h : Host v) (bs : List Batch) → firm v h ≡ true
      → Worth (shows v h) (goods (all_done bs)) (map Outcome.answer (good (all_done bs) (outcomes v h (all_done bs))))

-- THROUGH C, over the gate's seven numbers and the three tables as a host holds them. The tables that a call leaves are those over numbers, so what
-- stands beyond the need is untouched and unread there

pub record ThroughC : Type 0 where
  pub called_exactly : (h : Lent) (e : Event)
      → RefusedExactly (call_cases (short_in numbers (gate_in h.seven) h.guests h.waiting h.flight) (not (sound_in numbers (gate_in h.seven) h.guests h.waiting h.flight)) (shown_by h) e) (Refuses (through e h).0) (Takes (through e h).0)
  pub opened_exactly : (seven : List ℕ) (d n c rule : ℕ) (ss gs ws fs : List ℕ)
      → RefusedExactly (open_cases (open_short_in numbers d n c ss gs ws fs) d n c rule (settings_in ss n)) (Refuses (hosted seven (opened d n c rule ss gs ws fs)).0) (Takes (hosted seven (opened d n c rule ss gs ws fs)).0)
  pub opens : (seven : List ℕ) → length seven ≡ 7 → (d n c rule : ℕ) (ss gs ws fs : List ℕ) → Takes (hosted seven (opened d n c rule ss gs ws fs)).0
      → (length (kept (hosted seven (opened d n c rule ss gs ws fs))).seven ≡ 7) × (firm numbers (inside (kept (hosted seven (opened d n c rule ss gs ws fs)))) ≡ true) × (shown_by (kept (hosted seven (opened d n c rule ss gs ws fs))) ≡ fresh d c rule (settings_in ss n))
  pub runs : (es : List Event) (h : Lent) → length h.seven ≡ 7 → firm numbers (inside h) ≡ true → all narrow es ≡ true → ThroughRuns h es
  pub called_once : (b c : Back) (h : Lent) (e : Event) → b ≡ through e h → c ≡ through e h → b ≡ c
  pub opened_once : (b c : Back) (seven : List ℕ) (d n m rule : ℕ) (ss gs ws fs : List ℕ) → b ≡ hosted seven (opened d n m rule ss gs ws fs) → c ≡ hosted seven (opened d n m rule ss gs ws fs) → b ≡ c
  pub four_once : (a b : Answer) → four_of a ≡ four_of b → a ≡ b
  pub fifth_once : (w x : Option ℕ) → Timely w → Timely x → fifth_of w ≡ fifth_of x → w ≡ x
  pub in_order : (n : ℕ) (es : List Event) (h : Lent) → length h.seven ≡ 7
      → (got : List Answer) × (fours h es ≡ map four_of got) × (waits n (shown_by h) ++ took n es got ≡ left n got ++ waits n (shown_by (held_by h es)))
  pub demand_3 : (h : Lent) (es : List Event) → length h.seven ≡ 7 → firm numbers (inside h) ≡ true → all narrow es ≡ true → (i : ℕ)
      → (got : List Answer) × (free_fours h es ≡ map four_of got) × TurnKept (shown_by h) i got
  -- document 02, K11: what a limit is worth
  pub worth : (h : Lent) (es : List Event) → length h.seven ≡ 7 → firm numbers (inside h) ≡ true → all narrow es ≡ true
      → (got : List Answer) × (fours h es ≡ map four_of got) × Worth (shown_by h) es got
  -- document 02, K2: the fifth number, in a refusal 0
  pub wakes : (h : Lent) (e : Event) → length h.seven ≡ 7 → firm numbers (inside h) ≡ true → Takes (through e h).0
      → (w : Option ℕ) × Wakes (shown_by (kept (through e h))) w × Timely w × ((through e h).0.wake ≡ fifth_of w)
  pub refused-wakes : (h : Lent) (e : Event) (n : ℕ) → Refuses (through e h).0 n → (through e h).0.wake ≡ 0
  pub opening-wakes : (seven : List ℕ) (d n c rule : ℕ) (ss gs ws fs : List ℕ) → Takes (hosted seven (opened d n c rule ss gs ws fs)).0 → (hosted seven (opened d n c rule ss gs ws fs)).0.wake ≡ never
  pub refused-opening-wakes : (seven : List ℕ) (d n c rule : ℕ) (ss gs ws fs : List ℕ) (m : ℕ) → Refuses (hosted seven (opened d n c rule ss gs ws fs)).0 m → (hosted seven (opened d n c rule ss gs ws fs)).0.wake ≡ 0

-- OF A TRACE, of any bytes

pub record OfATrace : Type 0 where
  pub header_exactly : (bs : List ℕ) → RefusedExactly (header_cases bs) (λ n. printed bs ≡ refused_with n) (printed bs ≡ title_line ++ lines_from 0 (answers_of bs))
  pub line_exactly : (bs : List ℕ) → NoneHolds (header_cases bs) → (k : ℕ) → k * 14 < length (event_bytes bs)
      → RefusedExactly (line_cases (version_of bs) (table_at bs k) (bytes_at bs k)) (λ n. shown (answer_at bs k) ≡ X n) (taken (answer_at bs k) ≡ true)
  pub line-numbers : (bs : List ℕ) → NoneHolds (header_cases bs) → (k : ℕ) → k * 14 < length (event_bytes bs) → (n : ℕ) → shown (answer_at bs k) ≡ X n → 3 < n
  pub table-sound : (bs : List ℕ) → NoneHolds (header_cases bs) → (k : ℕ) → sound (table_at bs k) ≡ true
  -- every event finds the rule that the header says; a trace of version 1 says none, so it is rule 1, and no credit, so no guest has one
  pub rule_kept : (bs : List ℕ) (k : ℕ) → (table_at bs k).setup.rule ≡ rule_of bs
  pub rule_1 : (bs : List ℕ) → version_of bs ≡ 1 → (k : ℕ) → (table_at bs k).setup.rule ≡ 1
  pub no_credit : (bs : List ℕ) → version_of bs ≡ 1 → (k g : ℕ) → (owner (table_at bs k).guests g).settings.credit ≡ 0
  pub in_order : (g : ℕ) (bs : List ℕ) → accepted_ids g (reads_of (version_of bs) (event_bytes bs)) (answers_of bs) ≡ left g (answers_of bs) ++ waits g (table_at bs (whole (event_bytes bs)))
  pub demand_3 : (bs : List ℕ) → NoneHolds (header_cases bs) → (k : ℕ) → k ≤ whole (event_bytes bs) → (i : ℕ) → TurnKept (table_at bs k) i (free_from bs k)
  -- document 02, K11: what a limit is worth, from any event on
  pub worth : (bs : List ℕ) → NoneHolds (header_cases bs) → (k : ℕ) → k ≤ whole (event_bytes bs) → Worth (table_at bs k) (run (reads_of (version_of bs) (bytes_at bs k))) (answers_after bs k)

-- OF THE MOVES between the versions of a trace, of any bytes and any room: document 02, K9

pub record OfTheMoves (from to : ℕ) : Type 0 where
  -- each number exactly where its condition holds and none before it does; 14 names the first bad event, 19 for a cost the first arrival of another cost
  pub moved_exactly : (bs : List ℕ) (room : ℕ)
      → RefusedExactly (move_cases from to bs room) (λ n. (0 < n) × (refusal_in (moved_shown (answer_to from to bs room)) ≡ n)) (refusal_in (moved_shown (answer_to from to bs room)) ≡ 0)
  pub bad_named : (bs : List ℕ) → 0 < bad_in bs → FirstEvent (λ k. Faulty (version_of bs) (bytes_at bs k)) (whole (event_bytes bs)) (bad_in bs)
  pub dear_named : (bs : List ℕ) → 0 < dear_in bs → FirstEvent (λ k. Dear (version_of bs) (bytes_at bs k)) (whole (event_bytes bs)) (dear_in bs)
  pub moved-leaves : (bs room : List ℕ) → judged (move_tests from to bs (length room)) ≡ accept → moves from to bs room ≡ (0 ∷ length (moved_bytes to bs) ∷ 0 ∷ [], sets room 0 (moved_bytes to bs))
  -- K9: "Back and forth gives the same bytes. The printed decisions of a moved trace are the same."
  pub there_and_back : (bs : List ℕ) (room : ℕ) → judged (move_tests from to bs room) ≡ accept → (again : List ℕ) → length bs ≤ length again
      → moves to from (moved_bytes to bs) again ≡ (0 ∷ length bs ∷ 0 ∷ [], sets again 0 bs)
  pub printed-same : (bs : List ℕ) (room : ℕ) → judged (move_tests from to bs room) ≡ accept → printed (moved_bytes to bs) ≡ printed bs
  pub moved_once : (bs room : List ℕ) (a b : Moved) (xs ys : List ℕ) → (moved_shown a, xs) ≡ moves from to bs room → (moved_shown b, ys) ≡ moves from to bs room → (a ≡ b) × (xs ≡ ys)
  pub moved_once_as_c : (bs room : List ℕ) (r s : Carried) (xs ys : List ℕ) → (three_of r, xs) ≡ moves from to bs room → (three_of s, ys) ≡ moves from to bs room → (r ≡ s) × (xs ≡ ys)
  -- K9: "write nothing when refused; room past the result is unchanged"
  pub moved_untouched : (bs room : List ℕ)
      → (length (moves from to bs room).1 ≡ length room) × (drop (written_in (moves from to bs room)) (moves from to bs room).1 ≡ drop (written_in (moves from to bs room)) room)

-- OF THE SALVAGE of a torn trace, of any bytes, any room and any list: document 02, K12

pub record OfTheSalvage : Type 0 where
  -- each number exactly where its condition holds and none before it does
  pub salvaged_exactly : (bs room list : List ℕ)
      → RefusedExactly (salvage_cases bs (length room) (length list)) (λ n. (0 < n) × (refusal_in (salvages bs room list).0 ≡ n)) (refusal_in (salvages bs room list).0 ≡ 0)
  -- each event is kept exactly where no reason fits and else dropped for the first that does, which no other judgement is right of; the list has just these
  pub rightly : (bs : List ℕ) → Rightly (reason_at bs) bs
  pub rightly_once : (bs : List ℕ) (a b : ℕ → ℕ) → Rightly a bs → Rightly b bs → (k : ℕ) → k < events_in bs → a k ≡ b k
  pub listed : (bs : List ℕ) (k r : ℕ) → Memᴰ (row_at k r) (rows_in bs) ↔ ((k < events_in bs) × (0 < r) × (reason_at bs k ≡ r))
  pub all_told : (bs : List ℕ) → length (kept_in bs) + length (rows_in bs) * 14 ≡ events_in bs * 14
  pub salvaged-leaves : (bs room list : List ℕ) → NoneHolds (header_cases bs) → length (salvaged bs) ≤ length room → length (list_of bs) ≤ length list
      → salvages bs room list ≡ (0 ∷ length (salvaged bs) ∷ length (rows_in bs) ∷ [], sets room 0 (salvaged bs), sets list 0 (list_of bs))
  -- K12: "A trace in which no event meets a reason comes out byte for byte, with an empty list; a second pass drops nothing."
  pub clean_stays : (bs : List ℕ) → NoneHolds (header_cases bs) → Clean bs → (room list : List ℕ) → length bs ≤ length room
      → salvages bs room list ≡ (0 ∷ length bs ∷ 0 ∷ [], sets room 0 bs, list)
  pub second_pass : (bs : List ℕ) → NoneHolds (header_cases bs) → (room list : List ℕ) → length (salvaged bs) ≤ length room
      → salvages (salvaged bs) room list ≡ (0 ∷ length (salvaged bs) ∷ 0 ∷ [], sets room 0 (salvaged bs), list)
  -- what comes out is a well-formed trace of the same version, its events in the old order
  pub well_formed : (bs : List ℕ) → NoneHolds (header_cases bs) → WellFormed (version_of bs) (salvaged bs)
  pub old_order : (bs : List ℕ) → NoneHolds (header_cases bs) → InOrder (pieces (salvaged bs)) (pieces bs)
  pub salvaged_once : (bs room list : List ℕ) (a b : Salvaged) (xs ys zs ws : List ℕ) → (salvaged_shown a, xs, zs) ≡ salvages bs room list
      → (salvaged_shown b, ys, ws) ≡ salvages bs room list → (a ≡ b) × (xs ≡ ys) × (zs ≡ ws)
  pub salvaged_once_as_c : (bs room list : List ℕ) (r s : Mended) (xs ys zs ws : List ℕ) → (mended_of r, xs, zs) ≡ salvages bs room list
      → (mended_of s, ys, ws) ≡ salvages bs room list → (r ≡ s) × (xs ≡ ys) × (zs ≡ ws)
  -- K12: "Room past the results is unchanged"; "nothing written" when refused
  pub salvaged_untouched : (bs room list : List ℕ) → Untouched (salvages bs room list) room list

-- OF THE JUDGE of another gate's lines, of any bytes of a trace and of lines: document 02, K10; the same through C

pub record OfTheJudge : Type 0 where
  -- K10: "Accept its lines exactly when" all of them may stand, ties between guests broken "as it likes"; "Otherwise give the number of the first wrong, missing or surplus
  -- line, the header line being 1", here with what was due there; any two answers that the promise admits are equal
  pub lines-accepted_exactly : (bs ls : List ℕ) → (judged_of bs ls ≡ accepted_lines) ↔ Acceptable bs ls
  pub first_wrong_exactly : (bs ls : List ℕ) (n : ℕ) (d : Four) → ((judged_of bs ls ≡ wrong_at n d) × (0 < n)) ↔ FirstWrong bs ls n d
  pub judged_once : (bs ls : List ℕ) (a b : JudgedLines) → a ≡ judged_of bs ls → b ≡ judged_of bs ls → a ≡ b
  -- the number counts lines that end with byte 10: as many ended before it, less one
  pub lines-counted : (bs : List ℕ) (rs : List Result) → ends (head_line bs ++ lines_of rs) ≡ length rs + 1
  -- K10: "Our own lines are always accepted.", and two outputs of one trace that both are
  pub own-accepted : (bs : List ℕ) → judged_of bs (printed bs) ≡ accepted_lines
  pub judge_readings : JudgeReadings

-- OF THE SHEET

pub record OfTheSheet : Type 0 where
  -- for each guest, from any table: what it held and what came is what it holds and what left; from a fresh one: accepted arrivals are what waits, flies and was completed
  pub balance : (t : Table) (es : List Event) → Balanced t (turned_by (first_page t) es)
  pub arrivals : (d c rule : ℕ) (ss : List Settings) (es : List Event) (g : ℕ) → g < length ss
      → (figures_for d c rule ss es g).arrivals ≡ waits_of g (after (fresh d c rule ss) es) + flies_of g (after (fresh d c rule ss) es) + (figures_for d c rule ss es g).completions
  pub left : (d c rule : ℕ) (ss : List Settings) (es : List Event) (g : ℕ) → g < length ss → Covered (after (fresh d c rule ss) es) g (figures_for d c rule ss es g)
  -- the waits are from a request's own acceptance to its send, their sum and the longest are theirs, and the sum fits into two 64-bit numbers
  pub book : (d c rule : ℕ) (ss : List Settings) (es : List Event) → Follows (turned_by (first_page (fresh d c rule ss)) es)
  pub wait : (p : Page) → Follows p → Past p → (e : Event) → accepted p.table e ≡ true → (ph : Phase) (g i : ℕ) → (step p.table e).answer ≡ Sent ph g i
      → Stood (noted e p.book) (named g i) (moment e) (waited (enter p.table e) (named g i) (noted e p.book))
  pub waits : (t : Table) (es : List Event) (g : ℕ) → g < length t.guests → WaitsAre (figures_at (turned_by (first_page t) es).figures g) (waits_by g (first_page t) es)
  pub fits : (t : Table) (es : List Event) (g : ℕ) → g < length (turned_by (first_page t) es).figures → length es < 2 ^ 64 → (figures_at (turned_by (first_page t) es).figures g).summed < 2 ^ 128

-- OF A SHORT CLOCK, document 02, K13: what a reading of a lent record promises, the same through C

pub record OfTheClock : Type 0 where
  -- 5 exactly where a reading would pass the ceiling; a refusal leaves the record; an accepted reading is told the clock's time, which a gate takes; any two outcomes that the promise admits are equal
  pub exactly : (c : Clock) (r : ℕ) → RefusedExactly (clock_cases c r) (RefusesReading (doing c r).0) (TakesReading (doing c r).0)
  pub refusal_keeps : (c : Clock) (r n : ℕ) → RefusesReading (doing c r).0 n → doing c r ≡ (tells n 0, c)
  pub accepted-tells : (c : Clock) (r : ℕ) → TakesReading (doing c r).0 → (doing c r ≡ moved_to (doing c r).1) × ((doing c r).1.time ≤ ceiling)
  pub past_ceiling : (c : Clock) → Started c → ceiling < c.time → (rs : List ℕ) → readings c rs ≡ map (λ (r : ℕ). (tells 5 0, c)) rs
  pub once : (h k : Told × Clock) (c : Clock) (r : ℕ) → h ≡ doing c r → k ≡ doing c r → h ≡ k
  -- time never falls; where readings are near enough it is the true one, up to the ceiling; a longer gap is not seen
  pub never_falls : (c : Clock) (rs : List ℕ) → Rising (begins c) (times c rs)
  pub true_time : (c : Clock) (t : ℕ) (us : List ℕ) → c.started ≡ 0 → Near t us → Within t us → readings c (map shown_at (t ∷ us)) ≡ map (λ (u : ℕ). moved_to (true_at t u)) (t ∷ us)
  pub first_past : (c : Clock) (t : ℕ) (us : List ℕ) (u : ℕ) → c.started ≡ 0 → Near t (us ++ (u ∷ [])) → Within t us → ceiling < since t u
      → doing (clock_after c (map shown_at (t ∷ us))) (shown_at u) ≡ (tells 5 0, clock_after c (map shown_at (t ∷ us)))
  pub unseen : (c : Clock) (u : ℕ) → doing c (shown_at (u + wrap)) ≡ doing c (shown_at u)

-- the calls at one of several arrays, document 02, K14
pub record OfTheArrays : Type 0 where
  -- each refusal exactly, the gate's own behind; a refusal hands back all as it was; any two outcomes that the promise admits are equal
  pub asked_exactly : (s : Site) (g : Gate) (gs ws fs cs ps : List ℕ) (k : Ask)
      → RefusedExactly (ask_cases s g gs ws fs cs ps k) (λ n. shown (asked s g gs ws fs cs ps k).0.answer ≡ X n) (taken (asked s g gs ws fs cs ps k).0.answer ≡ true)
  pub begun_exactly : (s : Site) (d n c rule : ℕ) (ss gs ws fs cs ps : List ℕ)
      → RefusedExactly (opening_cases s d n c rule ss gs ws fs cs ps) (λ m. shown (begun s d n c rule ss gs ws fs cs ps).0.answer ≡ X m) (taken (begun s d n c rule ss gs ws fs cs ps).0.answer ≡ true)
  pub asked_keeps : (s : Site) (g : Gate) (gs ws fs cs ps : List ℕ) (k : Ask) (r : Refusal)
      → (asked s g gs ws fs cs ps k).0.answer ≡ Refused r → asked s g gs ws fs cs ps k ≡ kept_at g gs ws fs cs ps r
  pub begun_keeps : (s : Site) (d n c rule : ℕ) (ss gs ws fs cs ps : List ℕ) (r : Refusal)
      → (begun s d n c rule ss gs ws fs cs ps).0.answer ≡ Refused r → begun s d n c rule ss gs ws fs cs ps ≡ kept_at unopened gs ws fs cs ps r
  pub once : (h k : HandedAt) → seen_at h ≡ seen_at k → h ≡ k
  -- places beyond what the settings need are neither changed nor read
  pub asked_untouched : (s : Site) (g : Gate) (gs ws fs cs ps : List ℕ) (k : Ask)
      → BeyondAt s.arrays g.guests g.setup.capacity g.setup.depth gs ws fs cs ps (asked s g gs ws fs cs ps k)
  pub begun_untouched : (s : Site) (d n c rule : ℕ) (ss gs ws fs cs ps : List ℕ) → BeyondAt s.arrays n c d gs ws fs cs ps (begun s d n c rule ss gs ws fs cs ps)
  pub begun_unread : (s : Site) (d n c rule : ℕ) (ss ts gs ws fs cs ps hs vs es bs qs : List ℕ) → take (n * settings_wide) ss ≡ take (n * settings_wide) ts
      → AlikeAt s.arrays n c d gs ws fs cs ps hs vs es bs qs → SameAt s.arrays n c d (begun s d n c rule ss gs ws fs cs ps) (begun s d n c rule ts hs vs es bs qs)
  -- each count is exactly that of the history, from the openings of all arrays on
  pub begins : (n : ℕ) (ss : List ℕ) (ls : List LentAt) (cs : List ℕ) → accepted_all n ss ls cs ≡ true → Begun n (opened_all n ss ls cs)
  pub counted_exactly : (n : ℕ) (h : House) → Begun n h → (ds : List Deed) → CountedExactly n (held_at h ds) (told_over [] ds (answers_at h ds))
  -- demand 3 at each array, whatever is called at any of them
  pub demand_3 : (h : House) (ds : List Deed) (a : ℕ) → a < length h.arrays → firm numbers (array_at h a).host ≡ true → all narrow_deed ds ≡ true
      → (i : ℕ) → TurnKept (shows numbers (array_at h a).host) i (free_at a h ds)
  -- good counters and phases stay so
  pub stays_good : (n : ℕ) (ds : List Deed) (h : House) → GoodHouse n h → GoodHouse n (held_at h ds)
  pub house_readings : HouseReadings

-- ALL OF IT

pub record Promises : Type 0 where
  pub on_the_rules : OnTheRules
  pub over-numbers : OverLent numbers numbers-lawful
  pub over-records : OverLent records records-lawful
  pub through-c : ThroughC
  pub of-a-batch : OfABatch numbers
  pub of-a-batch-of-records : OfABatch records
  pub of-a-trace : OfATrace
  pub of_the_move_up : OfTheMoves 1 2
  pub of_the_move_back : OfTheMoves 2 1
  -- K9: "work on well-formed traces only", and on each of version 1 that has room
  pub goes-up : (bs : List ℕ) (room : ℕ) → WellFormed 1 bs → length (moved_bytes 2 bs) ≤ room → judged (move_tests 1 2 bs room) ≡ accept
  pub of_the_salvage : OfTheSalvage
  pub of_the_judge : OfTheJudge
  pub of_the_sheet : OfTheSheet
  pub of_the_clock : OfTheClock
  pub of_the_arrays : OfTheArrays
