-- Another gate's send, of the first waiting of a guest, leaves a sound table of the same settings, and lent numbers that are known. Assumes nothing.
use Prim.Native.Nat.{ℕ, ◌<◌}
use mathlib.Core.Path.{◌≡◌, refl, sym, ap, ◌∙◌, subst}
use mathlib.Core.Bool.{Bool, true}
use mathlib.Core.List.{List, [], ◌∷◌, ◌++◌, map}
use native.Mathlib.Omega.{arith}
use lib.ListN.{length}
use borrow.Author.Tests.{lt-ltb}
use Rattle.lists.specs.Words.{all}
use Rattle.lists.specs.Tab.{remove_at}
use Rattle.lists.specs.WordsLaws.{join, all_append, all_mid}
use Rattle.lists.specs.RowsLaws.{length-rows}
use Rattle.rules.specs.Tables.{Request, Table, name, names}
use Rattle.rules.specs.Choice.{room, sending}
use Rattle.rules.specs.Chosen.{at}
use Rattle.rules.specs.declared.Flight.{Flight}
use Rattle.rules.specs.declared.Gate.{Gate}
use Rattle.rules.specs.declared.Phase.{Phase}
use Rattle.rules.specs.declared.Phase.TheVariants.{Reservation, Weight}
use Rattle.rules.proofs.Facts.{Sound, sound_is, is_sound}
use Rattle.rules.proofs.Names.{names_mid, names_sent}
use Rattle.rules.proofs.SameSettings.{SameSettings, same_count, sending-settings, dropped-settings}
use Rattle.rules.proofs.Picks.{Between}
use Rattle.rules.proofs.Drops.{dropped-names}
use Rattle.rules.proofs.ChoiceSound.{sent_known, sending-sound, dropped-sound}
use Rattle.table.specs.declared.gates.Decision.{Decision}
use Rattle.table.specs.View.{request_form, flight_form, table_of, Known}
use Rattle.table.specs.Does.{Leaves}
use Rattle.table.proofs.Left.{left-shown, left-known}
use Rattle.enter.proofs.Entering.{narrow}
use Rattle.sends.specs.Firsts.{FirstOf}
use Rattle.sends.proofs.Firsts.{first_goes}
use Rattle.judge.specs.Judging.{sent_at}
use Rattle.judge.specs.Hearing.{Sends}

-- one goes from the middle of the waiting to the end of flight: a test that every name passes passes then too
sending-all : (f : Flight → Bool) (t : Table) (p : Request) (v : List Request) → Between p v t.waiting → all f (names t) ≡ true → all f (names (sending t p v)) ≡ true
unfolding sending
sending-all f t p v b h =
    let rest : List Flight = map name b.before ++ (map name b.after ++ t.flight) in
    let was : all f (map name b.before ++ name p ∷ (map name b.after ++ t.flight)) ≡ true = rw (b.stood, names_mid b.before b.after p t.flight) at h in
    let m = all_mid f (map name b.before) (name p) (map name b.after ++ t.flight) was in
    rw (b.stay, names_sent b.before b.after p t.flight) (all_append f rest (name p ∷ []) m.1 (join m.0 refl))

module _ (t : Table) (i : ℕ) (inside : i < length t.waiting) (h : FirstOf t.waiting i) where
  abbrev q : Request
  q = at t.waiting i

  abbrev v : List Request
  v = remove_at i t.waiting

  -- it stays sound
  pub sent_sound : Sound t → room t ≡ true → (p : Phase) → Sound (sent_at p t i).table
  sent_sound s r Reservation = sending-sound t s q v (first_goes t i inside h) r
  sent_sound s r Weight =
      let c = first_goes t i inside h in
      let known : q.guest < length (sending t q v).guests = rw (same_count (sending t q v) t (sending-settings t q v)) (sent_known t s q v c) in
      dropped-sound (sending t q v) (sending-sound t s q v c r) q known

  -- its settings stay
  pub sent_settings : (p : Phase) → SameSettings (sent_at p t i).table t
  sent_settings Reservation = sending-settings t q v
  sent_settings Weight =
      let a = dropped-settings q (sending t q v) in
      let b = sending-settings t q v in
      record { setup = a.setup ∙ b.setup; settings = a.settings ∙ b.settings }

  -- and so do its names
  sent_all : (f : Flight → Bool) → all f (names t) ≡ true → (p : Phase) → all f (names (sent_at p t i).table) ≡ true
  sent_all f e Reservation = sending-all f t q v (first_goes t i inside h).split e
  sent_all f e Weight = ap (all f) (dropped-names q (sending t q v)) ∙ sending-all f t q v (first_goes t i inside h).split e

-- over lent numbers
pub send_left : (g : Gate) (gs ws fs : List ℕ) (k : Known g gs ws fs) → g.flight < g.setup.depth → (i : ℕ) → i < g.waiting → FirstOf (table_of g gs ws fs).waiting i
    → (x p : Phase) → x ≡ p → (d : Decision) (hs vs es : List ℕ) → Leaves (λ t. sent_at p t i) g gs ws fs d hs vs es → Sends (sent_at x (table_of g gs ws fs) i) d.gate hs vs es
unfolding room
send_left g gs ws fs k free i here h x p c d hs vs es l =
    let t = table_of g gs ws fs in
    let s = sound_is t k.is_sound in
    let inside : i < length t.waiting = omega (arith, length-rows request_form ws g.waiting) in
    let r : room t ≡ true = rw (length-rows flight_form fs g.flight) (lt-ltb g.flight g.setup.depth free) in
    let firm = is_sound (sent_at p t i).table (sent_sound t i inside h s r p) in
    let same = sent_settings t i inside h p in
    subst (λ (y : Phase). Sends (sent_at y t i) d.gate hs vs es) (sym c)
    (record {
      shows = left-shown g gs ws fs k {f = λ t. sent_at p t i} d hs vs es l same firm;
      known = left-known g gs ws fs k {f = λ t. sent_at p t i} d hs vs es l same firm (sent_all t i inside h narrow k.is_identified p);
    })
