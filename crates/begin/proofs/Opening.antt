-- A header that opens is an opening that the gate accepts: with room for the largest settings the tables become the fresh one, and are known.
-- Assumes nothing.
use Prim.Native.Nat.{ℕ, ◌*◌}
use mathlib.Core.Path.{◌≡◌, refl, sym, ap, ◌∙◌, subst}
use mathlib.Core.Bool.{true, false}
use mathlib.Core.List.{List}
use native.Mathlib.Omega.{arith}
use lib.ListN.{length}
use borrow.Author.Tests.{le-ltb}
use Rattle.lists.specs.Words.{all}
use Rattle.lists.specs.Tab.{tab}
use Rattle.lists.specs.Rows.{rows_of}
use Rattle.rules.specs.declared.Settings.{Settings}
use Rattle.rules.specs.Sound.{settled}
use Rattle.rules.specs.Refusals.{Verdict, accept, open_tests}
use Rattle.rules.specs.Run.{fresh}
use Rattle.rules.specs.declared.Outcome.{Outcome}
use Rattle.rules.specs.declared.Answer.TheVariants.{Nothing}
use Rattle.table.specs.Columns.{guest_wide, waiting_wide, flight_wide, settings_wide}
use Rattle.table.specs.View.{settings_form, table_of, Handed, handed, Known}
use Rattle.gate.specs.Promise.{numbers, handed_in, Seen, seen, open_short_in, opened_by_in, opening_in, opened_in, opened}
use Rattle.gate.specs.Calls.{taken}
use Rattle.gate.proofs.Lending.{numbers-lawful}
use Rattle.gate.proofs.Verdicts.{handed-numbers}
use Rattle.gate.proofs.Opened.{opened-firm, opened-known}
use Rattle.trace.specs.Header.{first_version, last_version, settings_at, settings_in, header_of}
use Rattle.trace.proofs.HeaderLaws.{Opens, opened as header-opens}
use Rattle.headers.proofs.SettingsRows.{filled, length-filled, settings-rows}
use Rattle.feed.specs.Promise.{Became}
use Rattle.begin.specs.Begin.{Largest}
use Rattle.begin.proofs.Begins.{Sizes, sizes}
use Rattle.std.specs.Prelude.{Ok}
use Rattle.trace.specs.declared.Opened.{Opened}

module _ (bs old gs ws fs : List ℕ) (h : Opened) (e : header_of bs ≡ Ok h) (large : Largest old gs ws fs) where
  -- the settings as they were read from the header
  abbrev ss : List ℕ
  ss = filled h.version bs old h.guests

  o : Opens first_version last_version bs h
  o = header-opens bs h e

  z : Sizes bs h
  z = sizes bs h e

  rows : rows_of settings_form ss h.guests ≡ settings_in bs
  rows = settings-rows h.version bs old h.guests (omega (arith, z.guests, large.settings)) ∙ (λ i. tab (o.guests_is i) (settings_at (o.version_is i) bs))

  long : open_short_in numbers h.depth h.guests h.capacity ss gs ws fs ≡ false
  unfolding open_short_in
  long =
      rw (le-ltb (length ss) (h.guests * settings_wide) (omega (arith, z.guests, large.settings, length-filled h.version bs old h.guests)), le-ltb (length gs) (h.guests * guest_wide) (omega (arith, z.guests, large.guests)), le-ltb (length ws) (h.capacity * waiting_wide) (omega (arith, z.capacity, large.waiting)), le-ltb (length fs) (h.depth * flight_wide) (omega (arith, z.depth, large.flight)))
      refl

  accepts : opening_in numbers h.depth h.guests h.capacity h.rule ss gs ws fs ≡ accept
  unfolding opening_in open_tests
  accepts = let s : all settled (rows_of settings_form ss h.guests) ≡ true = ap (all settled) rows ∙ o.settings in simp (o.counts, o.rules, long, s)

  is_fresh : opened h.depth h.guests h.capacity h.rule ss gs ws fs ≡ handed gs ws fs (record { table = fresh h.depth h.capacity h.rule (settings_in bs); answer = Nothing })
  unfolding opened_in
  is_fresh =
      ap (λ (w : Verdict). opened_by_in numbers w h.depth h.guests h.capacity h.rule ss gs ws fs) accepts
      ∙ ap (λ (l : List Settings). handed_in numbers gs ws fs (record { table = fresh h.depth h.capacity h.rule l; answer = Nothing })) rows
      ∙ handed-numbers gs ws fs (record { table = fresh h.depth h.capacity h.rule (settings_in bs); answer = Nothing })

  is_taken : taken (opened h.depth h.guests h.capacity h.rule ss gs ws fs).0.answer ≡ true
  unfolding handed
  is_taken = ap (λ (x : Handed). taken x.0.answer) is_fresh

  is_known : Known (opened h.depth h.guests h.capacity h.rule ss gs ws fs).0.gate (opened h.depth h.guests h.capacity h.rule ss gs ws fs).1 (opened h.depth h.guests h.capacity h.rule ss gs ws fs).2 (opened h.depth h.guests h.capacity h.rule ss gs ws fs).3
  is_known = opened-known h.depth h.guests h.capacity ss gs ws fs h.rule is_taken

  module _ (r : Outcome) (hs vs es : List ℕ) (p : seen (r, hs, vs, es) ≡ seen (opened h.depth h.guests h.capacity h.rule ss gs ws fs)) where
    -- the tables became the fresh one
    pub opening_became : Became (fresh h.depth h.capacity h.rule (settings_in bs)) gs ws fs r.gate hs vs es
    unfolding handed
    opening_became =
        record {
          tables = ap (λ (x : Seen). (x.0, x.3, x.4, x.5)) p ∙ ap (λ (x : Handed). (x.0.gate, x.1, x.2, x.3)) is_fresh;
          known = subst (λ (x : Seen). Known x.0 x.3 x.4 x.5) (sym p) is_known;
        }

    -- and show it
    pub opening-shows : table_of r.gate hs vs es ≡ fresh h.depth h.capacity h.rule (settings_in bs)
    opening-shows =
        ap (λ (x : Seen). table_of x.0 x.3 x.4 x.5) p
        ∙ (opened-firm numbers numbers-lawful h.depth h.guests h.capacity h.rule ss gs ws fs is_taken).1
        ∙ ap (fresh h.depth h.capacity h.rule) rows
