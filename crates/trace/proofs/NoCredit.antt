-- A trace of version 1 cannot say a credit: no guest of any table that its events find has one, so the rule of its share tags is document 02's K3.
-- Assumes nothing.
use Prim.Native.Nat.{ℕ, zero, suc}
use mathlib.Core.Path.{◌≡◌, refl, sym, ap, ◌∙◌, subst}
use mathlib.Core.List.{List}
use lib.ListN.{get_or, get_or-map}
use Rattle.lists.specs.Tab.{tab}
use Rattle.rules.specs.Tables.{Table, nobodys, owner}
use Rattle.rules.specs.declared.Settings.{Settings}
use Rattle.rules.specs.declared.Guest.{Guest}
use Rattle.rules.specs.Run.{newcomer, fresh}
use Rattle.rules.proofs.SameSettings.{SameSettings, run-settings, same-owner}
use Rattle.trace.specs.Header.{version_of, guests_of, credit_at, settings_at, settings_in}
use Rattle.trace.specs.Event.{events_of}
use Rattle.trace.specs.Answers.{event_bytes, opening, table_at}
use Rattle.trace.proofs.Runs.{run, table-run}

-- of settings without a credit, given by a function of the place, none has one
none_has : (n : ℕ) (f : ℕ → Settings) → ((k : ℕ) → (f k).credit ≡ 0) → (g : ℕ) → (get_or (tab n f) g nobodys.settings).credit ≡ 0
none_has zero f h g = refl
none_has (suc n) f h zero = h zero
none_has (suc n) f h (suc g) = none_has n (λ k. f (suc k)) (λ k. h (suc k)) g

-- so it is of the table that the header opens
opens_without : (bs : List ℕ) → version_of bs ≡ 1 → (g : ℕ) → (owner (opening bs).guests g).settings.credit ≡ 0
unfolding fresh credit_at
opens_without bs one g =
    ap (λ (h : Guest). h.settings.credit) (get_or-map newcomer (settings_in bs) g nobodys.settings)
    ∙ none_has (guests_of bs) (settings_at (version_of bs) bs) (λ k. rw one refl) g

-- and of the table that event k finds
pub no_credit : (bs : List ℕ) → version_of bs ≡ 1 → (k g : ℕ) → (owner (table_at bs k).guests g).settings.credit ≡ 0
no_credit bs one k g =
    let es = events_of (version_of bs) k (event_bytes bs) in
    let same = subst (λ (u : Table). SameSettings u (opening bs)) (sym (table-run (opening bs) es)) (run-settings (run es) (opening bs)) in
    ap Settings.credit (same-owner (table_at bs k) (opening bs) same g) ∙ opens_without bs one g
