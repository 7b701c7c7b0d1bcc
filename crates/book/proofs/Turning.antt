-- What one event does to a page: a refused one nothing, an accepted one changes the figures of the guests that it names; and the table of a page is
-- the gate's. Assumes nothing.
use mathlib.Core.Path.{◌≡◌, refl, sym, ap, ◌∙◌}
use mathlib.Core.Bool.{Bool, true, false, true≢false, false≢true}
use mathlib.Core.List.{List, [], ◌∷◌}
use Prim.Native.Nat.{ℕ, ◌<◌}
use lib.Dec.{eqb}
use lib.ListN.{length, length-set, get_or-map}
use lib.Seq.{get_or-set_same, get_or-set_other}
use borrow.Author.Tests.{eqb-true, eqb-false}
use Rattle.lists.specs.Words.{if◌then◌else◌}
use Rattle.rules.specs.Tables.{Table, nobodys}
use Rattle.rules.specs.Answers.{taken}
use Rattle.rules.specs.Events.{enter}
use Rattle.rules.specs.Refusals.{accepted}
use Rattle.rules.specs.Run.{step, after}
use Rattle.rules.specs.declared.Guest.{Guest}
use Rattle.rules.specs.declared.Event.{Event}
use Rattle.rules.specs.declared.Event.TheVariants.{Arrival, Completion, Tick}
use Rattle.rules.specs.declared.Answer.{Answer}
use Rattle.rules.specs.declared.Answer.TheVariants.{Nothing, Sent, Refused}
use Rattle.rules.proofs.StepSound.{refused_keeps}
use Rattle.rules.proofs.Answered.{step-taken}
use Rattle.book.specs.Figures.{Figures, unseen, unseens, figures_at, change, arrived, completed as ended, counted}
use Rattle.book.specs.Page.{Page, booked, turned, turned_by}

-- FIGURES

-- nothing is seen of any guest at first
pub unseen-at : (gs : List Guest) (g : ℕ) → figures_at (unseens gs) g ≡ unseen
unseen-at gs g = get_or-map (λ h. unseen) gs g nobodys

-- one guest's change is seen at that guest alone
pub changed-at : (h g : ℕ) (c : Figures → Figures) (l : List Figures) → g < length l
    → figures_at (change h c l) g ≡ (if eqb h g then c (figures_at l g) else figures_at l g)
changed-at h g c l k = go (eqb h g) refl
  where
    go : (b : Bool) → eqb h g ≡ b → figures_at (change h c l) g ≡ (if b then c (figures_at l g) else figures_at l g)
    go true e = let q = eqb-true h g e in rw q (get_or-set_same l g (c (figures_at l g)) unseen k)
    go false e = get_or-set_other l h g (c (figures_at l h)) unseen (λ q. eqb-false h g e (sym q))

-- every guest keeps its figures' place
pub counted_long : (e : Event) (l : List Figures) → length (counted e l) ≡ length l
counted_long (Arrival a now) l = length-set l a.guest (arrived (figures_at l a.guest))
counted_long (Completion f now) l = length-set l f.guest (ended (figures_at l f.guest))
counted_long (Tick now) l = refl

-- as many guests have figures as before
pub booked_long : (a : Answer) (e : Event) (u v : Table) (p : Page) → length (booked a e u v p).figures ≡ length p.figures
unfolding booked
booked_long Nothing e u v p = counted_long e p.figures
booked_long (Sent ph h i) e u v p = length-set (counted e p.figures) h _ ∙ counted_long e p.figures
booked_long (Refused r) e u v p = refl

-- THE PAGE

-- after an answer that is no refusal the page has the table that it left
booked-table : (a : Answer) (e : Event) (u v : Table) (p : Page) → taken a ≡ true → (booked a e u v p).table ≡ v
unfolding booked
booked-table Nothing e u v p h = refl
booked-table (Sent ph g i) e u v p h = refl
booked-table (Refused r) e u v p h = absurd (false≢true h)

-- after a refusal the page is as it was
booked-refused : (a : Answer) (e : Event) (u v : Table) (p : Page) → taken a ≡ false → booked a e u v p ≡ p
unfolding booked
booked-refused Nothing e u v p h = absurd (true≢false h)
booked-refused (Sent ph g i) e u v p h = absurd (true≢false h)
booked-refused (Refused r) e u v p h = refl

-- A refused event leaves the page as it was.
pub turned-refused : (p : Page) (e : Event) → accepted p.table e ≡ false → turned p e ≡ p
unfolding turned
turned-refused p e h = booked-refused (step p.table e).answer e (enter p.table e) (step p.table e).table p (step-taken p.table e ∙ h)

-- An event turns the page's table as the gate turns it.
pub turned-table : (p : Page) (e : Event) → (turned p e).table ≡ (step p.table e).table
unfolding turned
turned-table p e = go (accepted p.table e) refl
  where
    go : (b : Bool) → accepted p.table e ≡ b → (turned p e).table ≡ (step p.table e).table
    go true h = booked-table (step p.table e).answer e (enter p.table e) (step p.table e).table p (step-taken p.table e ∙ h)
    go false h = ap Page.table (turned-refused p e h) ∙ sym (refused_keeps p.table e h)

-- The table after a run of events is the gate's.
pub turned-after : (es : List Event) (p : Page) → (turned_by p es).table ≡ after p.table es
unfolding turned_by after
turned-after [] p = refl
turned-after (e ∷ es) p = turned-after es (turned p e) ∙ ap (λ (t : Table). after t es) (turned-table p e)

-- What holds of a page and is kept by each event holds after a run of events.
pub turned_keeps : (P : Page → Type 0) → ((p : Page) (e : Event) → P p → P (turned p e)) → (es : List Event) (p : Page) → P p → P (turned_by p es)
unfolding turned_by
turned_keeps P keeps [] p h = h
turned_keeps P keeps (e ∷ es) p h = turned_keeps P keeps es (turned p e) (keeps p e h)
