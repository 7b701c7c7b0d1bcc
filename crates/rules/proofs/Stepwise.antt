-- A run worked out event by event: the table after an event is worked out, number by number, before the next event reads it. Computed as it is defined, a run
-- works each number out anew wherever it is read, so the tables of readings compute by these and cite that they are the same. Assumes nothing.
use mathlib.Core.Path.{◌≡◌, refl, ap, ◌∙◌, sym}
use mathlib.Core.List.{List, [], ◌∷◌}
use Prim.Native.Nat.{ℕ, zero, suc}
use Rattle.rules.specs.Tables.{Settings, Guest, Request, Flight, Table}
use Rattle.rules.specs.Answers.{Printed, shown}
use Rattle.rules.specs.Events.{Event}
use Rattle.rules.specs.Run.{step, after}
use Rattle.rules.proofs.Trials.{lines, worked}

-- a number, worked out before it is handed on
unfoldable pub forced : {A : Type 0} → ℕ → (ℕ → A) → A
forced zero k = k zero
forced (suc n) k = k (suc n)

pub forced_is : {A : Type 0} → (n : ℕ) (k : ℕ → A) → forced n k ≡ k n
unfolding forced
forced_is zero k = refl
forced_is (suc n) k = refl

-- the numbers of settings
abbrev forced_settings : {A : Type 0} → Settings → (Settings → A) → A
forced_settings s k =
    forced s.reservation (λ r. forced s.limit (λ l. forced s.shares (λ w. forced s.credit (λ c.
    k (record { reservation = r; limit = l; shares = w; credit = c })))))

-- of a guest
abbrev forced_guest : {A : Type 0} → Guest → (Guest → A) → A
forced_guest h k =
    forced_settings h.settings (λ s. forced h.rnext (λ r. forced h.lnext (λ l. forced h.snext (λ n.
    k (record { settings = s; rnext = r; lnext = l; snext = n })))))

-- of a request that waits
abbrev forced_request : {A : Type 0} → Request → (Request → A) → A
forced_request q k =
    forced q.guest (λ g. forced q.id (λ i. forced q.rtag (λ r. forced q.ltag (λ l. forced q.stag (λ s. forced q.cost (λ c.
    k (record { guest = g; id = i; rtag = r; ltag = l; stag = s; cost = c })))))))

-- of one in flight
abbrev forced_flight : {A : Type 0} → Flight → (Flight → A) → A
forced_flight f k = forced f.guest (λ g. forced f.id (λ i. k (record { guest = g; id = i })))

-- of all in a list
unfoldable pub forced_all : {X A : Type 0} → (X → (X → A) → A) → List X → (List X → A) → A
forced_all f [] k = k []
forced_all f (x ∷ xs) k = f x (λ y. forced_all f xs (λ ys. k (y ∷ ys)))

-- of a table
abbrev forced_table : {A : Type 0} → Table → (Table → A) → A
forced_table t k =
    forced t.setup.depth (λ d. forced t.setup.capacity (λ c. forced t.setup.rule (λ r. forced t.time (λ n.
    forced_all forced_guest t.guests (λ gs. forced_all forced_request t.waiting (λ ws. forced_all forced_flight t.flight (λ fs.
    k (record { setup = record { depth = d; capacity = c; rule = r }; time = n; guests = gs; waiting = ws; flight = fs }))))))))

-- LAWS: what is handed on is what was given

all_is : {X A : Type 0} → (f : X → (X → A) → A) → ((x : X) (k : X → A) → f x k ≡ k x) → (xs : List X) (k : List X → A) → forced_all f xs k ≡ k xs
unfolding forced_all
all_is f e [] k = refl
all_is f e (x ∷ xs) k = e x (λ y. forced_all f xs (λ ys. k (y ∷ ys))) ∙ all_is f e xs (λ ys. k (x ∷ ys))

guest_is : {A : Type 0} → (h : Guest) (k : Guest → A) → forced_guest h k ≡ k h
guest_is h k =
    forced_is h.settings.reservation _ ∙ forced_is h.settings.limit _ ∙ forced_is h.settings.shares _ ∙ forced_is h.settings.credit _
    ∙ forced_is h.rnext _ ∙ forced_is h.lnext _ ∙ forced_is h.snext _

request_is : {A : Type 0} → (q : Request) (k : Request → A) → forced_request q k ≡ k q
request_is q k =
    forced_is q.guest _ ∙ forced_is q.id _ ∙ forced_is q.rtag _ ∙ forced_is q.ltag _ ∙ forced_is q.stag _ ∙ forced_is q.cost _

flight_is : {A : Type 0} → (f : Flight) (k : Flight → A) → forced_flight f k ≡ k f
flight_is f k = forced_is f.guest _ ∙ forced_is f.id _

table_is : {A : Type 0} → (t : Table) (k : Table → A) → forced_table t k ≡ k t
table_is t k =
    forced_is t.setup.depth _ ∙ forced_is t.setup.capacity _ ∙ forced_is t.setup.rule _ ∙ forced_is t.time _
    ∙ all_is forced_guest guest_is t.guests _ ∙ all_is forced_request request_is t.waiting _ ∙ all_is forced_flight flight_is t.flight _

-- RUNS

-- what is printed of a run; to unfold it is to unfold all that a run computes with
unfoldable pub stepwise : Table → List Event → List Printed
unfolding worked forced forced_all
stepwise t [] = []
stepwise t (e ∷ es) = shown (step t e).answer ∷ forced_table (step t e).table (λ u. stepwise u es)

-- it is what is printed
pub printed : (t : Table) (es : List Event) → lines t es ≡ stepwise t es
unfolding stepwise lines
printed t [] = refl
printed t (e ∷ es) =
    ap (λ (l : List Printed). shown (step t e).answer ∷ l) (printed (step t e).table es ∙ sym (table_is (step t e).table (λ u. stepwise u es)))

-- what f reads off the table after a run
unfoldable pub stepwise_then : {A : Type 0} → (Table → A) → Table → List Event → A
unfolding worked forced forced_all
stepwise_then f t [] = f t
stepwise_then f t (e ∷ es) = forced_table (step t e).table (λ u. stepwise_then f u es)

-- it is that
pub left : {A : Type 0} → (f : Table → A) (t : Table) (es : List Event) → f (after t es) ≡ stepwise_then f t es
unfolding stepwise_then after
left f t [] = refl
left f t (e ∷ es) = left f (step t e).table es ∙ sym (table_is (step t e).table (λ u. stepwise_then f u es))
