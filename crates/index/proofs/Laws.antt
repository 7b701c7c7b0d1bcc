-- What the users of an index need. It stays where the guests of the rows stay; every row is reached from its guest's first along the next ones, in rising order, and
-- from its guest's last none lies further on; and what the moves of the rows do to the guests. Assumes nothing.
use Prim.Native.Nat.{ℕ, ◌+◌, ◌-◌, ◌*◌, ◌≤◌, ◌<◌}
use mathlib.Core.Path.{◌≡◌, refl, sym, ap, ◌∙◌}
use mathlib.Core.Logic.{⊎_elim}
use mathlib.Core.List.{List}
use native.Mathlib.Omega.{arith}
use lib.Dec.{eqb, ltb}
use lib.ListN.{length, get_or}
use borrow.Author.Tests.{eq-eqb, ne_eqb, lt-ltb, le-ltb}
use Rattle.lists.specs.Words.{if◌then◌else◌}
use Rattle.lists.specs.Tab.{lt_or_le}
use Rattle.lists.specs.Stores.{stores, stores_other, stores_at}
use Rattle.lists.specs.Parts.{closed, shut-before, shut-moved}
use Rattle.rules.specs.Tables.{Request}
use Rattle.rules.specs.declared.Gate.{Gate}
use Rattle.rules.specs.declared.Phase.{Phase}
use Rattle.rules.specs.declared.Refusal.{Refusal}
use Rattle.rules.specs.declared.Answer.{Answer}
use Rattle.rules.specs.declared.Answer.TheVariants.{Sent, Nothing, Refused}
use Rattle.table.specs.declared.gates.Decision.{Decision}
use Rattle.table.specs.Does.{sending}
use Rattle.table.specs.Columns.{GUEST, waiting_wide}
use Rattle.table.specs.View.{decision_of, request_form}
use Rattle.moves.specs.Moves.{gone, appended}
use Rattle.index.specs.Index.{first_at, last_at, next_at, owner_of, NoRow, Head, Tail, Leads, Trails, Indexed, Beside, Alike, Gains, Loses, stood, stands}

-- THE SAME GUESTS

module _ (ws ws' : List ℕ) (n : ℕ) (same : Alike ws ws' n) where
  -- a guest has no row where it had none
  pub no_row_alike : (g from upto : ℕ) → upto ≤ n → NoRow ws g from upto → NoRow ws' g from upto
  no_row_alike g from upto fit r j low high own = r j low high (sym (same j (omega (arith, fit, high))) ∙ own)

  head_alike : {g from k : ℕ} → k < n → Head ws g from k → Head ws' g from k
  head_alike {g} {from} {k} here h = record { low = h.low; own = same k here ∙ h.own; before = no_row_alike g from k (omega (arith, here)) h.before }

  -- a number that says its first row still does
  pub leads_alike : {g from x : ℕ} → Leads ws g from n x → Leads ws' g from n x
  leads_alike {g} {from} l = record { none = λ e. no_row_alike g from n (omega arith) (l.none e); some = λ k e. let h = l.some k e in (h.0, head_alike h.0 h.1) }

  -- and one that says its last row
  pub trails_alike : {g x : ℕ} → Trails ws g n x → Trails ws' g n x
  trails_alike {g} l =
      record {
        none = λ e. no_row_alike g 0 n (omega arith) (l.none e);
        some = λ k e. let h = l.some k e in record { inside = h.inside; own = same k h.inside ∙ h.own; behind = no_row_alike g (k + 1) n (omega arith) h.behind };
      }

  -- the index of rows whose guests are the same
  pub indexed_alike : {ix : List ℕ} → Indexed ws ix n → Indexed ws' ix n
  indexed_alike {ix} i =
      record {
        long = i.long;
        few = i.few;
        owned = λ k h. omega (arith, same k h, i.owned k h);
        first = λ g h. leads_alike (i.first g h);
        last = λ g h. trails_alike (i.last g h);
        next = λ k h. rw (same k h) (leads_alike (i.next k h));
      }

  -- and where there may be none
  pub beside_alike : {ix : List ℕ} → Beside ws ix n → Beside ws' ix n
  beside_alike b some = indexed_alike (b some)

-- no number, no index
pub beside_none : {ws ix : List ℕ} {n : ℕ} → length ix ≡ 0 → Beside ws ix n
beside_none e some = absurd (omega (arith, e, some))

-- a column behind the guests was stored to, in any rows
pub alike_column : (col : ℕ) (value : ℕ → ℕ) (m : ℕ) (ws : List ℕ) (n : ℕ) → 0 < col → col < waiting_wide → Alike ws (stores (λ k. k * waiting_wide + col) value m ws) n
alike_column col value m ws n some fit k h = stores_other (λ i. i * waiting_wide + col) value ws m (k * waiting_wide + GUEST) (λ i l e. omega (arith, some, fit, e))

-- THE MOVES OF THE ROWS

-- a request stands last
pub gains_appended : (ws : List ℕ) (n : ℕ) (q : Request) → n * waiting_wide + waiting_wide ≤ length ws → Gains ws (appended n q ws) n q.guest
gains_appended ws n q room =
    record {
      same = λ k h. stores_other (λ j. n * waiting_wide + j) (λ j. get_or (request_form.line q) j 0) ws waiting_wide (k * waiting_wide + GUEST) (λ j l e. omega (arith, h, e));
      own = stores_at (λ j. n * waiting_wide + j) (λ j. get_or (request_form.line q) j 0) ws (λ i j l e. omega (arith, l, e)) waiting_wide GUEST (omega arith) (omega (arith, room));
    }

-- a request goes
pub loses_gone : (ws : List ℕ) (n place : ℕ) → place < n → n * waiting_wide ≤ length ws → Loses ws (gone place n ws) n place
loses_gone ws n place here room =
    record {
      same = λ k h. shut-before waiting_wide (place * waiting_wide) (n * waiting_wide) ws (omega (arith, here)) room (k * waiting_wide + GUEST) (omega (arith, h));
      moved = λ k l h.
          shut-moved waiting_wide (place * waiting_wide) (n * waiting_wide) ws (omega (arith, here)) room (k * waiting_wide + GUEST) (omega (arith, l)) (omega (arith, h))
          ∙ ap (λ (i : ℕ). get_or ws i 0) (omega arith);
    }

-- THE ROWS OF A GUEST, where a number says the first or the last of them

-- x says the row of guest g at `place`, the first from `from` on, and row j is no earlier
pub record Leading (ws : List ℕ) (g from n x j : ℕ) : Type 0 where
  pub place : ℕ
  pub says : x ≡ place + 1
  pub inside : place < n
  pub upto : place ≤ j
  pub head : Head ws g from place

-- x says the row of guest g at `place`, the last of the first n, and row j is no later
pub record Trailing (ws : List ℕ) (g n x j : ℕ) : Type 0 where
  pub place : ℕ
  pub says : x ≡ place + 1
  pub onto : j ≤ place
  pub tail : Tail ws g n place

module _ {ws : List ℕ} {g : ℕ} where
  -- a row of the guest: the first is said, and is no later
  pub leads-row : {from n x : ℕ} → Leads ws g from n x → (j : ℕ) → from ≤ j → j < n → owner_of ws j ≡ g → Leading ws g from n x j
  leads-row {from} {n} {x} l j low high own =
      ⊎_elim
      (λ (some : 0 < x).
      let q : x ≡ x - 1 + 1 = omega arith in
      let h = l.some (x - 1) q in
      ⊎_elim
      (λ (early : j < x - 1). absurd (h.1.before j low early own))
      (λ (late : x - 1 ≤ j). record { place = x - 1; says = q; inside = h.0; upto = late; head = h.1 })
      (lt_or_le j (x - 1)))
      (λ (none : x ≤ 0). absurd (l.none (omega arith) j low high own))
      (lt_or_le 0 x)

  -- the last is said, and is no earlier
  pub trails_row : {n x : ℕ} → Trails ws g n x → (j : ℕ) → j < n → owner_of ws j ≡ g → Trailing ws g n x j
  trails_row {n} {x} l j high own =
      ⊎_elim
      (λ (some : 0 < x).
      let q : x ≡ x - 1 + 1 = omega arith in
      let h = l.some (x - 1) q in
      ⊎_elim
      (λ (late : x - 1 < j). absurd (h.behind j (omega arith) high own))
      (λ (early : j ≤ x - 1). record { place = x - 1; says = q; onto = early; tail = h })
      (lt_or_le (x - 1) j))
      (λ (none : x ≤ 0). absurd (l.none (omega arith) j (omega arith) high own))
      (lt_or_le 0 x)

  -- no number is past how many rows there are
  pub leads-fits : {from n x : ℕ} → Leads ws g from n x → x ≤ n
  leads-fits {from} {n} {x} l = ⊎_elim (λ (some : 0 < x). omega (arith, (l.some (x - 1) (omega arith)).0)) (λ (none : x ≤ 0). omega arith) (lt_or_le 0 x)

  pub trails_fits : {n x : ℕ} → Trails ws g n x → x ≤ n
  trails_fits {n} {x} l = ⊎_elim (λ (some : 0 < x). omega (arith, (l.some (x - 1) (omega arith)).inside)) (λ (none : x ≤ 0). omega arith) (lt_or_le 0 x)

  -- there is one first row
  pub head_once : {from j k : ℕ} → Head ws g from j → Head ws g from k → j ≡ k
  head_once {from} {j} {k} a b =
      ⊎_elim
      (λ (l : j < k). absurd (b.before j a.low l a.own))
      (λ (m : k ≤ j). ⊎_elim (λ (l : k < j). absurd (a.before k b.low l b.own)) (λ (l : j ≤ k). omega arith) (lt_or_le k j))
      (lt_or_le j k)

module _ {ws ix : List ℕ} {n : ℕ} (i : Indexed ws ix n) where
  -- every row has a first one of its guest, no later than itself
  pub first_of : (k : ℕ) → k < n → Leading ws (owner_of ws k) 0 n (first_at ix (owner_of ws k)) k
  first_of k h = leads-row (i.first (owner_of ws k) (i.owned k h)) k (omega arith) h refl

  -- and a last one, no earlier
  pub last_of : (k : ℕ) → k < n → Trailing ws (owner_of ws k) n (last_at ix (owner_of ws k)) k
  last_of k h = trails_row (i.last (owner_of ws k) (i.owned k h)) k h refl

  -- from row k of guest g one goes on to the next
  pub next_of : {g : ℕ} (k : ℕ) → k < n → owner_of ws k ≡ g → Leads ws g (k + 1) n (next_at ix k)
  next_of k h e = rw e at (i.next k h)

-- ALONG THE ROWS OF A GUEST, from its first on: `from` is behind the row that was passed last

-- every row of guest g before `from` is as P says
abbrev pub Passed : (P : ℕ → Type 0) (ws : List ℕ) (g from : ℕ) → Type 0
Passed P ws g from = (j : ℕ) → j < from → owner_of ws j ≡ g → P j

module _ (P : ℕ → Type 0) (ws : List ℕ) (g : ℕ) where
  -- none at first
  pub passed_none : Passed P ws g 0
  passed_none j h own = absurd (omega (arith, h))

  -- row k is the next
  pub passed-next : (from k : ℕ) → Passed P ws g from → Head ws g from k → P k → Passed P ws g (k + 1)
  passed-next from k p h q j l own =
      ⊎_elim
      (λ (before : j < k). ⊎_elim (λ (early : j < from). p j early own) (λ (late : from ≤ j). absurd (h.before j late before own)) (lt_or_le j from))
      (λ (here : k ≤ j). let e : j ≡ k = omega arith in rw e q)
      (lt_or_le j k)

  -- there is no next
  pub passed-all : (from n : ℕ) → Passed P ws g from → NoRow ws g from n → Passed P ws g n
  passed-all from n p r j l own = ⊎_elim (λ (early : j < from). p j early own) (λ (late : from ≤ j). absurd (r j late l own)) (lt_or_le j from)

-- how many rows there may be from the one on that x says: a number that falls along the next ones
unfoldable pub ahead : (n x : ℕ) → ℕ
ahead n x = if eqb x 0 then 0 else n + 1 - x

-- it falls
pub ahead_less : {ws : List ℕ} {g n x : ℕ} (k : ℕ) → k < n → Leads ws g (k + 1) n x → ahead n x < ahead n (k + 1)
unfolding ahead
ahead_less {ws} {g} {n} {x} k h l =
    ⊎_elim
    (λ (some : 0 < x).
    let f = l.some (x - 1) (omega arith) in
    rw (ne_eqb x 0 (λ q. omega (arith, q, some)), ne_eqb (k + 1) 0 (λ q. omega (arith, q))) (omega (arith, f.0, f.1.low)))
    (λ (none : x ≤ 0). rw (eq-eqb x 0 (omega arith), ne_eqb (k + 1) 0 (λ q. omega (arith, q))) (omega arith))
    (lt_or_le 0 x)

-- WHERE THE ROWS STAND

module _ (ix ws : List ℕ) where
  -- without an index, where they stood
  pub stood-none : length ix ≡ 0 → stood ix ws ≡ ws
  unfolding stood
  stood-none e = rw (le-ltb 0 (length ix) (omega (arith, e)))

  -- beside one, a row further back
  pub stood-some : 0 < length ix → stood ix ws ≡ closed waiting_wide ws
  unfolding stood
  stood-some l = rw (lt-ltb 0 (length ix) l)

-- an index as long says the same
pub stood-kept : (ix ix' ws : List ℕ) → length ix' ≡ length ix → stood ix' ws ≡ stood ix ws
unfolding stood
stood-kept ix ix' ws e = ap (λ (n : ℕ). if ltb 0 n then closed waiting_wide ws else ws) e

-- whatever the answer
pub stands-kept : (ix ix' ws : List ℕ) (a : Answer) → length ix' ≡ length ix → stands ix' a ws ≡ stands ix a ws
unfolding stands
stands-kept ix ix' ws (Sent p g i) e = stood-kept ix ix' ws e
stands-kept ix ix' ws Nothing e = refl
stands-kept ix ix' ws (Refused r) e = refl

-- without an index nothing has moved
pub stands-none : (ix ws : List ℕ) (a : Answer) → length ix ≡ 0 → stands ix a ws ≡ ws
unfolding stands
stands-none ix ws (Sent p g i) e = stood-none ix ws e
stands-none ix ws Nothing e = refl
stands-none ix ws (Refused r) e = refl

-- nor where nothing was sent
pub stands_else : (ix ws : List ℕ) (a : Answer) → ((p : Phase) (g i : ℕ) → a ≡ Sent p g i → ⊥) → stands ix a ws ≡ ws
unfolding stands
stands_else ix ws (Sent p g i) n = absurd (n p g i refl)
stands_else ix ws Nothing n = refl
stands_else ix ws (Refused r) n = refl

-- beside one a send has moved the rows
pub stands-moved : (ix ws : List ℕ) (a : Answer) {p : Phase} {g i : ℕ} → 0 < length ix → a ≡ Sent p g i → stands ix a ws ≡ closed waiting_wide ws
unfolding stands
stands-moved ix ws a l e = ap (λ (x : Answer). stands ix x ws) e ∙ stood-some ix ws l

module _ (ix ws : List ℕ) (d : Decision) (g : Gate) where
  -- a request was sent
  pub stands_sent : {p : Phase} {guest id : ℕ} → d ≡ sending p guest id g → stands ix d.answer ws ≡ stood ix ws
  unfolding stands
  stands_sent e = ap (λ (x : Decision). stands ix x.answer ws) e

  -- nothing went
  pub stands_still : d ≡ decision_of g Nothing → stands ix d.answer ws ≡ ws
  unfolding stands
  stands_still e = ap (λ (x : Decision). stands ix x.answer ws) e

  -- the event was refused
  pub stands-refused : {r : Refusal} → d ≡ decision_of g (Refused r) → stands ix d.answer ws ≡ ws
  unfolding stands
  stands-refused e = ap (λ (x : Decision). stands ix x.answer ws) e
