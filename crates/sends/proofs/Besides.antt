-- The index beside the rows at a send: what goes is the first row of its guest, the index follows it, and the drop behind it moves no row. Assumes nothing.
use Prim.Native.Nat.{ℕ, zero, suc, ◌+◌, ◌-◌, ◌*◌, ◌/◌, ◌%◌, ◌≤◌, ◌<◌}
use mathlib.Core.Path.{◌≡◌, refl, sym, ap, ◌∙◌, subst}
use mathlib.Core.Logic.{◌⊎◌, inl, inr, ⊎_elim}
use mathlib.Core.Bool.{Bool, true, false, not}
use mathlib.Core.List.{List, [], ◌∷◌, ◌++◌, map}
use native.Mathlib.Nat.{mod-lt, div-add-mod'}
use native.Mathlib.Omega.{arith}
use lib.ListN.{length, get_or, get_or-eq_default}
use borrow.Author.Tests.{eq-eqb}
use Rattle.lists.specs.WordsLaws.{both, all-at, all_parts, all_of_map}
use Rattle.lists.specs.Tab.{remove_at, lt_or_le}
use Rattle.lists.specs.RowsLaws.{length-rows}
use Rattle.lists.specs.LinesLaws.{tidy_zero}
use Rattle.rules.specs.Tables.{Request, Table, of, mine, same, lacks, name}
use Rattle.rules.specs.Sound.{distinct}
use Rattle.rules.specs.Chosen.{blank, at}
use Rattle.rules.specs.declared.Flight.{Flight}
use Rattle.rules.specs.declared.Gate.{Gate}
use Rattle.rules.specs.declared.Answer.{Answer}
use Rattle.rules.specs.declared.Phase.{Phase}
use Rattle.table.specs.declared.gates.Decision.{Decision}
use Rattle.table.specs.Columns.{RTAG, waiting_wide, flight_wide, most_guests, most_capacity}
use Rattle.table.specs.View.{decision_of, request_form, table_of, Known}
use Rattle.table.specs.Does.{sending}
use Rattle.table.proofs.Facts.{facts, rows_ask, row_is}
use Rattle.moves.specs.Moves.{gone, Blank, tag_dropped, tags_dropped}
use Rattle.index.specs.Index.{owner_of, Head, Loses, Beside, Snug}
use Rattle.index.proofs.Laws.{beside_alike, alike_column, loses_gone}
use Rattle.sends.specs.Firsts.{FirstOf}
use Rattle.sends.proofs.Phases.{send_asks}

-- THE FIRST OF ITS GUEST

-- a test holds or fails
either : (b : Bool) → (b ≡ true) ⊎ (b ≡ false)
either true = inl refl
either false = inr refl

module _ (n : ℕ) (q : Request) (fl : List Flight) where
  -- another request in front of those of guest n that is of guest n too: then two had one name
  clash : (p : Request) (w : List Request) (i : ℕ) (r : List Request) → i < length w → at w i ≡ q → distinct (map name (p ∷ w) ++ fl) ≡ true → of n p ≡ true → mine n (p ∷ w) ≡ q ∷ r → ⊥
  unfolding distinct
  clash p w i r h e d o m =
      let m' : p ∷ mine n w ≡ q ∷ r = rw o at m in
      let is : p ≡ q = cc in
      let l : lacks (name p) (map name w) ≡ true = (all_parts (λ b. not (same (name p) b)) (map name w) fl (both (lacks (name p) (map name w ++ fl)) (distinct (map name w ++ fl)) d).0).0 in
      let a : not (same (name p) (name (at w i))) ≡ true = all-at (λ b. not (same (name p) (name b))) w blank (sym (all_of_map (λ b. not (same (name p) b)) name w) ∙ l) i h in
      let b : not (same (name p) (name p)) ≡ true = rw (e ∙ sym is) at a in
      let z : false ≡ true = rw (eq-eqb p.guest p.guest refl, eq-eqb p.id p.id refl) at b in
      let y : ◌≡◌ {A = ℕ} 0 1 = cc in
      omega arith

  -- so no earlier one is of guest n
  none_before : (w : List Request) (i : ℕ) (r : List Request) → i < length w → at w i ≡ q → distinct (map name w ++ fl) ≡ true → mine n w ≡ q ∷ r → (j : ℕ) → j < i → of n (at w j) ≡ true → ⊥
  unfolding distinct
  none_before [] i r h e d m j l o = omega arith
  none_before (p ∷ w) zero r h e d m j l o = omega arith
  none_before (p ∷ w) (suc i) r h e d m zero l o = clash p w i r (omega arith) e d o m
  none_before (p ∷ w) (suc i) r h e d m (suc j) l o =
      ⊎_elim
      (λ a. clash p w i r (omega arith) e d a m)
      (λ a. none_before w i r (omega arith) e (both (lacks (name p) (map name w ++ fl)) (distinct (map name w ++ fl)) d).1 (rw a at m) j (omega arith) o)
      (either (of n p))

-- behind the requests of a table that is lent with just its places there are only zeros
pub snug_blank : (g : Gate) (gs ws fs : List ℕ) → Known g gs ws fs → length ws ≡ g.setup.capacity * waiting_wide → Blank g.waiting ws
snug_blank g gs ws fs k long j low =
    ⊎_elim
    (λ (l : j < length ws).
    ap (λ (i : ℕ). get_or ws i 0) (rest_of j)
    ∙ tidy_zero waiting_wide g.setup.capacity g.waiting (omega arith) ws k.waiting_room k.whole.waiting_unused (j / waiting_wide) (j % waiting_wide) (omega (arith, low, rest_of j, below j)) (omega (arith, l, long, rest_of j)) (below j))
    (λ (l : length ws ≤ j). get_or-eq_default ws 0 l)
    (lt_or_le j (length ws))
  where
    below : (i : ℕ) → i % waiting_wide < waiting_wide
    below i = let some : 0 < waiting_wide = omega arith in mod-lt i some

    rest_of : (i : ℕ) → i ≡ (i / waiting_wide) * waiting_wide + i % waiting_wide
    rest_of i = sym (div-add-mod' i waiting_wide)

module _ (g : Gate) (gs ws fs : List ℕ) (k : Known g gs ws fs) (place : ℕ) (here : place < g.waiting) where
  abbrev t : Table
  t = table_of g gs ws fs

  -- whose request it is, by its row
  owner-known : owner_of ws place < most_guests
  owner-known = let f = facts g gs ws fs k in omega (arith, f.owners place here, f.counts.guest-count.1)

  -- the first of its guest is the first by the rows
  pub first_head : FirstOf t.waiting place → Head ws (owner_of ws place) 0 place
  first_head h =
      let q = at t.waiting place in
      let n = q.guest in
      let m : mine n t.waiting ≡ q ∷ mine n (remove_at place t.waiting) = h n ∙ rw (eq-eqb n n refl) in
      record {
        low = omega arith;
        own = refl;
        before = λ j low l own.
            let there : j < g.waiting = omega arith in
            let its : (at t.waiting j).guest ≡ n = ap Request.guest (row_is g gs ws fs k j there) ∙ own ∙ sym (ap Request.guest (row_is g gs ws fs k place here)) in
            none_before n q t.flight t.waiting place (mine n (remove_at place t.waiting)) (omega (arith, length-rows request_form ws g.waiting)) refl (facts g gs ws fs k).firm.names_once m j l (eq-eqb (at t.waiting j).guest n its);
      }

  -- what a request asks that leaves the rows and their index
  pub leave_asks : g.flight < g.setup.depth → FirstOf t.waiting place → (ix : List ℕ) → Beside ws ix g.waiting × Snug g ws ix
      → ((place < g.waiting) × (g.waiting * waiting_wide ≤ length ws) × (g.flight * flight_wide + flight_wide ≤ length fs))
      × (((g.waiting ≤ most_capacity) × (owner_of ws place < most_guests) × Head ws (owner_of ws place) 0 place) × (Beside ws ix g.waiting × (0 < length ix → Blank g.waiting ws)))
  leave_asks free h ix b = (send_asks g gs ws fs k free place here, (((rows_ask g gs ws fs k).0, owner-known, first_head h), (b.0, λ some. snug_blank g gs ws fs k (b.1 some))))

  -- and the drop behind it
  pub behind_asks : {vs ix : List ℕ} (guest : ℕ) → guest ≡ owner_of ws place → Beside vs ix (g.waiting - 1) → (guest < most_guests) × Beside vs ix (g.waiting - 1)
  behind_asks guest e b = (omega (arith, e, owner-known), b)

-- WHAT STANDS BESIDE THE ROWS THEN

-- the index follows the row that goes
pub beside_gone : (ws vs ix ix' : List ℕ) (count place guest : ℕ) → place < count → count * waiting_wide ≤ length ws → Head ws (owner_of ws place) 0 place → Beside ws ix count
    → vs ≡ gone place count ws → guest ≡ owner_of ws place
    → ((us us' : List ℕ) → Beside us ix count → Head us guest 0 place → Loses us us' count place → Beside us' ix' (count - 1)) → Beside vs ix' (count - 1)
beside_gone ws vs ix ix' count place guest here room h b e eg kept = kept ws vs b (rw eg h) (rw e (loses_gone ws count place here room))

-- the drop leaves it
pub beside_dropped : (ws us ix : List ℕ) (n g d : ℕ) → us ≡ tags_dropped g d ws n → Beside ws ix n → Beside us ix n
beside_dropped ws us ix n g d e b = rw e (beside_alike ws (tags_dropped g d ws n) n (alike_column RTAG (tag_dropped g d ws) n ws n (omega arith) (omega arith)) b)

-- the gate that is handed back counts the rows
pub beside_sent : {vs ix : List ℕ} (g : Gate) (phase : Phase) (guest id : ℕ) (d : Decision) → d ≡ sending phase guest id g → Beside vs ix (g.waiting - 1) → Beside vs ix d.gate.waiting
beside_sent {vs} {ix} g phase guest id d e b = subst (λ (x : Decision). Beside vs ix x.gate.waiting) (sym e) b

-- nothing goes
pub beside_decided : {vs ix : List ℕ} (g : Gate) (a : Answer) (d : Decision) → d ≡ decision_of g a → Beside vs ix g.waiting → Beside vs ix d.gate.waiting
beside_decided {vs} {ix} g a d e b = subst (λ (x : Decision). Beside vs ix x.gate.waiting) (sym e) b
