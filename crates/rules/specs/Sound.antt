-- Document 01, "A table is sound when": its rules, in its order.
use Rattle.std.specs.Prelude.{Bool, true, false, not, ◌&&◌, ◌||◌, List, [], ◌∷◌, ℕ, ◌+◌, ltb, leb, eqb, length}
use Rattle.lists.specs.Words.{all, below}
use Rattle.rules.specs.Numbers.{ceiling, most_credit, most_cost, most_delta, within, idle_bound}
use Rattle.rules.specs.Tables.{Settings, Guest, Request, Flight, Table, reserved, limited, rspacing, lspacing, sspacing, owner, mine, lacks, names}

-- "Depth .. 1 to 64", "1 to 64 guests", "Capacity .. 1 to 1,024"
unfoldable pub counted : (depth guests capacity : ℕ) → Bool
counted d n c = within 1 64 d && within 1 64 n && within 1 1024 c

-- "reservation 0 to 1,000,000 .. limit 0 to 1,000,000 .. shares 1 to 1,000,000. A reservation above a non-zero limit is bad; equal is good."
-- Document 02, K6: "a credit c from 0 to 256"
unfoldable pub settled : Settings → Bool
settled s =
    leb s.reservation 1000000 && leb s.limit 1000000 && within 1 1000000 s.shares && leb s.credit most_credit
    && (not (limited s) || leb s.reservation s.limit)

-- "settings lie in the ranges"
unfoldable pub ranges : Table → Bool
ranges t = counted t.setup.depth (length t.guests) t.setup.capacity && all (λ h. settled h.settings) t.guests

-- Document 02, K7: "a rule other than 1 or 2 is 1 at opening, 3 in an open table". It is no count: no length depends on it
unfoldable pub ruled : (rule : ℕ) → Bool
ruled r = eqb r 1 || eqb r 2

-- "counts do not exceed capacity and depth"
abbrev pub roomy : Table → Bool
roomy t = leb (length t.waiting) t.setup.capacity && leb (length t.flight) t.setup.depth

-- "the time is at most the ceiling"
abbrev pub timely : Table → Bool
timely t = leb t.time ceiling

-- "every entry's guest exists"
abbrev pub known : Table → Bool
known t = all (λ f. ltb f.guest (length t.guests)) (names t)

-- "no guest has one id twice among waiting and in flight"
unfoldable pub distinct : List Flight → Bool
distinct [] = true
distinct (a ∷ l) = lacks a l && distinct l

-- "tags are at most the ceiling"
unfoldable pub lawful : Request → Bool
lawful q = leb q.rtag ceiling && leb q.ltag ceiling && leb q.stag ceiling

-- document 02, K8: "a cost from 1 to 64"
unfoldable pub fair : (cost : ℕ) → Bool
fair c = within 1 most_cost c

-- document 02, K14: a delta that is not "outside 1 to 65,535", and a rho that is not "above delta"
unfoldable pub spread : (delta rho : ℕ) → Bool
spread delta rho = within 1 most_delta delta && leb rho delta

-- K8: "a cost outside 1 to 64 is 18 .. one kept in a table is 3"
abbrev pub priced : Request → Bool
priced q = fair q.cost

-- "each later waiting request's tag .. is at least the earlier one's plus the spacing": the gap is asked between neighbours. K8: "each later tag lies at least the earlier one's cost times the
-- spacing further on", which is in the gap
abbrev pub apart : (tag gap : Request → ℕ) → List Request → Bool
apart tag gap [] = true
apart tag gap (q ∷ []) = true
apart tag gap (q ∷ p ∷ l) = leb (tag q + gap q) (tag p) && apart tag gap (p ∷ l)

-- "for a guest with something waiting, each next number it has is its last waiting tag plus the spacing; for an idle guest" it is bounded
abbrev pub follows : (tag spacing : Request → ℕ) → List Request → ℕ → Bool
follows tag spacing [] n = leb n idle_bound
follows tag spacing (q ∷ []) n = eqb n (tag q + spacing q)
follows tag spacing (q ∷ p ∷ l) n = follows tag spacing (p ∷ l) n

-- one kind of tag of a guest, of which the requests l wait, and its next number n of that kind: in order where the guest has the kind; where it
-- does not, "meaningless numbers .. are zero". The gap is asked between neighbours, the spacing leads to the next number: they differ for reservations only
unfoldable pub kept : (has : Bool) (tag gap spacing : Request → ℕ) → List Request → (next : ℕ) → Bool
kept true tag gap spacing l n = apart tag gap l && follows tag spacing l n
kept false tag gap spacing l n = eqb n 0 && all (λ q. eqb (tag q) 0) l

-- document 02, K14: "Soundness then asks only that a guest's reservation tags do not fall": no gap between them
abbrev pub no_gap : Request → ℕ
no_gap q = 0

-- all three kinds of the guest h, of which the requests l wait; every guest has share tags
unfoldable pub orderly : Guest → List Request → Bool
orderly h l =
    kept (reserved h.settings) Request.rtag no_gap (rspacing h.settings) l h.rnext
    && kept (limited h.settings) Request.ltag (lspacing h.settings) (lspacing h.settings) l h.lnext
    && kept true Request.stag (sspacing h.settings) (sspacing h.settings) l h.snext

-- the tags and next numbers of every guest are in order
abbrev pub ordered : Table → Bool
ordered t = below (length t.guests) (λ g. orderly (owner t.guests g) (mine g t.waiting))

-- "A table is sound when": all of it. That unused places are zero is a rule of the lent numbers, beside their view.
unfoldable pub sound : Table → Bool
sound t =
    ranges t && ruled t.setup.rule && roomy t && timely t && known t && distinct (names t) && all lawful t.waiting && all priced t.waiting
    && ordered t
