-- Document 02, K10, in plain facts: "Accept its lines exactly when each send was of a smallest tag in the right phase, the first waiting of its guest, a send
-- was made wherever one was due, and refusals agree; the tables follow its choices, not ours. Otherwise give the number of the first wrong, missing or
-- surplus line, the header line being 1." Words in quotes are K10's. The table is that of another gate throughout: what it says that it sent, it sent.
use Rattle.std.specs.Prelude.{ℕ, ◌+◌, ◌*◌, ◌≤◌, ◌<◌, ◌≡◌, Bool, true, List, [], ◌∷◌, ◌++◌, map, length, take, drop, Some, None, Ok, Err}
use Rattle.rules.specs.Tables.{Request, Table}
use Rattle.rules.specs.Choice.{Result, due, open?}
use Rattle.rules.specs.Chosen.{at, NoneIs, unsent, sent_by_reservation_at, sent_by_weight_at}
use Rattle.rules.specs.Events.{enter}
use Rattle.rules.specs.Refusals.{Verdict, accept, refuse, verdict}
use Rattle.rules.specs.declared.Event.{Event}
use Rattle.rules.specs.declared.Refusal.{Refusal}
use Rattle.rules.specs.declared.Refusal.TheVariants.{BadEvent, EventCut}
use Rattle.rules.specs.declared.Answer.TheVariants.{Refused}
use Rattle.gate.specs.Replies.{Four, four_of}
use Rattle.lines.specs.Line.{line_of, refusal_line, title_line}
use Rattle.trace.specs.Header.{version_of, header_of, Header}
use Rattle.trace.specs.Event.{whole, Read}
use Rattle.trace.specs.Printed.{answered, lines_from}
use Rattle.trace.specs.Answers.{event_bytes, opening, reads_of}

-- WHAT ANOTHER GATE MAY SEND

-- of the requests that are ok, place i has one "of a smallest tag", which is "the first waiting of its guest"; between guests ties go as it likes
pub record MayGo (ok : Request → Bool) (tag : Request → ℕ) (w : List Request) (i : ℕ) : Type 0 where
  pub inside : i < length w
  pub good : ok (at w i) ≡ true
  pub smallest : (j : ℕ) → j < length w → ok (at w j) ≡ true → tag (at w i) ≤ tag (at w j)
  pub first : (j : ℕ) → j < i → (at w j).guest ≡ (at w i).guest → ⊥

-- r is what another gate may come to at the table t, once an event has entered: "in the right phase", and "a send was made wherever one was due". It is
-- what `Chosen` asks of ours, but for ties
pub data MayChoose (t : Table) (r : Result) : Type 0 where
  full : t.setup.depth ≤ length t.flight → r ≡ unsent t → MayChoose t r
  reservation : (i : ℕ) → length t.flight < t.setup.depth → MayGo (due t) Request.rtag t.waiting i → r ≡ sent_by_reservation_at t i → MayChoose t r
  weight : (i : ℕ) → length t.flight < t.setup.depth → NoneIs (due t) t.waiting → MayGo (open? t) Request.stag t.waiting i → r ≡ sent_by_weight_at t i → MayChoose t r
  nothing : length t.flight < t.setup.depth → NoneIs (due t) t.waiting → NoneIs (open? t) t.waiting → r ≡ unsent t → MayChoose t r

-- WHAT ASKS FOR A LINE

-- a whole event as it was read, or a last one that is cut short
pub data Asked : Type 0 where
  entire : Read → Asked
  cut_off : Asked

-- a refusal, the table as it stood
abbrev pub refusing : Table → Refusal → Result
refusing t why = record { table = t; answer = Refused why }

-- what may follow from a verdict: "refusals agree"
abbrev pub MayDecide : Verdict → Table → Event → Result → Type 0
MayDecide accept t e r = MayChoose (enter t e) r
MayDecide (refuse why) t e r = r ≡ refusing t why

-- r is what another gate may come to at the table t and what asks for a line there
abbrev pub May : Table → Asked → Result → Type 0
May t (entire (Some e)) r = MayDecide (verdict t e) t e r
May t (entire None) r = r ≡ refusing t BadEvent
May t cut_off r = r ≡ refusing t EventCut

-- what our rules come to there, by document 01 "ties to the earlier accepted"
abbrev pub ours : Table → Asked → Result
ours t (entire e) = answered t e
ours t cut_off = refusing t EventCut

-- a last event that is cut short, of which these bytes are there
abbrev pub cut_asked : List ℕ → List Asked
cut_asked [] = []
cut_asked (b ∷ bs) = cut_off ∷ []

-- all that asks for a line among the bytes of the events of a trace of this version
abbrev pub asked_from : (version : ℕ) → List ℕ → List Asked
asked_from v bs = map entire (reads_of v bs) ++ cut_asked (drop (whole bs * 14) bs)

-- all that asks for a line in a trace with this header, behind the header line; behind a bad header nothing does
abbrev pub asked_by : Header → List ℕ → List Asked
asked_by (Err r) bs = []
asked_by (Ok o) bs = asked_from (version_of bs) (event_bytes bs)

-- all that asks for a line in a trace
abbrev pub asked : List ℕ → List Asked
asked bs = asked_by (header_of bs) bs

-- the first line of a trace with this header: the header line, or the one line of a bad header
abbrev pub head_by : Header → List ℕ
head_by (Err r) = refusal_line r
head_by (Ok o) = title_line

-- the first line of a trace
abbrev pub head_line : List ℕ → List ℕ
head_line bs = head_by (header_of bs)

-- THE LINES

-- each of these results may stand, from the table t on, one for each that asks: "the tables follow its choices"
abbrev pub Stands : Table → List Asked → List Result → Type 0
Stands t [] [] = Unit {0}
Stands t [] (r ∷ rs) = ⊥
Stands t (x ∷ xs) [] = ⊥
Stands t (x ∷ xs) (r ∷ rs) = May t x r × Stands r.table xs rs

-- the lines of these results, behind the header line
abbrev pub lines_of : List Result → List ℕ
lines_of rs = lines_from 0 (map Result.answer rs)

-- the lines ls of another gate are right for the trace bs: the header line, and a line for each that asks, all of which may stand
pub record Acceptable (bs ls : List ℕ) : Type 0 where
  pub results : List Result
  pub stand : Stands (opening bs) (asked bs) results
  pub lines : ls ≡ head_line bs ++ lines_of results

-- the bytes ls begin with xs
pub record Begins (xs ls : List ℕ) : Type 0 where
  pub rest : List ℕ
  pub split : ls ≡ xs ++ rest

-- the table after these results, from the table t on
abbrev pub last_of : Table → List Result → Table
last_of t [] = t
last_of t (r ∷ rs) = last_of r.table rs

-- where no line is due any more
abbrev pub none_due : Four
none_due = (4, 0, 0, 0)

-- the four numbers of what was due where the header line is wrong: a bad header's refusal; a header line itself is no answer
abbrev pub head_due : Header → Four
head_due (Err r) = four_of (Refused r)
head_due (Ok o) = (0, 0, 0, 0)

-- what is amiss with the bytes from the line of event n on, where those of xs ask, at the table u: the line of none that may stand is there, "wrong" or
-- "missing", or bytes are, though nothing asks, "surplus". The four numbers are those of what was due: what our rules come to at u
abbrev pub Amiss : Table → (n : ℕ) → List Asked → (rest : List ℕ) → Four → Type 0
Amiss u n [] rest d = (rest ≡ [] → ⊥) × (d ≡ none_due)
Amiss u n (x ∷ xs) rest d = ((r : Result) → May u x r → Begins (line_of n r.answer) rest → ⊥) × (d ≡ four_of (ours u x).answer)

-- line n of ls is the first that may not stand, "the header line being 1", and d was due there: the header line is wrong, or it and the lines of the results rs may
-- all stand, each after those before it, and what follows is amiss
pub data FirstWrong (bs ls : List ℕ) (n : ℕ) (d : Four) : Type 0 where
  heading : n ≡ 1 → (Begins (head_line bs) ls → ⊥) → d ≡ head_due (header_of bs) → FirstWrong bs ls n d
  later : (rs : List Result) (rest : List ℕ) → n ≡ length rs + 2 → Stands (opening bs) (take (length rs) (asked bs)) rs
      → ls ≡ head_line bs ++ (lines_of rs ++ rest) → Amiss (last_of (opening bs) rs) (length rs + 1) (drop (length rs) (asked bs)) rest d → FirstWrong bs ls n d
