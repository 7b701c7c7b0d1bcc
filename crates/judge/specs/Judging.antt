-- Document 02, K10, as a definition that computes: what the judge answers to a trace and to another gate's lines. No line is taken apart: the lines either begin
-- with the printed line of something that may stand, or they are wrong. A printed line ends with byte 10 and has no other, so no other line begins with it.
-- That this is what Acceptable.antt says in plain facts, proofs/Exactly.antt shows.
use Rattle.std.specs.Prelude.{ℕ, ◌+◌, Bool, not, ◌&&◌, List, [], ◌∷◌, eqb, length, take, drop, if◌then◌else◌, Some, None, Option}
use Rattle.lists.specs.Words.{below}
use Rattle.rules.specs.Tables.{Request, Table, of}
use Rattle.rules.specs.Choice.{Result, Pick, nobody, picked, least, due, open?, room}
use Rattle.rules.specs.Chosen.{at, unsent, sent_by_reservation_at, sent_by_weight_at}
use Rattle.rules.specs.Events.{enter}
use Rattle.rules.specs.Refusals.{Verdict, accept, refuse, verdict}
use Rattle.rules.specs.declared.Event.{Event}
use Rattle.rules.specs.declared.Phase.{Phase}
use Rattle.rules.specs.declared.Phase.TheVariants.{Reservation, Weight}
use Rattle.rules.specs.declared.Refusal.TheVariants.{BadEvent, EventCut}
use Rattle.rules.specs.declared.Answer.TheVariants.{Sent}
use Rattle.gate.specs.Replies.{Four, four_of}
use Rattle.lines.specs.Line.{line_of}
use Rattle.trace.specs.Header.{same, header_of}
use Rattle.trace.specs.Answers.{opening}
use Rattle.judge.specs.Acceptable.{Asked, entire, cut_off, refusing, ours, asked, head_line, none_due, head_due}
use Rattle.judge.specs.declared.Judged.{Judged}

-- ONE LINE

-- the bytes ls begin with xs
abbrev pub begins : (xs ls : List ℕ) → Bool
begins xs ls = same xs (take (length xs) ls)

-- what the lines say: something that may stand, or they are wrong
pub data Heard : Type 0 where
  follows : Result → Heard
  wrong : Heard

-- where only the result r may stand: the lines begin with the line of event n with its answer, or they are wrong
unfoldable pub told : (n : ℕ) (ls : List ℕ) → Result → Heard
told n ls r = if begins (line_of n r.answer) ls then follows r else wrong

-- A PHASE

-- what a phase chooses from
abbrev pub ok_in : Phase → Table → Request → Bool
ok_in Reservation t = due t
ok_in Weight t = open? t

-- by the smallest of which tag
abbrev pub tag_in : Phase → Request → ℕ
tag_in Reservation = Request.rtag
tag_in Weight = Request.stag

-- the request at place i is sent in a phase
abbrev pub sent_at : Phase → Table → ℕ → Result
sent_at Reservation t i = sent_by_reservation_at t i
sent_at Weight t i = sent_by_weight_at t i

-- q may be chosen in a phase, and its tag is m
abbrev pub ties : Phase → Table → (m : ℕ) → Request → Bool
ties p t m q = ok_in p t q && eqb (tag_in p q) m

-- and the lines begin with the line of event n with its send
abbrev pub named : (n : ℕ) (ls : List ℕ) → Phase → Table → (m : ℕ) → Request → Bool
named n ls p t m q = ties p t m q && begins (line_of n (Sent p q.guest q.id)) ls

-- the first place from i on of which f tells
abbrev pub place_from : (Request → Bool) → (i : ℕ) → List Request → Option ℕ
place_from f i [] = None
place_from f i (q ∷ w) = if f q then Some i else place_from f (i + 1) w

-- no request before place i is of the guest of the one there: it is, by K10, "the first waiting of its guest"
unfoldable pub leads : List Request → (i : ℕ) → Bool
leads w i = below i (λ j. not (of (at w i).guest (at w j)))

-- the request at the place that was found is sent, where it is the first waiting of its guest: since K14 reservation tags of one guest may tie
abbrev pub sent_in : Phase → Table → Option ℕ → Heard
sent_in p t (Some i) = if leads t.waiting i then follows (sent_at p t i) else wrong
sent_in p t None = wrong

-- a phase that picks a request with tag m: any other that ties with it may go as well
unfoldable pub heard_in : (n : ℕ) (ls : List ℕ) → Phase → Table → (m : ℕ) → Heard
heard_in n ls p t m = sent_in p t (place_from (named n ls p t m) 0 t.waiting)

-- THE CHOICE, as document 01 has it

-- by weight, where that picks a request; else nothing is sent
abbrev pub heard_weight : (n : ℕ) (ls : List ℕ) → Table → Pick → Heard
heard_weight n ls t nobody = told n ls (unsent t)
heard_weight n ls t (picked q w) = heard_in n ls Weight t (tag_in Weight q)

-- by reservation, where that picks a request; else by weight
abbrev pub heard_reservation : (n : ℕ) (ls : List ℕ) → Table → Pick → Heard
heard_reservation n ls t nobody = heard_weight n ls t (least (open? t) Request.stag t.waiting)
heard_reservation n ls t (picked q w) = heard_in n ls Reservation t (tag_in Reservation q)

-- at a table with a place free the phases in turn; at a full one nothing is sent
unfoldable pub heard_choice : (n : ℕ) (ls : List ℕ) → Table → Heard
heard_choice n ls t = if room t then heard_reservation n ls t (least (due t) Request.rtag t.waiting) else told n ls (unsent t)

-- EACH THAT ASKS

-- by the verdict on an event: it enters, and the choice is made, or only its refusal may stand
abbrev pub heard_by : (n : ℕ) (ls : List ℕ) → Verdict → Table → Event → Heard
heard_by n ls accept t e = heard_choice n ls (enter t e)
heard_by n ls (refuse why) t e = told n ls (refusing t why)

-- what the lines say to what asks for the line of event n at the table t
unfoldable pub heard : (n : ℕ) (ls : List ℕ) → Table → Asked → Heard
heard n ls t (entire (Some e)) = heard_by n ls (verdict t e) t e
heard n ls t (entire None) = told n ls (refusing t BadEvent)
heard n ls t cut_off = told n ls (refusing t EventCut)

-- THE LINES

-- line n is the first that may not stand, and these four numbers were due there
abbrev pub wrong_at : (n : ℕ) → Four → Judged
wrong_at n d = record { line = n; kind = d.0; guest = d.1; id = d.2; refusal = d.3 }

-- all lines may stand
abbrev pub accepted : Judged
accepted = wrong_at 0 (0, 0, 0, 0)

-- where nothing asks any more for line n: no byte is left, or the line is surplus
abbrev pub ended : (n : ℕ) → List ℕ → Judged
ended n [] = accepted
ended n (b ∷ ls) = wrong_at n none_due

-- by what the lines say: go on, or end
abbrev pub onward : (Result → Judged) → Judged → Heard → Judged
onward f w (follows r) = f r
onward f w wrong = w

-- the lines from that of the event after n on, where those of xs ask, at the table t: event n + 1 has line n + 2
unfoldable pub judged_from : (n : ℕ) → Table → List Asked → (ls : List ℕ) → Judged
judged_from n t [] ls = ended (n + 2) ls
judged_from n t (x ∷ xs) ls =
    onward (λ r. judged_from (n + 1) r.table xs (drop (length (line_of (n + 1) r.answer)) ls)) (wrong_at (n + 2) (four_of (ours t x).answer)) (heard (n + 1) ls t x)

-- WHAT THE JUDGE ANSWERS to the trace bs and the lines ls
unfoldable pub judged_of : (bs ls : List ℕ) → Judged
judged_of bs ls =
    if begins (head_line bs) ls then judged_from 0 (opening bs) (asked bs) (drop (length (head_line bs)) ls) else wrong_at 1 (head_due (header_of bs))
