-- A torn trace of version 2, with an event for each reason: what comes out of it and the list, byte by byte. Assumes nothing.
use Prim.Native.Nat.{ℕ}
use mathlib.Core.Path.{◌≡◌, refl}
use mathlib.Core.List.{List, [], ◌∷◌}
use Rattle.trace.specs.Header.{body}
use Rattle.trace.specs.Event.{kind_in, upper_in, event_from, event_of}
use Rattle.salvage.specs.Fates.{fate_of, last_at}
use Rattle.salvage.specs.Result.{kept_of, rows_of, salvaged, flat, list_of}

-- depth 4, one guest (reservation 100, limit 250, shares 1, credit 0), capacity 8, rule 1. Of the events, numbered from 1:
-- 1 is an arrival of cost 3 a second past the hour, the first that is kept, so free of 3 and 4; 2 has kind 3; 3 is a tick above the ceiling; 4 one at a second, behind 1;
-- 5 one that is 3,600 seconds and a nanosecond ahead of 1; 6 one just 3,600 seconds ahead of it, which is kept; 7 is a completion with a non-zero upper part; 8 one 3,600
-- seconds ahead of 6, which is kept; of 9 there are three bytes
abbrev pub torn : List ℕ
torn =
    83 ∷ 71 ∷ 81 ∷ 2 ∷ 0 ∷ 4 ∷ 1 ∷ 8 ∷ 0 ∷ 1
    ∷ 100 ∷ 0 ∷ 0 ∷ 0 ∷ 250 ∷ 0 ∷ 0 ∷ 0 ∷ 1 ∷ 0 ∷ 0 ∷ 0 ∷ 0 ∷ 0
    ∷ 8 ∷ 0 ∷ 1 ∷ 0 ∷ 0 ∷ 0 ∷ 0 ∷ 106 ∷ 83 ∷ 108 ∷ 70 ∷ 3 ∷ 0 ∷ 0
    ∷ 3 ∷ 0 ∷ 1 ∷ 0 ∷ 0 ∷ 0 ∷ 0 ∷ 106 ∷ 83 ∷ 108 ∷ 70 ∷ 3 ∷ 0 ∷ 0
    ∷ 2 ∷ 0 ∷ 0 ∷ 0 ∷ 0 ∷ 0 ∷ 0 ∷ 0 ∷ 0 ∷ 0 ∷ 0 ∷ 0 ∷ 0 ∷ 64
    ∷ 2 ∷ 0 ∷ 0 ∷ 0 ∷ 0 ∷ 0 ∷ 0 ∷ 202 ∷ 154 ∷ 59 ∷ 0 ∷ 0 ∷ 0 ∷ 0
    ∷ 2 ∷ 0 ∷ 0 ∷ 0 ∷ 0 ∷ 0 ∷ 1 ∷ 10 ∷ 12 ∷ 157 ∷ 140 ∷ 6 ∷ 0 ∷ 0
    ∷ 2 ∷ 0 ∷ 0 ∷ 0 ∷ 0 ∷ 0 ∷ 0 ∷ 10 ∷ 12 ∷ 157 ∷ 140 ∷ 6 ∷ 0 ∷ 0
    ∷ 5 ∷ 0 ∷ 1 ∷ 0 ∷ 0 ∷ 0 ∷ 0 ∷ 10 ∷ 12 ∷ 157 ∷ 140 ∷ 6 ∷ 0 ∷ 0
    ∷ 1 ∷ 0 ∷ 1 ∷ 0 ∷ 0 ∷ 0 ∷ 0 ∷ 170 ∷ 196 ∷ 205 ∷ 210 ∷ 9 ∷ 0 ∷ 0
    ∷ 2 ∷ 0 ∷ 0 ∷ []

-- the header, the record, and the events 1, 6 and 8
abbrev pub mended : List ℕ
mended =
    83 ∷ 71 ∷ 81 ∷ 2 ∷ 0 ∷ 4 ∷ 1 ∷ 8 ∷ 0 ∷ 1
    ∷ 100 ∷ 0 ∷ 0 ∷ 0 ∷ 250 ∷ 0 ∷ 0 ∷ 0 ∷ 1 ∷ 0 ∷ 0 ∷ 0 ∷ 0 ∷ 0
    ∷ 8 ∷ 0 ∷ 1 ∷ 0 ∷ 0 ∷ 0 ∷ 0 ∷ 106 ∷ 83 ∷ 108 ∷ 70 ∷ 3 ∷ 0 ∷ 0
    ∷ 2 ∷ 0 ∷ 0 ∷ 0 ∷ 0 ∷ 0 ∷ 0 ∷ 10 ∷ 12 ∷ 157 ∷ 140 ∷ 6 ∷ 0 ∷ 0
    ∷ 1 ∷ 0 ∷ 1 ∷ 0 ∷ 0 ∷ 0 ∷ 0 ∷ 170 ∷ 196 ∷ 205 ∷ 210 ∷ 9 ∷ 0 ∷ 0 ∷ []

pub torn-salvaged : salvaged torn ≡ mended
unfolding body kind_in upper_in event_from event_of fate_of last_at kept_of salvaged
torn-salvaged = refl

-- event number and reason
pub torn_list : list_of torn ≡ 2 ∷ 1 ∷ 3 ∷ 2 ∷ 4 ∷ 3 ∷ 5 ∷ 4 ∷ 7 ∷ 1 ∷ 9 ∷ 5 ∷ []
unfolding body kind_in upper_in event_from event_of fate_of last_at rows_of flat
torn_list = refl
