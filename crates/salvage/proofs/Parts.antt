-- The parts of a trace that are put into the room one behind the other. Assumes nothing.
use Prim.Native.Nat.{ℕ, ◌+◌, ◌-◌, ◌*◌, ◌≤◌}
use mathlib.Core.Path.{◌≡◌, sym, ap, ◌∙◌}
use mathlib.Core.List.{List, ◌++◌}
use native.Mathlib.Omega.{arith}
use lib.ListN.{length, take, drop, length-append, length-drop}
use lib.Seq.{length-take-le, take-add, take_all}
use Rattle.trace.specs.Header.{mark, body, version_of, guests_of}
use Rattle.trace.specs.Answers.{event_bytes}
use Rattle.salvage.specs.Result.{kept_of, rows_of, event_count, kept_in, rows_in, salvaged, list_of}
use Rattle.salvage.specs.Judging.{Tallied, Begun}
use Rattle.salvage.proofs.Counts.{length-flat, kept-fits}

-- the header and the records: the mark and the rest
pub head_part : (bs : List ℕ) (end : ℕ) → take 3 bs ≡ mark → 3 ≤ end → take end bs ≡ mark ++ take (end - 3) (drop 3 bs)
head_part bs end m h =
    let n : end ≡ 3 + (end - 3) = omega arith in
    ap (λ (k : ℕ). take k bs) n ∙ take-add 3 (end - 3) bs ∙ ap (λ (l : List ℕ). l ++ take (end - 3) (drop 3 bs)) m

-- the bytes of the events, as a part of the trace
pub rest_part : (v at : ℕ) (bs : List ℕ) → Begun v at bs → take (length bs - at) (drop at bs) ≡ event_bytes bs
rest_part v at bs b = take_all (length bs - at) (drop at bs) (omega (arith, length-drop at bs)) ∙ ap (λ (k : ℕ). drop k bs) b.at_is

-- how long what comes out is
pub length-salvaged : (bs : List ℕ) → body (version_of bs) (guests_of bs) ≤ length bs → length (salvaged bs) ≡ body (version_of bs) (guests_of bs) + length (kept_in bs)
unfolding salvaged
length-salvaged bs fits =
    length-append (take (body (version_of bs) (guests_of bs)) bs) (kept_in bs)
    ∙ ap (λ (n : ℕ). n + length (kept_in bs)) (length-take-le (body (version_of bs) (guests_of bs)) bs fits)

-- WHAT IS WRITTEN of a trace whose events begin at a place

module _ (v at : ℕ) (bs : List ℕ) (b : Begun v at bs) where
  abbrev pub part : List ℕ
  part = take (length bs - at) (drop at bs)

  pub kept_there : kept_of v part (event_count part) ≡ kept_in bs
  kept_there = λ i. kept_of (b.version_is i) (rest_part v at bs b i) (event_count (rest_part v at bs b i))

  pub rows-there : rows_of v part (event_count part) ≡ rows_in bs
  rows-there = λ i. rows_of (b.version_is i) (rest_part v at bs b i) (event_count (rest_part v at bs b i))

  pub whole-there : take at bs ++ kept_of v part (event_count part) ≡ salvaged bs
  unfolding salvaged
  whole-there = λ i. take (b.at_is i) bs ++ kept_there i

  pub long_there : length (salvaged bs) ≡ at + length (kept_of v part (event_count part))
  long_there =
      let e : body (version_of bs) (guests_of bs) ≡ at = sym b.at_is in
      omega (arith, length-salvaged bs (omega (arith, b.whole)), ap length kept_there)

  -- it is no longer than the trace
  pub salvaged-fits : length (salvaged bs) ≤ length bs
  salvaged-fits = omega (arith, long_there, kept-fits v part (event_count part), ap length (rest_part v at bs b), length-drop at bs, b.whole, ap (λ (k : ℕ). length (drop k bs)) b.at_is)

  -- so by a tally
  module _ (bytes rows : ℕ) (t : Tallied v part bytes rows) where
    pub tally_bytes : at + bytes ≡ length (salvaged bs)
    tally_bytes = omega (arith, long_there, t.bytes_is)

    pub tally_rows : rows ≡ length (rows_in bs)
    tally_rows = t.rows_is ∙ ap length rows-there

    pub tally_list : rows * 2 ≡ length (list_of bs)
    tally_list = omega (arith, tally_rows, length-flat (rows_in bs))
