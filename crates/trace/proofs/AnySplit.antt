-- THE LAW OF THE TRACE: how the bytes were split between reads makes no difference to what is printed. Assumes nothing.
use Prim.Native.Nat.{ℕ, ◌≤◌}
use mathlib.Core.Path.{◌≡◌, refl, sym, ap, ◌∙◌}
use mathlib.Core.Bool.{Bool, true, false}
use mathlib.Core.List.{List, [], ◌∷◌, ◌++◌, append_assoc, append-nil}
use native.Mathlib.Omega.{arith}
use lib.Dec.{leb}
use lib.ListN.{length, drop}
use lib.Seq.{drop-append-le}
use borrow.Author.Tests.{leb-true}
use Rattle.lists.specs.Words.{if◌then◌else◌}
use Rattle.rules.specs.declared.Settings.{Settings}
use Rattle.rules.specs.Run.{fresh}
use Rattle.rules.proofs.Conditions.{counted_means}
use Rattle.lines.specs.Line.{title_line}
use Rattle.trace.specs.Header.{first_version, last_version, body, guests_of, settings_in, header_of, Header}
use Rattle.trace.specs.Printed.{finished, begun, printed_by, printed}
use Rattle.trace.specs.Reads.{joined, more, as_read, printed_first, printed_reads}
use Rattle.trace.specs.declared.Opened.{Opened}
use Rattle.trace.proofs.HeaderLaws.{Opens, opened}
use Rattle.trace.proofs.FirstRead.{longest, settings-same, header_same}
use Rattle.trace.proofs.Split.{reads_joined}
use Rattle.table.specs.Columns.{most_guests}
use Rattle.std.specs.Prelude.{Ok, Err}

-- a read that brought all
all_there : (h : Header) (bs : List ℕ) → printed_first h bs [] ≡ printed_by h bs
unfolding as_read
all_there (Err r) bs = refl
all_there (Ok o) bs = refl

-- where the events begin, the bytes behind the first read come in reads
begun_more : (h : Opened) (xs ys : List ℕ) → longest ≤ length xs → Opens first_version last_version xs h → more (begun h xs) ys ≡ begun h (xs ++ ys)
begun_more h xs ys long o =
    let few : guests_of xs ≤ most_guests = ((counted_means h.depth (guests_of xs) h.capacity).holds.0 (rw o.guests_is at o.counts)).guest-count.1 in
    ap (λ (l : List ℕ). record { version = h.version; bytes = l; table = fresh h.depth h.capacity h.rule (settings_in xs); number = 0 }) (sym (drop-append-le (body h.version h.guests) xs ys o.whole))
    ∙ ap (λ (ss : List Settings). record { version = h.version; bytes = drop (body h.version h.guests) (xs ++ ys); table = fresh h.depth h.capacity h.rule ss; number = 0 }) (sym (settings-same xs ys long few))

-- a first read that holds any header
first-there : (xs : List ℕ) (rs : List (List ℕ)) → longest ≤ length xs → (h : Header) → header_of xs ≡ h → printed_first h xs rs ≡ printed_by h (xs ++ joined rs)
first-there xs rs long (Err r) e = refl
first-there xs rs long (Ok o) e =
    ap (λ (l : List ℕ). title_line ++ l)
    (reads_joined rs (begun o xs) ∙ ap finished (begun_more o xs (joined rs) long (opened xs o e)))

any_reads : (room : ℕ) → longest ≤ room → (rs : List (List ℕ)) (bs : List ℕ) → printed_reads room bs rs ≡ printed (bs ++ joined rs)
unfolding printed_reads printed joined
any_reads room enough [] bs = rw append-nil (all_there (header_of bs) bs)
any_reads room enough (r ∷ rs) bs = go (leb room (length bs)) refl (any_reads room enough rs (bs ++ r))
  where
    go : (b : Bool) → leb room (length bs) ≡ b → printed_reads room (bs ++ r) rs ≡ printed ((bs ++ r) ++ joined rs) → (if leb room (length bs) then printed_first (header_of bs) bs (r ∷ rs) else printed_reads room (bs ++ r) rs) ≡ printed (bs ++ joined (r ∷ rs))
    go true e i =
        let long : longest ≤ length bs = omega (arith, leb-true room (length bs) e) in
        rw e
        (first-there bs (r ∷ rs) long (header_of bs) refl
        ∙ ap (λ (h : Header). printed_by h (bs ++ joined (r ∷ rs))) (sym (header_same bs (joined (r ∷ rs)) long)))
    go false e i = rw e (i ∙ ap printed (append_assoc bs r (joined rs)))

-- whatever the reads are, what is printed is what is printed of all their bytes; the header waits for `room` bytes, which hold any header
pub any_split : (room : ℕ) → longest ≤ room → (rs : List (List ℕ)) → printed_reads room [] rs ≡ printed (joined rs)
any_split room enough rs = any_reads room enough rs []

-- so two ways to split the same bytes, read through buffers of any two sizes, print the same
pub same_print : (room other : ℕ) → longest ≤ room → longest ≤ other → (qs rs : List (List ℕ)) → joined qs ≡ joined rs → printed_reads room [] qs ≡ printed_reads other [] rs
same_print room other h k qs rs e = any_split room h qs ∙ ap printed e ∙ sym (any_split other k rs)
