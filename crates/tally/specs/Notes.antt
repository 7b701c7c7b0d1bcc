-- What the functions of src/notes.rt and src/figures.rt do to the lent numbers.
use Rattle.std.specs.Prelude.{ℕ, suc, ◌+◌, ◌*◌, ◌/◌, ◌%◌, ◌^◌, max, Bool, List, [], ◌∷◌, map, slice_index, slice_set, if◌then◌else◌}
use Rattle.lists.specs.Stores.{stores}
use Rattle.lists.specs.Parts.{shut}
use Rattle.rules.specs.Tables.{same}
use Rattle.rules.specs.declared.Flight.{Flight}
use Rattle.rules.specs.declared.Phase.{Phase}
use Rattle.rules.specs.declared.Phase.TheVariants.{Reservation, Weight}
use Rattle.book.specs.Book.{called}
use Rattle.tally.specs.Columns.{note_wide, RESERVED, WEIGHED, AHEAD, UPPER, LOWER, LONGEST, figures_wide, figure_at}
use Rattle.tally.specs.Kept.{book_of}

-- THE BOOK

-- the numbers of a note: whose request, its id, the time of its acceptance, and its limit tag
abbrev pub note_line : (guest id since limited : ℕ) → List ℕ
note_line guest id since limited = guest ∷ id ∷ since ∷ limited ∷ []

-- the book once this note stands at this place
abbrev pub noted_at : ℕ → (note : List ℕ) → List ℕ → List ℕ
noted_at place note bk = stores (λ j. place * note_wide + j) (λ j. slice_index note j) note_wide bk

-- the place of the first of these names that is f, places counted from 0; where none is, how many they are
abbrev pub place_of : Flight → List Flight → ℕ
place_of f [] = 0
place_of f (a ∷ l) = if same f a then 0 else suc (place_of f l)

-- where the request named f stands among the first n notes
abbrev pub found_in : Flight → List ℕ → ℕ → ℕ
found_in f bk n = place_of f (map called (book_of bk n))

-- the book of n notes once the one at this place is struck
abbrev pub struck_at : (place n : ℕ) → List ℕ → List ℕ
struck_at place n bk = shut note_wide (place * note_wide) (n * note_wide) bk

-- THE FIGURES

-- the figures once number j of guest g is one more
abbrev pub one_more : (g j : ℕ) → List ℕ → List ℕ
one_more g j fg = slice_set fg (g * figures_wide + j) (figure_at fg g j + 1)

-- the six numbers of guest g that a send changes, which stand side by side: so many more sends by reservation, by weight, and ahead of the limit
-- tag, and the wait in the sum and in the longest
abbrev pub send_line : (g r w a wait : ℕ) → List ℕ → List ℕ
send_line g r w a wait fg =
    (figure_at fg g RESERVED + r) ∷ (figure_at fg g WEIGHED + w) ∷ (figure_at fg g AHEAD + a) ∷ (figure_at fg g UPPER + (figure_at fg g LOWER + wait) / 2 ^ 64) ∷ ((figure_at fg g LOWER + wait) % 2 ^ 64)
    ∷ max (figure_at fg g LONGEST) wait
    ∷ []

-- the figures once they are stored
abbrev pub sent_at : (g r w a wait : ℕ) → List ℕ → List ℕ
sent_at g r w a wait fg = stores (λ j. g * figures_wide + (RESERVED + j)) (λ j. slice_index (send_line g r w a wait fg) j) 6 fg

-- the figures once a send by this phase is counted, whose limit tag lay ahead or not
abbrev pub sent_for : Phase → (g : ℕ) (ahead : Bool) (wait : ℕ) → List ℕ → List ℕ
sent_for Reservation g ahead wait fg = sent_at g 1 0 (if ahead then 1 else 0) wait fg
sent_for Weight g ahead wait fg = sent_at g 0 1 0 wait fg
